-- What is written of a reply as a table, and what one session may answer so.
use Rattle.std.specs.Prelude.{◌≡◌, ◌⊎◌, ℕ, Bool, true, false, List}
use Rattle.std.specs.List.{AllByRecursion}
use Rattle.ded_dialogue.specs.Replies.{Said}
use Rattle.ded_lex.specs.Pieces.{Statement}
use Rattle.ded_model.specs.declared.command.Refusal.TheVariants.{Memory}
use Rattle.ded_model.specs.Catalogue.{tuples_of}
use Rattle.ded_model.specs.Known.{IsTupleOver}
use Rattle.ded_cells.specs.Tables.{IsAnswerTable, IsStoredTable}
use Rattle.ded_run.specs.OneSession.{MayReply, Standing, said_of}
use Rattle.ded_session.specs.Replies.{ReplyForm, tuples, stored, refused}

-- whether the reply is an answer with tuples, or the tuples of a relation
abbrev pub has_tuples : ReplyForm → Bool
has_tuples (tuples h ts) = true
has_tuples (stored h ts) = true
has_tuples _ = false

-- the tuples of the reply are normal and over its columns
abbrev pub IsOver : ReplyForm → Type 0
IsOver (tuples h ts) = AllByRecursion (IsTupleOver h) ts
IsOver (stored h ts) = AllByRecursion (IsTupleOver h) (tuples_of ts)
IsOver _ = Unit {0}

-- the text is the table of the reply's tuples
abbrev pub IsTableOf : ReplyForm → List ℕ → Type 0
IsTableOf (tuples h ts) text = IsAnswerTable h ts text
IsTableOf (stored h ts) text = IsStoredTable h ts text
IsTableOf _ text = ⊥

-- the table, or the refusal where there is no memory for it
abbrev pub IsTableOrNone : (List ℕ → Type 0) → Said → Type 0
IsTableOrNone IsText said = (IsText said.text × (said.refuses ≡ false)) ⊎ (said ≡ said_of (refused Memory))

-- tuples are written as a table, and every other reply as it is
abbrev pub IsTabled : ReplyForm → Said → Type 0
IsTabled (tuples h ts) said = IsTableOrNone (IsAnswerTable h ts) said
IsTabled (stored h ts) said = IsTableOrNone (IsStoredTable h ts) said
IsTabled reply said = said ≡ said_of reply

-- The statement may get a reply, of which this is written.
pub record MayTable (m : Standing) (s : Statement) (said : Said) (n : Standing) : Type 0 where
  pub reply : ReplyForm
  pub step : MayReply m s reply n
  pub is : IsTabled reply said
