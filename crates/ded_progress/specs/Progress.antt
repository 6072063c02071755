-- Statements and commands that the rules give a reply.
use Rattle.std.specs.Prelude.{◌≡◌, ◌≢◌, false}
use Rattle.ded_lex.specs.Pieces.{Statement}
use Rattle.ded_model.specs.declared.command.Language.{Language}
use Rattle.ded_model.specs.declared.command.Refusal.TheVariants.{Memory}
use Rattle.ded_model.specs.Catalogue.{Catalogue}
use Rattle.ded_model.specs.Command.{CommandForm, query, box_of, disjoint}
use Rattle.ded_model.specs.Entries.{tuples_in}
use Rattle.ded_model.specs.Measure.{IsTight}
use Rattle.ded_cert.specs.Pairs.{pairs_of, IsWide, SomePair}
use Rattle.ded_session.specs.Replies.{ReplyForm, refused, is_refusal}
use Rattle.ded_session.specs.Steps.{Does, MayBeWide, Step}

-- the command may get a reply that is no refusal, and then makes the next catalogue
pub record IsDone (c : Catalogue) (x : CommandForm) : Type 0 where
  pub reply : ReplyForm
  pub next : Catalogue
  pub does : Does x c reply next
  pub answer : is_refusal reply ≡ false

-- the statement may get a reply that is no refusal
pub record IsAnswered (language : Language) (c : Catalogue) (s : Statement) : Type 0 where
  pub reply : ReplyForm
  pub next : Catalogue
  pub step : Step language c s reply next
  pub answer : is_refusal reply ≡ false

-- the statement may get a reply other than that memory is wanted
pub record HasReply (language : Language) (c : Catalogue) (s : Statement) : Type 0 where
  pub reply : ReplyForm
  pub next : Catalogue
  pub step : Step language c s reply next
  pub other : reply ≢ refused Memory

-- the command asks for the tuples of a formula that is tight
abbrev pub IsTightQuery : Catalogue → CommandForm → Type 0
IsTightQuery c (query h f) = IsTight c h f
IsTightQuery c _ = ⊥

-- it asks for the tuples of a formula that isn't tight; for the box of a relation that isn't narrow for it and of which some stored row is
-- no order row; or for certificates of two relations of which some pair of tuples is wide
abbrev pub IsTooWide : Catalogue → CommandForm → Type 0
IsTooWide c (query h f) = MayBeWide (query h f) c
IsTooWide c (box_of n) = MayBeWide (box_of n) c
IsTooWide c (disjoint n m) = SomePair IsWide (pairs_of (tuples_in c n) (tuples_in c m))
IsTooWide c _ = ⊥

-- neither, so it is no query
pub record IsAnswerable (c : Catalogue) (x : CommandForm) : Type 0 where
  pub other : IsTightQuery c x → ⊥
  pub narrow : IsTooWide c x → ⊥
