-- What a statement makes of kept views: of their marks, and of the lists that are held of them.
use Rattle.std.specs.Prelude.{ℕ, List}
use Rattle.ded_lex.specs.declared.piece.Piece.{Piece}
use Rattle.ded_lex.specs.declared.piece.Piece.TheVariants as piece
use Rattle.ded_model.specs.declared.command.Language.{Language}
use Rattle.ded_model.specs.declared.command.Refusal.TheVariants.{Memory}
use Rattle.ded_model.specs.Command.{CommandForm, insert, delete, drop, keep}
use Rattle.ded_syntax.specs.Spelling.{Spells}
use Rattle.ded_database.specs.State.{State, catalogue_at, is_kept}
use Rattle.ded_database.specs.Steps.{KeepsMarks, KeepsLists, Marks, Unmarks}
use Rattle.ded_database.specs.Upkeep.{KeepsUp, LeavesOthers, OnlyAdds}
use Rattle.ded_session.specs.Replies.{ReplyForm, done, number, refused}

-- lists of views that don't reach the relation are held as before
abbrev pub LosesLists : State → State → List ℕ → Type 0
LosesLists s t n = KeepsMarks s t × LeavesOthers (catalogue_at s) n s.held t.held

-- each kept view that reaches the relation and whose formula is tight has a list afterwards, and the others are held as before
abbrev pub KeepsUpLists : State → State → List ℕ → Type 0
KeepsUpLists s t n = KeepsMarks s t × KeepsUp (catalogue_at s) (catalogue_at t) n (is_kept s) s.held t.held

-- `keep` marks a view, and `drop` takes its mark and its list away. What changes a relation brings lists up to date, and where memory is
-- wanted lists may be gone of the views that reach it. Nothing else changes marks or lists.
abbrev pub Upholds : CommandForm → ReplyForm → State → State → Type 0
Upholds (keep n) done s t = Marks s t n
Upholds (drop n) done s t = Unmarks s t n
Upholds (insert n fs) (number k) s t = KeepsUpLists s t n × OnlyAdds (catalogue_at s) n s.held t.held
Upholds (insert n fs) (refused Memory) s t = LosesLists s t n
Upholds (delete n k) done s t = KeepsUpLists s t n
Upholds (delete n k) (refused Memory) s t = LosesLists s t n
Upholds _ _ s t = KeepsLists s t

-- the same of the command that a piece spells; where it spells none, nothing is changed
pub record UpholdsPiece (language : Language) (piece : List ℕ) (reply : ReplyForm) (s t : State) : Type 0 where
  pub spelled : (command : CommandForm) (depth : ℕ) → Spells language piece command depth → Upholds command reply s t
  pub other : ((command : CommandForm) (depth : ℕ) → Spells language piece command depth → ⊥) → KeepsLists s t

-- a whole piece; a long one and a cut one change nothing
abbrev pub UpholdsStatement : Piece → Language → ReplyForm → State → State → Type 0
UpholdsStatement (piece.Whole bytes) language reply s t = UpholdsPiece language bytes.now reply s t
UpholdsStatement piece.Long language reply s t = KeepsLists s t
UpholdsStatement piece.Cut language reply s t = KeepsLists s t
