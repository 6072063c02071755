-- What becomes of the list of a kept view over statements one after another.
use Rattle.std.specs.Prelude.{◌≡◌, ◌⊎◌, ℕ, Bool, true, false, List, [], ◌∷◌}
use Rattle.std.specs.Str.{bytes_eq}
use Rattle.ded_lex.specs.declared.piece.Piece.{Piece}
use Rattle.ded_lex.specs.declared.piece.Piece.TheVariants as piece
use Rattle.ded_model.specs.declared.command.Language.{Language}
use Rattle.ded_model.specs.declared.command.Refusal.TheVariants.{Memory}
use Rattle.ded_model.specs.Catalogue.{Catalogue}
use Rattle.ded_model.specs.Command.{CommandForm, insert, delete, keep}
use Rattle.ded_syntax.specs.Spelling.{Spells}
use Rattle.ded_views.specs.Reaching.{reaches}
use Rattle.ded_database.specs.State.{State, catalogue_at, IsSound}
use Rattle.ded_session.specs.Keeping.{UpholdsStatement}
use Rattle.ded_session.specs.Pieces.{StepsPiece, GoesOnPiece}
use Rattle.ded_session.specs.Replies.{ReplyForm, done, number, refused}

-- a piece, whole, long or cut, its reply, the state that it leaves, and the language of the next one
pub record Turn : Type 0 where
  pub piece : Piece
  pub reply : ReplyForm
  pub left : State
  pub next : Language

-- one step of the rules, over a state that is sound, to one that is
pub record IsTurn (language : Language) (s : State) (x : Turn) : Type 0 where
  pub step : StepsPiece x.piece language (catalogue_at s) x.reply (catalogue_at x.left)
  pub upholds : UpholdsStatement x.piece language x.reply s x.left
  pub sound : IsSound x.left
  pub goes_on : GoesOnPiece language x.piece x.next

-- each is a turn in the language and over the state that the one before it left, the first one in this language and
-- over this state
abbrev pub AreTurns : Language → State → List Turn → Type 0
AreTurns language s [] = Unit {0}
AreTurns language s (x ∷ xs) = IsTurn language s x × AreTurns x.next x.left xs

-- the state that the last turn leaves; this one where there is none
abbrev pub last_state : State → List Turn → State
last_state s [] = s
last_state s (x ∷ xs) = last_state x.left xs

-- ---- statements that concern the view v

-- an accepted `keep` of the view, or an accepted insert or delete in a relation that it reaches, has its list made
abbrev pub renews : Catalogue → CommandForm → ReplyForm → List ℕ → Bool
renews c (keep n) done v = bytes_eq v n
renews c (insert n fs) (number k) v = reaches c v n
renews c (delete n k) done v = reaches c v n
renews c _ _ v = false

-- an insert or delete there that is refused as out of memory may lose it
abbrev pub loses : Catalogue → CommandForm → ReplyForm → List ℕ → Bool
loses c (insert n fs) (refused Memory) v = reaches c v n
loses c (delete n k) (refused Memory) v = reaches c v n
loses c _ _ v = false

-- the bytes spell a command that passes the test
pub record SpellsSome (language : Language) (bytes : List ℕ) (test : CommandForm → Bool) : Type 0 where
  pub command : CommandForm
  pub depth : ℕ
  pub spells : Spells language bytes command depth
  pub passes : test command ≡ true

-- those of a whole piece do; a long and a cut one spell none
abbrev pub PieceSpells : Language → Piece → (CommandForm → Bool) → Type 0
PieceSpells language (piece.Whole bytes) test = SpellsSome language bytes.now test
PieceSpells language piece.Long test = ⊥
PieceSpells language piece.Cut test = ⊥

-- the turn's piece spells a command that has the list of the view made
abbrev pub Renews : Language → State → Turn → List ℕ → Type 0
Renews language s x v = PieceSpells language x.piece (λ command. renews (catalogue_at s) command x.reply v)

-- the turn's piece spells a command that may lose the list of the view
abbrev pub Loses : Language → State → Turn → List ℕ → Type 0
Loses language s x v = PieceSpells language x.piece (λ command. loses (catalogue_at s) command x.reply v)

-- ---- statements one after another

-- none of them has the list made
abbrev pub NoneRenews : Language → State → List Turn → List ℕ → Type 0
NoneRenews language s [] v = Unit {0}
NoneRenews language s (x ∷ xs) v = (Renews language s x v → ⊥) × NoneRenews x.next x.left xs v

-- one of them may have lost the list, and none after that one had it made
abbrev pub IsLost : Language → State → List Turn → List ℕ → Type 0
IsLost language s [] v = ⊥
IsLost language s (x ∷ xs) v = (Loses language s x v × NoneRenews x.next x.left xs v) ⊎ IsLost x.next x.left xs v
