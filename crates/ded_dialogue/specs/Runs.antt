-- Which replies an input may get, where it is known which a statement may get.
use Rattle.std.specs.Prelude.{◌≡◌, ◌<◌, ◌≤◌, ℕ, List, [], ◌∷◌, length}
use Rattle.ded_lex.specs.declared.piece.Piece.{Piece}
use Rattle.ded_lex.specs.declared.piece.Piece.TheVariants as piece
use Rattle.ded_lex.specs.Pieces.{Statement, Whole, AreStatements, statement_bytes}
use Rattle.ded_lex.specs.Pieces as pieces
use Rattle.ded_dialogue.specs.Replies.{Said}

-- what may be answered: the state before, a statement, its reply, and the state behind it
abbrev pub Answers : Type 0 → Type 1
Answers M = M → Statement → Said → M → Type 0

-- one reply for each statement, in order, each in the state that those before it left
abbrev pub Steps : {M : Type 0} → Answers M → M → List Statement → List Said → M → Type 0
Steps R m [] [] n = n ≡ m
Steps R m [] (reply ∷ replies) n = ⊥
Steps R m (s ∷ ss) [] n = ⊥
Steps {M} R m (s ∷ ss) (reply ∷ replies) n = (next : M) × R m s reply next × Steps R next ss replies n

-- The input may get these replies from this state on, and then leaves that one.
pub record Run {M : Type 0} (R : Answers M) (start : M) (input : List ℕ) (replies : List Said) (last : M) : Type 0 where
  pub statements : List Statement
  pub cut : AreStatements input statements
  pub steps : Steps R start statements replies last

-- some reply may be given to the statement
pub record SomeAnswer {M : Type 0} (R : Answers M) (m : M) (s : Statement) : Type 0 where
  pub reply : Said
  pub after : M
  pub is : R m s reply after

-- What a piece stands for: one statement where it is told whole, any that is so long, and any that is cut and isn't so long.
abbrev pub StandsFor : Piece → Statement → Type 0
StandsFor (piece.Whole bytes) s = s ≡ Whole bytes.now
StandsFor piece.Long s = 65536 < length (statement_bytes s)
StandsFor piece.Cut (Whole bytes) = ⊥
StandsFor piece.Cut (pieces.Unfinished rest) = length rest ≤ 65536
