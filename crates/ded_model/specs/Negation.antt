-- The pieces of a negation, over atoms of any kind.
use Rattle.std.specs.Prelude.{Bool, false, ◌&&◌, ◌||◌}
use Rattle.ded_model.specs.declared.tuple.Negated.{Negated}
use Rattle.ded_model.specs.declared.tuple.Negated.TheVariants.{One, Two}
use Rattle.ded_model.specs.Point.{Point}

-- P holds of each piece
abbrev pub EachPiece : {A : Type 0} → (A → Type 0) → Negated A → Type 0
EachPiece P (One a) = P a
EachPiece P (Two a b) = P a × P b

-- the point satisfies some piece
abbrev pub some_piece_holds : {A : Type 0} → (A → Point → Bool) → Negated A → Point → Bool
some_piece_holds holds (One a) p = holds a p
some_piece_holds holds (Two a b) p = holds a p || holds b p

-- it satisfies two of them
abbrev pub both_pieces_hold : {A : Type 0} → (A → Point → Bool) → Negated A → Point → Bool
both_pieces_hold holds (One a) p = false
both_pieces_hold holds (Two a b) p = holds a p && holds b p
