-- The pieces of a negation, as atoms of two kinds.
use Rattle.std.proofs.Common.{◌≡◌, Bool, refl, sym, subst}
use Rattle.ded_model.specs.declared.tuple.BothAtom.{BothAtom}
use Rattle.ded_model.specs.declared.tuple.BothAtom.TheVariants.{First, Second}
use Rattle.ded_model.specs.declared.tuple.Negated.{Negated}
use Rattle.ded_model.specs.declared.tuple.Negated.TheVariants.{One, Two}
use Rattle.ded_model.specs.Point.{Point}
use Rattle.ded_model.specs.Negation.{EachPiece, some_piece_holds, both_pieces_hold}
use Rattle.ded_theory.specs.Both.{by_kind, first_pieces, second_pieces}

module _ {A B : Type 0} where
  pub first_some : (hA : A → Point → Bool) (hB : B → Point → Bool) (n : Negated A) (p : Point) → some_piece_holds (by_kind hA hB) (first_pieces n) p ≡ some_piece_holds hA n p
  first_some hA hB (One a) p = refl
  first_some hA hB (Two a b) p = refl

  pub first_both : (hA : A → Point → Bool) (hB : B → Point → Bool) (n : Negated A) (p : Point) → both_pieces_hold (by_kind hA hB) (first_pieces n) p ≡ both_pieces_hold hA n p
  first_both hA hB (One a) p = refl
  first_both hA hB (Two a b) p = refl

  first_each : (P : BothAtom A B → Type 0) (n : Negated A) → EachPiece (λ a. P (First a)) n → EachPiece P (first_pieces n)
  first_each P (One a) h = h
  first_each P (Two a b) h = h

  -- what relates an atom to each piece of its negation
  pub first_related : (P : BothAtom A B → BothAtom A B → Type 0) (x : BothAtom A B) (a : A) (n : Negated A) (r : Negated (BothAtom A B))
      → x ≡ First a → r ≡ first_pieces n → EachPiece (λ m. P (First a) (First m)) n → EachPiece (P x) r
  first_related P x a n r e f h = subst (EachPiece (P x)) (sym f) (subst (λ y. EachPiece (P y) (first_pieces n)) (sym e) (first_each (P (First a)) n h))

  pub second_some : (hA : A → Point → Bool) (hB : B → Point → Bool) (n : Negated B) (p : Point) → some_piece_holds (by_kind hA hB) (second_pieces n) p ≡ some_piece_holds hB n p
  second_some hA hB (One b) p = refl
  second_some hA hB (Two a b) p = refl

  pub second_both : (hA : A → Point → Bool) (hB : B → Point → Bool) (n : Negated B) (p : Point) → both_pieces_hold (by_kind hA hB) (second_pieces n) p ≡ both_pieces_hold hB n p
  second_both hA hB (One b) p = refl
  second_both hA hB (Two a b) p = refl

  second_each : (P : BothAtom A B → Type 0) (n : Negated B) → EachPiece (λ b. P (Second b)) n → EachPiece P (second_pieces n)
  second_each P (One b) h = h
  second_each P (Two a b) h = h

  -- what relates an atom to each piece of its negation
  pub second_related : (P : BothAtom A B → BothAtom A B → Type 0) (x : BothAtom A B) (a : B) (n : Negated B) (r : Negated (BothAtom A B))
      → x ≡ Second a → r ≡ second_pieces n → EachPiece (λ m. P (Second a) (Second m)) n → EachPiece (P x) r
  second_related P x a n r e f h = subst (EachPiece (P x)) (sym f) (subst (λ y. EachPiece (P y) (second_pieces n)) (sym e) (second_each (P (Second a)) n h))
