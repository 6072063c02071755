-- A list without what is outside of another is the meet of both, and has no more conjunctions than there are cells.
use Rattle.std.proofs.Common.{ℤ, length, Bool, not, ◌&&◌, ◌||◌, List, [], ◌∷◌, ◌++◌, inl, inr, ap, ◌∙◌}
use Rattle.std.specs.List.{AllByRecursion}
use Rattle.ded_num.proofs.Tests.{not_twice}
use Rattle.ded_model.specs.declared.slot.Slot.{Slot}
use Rattle.ded_model.specs.Lines.{Line}
use Rattle.ded_model.specs.Point.{Point}
use Rattle.ded_model.specs.Cell.{HasCells}
use Rattle.ded_model.proofs.Rows.{or_left, or_right}
use Rattle.ded_model.proofs.Members.{or_split, In-left, In-right, In-split}
use Rattle.ded_genrel.specs.Lists.{conjs_hold, conjs_mention, conjs_lines}
use Rattle.ded_genrel.specs.Operations.{IsMeet, IsOperation}
use Rattle.ded_theory.specs.Conjunctions.{IsWide}
use Rattle.ded_complement.specs.Pieces.{all_atoms, IsListForEach, IsMadeOf}
use Rattle.ded_complement.proofs.PieceLaws.{among_front, among_back, among_self, made_append, made_among, made_trans, made_all, made_wide}
use Rattle.ded_complement.proofs.Cells.{cells_grow}

pub without_outside_is : {A : Type 0} (h : A → Point → Bool) (m : A → Slot → Bool) (l : A → List Line) (xs ys outside out : List (List A))
    → IsOperation h m l (λ p. not (conjs_hold h ys p)) (conjs_mention m ys) (conjs_lines l ys) outside
    → IsOperation h m l (λ p. conjs_hold h xs p && not (conjs_hold h outside p)) (λ s. conjs_mention m xs s || conjs_mention m outside s) (conjs_lines l xs ++ conjs_lines l outside) out
    → IsMeet h m l xs ys out
without_outside_is h m l xs ys outside out o w = record {
  holds = λ p i. w.holds p i ∙ ap (λ b. conjs_hold h xs p && not b) (o.holds p i) ∙ ap (λ b. conjs_hold h xs p && b) (not_twice (conjs_hold h ys p));
  slots = λ s e. elim (or_split (conjs_mention m xs s) (conjs_mention m outside s) (w.slots s e)) [
    | inl x ↦ or_left (conjs_mention m xs s) (conjs_mention m ys s) x
    | inr y ↦ or_right (conjs_mention m xs s) (conjs_mention m ys s) (o.slots s y)
  ];
  lines = λ x i. elim (In-split x (conjs_lines l xs) (conjs_lines l outside) (w.lines x i)) [
    | inl a ↦ In-left x (conjs_lines l xs) (conjs_lines l ys) a
    | inr b ↦ In-right x (conjs_lines l xs) (conjs_lines l ys) (o.lines x b)
  ];
}

for_each_weaker : {A : Type 0} (P Q : List (List A) → Type 0) → ((ps : List (List A)) → P ps → Q ps) → (cs out : List (List A)) → IsListForEach P cs out → IsListForEach Q cs out
for_each_weaker P Q f [] out e = e
for_each_weaker P Q f (c ∷ cs) out e = (e.0, e.1, e.2, f e.0 e.3, for_each_weaker P Q f cs e.1 e.4)

module _ {A : Type 0} (m : A → Slot → Bool) (l : A → List Line) (cell : A → Point → ℤ) (xs ys outside : List (List A)) (made : AllByRecursion (λ c. IsMadeOf m l cell (all_atoms ys) c) outside) where
  -- the atoms of the first list and of what is outside of the second one are made of the atoms of both
  made_both : IsMadeOf m l cell (all_atoms xs ++ all_atoms ys) (all_atoms xs ++ all_atoms outside)
  made_both =
      let us = all_atoms xs in
      let vs = all_atoms ys in
      made_append m l cell (us ++ vs) us (all_atoms outside) (made_among m l cell (us ++ vs) us (among_front us vs us (among_self us)))
      (made_trans m l cell (us ++ vs) vs (all_atoms outside) (made_among m l cell (us ++ vs) vs (among_back us vs vs (among_self vs))) (made_all m l cell vs outside made))

  -- so what they realise both do
  pub pieces_for_each : (Q : List (List A) → Type 0) (out : List (List A))
      → ((IsWide m l (all_atoms xs ++ all_atoms outside) → ⊥) → IsListForEach (λ ps. HasCells cell (all_atoms xs ++ all_atoms outside) (length ps) × Q ps) xs out)
      → (IsWide m l (all_atoms xs ++ all_atoms ys) → ⊥) → IsListForEach (λ ps. HasCells cell (all_atoms xs ++ all_atoms ys) (length ps) × Q ps) xs out
  pieces_for_each Q out k n =
      let both = all_atoms xs ++ all_atoms ys in
      let other = all_atoms xs ++ all_atoms outside in
      for_each_weaker (λ ps. HasCells cell other (length ps) × Q ps) (λ ps. HasCells cell both (length ps) × Q ps) (λ ps g. (cells_grow m l cell both other (length ps) made_both g.0, g.1)) xs out
      (k (λ w. n (made_wide m l cell both other made_both w)))
