-- Disjoint pieces are no more than the cells that the atoms realise.
--
-- Each piece holds somewhere, so take a point of each. A piece tells apart no points of one cell, so whether it holds at a point
-- depends on the cell of that point alone.
-- So if the points of two pieces had one cell, the second one would satisfy the first piece as well, and the pieces wouldn't be
-- disjoint. Hence the points have pairwise different cells. Of n hyperplanes in a space of d dimensions only some n^d of the 3^n
-- conceivable cells are realised (Buck, Partition of space, 1943), so a complement is polynomial in its operand for each number of
-- slots.
use Rattle.std.proofs.Common.{◌≡◌, ℕ, zero, suc, ◌<◌, ℤ, length, get_or, Bool, true, false, ◌&&◌, List, [], ◌∷◌, arith, refl, sym, ap, ap₂, ◌∙◌, true≢false}
use Rattle.std.specs.List.{AllByRecursion}
use Rattle.ded_model.specs.declared.slot.Slot.{Slot}
use Rattle.ded_model.specs.Point.{Point, IsPoint}
use Rattle.ded_model.specs.Cell.{cells, conj_holds, HoldsSomewhere, HasCells}
use Rattle.ded_model.specs.Lines.{Line}
use Rattle.ded_model.proofs.Rows.{or_left, or_right}
use Rattle.ded_genrel.specs.Lists.{conjs_hold}
use Rattle.ded_complement.specs.Pieces.{AreDisjoint, IsMadeOf}
use Rattle.ded_complement.proofs.PieceLaws.{head_of, tail_of}

both_true : (a b : Bool) → a ≡ true → b ≡ true → (a && b) ≡ false → ⊥
both_true true true e f g = true≢false g
both_true true false e f g = true≢false (sym f)
both_true false b e f g = true≢false (sym e)

-- an atom holds alike at points of one cell
abbrev pub CellsTell : {A : Type 0} → (A → Point → Bool) → (A → Point → ℤ) → Type 0
CellsTell {A = A} h cell = (a : A) (p q : Point) → cell a p ≡ cell a q → h a p ≡ h a q

-- and so do atoms
told : {A : Type 0} (h : A → Point → Bool) (cell : A → Point → ℤ) → CellsTell h cell → (c : List A) (p q : Point) → cells cell c p ≡ cells cell c q → conj_holds h c p ≡ conj_holds h c q
told h cell tell [] p q e = refl
told h cell tell (a ∷ c) p q e = ap₂ (λ x y. x && y) (tell a p q (ap head_of e)) (told h cell tell c p q (ap tail_of e))

module _ {A : Type 0} (h : A → Point → Bool) (m : A → Slot → Bool) (l : A → List Line) (cell : A → Point → ℤ) (tell : CellsTell h cell) (atoms : List A) where
  -- each conjunction holds somewhere
  abbrev AreInhabited : List (List A) → Type 0
  AreInhabited conjs = AllByRecursion (λ c. HoldsSomewhere (conj_holds h c)) conjs

  -- a point of each
  abbrev points_of : (conjs : List (List A)) → AreInhabited conjs → List Point
  points_of [] w = []
  points_of (c ∷ conjs) w = w.0.0 ∷ points_of conjs w.1

  count : (conjs : List (List A)) (w : AreInhabited conjs) → length (points_of conjs w) ≡ length conjs
  count [] w = refl
  count (c ∷ conjs) w = ap suc (count conjs w.1)

  positive : (conjs : List (List A)) (w : AreInhabited conjs) (k : ℕ) → k < length conjs → (d : Point) → IsPoint (get_or (points_of conjs w) k d)
  positive [] w k lt d = absurd (omega (arith, lt))
  positive (c ∷ conjs) w zero lt d = w.0.1
  positive (c ∷ conjs) w (suc k) lt d = positive conjs w.1 k (omega (arith, lt)) d

  -- the points satisfy the list
  inside : (conjs : List (List A)) (w : AreInhabited conjs) (k : ℕ) → k < length conjs → (d : Point) → conjs_hold h conjs (get_or (points_of conjs w) k d) ≡ true
  inside [] w k lt d = absurd (omega (arith, lt))
  inside (c ∷ conjs) w zero lt d = or_left (conj_holds h c w.0.0) (conjs_hold h conjs w.0.0) w.0.2
  inside (c ∷ conjs) w (suc k) lt d =
      or_right (conj_holds h c (get_or (points_of conjs w.1) k d)) (conjs_hold h conjs (get_or (points_of conjs w.1) k d)) (inside conjs w.1 k (omega (arith, lt)) d)

  differ : (conjs : List (List A)) (w : AreInhabited conjs) → AreDisjoint h conjs → AllByRecursion (IsMadeOf m l cell atoms) conjs → (i j : ℕ) → i < j → j < length conjs → (d : Point)
      → cells cell atoms (get_or (points_of conjs w) i d) ≡ cells cell atoms (get_or (points_of conjs w) j d) → ⊥
  differ [] w out made i j lt le d e = omega (arith, le)
  differ (c ∷ conjs) w out made i zero lt le d e = omega (arith, lt)
  differ (c ∷ conjs) w out made zero (suc j) lt le d e =
      let q = get_or (points_of conjs w.1) j d in
      both_true (conj_holds h c q) (conjs_hold h conjs q) (sym (told h cell tell c w.0.0 q (made.0.cells w.0.0 q e)) ∙ w.0.2) (inside conjs w.1 j (omega (arith, le)) d) (out.0 q (positive conjs w.1 j (omega (arith, le)) d))
  differ (c ∷ conjs) w out made (suc i) (suc j) lt le d e = differ conjs w.1 out.1 made.1 i j (omega (arith, lt)) (omega (arith, le)) d e

  pub has_cells : (conjs : List (List A)) → AreInhabited conjs → AreDisjoint h conjs → AllByRecursion (IsMadeOf m l cell atoms) conjs → HasCells cell atoms (length conjs)
  has_cells conjs w out made = record { points = points_of conjs w; count = count conjs w; positive = positive conjs w; differ = differ conjs w out made }

-- cells of what is made of the atoms are no more than those of the atoms
pub cells_grow : {A : Type 0} (m : A → Slot → Bool) (l : A → List Line) (cell : A → Point → ℤ) (atoms c : List A) (n : ℕ) → IsMadeOf m l cell atoms c → HasCells cell c n → HasCells cell atoms n
cells_grow m l cell atoms c n a k = record { points = k.points; count = k.count; positive = k.positive; differ = λ i j lt le d e. k.differ i j lt le d (a.cells _ _ e) }
