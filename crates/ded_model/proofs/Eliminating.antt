-- Rows: what eliminating a slot has to say, exactly.
--
-- Core's laws carried to rows at points. Where no equality mentions the slot, the rows hold at some extension exactly where
-- those without the slot hold and every upper row mixed with every lower one does (`rows_law`). Where an equality mentions it,
-- they hold at some extension exactly where every row does from which the equality has taken the slot (`equal_exact`,
-- `equal_sound`). This is Fourier's elimination with Motzkin's strict inequalities and Gauss's step for equalities.
use Rattle.std.proofs.Common.{◌≡◌, zero, suc, inl, inr, List, map, arith, refl, sym, ap, ◌∙◌, subst}
use Rattle.std.specs.Prelude.{ℤ, pos, negsuc, ◌+ℤ◌, ◌*ℤ◌, ◌<ℤ◌, ◌↔◌, IsTrue}
use Rattle.std.specs.Bool.{Decides}
use Rattle.std.specs.List.{All}
use lib.IntN.{neg_ℤ}
use Rattle.std.proofs.lemmas.Int.{ints}
use Rattle.std.proofs.lemmas.Bool.Decides.{Decides-int_eq}
use borrow.Author.Differences.{up}
use Rattle.ded_model.specs.declared.slot.Slot.{Slot}
use Rattle.ded_model.specs.declared.row.RowOp.{RowOp}
use Rattle.ded_model.specs.declared.row.RowOp.TheVariants.{Zero, AtMost, Below}
use Rattle.ded_model.specs.Constraint.{LinearConstraint}
use Rattle.ded_model.specs.Point.{slot, Point, IsNumberExtension}
use Rattle.ded_model.specs.Row.{row_at, sign_meets, row_holds}
use Rattle.ded_model.proofs.Core.{Meets, join, Strictable, Cut, CutHolds, IsUpper, IsLower, mixed, AllMixed, Value, exact, exact_equal, sound, size, against}
use Rattle.ded_num.proofs.Ring.{parts, ring_pos, diff_same}
use Rattle.ded_model.proofs.Lists.{Every, Some, every_all, all_every, every_weaker, every-map, every-unmap, from_some, some_both}
use Rattle.ded_model.proofs.Terms.{linear_at}
use Rattle.ded_model.proofs.Numbers.{coef, rest, linear-extended, at_level, cancel_pair, extended, extended_is, positive_is}
use Rattle.ded_model.proofs.Atoms.{row_linear, row_linear-at}

pub meets-decides : (op : RowOp) (z : ℤ) → Decides (sign_meets op z) (Meets op z)
meets-decides Zero z = Decides-int_eq z (pos 0)
meets-decides AtMost z = (λ e. grind (arith, ints), λ e. grind (arith, ints))
meets-decides Below z = (λ e. grind (arith, ints), λ e. grind (arith, ints))

-- a row at a point, as its coefficient at the slot, its rest and its op
abbrev pub coef_of : Slot → LinearConstraint → ℤ
coef_of s r = coef (slot s) (row_linear r).coefs

abbrev pub rest_of : Slot → Point → LinearConstraint → ℤ
rest_of s p r = linear_at (rest (slot s) (row_linear r)) p

abbrev pub row_cut : Slot → Point → LinearConstraint → Cut
row_cut s p r = record { a = coef_of s r; r = rest_of s p r; op = r.op }

abbrev pub RowHolds : Point → LinearConstraint → Type 0
RowHolds p r = IsTrue (row_holds r p)

module _ (s : Slot) (p q : Point) (x : IsNumberExtension p (slot s) q) where
  row-extended : (r : LinearConstraint) → row_at r q ≡ coef_of s r *ℤ x.value +ℤ rest_of s p r *ℤ pos x.factor
  row-extended r = sym (row_linear-at r q) ∙ linear-extended (slot s) p q x (row_linear r)

  row_from : (r : LinearConstraint) → RowHolds q r → CutHolds x.value (pos x.factor) (row_cut s p r)
  unfolding row_holds
  row_from r h = subst (Meets r.op) (row-extended r) ((meets-decides r.op (row_at r q)).0 h)

  row_to : (r : LinearConstraint) → CutHolds x.value (pos x.factor) (row_cut s p r) → RowHolds q r
  unfolding row_holds
  row_to r h = (meets-decides r.op (row_at r q)).1 (subst (Meets r.op) (sym (row-extended r)) h)

  factor_above : pos 0 <ℤ pos x.factor
  factor_above = let h = x.positive in omega (arith, ints)

  -- ---- sound
  pub rows_sound : (rows : List LinearConstraint) → Every (λ r. ¬ (coef_of s r ≡ pos 0) → Strictable r.op) rows → Every (RowHolds q) rows → AllMixed (map (row_cut s p) rows)
  rows_sound rows free h = record {
    level = every_all (λ c. c.a ≡ pos 0 → Meets c.op c.r) (map (row_cut s p) rows)
        (every-map (row_cut s p) (λ c. c.a ≡ pos 0 → Meets c.op c.r) rows
        (every_weaker (RowHolds q) (λ r. coef_of s r ≡ pos 0 → Meets r.op (rest_of s p r)) rows
        (λ r i z. at_level r.op (coef_of s r) x.value (rest_of s p r) (pos x.factor) factor_above z (row_from r i)) h));
    strictable = every_all (λ c. ¬ (c.a ≡ pos 0) → Strictable c.op) (map (row_cut s p) rows) (every-map (row_cut s p) (λ c. ¬ (c.a ≡ pos 0) → Strictable c.op) rows free);
    pairs = every_all (λ u. IsUpper u → All (λ l. IsLower l → Meets (join u.op l.op) (mixed u l)) (map (row_cut s p) rows)) (map (row_cut s p) rows)
        (every-map (row_cut s p) (λ u. IsUpper u → All (λ l. IsLower l → Meets (join u.op l.op) (mixed u l)) (map (row_cut s p) rows)) rows
        (every_weaker (RowHolds q) (λ u. IsUpper (row_cut s p u) → All (λ l. IsLower l → Meets (join u.op l.op) (mixed (row_cut s p u) l)) (map (row_cut s p) rows)) rows
        (λ u i up. every_all (λ l. IsLower l → Meets (join u.op l.op) (mixed (row_cut s p u) l)) (map (row_cut s p) rows)
        (every-map (row_cut s p) (λ l. IsLower l → Meets (join u.op l.op) (mixed (row_cut s p u) l)) rows
        (every_weaker (RowHolds q) (λ l. IsLower (row_cut s p l) → Meets (join u.op l.op) (mixed (row_cut s p u) (row_cut s p l))) rows
        (λ l j lo. sound (row_cut s p u) (row_cut s p l) (neg_ℤ (coef_of s l)) (coef_of s u) x.value (pos x.factor) factor_above (inl lo) (inl up)
        (cancel_pair (coef_of s u) (coef_of s l)) (row_from u i) (row_from l j)) h))) h));
  }

abbrev pub SomeExtensionHolds : Slot → Point → List LinearConstraint → Type 0
SomeExtensionHolds s p rows = (q : Point) × (IsNumberExtension p (slot s) q) × Every (RowHolds q) rows

of_value : (s : Slot) (p : Point) (rows : List LinearConstraint) → Value (map (row_cut s p) rows) → SomeExtensionHolds s p rows
of_value s p rows v =
    let e = positive_is v.den v.positive in
    let q = extended (slot s) (up v.den) v.num p in
    let x : IsNumberExtension p (slot s) q = extended_is (slot s) (up v.den) v.num p e.0 in (
      q,
      x,
      every_weaker (λ r. CutHolds v.num v.den (row_cut s p r)) (RowHolds q) rows
          (λ r i. row_to s p q x r (subst (λ z. CutHolds v.num z (row_cut s p r)) e.1 i))
          (every-unmap (row_cut s p) (CutHolds v.num v.den) rows (all_every (CutHolds v.num v.den) (map (row_cut s p) rows) v.all)),
    )

-- ---- exact, where no equality mentions the slot
pub rows_exact : (s : Slot) (p : Point) (rows : List LinearConstraint) → AllMixed (map (row_cut s p) rows) → SomeExtensionHolds s p rows
rows_exact s p rows h = of_value s p rows (exact (map (row_cut s p) rows) h)

pub rows_law : (s : Slot) (p : Point) (rows : List LinearConstraint) → Every (λ r. ¬ (coef_of s r ≡ pos 0) → Strictable r.op) rows → AllMixed (map (row_cut s p) rows) ↔ SomeExtensionHolds s p rows
rows_law s p rows free = (rows_exact s p rows, λ w. rows_sound s p w.0 w.1 rows free w.2)

-- ---- exact, where the equality e mentions the slot
abbrev pub EqualHolds : Slot → Point → LinearConstraint → LinearConstraint → Type 0
EqualHolds s p e r = Meets r.op (size (coef_of s e) *ℤ rest_of s p r +ℤ against (coef_of s e) (coef_of s r) *ℤ rest_of s p e)

pub equal_exact : (s : Slot) (p : Point) (rows : List LinearConstraint) (e : LinearConstraint) → ¬ (coef_of s e ≡ pos 0) → Every (EqualHolds s p e) rows → SomeExtensionHolds s p rows
equal_exact s p rows e n h =
    of_value s p rows (exact_equal (map (row_cut s p) rows) (coef_of s e) (rest_of s p e) n
    (every_all (λ c. Meets c.op (size (coef_of s e) *ℤ c.r +ℤ against (coef_of s e) c.a *ℤ rest_of s p e)) (map (row_cut s p) rows)
    (every-map (row_cut s p) (λ c. Meets c.op (size (coef_of s e) *ℤ c.r +ℤ against (coef_of s e) c.a *ℤ rest_of s p e)) rows h)))

cancel_equal : (q a : ℤ) → size q *ℤ a +ℤ against q a *ℤ q ≡ pos 0
cancel_equal (pos n) a = let z = pos n in flat z a
  where
    flat : (z a : ℤ) → z *ℤ a +ℤ neg_ℤ a *ℤ z ≡ pos 0
    flat z a = rw (parts z, parts a) (simp ring_pos (diff_same _ _ _ _ (omega arith)))
cancel_equal (negsuc n) a = flat (negsuc n) a
  where
    flat : (z a : ℤ) → neg_ℤ z *ℤ a +ℤ a *ℤ z ≡ pos 0
    flat z a = rw (parts z, parts a) (simp ring_pos (diff_same _ _ _ _ (omega arith)))

size_positive : (q : ℤ) → ¬ (q ≡ pos 0) → pos 0 <ℤ size q
size_positive (pos zero) n = absurd (n refl)
size_positive (pos (suc k)) n = omega (arith, ints)
size_positive (negsuc k) n = omega (arith, ints)

pub join_zero : (o : RowOp) → join o Zero ≡ o
join_zero Zero = refl
join_zero AtMost = refl
join_zero Below = refl

equal_sound_at : (s : Slot) (p q : Point) (x : IsNumberExtension p (slot s) q) (rows : List LinearConstraint) (e : LinearConstraint) → e.op ≡ Zero → ¬ (coef_of s e ≡ pos 0) → RowHolds q e → Every (RowHolds q) rows → Every (EqualHolds s p e) rows
equal_sound_at s p q x rows e op n here h =
    every_weaker (RowHolds q) (EqualHolds s p e) rows
    (λ r i. subst (λ o. Meets o (size (coef_of s e) *ℤ rest_of s p r +ℤ against (coef_of s e) (coef_of s r) *ℤ rest_of s p e)) (ap (join r.op) op ∙ join_zero r.op)
    (sound (row_cut s p r) (row_cut s p e) (size (coef_of s e)) (against (coef_of s e) (coef_of s r)) x.value (pos x.factor) (factor_above s p q x)
    (inl (size_positive (coef_of s e) n)) (inr op) (cancel_equal (coef_of s e) (coef_of s r)) (row_from s p q x r i) (row_from s p q x e here))) h

pub equal_sound : (s : Slot) (p : Point) (rows : List LinearConstraint) (e : LinearConstraint) → e.op ≡ Zero → ¬ (coef_of s e ≡ pos 0) → Some (λ r. r ≡ e) rows → SomeExtensionHolds s p rows → Every (EqualHolds s p e) rows
equal_sound s p rows e op n inside w =
    let here : RowHolds w.0 e = from_some (λ r. RowHolds w.0 r × (r ≡ e)) (RowHolds w.0 e) rows (λ r h. subst (RowHolds w.0) h.1 h.0) (some_both (RowHolds w.0) (λ r. r ≡ e) rows w.2 inside) in
    equal_sound_at s p w.0 w.1 rows e op n here w.2
