-- The values of one slot over what an elimination leaves: they are those over the rows before.
--
-- A point of the rows is one of what is left, since it is an extension of itself. A point of what is left has an extension
-- that satisfies the rows, and that keeps its values at all slots but the eliminated one. So exact bounds carry over.
use Rattle.std.proofs.Common.{◌≡◌, ℕ, ◌*◌, Bool, true, false, ◌&&◌, List, [], ◌∷◌, ◌++◌, arith, refl, sym, ap, ap₂, subst, ◌∙◌, true≢false}
use Rattle.std.specs.Prelude.{ℤ, pos, ◌+ℤ◌, ◌-ℤ◌, ◌*ℤ◌, ◌<ℤ◌, ◌↔◌, IsTrue}
use Rattle.std.proofs.lemmas.Int.{ints}
use Rattle.ded_num.proofs.Ring.{parts, ring_pos, diff-pos, diff_same}
use Rattle.ded_num.proofs.Signs.{once, no_gap, from_no_gap}
use Rattle.ded_model.specs.declared.slot.Slot.{Slot}
use Rattle.ded_model.specs.declared.slot.Sort.TheVariants.{Rat}
use Rattle.ded_model.specs.declared.row.RowOp.TheVariants.{Zero, Below}
use Rattle.ded_model.specs.declared.bound.Bound.{Bound}
use Rattle.ded_model.specs.declared.bound.Bound.TheVariants.{Infinite, Excluded, Included}
use Rattle.ded_model.specs.Constraint.{LinearConstraint}
use Rattle.ded_model.specs.Point.{Key, slot, Value, number, Point, IsPoint, AreValues, IsValue, IsNumberExtension, IsExtension, same_key, same_slot, number_at, all_times}
use Rattle.ded_model.specs.Row.{sum_at, sign_meets, row_holds}
use Rattle.ded_model.specs.Cell.{conj_holds, HoldsNowhere}
use Rattle.ded_model.specs.Bound.{Fraction, End, lower, upper, value_at, SomeOutside, NoneOutside, SomeAt}
use Rattle.ded_model.specs.Interval.{IsExactBound}
use Rattle.ded_model.proofs.Core.{meets_unscale}
use Rattle.ded_model.proofs.Points.{same_key_is, number_at-extended, number_at-kept, positive-extension}
use Rattle.ded_model.proofs.Numbers.{extended, extended_is}
use Rattle.ded_theory.specs.Eliminations.{SomeExtension}
use Rattle.ded_theory.specs.Verdicts.{IsBound}
use Rattle.ded_box.specs.Intervals.{IsPositive}
use Rattle.ded_box.proofs.Gaps.{gap, gap_at, outside_decides, chain_at, chain_law}
use Rattle.ded_model.proofs.PointTexts.{times_values}
use Rattle.ded_box.proofs.Exact.{value-positive}

-- ---- a point as an extension of itself

numbers_same : (cs : List (Slot × ℤ)) (p q : Point) → ((t : Slot) → number_at q (slot t) ≡ number_at p (slot t)) → sum_at cs q ≡ sum_at cs p
numbers_same [] p q h = refl
numbers_same (c ∷ cs) p q h = ap₂ (λ n z. c.1 *ℤ n +ℤ z) (h c.0) (numbers_same cs p q h)

row_same : (r : LinearConstraint) (p q : Point) → q.den ≡ p.den → ((t : Slot) → number_at q (slot t) ≡ number_at p (slot t)) → row_holds r q ≡ row_holds r p
unfolding row_holds
row_same r p q e h = ap (sign_meets r.op) (ap₂ (λ z d. z +ℤ r.constant *ℤ pos d) (numbers_same r.coefs p q h) e)

rows_same : (rows : List LinearConstraint) (p q : Point) → q.den ≡ p.den → ((t : Slot) → number_at q (slot t) ≡ number_at p (slot t)) → conj_holds row_holds rows q ≡ conj_holds row_holds rows p
rows_same [] p q e h = refl
rows_same (r ∷ rows) p q e h = ap₂ (λ a b. a && b) (row_same r p q e h) (rows_same rows p q e h)

module _ (t : Slot) (p : Point) where
  abbrev again : Point
  again = extended (slot t) 1 (number_at p (slot t)) p

  again_is : IsNumberExtension p (slot t) again
  again_is = extended_is (slot t) 1 (number_at p (slot t)) p (omega arith)

  again_den : again.den ≡ p.den
  again_den = omega arith

  again_number : (u : Slot) → number_at again (slot u) ≡ number_at p (slot u)
  unfolding again_is
  again_number u = by (same_key (slot u) (slot t)) refl
    where
      factor_one : again_is.factor ≡ 1
      factor_one = refl

      value_is : again_is.value ≡ number_at p (slot t)
      value_is = refl

      by : (b : Bool) → same_key (slot u) (slot t) ≡ b → number_at again (slot u) ≡ number_at p (slot u)
      by true e = number_at-extended p (slot t) again again_is (slot u) e ∙ value_is ∙ ap (λ k. number_at p k) (sym (same_key_is (slot u) (slot t) e))
      by false e = number_at-kept p (slot t) again again_is (slot u) e ∙ ap (λ n. number_at p (slot u) *ℤ pos n) factor_one ∙ once (number_at p (slot u))

pub itself : (t : Slot) (rows : List LinearConstraint) (p : Point) → t.sort ≡ Rat → IsTrue (conj_holds row_holds rows p) → SomeExtension t (conj_holds row_holds rows) p
itself t rows p e h =
    subst (λ o. (q : Point) × IsExtension o p (slot t) q × IsTrue (conj_holds row_holds rows q)) (sym e)
    (again t p, again_is t p, rows_same rows p (again t p) (again_den t p) (again_number t p) ∙ h)

-- ---- an extension of a point is one

pub append_value : (cs : List (Key × Value)) (c : Key × Value) → AreValues cs → IsValue c.1 → AreValues (cs ++ c ∷ [])
append_value [] c h v = (v, tt)
append_value (b ∷ cs) c h v = (h.0, append_value cs c h.1 v)

pub extension_point : (k : Key) (p q : Point) → IsPoint p → IsNumberExtension p k q → IsPoint q
extension_point k p q h x = record {
  positive = positive-extension Rat p k q h.positive x;
  bytes = subst AreValues (sym x.coords) (append_value (all_times x.factor p.coords) (k, number x.value) (times_values x.factor p.coords h.bytes) tt);
}

-- ---- values

-- q has the value of p at the slot
abbrev pub HaveValue : Slot → Point → Point → Type 0
HaveValue s p q = gap (value_at s q) (value_at s p) ≡ pos 0

-- what passes g passes f, and what passes f has a point with its value at the slot that passes g
pub record IsShadow (f g : Point → Bool) (s : Slot) : Type 0 where
  pub to : (p : Point) → IsPoint p → IsTrue (g p) → IsTrue (f p)
  pub from : (p : Point) → IsPoint p → IsTrue (f p) → (q : Point) × IsPoint q × IsTrue (g q) × HaveValue s p q

kept_law : (n : ℤ) (d e : ℕ) → (n *ℤ pos e) *ℤ pos d -ℤ n *ℤ pos (d * e) ≡ pos 0
kept_law n d e = rw (parts n, diff-pos e, diff-pos d, diff-pos (d * e)) (simp ring_pos (diff_same _ _ _ _ (omega arith)))

pub kept_value : (s t : Slot) (p q : Point) → same_slot s t ≡ false → IsNumberExtension p (slot t) q → HaveValue s p q
kept_value s t p q e x = rw (number_at-kept p (slot t) q x (slot s) e, x.den) (kept_law (number_at p (slot s)) p.den x.factor)

pub rational_extension : (t : Slot) (test : Point → Bool) (p : Point) → t.sort ≡ Rat → SomeExtension t test p → (q : Point) × IsNumberExtension p (slot t) q × IsTrue (test q)
rational_extension t test p e h = subst (λ o. (q : Point) × IsExtension o p (slot t) q × IsTrue (test q)) e h

-- what an elimination leaves is a shadow of the rows
pub shadow : (s t : Slot) (f : Point → Bool) (rows : List LinearConstraint) → t.sort ≡ Rat → same_slot s t ≡ false
    → ((p : Point) → IsPoint p → IsTrue (f p) ↔ SomeExtension t (conj_holds row_holds rows) p) → IsShadow f (conj_holds row_holds rows) s
shadow s t f rows e n h = record {
  to = λ p i g. (h p i).1 (itself t rows p e g);
  from = λ p i g. let w = rational_extension t (conj_holds row_holds rows) p e ((h p i).0 g) in (w.0, extension_point (slot t) p w.0 i w.1, w.2, kept_value s t p w.0 n w.1);
}

-- ---- bounds carry over

zero_sum : (x y a b : ℤ) → x ≡ pos 0 → y ≡ pos 0 → a *ℤ x +ℤ b *ℤ y ≡ pos 0
zero_sum x y a b e f = rw (e, f) (rw (parts a, parts b) (simp ring_pos (diff_same _ _ _ _ (omega arith))))

same_at : (nq dq np dp hn hd : ℤ) → pos 0 <ℤ dp → nq *ℤ dp -ℤ np *ℤ dq ≡ pos 0 → np *ℤ hd ≡ hn *ℤ dp → nq *ℤ hd ≡ hn *ℤ dq
same_at nq dq np dp hn hd p e f =
    from_no_gap (nq *ℤ hd) (hn *ℤ dq) (meets_unscale Zero dp (nq *ℤ hd -ℤ hn *ℤ dq) p (chain_law nq dq np dp hn hd ∙ zero_sum _ _ hd dq e (no_gap (np *ℤ hd) (hn *ℤ dp) f)))

pub gap_zero : (e : End) (f g : Fraction) → gap f g ≡ pos 0 → gap_at e f g ≡ pos 0
gap_zero lower f g h = h
gap_zero upper f g h = turned_zero (f.num *ℤ g.den) (g.num *ℤ f.den) h
  where
    turned_zero : (x y : ℤ) → x -ℤ y ≡ pos 0 → y -ℤ x ≡ pos 0
    turned_zero x y h = omega (arith, ints)

module _ (f g : Point → Bool) (s : Slot) (is : IsShadow f g s) where
  some_outside : (e : End) (h : Fraction) → IsPositive h → SomeOutside f s e h → SomeOutside g s e h
  some_outside e h ph o =
      let w = is.from o.0 o.1 o.2 in
      let below = chain_at e Zero Below (value_at s w.0) (value_at s o.0) h (value-positive s w.0 w.1) (value-positive s o.0 o.1) ph
      (gap_zero e (value_at s w.0) (value_at s o.0) w.3) ((outside_decides e (value_at s o.0) h).0 o.3) in
      (w.0, w.1, w.2, (outside_decides e (value_at s w.0) h).1 below)

  none_outside : (e : End) (h : Fraction) → NoneOutside f s e h → NoneOutside g s e h
  none_outside e h n p i t = n p i (is.to p i t)

  some_at : (h : Fraction) → SomeAt f s h → SomeAt g s h
  some_at h a =
      let w = is.from a.0 a.1 a.2 in
      (w.0, w.1, w.2, same_at (number_at w.0 (slot s)) (pos w.0.den) (number_at a.0 (slot s)) (pos a.0.den) h.num h.den (value-positive s a.0 a.1) w.3 a.3)

  at_before : (h : Fraction) → SomeAt g s h → SomeAt f s h
  at_before h a = (a.0, a.1, is.to a.0 a.1 a.2, a.3)

  pub exact_before : (e : End) (b : Bound) → IsExactBound f s e b → IsExactBound g s e b
  exact_before e Infinite x = λ h ph. some_outside e h ph (x h ph)
  exact_before e (Excluded h) x = record {
    positive = x.positive;
    lowest = x.lowest;
    free = λ a. x.free (at_before h a);
    none = none_outside e h x.none;
    near = λ k pk o. some_outside e k pk (x.near k pk o);
  }
  exact_before e (Included h) x = record { positive = x.positive; lowest = x.lowest; attained = some_at h x.attained; none = none_outside e h x.none }

  pub bound_before : (e : End) (b : Bound) → IsBound f s e b → IsBound g s e b
  bound_before e Infinite x = tt
  bound_before e (Excluded h) x = (none_outside e h x.0, λ a. x.1 (at_before h a))
  bound_before e (Included h) x = none_outside e h x

  pub nowhere_before : HoldsNowhere f → HoldsNowhere g
  nowhere_before n p i = go (g p) refl
    where
      go : (b : Bool) → g p ≡ b → g p ≡ false
      go false e = e
      go true e = absurd (true≢false (sym (is.to p i e) ∙ n p i))
