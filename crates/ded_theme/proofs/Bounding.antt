-- A rational slot has no bounds in a conjunction of text atoms: a point that satisfies it does so whatever its number at the
-- slot is.
use Rattle.std.proofs.Common.{◌≡◌, ℕ, ◌*◌, ◌<◌, true, false, List, [], ◌∷◌, ◌++◌, arith, refl, sym, ap, ◌∙◌, subst, mul-pos}
use Rattle.std.specs.Prelude.{ℤ, pos, negsuc, ◌+ℤ◌, ◌-ℤ◌, ◌*ℤ◌, ◌<ℤ◌, int_lt}
use Rattle.std.specs.List.{AllByRecursion}
use Rattle.std.proofs.lemmas.Int.{ints}
use Rattle.std.proofs.lemmas.Bool.Decides.{nat_tests}
use Rattle.ded_num.proofs.Ring.{parts, ring, diff_same}
use Rattle.ded_model.specs.declared.slot.Slot.{Slot}
use Rattle.ded_model.specs.declared.slot.Sort.TheVariants.{Rat, Text}
use Rattle.ded_model.specs.declared.tuple.ThemeAtom.{ThemeAtom}
use Rattle.ded_model.specs.Point.{Key, slot, Value, number, text, Point, IsPoint, AreValues, IsExtension, IsNumberExtension, all_times}
use Rattle.ded_model.specs.Row.{theme_holds, theme_mentions}
use Rattle.ded_model.specs.Normal.{IsNormalTheme}
use Rattle.ded_model.specs.Cell.{conj_holds, HoldsSomewhere}
use Rattle.ded_model.specs.Bound.{Fraction, is_less, value_at, lower, upper, SomeOutside, IsUnbounded}
use Rattle.ded_model.proofs.Points.{same_key_refl, number_at-extended}
use Rattle.ded_theme.specs.Laws.{text-slot}
use Rattle.std.proofs.lemmas.Bool.{false_from_ne_true}
use Rattle.ded_theme.proofs.Lists.{all_both, all_from_test, test_from_all}
use Rattle.ded_theme.proofs.Freeing.{same_without}

-- ---- an extension by a number

numbered : Slot → Point → ℕ → ℤ → Point
numbered s p d v = record { den = p.den * d; coords = all_times d p.coords ++ (slot s, number v) ∷ [] }

numbered_is : (s : Slot) (p : Point) (d : ℕ) (v : ℤ) → 0 < d → IsNumberExtension p (slot s) (numbered s p d v)
unfolding numbered
numbered_is s p d v h = record { factor = d; positive = h; value = v; den = refl; coords = refl }

values-added : (d : ℕ) (s : Slot) (v : ℤ) (cs : List (Key × Value)) → AreValues cs → AreValues (all_times d cs ++ (slot s, number v) ∷ [])
values-added d s v [] h = (tt, tt)
values-added d s v ((k, number n) ∷ cs) h = (tt, values-added d s v cs h.1)
values-added d s v ((k, text t) ∷ cs) h = (h.0, values-added d s v cs h.1)

numbered-point : (s : Slot) (p : Point) (d : ℕ) (v : ℤ) → 0 < d → IsPoint p → IsPoint (numbered s p d v)
unfolding numbered
numbered-point s p d v h n = record { positive = mul-pos n.positive h; bytes = values-added d s v p.coords n.bytes }

numbered-value : (s : Slot) (p : Point) (d : ℕ) (v : ℤ) → 0 < d → value_at s (numbered s p d v) ≡ record { num = v; den = pos (p.den * d) }
unfolding numbered numbered_is
numbered-value s p d v h =
    let made : ℤ → Fraction = λ n. record { num = n; den = pos (p.den * d) } in
    ap made (number_at-extended p (slot s) (numbered s p d v) (numbered_is s p d v h) (slot s) (same_key_refl (slot s)))

-- ---- text atoms hold there alike

sort_differs : (s : Slot) → s.sort ≡ Rat → s.sort ≡ Text → ⊥
sort_differs s e f = let g : Rat ≡ Text = sym e ∙ f in cc

unmentioned : (s : Slot) (a : ThemeAtom) → s.sort ≡ Rat → IsNormalTheme a → theme_mentions a s ≡ false
unmentioned s a e n = false_from_ne_true (theme_mentions a s) (λ m. sort_differs s e (text-slot a s n m))

extends : (s : Slot) (p : Point) (d : ℕ) (v : ℤ) → s.sort ≡ Rat → 0 < d → IsExtension s.sort p (slot s) (numbered s p d v)
extends s p d v e h = subst (λ z. IsExtension z p (slot s) (numbered s p d v)) (sym e) (numbered_is s p d v h)

numbered-holds : (s : Slot) (atoms : List ThemeAtom) (p : Point) (d : ℕ) (v : ℤ) → s.sort ≡ Rat → 0 < d → AllByRecursion IsNormalTheme atoms
    → conj_holds theme_holds atoms p ≡ true → conj_holds theme_holds atoms (numbered s p d v) ≡ true
numbered-holds s atoms p d v e h m held =
    let q = numbered s p d v in
    let x = extends s p d v e h in
    test_from_all (λ a. theme_holds a q) atoms
    (all_both IsNormalTheme (λ a. theme_holds a p ≡ true) (λ a. theme_holds a q ≡ true) atoms
    (λ a n k. sym (same_without s p q x a (unmentioned s a e n)) ∙ k) m (all_from_test (λ a. theme_holds a p) atoms held))

-- ---- numbers outside of a fraction

below_law : (n x d : ℤ) → (n *ℤ x -ℤ x) *ℤ d ≡ n *ℤ (x *ℤ d) -ℤ x *ℤ d
below_law n x d = rw (parts n, parts x, parts d) (simp ring (diff_same _ _ _ _ (omega arith)))

above_law : (n x d : ℤ) → (n *ℤ x +ℤ x) *ℤ d ≡ n *ℤ (x *ℤ d) +ℤ x *ℤ d
above_law n x d = rw (parts n, parts x, parts d) (simp ring (diff_same _ _ _ _ (omega arith)))

less : (m : ℤ) (k : ℕ) → 0 < k → int_lt (m -ℤ pos k) m ≡ true
less m k h = grind (arith, ints, nat_tests)

more : (m : ℤ) (k : ℕ) → 0 < k → int_lt m (m +ℤ pos k) ≡ true
more m k h = grind (arith, ints, nat_tests)

-- the numerator of a number that is one less, or one more, over a multiple of the denominator
below_it : (n : ℤ) (a d : ℕ) → 0 < a → 0 < d → is_less (record { num = n *ℤ pos a -ℤ pos a; den = pos (a * d) }) (record { num = n; den = pos d }) ≡ true
below_it n a d h k = ap (λ z. int_lt z (n *ℤ pos (a * d))) (below_law n (pos a) (pos d)) ∙ less (n *ℤ pos (a * d)) (a * d) (mul-pos h k)

above_it : (n : ℤ) (a d : ℕ) → 0 < a → 0 < d → is_less (record { num = n; den = pos d }) (record { num = n *ℤ pos a +ℤ pos a; den = pos (a * d) }) ≡ true
above_it n a d h k = ap (λ z. int_lt (n *ℤ pos (a * d)) z) (above_law n (pos a) (pos d)) ∙ more (n *ℤ pos (a * d)) (a * d) (mul-pos h k)

-- ---- no bounds

module _ (s : Slot) (atoms : List ThemeAtom) (e : s.sort ≡ Rat) (m : AllByRecursion IsNormalTheme atoms) (some : HoldsSomewhere (conj_holds theme_holds atoms)) where
  outside_below : (n d : ℤ) → pos 0 <ℤ d → SomeOutside (conj_holds theme_holds atoms) s lower (record { num = n; den = d })
  outside_below n (pos d) h =
      let p = some.0 in
      let k : 0 < d = omega (arith, ints, h) in
      let v = n *ℤ pos p.den -ℤ pos p.den in (
        numbered s p d v,
        numbered-point s p d v k some.1,
        numbered-holds s atoms p d v e k m some.2,
        ap (λ f. is_less f (record { num = n; den = pos d })) (numbered-value s p d v k) ∙ below_it n p.den d some.1.positive k,
      )
  outside_below n (negsuc d) h = absurd (omega (arith, ints, h))

  outside_above : (n d : ℤ) → pos 0 <ℤ d → SomeOutside (conj_holds theme_holds atoms) s upper (record { num = n; den = d })
  outside_above n (pos d) h =
      let p = some.0 in
      let k : 0 < d = omega (arith, ints, h) in
      let v = n *ℤ pos p.den +ℤ pos p.den in (
        numbered s p d v,
        numbered-point s p d v k some.1,
        numbered-holds s atoms p d v e k m some.2,
        ap (λ f. is_less (record { num = n; den = pos d }) f) (numbered-value s p d v k) ∙ above_it n p.den d some.1.positive k,
      )
  outside_above n (negsuc d) h = absurd (omega (arith, ints, h))

  pub unbounded_below : IsUnbounded (conj_holds theme_holds atoms) s lower
  unbounded_below f h = outside_below f.num f.den h

  pub unbounded_above : IsUnbounded (conj_holds theme_holds atoms) s upper
  unbounded_above f h = outside_above f.num f.den h
