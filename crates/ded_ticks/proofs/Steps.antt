-- The step that is chosen, and the first multiple of it.
use Rattle.std.proofs.Common.{◌≡◌, ◌<◌, ◌≤◌, ℕ, zero, suc, ◌-◌, ◌*◌, refl, sym, ap, ap₂, ◌∙◌, subst, arith, SFits, to_z, of_z}
use Rattle.std.specs.Prelude.{nat_le, ℤ, pos, negsuc, ◌+ℤ◌, ◌*ℤ◌, ◌<ℤ◌, neg_ℤ}
use Rattle.std.specs.Int.{w128}
use Rattle.std.proofs.lemmas.Int.{ints, to_z-of_z}
use Rattle.ded_num.specs.Length.{IsWithin}
use Rattle.ded_num.proofs.Signs.{short_in_code}
use Rattle.ded_axes.specs.Around.{ceiling, floor}
use Rattle.ded_axes.proofs.Exponents.{is_le, is_not_le, chosen, other}
use Rattle.ded_axes.proofs.Floors.{is_floor}
use Rattle.ded_ticks.specs.Steps.{round_step_from}

pub none_left : (left s e : ℕ) → left ≡ 0 → e ≡ round_step_from left s e
unfolding round_step_from
none_left zero s e h = refl
none_left (suc k) s e h = absurd (omega (arith, h))

pub is_once : (left s e : ℕ) → (left ≡ 0 → ⊥) → e ≤ 8 * s → s ≡ round_step_from left s e
unfolding round_step_from
is_once zero s e some h = absurd (some refl)
is_once (suc k) s e some h = chosen (nat_le e (8 * s)) s _ (is_le e (8 * s) h)

pub is_twice : (left s e : ℕ) → (left ≡ 0 → ⊥) → 8 * s < e → e ≤ 16 * s → 2 * s ≡ round_step_from left s e
unfolding round_step_from
is_twice zero s e some h k = absurd (some refl)
is_twice (suc n) s e some h k = chosen (nat_le e (16 * s)) (2 * s) _ (is_le e (16 * s) k) ∙ other (nat_le e (8 * s)) s _ (is_not_le e (8 * s) h)

pub is_five_times : (left s e : ℕ) → (left ≡ 0 → ⊥) → 8 * s < e → 16 * s < e → e ≤ 40 * s → 5 * s ≡ round_step_from left s e
unfolding round_step_from
is_five_times zero s e some h k l = absurd (some refl)
is_five_times (suc n) s e some h k l =
    chosen (nat_le e (40 * s)) (5 * s) _ (is_le e (40 * s) l) ∙ other (nat_le e (16 * s)) (2 * s) _ (is_not_le e (16 * s) k) ∙ other (nat_le e (8 * s)) s _ (is_not_le e (8 * s) h)

pub is_behind : (left s e r : ℕ) → (left ≡ 0 → ⊥) → 8 * s < e → 16 * s < e → 40 * s < e → r ≡ round_step_from (left - 1) (10 * s) e → r ≡ round_step_from left s e
unfolding round_step_from
is_behind zero s e r some h k l rest = absurd (some refl)
is_behind (suc n) s e r some h k l rest =
    let less : suc n - 1 ≡ n = omega arith in
    rest ∙ ap (λ j. round_step_from j (10 * s) e) less
    ∙ other (nat_le e (40 * s)) (5 * s) _ (is_not_le e (40 * s) l) ∙ other (nat_le e (16 * s)) (2 * s) _ (is_not_le e (16 * s) k) ∙ other (nat_le e (8 * s)) s _ (is_not_le e (8 * s) h)

-- ---- the first multiple is less than a step above the number
above : (low step q : ℤ) (n r : ℕ) → step ≡ pos n → r < n → neg_ℤ low ≡ q *ℤ pos n +ℤ pos r → IsWithin 62 low → IsWithin 63 step → IsWithin 64 (neg_ℤ q *ℤ pos n)
above low step (pos zero) n r e less is h k = omega (arith, ints)
above low step (pos (suc a)) n r e less is h k = omega (arith, ints, e, less, is, h, k)
above low step (negsuc a) n r e less is h k = omega (arith, ints, e, less, is, h, k)

pub multiple_within : (low step : ℤ) → IsWithin 62 low → IsWithin 63 step → pos 0 <ℤ step → IsWithin 64 (ceiling low step *ℤ step)
multiple_within low (pos n) h k positive =
    let some : 0 < n = omega (arith, ints, positive) in
    let f = is_floor (neg_ℤ low) n some in
    above low (pos n) (floor (neg_ℤ low) (pos n)) n f.rest refl f.less f.is h k
multiple_within low (negsuc n) h k positive = absurd (omega (arith, ints, positive))

-- as it is read
pub product_read : (low step count : ℤ) → IsWithin 62 low → IsWithin 63 step → pos 0 <ℤ step → SFits w128 count → count ≡ ceiling (to_z w128 (of_z w128 low)) (to_z w128 (of_z w128 step))
    → IsWithin 64 (to_z w128 (of_z w128 count) *ℤ to_z w128 (of_z w128 step))
product_read low step count h k positive fits is =
    let same_low = short_in_code low (omega (arith, h)) in
    let same_step = short_in_code step (omega (arith, k)) in
    let same_count : to_z w128 (of_z w128 count) ≡ ceiling low step = to_z-of_z w128 count fits ∙ is ∙ ap₂ ceiling same_low same_step in
    subst (IsWithin 64) (sym (ap₂ (λ (x y : ℤ). x *ℤ y) same_count same_step)) (multiple_within low step h k positive)
