-- The exponent that is chosen, step by step.
use Rattle.std.proofs.Common.{◌≡◌, ◌<◌, ◌≤◌, ℕ, zero, suc, ◌-◌, ◌^◌, Bool, true, false, List, refl, sym, ap, ◌∙◌, subst, arith}
use Rattle.std.specs.Prelude.{pos, nat_le, if◌then◌else◌}
use Rattle.std.proofs.lemmas.Bool.Decides.{nat_tests}
use Rattle.std.proofs.Math.Nat.{one-le-pow}
use Rattle.ded_polygon.specs.Plane.{Spot}
use Rattle.ded_axes.specs.Around.{exponent_from, extent_of, spans}

pub is_le : (a b : ℕ) → a ≤ b → nat_le a b ≡ true
is_le a b h = grind (arith, nat_tests, h)

pub is_not_le : (a b : ℕ) → b < a → nat_le a b ≡ false
is_not_le a b h = grind (arith, nat_tests, h)

pub chosen : (b : Bool) (x y : ℕ) → b ≡ true → x ≡ (if b then x else y)
chosen b x y e = sym (ap (λ (t : Bool). if t then x else y) e)

pub other : (b : Bool) (x y : ℕ) → b ≡ false → y ≡ (if b then x else y)
other b x y e = sym (ap (λ (t : Bool). if t then x else y) e)

pub last_long : (left e : ℕ) (cs : List Spot) → left ≡ 0 → e ≡ extent_of (spans (pos (10 ^ 9)) cs) → 2 ≤ e → 9 ≡ exponent_from left cs
unfolding exponent_from
last_long zero e cs h is long = chosen (nat_le 2 (extent_of (spans (pos (10 ^ 9)) cs))) 9 0 (is_le 2 _ (subst (λ k. 2 ≤ k) is long))
last_long (suc k) e cs h is long = absurd (omega (arith, h))

pub last_short : (left e : ℕ) (cs : List Spot) → left ≡ 0 → e ≡ extent_of (spans (pos (10 ^ 9)) cs) → e < 2 → 0 ≡ exponent_from left cs
unfolding exponent_from
last_short zero e cs h is short = other (nat_le 2 (extent_of (spans (pos (10 ^ 9)) cs))) 9 0 (is_not_le 2 _ (subst (λ k. k < 2) is short))
last_short (suc k) e cs h is short = absurd (omega (arith, h))

pub found_here : (left e : ℕ) (cs : List Spot) → (left ≡ 0 → ⊥) → e ≡ extent_of (spans (pos (10 ^ (10 - left))) cs) → 1000 ≤ e → 10 - left ≡ exponent_from left cs
unfolding exponent_from
found_here zero e cs h is long = absurd (h refl)
found_here (suc k) e cs h is long = chosen (nat_le 1000 (extent_of (spans (pos (10 ^ (10 - suc k))) cs))) (10 - suc k) (exponent_from k cs) (is_le 1000 _ (subst (λ j. 1000 ≤ j) is long))

pub found_behind : (left e : ℕ) (cs : List Spot) (r : ℕ) → (left ≡ 0 → ⊥) → e ≡ extent_of (spans (pos (10 ^ (10 - left))) cs) → e < 1000 → r ≡ exponent_from (left - 1) cs → r ≡ exponent_from left cs
unfolding exponent_from
found_behind zero e cs r h is short rest = absurd (h refl)
found_behind (suc k) e cs r h is short rest =
    let less : suc k - 1 ≡ k = omega arith in
    rest ∙ ap (λ j. exponent_from j cs) less
    ∙ other (nat_le 1000 (extent_of (spans (pos (10 ^ (10 - suc k))) cs))) (10 - suc k) (exponent_from k cs) (is_not_le 1000 _ (subst (λ j. j < 1000) is short))

pub above_zero : (n e : ℕ) → n ≡ 10 ^ e → 0 < n
above_zero n e is = let h = one-le-pow e 10 (omega arith) in omega (arith, is, h)

minus_within : (k : ℕ) → 10 - suc k ≤ 9
minus_within k = omega arith

either : (b : Bool) (x y : ℕ) → x ≤ 9 → y ≤ 9 → (if b then x else y) ≤ 9
either true x y h k = h
either false x y h k = k

pub exponent_most : (left : ℕ) (cs : List Spot) → exponent_from left cs ≤ 9
unfolding exponent_from
exponent_most zero cs = either (nat_le 2 (extent_of (spans (pos (10 ^ 9)) cs))) 9 0 (omega arith) (omega arith)
exponent_most (suc k) cs = either (nat_le 1000 (extent_of (spans (pos (10 ^ (10 - suc k))) cs))) (10 - suc k) (exponent_from k cs) (minus_within k) (exponent_most k cs)
