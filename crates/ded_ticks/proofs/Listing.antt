-- The ticks that are added, one by one.
use Rattle.std.proofs.Common.{◌≡◌, ℕ, zero, suc, ◌-◌, List, [], ◌∷◌, ◌++◌, append-nil, append_assoc, Bool, true, false, refl, sym, ap, ap₂, ◌∙◌, arith, to_z, of_z}
use Rattle.std.specs.Prelude.{ℤ, pos, ◌+ℤ◌, int_lt, if◌then◌else◌, Result, Ok, Err, OnOk}
use Rattle.std.specs.Int.{w128}
use Rattle.std.proofs.lemmas.Int.{ints}
use Rattle.ded_num.specs.Length.{IsShort, IsWithin}
use Rattle.ded_num.proofs.Signs.{short_in_code}
use Rattle.ded_svg.specs.declared.picture.Tick.{Tick}
use Rattle.ded_ticks.specs.declared.scale.Scale.{Scale}
use Rattle.ded_ticks.specs.Scales.{high_of, low_of, step_of}
use Rattle.ded_ticks.specs.Steps.{first_multiple}
use Rattle.ded_ticks.specs.Ticks.{tick_at, ticks_from, ticks_of}

-- ---- the list that is left

none_left : (left : ℕ) (s : Scale) (step value : ℤ) → left ≡ 0 → ticks_from left s step value ≡ []
unfolding ticks_from
none_left zero s step value h = refl
none_left (suc k) s step value h = absurd (omega (arith, h))

none_behind : (left : ℕ) (s : Scale) (step value : ℤ) → int_lt (high_of s.axis s.window) value ≡ true → ticks_from left s step value ≡ []
unfolding ticks_from
none_behind zero s step value h = refl
none_behind (suc k) s step value h = ap (λ (b : Bool). if b then [] else (tick_at s value ∷ ticks_from k s step (value +ℤ step))) h

one_more : (left : ℕ) (s : Scale) (step value : ℤ) → (left ≡ 0 → ⊥) → int_lt (high_of s.axis s.window) value ≡ false
    → ticks_from left s step value ≡ tick_at s value ∷ ticks_from (left - 1) s step (value +ℤ step)
unfolding ticks_from
one_more zero s step value some h = absurd (some refl)
one_more (suc k) s step value some h =
    let less : k ≡ suc k - 1 = omega arith in
    ap (λ (b : Bool). if b then [] else (tick_at s value ∷ ticks_from k s step (value +ℤ step))) h ∙ ap (λ j. tick_at s value ∷ ticks_from j s step (value +ℤ step)) less

-- ---- the list that is made, over numbers as they are read

test_read : (b : Bool) (high value top : ℤ) → high ≡ top → IsWithin 62 high → IsWithin 64 value → int_lt (to_z w128 (of_z w128 high)) (to_z w128 (of_z w128 value)) ≡ b → int_lt top value ≡ b
test_read b high value top is h k test = sym (ap₂ int_lt (short_in_code high (omega (arith, h)) ∙ is) (short_in_code value (omega (arith, k)))) ∙ test

none_added : (old rest : List Tick) → rest ≡ [] → old ≡ old ++ rest
none_added old rest none = sym (ap (λ z. old ++ z) none ∙ append-nil old)

pub added_all : (old : List Tick) (left : ℕ) (s : Scale) (step value : ℤ) → left ≡ 0 → old ≡ old ++ ticks_from left s step value
added_all old left s step value h = none_added old (ticks_from left s step value) (none_left left s step value h)

pub added_up_to_end : (old : List Tick) (left : ℕ) (s : Scale) (step value high : ℤ) → high ≡ high_of s.axis s.window → IsWithin 62 high → IsWithin 64 value
    → int_lt (to_z w128 (of_z w128 high)) (to_z w128 (of_z w128 value)) ≡ true → old ≡ old ++ ticks_from left s step value
added_up_to_end old left s step value high is h k test =
    none_added old (ticks_from left s step value) (none_behind left s step value (test_read true high value (high_of s.axis s.window) is h k test))

joined : {A E : Type 0} (r : Result A E) (old middle now all rest : List Tick) (t : Tick) → middle ≡ old ++ t ∷ [] → t ∷ rest ≡ all → OnOk r (now ≡ middle ++ rest) → OnOk r (now ≡ old ++ all)
joined (Ok x) old middle now all rest t e f g = g ∙ ap (λ z. z ++ rest) e ∙ append_assoc old (t ∷ []) rest ∙ ap (λ z. old ++ z) f
joined (Err x) old middle now all rest t e f g = tt

sum_short : (value step : ℤ) → IsWithin 64 value → IsWithin 63 step → IsShort (value +ℤ step)
sum_short value step h k = omega (arith, ints, h, k)

pub added_one : {A E : Type 0} (r : Result A E) (old middle now : List Tick) (t : Tick) (left : ℕ) (s : Scale) (step value high : ℤ) → (left ≡ 0 → ⊥) → high ≡ high_of s.axis s.window
    → IsWithin 62 high → IsWithin 64 value → IsWithin 63 step → int_lt (to_z w128 (of_z w128 high)) (to_z w128 (of_z w128 value)) ≡ false → t ≡ tick_at s (to_z w128 (of_z w128 value))
    → middle ≡ old ++ t ∷ [] → OnOk r (now ≡ middle ++ ticks_from (left - 1) s (to_z w128 (of_z w128 step)) (to_z w128 (of_z w128 (to_z w128 (of_z w128 value) +ℤ to_z w128 (of_z w128 step)))))
    → OnOk r (now ≡ old ++ ticks_from left s step value)
added_one r old middle now t left s step value high some is h k l test is_t pushed rest =
    let same_value : to_z w128 (of_z w128 value) ≡ value = short_in_code value (omega (arith, k)) in
    let same_step : to_z w128 (of_z w128 step) ≡ step = short_in_code step (omega (arith, l)) in
    let next = to_z w128 (of_z w128 (to_z w128 (of_z w128 value) +ℤ to_z w128 (of_z w128 step))) in
    let same_next : next ≡ value +ℤ step = ap₂ (λ (x y : ℤ). to_z w128 (of_z w128 (x +ℤ y))) same_value same_step ∙ short_in_code (value +ℤ step) (sum_short value step k l) in
    let same_t : t ≡ tick_at s value = is_t ∙ ap (λ (z : ℤ). tick_at s z) same_value in
    let same_rest : ticks_from (left - 1) s (to_z w128 (of_z w128 step)) next ≡ ticks_from (left - 1) s step (value +ℤ step) = ap₂ (λ (x y : ℤ). ticks_from (left - 1) s x y) same_step same_next in
    let more = one_more left s step value some (test_read false high value (high_of s.axis s.window) is h k test) in
    joined r old middle now (ticks_from left s step value) (ticks_from (left - 1) s (to_z w128 (of_z w128 step)) next) t pushed
    (ap₂ (λ (x : Tick) (ys : List Tick). x ∷ ys) same_t same_rest ∙ sym more) rest

pub all_ticks : (old now : List Tick) (s : Scale) (step low first : ℤ) → old ≡ [] → step ≡ pos (step_of s.axis s.window) → IsWithin 63 step → low ≡ low_of s.axis s.window → IsWithin 62 low
    → first ≡ first_multiple (to_z w128 (of_z w128 low)) (to_z w128 (of_z w128 step)) → IsWithin 64 first
    → now ≡ old ++ ticks_from 9 s (to_z w128 (of_z w128 step)) (to_z w128 (of_z w128 first)) → now ≡ ticks_of s
unfolding ticks_of
all_ticks old now s step low first none is_step h is_low k is_first l added =
    let same_step : to_z w128 (of_z w128 step) ≡ pos (step_of s.axis s.window) = short_in_code step (omega (arith, h)) ∙ is_step in
    let same_low : to_z w128 (of_z w128 low) ≡ low_of s.axis s.window = short_in_code low (omega (arith, k)) ∙ is_low in
    let same_first : to_z w128 (of_z w128 first) ≡ first_multiple (low_of s.axis s.window) (pos (step_of s.axis s.window)) =
    short_in_code first (omega (arith, l)) ∙ is_first ∙ ap₂ (λ (x y : ℤ). first_multiple x y) same_low same_step in
    added ∙ ap (λ z. z ++ ticks_from 9 s (to_z w128 (of_z w128 step)) (to_z w128 (of_z w128 first))) none ∙ ap₂ (λ (x y : ℤ). ticks_from 9 s x y) same_step same_first
