-- Two exact bounds of one test at one end are the same, and so are two exact boxes.
--
-- Neither lies outside of the other, so they have one value, and in lowest terms a value is one fraction.
use Rattle.std.proofs.Common.{◌≡◌, ℕ, suc, ◌+◌, ◌*◌, Bool, false, not, List, [], ◌∷◌, arith, refl, sym, ap, ap₂, ◌∙◌, subst, true≢false}
use Rattle.std.specs.Prelude.{ℤ, pos, int_lt, ◌*ℤ◌, ◌-ℤ◌, ◌<ℤ◌, ◌≤ℤ◌, unsigned_abs}
use Rattle.std.proofs.lemmas.Bool.{not-true, false_from_ne_true}
use Rattle.std.proofs.lemmas.Int.{ints}
use Rattle.std.proofs.lemmas.Nat.Gcd.{IsGcd-from_zero, IsGcd-swap}
use Rattle.ded_box.specs.Extents.{BoundsAt, AreBounds, IsBox}
use Rattle.ded_box.specs.Intervals.{IsPositive}
use Rattle.ded_box.proofs.Exact.{value-positive}
use Rattle.ded_box.proofs.Gaps.{gap_at, chain_at, not_outside_decides}
use Rattle.ded_model.specs.declared.bound.Bound.{Bound}
use Rattle.ded_model.specs.declared.bound.Bound.TheVariants.{Infinite, Excluded, Included}
use Rattle.ded_model.specs.declared.bound.BoxReply.{BoxReply}
use Rattle.ded_model.specs.declared.bound.BoxReply.TheVariants.{Nowhere, NoRational, Spans}
use Rattle.ded_model.specs.declared.name.Column.{Column}
use Rattle.ded_model.specs.declared.row.RowOp.TheVariants.{AtMost}
use Rattle.ded_model.specs.declared.slot.Slot.{Slot}
use Rattle.ded_model.specs.declared.slot.Sort.{Sort}
use Rattle.ded_model.specs.declared.slot.Sort.TheVariants.{Rat, Text}
use Rattle.ded_model.specs.Bound.{Fraction, End, lower, upper, is_outside, value_at, IsLowest, IsIncluded, IsExcluded, SomeOutside, NoneOutside, SomeAt}
use Rattle.ded_model.specs.Cell.{HoldsSomewhere}
use Rattle.ded_model.specs.Interval.{IsExactBound}
use Rattle.ded_model.specs.Point.{Point, IsPoint}
use Rattle.ded_model.proofs.Core.{Meets}
use Rattle.ded_num.specs.Gcd.{nat_gcd, gcd_all}
use Rattle.ded_num.proofs.Gcds.{nat_gcd_is}
use Rattle.ded_num.proofs.Signs.{abs_above, times_swap}
use Rattle.ded_row.proofs.Scaling.{gcd_all-times, magnitude, cancel_factor}

-- ---- fractions in lowest terms

nonzero : (z : ℤ) → pos 0 <ℤ z → z ≡ pos 0 → ⊥
nonzero z h e = omega (arith, ints)

two_numbers : (n d : ℤ) → nat_gcd (unsigned_abs n) (unsigned_abs d) ≡ gcd_all (n ∷ d ∷ [])
two_numbers n d = ap (λ a. nat_gcd a (unsigned_abs d)) (nat_gcd_is 0 (unsigned_abs n) (unsigned_abs n) (IsGcd-swap (unsigned_abs n) 0 (unsigned_abs n) (IsGcd-from_zero (unsigned_abs n) 0 refl)))

-- the greatest common divisor of multiples of two numbers that have none
only_factor : (k n d : ℤ) → pos 0 <ℤ k → nat_gcd (unsigned_abs n) (unsigned_abs d) ≡ 1 → gcd_all ((k *ℤ n) ∷ (k *ℤ d) ∷ []) ≡ unsigned_abs k
only_factor k n d some one =
    let m = magnitude k (nonzero k some) in
    let s : Slot = record { number = 0; sort = Rat } in
    gcd_all-times k n m.0 ((s, d) ∷ []) m.1 ∙ ap (λ g. suc m.0 * g) (sym (two_numbers n d) ∙ one) ∙ omega (arith, m.1)

same_denominators : (f g : Fraction) → pos 0 <ℤ f.den → pos 0 <ℤ g.den → IsLowest f → IsLowest g → f.num *ℤ g.den ≡ g.num *ℤ f.den → f.den ≡ g.den
same_denominators f g pf pg lf lg e =
    let a = only_factor g.den f.num f.den pg lf in
    let b = only_factor f.den g.num g.den pf lg in
    let numbers : g.den *ℤ f.num ≡ f.den *ℤ g.num = times_swap g.den f.num ∙ e ∙ times_swap g.num f.den in
    let sizes : unsigned_abs g.den ≡ unsigned_abs f.den = sym a ∙ ap₂ (λ (x y : ℤ). gcd_all (x ∷ y ∷ [])) numbers (times_swap g.den f.den) ∙ b in
    sym (abs_above f.den pf) ∙ ap pos (sym sizes) ∙ abs_above g.den pg

same_fractions : (f g : Fraction) → pos 0 <ℤ f.den → pos 0 <ℤ g.den → IsLowest f → IsLowest g → f.num *ℤ g.den ≡ g.num *ℤ f.den → f ≡ g
same_fractions f g pf pg lf lg e =
    let dens = same_denominators f g pf pg lf lg e in
    let nums : f.num ≡ g.num =
    cancel_factor g.den f.num g.num (nonzero g.den pg) (times_swap g.den f.num ∙ e ∙ ap (λ d. g.num *ℤ d) dens ∙ times_swap g.num g.den) in
    ap₂ (λ (n d : ℤ). record { num = n; den = d }) nums dens

-- ---- bounds

neither_less : (x y : ℤ) → int_lt x y ≡ false → int_lt y x ≡ false → x ≡ y
neither_less x y h k = grind (arith, ints, h, k)

one_value : (e : End) (f g : Fraction) → is_outside e f g ≡ false → is_outside e g f ≡ false → f.num *ℤ g.den ≡ g.num *ℤ f.den
one_value lower f g h k = neither_less (f.num *ℤ g.den) (g.num *ℤ f.den) h k
one_value upper f g h k = neither_less (f.num *ℤ g.den) (g.num *ℤ f.den) k h

no_gap_at_most : (x y : ℤ) → x ≡ y → (x -ℤ y) ≤ℤ pos 0
no_gap_at_most x y e = omega (arith, ints)

no_further : (e : End) (v f : Fraction) → v.num *ℤ f.den ≡ f.num *ℤ v.den → Meets AtMost (gap_at e v f)
no_further lower v f h = no_gap_at_most (v.num *ℤ f.den) (f.num *ℤ v.den) h
no_further upper v f h = no_gap_at_most (f.num *ℤ v.den) (v.num *ℤ f.den) (sym h)

module _ (test : Point → Bool) (s : Slot) (e : End) where
  none_there : (f : Fraction) → SomeOutside test s e f → NoneOutside test s e f → ⊥
  none_there f some none = true≢false (sym some.3 ∙ none some.0 some.1 some.2)

  -- no exact bound lies outside of what nothing lies outside of
  included_within : (f g : Fraction) → IsPositive g → IsIncluded test s e f → NoneOutside test s e g → is_outside e f g ≡ false
  included_within f g pg x none =
      let v : Fraction = value_at s x.attained.0 in
      let front : Meets AtMost (gap_at e g v) = (not_outside_decides e v g).0 (ap not (none x.attained.0 x.attained.1 x.attained.2)) in
      not-true _ ((not_outside_decides e f g).1 (chain_at e AtMost AtMost g v f pg (value-positive s x.attained.0 x.attained.1) x.positive front (no_further e v f x.attained.3)))

  excluded_within : (f g : Fraction) → IsPositive g → IsExcluded test s e f → NoneOutside test s e g → is_outside e f g ≡ false
  excluded_within f g pg x none = false_from_ne_true (is_outside e f g) (λ o. none_there g (x.near g pg o) none)

  one_bound : (b c : Bound) → IsExactBound test s e b → IsExactBound test s e c → b ≡ c
  one_bound Infinite Infinite x y = refl
  one_bound Infinite (Excluded g) x y = absurd (none_there g (x g y.positive) y.none)
  one_bound Infinite (Included g) x y = absurd (none_there g (x g y.positive) y.none)
  one_bound (Excluded f) Infinite x y = absurd (none_there f (y f x.positive) x.none)
  one_bound (Included f) Infinite x y = absurd (none_there f (y f x.positive) x.none)
  one_bound (Excluded f) (Excluded g) x y =
      ap (λ (h : Fraction). Excluded h)
      (same_fractions f g x.positive y.positive x.lowest y.lowest (one_value e f g (excluded_within f g y.positive x y.none) (excluded_within g f x.positive y x.none)))
  one_bound (Included f) (Included g) x y =
      ap (λ (h : Fraction). Included h)
      (same_fractions f g x.positive y.positive x.lowest y.lowest (one_value e f g (included_within f g y.positive x y.none) (included_within g f x.positive y x.none)))
  one_bound (Excluded f) (Included g) x y =
      let same = same_fractions f g x.positive y.positive x.lowest y.lowest (one_value e f g (excluded_within f g y.positive x y.none) (included_within g f x.positive y x.none)) in
      absurd (x.free (subst (λ h. SomeAt test s h) (sym same) y.attained))
  one_bound (Included f) (Excluded g) x y =
      let same = same_fractions f g x.positive y.positive x.lowest y.lowest (one_value e f g (included_within f g y.positive x y.none) (excluded_within g f x.positive y x.none)) in
      absurd (y.free (subst (λ h. SomeAt test s h) same x.attained))

-- ---- boxes

opposed : {A : Type 0} (test : Point → Bool) → HoldsSomewhere test → ((p : Point) → IsPoint p → test p ≡ false) → A
opposed test some nowhere = absurd (true≢false (sym some.2 ∙ nowhere some.0 some.1))

module _ (test : Point → Bool) where
  same_bounds : (i : ℕ) (h : List Column) (bs cs : List (Bound × Bound)) → AreBounds test i h bs → AreBounds test i h cs → bs ≡ cs
  same_bounds i [] [] [] k l = refl
  same_bounds i [] [] (c ∷ cs) k l = absurd l
  same_bounds i [] (b ∷ bs) cs k l = absurd k
  same_bounds i (c ∷ h) bs cs k l = sorted (λ xs ys. same_bounds (i + 1) h xs ys) c.sort bs cs k l
    where
      sorted : ((xs ys : List (Bound × Bound)) → AreBounds test (i + 1) h xs → AreBounds test (i + 1) h ys → xs ≡ ys)
          → (s : Sort) (bs cs : List (Bound × Bound)) → BoundsAt test i s bs (AreBounds test (i + 1) h) → BoundsAt test i s cs (AreBounds test (i + 1) h) → bs ≡ cs
      sorted more Text bs cs k l = more bs cs k l
      sorted more Rat [] cs k l = absurd k
      sorted more Rat (b ∷ bs) [] k l = absurd l
      sorted more Rat (b ∷ bs) (c ∷ cs) k l =
          let s : Slot = record { number = i; sort = Rat } in
          ap₂ (λ (x : Bound × Bound) (xs : List (Bound × Bound)). x ∷ xs)
          (ap₂ (λ (x y : Bound). (x, y)) (one_bound test s lower b.0 c.0 k.1 l.1) (one_bound test s upper b.1 c.1 k.2 l.2)) (more bs cs k.3 l.3)

  pub same_box : (h : List Column) (r q : BoxReply) → IsBox test h r → IsBox test h q → r ≡ q
  same_box h Nowhere Nowhere k l = refl
  same_box h Nowhere NoRational k l = opposed test l.0 k
  same_box h Nowhere (Spans cs) k l = opposed test l.0 k
  same_box h NoRational Nowhere k l = opposed test k.0 l
  same_box h NoRational NoRational k l = refl
  same_box h NoRational (Spans cs) k l = let e = k.1 in let m = l.1 in absurd (omega (arith, e, m))
  same_box h (Spans bs) Nowhere k l = opposed test k.0 l
  same_box h (Spans bs) NoRational k l = let e = l.1 in let m = k.1 in absurd (omega (arith, e, m))
  same_box h (Spans bs) (Spans cs) k l = ap (λ (xs : List (Bound × Bound)). Spans xs) (same_bounds 0 h bs cs k.2 l.2)
