-- What is inside of bounds: the narrower of two bounds lets through what both do, and two bounds that may meet are those
-- between which some value stands.
use Rattle.std.proofs.Common.{◌≡◌, Bool, true, false, not, cond, arith, refl, ap}
use Rattle.std.specs.Prelude.{pos}
use Rattle.std.specs.Bool.{Decides}
use Rattle.std.proofs.lemmas.Int.{ints}
use Rattle.ded_model.specs.declared.row.RowOp.TheVariants.{AtMost, Below}
use Rattle.ded_model.specs.declared.bound.Bound.{Bound}
use Rattle.ded_model.specs.declared.bound.Bound.TheVariants.{Infinite, Excluded, Included}
use Rattle.ded_model.specs.Bound.{Fraction, End, lower, upper, is_outside}
use Rattle.ded_model.proofs.Core.{Meets, below_at_most}
use Rattle.ded_box.specs.Intervals.{IsPositive, OnFraction, HasPositive, is_inside, narrower, wider, may_meet}
use Rattle.ded_box.proofs.Gaps.{gap_at, gap_self, outside_decides, not_outside_decides, chain_at, middle, middle-positive, middle-after, middle-before, beyond, beyond-positive, beyond-outside}

-- ---- bounds as facts

abbrev pub Inside : End → Bound → Fraction → Type 0
Inside e Infinite v = Unit {0}
Inside e (Excluded f) v = Meets Below (gap_at e f v)
Inside e (Included f) v = Meets AtMost (gap_at e f v)

pub inside_decides : (e : End) (b : Bound) (v : Fraction) → Decides (is_inside e b v) (Inside e b v)
inside_decides e Infinite v = (λ h. tt, λ h. refl)
inside_decides e (Excluded f) v = outside_decides e f v
inside_decides e (Included f) v = not_outside_decides e v f

-- ---- the narrower of two bounds

-- it is one of the two
pub narrower-one : (P : Bound → Type 0) (e : End) (a b : Bound) → P a → P b → P (narrower e a b)
narrower-one P e Infinite b h k = k
narrower-one P e (Excluded f) Infinite h k = h
narrower-one P e (Excluded f) (Excluded g) h k = elim (is_outside e f g) as (λ t. P (cond t (Excluded g) (Excluded f))) [ true ↦ k | false ↦ h ]
narrower-one P e (Excluded f) (Included g) h k = elim (is_outside e f g) as (λ t. P (cond t (Included g) (Excluded f))) [ true ↦ k | false ↦ h ]
narrower-one P e (Included f) Infinite h k = h
narrower-one P e (Included f) (Excluded g) h k = elim (is_outside e g f) as (λ t. P (cond t (Included f) (Excluded g))) [ true ↦ h | false ↦ k ]
narrower-one P e (Included f) (Included g) h k = elim (is_outside e g f) as (λ t. P (cond t (Included f) (Included g))) [ true ↦ h | false ↦ k ]

pub narrower-fraction : (P : Fraction → Type 0) (e : End) (a b : Bound) → OnFraction P a → OnFraction P b → OnFraction P (narrower e a b)
narrower-fraction P e a b h k = narrower-one (OnFraction P) e a b h k

-- what is not outside of f, or f itself, lies at f or within
not_outside : (e : End) (f g : Fraction) → is_outside e f g ≡ false → Meets AtMost (gap_at e g f)
not_outside e f g h = (not_outside_decides e f g).0 (ap not h)

abbrev Both : End → Bound → Bound → Fraction → Type 0
Both e a b v = Inside e a v × Inside e b v

-- a test chooses between two bounds of which the chosen one implies the other
chosen : (e : End) (t : Bool) (a b : Bound) (v : Fraction) → (t ≡ true → Inside e b v → Inside e a v) → (t ≡ false → Inside e a v → Inside e b v)
    → (Inside e (cond t b a) v → Both e a b v) × (Both e a b v → Inside e (cond t b a) v)
chosen e true a b v h k = (λ i. (h refl i, i), λ i. i.1)
chosen e false a b v h k = (λ i. (i, k refl i), λ i. i.0)

module _ (e : End) (f g v : Fraction) (pf : IsPositive f) (pg : IsPositive g) (pv : IsPositive v) where
  -- f outside of g
  far_below : is_outside e f g ≡ true → Meets AtMost (gap_at e g v) → Meets Below (gap_at e f v)
  far_below h k = chain_at e Below AtMost f g v pf pg pv ((outside_decides e f g).0 h) k

  -- f at g or within
  near_at_most : is_outside e f g ≡ false → Meets AtMost (gap_at e f v) → Meets AtMost (gap_at e g v)
  near_at_most h k = chain_at e AtMost AtMost g f v pg pf pv (not_outside e f g h) k

  near_below : is_outside e f g ≡ false → Meets Below (gap_at e f v) → Meets Below (gap_at e g v)
  near_below h k = chain_at e AtMost Below g f v pg pf pv (not_outside e f g h) k

-- the narrower bound says what both say
pub narrower-is : (e : End) (a b : Bound) (v : Fraction) → HasPositive a → HasPositive b → IsPositive v → (Inside e (narrower e a b) v → Both e a b v) × (Both e a b v → Inside e (narrower e a b) v)
narrower-is e Infinite b v pa pb pv = (λ i. (tt, i), λ i. i.1)
narrower-is e (Excluded f) Infinite v pa pb pv = (λ i. (i, tt), λ i. i.0)
narrower-is e (Excluded f) (Excluded g) v pa pb pv =
    chosen e (is_outside e f g) (Excluded f) (Excluded g) v (λ t i. far_below e f g v pa pb pv t (below_at_most _ i)) (near_below e f g v pa pb pv)
narrower-is e (Excluded f) (Included g) v pa pb pv =
    chosen e (is_outside e f g) (Excluded f) (Included g) v (far_below e f g v pa pb pv) (λ t i. below_at_most _ (near_below e f g v pa pb pv t i))
narrower-is e (Included f) Infinite v pa pb pv = (λ i. (i, tt), λ i. i.0)
narrower-is e (Included f) (Excluded g) v pa pb pv =
    swapped e (is_outside e g f) (Included f) (Excluded g) v
    (chosen e (is_outside e g f) (Excluded g) (Included f) v (far_below e g f v pb pa pv) (λ t i. below_at_most _ (near_below e g f v pb pa pv t i)))
  where
    swapped : (e : End) (t : Bool) (a b : Bound) (v : Fraction) → (Inside e (cond t a b) v → Both e b a v) × (Both e b a v → Inside e (cond t a b) v)
        → (Inside e (cond t a b) v → Both e a b v) × (Both e a b v → Inside e (cond t a b) v)
    swapped e t a b v h = (λ i. let r = h.0 i in (r.1, r.0), λ i. h.1 (i.1, i.0))
narrower-is e (Included f) (Included g) v pa pb pv =
    swapped e (is_outside e g f) (Included f) (Included g) v
    (chosen e (is_outside e g f) (Included g) (Included f) v (λ t i. below_at_most _ (far_below e g f v pb pa pv t i)) (near_at_most e g f v pb pa pv))
  where
    swapped : (e : End) (t : Bool) (a b : Bound) (v : Fraction) → (Inside e (cond t a b) v → Both e b a v) × (Both e b a v → Inside e (cond t a b) v)
        → (Inside e (cond t a b) v → Both e a b v) × (Both e a b v → Inside e (cond t a b) v)
    swapped e t a b v h = (λ i. let r = h.0 i in (r.1, r.0), λ i. h.1 (i.1, i.0))

-- ---- the wider of two bounds

-- it is one of the two
pub wider-one : (P : Bound → Type 0) (e : End) (a b : Bound) → P a → P b → P (wider e a b)
wider-one P e Infinite b h k = h
wider-one P e (Excluded f) Infinite h k = k
wider-one P e (Excluded f) (Excluded g) h k = elim (is_outside e g f) as (λ t. P (cond t (Excluded g) (Excluded f))) [ true ↦ k | false ↦ h ]
wider-one P e (Excluded f) (Included g) h k = elim (is_outside e f g) as (λ t. P (cond t (Excluded f) (Included g))) [ true ↦ h | false ↦ k ]
wider-one P e (Included f) Infinite h k = k
wider-one P e (Included f) (Excluded g) h k = elim (is_outside e g f) as (λ t. P (cond t (Excluded g) (Included f))) [ true ↦ k | false ↦ h ]
wider-one P e (Included f) (Included g) h k = elim (is_outside e g f) as (λ t. P (cond t (Included g) (Included f))) [ true ↦ k | false ↦ h ]

-- what either lets through
abbrev Either : End → Bound → Bound → Fraction → Bound → Type 0
Either e a b v c = (Inside e a v → Inside e c v) × (Inside e b v → Inside e c v)

-- a test chooses between two bounds of which the chosen one follows from the other
followed : (e : End) (t : Bool) (a b : Bound) (v : Fraction) → (t ≡ true → Inside e a v → Inside e b v) → (t ≡ false → Inside e b v → Inside e a v) → Either e a b v (cond t b a)
followed e true a b v h k = (λ i. h refl i, λ i. i)
followed e false a b v h k = (λ i. i, λ i. k refl i)

followed_turned : (e : End) (t : Bool) (a b : Bound) (v : Fraction) → (t ≡ true → Inside e b v → Inside e a v) → (t ≡ false → Inside e a v → Inside e b v) → Either e a b v (cond t a b)
followed_turned e true a b v h k = (λ i. i, λ i. h refl i)
followed_turned e false a b v h k = (λ i. k refl i, λ i. i)

-- the wider bound lets through what either does
pub wider-is : (e : End) (a b : Bound) (v : Fraction) → HasPositive a → HasPositive b → IsPositive v → Either e a b v (wider e a b)
wider-is e Infinite b v pa pb pv = (λ i. tt, λ i. tt)
wider-is e (Excluded f) Infinite v pa pb pv = (λ i. tt, λ i. tt)
wider-is e (Excluded f) (Excluded g) v pa pb pv =
    followed e (is_outside e g f) (Excluded f) (Excluded g) v (λ t i. far_below e g f v pb pa pv t (below_at_most _ i)) (near_below e g f v pb pa pv)
wider-is e (Excluded f) (Included g) v pa pb pv =
    followed_turned e (is_outside e f g) (Excluded f) (Included g) v (far_below e f g v pa pb pv) (λ t i. below_at_most _ (near_below e f g v pa pb pv t i))
wider-is e (Included f) Infinite v pa pb pv = (λ i. tt, λ i. tt)
wider-is e (Included f) (Excluded g) v pa pb pv =
    followed e (is_outside e g f) (Included f) (Excluded g) v (far_below e g f v pb pa pv) (λ t i. below_at_most _ (near_below e g f v pb pa pv t i))
wider-is e (Included f) (Included g) v pa pb pv =
    followed e (is_outside e g f) (Included f) (Included g) v (λ t i. below_at_most _ (far_below e g f v pb pa pv t i)) (near_at_most e g f v pb pa pv)

-- ---- bounds of the two ends

-- a bound at the one end and a bound at the other may meet
abbrev pub MayMeet : End → Bound → Bound → Type 0
MayMeet e Infinite b = Unit {0}
MayMeet e (Excluded f) Infinite = Unit {0}
MayMeet e (Excluded f) (Excluded g) = Meets Below (gap_at e f g)
MayMeet e (Excluded f) (Included g) = Meets Below (gap_at e f g)
MayMeet e (Included f) Infinite = Unit {0}
MayMeet e (Included f) (Excluded g) = Meets Below (gap_at e f g)
MayMeet e (Included f) (Included g) = Meets AtMost (gap_at e f g)

pub may_meet_decides : (a b : Bound) → Decides (may_meet a b) (MayMeet lower a b)
may_meet_decides Infinite b = (λ h. tt, λ h. refl)
may_meet_decides (Excluded f) Infinite = (λ h. tt, λ h. refl)
may_meet_decides (Excluded f) (Excluded g) = outside_decides lower f g
may_meet_decides (Excluded f) (Included g) = outside_decides lower f g
may_meet_decides (Included f) Infinite = (λ h. tt, λ h. refl)
may_meet_decides (Included f) (Excluded g) = outside_decides lower f g
may_meet_decides (Included f) (Included g) = not_outside_decides lower g f

-- the same from the other end
pub may_meet_turned : (a b : Bound) → MayMeet lower a b → MayMeet upper b a
may_meet_turned Infinite Infinite h = tt
may_meet_turned Infinite (Excluded g) h = tt
may_meet_turned Infinite (Included g) h = tt
may_meet_turned (Excluded f) Infinite h = tt
may_meet_turned (Excluded f) (Excluded g) h = h
may_meet_turned (Excluded f) (Included g) h = h
may_meet_turned (Included f) Infinite h = tt
may_meet_turned (Included f) (Excluded g) h = h
may_meet_turned (Included f) (Included g) h = h

-- where a value is inside of both, they may meet
pub inside_meet : (a b : Bound) (v : Fraction) → HasPositive a → HasPositive b → IsPositive v → Inside lower a v → Inside upper b v → MayMeet lower a b
inside_meet Infinite b v pa pb pv h k = tt
inside_meet (Excluded f) Infinite v pa pb pv h k = tt
inside_meet (Excluded f) (Excluded g) v pa pb pv h k = chain_at lower Below Below f v g pa pv pb h k
inside_meet (Excluded f) (Included g) v pa pb pv h k = chain_at lower Below AtMost f v g pa pv pb h k
inside_meet (Included f) Infinite v pa pb pv h k = tt
inside_meet (Included f) (Excluded g) v pa pb pv h k = chain_at lower AtMost Below f v g pa pv pb h k
inside_meet (Included f) (Included g) v pa pb pv h k = chain_at lower AtMost AtMost f v g pa pv pb h k

-- ---- a value between two bounds

-- where they may meet, some value is inside of both
pub record Between (a b : Bound) : Type 0 where
  pub value : Fraction
  pub positive : IsPositive value
  pub low : Inside lower a value
  pub high : Inside upper b value

at_itself : (f : Fraction) → Meets AtMost (gap_at lower f f)
at_itself f = let z = gap_self lower f in omega (arith, ints)

pub between : (a b : Bound) → HasPositive a → HasPositive b → MayMeet lower a b → Between a b
between Infinite Infinite pa pb m = record { value = record { num = pos 0; den = pos 1 }; positive = omega (arith, ints); low = tt; high = tt }
between Infinite (Excluded g) pa pb m = record { value = beyond lower g; positive = beyond-positive lower g pb; low = tt; high = beyond-outside lower g pb }
between Infinite (Included g) pa pb m = record { value = g; positive = pb; low = tt; high = at_itself g }
between (Excluded f) Infinite pa pb m = record { value = beyond upper f; positive = beyond-positive upper f pa; low = beyond-outside upper f pa; high = tt }
between (Excluded f) (Excluded g) pa pb m = record { value = middle f g; positive = middle-positive f g pa pb; low = middle-after lower f g pa m; high = middle-before lower f g pb m }
between (Excluded f) (Included g) pa pb m = record { value = middle f g; positive = middle-positive f g pa pb; low = middle-after lower f g pa m; high = below_at_most _ (middle-before lower f g pb m) }
between (Included f) Infinite pa pb m = record { value = f; positive = pa; low = at_itself f; high = tt }
between (Included f) (Excluded g) pa pb m = record { value = middle f g; positive = middle-positive f g pa pb; low = below_at_most _ (middle-after lower f g pa m); high = middle-before lower f g pb m }
between (Included f) (Included g) pa pb m = record { value = f; positive = pa; low = at_itself f; high = m }

-- what is inside of a bound is so further in
pub further : (e : End) (b : Bound) (v w : Fraction) → HasPositive b → IsPositive v → IsPositive w → Inside e b w → Meets AtMost (gap_at e w v) → Inside e b v
further e Infinite v w pb pv pw i h = tt
further e (Excluded f) v w pb pv pw i h = chain_at e Below AtMost f w v pb pw pv i h
further e (Included f) v w pb pv pw i h = chain_at e AtMost AtMost f w v pb pw pv i h
