-- Hulls, place by place: they contain both reaches, and are made in place.
use Rattle.std.proofs.Common.{◌≡◌, ℕ, zero, suc, ◌<◌, ◌≤◌, List, [], ◌∷◌, length, get_or, set, arith, refl, ap, ap₂, ◌∙◌, take_at, Option, Some, None}
use Rattle.std.specs.Prelude.{ℤ}
use Rattle.std.specs.List.{refill}
use Rattle.ded_ranges.specs.declared.reach.Range.{Range}
use Rattle.ded_ranges.specs.Reaches.{everywhere, range_at, lower_of, higher_of, joined, hull, IsWithin}
use Rattle.ded_ranges.proofs.Ends.{part_first, part_second, part_trans, part_self, part_everywhere}

pub range_at-here : (rs : List Range) (p : ℕ) (d : Range) → p < length rs → get_or rs p d ≡ range_at rs p
range_at-here [] p d h = absurd (omega (arith, h))
range_at-here (r ∷ rs) zero d h = refl
range_at-here (r ∷ rs) (suc p) d h = range_at-here rs p d (omega (arith, h))

pub range_at-past : (rs : List Range) (p : ℕ) → length rs ≤ p → everywhere ≡ range_at rs p
range_at-past [] p h = refl
range_at-past (r ∷ rs) zero h = absurd (omega (arith, h))
range_at-past (r ∷ rs) (suc p) h = range_at-past rs p (omega (arith, h))

pub hull_first : (rs ss : List Range) → IsWithin rs (hull rs ss)
hull_first [] ss p = part_everywhere (range_at [] p)
hull_first (r ∷ rs) [] zero = part_everywhere r
hull_first (r ∷ rs) (s ∷ ss) zero = part_first r s
hull_first (r ∷ rs) [] (suc p) = hull_first rs [] p
hull_first (r ∷ rs) (s ∷ ss) (suc p) = hull_first rs ss p

pub hull_second : (rs ss : List Range) → IsWithin ss (hull rs ss)
hull_second [] ss p = part_everywhere (range_at ss p)
hull_second (r ∷ rs) [] zero = part_everywhere everywhere
hull_second (r ∷ rs) (s ∷ ss) zero = part_second r s
hull_second (r ∷ rs) [] (suc p) = part_trans everywhere (range_at [] p) (range_at (hull rs []) p) (part_self everywhere) (hull_second rs [] p)
hull_second (r ∷ rs) (s ∷ ss) (suc p) = hull_second rs ss p

pub within_trans : (rs ss ts : List Range) → IsWithin rs ss → IsWithin ss ts → IsWithin rs ts
within_trans rs ss ts h k p = part_trans (range_at rs p) (range_at ss p) (range_at ts p) (h p) (k p)

-- ---- in place: the first i are widened

abbrev pub widened : List Range → List Range → ℕ → List Range
widened rs ss zero = rs
widened [] ss (suc i) = []
widened (r ∷ rs) [] (suc i) = everywhere ∷ widened rs [] i
widened (r ∷ rs) (s ∷ ss) (suc i) = joined r s ∷ widened rs ss i

joined_everywhere : (r : Range) → joined r everywhere ≡ everywhere
joined_everywhere r = by r.low r.high
  where
    low : (o : Option ℤ) → lower_of o None ≡ None
    low None = refl
    low (Some a) = refl

    high : (o : Option ℤ) → higher_of o None ≡ None
    high None = refl
    high (Some a) = refl

    by : (o p : Option ℤ) → record { low = lower_of o None; high = higher_of p None } ≡ everywhere
    by o p = rw (low o, high p) refl

pub widened_at : (rs ss : List Range) (i : ℕ) (d : Range) → i < length rs → get_or (widened rs ss i) i d ≡ range_at rs i
widened_at [] ss i d h = absurd (omega (arith, h))
widened_at (r ∷ rs) ss zero d h = refl
widened_at (r ∷ rs) [] (suc i) d h = widened_at rs [] i d (omega (arith, h))
widened_at (r ∷ rs) (s ∷ ss) (suc i) d h = widened_at rs ss i d (omega (arith, h))

pub widened_more : (rs ss : List Range) (i : ℕ) (x : Range) → i < length rs → x ≡ joined (range_at rs i) (range_at ss i) → set (widened rs ss i) i x ≡ widened rs ss (suc i)
widened_more [] ss i x h e = absurd (omega (arith, h))
widened_more (r ∷ rs) [] zero x h e = ap (λ y. y ∷ rs) (e ∙ joined_everywhere r)
widened_more (r ∷ rs) (s ∷ ss) zero x h e = ap (λ y. y ∷ rs) e
widened_more (r ∷ rs) [] (suc i) x h e = ap (λ ys. everywhere ∷ ys) (widened_more rs [] i x (omega (arith, h)) e)
widened_more (r ∷ rs) (s ∷ ss) (suc i) x h e = ap (λ ys. joined r s ∷ ys) (widened_more rs ss i x (omega (arith, h)) e)

pub widened_all : (rs ss : List Range) → widened rs ss (length rs) ≡ hull rs ss
widened_all [] ss = refl
widened_all (r ∷ rs) [] = ap (λ ys. everywhere ∷ ys) (widened_all rs [])
widened_all (r ∷ rs) (s ∷ ss) = ap (λ ys. joined r s ∷ ys) (widened_all rs ss)

pub widened-length : (rs ss : List Range) (i : ℕ) → length (widened rs ss i) ≡ length rs
widened-length rs ss zero = refl
widened-length [] ss (suc i) = refl
widened-length (r ∷ rs) [] (suc i) = ap suc (widened-length rs [] i)
widened-length (r ∷ rs) (s ∷ ss) (suc i) = ap suc (widened-length rs ss i)

pub hull-length : (rs ss : List Range) → length (hull rs ss) ≡ length rs
hull-length [] ss = refl
hull-length (r ∷ rs) [] = ap suc (hull-length rs [])
hull-length (r ∷ rs) (s ∷ ss) = ap suc (hull-length rs ss)

-- what was lent is widened
pub hull_held : (old items lent other others new : List Range) → items ≡ old → lent ≡ items → others ≡ other → new ≡ hull lent others → refill (length items) items new ≡ hull old other
hull_held old items lent other others new e f g h =
    let is : new ≡ hull items others = h ∙ ap (λ (rs : List Range). hull rs others) f in
    take_at new _ (length items) (ap (λ (rs : List Range). length rs) is ∙ hull-length items others) ∙ is ∙ ap₂ hull e g
