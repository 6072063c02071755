-- The values of a slot at the points of a tuple lie between the bounds of the slot, rounded outward.
use Rattle.std.proofs.Common.{◌≡◌, Bool, true, List, sym, ◌∙◌, true≢false}
use Rattle.ded_model.specs.declared.slot.Slot.{Slot}
use Rattle.ded_model.specs.declared.bound.Bound.{Bound}
use Rattle.ded_model.specs.declared.bound.Bound.TheVariants.{Infinite, Excluded, Included}
use Rattle.ded_model.specs.Bound.{End, lower, upper, value_at}
use Rattle.ded_model.specs.Cell.{conj_holds, HoldsNowhere}
use Rattle.ded_model.specs.Interval.{IsExactBound}
use Rattle.ded_model.specs.Point.{Point, IsPoint, slot, number_at}
use Rattle.ded_model.specs.Row.{Atom, row_holds, theme_holds, tuple_holds}
use Rattle.ded_theory.specs.Both.{by_kind}
use Rattle.ded_theory.specs.Verdicts.{IsBound}
use Rattle.ded_theory.proofs.Shared.{holds_alike}
use Rattle.ded_ranges.specs.declared.reach.Range.{Range}
use Rattle.ded_ranges.specs.Reaches.{NotOutside, IsFloor, IsCeil}
use Rattle.ded_relation.specs.Ends.{IsRangeOf}

-- ---- a tuple as a conjunction

-- ---- within bounds

module _ (test : Point → Bool) (s : Slot) (e : End) where
  exact_inside : (b : Bound) → IsExactBound test s e b → (p : Point) → IsPoint p → test p ≡ true → NotOutside e b (value_at s p)
  exact_inside Infinite h p i is = tt
  exact_inside (Excluded f) h p i is = h.none p i is
  exact_inside (Included f) h p i is = h.none p i is

  sure_inside : (b : Bound) → IsBound test s e b → (p : Point) → IsPoint p → test p ≡ true → NotOutside e b (value_at s p)
  sure_inside Infinite h p i is = tt
  sure_inside (Excluded f) h p i is = h.0 p i is
  sure_inside (Included f) h p i is = h p i is

module _ (t : List Atom) (s : Slot) (r : Range) where
  abbrev test : Point → Bool
  test = conj_holds (by_kind row_holds theme_holds) t

  also : (p : Point) → tuple_holds t p ≡ true → test p ≡ true
  also p is = holds_alike t p ∙ is

  pub exact_range : (l u : Bound) → IsFloor l r.low → IsCeil u r.high → IsExactBound test s lower l × IsExactBound test s upper u → IsRangeOf r s (tuple_holds t)
  exact_range l u low high h = λ p i is. record {
    low = low (number_at p (slot s)) p.den (exact_inside test s lower l h.0 p i (also p is));
    high = high (number_at p (slot s)) p.den (exact_inside test s upper u h.1 p i (also p is));
  }

  pub sure_range : (l u : Bound) → IsFloor l r.low → IsCeil u r.high → IsBound test s lower l → IsBound test s upper u → IsRangeOf r s (tuple_holds t)
  sure_range l u low high h k = λ p i is. record {
    low = low (number_at p (slot s)) p.den (sure_inside test s lower l h p i (also p is));
    high = high (number_at p (slot s)) p.den (sure_inside test s upper u k p i (also p is));
  }

  pub no_range : HoldsNowhere test → IsRangeOf r s (tuple_holds t)
  no_range h = λ p i is. absurd (true≢false (sym (also p is) ∙ h p i))
