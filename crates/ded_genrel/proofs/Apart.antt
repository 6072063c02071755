-- No point satisfies two conjunctions whose boxes share no value: the point's own values would lie in both.
use Rattle.std.proofs.Common.{◌≡◌, ℕ, ◌<◌, Bool, true, false, ◌&&◌, List, [], ◌∷◌, arith, refl}
use Rattle.std.specs.Prelude.{pos, ◌<ℤ◌}
use Rattle.std.proofs.lemmas.Int.{ints}
use Rattle.ded_model.specs.declared.slot.Slot.{Slot}
use Rattle.ded_model.specs.Point.{Point, IsPoint}
use Rattle.ded_model.specs.Cell.{conj_holds, HoldsNowhere}
use Rattle.ded_box.specs.Boxes.{AreValues, Shared}
use Rattle.ded_box.proofs.Shares.{Box}
use Rattle.ded_genrel.specs.Rounds.{values_at, IsRound}

pub values_positive : (ss : List Slot) (p : Point) → IsPoint p → AreValues (values_at ss p)
values_positive [] p i = tt
values_positive (s ∷ ss) p i = (above p.den i.positive, values_positive ss p i)
  where
    above : (n : ℕ) → 0 < n → pos 0 <ℤ pos n
    above n h = omega (arith, ints)

not_both : (a b : Bool) → (a ≡ true → b ≡ true → ⊥) → (a && b) ≡ false
not_both true true n = absurd (n refl refl)
not_both true false n = refl
not_both false b n = refl

pub apart_boxes : {A : Type 0} (h : A → Point → Bool) (ss : List Slot) (c d : List A) (x y : Box) → IsRound h ss c x → IsRound h ss d y → (Shared x y → ⊥) → HoldsNowhere (λ p. conj_holds h c p && conj_holds h d p)
apart_boxes h ss c d x y r s n p i =
    not_both (conj_holds h c p) (conj_holds h d p) (λ a b. n (record { values = values_at ss p; positive = values_positive ss p i; first = r p i a; second = s p i b }))
