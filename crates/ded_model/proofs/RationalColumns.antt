-- The rational columns of a heading, and their slots.
use Rattle.std.proofs.Common.{◌≡◌, ℕ, ◌+◌, Bool, true, false, cond, List, [], ◌∷◌, length, inl, inr, arith, refl, sym, ap, ◌∙◌, subst, true≢false}
use Rattle.ded_model.specs.declared.name.Column.{Column}
use Rattle.ded_model.specs.declared.slot.Slot.{Slot}
use Rattle.ded_model.specs.declared.slot.Sort.{Sort}
use Rattle.ded_model.specs.declared.slot.Sort.TheVariants.{Rat}
use Rattle.ded_model.specs.Known.{heading_slots}
use Rattle.ded_model.specs.Point.{same_slot, same_sort, stands_in}
use Rattle.ded_model.specs.Width.{rational_columns}
use Rattle.ded_model.proofs.Members.{or_split}
use Rattle.ded_model.proofs.Points.{same_slot_is}
use Rattle.ded_model.proofs.Rows.{or_left, or_right}

-- the slots of the rational columns of a heading, from slot i on
pub rational_heading : ℕ → List Column → List Slot
rational_heading i [] = []
rational_heading i (c ∷ cs) = cond (same_sort c.sort Rat) (record { number = i; sort = c.sort } ∷ rational_heading (i + 1) cs) (rational_heading (i + 1) cs)

-- they are as many as the rational columns
pub rational_heading-length : (i : ℕ) (cs : List Column) → length (rational_heading i cs) ≡ rational_columns cs
unfolding rational_heading
rational_heading-length i [] = refl
rational_heading-length i (c ∷ cs) = by (same_sort c.sort Rat) (rational_heading-length (i + 1) cs)
  where
    by : (b : Bool) → length (rational_heading (i + 1) cs) ≡ rational_columns cs
        → length (cond b (record { number = i; sort = c.sort } ∷ rational_heading (i + 1) cs) (rational_heading (i + 1) cs)) ≡ cond b 1 0 + rational_columns cs
    by true e = omega (arith, e)
    by false e = omega (arith, e)

pub rational_sort : (s : Sort) → s ≡ Rat → same_sort s Rat ≡ true
rational_sort s e = subst (λ x. same_sort x Rat ≡ true) (sym e) refl

-- each rational slot of the heading is one of them
pub rational_heading-has : (i : ℕ) (cs : List Column) (s : Slot) → stands_in (heading_slots i cs) s ≡ true → s.sort ≡ Rat → stands_in (rational_heading i cs) s ≡ true
unfolding rational_heading
rational_heading-has i [] s h r = absurd (true≢false (sym h))
rational_heading-has i (c ∷ cs) s h r = elim (or_split (same_slot (record { number = i; sort = c.sort }) s) (stands_in (heading_slots (i + 1) cs) s) h) [
  | inl e ↦ first (same_sort c.sort Rat) (rational_sort c.sort (ap (λ (u : Slot). u.sort) (same_slot_is (record { number = i; sort = c.sort }) s e) ∙ r)) e
  | inr e ↦ later (same_sort c.sort Rat) (rational_heading-has (i + 1) cs s e r)
]
  where
    first : (b : Bool) → b ≡ true → same_slot (record { number = i; sort = c.sort }) s ≡ true → stands_in (cond b (record { number = i; sort = c.sort } ∷ rational_heading (i + 1) cs) (rational_heading (i + 1) cs)) s ≡ true
    first true f e = or_left _ (stands_in (rational_heading (i + 1) cs) s) e
    first false f e = absurd (true≢false (sym f))

    later : (b : Bool) → stands_in (rational_heading (i + 1) cs) s ≡ true → stands_in (cond b (record { number = i; sort = c.sort } ∷ rational_heading (i + 1) cs) (rational_heading (i + 1) cs)) s ≡ true
    later true e = or_right (same_slot (record { number = i; sort = c.sort }) s) _ e
    later false e = e
