-- Where a slot has one text, it doesn't have another.
use Rattle.std.proofs.Common.{◌≡◌, ℕ, true, not, List, sym, subst}
use Rattle.std.specs.Str.{bytes_eq}
use Rattle.std.proofs.lemmas.Slice.Eq.{bytes_eq-Decides}
use Rattle.ded_model.specs.declared.slot.Slot.{Slot}
use Rattle.ded_model.specs.declared.tuple.ThemeAtom.TheVariants.{EqText, NeText}
use Rattle.ded_model.specs.Point.{slot, Point, same_slot, text_at}
use Rattle.ded_model.specs.Row.{theme_holds}
use Rattle.ded_model.proofs.Points.{same_slot_is}

pub unlike : (s t : Slot) (x y : List ℕ) → same_slot s t ≡ true → not (bytes_eq x y) ≡ true → (p : Point) → theme_holds (EqText s x) p ≡ true → theme_holds (NeText t y) p ≡ true
unfolding theme_holds
unlike s t x y e k p h = subst (λ u. not (bytes_eq (text_at p (slot u)) y) ≡ true) (same_slot_is s t e)
    (subst (λ z. not (bytes_eq z y) ≡ true) (sym ((bytes_eq-Decides (text_at p (slot s)) x).0 h)) k)
