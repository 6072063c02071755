-- The laws of the theory that don't follow at once: an atom goes by its cell, and mentions text slots alone.
use Rattle.std.proofs.Common.{◌≡◌, Bool, true, false, cond, ◌||◌, inl, inr, refl, ap, subst, ◌∙◌, Some, List, ℕ}
use Rattle.std.specs.Prelude.{ℤ, pos, negsuc, ◌==◌}
use Rattle.std.proofs.lemmas.Bool.{or_cases}
use Rattle.std.proofs.lemmas.Option.{none-some, same_Some}
use Rattle.ded_model.specs.declared.slot.Slot.{Slot}
use Rattle.ded_model.specs.declared.slot.Sort.TheVariants.{Text}
use Rattle.ded_model.specs.declared.tuple.ThemeAtom.{ThemeAtom}
use Rattle.ded_model.specs.declared.tuple.ThemeAtom.TheVariants.{EqText, NeText, EqSlot, NeSlot}
use Rattle.ded_model.specs.Point.{slot, Point, same_slot, text_at}
use Rattle.ded_model.specs.Row.{theme_holds, theme_mentions}
use Rattle.ded_model.specs.Cell.{theme_cell}
use Rattle.ded_model.specs.Normal.{IsNormalTheme}
use Rattle.ded_model.proofs.Points.{same_slot_is}
use Rattle.ded_num.proofs.Tests.{from_same_texts}
use Rattle.ded_theme.specs.Sources.{owns_sort, fixed_by}

-- whether a number is 1
is_one : ℤ → Bool
is_one (pos n) = n == 1
is_one (negsuc n) = false

-- 1 and 0 tell a test
cell-tells : (b c : Bool) → cond b (pos 1) (pos 0) ≡ cond c (pos 1) (pos 0) → b ≡ c
unfolding is_one
cell-tells true true e = refl
cell-tells true false e = ap is_one e
cell-tells false true e = ap is_one e
cell-tells false false e = refl

-- an atom holds alike at points of one cell
pub cells-tell : (a : ThemeAtom) (p q : Point) → theme_cell a p ≡ theme_cell a q → theme_holds a p ≡ theme_holds a q
cells-tell a p q e = cell-tells (theme_holds a p) (theme_holds a q) e

-- a slot that is the same as a text slot
same_text : (s t : Slot) → s.sort ≡ Text → same_slot s t ≡ true → t.sort ≡ Text
same_text s t n h = subst (λ (u : Slot). u.sort ≡ Text) (same_slot_is s t h) n

one_of_two : (s t u : Slot) → s.sort ≡ Text → t.sort ≡ Text → (same_slot s u || same_slot t u) ≡ true → u.sort ≡ Text
one_of_two s t u n k h = elim (or_cases (same_slot s u) (same_slot t u) h) [ inl x ↦ same_text s u n x | inr x ↦ same_text t u k x ]

-- a normal atom mentions text slots
pub text-slot : (a : ThemeAtom) (s : Slot) → IsNormalTheme a → theme_mentions a s ≡ true → s.sort ≡ Text
unfolding theme_mentions
text-slot (EqText s t) u n h = same_text s u n.0 h
text-slot (NeText s t) u n h = same_text s u n.0 h
text-slot (EqSlot s t) u n h = one_of_two s t u n.0 n.1 h
text-slot (NeSlot s t) u n h = one_of_two s t u n.0 n.1 h

-- whose sort the theory owns
pub owned-slots : (a : ThemeAtom) (s : Slot) → IsNormalTheme a → theme_mentions a s ≡ true → owns_sort s.sort ≡ true
owned-slots a s n h = ap owns_sort (text-slot a s n h)

-- where an atom holds, the slot that it fixes has its text
pub fixed-holds : (a : ThemeAtom) (s : Slot) (t : List ℕ) (p : Point) → fixed_by a ≡ Some (s, t) → theme_holds a p ≡ true → text_at p (slot s) ≡ t
unfolding theme_holds
fixed-holds (EqText u v) s t p e h =
    let same : (u, v) ≡ (s, t) = same_Some (u, v) (s, t) e in
    subst (λ (x : Slot). text_at p (slot x) ≡ t) (ap (λ x. x.0) same) (from_same_texts (text_at p (slot u)) v h ∙ ap (λ x. x.1) same)
fixed-holds (NeText u v) s t p e h = absurd (none-some (s, t) e)
fixed-holds (EqSlot u v) s t p e h = absurd (none-some (s, t) e)
fixed-holds (NeSlot u v) s t p e h = absurd (none-some (s, t) e)
