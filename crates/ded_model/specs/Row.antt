-- When a row, a text atom, a tuple and a list of tuples hold at a point. All of this is a test.
use Rattle.std.specs.Prelude.{ℤ, pos, ◌+ℤ◌, ◌*ℤ◌, int_lt, int_le, Bool, false, not, ◌||◌, List, [], ◌∷◌}
use Rattle.std.specs.Str.{bytes_eq}
use Rattle.std.specs.List.{list_all, list_any}
use Rattle.std.specs.Ordering.{int_eq}
use Rattle.ded_model.specs.declared.slot.Slot.{Slot}
use Rattle.ded_model.specs.declared.row.RowOp.{RowOp}
use Rattle.ded_model.specs.declared.row.RowOp.TheVariants.{Zero, AtMost, Below}
use Rattle.ded_model.specs.declared.tuple.ThemeAtom.{ThemeAtom}
use Rattle.ded_model.specs.declared.tuple.ThemeAtom.TheVariants.{EqText, NeText, EqSlot, NeSlot}
use Rattle.ded_model.specs.declared.tuple.BothAtom.{BothAtom}
use Rattle.ded_model.specs.declared.tuple.BothAtom.TheVariants.{First, Second}
use Rattle.ded_model.specs.Constraint.{LinearConstraint}
use Rattle.ded_model.specs.Point.{Key, slot, name, Point, same_slot, number_at, text_at}

-- ---- when it holds

-- the sum of the coefficients times the numbers of the slots
abbrev pub sum_at : List (Slot × ℤ) → Point → ℤ
sum_at [] p = pos 0
sum_at (c ∷ cs) p = c.1 *ℤ number_at p (slot c.0) +ℤ sum_at cs p

-- the row's sum, over the point's denominator
abbrev pub row_at : LinearConstraint → Point → ℤ
row_at r p = sum_at r.coefs p +ℤ r.constant *ℤ pos p.den

-- the number is 0, at most 0, or below 0
abbrev pub sign_meets : RowOp → ℤ → Bool
sign_meets Zero s = int_eq s (pos 0)
sign_meets AtMost s = int_le s (pos 0)
sign_meets Below s = int_lt s (pos 0)

-- the row's sum compares with 0 as the row says
unfoldable pub row_holds : LinearConstraint → Point → Bool
row_holds r p = sign_meets r.op (row_at r p)

-- the texts are the same or differ, as the text atom says
unfoldable pub theme_holds : ThemeAtom → Point → Bool
theme_holds (EqText s t) p = bytes_eq (text_at p (slot s)) t
theme_holds (NeText s t) p = not (bytes_eq (text_at p (slot s)) t)
theme_holds (EqSlot s t) p = bytes_eq (text_at p (slot s)) (text_at p (slot t))
theme_holds (NeSlot s t) p = not (bytes_eq (text_at p (slot s)) (text_at p (slot t)))

-- an atom of a generalized tuple
abbrev pub Atom : Type 0
Atom = BothAtom LinearConstraint ThemeAtom

-- the row or the text atom holds
unfoldable pub atom_holds : Atom → Point → Bool
atom_holds (First r) p = row_holds r p
atom_holds (Second a) p = theme_holds a p

-- all the atoms hold; a tuple without atoms holds everywhere
unfoldable pub tuple_holds : List Atom → Point → Bool
tuple_holds atoms p = list_all (λ a. atom_holds a p) atoms

-- some tuple holds; an empty list holds nowhere
unfoldable pub tuples_hold : List (List Atom) → Point → Bool
tuples_hold tuples p = list_any (λ t. tuple_holds t p) tuples

-- ---- the slots that are mentioned

-- whether the row has a coefficient of the slot
unfoldable pub row_mentions : LinearConstraint → Slot → Bool
row_mentions r s = list_any (λ c. same_slot c.0 s) r.coefs

-- whether the slot is one that the text atom compares
unfoldable pub theme_mentions : ThemeAtom → Slot → Bool
theme_mentions (EqText s t) u = same_slot s u
theme_mentions (NeText s t) u = same_slot s u
theme_mentions (EqSlot s t) u = same_slot s u || same_slot t u
theme_mentions (NeSlot s t) u = same_slot s u || same_slot t u

-- whether the row or the text atom mentions the slot
unfoldable pub atom_mentions : Atom → Slot → Bool
atom_mentions (First r) s = row_mentions r s
atom_mentions (Second a) s = theme_mentions a s

-- whether some atom of the tuple mentions the slot
unfoldable pub tuple_mentions : List Atom → Slot → Bool
tuple_mentions atoms s = list_any (λ a. atom_mentions a s) atoms

-- whether some tuple mentions the slot
unfoldable pub tuples_mention : List (List Atom) → Slot → Bool
tuples_mention tuples s = list_any (λ t. tuple_mentions t s) tuples

-- a test of slots, for keys; no name passes it
abbrev pub at_slot : (Slot → Bool) → Key → Bool
at_slot test (slot s) = test s
at_slot test (name x) = false
