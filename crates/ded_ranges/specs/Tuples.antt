-- Tuples over columns: their rows as limits, where they may hold, and reaches of them.
use Rattle.std.specs.Prelude.{◌≡◌, ◌+ℤ◌, ◌*ℤ◌, ◌&&◌, ℕ, ℤ, pos, Bool, true, not, List, map}
use Rattle.std.specs.Str.{bytes_eq}
use Rattle.std.specs.List.{list_all}
use Rattle.ded_model.specs.declared.slot.Sort.TheVariants.{Text}
use Rattle.ded_model.specs.declared.slot.Slot.{Slot}
use Rattle.ded_model.specs.declared.row.RowOp.{RowOp}
use Rattle.ded_model.specs.declared.tuple.ThemeAtom.{ThemeAtom}
use Rattle.ded_model.specs.declared.tuple.ThemeAtom.TheVariants.{EqText, NeText, EqSlot, NeSlot}
use Rattle.ded_model.specs.declared.tuple.BothAtom.TheVariants.{First, Second}
use Rattle.ded_model.specs.Point.{Point, IsPoint, same_slot}
use Rattle.ded_model.specs.Row.{Atom, sign_meets}
use Rattle.ded_ranges.specs.declared.reach.Range.{Range}
use Rattle.ded_ranges.specs.Reaches.{IsIn, Lies}
use Rattle.ded_ranges.specs.Limits.{Term, may_be}
use Rattle.ded_ranges.specs.Windows.{column_value}

-- ---- reaches

-- the reach contains the values of each point that passes the test
abbrev pub IsReachOf : List Range → (Point → Bool) → Type 0
IsReachOf rs test = (p : Point) → IsPoint p → test p ≡ true → Lies rs (column_value p) p.den

-- the range contains the values of a column of which a multiple and a constant stand to 0 as the op says
abbrev pub IsRangeOf : Range → ℤ → ℤ → RowOp → Type 0
IsRangeOf r a c op = (num : ℤ) (den : ℕ) → sign_meets op (a *ℤ num +ℤ c *ℤ pos den) ≡ true → IsIn r num den

-- ---- tuples

-- the coefficients as terms, by the numbers of their slots
abbrev pub terms_of : List (Slot × ℤ) → List Term
terms_of cs = map (λ c. (c.0.number, c.1)) cs

-- the slot is that of the text column of the number
abbrev pub is_text_column : Slot → ℕ → Bool
is_text_column s i = same_slot s (record { number = i; sort = Text })

-- a text that stands in a column doesn't contradict that the slot has the text
abbrev pub may_equal : Slot → List ℕ → ℕ × List ℕ → Bool
may_equal s t u = not (is_text_column s u.0 && not (bytes_eq u.1 t))

-- a text that stands in a column doesn't contradict that the slot has another text than this one
abbrev pub may_differ : Slot → List ℕ → ℕ × List ℕ → Bool
may_differ s t u = not (is_text_column s u.0 && bytes_eq u.1 t)

-- the texts that stand in columns don't contradict the text atom
abbrev pub agrees : List (ℕ × List ℕ) → ThemeAtom → Bool
agrees us (EqText s t) = list_all (may_equal s t) us
agrees us (NeText s t) = list_all (may_differ s t) us
agrees us (EqSlot s t) = true
agrees us (NeSlot s t) = true

-- the atom may hold in the reach, where the texts stand in columns
abbrev pub atom_may_hold : List Range → List (ℕ × List ℕ) → Atom → Bool
atom_may_hold rs ts (First r) = may_be rs (terms_of r.coefs) r.constant r.op
atom_may_hold rs ts (Second a) = agrees ts a

-- each of the atoms may
abbrev pub tuple_may_hold : List Range → List (ℕ × List ℕ) → List Atom → Bool
tuple_may_hold rs ts atoms = list_all (atom_may_hold rs ts) atoms
