-- The line of a tuple: a cell for each column, and behind them the atoms that tie columns.
use Rattle.std.specs.Prelude.{ℕ, ◌+◌, ◌==◌, Bool, true, false, ℤ, List, [], ◌∷◌, ◌++◌, Option, Some, None, is_some, codes, if◌then◌else◌}
use Rattle.std.specs.List.{list_any}
use Rattle.ded_model.specs.declared.bound.Bound.{Bound}
use Rattle.ded_model.specs.declared.name.Column.{Column}
use Rattle.ded_model.specs.declared.slot.Slot.{Slot}
use Rattle.ded_model.specs.declared.slot.Sort.{Sort}
use Rattle.ded_model.specs.declared.slot.Sort.TheVariants.{Rat, Text}
use Rattle.ded_model.specs.declared.tuple.ThemeAtom.TheVariants.{EqText, NeText, EqSlot, NeSlot}
use Rattle.ded_model.specs.declared.tuple.BothAtom.TheVariants.{First, Second}
use Rattle.ded_model.specs.Row.{Atom}
use Rattle.ded_print.specs.Tuples.{column_at, column_names, row_text}
use Rattle.ded_cells.specs.declared.extent.Extent.{Extent}
use Rattle.ded_cells.specs.declared.extent.Extent.TheVariants.{Nowhere, Within, Wide}
use Rattle.ded_cells.specs.Extents.{span_at}
use Rattle.ded_cells.specs.Spans.{span_text, value_in}

-- ---- cells of texts

-- whether the atom compares text column number i with a quoted text
abbrev pub is_about : ℕ → Atom → Bool
is_about i (First r) = false
is_about i (Second (EqText s t)) = s.number == i
is_about i (Second (NeText s t)) = s.number == i
is_about i (Second (EqSlot s t)) = false
is_about i (Second (NeSlot s t)) = false

-- `n=a`, `n!=a`
abbrev pub condition_text : List ℕ → Atom → List ℕ
condition_text name (First r) = []
condition_text name (Second (EqText s t)) = name ++ (61 ∷ t)
condition_text name (Second (NeText s t)) = name ++ (codes "!=" ++ t)
condition_text name (Second (EqSlot s t)) = []
condition_text name (Second (NeSlot s t)) = []

-- the condition that an atom is on column number i, after `lead`; nothing where it is about no column or another one
abbrev pub condition_after : List ℕ → ℕ → List ℕ → Atom → List ℕ
condition_after name i lead a = if is_about i a then (lead ++ condition_text name a) else []

-- what stands before the next condition: a comma and a blank behind an atom that is about the column, else `lead`
abbrev pub next_lead : ℕ → List ℕ → Atom → List ℕ
next_lead i lead a = if is_about i a then codes ", " else lead

-- the first condition on the column after `lead`, each later one after a comma and a blank
abbrev pub conditions_text : List ℕ → ℕ → List ℕ → List Atom → List ℕ
conditions_text name i lead [] = []
conditions_text name i lead (a ∷ atoms) = condition_after name i lead a ++ conditions_text name i (next_lead i lead a) atoms

-- a text column that no atom compares with a quoted text is `n any`
abbrev pub texts_cell : List ℕ → ℕ → List Atom → List ℕ
texts_cell name i atoms = if list_any (is_about i) atoms then conditions_text name i [] atoms else (name ++ codes " any")

-- ---- cells

-- a rational column with these bounds
abbrev pub bounded_cell : List ℕ → Option (Bound × Bound) → List ℕ
bounded_cell name None = name
bounded_cell name (Some b) = span_text name b.0 b.1

-- the cell of column number i: a rational one with these bounds, a text one with the conditions on it
abbrev pub sorted_cell : List ℕ → Sort → ℕ → List Atom → Option (Bound × Bound) → List ℕ
sorted_cell name Rat i atoms span = bounded_cell name span
sorted_cell name Text i atoms span = texts_cell name i atoms

-- the same where the bounds may be too wide: a rational one is `x wide`
abbrev pub wide_cell : List ℕ → Sort → ℕ → List Atom → List ℕ
wide_cell name Rat i atoms = name ++ codes " wide"
wide_cell name Text i atoms = texts_cell name i atoms

-- what is known of column number i of a tuple over the heading
abbrev pub cell_text : List Column → List Atom → Extent → ℕ → Column → List ℕ
cell_text h atoms Nowhere i c = c.name ++ codes " nowhere"
cell_text h atoms (Within spans) i c = sorted_cell c.name c.sort i atoms (span_at h spans i)
cell_text h atoms Wide i c = wide_cell c.name c.sort i atoms

-- the cells of the columns from number i on, the first one after `lead`, each later one after a tab
abbrev pub cells_text : List Column → List Atom → Extent → ℕ → List ℕ → List Column → List ℕ
cells_text h atoms e i lead [] = []
cells_text h atoms e i lead (c ∷ cs) = lead ++ (cell_text h atoms e i c ++ cells_text h atoms e (i + 1) (9 ∷ []) cs)

-- ---- ties

-- one value
abbrev pub is_one : Option (Bound × Bound) → Bool
is_one None = false
is_one (Some b) = is_some (value_in b.0 b.1)

-- whether column number i has one value
abbrev pub is_fixed : List Column → Extent → ℕ → Bool
is_fixed h Nowhere i = false
is_fixed h (Within spans) i = is_one (span_at h spans i)
is_fixed h Wide i = false

-- whether some column of more than one value has a coefficient
abbrev pub has_free : List Column → Extent → List (Slot × ℤ) → Bool
has_free h e [] = false
has_free h e (c ∷ cs) = if is_fixed h e c.0.number then has_free h e cs else true

-- whether two of them have
abbrev pub has_two_free : List Column → Extent → List (Slot × ℤ) → Bool
has_two_free h e [] = false
has_two_free h e (c ∷ cs) = if is_fixed h e c.0.number then has_two_free h e cs else has_free h e cs

-- whether a row is told behind the cells: it ties columns of more than one value, or no bounds are told
abbrev pub is_told : List Column → Extent → List (Slot × ℤ) → Bool
is_told h Nowhere coefs = has_two_free h Nowhere coefs
is_told h (Within spans) coefs = has_two_free h (Within spans) coefs
is_told h Wide coefs = has_free h Wide coefs

-- whether the atom is told behind the cells
abbrev pub is_tie : List Column → Extent → Atom → Bool
is_tie h e (First r) = is_told h e r.coefs
is_tie h e (Second (EqText s t)) = false
is_tie h e (Second (NeText s t)) = false
is_tie h e (Second (EqSlot s t)) = true
is_tie h e (Second (NeSlot s t)) = true

-- a row, or two text columns that are equal or unequal
abbrev pub tie_text : List Column → Atom → List ℕ
tie_text h (First r) = row_text (column_names h) r
tie_text h (Second (EqText s t)) = []
tie_text h (Second (NeText s t)) = []
tie_text h (Second (EqSlot s t)) = column_at h s.number ++ (codes " = " ++ column_at h t.number)
tie_text h (Second (NeSlot s t)) = column_at h s.number ++ (codes " != " ++ column_at h t.number)

-- after a tab, where it is told
abbrev pub told_text : List Column → Extent → Atom → List ℕ
told_text h e a = if is_tie h e a then (9 ∷ tie_text h a) else []

-- the ties among the atoms, each after a tab, in order
abbrev pub ties_text : List Column → Extent → List Atom → List ℕ
ties_text h e [] = []
ties_text h e (a ∷ atoms) = told_text h e a ++ ties_text h e atoms

-- ---- lines

-- the cells, the first one after `lead`, and the ties
abbrev pub tuple_text : List Column → List ℕ → List Atom → Extent → List ℕ
tuple_text h lead atoms e = cells_text h atoms e 0 lead h ++ ties_text h e atoms
