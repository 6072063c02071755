-- What is measured of names, goals and plans: the greatest length b, the rank, the lines and the clashes.
use Rattle.std.specs.Prelude.{◌≡◌, ℕ, ◌+◌, ◌*◌, ◌^◌, nat_lt, max, Bool, false, ◌||◌, List, [], ◌∷◌, ◌++◌, if◌then◌else◌}
use Rattle.std.specs.Str.{bytes_eq}
use Rattle.ded_model.specs.declared.name.Column.{Column}
use Rattle.ded_model.specs.Logic.{rank, greatest}
use Rattle.ded_model.specs.Form.{Form}
use Rattle.ded_model.specs.Goal.{GoalAtom, linear, theme, member, GoalForm}
use Rattle.ded_model.specs.PlanForm.{PlanAtom, scan, rows, PlanForm}
use Rattle.ded_model.specs.Catalogue.{Entry, relation, view, Catalogue, entry_name, tuples_of}
use Rattle.ded_model.specs.Slotted.{goal_of}
use Rattle.ded_model.specs.Scanned.{Scanned, scanned, scanned_slots, tied_atoms, fresh_slots, rational_count}
use Rattle.ded_model.specs.Made.{Reading, itself, closure_of, interior_of, reading}
use Rattle.ded_model.specs.Width.{row_length, tuple_length, tuples_length, rational_columns, IsNarrowWith}
use Rattle.ded_model.specs.Lines.{Line, row_lines, atoms_lines, tuples_lines, renamed_lines, elim_past_all, clash_past_all, lines, clashes}

-- ---- names

-- the greatest length of the rows that a name reaches, its rank, its lines, whether these clash, and how many rational
-- columns it has
pub record Measure : Type 0 where
  pub b : ℕ
  pub rank : ℕ
  pub lines : List Line
  pub clash : Bool
  pub columns : ℕ

-- the measure of each name
abbrev pub Measures : Type 0
Measures = List ℕ → Measure

-- q eliminations begun with lengths of at most b may leave a length above 127
abbrev pub is_wide_with : ℕ → ℕ → Bool
is_wide_with b q = nat_lt 128 ((b + 1) * 2 ^ q)

-- the measure of the closure and of the interior: the rank is greater by the rational columns, and with it the lengths
-- may be too wide
abbrev pub near_measure : Measure → Measure
near_measure m = record { b = m.b; rank = m.rank + m.columns; lines = m.lines; clash = m.clash || is_wide_with m.b (m.rank + m.columns); columns = m.columns }

-- the measure of the name n with that reading, where the relations and views have M
abbrev pub measure_as : Measures → List ℕ → Reading → Measure
measure_as M n itself = M n
measure_as M n (closure_of m) = near_measure (M m)
measure_as M n (interior_of m) = near_measure (M m)

-- the measures of all names, where the relations and views have M
abbrev pub read_measure : Measures → Measures
read_measure M n = measure_as M n (reading n)

-- ---- goals

-- the length of a row, or the greatest length of the rows that a name reaches and of those that tie its arguments; 0
-- for a text atom
abbrev pub goal_atom_b : Measures → GoalAtom → ℕ
goal_atom_b M (linear r) = row_length r
goal_atom_b M (theme a) = 0
goal_atom_b M (member n ts) = max (M n).b (tuple_length (tied_atoms (scanned ts)))

-- a counting argument counts as a quantifier
abbrev pub goal_atom_rank : Measures → GoalAtom → ℕ
goal_atom_rank M (linear r) = 0
goal_atom_rank M (theme a) = 0
goal_atom_rank M (member n ts) = (M n).rank + rational_count (fresh_slots (scanned ts))

-- the lines of a name, renamed, with those of the rows of the counting arguments
abbrev pub scanned_lines : Measures → List ℕ → List Scanned → List Line
scanned_lines M n gs = renamed_lines (scanned_slots gs) (M n).lines ++ atoms_lines (tied_atoms gs)

-- the new slots are eliminated, the first argument first
abbrev pub goal_atom_lines : Measures → GoalAtom → List Line
goal_atom_lines M (linear r) = row_lines r
goal_atom_lines M (theme a) = []
goal_atom_lines M (member n ts) = elim_past_all (fresh_slots (scanned ts)) (scanned_lines M n (scanned ts))

-- whether the lines of a name clash, or those with its arguments where the new slots are eliminated; a row or a text
-- atom has no clash
abbrev pub goal_atom_clash : Measures → GoalAtom → Bool
goal_atom_clash M (linear r) = false
goal_atom_clash M (theme a) = false
goal_atom_clash M (member n ts) = (M n).clash || clash_past_all (fresh_slots (scanned ts)) (scanned_lines M n (scanned ts))

-- the greatest length of the atoms of a goal, 0 where there is none
abbrev pub goal_b : Measures → GoalForm → ℕ
goal_b M g = greatest (goal_atom_b M) g

-- the rank of a goal, where the names have M
abbrev pub goal_rank : Measures → GoalForm → ℕ
goal_rank M g = rank (goal_atom_rank M) g

-- the lines that are left when the quantifiers of a goal are eliminated, where the names have M
abbrev pub goal_lines : Measures → GoalForm → List Line
goal_lines M g = lines (goal_atom_lines M) g

-- whether an atom of a goal clashes, or two lines at one of its quantifiers
abbrev pub goal_clashes : Measures → GoalForm → Bool
goal_clashes M g = clashes (goal_atom_lines M) (goal_atom_clash M) g

-- ---- plans

-- the greatest length of the rows that the name of a scan reaches, or of those of a list of atoms
abbrev pub plan_atom_b : Measures → PlanAtom → ℕ
plan_atom_b M (scan n ss) = (M n).b
plan_atom_b M (rows t) = tuple_length t

-- the rank of the name of a scan; 0 for a list of atoms
abbrev pub plan_atom_rank : Measures → PlanAtom → ℕ
plan_atom_rank M (scan n ss) = (M n).rank
plan_atom_rank M (rows t) = 0

-- the lines of the name of a scan, renamed to its slots, or those of the rows of a list of atoms
abbrev pub plan_atom_lines : Measures → PlanAtom → List Line
plan_atom_lines M (scan n ss) = renamed_lines ss (M n).lines
plan_atom_lines M (rows t) = atoms_lines t

-- the scan of a name that clashes counts as a clash; over given relations no name does
abbrev pub plan_atom_clash : Measures → PlanAtom → Bool
plan_atom_clash M (scan n ss) = (M n).clash
plan_atom_clash M (rows t) = false

-- the greatest length of the scans and lists of atoms of a plan, 0 where there is none
abbrev pub plan_b : Measures → PlanForm → ℕ
plan_b M f = greatest (plan_atom_b M) f

-- the rank of a plan, where the names have M
abbrev pub plan_rank : Measures → PlanForm → ℕ
plan_rank M f = rank (plan_atom_rank M) f

-- the lines that are left when the projections of a plan are made, where the names have M
abbrev pub plan_lines : Measures → PlanForm → List Line
plan_lines M f = lines (plan_atom_lines M) f

-- whether a scan of a plan clashes, or two lines at one of its projections
abbrev pub plan_clashes : Measures → PlanForm → Bool
plan_clashes M f = clashes (plan_atom_lines M) (plan_atom_clash M) f

-- ---- catalogues

-- a relation has the rows of its tuples and the rank 0; a view has what its goal has, over the entries before it
abbrev pub entry_measure : Measures → Entry → Measure
entry_measure M (relation n h m ts) = record { b = tuples_length (tuples_of ts); rank = 0; lines = tuples_lines (tuples_of ts); clash = false; columns = rational_columns h }
entry_measure M (view n h f) = record {
  b = goal_b (read_measure M) (goal_of h f);
  rank = goal_rank (read_measure M) (goal_of h f);
  lines = goal_lines (read_measure M) (goal_of h f);
  clash = goal_clashes (read_measure M) (goal_of h f);
  columns = rational_columns h;
}

-- the measures M, with that of the entry under its name
abbrev pub with_measure : Measures → Entry → Measures
with_measure M e n = if bytes_eq n (entry_name e) then entry_measure M e else M n

-- the measures M, with those of the entries under their names, each measured over those before it
abbrev pub measures_from : Measures → List Entry → Measures
measures_from M [] = M
measures_from M (e ∷ es) = measures_from (with_measure M e) es

-- the measures of the entries of a catalogue under their own names; a name that no entry has has no rows
unfoldable pub stored_measures : Catalogue → Measures
stored_measures c = measures_from (λ n. record { b = 0; rank = 0; lines = []; clash = false; columns = 0 }) c.entries

-- the measures of all names over a catalogue
unfoldable pub measures : Catalogue → Measures
measures c = read_measure (stored_measures c)

-- ---- formulas over a heading, none for a closed one

-- the lengths that the formula reaches are narrow for as many eliminations as its rank says
unfoldable pub IsNarrow : Catalogue → List Column → Form → Type 0
IsNarrow c h f = IsNarrowWith (goal_b (measures c) (goal_of h f)) (goal_rank (measures c) (goal_of h f))

-- no number that eliminating the quantifiers can make is too long
unfoldable pub IsTight : Catalogue → List Column → Form → Type 0
IsTight c h f = goal_clashes (measures c) (goal_of h f) ≡ false
