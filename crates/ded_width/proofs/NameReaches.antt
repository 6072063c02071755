-- The lines of the names of a well formed catalogue have the lengths of their ranks.
--
-- A relation has the lines of normal tuples. A closure or interior has those of its name with a greater rank, and clashes
-- where that is not narrow. A view has what its goal has over the entries before it, and its formula is accepted over these.
use Rattle.std.proofs.Common.{◌≡◌, ℕ, ◌+◌, ◌≤◌, nat_lt, Bool, true, false, cond, List, [], ◌∷◌, bytes_eq, None, arith, refl}
use Rattle.std.proofs.lemmas.Bool.Decides.{nat_tests}
use Rattle.ded_model.specs.declared.name.Column.{Column}
use Rattle.ded_model.specs.Row.{Atom}
use Rattle.ded_model.specs.Catalogue.{Entry, relation, view, Catalogue, entry_name, tuples_of}
use Rattle.ded_model.specs.Known.{KnownNames, AreStored, IsEntryOver, AreEntriesOver, IsWellFormed, with_known}
use Rattle.ded_model.specs.Slotted.{goal_of}
use Rattle.ded_model.specs.Lines.{tuples_lines}
use Rattle.ded_model.specs.Width.{tuples_length}
use Rattle.ded_model.specs.Made.{Reading, itself, closure_of, interior_of, reading}
use Rattle.ded_model.specs.Measure.{Measure, Measures, is_wide_with, near_measure, measure_as, read_measure, entry_measure, with_measure, measures_from, stored_measures, measures}
use Rattle.ded_width.specs.Reach.{AreInReach}
use Rattle.ded_width.proofs.Reaches.{IsInReach, nothing, higher, both, within}
use Rattle.ded_width.proofs.LineReaches.{atoms_in_reach, tuple_ascending}
use Rattle.ded_width.proofs.PlanReaches.{name_in_reach}
use Rattle.ded_width.proofs.GoalReaches.{goal_in_reach}
use Rattle.ded_width.proofs.AscendingGoals.{accepted_ascending}
use Rattle.std.proofs.lemmas.Bool.{or_from}

-- a name with its lines
abbrev IsNameInReach : Measure → Type 0
IsNameInReach m = IsInReach m.b m.rank m.lines m.clash

pub tuples_in_reach : (h : List Column) (inserts m : ℕ) (ts : List (ℕ × List Atom)) → AreStored h inserts m ts → IsInReach (tuples_length (tuples_of ts)) 0 (tuples_lines (tuples_of ts)) false
tuples_in_reach h inserts m [] s = nothing 0 0
tuples_in_reach h inserts m (t ∷ ts) s = both _ _ _ _ _ _ _ _ (atoms_in_reach t.1 (tuple_ascending t.1 s.2.normal)) (tuples_in_reach h inserts t.0 ts s.4)

-- what is narrow is not wide
not_wide : (n : ℕ) → n ≤ 128 → nat_lt 128 n ≡ false
not_wide n h = grind (arith, nat_tests)

-- a closure or an interior
near_in_reach : (m : Measure) → IsNameInReach m → IsNameInReach (near_measure m)
near_in_reach m h =
    let more = higher m.b m.b m.rank (m.rank + m.columns) m.lines m.clash (omega arith) (omega arith) h in
    record { lines = more.lines; rational = more.rational; tight = λ n. or_from m.clash (is_wide_with m.b (m.rank + m.columns)) (more.tight n) (not_wide _ n) }

-- so are all names
pub read_in_reach : (M : Measures) → AreInReach M → AreInReach (read_measure M)
read_in_reach M i = record {
  rational = λ n. (each n (reading n)).rational;
  within = λ n. within _ _ _ _ (each n (reading n));
  tight = λ n. (each n (reading n)).tight;
}
  where
    each : (n : List ℕ) (r : Reading) → IsNameInReach (measure_as M n r)
    each n itself = name_in_reach M i n
    each n (closure_of m) = near_in_reach (M m) (name_in_reach M i m)
    each n (interior_of m) = near_in_reach (M m) (name_in_reach M i m)

entry_in_reach : (limit : ℕ) (K : KnownNames) (M : Measures) (e : Entry) → AreInReach M → IsEntryOver limit K e → IsNameInReach (entry_measure M e)
entry_in_reach limit K M (relation n h m ts) i w = tuples_in_reach h m 0 ts w.0
entry_in_reach limit K M (view n h f) i w = goal_in_reach (read_measure M) (read_in_reach M i) (goal_of h f) (accepted_ascending K h f w.0.sorted)

-- one name more
pub with_in_reach : (limit : ℕ) (K : KnownNames) (M : Measures) (e : Entry) → AreInReach M → IsEntryOver limit K e → AreInReach (with_measure M e)
with_in_reach limit K M e i w = record {
  rational = λ n. (each n).rational;
  within = λ n. within _ _ _ _ (each n);
  tight = λ n. (each n).tight;
}
  where
    choose : (b : Bool) (x y : Measure) → IsNameInReach x → IsNameInReach y → IsNameInReach (cond b x y)
    choose true x y h k = h
    choose false x y h k = k

    each : (n : List ℕ) → IsNameInReach (with_measure M e n)
    each n = choose (bytes_eq n (entry_name e)) (entry_measure M e) (M n) (entry_in_reach limit K M e i w) (name_in_reach M i n)

entries_in_reach : (limit : ℕ) (K : KnownNames) (M : Measures) (es : List Entry) → AreInReach M → AreEntriesOver limit K es → AreInReach (measures_from M es)
entries_in_reach limit K M [] i w = i
entries_in_reach limit K M (e ∷ es) i w = entries_in_reach limit (with_known K e) (with_measure M e) es (with_in_reach limit K M e i w.1) w.2

-- no names
pub nothing_in_reach : AreInReach (λ n. record { b = 0; rank = 0; lines = []; clash = false; columns = 0 })
nothing_in_reach = record { rational = λ n l i. absurd i; within = λ n k e l i. absurd i; tight = λ n h. refl }

-- the law, of entries
pub stored_in_reach : (c : Catalogue) → IsWellFormed c → AreInReach (stored_measures c)
unfolding stored_measures
stored_in_reach c w = entries_in_reach c.limit (λ n. None) _ c.entries nothing_in_reach w

-- and of all names
pub names_in_reach : (c : Catalogue) → IsWellFormed c → AreInReach (measures c)
unfolding measures
names_in_reach c w = read_in_reach (stored_measures c) (stored_in_reach c w)
