-- The rows that a well formed catalogue and a formula reach have numbers of at most 63 digits, where no comparison and no argument
-- is long.
use Rattle.std.proofs.Common.{◌≡◌, ℕ, ◌≤◌, Bool, true, false, cond, None, List, [], ◌∷◌, bytes_eq, arith, refl}
use Rattle.std.specs.List.{AllByRecursion}
use Rattle.ded_num.proofs.Tests.{both}
use Rattle.ded_model.specs.declared.name.Column.{Column}
use Rattle.ded_model.specs.declared.tuple.BothAtom.TheVariants.{First, Second}
use Rattle.ded_model.specs.Catalogue.{Entry, relation, view, Catalogue, entry_name, tuples_of}
use Rattle.ded_model.specs.Entries.{known}
use Rattle.ded_model.specs.Form.{Form}
use Rattle.ded_model.specs.Known.{KnownNames, AreStored, IsEntryOver, AreEntriesOver, IsAccepted, IsWellFormed, with_known}
use Rattle.ded_model.specs.Logic.{some_atom}
use Rattle.ded_model.specs.LongRows.{is_long_atom}
use Rattle.ded_model.specs.Made.{Reading, itself, closure_of, interior_of, reading}
use Rattle.ded_model.specs.Plain.{IsPlain}
use Rattle.ded_model.specs.Row.{Atom}
use Rattle.ded_model.specs.Width.{row_length, tuple_length}
use Rattle.ded_model.specs.ShortRows.{HasShortRows}
use Rattle.ded_width.specs.Orderly.{Orders, row_reach, atoms_reach, tuples_reach, order_as, read_order, entry_order, with_order, orders_from, undefined, stored_orders, orders, IsShortReach}
use Rattle.ded_width.proofs.ShortGoals.{at_most, goal_short}

atoms_short : (t : List Atom) → tuple_length t ≤ 63 → (atoms_reach t).short ≡ true
atoms_short [] l = refl
atoms_short (First r ∷ t) l = both (row_reach r).short (atoms_reach t).short (at_most (row_length r) (omega (arith, l))) (atoms_short t (omega (arith, l)))
atoms_short (Second a ∷ t) l = atoms_short t l

tuples_short : (h : List Column) (inserts m : ℕ) (ts : List (ℕ × List Atom)) → AreStored h inserts m ts → (tuples_reach (tuples_of ts)).short ≡ true
tuples_short h inserts m [] s = refl
tuples_short h inserts m (t ∷ ts) s = both (atoms_reach t.1).short (tuples_reach (tuples_of ts)).short (atoms_short t.1 s.3) (tuples_short h inserts t.0 ts s.4)

-- names that reach short rows alone
abbrev pub AreShortNames : Orders → Type 0
AreShortNames O = (n : List ℕ) → (O n).short ≡ true

pub read_short : (O : Orders) → AreShortNames O → AreShortNames (read_order O)
read_short O h n = by (reading n)
  where
    by : (r : Reading) → (order_as O n r).short ≡ true
    by itself = h n
    by (closure_of m) = refl
    by (interior_of m) = refl

entry_short : (limit : ℕ) (K : KnownNames) (O : Orders) (e : Entry) → AreShortNames O → IsEntryOver limit K e → HasShortRows e → (entry_order O e).short ≡ true
entry_short limit K O (relation n h m ts) s w k = tuples_short h m 0 ts w.0
entry_short limit K O (view n h f) s w k = goal_short K (read_order O) (read_short O s) h f w.0 k.0 k.1

-- one entry more
pub with_short : (limit : ℕ) (K : KnownNames) (O : Orders) (e : Entry) → AreShortNames O → IsEntryOver limit K e → HasShortRows e → AreShortNames (with_order O e)
with_short limit K O e s w k n = by (bytes_eq n (entry_name e))
  where
    by : (b : Bool) → (cond b (entry_order O e) (O n)).short ≡ true
    by true = entry_short limit K O e s w k
    by false = s n

entries_short : (limit : ℕ) (K : KnownNames) (O : Orders) (es : List Entry) → AreShortNames O → AreEntriesOver limit K es → AllByRecursion HasShortRows es → AreShortNames (orders_from O es)
entries_short limit K O [] s w k = s
entries_short limit K O (e ∷ es) s w k = entries_short limit (with_known K e) (with_order O e) es (with_short limit K O e s w.1 k.0) w.2 k.1

pub stored_short : (c : Catalogue) → IsWellFormed c → AllByRecursion HasShortRows c.entries → AreShortNames (stored_orders c)
unfolding stored_orders
stored_short c w k = entries_short c.limit (λ n. None) (λ n. undefined) c.entries (λ n. refl) w k

pub formula_short : (c : Catalogue) → IsWellFormed c → AllByRecursion HasShortRows c.entries → (h : List Column) (f : Form) → IsAccepted (known c) h f → IsPlain f → some_atom is_long_atom f ≡ false → IsShortReach c h f
unfolding IsShortReach orders
formula_short c w k h f a p s = goal_short (known c) (read_order (stored_orders c)) (read_short (stored_orders c) (stored_short c w k)) h f a p s
