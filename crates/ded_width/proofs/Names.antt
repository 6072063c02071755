-- The lines of the orderly names of a well formed catalogue are order lines over the names' columns, without a clash.
use Rattle.std.proofs.Common.{◌≡◌, ℕ, Bool, true, false, cond, Some, None, List, [], ◌∷◌, bytes_eq, inl, inr, sym, true≢false}
use Rattle.ded_model.specs.declared.slot.Slot.{Slot}
use Rattle.ded_model.specs.declared.name.Column.{Column}
use Rattle.ded_model.specs.declared.tuple.BothAtom.TheVariants.{First, Second}
use Rattle.ded_model.specs.Catalogue.{Entry, relation, view, Catalogue, entry_name, tuples_of}
use Rattle.ded_model.specs.Entries.{known}
use Rattle.ded_model.specs.Form.{Form}
use Rattle.ded_model.specs.Known.{KnownNames, AreStored, IsEntryOver, AreEntriesOver, IsAccepted, IsWellFormed, columns_with, entry_known, with_known, known_from, known_of}
use Rattle.ded_model.specs.Lines.{Line, In, row_lines, atoms_lines, tuples_lines}
use Rattle.ded_model.specs.Made.{Reading, itself, closure_of, interior_of, reading, base_by, base}
use Rattle.ded_model.specs.Measure.{Measures, measure_as, read_measure, entry_measure, with_measure, measures_from, stored_measures, measures, goal_lines, goal_clashes}
use Rattle.ded_model.specs.Normal.{IsNormalTuple}
use Rattle.ded_model.specs.Point.{slot}
use Rattle.ded_model.specs.Row.{Atom, row_mentions, atom_mentions, tuple_mentions}
use Rattle.ded_model.specs.Slotted.{goal_of}
use Rattle.ded_laws.proofs.AtomSlots.{goal_lines-over}
use Rattle.ded_model.proofs.LineSlots.{has_slot, line_slots}
use Rattle.ded_model.proofs.Members.{In-split}
use Rattle.ded_model.proofs.Rows.{or_left, or_right}
use Rattle.ded_resolve.proofs.Ascending.{nonzero-kept}
use Rattle.ded_sorts.proofs.Frees.{goal_free}
use Rattle.ded_sorts.proofs.Rationals.{goal_of-sorted, goal_rational}
use Rattle.ded_width.proofs.AscendingGoals.{accepted_ascending}
use Rattle.ded_width.proofs.LineReaches.{coefs_ascending}
use Rattle.ded_width.specs.Orderly.{Orders, tuples_reach, atoms_reach, goal_reach, undefined, order_as, read_order, entry_order, with_order, orders_from, stored_orders, orders}
use Rattle.ded_width.proofs.Fits.{goal_fits}
use Rattle.ded_width.proofs.Reached.{IsCalmWhere, nothing, two_calm, atoms_calm, AreReached, goal_calm}
use Rattle.ded_width.proofs.Renamed.{AreOver}
use Rattle.ded_width.proofs.Ties.{AreGoodRows}

-- ---- relations

pub tuple_good : (t : List Atom) → IsNormalTuple t → AreGoodRows t
tuple_good [] n = tt
tuple_good (First r ∷ t) n = (record { ascending = coefs_ascending r.coefs n.0.0; nonzero = nonzero-kept r.coefs n.0.0; normal = n.0.1.normal }, tuple_good t n.2)
tuple_good (Second a ∷ t) n = tuple_good t n.2

tuples_calm : (h : List Column) (inserts m : ℕ) (ts : List (ℕ × List Atom)) → AreStored h inserts m ts → IsCalmWhere (tuples_reach (tuples_of ts)) (tuples_lines (tuples_of ts)) false
tuples_calm h inserts m [] s = nothing
tuples_calm h inserts m (t ∷ ts) s =
    two_calm (atoms_reach t.1) (tuples_reach (tuples_of ts)) (atoms_lines t.1) (tuples_lines (tuples_of ts)) false false (atoms_calm t.1 (tuple_good t.1 s.2.normal)) (tuples_calm h inserts t.0 ts s.4)

pub atoms_over : (t : List Atom) (l : Line) (u : Slot) → In l (atoms_lines t) → row_mentions l u ≡ true → tuple_mentions t u ≡ true
unfolding tuple_mentions atom_mentions row_mentions
atoms_over [] l u i m = absurd i
atoms_over (First r ∷ t) l u i m = elim (In-split l (row_lines r) (atoms_lines t) i) [
  | inl j ↦ or_left _ _ (line_slots r.coefs r.constant l u j m)
  | inr j ↦ or_right (has_slot r.coefs u) _ (atoms_over t l u j m)
]
atoms_over (Second a ∷ t) l u i m = or_right (atom_mentions (Second a) u) _ (atoms_over t l u i m)

tuples_over : (h : List Column) (inserts m : ℕ) (ts : List (ℕ × List Atom)) → AreStored h inserts m ts → AreOver h (tuples_lines (tuples_of ts))
tuples_over h inserts m [] s l i u e = absurd i
tuples_over h inserts m (t ∷ ts) s l i u e = elim (In-split l (atoms_lines t.1) (tuples_lines (tuples_of ts)) i) [
  | inl j ↦ s.2.slots u (atoms_over t.1 l u j e)
  | inr j ↦ tuples_over h inserts t.0 ts s.4 l j u e
]

-- ---- names that are read

read_reached : (K : KnownNames) (M : Measures) (O : Orders) → AreReached K M O → AreReached (λ n. K (base n)) (read_measure M) (read_order O)
read_reached K M O r = record { over = λ n. over n (reading n); calm = λ n. calm n (reading n) }
  where
    over : (n : List ℕ) (x : Reading) → AreOver (columns_with (K (base_by n x))) (measure_as M n x).lines
    over n itself = r.over n
    over n (closure_of m) = r.over m
    over n (interior_of m) = r.over m

    calm : (n : List ℕ) (x : Reading) → IsCalmWhere (order_as O n x) (measure_as M n x).lines (measure_as M n x).clash
    calm n itself = r.calm n
    calm n (closure_of m) = λ o s. absurd (true≢false (sym o))
    calm n (interior_of m) = λ o s. absurd (true≢false (sym o))

-- ---- views

module _ (K : KnownNames) (M : Measures) (O : Orders) (r : AreReached K M O) (h : List Column) (f : Form) (a : IsAccepted K h f) where
  pub view_calm : IsCalmWhere (goal_reach (read_order O) (goal_of h f)) (goal_lines (read_measure M) (goal_of h f)) (goal_clashes (read_measure M) (goal_of h f))
  view_calm = goal_calm K (read_measure M) (read_order O) (read_reached K M O r) (goal_of h f) (accepted_ascending K h f a.sorted) (goal_fits K h f a)

  view_over : AreOver h (goal_lines (read_measure M) (goal_of h f))
  view_over l i u m = goal_free h f a.bound (slot u) (goal_lines-over (read_measure M) (goal_of h f) (goal_of-sorted h f) (goal_rational K h f a.sorted) l u i m).0

-- ---- entries

entry_calm : (limit : ℕ) (K : KnownNames) (M : Measures) (O : Orders) (e : Entry) → AreReached K M O → IsEntryOver limit K e → IsCalmWhere (entry_order O e) (entry_measure M e).lines (entry_measure M e).clash
entry_calm limit K M O (relation n h m ts) r w = tuples_calm h m 0 ts w.0
entry_calm limit K M O (view n h f) r w = view_calm K M O r h f w.0

entry_over : (limit : ℕ) (K : KnownNames) (M : Measures) (O : Orders) (e : Entry) → AreReached K M O → IsEntryOver limit K e → AreOver (entry_known K e).columns (entry_measure M e).lines
entry_over limit K M O (relation n h m ts) r w = tuples_over h m 0 ts w.0
entry_over limit K M O (view n h f) r w = view_over K M O r h f w.0

with_reached : (limit : ℕ) (K : KnownNames) (M : Measures) (O : Orders) (e : Entry) → AreReached K M O → IsEntryOver limit K e → AreReached (with_known K e) (with_measure M e) (with_order O e)
with_reached limit K M O e r w = record { over = λ n. over n (bytes_eq n (entry_name e)); calm = λ n. calm n (bytes_eq n (entry_name e)) }
  where
    over : (n : List ℕ) (b : Bool) → AreOver (columns_with (cond b (Some (entry_known K e)) (K n))) (cond b (entry_measure M e) (M n)).lines
    over n true = entry_over limit K M O e r w
    over n false = r.over n

    calm : (n : List ℕ) (b : Bool) → IsCalmWhere (cond b (entry_order O e) (O n)) (cond b (entry_measure M e) (M n)).lines (cond b (entry_measure M e) (M n)).clash
    calm n true = entry_calm limit K M O e r w
    calm n false = r.calm n

entries_reached : (limit : ℕ) (K : KnownNames) (M : Measures) (O : Orders) (es : List Entry) → AreReached K M O → AreEntriesOver limit K es → AreReached (known_from K es) (measures_from M es) (orders_from O es)
entries_reached limit K M O [] r w = r
entries_reached limit K M O (e ∷ es) r w = entries_reached limit (with_known K e) (with_measure M e) (with_order O e) es (with_reached limit K M O e r w.1) w.2

pub stored_reached : (c : Catalogue) → IsWellFormed c → AreReached (known c) (stored_measures c) (stored_orders c)
unfolding stored_measures stored_orders known_of
stored_reached c w = entries_reached c.limit (λ n. None) _ _ c.entries nothing_reached w
  where
    nothing_reached : AreReached (λ n. None) (λ n. record { b = 0; rank = 0; lines = []; clash = false; columns = 0 }) (λ n. undefined)
    nothing_reached = record { over = λ n l i. absurd i; calm = λ n o s. absurd (true≢false (sym o)) }

pub formula_calm : (c : Catalogue) → IsWellFormed c → (h : List Column) (f : Form) → IsAccepted (known c) h f
    → IsCalmWhere (goal_reach (orders c) (goal_of h f)) (goal_lines (measures c) (goal_of h f)) (goal_clashes (measures c) (goal_of h f))
unfolding measures orders
formula_calm c w h f a = view_calm (known c) (stored_measures c) (stored_orders c) (stored_reached c w) h f a
