-- Where no comparison and no argument is long, the greatest length of what a formula reaches is at most 63, so that no line of it has a
-- number of more than 127 digits.
use Rattle.std.proofs.Common.{◌≡◌, ℕ, ◌≤◌, nat_le, Bool, true, false, cond, None, List, [], ◌∷◌, bytes_eq, arith, refl, subst}
use Rattle.std.specs.Prelude.{max}
use Rattle.std.specs.List.{AllByRecursion}
use Rattle.std.proofs.lemmas.Bool.Decides.{nat_tests}
use Rattle.ded_model.specs.declared.name.Column.{Column}
use Rattle.ded_model.specs.declared.tuple.BothAtom.TheVariants.{First, Second}
use Rattle.ded_model.specs.Row.{Atom}
use Rattle.ded_model.specs.Logic.{atom, always, never, negation, every_of, some_of, implies, minus, exists, forall, Logics, none, also, some_atom, greatest_of}
use Rattle.ded_model.specs.Form.{Form}
use Rattle.ded_model.specs.Goal.{GoalAtom, linear, theme, member, GoalForm}
use Rattle.ded_model.specs.Catalogue.{Entry, relation, view, Catalogue, entry_name, tuples_of}
use Rattle.ded_model.specs.Entries.{known}
use Rattle.ded_model.specs.Known.{KnownNames, AreStored, IsEntryOver, AreEntriesOver, IsAccepted, IsWellFormed, with_known}
use Rattle.ded_model.specs.LongRows.{is_long_atom}
use Rattle.ded_model.specs.Plain.{IsPlain}
use Rattle.ded_model.specs.ShortRows.{HasShortRows}
use Rattle.ded_model.specs.Slotted.{goal_of}
use Rattle.ded_model.specs.Scanned.{scanned, tied_atoms}
use Rattle.ded_model.specs.Lines.{AreWithin}
use Rattle.ded_model.specs.Made.{Reading, itself, closure_of, interior_of, reading}
use Rattle.ded_model.specs.Measure.{Measures, measure_as, read_measure, goal_atom_b, goal_b, goal_lines, entry_measure, with_measure, measures_from, stored_measures, measures}
use Rattle.ded_model.specs.Width.{row_length, tuple_length, tuples_length}
use Rattle.ded_model.proofs.Points.{and_left, and_right}
use Rattle.ded_width.specs.Orderly.{Orders, row_reach, atoms_reach, goal_atom_reach, reach_of_all, goal_reach, read_order, with_order, undefined, stored_orders}
use Rattle.ded_width.proofs.Longest.{longest}
use Rattle.ded_width.proofs.ShortGoals.{goal_short}
use Rattle.ded_width.proofs.ShortNames.{AreShortNames, read_short, with_short, stored_short}

-- ---- rows

short_is : (n : ℕ) → nat_le n 63 ≡ true → n ≤ 63
short_is n h = grind (arith, nat_tests)

two_short : (n m : ℕ) → n ≤ 63 → m ≤ 63 → max n m ≤ 63
two_short n m h k = omega (arith, h, k)

atoms_length : (t : List Atom) → (atoms_reach t).short ≡ true → tuple_length t ≤ 63
atoms_length [] h = omega arith
atoms_length (First r ∷ t) h =
    two_short (row_length r) (tuple_length t) (short_is (row_length r) (and_left (row_reach r).short (atoms_reach t).short h)) (atoms_length t (and_right (row_reach r).short (atoms_reach t).short h))
atoms_length (Second a ∷ t) h = atoms_length t h

tuples_length_stored : (h : List Column) (inserts m : ℕ) (ts : List (ℕ × List Atom)) → AreStored h inserts m ts → tuples_length (tuples_of ts) ≤ 63
tuples_length_stored h inserts m [] s = omega arith
tuples_length_stored h inserts m (t ∷ ts) s = two_short (tuple_length t.1) (tuples_length (tuples_of ts)) s.3 (tuples_length_stored h inserts t.0 ts s.4)

-- ---- goals

-- names of which no row is longer
abbrev AreShort : Measures → Type 0
AreShort M = (n : List ℕ) → (M n).b ≤ 63

module _ (M : Measures) (O : Orders) (names : AreShort M) where
  goal_atom_length : (a : GoalAtom) → (goal_atom_reach O a).short ≡ true → goal_atom_b M a ≤ 63
  goal_atom_length (linear r) h = short_is (row_length r) h
  goal_atom_length (theme t) h = omega arith
  goal_atom_length (member n ts) h =
      let tied = tied_atoms (scanned ts) in two_short (M n).b (tuple_length tied) (names n) (atoms_length tied (and_right (O n).short (atoms_reach tied).short h))

  mutual
    goal_length : (g : GoalForm) → (goal_reach O g).short ≡ true → goal_b M g ≤ 63
    goal_length (atom a) h = goal_atom_length a h
    goal_length always h = omega arith
    goal_length never h = omega arith
    goal_length (negation g) h = goal_length g h
    goal_length (every_of gs) h = goals_length gs h
    goal_length (some_of gs) h = goals_length gs h
    goal_length (implies f g) h =
        two_short (goal_b M f) (goal_b M g) (goal_length f (and_left (goal_reach O f).short (goal_reach O g).short h)) (goal_length g (and_right (goal_reach O f).short (goal_reach O g).short h))
    goal_length (minus f g) h =
        two_short (goal_b M f) (goal_b M g) (goal_length f (and_left (goal_reach O f).short (goal_reach O g).short h)) (goal_length g (and_right (goal_reach O f).short (goal_reach O g).short h))
    goal_length (exists s k g) h = goal_length g h
    goal_length (forall s k g) h = goal_length g h

    -- of a list
    goals_length : (gs : Logics GoalAtom) → (reach_of_all (goal_atom_reach O) gs).short ≡ true → greatest_of (goal_atom_b M) gs ≤ 63
    goals_length none h = omega arith
    goals_length (also g gs) h =
        two_short (goal_b M g) (greatest_of (goal_atom_b M) gs) (goal_length g (and_left (goal_reach O g).short (reach_of_all (goal_atom_reach O) gs).short h))
        (goals_length gs (and_right (goal_reach O g).short (reach_of_all (goal_atom_reach O) gs).short h))

-- ---- names

read_lengths : (M : Measures) → AreShort M → AreShort (read_measure M)
read_lengths M h n = by (reading n)
  where
    by : (r : Reading) → (measure_as M n r).b ≤ 63
    by itself = h n
    by (closure_of m) = h m
    by (interior_of m) = h m

entry_length : (limit : ℕ) (K : KnownNames) (M : Measures) (O : Orders) (e : Entry) → AreShort M → AreShortNames O → IsEntryOver limit K e → HasShortRows e → (entry_measure M e).b ≤ 63
entry_length limit K M O (relation n h m ts) b s w k = tuples_length_stored h m 0 ts w.0
entry_length limit K M O (view n h f) b s w k = goal_length (read_measure M) (read_order O) (read_lengths M b) (goal_of h f) (goal_short K (read_order O) (read_short O s) h f w.0 k.0 k.1)

entry_lengths : (limit : ℕ) (K : KnownNames) (M : Measures) (O : Orders) (es : List Entry) → AreShort M → AreShortNames O → AreEntriesOver limit K es → AllByRecursion HasShortRows es → AreShort (measures_from M es)
entry_lengths limit K M O [] b s w k = b
entry_lengths limit K M O (e ∷ es) b s w k =
    entry_lengths limit (with_known K e) (with_measure M e) (with_order O e) es (λ n. by n (bytes_eq n (entry_name e))) (with_short limit K O e s w.1 k.0) w.2 k.1
  where
    by : (n : List ℕ) (x : Bool) → (cond x (entry_measure M e) (M n)).b ≤ 63
    by n true = entry_length limit K M O e b s w.1 k.0
    by n false = b n

stored_lengths : (c : Catalogue) → IsWellFormed c → AllByRecursion HasShortRows c.entries → AreShort (stored_measures c)
unfolding stored_measures
stored_lengths c w k = entry_lengths c.limit (λ n. None) (λ n. record { b = 0; rank = 0; lines = []; clash = false; columns = 0 }) (λ n. undefined) c.entries (λ n. omega arith) (λ n. refl) w k

-- ---- the laws

pub formula_length : (c : Catalogue) → IsWellFormed c → AllByRecursion HasShortRows c.entries → (h : List Column) (f : Form) → IsAccepted (known c) h f → IsPlain f → some_atom is_long_atom f ≡ false
    → goal_b (measures c) (goal_of h f) ≤ 63
unfolding measures
formula_length c w k h f a p s =
    goal_length (read_measure (stored_measures c)) (read_order (stored_orders c)) (read_lengths (stored_measures c) (stored_lengths c w k)) (goal_of h f)
    (goal_short (known c) (read_order (stored_orders c)) (read_short (stored_orders c) (stored_short c w k)) h f a p s)

pub formula_short_lines : (c : Catalogue) → IsWellFormed c → AllByRecursion HasShortRows c.entries → (h : List Column) (f : Form) → IsAccepted (known c) h f → IsPlain f → some_atom is_long_atom f ≡ false
    → AreWithin 127 (goal_lines (measures c) (goal_of h f))
formula_short_lines c w k h f a p s =
    subst (λ n. AreWithin n (goal_lines (measures c) (goal_of h f))) (no_longer (goal_b (measures c) (goal_of h f)) (formula_length c w k h f a p s)) (longest c w h f a)
  where
    no_longer : (b : ℕ) → b ≤ 63 → max 127 b ≡ 127
    no_longer b h = omega (arith, h)
