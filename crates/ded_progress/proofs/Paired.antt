-- The pairs of the tuples of two relations of a well formed catalogue are of normal tuples, and what is known of the atoms of two.
use Rattle.std.proofs.Common.{ℕ, Bool, true, false, Some, None, List, [], ◌∷◌, ◌++◌, bytes_eq}
use Rattle.std.specs.Prelude.{if◌then◌else◌}
use Rattle.std.specs.List.{AllByRecursion}
use Rattle.ded_model.specs.declared.name.Column.{Column}
use Rattle.ded_model.specs.Catalogue.{Entry, Catalogue, relation, view, entry_name}
use Rattle.ded_model.specs.Entries.{entry_of, stored_in, tuples_in}
use Rattle.ded_model.specs.Known.{KnownNames, AreStored, IsEntryOver, AreEntriesOver, IsWellFormed, with_known}
use Rattle.ded_model.specs.Normal.{IsNormalTuple}
use Rattle.ded_model.specs.declared.tuple.BothAtom.TheVariants.{First, Second}
use Rattle.ded_model.specs.Normal.{IsNormalTheme}
use Rattle.ded_model.specs.Row.{Atom}
use Rattle.ded_theory.specs.Both.{firsts, seconds}
use Rattle.ded_elimination.specs.LinearAtoms.{IsLinearAtom}
use Rattle.ded_cert.specs.Pairs.{Numbered, pairs_of, pairs_with}

-- both tuples of the pair are
abbrev pub AreTuples : Numbered × Numbered → Type 0
AreTuples p = IsNormalTuple p.0.1 × IsNormalTuple p.1.1

abbrev pub HasTuples : List Numbered → Type 0
HasTuples ts = AllByRecursion (λ t. IsNormalTuple t.1) ts

stored_tuples : (h : List Column) (inserts m : ℕ) (ts : List Numbered) → AreStored h inserts m ts → HasTuples ts
stored_tuples h inserts m [] s = tt
stored_tuples h inserts m (t ∷ ts) s = (s.2.normal, stored_tuples h inserts t.0 ts s.4)

entry_tuples : (limit : ℕ) (K : KnownNames) (e : Entry) → IsEntryOver limit K e → HasTuples (stored_in (Some e))
entry_tuples limit K (relation n h i ts) o = stored_tuples h i 0 ts o.0
entry_tuples limit K (view n h f) o = tt

entries_tuples : (limit : ℕ) (K : KnownNames) (es : List Entry) (n : List ℕ) → AreEntriesOver limit K es → HasTuples (stored_in (entry_of es n))
entries_tuples limit K [] n w = tt
entries_tuples limit K (e ∷ es) n w = by (bytes_eq n (entry_name e)) (entry_tuples limit K e w.1) (entries_tuples limit (with_known K e) es n w.2)
  where
    by : (b : Bool) → HasTuples (stored_in (Some e)) → HasTuples (stored_in (entry_of es n)) → HasTuples (stored_in (if b then Some e else entry_of es n))
    by true h k = h
    by false h k = k

tuples_there : (c : Catalogue) → IsWellFormed c → (n : List ℕ) → HasTuples (tuples_in c n)
tuples_there c w n = entries_tuples c.limit (λ m. None) c.entries n w

all_of_both : (ps qs : List (Numbered × Numbered)) → AllByRecursion AreTuples ps → AllByRecursion AreTuples qs → AllByRecursion AreTuples (ps ++ qs)
all_of_both [] qs h k = k
all_of_both (p ∷ ps) qs h k = (h.0, all_of_both ps qs h.1 k)

tuples_with : (t : Numbered) (us : List Numbered) → IsNormalTuple t.1 → HasTuples us → AllByRecursion AreTuples (pairs_with t us)
tuples_with t [] n m = tt
tuples_with t (u ∷ us) n m = ((n, m.0), tuples_with t us n m.1)

tuple_pairs : (ts us : List Numbered) → HasTuples ts → HasTuples us → AllByRecursion AreTuples (pairs_of ts us)
tuple_pairs [] us n m = tt
tuple_pairs (t ∷ ts) us n m = all_of_both (pairs_with t us) (pairs_of ts us) (tuples_with t us n.0 m) (tuple_pairs ts us n.1 m)

-- of the relations of these names
pub named_pairs : (c : Catalogue) → IsWellFormed c → (n m : List ℕ) → AllByRecursion AreTuples (pairs_of (tuples_in c n) (tuples_in c m))
named_pairs c w n m = tuple_pairs (tuples_in c n) (tuples_in c m) (tuples_there c w n) (tuples_there c w m)

-- ---- the atoms of two normal tuples

pub normal_texts : (t u : List Atom) → IsNormalTuple t → IsNormalTuple u → AllByRecursion IsNormalTheme (seconds (t ++ u))
normal_texts [] [] n m = tt
normal_texts [] (First r ∷ u) n m = normal_texts [] u n m.2
normal_texts [] (Second a ∷ u) n m = (m.0, normal_texts [] u n m.2)
normal_texts (First r ∷ t) u n m = normal_texts t u n.2 m
normal_texts (Second a ∷ t) u n m = (n.0, normal_texts t u n.2 m)

pub linear_rows : (t u : List Atom) → IsNormalTuple t → IsNormalTuple u → AllByRecursion IsLinearAtom (firsts (t ++ u))
linear_rows [] [] n m = tt
linear_rows [] (First r ∷ u) n m = (record { coefs = m.0.0; row = m.0.1 }, linear_rows [] u n m.2)
linear_rows [] (Second a ∷ u) n m = linear_rows [] u n m.2
linear_rows (First r ∷ t) u n m = (record { coefs = n.0.0; row = n.0.1 }, linear_rows t u n.2 m)
linear_rows (Second a ∷ t) u n m = linear_rows t u n.2 m
