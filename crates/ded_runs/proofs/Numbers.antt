-- The numbers in certificates of stored tuples are small.
use Rattle.std.proofs.Common.{◌≡◌, ◌≤◌, ◌<◌, ◌^◌, ℕ, Bool, true, false, List, [], ◌∷◌, ◌++◌, arith, bytes_eq}
use Rattle.std.specs.Prelude.{Some, None, if◌then◌else◌}
use Rattle.std.specs.List.{AllByRecursion}
use Rattle.ded_model.specs.declared.certificate.Entry.{Entry as Certificate}
use Rattle.ded_model.specs.declared.name.Column.{Column}
use Rattle.ded_model.specs.Catalogue.{Entry, Catalogue, relation, view, entry_name}
use Rattle.ded_model.specs.Entries.{entry_of, stored_in, tuples_in}
use Rattle.ded_model.specs.Known.{KnownNames, AreStored, IsEntryOver, AreEntriesOver, IsWellFormed, with_known}
use Rattle.ded_cert.specs.Pairs.{Numbered, pairs_with, pairs_of, AreEntriesOf}
use Rattle.ded_runs.specs.Few.{HasFewInserts, HaveFewInserts}
use Rattle.ded_runs.proofs.Entries.{IsSmallEntry}

-- ---- stored tuples

-- with numbers of at most 2^32 - 1
pub record Stored (ts : List Numbered) : Type 0 where
  pub columns : List Column
  pub inserts : ℕ
  pub are : AreStored columns inserts 0 ts
  pub few : inserts ≤ 4294967295

none_stored : Stored []
none_stored = record { columns = []; inserts = 0; are = tt; few = omega arith }

entry_stored : (limit : ℕ) (K : KnownNames) (e : Entry) → IsEntryOver limit K e → HasFewInserts e → Stored (stored_in (Some e))
entry_stored limit K (relation n h i ts) o few = record { columns = h; inserts = i; are = o.0; few = few }
entry_stored limit K (view n h f) o few = none_stored

entries_stored : (limit : ℕ) (K : KnownNames) (es : List Entry) (n : List ℕ) → AreEntriesOver limit K es → AllByRecursion HasFewInserts es → Stored (stored_in (entry_of es n))
entries_stored limit K [] n w few = none_stored
entries_stored limit K (e ∷ es) n w few = by (bytes_eq n (entry_name e)) (entry_stored limit K e w.1 few.0) (entries_stored limit (with_known K e) es n w.2 few.1)
  where
    by : (b : Bool) → Stored (stored_in (Some e)) → Stored (stored_in (entry_of es n)) → Stored (stored_in (if b then Some e else entry_of es n))
    by true h k = h
    by false h k = k

pub tuples_stored : (c : Catalogue) (n : List ℕ) → IsWellFormed c → HaveFewInserts c → Stored (tuples_in c n)
tuples_stored c n w few = entries_stored c.limit (λ m. None) c.entries n w few

-- ---- numbers of tuples

abbrev HasLowNumber : Numbered → Type 0
HasLowNumber t = t.0 ≤ 4294967295

abbrev HaveLowNumbers : Numbered × Numbered → Type 0
HaveLowNumbers p = HasLowNumber p.0 × HasLowNumber p.1

low_tuples : (h : List Column) (i m : ℕ) (ts : List Numbered) → i ≤ 4294967295 → AreStored h i m ts → AllByRecursion HasLowNumber ts
low_tuples h i m [] few s = tt
low_tuples h i m (t ∷ ts) few s = (low t.0 s.1, low_tuples h i t.0 ts few s.4)
  where
    low : (k : ℕ) → k ≤ i → k ≤ 4294967295
    low k l = omega (arith, l, few)

low_with : (t : Numbered) (us : List Numbered) → HasLowNumber t → AllByRecursion HasLowNumber us → AllByRecursion HaveLowNumbers (pairs_with t us)
low_with t [] h k = tt
low_with t (u ∷ us) h k = ((h, k.0), low_with t us h k.1)

low_pairs : (ts us : List Numbered) → AllByRecursion HasLowNumber ts → AllByRecursion HasLowNumber us → AllByRecursion HaveLowNumbers (pairs_of ts us)
low_pairs [] us h k = tt
low_pairs (t ∷ ts) us h k = both (pairs_with t us) (pairs_of ts us) (low_with t us h.0 k) (low_pairs ts us h.1 k)
  where
    both : (ps qs : List (Numbered × Numbered)) → AllByRecursion HaveLowNumbers ps → AllByRecursion HaveLowNumbers qs → AllByRecursion HaveLowNumbers (ps ++ qs)
    both [] qs a b = b
    both (p ∷ ps) qs a b = (a.0, both ps qs a.1 b)

-- ---- certificates

below : (i k : ℕ) → i ≡ k → k ≤ 4294967295 → i < 2 ^ 63
below i k e l = omega (arith, e, l)

small_entries : (ps : List (Numbered × Numbered)) (es : List Certificate) → AllByRecursion HaveLowNumbers ps → AreEntriesOf ps es → AllByRecursion IsSmallEntry es
small_entries [] [] low h = tt
small_entries [] (e ∷ es) low h = absurd h
small_entries (p ∷ ps) [] low h = absurd h
small_entries (p ∷ ps) (e ∷ es) low h =
    (record { first = below e.first p.0.0 h.0.first low.0.0; second = below e.second p.1.0 h.0.second low.0.1; proof = h.0.small }, small_entries ps es low.1 h.1)

pub stored_small : (ts us : List Numbered) (es : List Certificate) → Stored ts → Stored us → AreEntriesOf (pairs_of ts us) es → AllByRecursion IsSmallEntry es
stored_small ts us es s t h =
    small_entries (pairs_of ts us) es (low_pairs ts us (low_tuples s.columns s.inserts 0 ts s.few s.are) (low_tuples t.columns t.inserts 0 us t.few t.are)) h
