-- What a change of the parts makes of the state.
use Rattle.std.proofs.Common.{◌≡◌, ◌≤◌, ◌-◌, ◌+◌, ℕ, zero, suc, true, List, [], ◌∷◌, ◌++◌, Option, Some, None, is_none, option_map, map, get_or, slice_set, length, drop, replicate, refl, sym, ap, ◌∙◌, subst, arith, IfSome, length-append, length-set, true≢false}
use Rattle.std.specs.List.{AllByRecursion, list_all}
use Rattle.std.proofs.Math.ListN.{get_or-map}
use Rattle.std.proofs.lemmas.List.{map-set, set-get_or, get_or_read_under, drop_all, drop-append-le}
use Rattle.ded_catalog.specs.State.{Table, catalogue_of}
use Rattle.ded_model.specs.Catalogue.{Catalogue}
use Rattle.ded_session.specs.Runs.{empty_catalogue}
use Rattle.ded_shared.specs.Parts.{ArePieces, transaction_in, IsBegun, state_of, IsWithin, AreKept}
use Rattle.ded_shared.specs.Rules.{Replays}
use Rattle.ded_shared.specs.State.{Transaction, State, begun_over, all_with_stale, with_transaction, first_state}
use Rattle.ded_shared.specs.declared.transaction.Transaction as declared

abbrev pub Places : Type 0
Places = List (Option declared.Transaction)

abbrev pub seen : List (List ℕ) → Places → List (Option Transaction)
seen log xs = map (option_map (transaction_in log)) xs

abbrev pub with_places : Table → List (Option Transaction) → State
with_places t xs = record { shared = catalogue_of t; transactions = xs }

abbrev pub AreWithin : Catalogue → ℕ → Places → Type 0
AreWithin c count xs = AllByRecursion (λ (o : Option declared.Transaction). IfSome o (IsWithin c count)) xs

-- ---- one place

-- the transaction at a place
pub seen_at : (log : List (List ℕ)) (xs : Places) (i : ℕ) → get_or (seen log xs) i None ≡ option_map (transaction_in log) (get_or xs i None)
seen_at log xs i = get_or-map (option_map (transaction_in log)) xs i None

pub within_at : (c : Catalogue) (count : ℕ) (xs : Places) (i : ℕ) (x : declared.Transaction) → AreWithin c count xs → get_or xs i None ≡ Some x → IsWithin c count x
within_at c count [] i x all e = absurd (none_some x e)
  where
    none_some : (y : declared.Transaction) → None ≡ Some y → ⊥
    none_some y q = true≢false (ap is_none q)
within_at c count (y ∷ xs) zero x all e = subst (λ (o : Option declared.Transaction). IfSome o (IsWithin c count)) e all.0
within_at c count (y ∷ xs) (suc i) x all e = within_at c count xs i x all.1 e

within_set : (c : Catalogue) (count : ℕ) (xs : Places) (i : ℕ) (y : Option declared.Transaction) → IfSome y (IsWithin c count) → AreWithin c count xs → AreWithin c count (slice_set xs i y)
within_set c count [] i y h all = tt
within_set c count (x ∷ xs) zero y h all = (h, all.1)
within_set c count (x ∷ xs) (suc i) y h all = (all.0, within_set c count xs i y h all.1)

pub kept_set : (t : Table) (xs : Places) (log : List (List ℕ)) (i : ℕ) (y : Option declared.Transaction) → AreKept (record { table = t; transactions = xs; log = log })
    → IfSome y (IsWithin (catalogue_of t) (length log)) → AreKept (record { table = t; transactions = slice_set xs i y; log = log })
kept_set t xs log i y k h = record { places = length-set xs i y ∙ k.places; within = within_set (catalogue_of t) (length log) xs i y h k.within }

pub put_state : (t : Table) (xs : Places) (log : List (List ℕ)) (k : ℕ) (y : Option declared.Transaction)
    → state_of (record { table = t; transactions = slice_set xs (k - 1) y; log = log }) ≡ with_transaction (state_of (record { table = t; transactions = xs; log = log })) k (option_map (transaction_in log) y)
put_state t xs log k y = ap (λ (l : List (Option Transaction)). record { shared = catalogue_of t; transactions = l }) (map-set (option_map (transaction_in log)) xs (k - 1) y)

-- ---- one that begins

abbrev with_parts : Catalogue → List (List ℕ) → List (List ℕ) → List (List ℕ) → List (List ℕ) → Transaction
with_parts o a t h l = record { own = o; accepted = a; touched = t; changed = h; stale = l }

pub begun_is : (log : List (List ℕ)) (c : Catalogue) (x : declared.Transaction) → IsBegun c (length log) x → transaction_in log x ≡ begun_over c
begun_is log c x b = same (catalogue_of x.own) x.accepted.items x.touched.items x.changed.items (drop x.since log) b.own b.accepted b.touched b.changed (ap (λ (n : ℕ). drop n log) b.since ∙ drop_all (length log) log (omega arith))
  where
    same : (o : Catalogue) (a t h l : List (List ℕ)) → o ≡ c → a ≡ [] → t ≡ [] → h ≡ [] → l ≡ [] → with_parts o a t h l ≡ with_parts c [] [] [] []
    same o a t h l p q r s u =
        ap (λ z. with_parts z a t h l) p ∙ ap (λ z. with_parts c z t h l) q ∙ ap (λ z. with_parts c [] z h l) r ∙ ap (λ z. with_parts c [] [] z l) s
        ∙ ap (λ z. with_parts c [] [] [] z) u

pub begun_within : (c : Catalogue) (count : ℕ) (x : declared.Transaction) → IsBegun c count x → IsWithin c count x
begun_within c count x b = record {
  since = subst (λ (n : ℕ). n ≤ count) (sym b.since) (omega arith);
  pieces = subst ArePieces (sym b.accepted) tt;
  replays = λ e. subst (λ (l : List (List ℕ)). Replays l c (catalogue_of x.own)) (sym b.accepted) b.own;
  noted = λ e. b.accepted;
}

-- ---- more names

-- more names, or the same catalogue as before
module _ (c d : Catalogue) (m n : ℕ) (le : m ≤ n) (same : n ≡ m → d ≡ c) where
  grown_one : (x : declared.Transaction) → IsWithin c m x → IsWithin d n x
  grown_one x w = let since = w.since in (record {
    since = omega (arith, since, le);
    pieces = w.pieces;
    replays = λ e.
        let all : n ≡ m = omega (arith, e, since, le) in
        let count : x.since ≡ m = e ∙ all in
        subst (λ (y : Catalogue). Replays x.accepted.items y (catalogue_of x.own)) (sym (same all)) (w.replays count);
    noted = w.noted;
  })

  grown_within : (xs : Places) → AreWithin c m xs → AreWithin d n xs
  grown_within [] all = tt
  grown_within (None ∷ xs) all = (tt, grown_within xs all.1)
  grown_within (Some x ∷ xs) all = (grown_one x all.0, grown_within xs all.1)

none_of : (names : List (List ℕ)) → length names ≡ 0 → names ≡ []
none_of [] e = refl
none_of (n ∷ names) e = absurd (positive (length names) e)
  where
    positive : (k : ℕ) → suc k ≡ 0 → ⊥
    positive k h = omega (arith, h)

pub grown_kept : (t u : Table) (xs : Places) (log names : List (List ℕ)) → (names ≡ [] → catalogue_of u ≡ catalogue_of t) → AreKept (record { table = t; transactions = xs; log = log })
    → AreKept (record { table = u; transactions = xs; log = log ++ names })
grown_kept t u xs log names same k = record {
  places = k.places;
  within = grown_within (catalogue_of t) (catalogue_of u) (length log) (length (log ++ names)) (longer (length-append log names)) (λ e. same (none_of names (none (length-append log names) e))) xs k.within;
}
  where
    longer : length (log ++ names) ≡ length log + length names → length log ≤ length (log ++ names)
    longer e = omega (arith, e)

    none : length (log ++ names) ≡ length log + length names → length (log ++ names) ≡ length log → length names ≡ 0
    none e h = omega (arith, e, h)

pub same_kept : (t u : Table) (xs : Places) (log : List (List ℕ)) → catalogue_of u ≡ catalogue_of t → AreKept (record { table = t; transactions = xs; log = log })
    → AreKept (record { table = u; transactions = xs; log = log })
same_kept t u xs log same k = record { places = k.places; within = subst (λ (c : Catalogue). AreWithin c (length log) xs) (sym same) k.within }

pub grown_seen : (c : Catalogue) (log names : List (List ℕ)) (xs : Places) → AreWithin c (length log) xs → seen (log ++ names) xs ≡ all_with_stale names (seen log xs)
grown_seen c log names [] all = refl
grown_seen c log names (None ∷ xs) all = ap (λ (l : List (Option Transaction)). None ∷ l) (grown_seen c log names xs all.1)
grown_seen c log names (Some x ∷ xs) all =
    ap (λ (l : List (Option Transaction)). Some (transaction_in (log ++ names) x) ∷ l) (grown_seen c log names xs all.1)
    ∙ ap (λ (l : List (List ℕ)). Some (record (transaction_in log x) { stale = l }) ∷ all_with_stale names (seen log xs)) (drop-append-le x.since log names all.0.since)

-- ---- no transaction

pub idle_within : (c : Catalogue) (m : ℕ) (xs : Places) → list_all is_none xs ≡ true → AreWithin c m xs
idle_within c m [] e = tt
idle_within c m (None ∷ xs) e = (tt, idle_within c m xs e)
idle_within c m (Some x ∷ xs) e = absurd (true≢false (sym e))

pub idle_seen : (log later : List (List ℕ)) (xs : Places) → list_all is_none xs ≡ true → seen log xs ≡ seen later xs
idle_seen log later [] e = refl
idle_seen log later (None ∷ xs) e = ap (λ (l : List (Option Transaction)). None ∷ l) (idle_seen log later xs e)
idle_seen log later (Some x ∷ xs) e = absurd (true≢false (sym e))

-- ---- none is open at first

module _ (xs : Places) (none : xs ≡ replicate 64 None) (t : Table) (log : List (List ℕ)) where
  pub first_kept : AreKept (record { table = t; transactions = xs; log = log })
  first_kept = subst (λ (l : Places). AreKept (record { table = t; transactions = l; log = log })) (sym none) (record { places = refl; within = idle_within (catalogue_of t) (length log) (replicate 64 None) refl })

  pub first_is : (limit : ℕ) → catalogue_of t ≡ empty_catalogue limit → state_of (record { table = t; transactions = xs; log = log }) ≡ first_state limit
  first_is limit empty =
      ap (λ (l : Places). record { shared = catalogue_of t; transactions = seen log l }) none
      ∙ ap (λ (c : Catalogue). record { shared = c; transactions = replicate 64 None }) empty

-- ---- reading a place

pub read_at : (xs : Places) (k i : ℕ) (x : Option declared.Transaction) → x ≡ get_or xs i x → i ≡ k - 1 → 1 ≤ k → k ≤ 64 → length xs ≡ 64 → get_or xs (k - 1) None ≡ x
read_at xs k i x read at low high size = ap (λ (j : ℕ). get_or xs j None) (sym at) ∙ sym (get_or_read_under xs i 64 x None read (omega (arith, at, low, high)) (sym size))

-- what is written back as it was
pub put_back : (xs : Places) (i : ℕ) (x : Option declared.Transaction) → x ≡ get_or xs i x → slice_set xs i x ≡ xs
put_back xs i x read = ap (slice_set xs i) read ∙ set-get_or xs i x

pub put_same : (xs : Places) (i : ℕ) (x y : Option declared.Transaction) → x ≡ get_or xs i x → x ≡ y → slice_set xs i y ≡ xs
put_same xs i x y read e = ap (slice_set xs i) (sym e) ∙ put_back xs i x read
