-- A new entry at the end of a catalogue changes its bytes_eq-refl name alone.
--
-- Meanings, measures and what is known of names are folds over the entries in order. So an entry at the end is read over
-- the fold of those before it, which is what the shorter catalogue gives.
use Rattle.std.proofs.Common.{◌≡◌, ℕ, Bool, true, false, List, [], ◌∷◌, ◌++◌, refl, sym, ap, ◌∙◌, subst, bytes_eq, Some, true≢false}
use Rattle.std.specs.Prelude.{◌↔◌, MatchBool}
use Rattle.ded_model.specs.Value.{Argument, Meaning}
use Rattle.ded_model.specs.Made.{Reading, itself, closure_of, interior_of, reading, base, base_by, is_made, is_made_by}
use Rattle.ded_model.specs.Catalogue.{Entry, Catalogue, entry_name, read_as, entry_meaning, with_entry, meaning_from, stored, meaning}
use Rattle.ded_model.specs.Measure.{Measures, near_measure, measure_as, entry_measure, with_measure, measures_from, stored_measures, measures}
use Rattle.ded_model.specs.Known.{KnownNames, entry_known, with_known, known_from, known_of}
use Rattle.ded_model.specs.Uses.{MeansAlike}
use Rattle.ded_model.proofs.Nearness.{read_as-alike}
use Rattle.ded_model.proofs.Bools.{bytes_eq-refl}

-- an entry at the end is read over those before it
pub meaning_from-append : (es : List Entry) (e : Entry) (I : Meaning) → meaning_from I (es ++ e ∷ []) ≡ with_entry (meaning_from I es) e
meaning_from-append [] e I = refl
meaning_from-append (d ∷ es) e I = meaning_from-append es e (with_entry I d)

-- of measures
pub measures_from-append : (es : List Entry) (e : Entry) (M : Measures) → measures_from M (es ++ e ∷ []) ≡ with_measure (measures_from M es) e
measures_from-append [] e M = refl
measures_from-append (d ∷ es) e M = measures_from-append es e (with_measure M d)

-- of what is known
pub known_from-append : (es : List Entry) (e : Entry) (K : KnownNames) → known_from K (es ++ e ∷ []) ≡ with_known (known_from K es) e
known_from-append [] e K = refl
known_from-append (d ∷ es) e K = known_from-append es e (with_known K d)

-- the same of catalogues
pub stored-append : (c d : Catalogue) (e : Entry) → d.entries ≡ c.entries ++ e ∷ [] → stored d ≡ with_entry (stored c) e
unfolding stored
stored-append c d e h = ap (meaning_from (λ n den xs. ⊥)) h ∙ meaning_from-append c.entries e (λ n den xs. ⊥)

-- of measures
pub stored_measures-append : (c d : Catalogue) (e : Entry) → d.entries ≡ c.entries ++ e ∷ [] → stored_measures d ≡ with_measure (stored_measures c) e
unfolding stored_measures
stored_measures-append c d e h = ap (measures_from _) h ∙ measures_from-append c.entries e _

-- of what is known
pub known_of-append : (es : List Entry) (e : Entry) → known_of (es ++ e ∷ []) ≡ with_known (known_of es) e
unfolding known_of
known_of-append es e = known_from-append es e _

-- ---- the entry's bytes_eq-refl name, and each other name

-- a choice where the test is false
match_false : (b : Bool) (A B : Type 0) → b ≡ false → MatchBool b A B ↔ B
match_false b A B e = rw e (λ x. x, λ x. x)

-- a choice where the test is true
match_true : (b : Bool) (A B : Type 0) → b ≡ true → MatchBool b A B ↔ A
match_true b A B e = rw e (λ x. x, λ x. x)

-- another entry means the same
pub stored_other : (c d : Catalogue) (e : Entry) (n : List ℕ) (den : ℕ) (xs : List Argument) → d.entries ≡ c.entries ++ e ∷ [] → bytes_eq n (entry_name e) ≡ false → stored d n den xs ↔ stored c n den xs
stored_other c d e n den xs h o = subst (λ I. I n den xs ↔ stored c n den xs) (sym (stored-append c d e h)) (match_false _ _ _ o)

-- under its bytes_eq-refl name it means what it does
pub stored_own : (c d : Catalogue) (e : Entry) (den : ℕ) (xs : List Argument) → d.entries ≡ c.entries ++ e ∷ [] → stored d (entry_name e) den xs ↔ entry_meaning (stored c) e den xs
stored_own c d e den xs h = subst (λ I. I (entry_name e) den xs ↔ entry_meaning (stored c) e den xs) (sym (stored-append c d e h)) (match_true _ _ _ (bytes_eq-refl (entry_name e)))

-- another entry measures the same
pub stored_measure_other : (c d : Catalogue) (e : Entry) (n : List ℕ) → d.entries ≡ c.entries ++ e ∷ [] → bytes_eq n (entry_name e) ≡ false → stored_measures d n ≡ stored_measures c n
stored_measure_other c d e n h o = ap (λ M. M n) (stored_measures-append c d e h) ∙ rw o

-- under its bytes_eq-refl name it measures as it does
pub stored_measure_own : (c d : Catalogue) (e : Entry) → d.entries ≡ c.entries ++ e ∷ [] → stored_measures d (entry_name e) ≡ entry_measure (stored_measures c) e
stored_measure_own c d e h = ap (λ M. M (entry_name e)) (stored_measures-append c d e h) ∙ rw (bytes_eq-refl (entry_name e))

-- ---- names that are made of others, and names that are not

-- a name that is not made is read as itself
pub not_made : (r : Reading) → is_made_by r ≡ false → r ≡ itself
not_made itself e = refl
not_made (closure_of m) e = absurd (true≢false e)
not_made (interior_of m) e = absurd (true≢false e)

-- it means what the entry does
pub meaning-plain : (c : Catalogue) (n : List ℕ) (den : ℕ) (xs : List Argument) → is_made n ≡ false → meaning c n den xs ↔ stored c n den xs
unfolding meaning
meaning-plain c n den xs e = subst (λ r. read_as (stored c) n r den xs ↔ stored c n den xs) (sym (not_made (reading n) e)) (λ x. x, λ x. x)

-- and measures the same
pub measure-plain : (c : Catalogue) (n : List ℕ) → is_made n ≡ false → measures c n ≡ stored_measures c n
unfolding measures
measure-plain c n e = ap (measure_as (stored_measures c) n) (not_made (reading n) e)

-- the measure of a name goes by that of the name which it is made of
pub measure_as-same : (M N : Measures) (n : List ℕ) (r : Reading) → M (base_by n r) ≡ N (base_by n r) → measure_as M n r ≡ measure_as N n r
measure_as-same M N n itself e = e
measure_as-same M N n (closure_of m) e = ap near_measure e
measure_as-same M N n (interior_of m) e = ap near_measure e

-- a name means the same where what it is made of does
pub alike_names : (c d : Catalogue) (n : List ℕ) → ((den : ℕ) (xs : List Argument) → stored c (base n) den xs ↔ stored d (base n) den xs) → MeansAlike c d n
unfolding meaning
alike_names c d n h den xs = read_as-alike (stored c) (stored d) n (reading n) den xs h

-- another name means the same, and is not made of the entry's
pub meaning_other : (c d : Catalogue) (e : Entry) (n : List ℕ) → d.entries ≡ c.entries ++ e ∷ [] → bytes_eq (base n) (entry_name e) ≡ false → MeansAlike d c n
unfolding meaning
meaning_other c d e n h o den xs = read_as-alike (stored d) (stored c) n (reading n) den xs (λ den' ys. stored_other c d e (base n) den' ys h o)

-- its bytes_eq-refl name means what the entry does
pub meaning_own : (c d : Catalogue) (e : Entry) (den : ℕ) (xs : List Argument) → d.entries ≡ c.entries ++ e ∷ [] → is_made (entry_name e) ≡ false → meaning d (entry_name e) den xs ↔ entry_meaning (stored c) e den xs
meaning_own c d e den xs h m =
    let a = meaning-plain d (entry_name e) den xs m in
    let b = stored_own c d e den xs h in
    (λ x. b.0 (a.0 x), λ y. a.1 (b.1 y))

-- another name measures the same
pub measure_other : (c d : Catalogue) (e : Entry) (n : List ℕ) → d.entries ≡ c.entries ++ e ∷ [] → bytes_eq (base n) (entry_name e) ≡ false → measures d n ≡ measures c n
unfolding measures
measure_other c d e n h o = measure_as-same (stored_measures d) (stored_measures c) n (reading n) (stored_measure_other c d e (base n) h o)

-- its bytes_eq-refl name measures as the entry does
pub measure_own : (c d : Catalogue) (e : Entry) → d.entries ≡ c.entries ++ e ∷ [] → is_made (entry_name e) ≡ false → measures d (entry_name e) ≡ entry_measure (stored_measures c) e
measure_own c d e h m = measure-plain d (entry_name e) m ∙ stored_measure_own c d e h

-- of another name the same is known
pub known_other : (es : List Entry) (e : Entry) (n : List ℕ) → bytes_eq n (entry_name e) ≡ false → known_of (es ++ e ∷ []) n ≡ known_of es n
known_other es e n o = ap (λ K. K n) (known_of-append es e) ∙ rw o

-- of its bytes_eq-refl name what is known of the entry
pub known_own : (es : List Entry) (e : Entry) → known_of (es ++ e ∷ []) (entry_name e) ≡ Some (entry_known (known_of es) e)
known_own es e = ap (λ K. K (entry_name e)) (known_of-append es e) ∙ rw (bytes_eq-refl (entry_name e))
