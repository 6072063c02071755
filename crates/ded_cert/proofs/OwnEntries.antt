-- Of relations whose tuples have numbers of their own the first entry with the numbers of a pair is the pair's.
use Rattle.std.proofs.Common.{◌≡◌, ℕ, arith, ◌<◌, ◌≤◌, Bool, true, false, Some, None, List, [], ◌∷◌, ◌++◌, inl, inr, refl, sym, ap, ap₂, ◌∙◌, subst, append_assoc}
use Rattle.std.specs.Prelude.{◌==◌, ◌&&◌, MatchOption, if◌then◌else◌}
use Rattle.std.proofs.lemmas.Bool.Decides.{nat_tests}
use Rattle.std.specs.List.{AllByRecursion}
use Rattle.ded_num.proofs.Tests.{and_false}
use Rattle.ded_model.specs.declared.certificate.Entry.{Entry}
use Rattle.ded_model.specs.declared.name.Column.{Column}
use Rattle.ded_model.specs.Known.{AreStored}
use Rattle.ded_model.specs.Normal.{IsNormalTuple}
use Rattle.ded_model.specs.Row.{Atom}
use Rattle.ded_model.specs.Width.{tuple_length}
use Rattle.ded_model.proofs.Made.{number_same}
use Rattle.ded_cert.specs.Certified.{HasSmallSum}
use Rattle.ded_cert.specs.Checks.{Checks, IsTooLong}
use Rattle.ded_cert.specs.Pairs.{Numbered, pairs_with, pairs_of, entry_for, IsEntryOf, AreEntriesOf, IsVerified, IsLongCheck, SomePair}
use Rattle.ded_cert.proofs.ShortSums.{short_checks}

-- ---- pairs with other numbers

same : Numbered × Numbered → Numbered × Numbered → Bool
same p q = (p.0.0 == q.0.0) && (p.1.0 == q.1.0)

abbrev Unlike : Numbered × Numbered → Numbered × Numbered → Type 0
Unlike p q = same p q ≡ false

abbrev AreUnlike : List (Numbered × Numbered) → Type 0
AreUnlike [] = Unit {0}
AreUnlike (p ∷ ps) = AllByRecursion (Unlike p) ps × AreUnlike ps

first_less : (p q : Numbered × Numbered) → p.0.0 < q.0.0 → Unlike p q
unfolding same
first_less p q less = rw (other p.0.0 q.0.0 less) refl
  where
    other : (m n : ℕ) → m < n → (m == n) ≡ false
    other m n less = grind (arith, nat_tests)

second_less : (p q : Numbered × Numbered) → p.1.0 < q.1.0 → Unlike p q
unfolding same
second_less p q less = and_false (p.0.0 == q.0.0) (p.1.0 == q.1.0) (other p.1.0 q.1.0 less)
  where
    other : (m n : ℕ) → m < n → (m == n) ≡ false
    other m n less = grind (arith, nat_tests)

above : (h : List Column) (i m n : ℕ) (ts : List Numbered) → n ≤ m → AreStored h i m ts → AllByRecursion (λ t. n < t.0) ts
above h i m n [] low s = tt
above h i m n (t ∷ ts) low s = let l = s.0 in (omega (arith, l, low), above h i t.0 n ts (omega (arith, l, low)) s.4)

unlike-append : (ps qs : List (Numbered × Numbered)) → AreUnlike ps → AreUnlike qs → AllByRecursion (λ p. AllByRecursion (Unlike p) qs) ps → AreUnlike (ps ++ qs)
unlike-append [] qs a b h = b
unlike-append (p ∷ ps) qs a b h = (all_both p ps qs a.0 h.0, unlike-append ps qs a.1 b h.1)
  where
    all_both : (p : Numbered × Numbered) (ps qs : List (Numbered × Numbered)) → AllByRecursion (Unlike p) ps → AllByRecursion (Unlike p) qs → AllByRecursion (Unlike p) (ps ++ qs)
    all_both p [] qs a b = b
    all_both p (q ∷ ps) qs a b = (a.0, all_both p ps qs a.1 b)

with_above : (t u : Numbered) (us : List Numbered) → AllByRecursion (λ v. u.0 < v.0) us → AllByRecursion (Unlike (t, u)) (pairs_with t us)
with_above t u [] h = tt
with_above t u (v ∷ us) h = (second_less (t, u) (t, v) h.0, with_above t u us h.1)

with_unlike : (k : List Column) (j m : ℕ) (t : Numbered) (us : List Numbered) → AreStored k j m us → AreUnlike (pairs_with t us)
with_unlike k j m t [] s = tt
with_unlike k j m t (u ∷ us) s = (with_above t u us (above k j u.0 u.0 us (omega arith) s.4), with_unlike k j u.0 t us s.4)

-- the pairs of one tuple are unlike those of later ones
against : (p : Numbered × Numbered) (t : Numbered) (us : List Numbered) → p.0.0 < t.0 → AllByRecursion (Unlike p) (pairs_with t us)
against p t [] less = tt
against p t (u ∷ us) less = (first_less p (t, u) less, against p t us less)

against_all : (p : Numbered × Numbered) (ts us : List Numbered) → AllByRecursion (λ t. p.0.0 < t.0) ts → AllByRecursion (Unlike p) (pairs_of ts us)
against_all p [] us h = tt
against_all p (t ∷ ts) us h = all_both (pairs_with t us) (pairs_of ts us) (against p t us h.0) (against_all p ts us h.1)
  where
    all_both : (ps qs : List (Numbered × Numbered)) → AllByRecursion (Unlike p) ps → AllByRecursion (Unlike p) qs → AllByRecursion (Unlike p) (ps ++ qs)
    all_both [] qs a b = b
    all_both (q ∷ ps) qs a b = (a.0, all_both ps qs a.1 b)

each_against : (t : Numbered) (vs ts us : List Numbered) → AllByRecursion (λ s. t.0 < s.0) ts → AllByRecursion (λ p. AllByRecursion (Unlike p) (pairs_of ts us)) (pairs_with t vs)
each_against t [] ts us h = tt
each_against t (v ∷ vs) ts us h = (against_all (t, v) ts us h, each_against t vs ts us h)

pairs_unlike : (h k : List Column) (i j m : ℕ) (ts us : List Numbered) → AreStored h i m ts → AreStored k j 0 us → AreUnlike (pairs_of ts us)
pairs_unlike h k i j m [] us s w = tt
pairs_unlike h k i j m (t ∷ ts) us s w =
    unlike-append (pairs_with t us) (pairs_of ts us) (with_unlike k j 0 t us w) (pairs_unlike h k i j t.0 ts us s.4 w) (each_against t us ts us (above h i t.0 t.0 ts (omega arith) s.4))

-- ---- entries one after another

later : (es fs : List Entry) (i j : ℕ) → entry_for es i j ≡ None → entry_for (es ++ fs) i j ≡ entry_for fs i j
later [] fs i j none = refl
later (e ∷ es) fs i j none = by ((e.first == i) && (e.second == j)) none (later es fs i j)
  where
    by : (b : Bool) → (if b then Some e else entry_for es i j) ≡ None → (entry_for es i j ≡ None → entry_for (es ++ fs) i j ≡ entry_for fs i j)
        → (if b then Some e else entry_for (es ++ fs) i j) ≡ entry_for fs i j
    by true is more = absurd cc
    by false is more = more is

here : (p : Numbered × Numbered) (e : Entry) (es : List Entry) → IsEntryOf p e → entry_for (e ∷ es) p.0.0 p.1.0 ≡ Some e
here p e es h =
    let one : (e.first == p.0.0) ≡ true = ap (λ n. n == p.0.0) h.first ∙ number_same p.0.0 in
    let two : (e.second == p.1.0) ≡ true = ap (λ n. n == p.1.0) h.second ∙ number_same p.1.0 in
    rw one (rw two refl)

not_here : (p q : Numbered × Numbered) (e : Entry) → IsEntryOf p e → Unlike p q → entry_for (e ∷ []) q.0.0 q.1.0 ≡ None
unfolding same
not_here p q e h u =
    let other : ((e.first == q.0.0) && (e.second == q.1.0)) ≡ false = ap₂ (λ m n. (m == q.0.0) && (n == q.1.0)) h.first h.second ∙ u in
    rw other refl

-- the entry of a pair
record Own (es : List Entry) (p : Numbered × Numbered) : Type 0 where
  entry : Entry
  is : entry_for es p.0.0 p.1.0 ≡ Some entry
  of : IsEntryOf p entry

abbrev AreNew : List Entry → List (Numbered × Numbered) → Type 0
AreNew before = AllByRecursion (λ p. entry_for before p.0.0 p.1.0 ≡ None)

still_new : (p : Numbered × Numbered) (before : List Entry) (e : Entry) (qs : List (Numbered × Numbered)) → IsEntryOf p e → AllByRecursion (Unlike p) qs → AreNew before qs → AreNew (before ++ e ∷ []) qs
still_new p before e [] h u n = tt
still_new p before e (q ∷ qs) h u n = (later before (e ∷ []) q.0.0 q.1.0 n.0 ∙ not_here p q e h u.0, still_new p before e qs h u.1 n.1)

own_after : (before : List Entry) (ps : List (Numbered × Numbered)) (es : List Entry) → AreUnlike ps → AreNew before ps → AreEntriesOf ps es → AllByRecursion (Own (before ++ es)) ps
own_after before [] es u n h = tt
own_after before (p ∷ ps) [] u n h = absurd h
own_after before (p ∷ ps) (e ∷ es) u n h = (
  record { entry = e; is = later before (e ∷ es) p.0.0 p.1.0 n.0 ∙ here p e es h.0; of = h.0 },
  subst (λ all. AllByRecursion (Own all) ps) (append_assoc before (e ∷ []) es) (own_after (before ++ e ∷ []) ps es u.1 (still_new p before e ps h.0 u.0 n.1) h.1),
)

new : (ps : List (Numbered × Numbered)) → AreNew [] ps
new [] = tt
new (p ∷ ps) = (refl, new ps)

-- ---- what follows

own_verified : (es : List Entry) (p : Numbered × Numbered) → Own es p → IsVerified es p
own_verified es p o = subst (λ e. MatchOption e ⊥ (λ d. Checks p.0.1 p.1.1 d.proof)) (sym o.is) o.of.checks

own_small : (es : List Entry) (p : Numbered × Numbered) → Own es p → IsLongCheck es p → (e : Entry) × HasSmallSum e.proof × IsTooLong p.0.1 p.1.1 e.proof
own_small es p o long = (o.entry, o.of.small, subst (λ e. MatchOption e ⊥ (λ d. IsTooLong p.0.1 p.1.1 d.proof)) o.is long)

each_verified : (es : List Entry) (ps : List (Numbered × Numbered)) → AllByRecursion (Own es) ps → AllByRecursion (IsVerified es) ps
each_verified es [] o = tt
each_verified es (p ∷ ps) o = (own_verified es p o.0, each_verified es ps o.1)

pub all_verified : (h k : List Column) (i j : ℕ) (ts us : List Numbered) (es : List Entry) → AreStored h i 0 ts → AreStored k j 0 us → AreEntriesOf (pairs_of ts us) es
    → AllByRecursion (IsVerified es) (pairs_of ts us)
all_verified h k i j ts us es s w e = each_verified es (pairs_of ts us) (own_after [] (pairs_of ts us) es (pairs_unlike h k i j 0 ts us s w) (new (pairs_of ts us)) e)

abbrev IsShortTuple : List Atom → Type 0
IsShortTuple t = IsNormalTuple t × (tuple_length t ≤ 63)

abbrev IsShortPair : Numbered × Numbered → Type 0
IsShortPair p = IsShortTuple p.0.1 × IsShortTuple p.1.1

short_tuples : (h : List Column) (i m : ℕ) (ts : List Numbered) → AreStored h i m ts → AllByRecursion (λ t. IsShortTuple t.1) ts
short_tuples h i m [] s = tt
short_tuples h i m (t ∷ ts) s = ((s.2.normal, s.3), short_tuples h i t.0 ts s.4)

short_with : (t : Numbered) (us : List Numbered) → IsShortTuple t.1 → AllByRecursion (λ u. IsShortTuple u.1) us → AllByRecursion IsShortPair (pairs_with t us)
short_with t [] s w = tt
short_with t (u ∷ us) s w = ((s, w.0), short_with t us s w.1)

short_pairs : (ts us : List Numbered) → AllByRecursion (λ t. IsShortTuple t.1) ts → AllByRecursion (λ u. IsShortTuple u.1) us → AllByRecursion IsShortPair (pairs_of ts us)
short_pairs [] us s w = tt
short_pairs (t ∷ ts) us s w = all_both (pairs_with t us) (pairs_of ts us) (short_with t us s.0 w) (short_pairs ts us s.1 w)
  where
    all_both : (ps qs : List (Numbered × Numbered)) → AllByRecursion IsShortPair ps → AllByRecursion IsShortPair qs → AllByRecursion IsShortPair (ps ++ qs)
    all_both [] qs a b = b
    all_both (q ∷ ps) qs a b = (a.0, all_both ps qs a.1 b)

none_long : (es : List Entry) (ps : List (Numbered × Numbered)) → AllByRecursion (Own es) ps → AllByRecursion IsShortPair ps → SomePair (IsLongCheck es) ps → ⊥
none_long es [] o s h = h
none_long es (p ∷ ps) o s (inl h) =
    let e = own_small es p o.0 h in
    short_checks p.0.1 p.1.1 e.0.proof s.0.0.0 s.0.1.0 s.0.0.1 s.0.1.1 e.1 e.2
none_long es (p ∷ ps) o s (inr h) = none_long es ps o.1 s.1 h

pub never_long : (h k : List Column) (i j : ℕ) (ts us : List Numbered) (es : List Entry) → AreStored h i 0 ts → AreStored k j 0 us → AreEntriesOf (pairs_of ts us) es
    → SomePair (IsLongCheck es) (pairs_of ts us) → ⊥
never_long h k i j ts us es s w e =
    none_long es (pairs_of ts us) (own_after [] (pairs_of ts us) es (pairs_unlike h k i j 0 ts us s w) (new (pairs_of ts us)) e)
    (short_pairs ts us (short_tuples h i 0 ts s) (short_tuples k j 0 us w))
