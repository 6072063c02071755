-- Pairs of tuples, one after another.
use Rattle.std.proofs.Common.{◌≡◌, ℕ, List, [], ◌∷◌, ◌++◌, inl, inr, refl, sym, ap, ◌∙◌, append_assoc, append-nil}
use Rattle.std.specs.List.{AllByRecursion}
use Rattle.ded_model.specs.declared.certificate.Entry.{Entry}
use Rattle.ded_cert.specs.Pairs.{Numbered, pairs_with, pairs_of, AreApart, IsEntryOf, AreEntriesOf, IsFirstMeeting, SomePair}
use Rattle.ded_cert.proofs.Shown.{tuples_nowhere}

-- ---- pairs of lists

pub with-append : (t : Numbered) (us vs : List Numbered) → pairs_with t (us ++ vs) ≡ pairs_with t us ++ pairs_with t vs
with-append t [] vs = refl
with-append t (u ∷ us) vs = ap (λ ps. (t, u) ∷ ps) (with-append t us vs)

pub of-append : (ss ts us : List Numbered) → pairs_of (ss ++ ts) us ≡ pairs_of ss us ++ pairs_of ts us
of-append [] ts us = refl
of-append (s ∷ ss) ts us = ap (λ ps. pairs_with s us ++ ps) (of-append ss ts us) ∙ sym (append_assoc (pairs_with s us) (pairs_of ss us) (pairs_of ts us))

pub of_one : (t : Numbered) (us : List Numbered) → pairs_of (t ∷ []) us ≡ pairs_with t us
of_one t us = append-nil (pairs_with t us)

-- ---- entries

pub entries-append : (ps qs : List (Numbered × Numbered)) (es fs : List Entry) → AreEntriesOf ps es → AreEntriesOf qs fs → AreEntriesOf (ps ++ qs) (es ++ fs)
entries-append [] qs [] fs h k = k
entries-append [] qs (e ∷ es) fs h k = absurd h
entries-append (p ∷ ps) qs [] fs h k = absurd h
entries-append (p ∷ ps) qs (e ∷ es) fs h k = (h.0, entries-append ps qs es fs h.1 k)

entry_apart : (p : Numbered × Numbered) (e : Entry) → IsEntryOf p e → AreApart p
entry_apart p e h = tuples_nowhere p.0.1 p.1.1 e.proof h.checks

-- pairs that have entries are apart
pub all_apart : (ps : List (Numbered × Numbered)) (es : List Entry) → AreEntriesOf ps es → AllByRecursion AreApart ps
all_apart [] es h = tt
all_apart (p ∷ ps) [] h = absurd h
all_apart (p ∷ ps) (e ∷ es) h = (entry_apart p e h.0, all_apart ps es h.1)

-- ---- meetings

pub meeting_behind : (ps qs : List (Numbered × Numbered)) (i j : ℕ) → AllByRecursion AreApart ps → IsFirstMeeting qs i j → IsFirstMeeting (ps ++ qs) i j
meeting_behind [] qs i j h m = m
meeting_behind (p ∷ ps) qs i j h m = inr (h.0, meeting_behind ps qs i j h.1 m)

pub meeting_before : (ps qs : List (Numbered × Numbered)) (i j : ℕ) → IsFirstMeeting ps i j → IsFirstMeeting (ps ++ qs) i j
meeting_before [] qs i j m = absurd m
meeting_before (p ∷ ps) qs i j (inl m) = inl m
meeting_before (p ∷ ps) qs i j (inr m) = inr (m.0, meeting_before ps qs i j m.1)

-- ---- some pair

pub some_behind : (P : Numbered × Numbered → Type 0) (ps qs : List (Numbered × Numbered)) → SomePair P qs → SomePair P (ps ++ qs)
some_behind P [] qs h = h
some_behind P (p ∷ ps) qs h = inr (some_behind P ps qs h)

pub some_before : (P : Numbered × Numbered → Type 0) (ps qs : List (Numbered × Numbered)) → SomePair P ps → SomePair P (ps ++ qs)
some_before P [] qs h = absurd h
some_before P (p ∷ ps) qs (inl h) = inl h
some_before P (p ∷ ps) qs (inr h) = inr (some_before P ps qs h)

-- ---- a tuple, those before it, and those behind

pub with_split : (t : Numbered) (front : List Numbered) (u : Numbered) (rest all : List Numbered) → front ++ (u ∷ rest) ≡ all → pairs_with t all ≡ pairs_with t front ++ ((t, u) ∷ pairs_with t rest)
with_split t front u rest all is = ap (pairs_with t) (sym is) ∙ with-append t front (u ∷ rest)

pub of_split : (us front : List Numbered) (t : Numbered) (rest all : List Numbered) → front ++ (t ∷ rest) ≡ all → pairs_of all us ≡ pairs_of front us ++ (pairs_with t us ++ pairs_of rest us)
of_split us front t rest all is = ap (λ ts. pairs_of ts us) (sym is) ∙ of-append front (t ∷ rest) us

pub step_on : (front : List Numbered) (t : Numbered) (rest all : List Numbered) → front ++ (t ∷ rest) ≡ all → (front ++ t ∷ []) ++ rest ≡ all
step_on front t rest all is = append_assoc front (t ∷ []) rest ∙ is
