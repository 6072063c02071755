-- The entries of the pairs of one tuple, and of all, one after another.
use Rattle.std.proofs.Common.{◌≡◌, ℕ, List, [], ◌∷◌, ◌++◌, inl, refl, sym, ap, ◌∙◌, subst, append_assoc, append-nil}
use Rattle.std.specs.List.{AllByRecursion}
use Rattle.ded_model.specs.declared.certificate.Entry.{Entry}
use Rattle.ded_model.specs.declared.certificate.Proof.{Proof}
use Rattle.ded_cert.specs.Certified.{HasSmallSum}
use Rattle.ded_cert.specs.Checks.{Checks}
use Rattle.ded_cert.specs.Pairs.{Numbered, pairs_with, pairs_of, AreApart, Meet, IsEntryOf, AreEntriesOf, IsFirstMeeting, SomePair}
use Rattle.ded_cert.proofs.Paired.{with-append, of-append, of_one, entries-append, all_apart, meeting_behind, meeting_before, some_behind, some_before, with_split, of_split, step_on}

entry_is : (t u : Numbered) (e : Entry) (proof : Proof) → e ≡ record { first = t.0; second = u.0; proof = proof } → Checks t.1 u.1 proof × HasSmallSum proof → IsEntryOf (t, u) e
entry_is t u e proof is h = subst (IsEntryOf (t, u)) (sym is) (record { first = refl; second = refl; checks = h.0; small = h.1 })

-- ---- the pairs of one tuple

-- of the pairs of the tuple the entries were added, but for those of the rest
pub record Added (t : Numbered) (all rest : List Numbered) (before now : List Entry) : Type 0 where
  pub front : List Numbered
  pub is : front ++ rest ≡ all
  pub entries : (done : List (Numbered × Numbered)) → AreEntriesOf done before → AreEntriesOf (done ++ pairs_with t front) now

pub added_none : (t : Numbered) (all rest : List Numbered) (before : List Entry) → rest ≡ all → Added t all rest before before
added_none t all rest before is = record {
  front = [];
  is = is;
  entries = λ done h. subst (λ ps. AreEntriesOf ps before) (sym (append-nil done)) h;
}

with_entry : (t : Numbered) (all rest : List Numbered) (u : Numbered) (next : List Numbered) (before now : List Entry) (e : Entry) → Added t all rest before now → rest ≡ u ∷ next → IsEntryOf (t, u) e
    → Added t all next before (now ++ e ∷ [])
with_entry t all rest u next before now e a steps h =
    let is : a.front ++ (u ∷ next) ≡ all = ap (λ us. a.front ++ us) (sym steps) ∙ a.is in
    record {
      front = a.front ++ u ∷ [];
      is = step_on a.front u next all is;
      entries = λ done d.
          subst (λ ps. AreEntriesOf ps (now ++ e ∷ [])) (append_assoc done (pairs_with t a.front) ((t, u) ∷ []) ∙ ap (λ ps. done ++ ps) (sym (with-append t a.front (u ∷ []))))
          (entries-append (done ++ pairs_with t a.front) ((t, u) ∷ []) now (e ∷ []) (a.entries done d) (h, tt));
    }

pub added_one : (t : Numbered) (all rest : List Numbered) (u : Numbered) (next : List Numbered) (before now after : List Entry) (e : Entry) (proof : Proof) → Added t all rest before now → rest ≡ u ∷ next
    → after ≡ now ++ e ∷ [] → e ≡ record { first = t.0; second = u.0; proof = proof } → Checks t.1 u.1 proof × HasSmallSum proof → Added t all next before after
added_one t all rest u next before now after e proof a steps more made certified =
    subst (Added t all next before) (sym more) (with_entry t all rest u next before now e a steps (entry_is t u e proof made certified))

pub added_all : (t : Numbered) (all rest : List Numbered) (before now : List Entry) → Added t all rest before now → rest ≡ [] → (done : List (Numbered × Numbered)) → AreEntriesOf done before → AreEntriesOf (done ++ pairs_with t all) now
added_all t all rest before now a none done d =
    subst (λ us. AreEntriesOf (done ++ pairs_with t us) now) (sym (append-nil a.front) ∙ ap (λ us. a.front ++ us) (sym none) ∙ a.is) (a.entries done d)

behind : (ps qs : List (Numbered × Numbered)) → AllByRecursion AreApart (ps ++ qs) → AllByRecursion AreApart qs
behind [] qs h = h
behind (p ∷ ps) qs h = behind ps qs h.1

pub added_meets : (t : Numbered) (all rest : List Numbered) (u : Numbered) (next : List Numbered) (before now : List Entry) → Added t all rest before now → rest ≡ u ∷ next → Meet (t, u)
    → (done : List (Numbered × Numbered)) → AreEntriesOf done before → IsFirstMeeting (pairs_with t all) t.0 u.0
added_meets t all rest u next before now a steps meets done d =
    let is : a.front ++ (u ∷ next) ≡ all = ap (λ us. a.front ++ us) (sym steps) ∙ a.is in
    subst (λ ps. IsFirstMeeting ps t.0 u.0) (sym (with_split t a.front u next all is))
    (meeting_behind (pairs_with t a.front) ((t, u) ∷ pairs_with t next) t.0 u.0 (behind done (pairs_with t a.front) (all_apart (done ++ pairs_with t a.front) now (a.entries done d))) (inl (refl, refl, meets)))

pub added_wide : (P : Numbered × Numbered → Type 0) (t : Numbered) (all rest : List Numbered) (u : Numbered) (next front : List Numbered) → front ++ rest ≡ all → rest ≡ u ∷ next → P (t, u) → SomePair P (pairs_with t all)
added_wide P t all rest u next front split steps wide =
    subst (SomePair P) (sym (with_split t front u next all (ap (λ us. front ++ us) (sym steps) ∙ split))) (some_behind P (pairs_with t front) ((t, u) ∷ pairs_with t next) (inl wide))

-- ---- all pairs

-- the entries are those of the pairs of the tuples before the rest
pub record Entered (us all rest : List Numbered) (now : List Entry) : Type 0 where
  pub front : List Numbered
  pub is : front ++ rest ≡ all
  pub entries : AreEntriesOf (pairs_of front us) now

pub entered_none : (us all rest : List Numbered) → rest ≡ all → Entered us all rest []
entered_none us all rest is = record { front = []; is = is; entries = tt }

pub entered_one : (us all rest : List Numbered) (t : Numbered) (next : List Numbered) (now after : List Entry) → Entered us all rest now → rest ≡ t ∷ next
    → ((done : List (Numbered × Numbered)) → AreEntriesOf done now → AreEntriesOf (done ++ pairs_with t us) after) → Entered us all next after
entered_one us all rest t next now after a steps h =
    let is : a.front ++ (t ∷ next) ≡ all = ap (λ ts. a.front ++ ts) (sym steps) ∙ a.is in
    record {
      front = a.front ++ t ∷ [];
      is = step_on a.front t next all is;
      entries = subst (λ ps. AreEntriesOf ps after) (ap (λ ps. pairs_of a.front us ++ ps) (sym (of_one t us)) ∙ sym (of-append a.front (t ∷ []) us)) (h (pairs_of a.front us) a.entries);
    }

pub entered_all : (us all rest : List Numbered) (now : List Entry) → Entered us all rest now → rest ≡ [] → AreEntriesOf (pairs_of all us) now
entered_all us all rest now a none = subst (λ ts. AreEntriesOf (pairs_of ts us) now) (sym (append-nil a.front) ∙ ap (λ ts. a.front ++ ts) (sym none) ∙ a.is) a.entries

pub entered_meets : (us all rest : List Numbered) (t : Numbered) (next : List Numbered) (now : List Entry) (i j : ℕ) → Entered us all rest now → rest ≡ t ∷ next
    → ((done : List (Numbered × Numbered)) → AreEntriesOf done now → IsFirstMeeting (pairs_with t us) i j) → IsFirstMeeting (pairs_of all us) i j
entered_meets us all rest t next now i j a steps h =
    let is : a.front ++ (t ∷ next) ≡ all = ap (λ ts. a.front ++ ts) (sym steps) ∙ a.is in
    subst (λ ps. IsFirstMeeting ps i j) (sym (of_split us a.front t next all is))
    (meeting_behind (pairs_of a.front us) (pairs_with t us ++ pairs_of next us) i j (all_apart (pairs_of a.front us) now a.entries)
    (meeting_before (pairs_with t us) (pairs_of next us) i j (h (pairs_of a.front us) a.entries)))

pub some_of_all : (P : Numbered × Numbered → Type 0) (us all rest : List Numbered) (t : Numbered) (next front : List Numbered) → front ++ rest ≡ all → rest ≡ t ∷ next → SomePair P (pairs_with t us) → SomePair P (pairs_of all us)
some_of_all P us all rest t next front split steps h =
    subst (SomePair P) (sym (of_split us front t next all (ap (λ ts. front ++ ts) (sym steps) ∙ split)))
    (some_behind P (pairs_of front us) (pairs_with t us ++ pairs_of next us) (some_before P (pairs_with t us) (pairs_of next us) h))
