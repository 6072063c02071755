-- What is so of all pairs of one tuple, and of all pairs, told one after another.
use Rattle.std.proofs.Common.{◌≡◌, true, false, Some, None, List, [], ◌∷◌, ◌++◌, refl, sym, ap, ◌∙◌, subst, append-nil, true≢false}
use Rattle.std.specs.Prelude.{◌↔◌, IsTrue, MatchOption}
use Rattle.std.specs.List.{AllByRecursion}
use Rattle.ded_model.specs.declared.certificate.Entry.{Entry}
use Rattle.ded_cert.specs.Checks.{Checks, IsTooLong}
use Rattle.ded_cert.specs.Pairs.{Numbered, pairs_with, pairs_of, entry_for, IsVerified, IsLongCheck}
use Rattle.ded_cert.proofs.Paired.{with-append, of-append, of_one, with_split, of_split, step_on}

both : (P : Numbered × Numbered → Type 0) (ps qs : List (Numbered × Numbered)) → AllByRecursion P ps → AllByRecursion P qs → AllByRecursion P (ps ++ qs)
both P [] qs h k = k
both P (p ∷ ps) qs h k = (h.0, both P ps qs h.1 k)

pub in_second : (P : Numbered × Numbered → Type 0) (ps qs : List (Numbered × Numbered)) → AllByRecursion P (ps ++ qs) → AllByRecursion P qs
in_second P [] qs h = h
in_second P (p ∷ ps) qs h = in_second P ps qs h.1

pub in_first : (P : Numbered × Numbered → Type 0) (ps qs : List (Numbered × Numbered)) → AllByRecursion P (ps ++ qs) → AllByRecursion P ps
in_first P [] qs h = tt
in_first P (p ∷ ps) qs h = (h.0, in_first P ps qs h.1)

-- ---- the pairs of one tuple

pub record PassedWith (P : Numbered × Numbered → Type 0) (t : Numbered) (all rest : List Numbered) : Type 0 where
  pub front : List Numbered
  pub is : front ++ rest ≡ all
  pub so : AllByRecursion P (pairs_with t front)

pub with_none : (P : Numbered × Numbered → Type 0) (t : Numbered) (all rest : List Numbered) → rest ≡ all → PassedWith P t all rest
with_none P t all rest is = record { front = []; is = is; so = tt }

pub with_one : (P : Numbered × Numbered → Type 0) (t : Numbered) (all rest : List Numbered) (u : Numbered) (next : List Numbered) → PassedWith P t all rest → rest ≡ u ∷ next → P (t, u) → PassedWith P t all next
with_one P t all rest u next a steps h = record {
  front = a.front ++ u ∷ [];
  is = step_on a.front u next all (ap (λ us. a.front ++ us) (sym steps) ∙ a.is);
  so = subst (AllByRecursion P) (sym (with-append t a.front (u ∷ []))) (both P (pairs_with t a.front) ((t, u) ∷ []) a.so (h, tt));
}

pub with_all : (P : Numbered × Numbered → Type 0) (t : Numbered) (all rest : List Numbered) → PassedWith P t all rest → rest ≡ [] → IsTrue true ↔ AllByRecursion P (pairs_with t all)
with_all P t all rest a none =
    (λ _. subst (λ us. AllByRecursion P (pairs_with t us)) (sym (append-nil a.front) ∙ ap (λ us. a.front ++ us) (sym none) ∙ a.is) a.so, λ _. refl)

pub with_failed : (P : Numbered × Numbered → Type 0) (t : Numbered) (all rest : List Numbered) (u : Numbered) (next : List Numbered) → PassedWith P t all rest → rest ≡ u ∷ next → (P (t, u) → ⊥) → IsTrue false ↔ AllByRecursion P (pairs_with t all)
with_failed P t all rest u next a steps against =
    let is : a.front ++ (u ∷ next) ≡ all = ap (λ us. a.front ++ us) (sym steps) ∙ a.is in
    (λ e. absurd (true≢false (sym e)), λ h. absurd (against (in_second P (pairs_with t a.front) ((t, u) ∷ pairs_with t next) (subst (AllByRecursion P) (with_split t a.front u next all is) h)).0))

-- ---- all pairs

pub record PassedOf (P : Numbered × Numbered → Type 0) (us all rest : List Numbered) : Type 0 where
  pub front : List Numbered
  pub is : front ++ rest ≡ all
  pub so : AllByRecursion P (pairs_of front us)

pub of_none : (P : Numbered × Numbered → Type 0) (us all rest : List Numbered) → rest ≡ all → PassedOf P us all rest
of_none P us all rest is = record { front = []; is = is; so = tt }

pub of_next : (P : Numbered × Numbered → Type 0) (us all rest : List Numbered) (t : Numbered) (next : List Numbered) → PassedOf P us all rest → rest ≡ t ∷ next → AllByRecursion P (pairs_with t us) → PassedOf P us all next
of_next P us all rest t next a steps h = record {
  front = a.front ++ t ∷ [];
  is = step_on a.front t next all (ap (λ ts. a.front ++ ts) (sym steps) ∙ a.is);
  so = subst (AllByRecursion P) (ap (λ ps. pairs_of a.front us ++ ps) (sym (of_one t us)) ∙ sym (of-append a.front (t ∷ []) us)) (both P (pairs_of a.front us) (pairs_with t us) a.so h);
}

pub of_all : (P : Numbered × Numbered → Type 0) (us all rest : List Numbered) → PassedOf P us all rest → rest ≡ [] → IsTrue true ↔ AllByRecursion P (pairs_of all us)
of_all P us all rest a none =
    (λ _. subst (λ ts. AllByRecursion P (pairs_of ts us)) (sym (append-nil a.front) ∙ ap (λ ts. a.front ++ ts) (sym none) ∙ a.is) a.so, λ _. refl)

pub of_failed : (P : Numbered × Numbered → Type 0) (us all rest : List Numbered) (t : Numbered) (next : List Numbered) → PassedOf P us all rest → rest ≡ t ∷ next → (AllByRecursion P (pairs_with t us) → ⊥)
    → IsTrue false ↔ AllByRecursion P (pairs_of all us)
of_failed P us all rest t next a steps against =
    let is : a.front ++ (t ∷ next) ≡ all = ap (λ ts. a.front ++ ts) (sym steps) ∙ a.is in
    (λ e. absurd (true≢false (sym e)), λ h. absurd (against (in_first P (pairs_with t us) (pairs_of next us) (in_second P (pairs_of a.front us) (pairs_with t us ++ pairs_of next us) (subst (AllByRecursion P) (of_split us a.front t next all is) h)))))

-- ---- the first entry of a pair

pub none_verified : (es : List Entry) (t u : Numbered) → entry_for es t.0 u.0 ≡ None → IsVerified es (t, u) → ⊥
none_verified es t u is h = subst (λ o. MatchOption o ⊥ (λ e. Checks t.1 u.1 e.proof)) is h

pub some_verified : (es : List Entry) (t u : Numbered) (e : Entry) → entry_for es t.0 u.0 ≡ Some e → Checks t.1 u.1 e.proof → IsVerified es (t, u)
some_verified es t u e is h = subst (λ o. MatchOption o ⊥ (λ d. Checks t.1 u.1 d.proof)) (sym is) h

pub some_failed : (es : List Entry) (t u : Numbered) (e : Entry) → entry_for es t.0 u.0 ≡ Some e → (Checks t.1 u.1 e.proof → ⊥) → IsVerified es (t, u) → ⊥
some_failed es t u e is against h = against (subst (λ o. MatchOption o ⊥ (λ d. Checks t.1 u.1 d.proof)) is h)

pub some_long : (es : List Entry) (t u : Numbered) (e : Entry) → entry_for es t.0 u.0 ≡ Some e → IsTooLong t.1 u.1 e.proof → IsLongCheck es (t, u)
some_long es t u e is h = subst (λ o. MatchOption o ⊥ (λ d. IsTooLong t.1 u.1 d.proof)) (sym is) h
