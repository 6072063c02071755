-- The last entry of a list, and what is stored under its name.
use Rattle.std.proofs.Common.{◌≡◌, ℕ, suc, ◌+◌, Bool, true, false, List, [], ◌∷◌, ◌++◌, length, length-append, arith, refl, sym, ap, ◌∙◌, subst, bytes_eq, true≢false}
use Rattle.std.specs.Prelude.{Some, None, is_none, if◌then◌else◌}
use Rattle.std.specs.List.{AllByRecursion}
use Rattle.ded_model.specs.Catalogue.{Entry, entry_name}
use Rattle.ded_model.specs.Entries.{entry_of}
use Rattle.ded_model.specs.Known.{KnownNames, entry_known, with_known, known_from, known_of}
use Rattle.ded_model.specs.Row.{Atom}
use Rattle.ded_model.proofs.Bools.{bytes_eq-refl}
use Rattle.ded_runs.specs.Remade.{numbered}

-- no entry has the name
abbrev pub HasNone : List ℕ → List Entry → Type 0
HasNone n es = AllByRecursion (λ (e : Entry). bytes_eq n (entry_name e) ≡ false) es

none_before : (K : KnownNames) (e : Entry) (n : List ℕ) → is_none (with_known K e n) ≡ true → (bytes_eq n (entry_name e) ≡ false) × (is_none (K n) ≡ true)
none_before K e n = by (bytes_eq n (entry_name e))
  where
    by : (b : Bool) → is_none (if b then Some (entry_known K e) else K n) ≡ true → (b ≡ false) × (is_none (K n) ≡ true)
    by true h = absurd (true≢false (sym h))
    by false h = (refl, h)

none_at : (K : KnownNames) (es : List Entry) (n : List ℕ) → is_none (known_from K es n) ≡ true → HasNone n es × (is_none (K n) ≡ true)
none_at K [] n h = (tt, h)
none_at K (e ∷ es) n h =
    let rest = none_at (with_known K e) es n h in
    let first = none_before K e n rest.1 in
    ((first.0, rest.0), first.1)

pub unknown_none : (es : List Entry) (n : List ℕ) → known_of es n ≡ None → HasNone n es
unfolding known_of
unknown_none es n h = (none_at (λ m. None) es n (ap is_none h)).0

pub last_found : (es : List Entry) (x : Entry) → HasNone (entry_name x) es → entry_of (es ++ x ∷ []) (entry_name x) ≡ Some x
last_found [] x h = rw (bytes_eq-refl (entry_name x)) refl
last_found (e ∷ es) x h = rw h.0 (last_found es x h.1)

-- an entry of the name of the last one, and of no other, is the last one
pub record IsLast (es before after : List Entry) (x old : Entry) : Type 0 where
  pub before_is : before ≡ es
  pub old_is : old ≡ x
  pub after_is : after ≡ []

head_of : Entry → List Entry → Entry
head_of e [] = e
head_of e (x ∷ es) = x

rest_of : List Entry → List Entry
rest_of [] = []
rest_of (x ∷ es) = es

pub last_only : (n : List ℕ) (es : List Entry) (x : Entry) (before : List Entry) (old : Entry) (after : List Entry) → HasNone n es → entry_name old ≡ n → es ++ x ∷ [] ≡ before ++ old ∷ after
    → IsLast es before after x old
unfolding head_of rest_of
last_only n [] x [] old after none name e = record { before_is = refl; old_is = sym (ap (head_of x) e); after_is = sym (ap rest_of e) }
last_only n [] x (b ∷ before) old after none name e = absurd (no_more before (ap rest_of e))
  where
    no_more : (bs : List Entry) → [] ≡ bs ++ old ∷ after → ⊥
    no_more [] e = cc
    no_more (b ∷ bs) e = cc
last_only n (d ∷ es) x [] old after none name e =
    let same : d ≡ old = ap (head_of x) e in
    absurd (true≢false (sym (bytes_eq-refl n) ∙ subst (λ m. bytes_eq n m ≡ false) (ap entry_name same ∙ name) none.0))
last_only n (d ∷ es) x (b ∷ before) old after none name e =
    let same : d ≡ b = ap (head_of x) e in
    let rest = last_only n es x before old after none.1 name (ap rest_of e) in
    record { before_is = ap (λ c. c ∷ before) (sym same) ∙ ap (λ bs. d ∷ bs) rest.before_is; old_is = rest.old_is; after_is = rest.after_is }

-- ---- tuples

pub numbered_length : (n : ℕ) (ts : List (ℕ × List Atom)) → length (numbered n ts) ≡ length ts
numbered_length n [] = refl
numbered_length n (t ∷ ts) = ap suc (numbered_length (suc n) ts)

pub numbered_behind : (n : ℕ) (ts : List (ℕ × List Atom)) (t : ℕ × List Atom) → numbered n (ts ++ t ∷ []) ≡ numbered n ts ++ (suc (n + length ts), t.1) ∷ []
numbered_behind n [] t = ap (λ k. (suc k, t.1) ∷ []) (omega arith)
numbered_behind n (u ∷ ts) t =
    let same : suc (suc n + length ts) ≡ suc (n + suc (length ts)) = omega arith in
    ap (λ us. (suc n, u.1) ∷ us) (numbered_behind (suc n) ts t ∙ ap (λ k. numbered (suc n) ts ++ (k, t.1) ∷ []) same)

pub length_behind : (ts : List (ℕ × List Atom)) (t : ℕ × List Atom) → length (ts ++ t ∷ []) ≡ length ts + 1
length_behind ts t = length-append ts (t ∷ [])
