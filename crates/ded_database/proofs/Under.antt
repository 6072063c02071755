-- What is held under a name, in lists of relations with one more or one less.
use Rattle.std.proofs.Common.{◌≡◌, ℕ, Bool, true, false, ◌||◌, inl, inr, Option, Some, None, List, [], ◌∷◌, ◌++◌, refl, sym, ap, ◌∙◌, subst, true≢false, bytes_eq}
use Rattle.std.specs.Prelude.{if◌then◌else◌, IfSome}
use Rattle.std.specs.List.{AllByRecursion}
use Rattle.std.specs.Option.{option_map}
use Rattle.std.proofs.lemmas.Option.{same_Some, none-some}
use Rattle.ded_model.specs.Row.{Atom}
use Rattle.ded_model.proofs.Rows.{or_left, or_right}
use Rattle.ded_model.proofs.Members.{or_split}
use Rattle.ded_algebra.specs.declared.given.GivenRelation.{GivenRelation}
use Rattle.ded_algebra.specs.Given.{has_name, given_under, without_name}
use Rattle.ded_algebra.proofs.Taken.{none_under}
use Rattle.ded_database.specs.Held.{held_under}
use Rattle.ded_model.proofs.Bools.{bytes_eq-refl}
use Rattle.ded_query.proofs.GivenNames.{same_name}

-- ---- one less

-- of another name
pub other_left : (v n : List ℕ) (rs : List GivenRelation) → bytes_eq v n ≡ false → given_under v (without_name n rs) ≡ given_under v rs
other_left v n [] e = refl
other_left v n (r ∷ rs) e = by (bytes_eq n r.name) refl (other_left v n rs e)
  where
    by : (b : Bool) → bytes_eq n r.name ≡ b → given_under v (without_name n rs) ≡ given_under v rs
        → given_under v (if b then without_name n rs else r ∷ without_name n rs) ≡ (if bytes_eq v r.name then Some r else given_under v rs)
    by true f next = next ∙ sym (ap (λ b. if b then Some r else given_under v rs) (subst (λ m. bytes_eq v m ≡ false) (sym (same_name n r.name f)) e))
    by false f next = ap (λ o. if bytes_eq v r.name then Some r else o) next

-- of the name itself
pub own_left : (n : List ℕ) (rs : List GivenRelation) → given_under n (without_name n rs) ≡ None
own_left n [] = refl
own_left n (r ∷ rs) = by (bytes_eq n r.name) refl (own_left n rs)
  where
    by : (b : Bool) → bytes_eq n r.name ≡ b → given_under n (without_name n rs) ≡ None → given_under n (if b then without_name n rs else r ∷ without_name n rs) ≡ None
    by true f next = next
    by false f next = ap (λ b. if b then Some r else given_under n (without_name n rs)) f ∙ next

-- what holds of all
pub all_left_over : (P : GivenRelation → Type 0) (n : List ℕ) (rs : List GivenRelation) → AllByRecursion P rs → AllByRecursion P (without_name n rs)
all_left_over P n [] k = tt
all_left_over P n (r ∷ rs) k = by (bytes_eq n r.name) (all_left_over P n rs k.1)
  where
    by : (b : Bool) → AllByRecursion P (without_name n rs) → AllByRecursion P (if b then without_name n rs else r ∷ without_name n rs)
    by true next = next
    by false next = (k.0, next)

-- a name that is left was there
pub has_left : (v n : List ℕ) (rs : List GivenRelation) → has_name v (without_name n rs) ≡ true → has_name v rs ≡ true
has_left v n [] h = h
has_left v n (r ∷ rs) h = by (bytes_eq n r.name) h (has_left v n rs)
  where
    by : (b : Bool) → has_name v (if b then without_name n rs else r ∷ without_name n rs) ≡ true → (has_name v (without_name n rs) ≡ true → has_name v rs ≡ true) → (bytes_eq v r.name || has_name v rs) ≡ true
    by true h next = or_right (bytes_eq v r.name) (has_name v rs) (next h)
    by false h next = elim (or_split (bytes_eq v r.name) (has_name v (without_name n rs)) h) [ inl e ↦ or_left (bytes_eq v r.name) (has_name v rs) e | inr e ↦ or_right (bytes_eq v r.name) (has_name v rs) (next e) ]

-- ---- one more

pub other_more : (v : List ℕ) (rs : List GivenRelation) (x : GivenRelation) → bytes_eq v x.name ≡ false → given_under v (rs ++ x ∷ []) ≡ given_under v rs
other_more v [] x e = ap (λ b. if b then Some x else None) e
other_more v (r ∷ rs) x e = ap (λ o. if bytes_eq v r.name then Some r else o) (other_more v rs x e)

pub own_more : (v : List ℕ) (rs : List GivenRelation) (x : GivenRelation) → bytes_eq v x.name ≡ true → given_under v rs ≡ None → given_under v (rs ++ x ∷ []) ≡ Some x
own_more v [] x e h = ap (λ b. if b then Some x else None) e
own_more v (r ∷ rs) x e h = by (bytes_eq v r.name) h (own_more v rs x e)
  where
    by : (b : Bool) → (if b then Some r else given_under v rs) ≡ None → (given_under v rs ≡ None → given_under v (rs ++ x ∷ []) ≡ Some x) → (if b then Some r else given_under v (rs ++ x ∷ [])) ≡ Some x
    by true h next = absurd (none-some r (sym h))
    by false h next = next h

-- ---- names

-- what is under no name isn't held
pub unheld : (o : Option GivenRelation) → option_map (λ (r : GivenRelation). r.tuples) o ≡ None → o ≡ None
unheld None h = refl
unheld (Some r) h = absurd (none-some r.tuples (sym h))

pub nameless : (v : List ℕ) (rs : List GivenRelation) → held_under rs v ≡ None → has_name v rs ≡ false
nameless v [] h = refl
nameless v (r ∷ rs) h = by (bytes_eq v r.name) (unheld _ h) (λ e. nameless v rs (ap (option_map (λ (x : GivenRelation). x.tuples)) e))
  where
    by : (b : Bool) → (if b then Some r else given_under v rs) ≡ None → (given_under v rs ≡ None → has_name v rs ≡ false) → (b || has_name v rs) ≡ false
    by true h next = absurd (none-some r (sym h))
    by false h next = next h

pub unnamed : (v : List ℕ) (rs : List GivenRelation) → has_name v rs ≡ false → held_under rs v ≡ None
unnamed v rs h = ap (option_map (λ (r : GivenRelation). r.tuples)) (none_under v rs h)

-- where a list is held, its name is there
pub named : (v : List ℕ) (rs : List GivenRelation) (ts : List (List Atom)) → held_under rs v ≡ Some ts → has_name v rs ≡ true
named v rs ts h = by (has_name v rs) refl
  where
    by : (b : Bool) → has_name v rs ≡ b → has_name v rs ≡ true
    by true e = e
    by false e = absurd (none-some ts (sym (unnamed v rs e) ∙ h))

-- what is found under a name has it, and what holds of all
pub under_named : (P : GivenRelation → Type 0) (n : List ℕ) (rs : List GivenRelation) (r : GivenRelation) → given_under n rs ≡ Some r → AllByRecursion P rs → (r.name ≡ n) × P r
under_named P n [] r e k = absurd (none-some r e)
under_named P n (x ∷ rs) r e k = by (bytes_eq n x.name) refl e (λ f. under_named P n rs r f k.1)
  where
    by : (b : Bool) → bytes_eq n x.name ≡ b → (if b then Some x else given_under n rs) ≡ Some r → (given_under n rs ≡ Some r → (r.name ≡ n) × P r) → (r.name ≡ n) × P r
    by true f e next = subst (λ (y : GivenRelation). (y.name ≡ n) × P y) (same_Some x r e) (same_name n x.name f, k.0)
    by false f e next = next e

pub under_name : (n : List ℕ) (rs : List GivenRelation) (r : GivenRelation) → given_under n rs ≡ Some r → r.name ≡ n
under_name n [] r e = absurd (none-some r e)
under_name n (x ∷ rs) r e = by (bytes_eq n x.name) refl e (under_name n rs r)
  where
    by : (b : Bool) → bytes_eq n x.name ≡ b → (if b then Some x else given_under n rs) ≡ Some r → (given_under n rs ≡ Some r → r.name ≡ n) → r.name ≡ n
    by true f e next = subst (λ (y : GivenRelation). y.name ≡ n) (same_Some x r e) (same_name n x.name f)
    by false f e next = next e

-- what holds of each name that is there holds of the names of all
pub each_named : (P : List ℕ → Type 0) (rs : List GivenRelation) → ((v : List ℕ) → has_name v rs ≡ true → P v) → AllByRecursion (λ (r : GivenRelation). P r.name) rs
each_named P [] h = tt
each_named P (r ∷ rs) h = (h r.name (or_left (bytes_eq r.name r.name) (has_name r.name rs) (bytes_eq-refl r.name)), each_named P rs (λ v e. h v (or_right (bytes_eq v r.name) (has_name v rs) e)))

-- and the other way round
pub named_each : (P : List ℕ → Type 0) (rs : List GivenRelation) (v : List ℕ) → AllByRecursion (λ (r : GivenRelation). P r.name) rs → has_name v rs ≡ true → P v
named_each P [] v k h = absurd (true≢false (sym h))
named_each P (r ∷ rs) v k h =
    elim (or_split (bytes_eq v r.name) (has_name v rs) h) [ inl e ↦ subst P (same_name v r.name e) k.0 | inr e ↦ named_each P rs v k.1 e ]

-- of two facts of all the one that follows
pub all_both : (P Q R : GivenRelation → Type 0) (rs : List GivenRelation) → ((r : GivenRelation) → P r → Q r → R r) → AllByRecursion P rs → AllByRecursion Q rs → AllByRecursion R rs
all_both P Q R [] f k l = tt
all_both P Q R (r ∷ rs) f k l = (f r k.0 l.0, all_both P Q R rs f k.1 l.1)

-- the tuples that are found
pub found_tuples : (P : GivenRelation → Type 0) (Q : List (List Atom) → Type 0) (n : List ℕ) (rs : List GivenRelation) (o : Option GivenRelation) → ((r : GivenRelation) → r.name ≡ n → P r → Q r.tuples) → o ≡ given_under n rs → AllByRecursion P rs
    → IfSome o (λ (r : GivenRelation). Q r.tuples)
found_tuples P Q n rs None f e k = tt
found_tuples P Q n rs (Some r) f e k = let found = under_named P n rs r (sym e) k in f r found.0 found.1

-- and what is so of them
pub found_so : (Q : List (List Atom) → Type 0) (n : List ℕ) (rs : List GivenRelation) (o : Option GivenRelation) (ts : List (List Atom)) → o ≡ given_under n rs → held_under rs n ≡ Some ts → IfSome o (λ (r : GivenRelation). Q r.tuples) → Q ts
found_so Q n rs None ts e h k = absurd (none-some ts (ap (option_map (λ (r : GivenRelation). r.tuples)) e ∙ h))
found_so Q n rs (Some r) ts e h k = subst Q (same_Some r.tuples ts (ap (option_map (λ (x : GivenRelation). x.tuples)) e ∙ h)) k

-- a name that is taken out isn't there
pub gone_name : (n : List ℕ) (rs : List GivenRelation) → has_name n (without_name n rs) ≡ false
gone_name n rs = nameless n (without_name n rs) (ap (option_map (λ (r : GivenRelation). r.tuples)) (own_left n rs))
