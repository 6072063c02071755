-- Relations of distinct names without some of them.
use Rattle.std.proofs.Common.{◌≡◌, ℕ, zero, suc, ◌+◌, ◌<◌, arith, length, get_or, take, Bool, true, false, Some, None, List, [], ◌∷◌, refl, sym, ap, ◌∙◌, subst, bytes_eq}
use Rattle.std.specs.Prelude.{if◌then◌else◌, remove, slice_get, is_some, Option}
use Rattle.std.proofs.lemmas.Bool.{or_from, or_parts}
use Rattle.std.proofs.lemmas.List.{take_more}
use Rattle.std.proofs.lemmas.Option.{none-some}
use Rattle.std.proofs.lemmas.Slice.Eq.{bytes_eq-Decides}
use Rattle.ded_algebra.specs.declared.given.GivenRelation.{GivenRelation}
use Rattle.ded_algebra.specs.Given.{has_name, AreNamedApart, given_under, without_name, IsPlace}
use Rattle.ded_algebra.proofs.Names.{other_way, has-push}

-- ---- the first ones

has-take : (n : List ℕ) (k : ℕ) (rs : List GivenRelation) → has_name n rs ≡ false → has_name n (take k rs) ≡ false
has-take n zero rs h = refl
has-take n (suc k) [] h = refl
has-take n (suc k) (r ∷ rs) h = or_from (bytes_eq n r.name) (has_name n (take k rs)) (or_parts _ _ h).0 (has-take n k rs (or_parts (bytes_eq n r.name) _ h).1)

pub apart-take : (k : ℕ) (rs : List GivenRelation) → AreNamedApart rs → AreNamedApart (take k rs)
apart-take zero rs a = tt
apart-take (suc k) [] a = tt
apart-take (suc k) (r ∷ rs) a = (has-take r.name k rs a.0, apart-take k rs a.1)

-- ---- those of other names

has-without : (n m : List ℕ) (rs : List GivenRelation) → has_name m rs ≡ false → has_name m (without_name n rs) ≡ false
has-without n m [] h = refl
has-without n m (r ∷ rs) h = by (bytes_eq n r.name) (has-without n m rs (or_parts (bytes_eq m r.name) _ h).1)
  where
    by : (b : Bool) → has_name m (without_name n rs) ≡ false → has_name m (if b then without_name n rs else r ∷ without_name n rs) ≡ false
    by true next = next
    by false next = or_from (bytes_eq m r.name) (has_name m (without_name n rs)) (or_parts _ _ h).0 next

pub apart-without : (n : List ℕ) (rs : List GivenRelation) → AreNamedApart rs → AreNamedApart (without_name n rs)
apart-without n [] a = tt
apart-without n (r ∷ rs) a = by (bytes_eq n r.name) (apart-without n rs a.1)
  where
    by : (b : Bool) → AreNamedApart (without_name n rs) → AreNamedApart (if b then without_name n rs else r ∷ without_name n rs)
    by true next = next
    by false next = (has-without n r.name rs a.0, next)

-- ---- a name that none has

pub none_under : (n : List ℕ) (rs : List GivenRelation) → has_name n rs ≡ false → given_under n rs ≡ None
none_under n [] h = refl
none_under n (r ∷ rs) h = ap (λ b. if b then Some r else given_under n rs) (or_parts _ _ h).0 ∙ none_under n rs (or_parts (bytes_eq n r.name) _ h).1

pub all_left : (n : List ℕ) (rs : List GivenRelation) → has_name n rs ≡ false → without_name n rs ≡ rs
all_left n [] h = refl
all_left n (r ∷ rs) h =
    ap (λ b. if b then without_name n rs else r ∷ without_name n rs) (or_parts _ _ h).0 ∙ ap (λ l. r ∷ l) (all_left n rs (or_parts (bytes_eq n r.name) _ h).1)

-- ---- the place of a name

first : (n : List ℕ) (rs : List GivenRelation) (i : ℕ) (d : GivenRelation) → i < length rs → has_name n (take i rs) ≡ false → AreNamedApart rs → bytes_eq n (get_or rs i d).name ≡ true
    → (given_under n rs ≡ slice_get rs i) × (without_name n rs ≡ remove rs i)
first n [] i d l h a e = absurd (omega (arith, l))
first n (r ∷ rs) zero d l h a e =
    let none : has_name n rs ≡ false = ap (λ m. has_name m rs) ((bytes_eq-Decides n r.name).0 e) ∙ a.0 in (
      ap (λ b. if b then Some r else given_under n rs) e,
      ap (λ b. if b then without_name n rs else r ∷ without_name n rs) e ∙ all_left n rs none,
    )
first n (r ∷ rs) (suc i) d l h a e =
    let other : bytes_eq n r.name ≡ false = (or_parts _ _ h).0 in
    let next = first n rs i d (omega (arith, l)) (or_parts (bytes_eq n r.name) _ h).1 a.1 e in (
      ap (λ b. if b then Some r else given_under n rs) other ∙ next.0,
      ap (λ b. if b then without_name n rs else r ∷ without_name n rs) other ∙ ap (λ l. r ∷ l) next.1,
    )

-- it is a place where the name is and before which it isn't
pub place_of : (n : List ℕ) (rs : List GivenRelation) (i : ℕ) (r : GivenRelation) → i < length rs → r ≡ get_or rs i r → bytes_eq r.name n ≡ true → has_name n (take i rs) ≡ false → AreNamedApart rs
    → IsPlace n rs (Some i)
place_of n rs i r l is e h a =
    let named : bytes_eq n (get_or rs i r).name ≡ true = (bytes_eq-Decides n (get_or rs i r).name).1 (sym ((bytes_eq-Decides r.name n).0 e) ∙ ap (λ (x : GivenRelation). x.name) is) in
    let found = first n rs i r l h a named in
    (l, found.0, found.1)

-- a name that is another one isn't there
pub passed : (n : List ℕ) (rs : List GivenRelation) (i : ℕ) (r : GivenRelation) → i < length rs → r ≡ get_or rs i r → bytes_eq r.name n ≡ false → has_name n (take i rs) ≡ false → has_name n (take (i + 1) rs) ≡ false
passed n rs i r l is e h =
    subst (λ l. has_name n l ≡ false) (sym (take_more rs i r l))
    (has-push n (take i rs) (get_or rs i r) h (subst (λ (x : GivenRelation). bytes_eq n x.name ≡ false) is (other_way r.name n e)))

-- there is a place exactly where one has the name
pub place_named : (n : List ℕ) (rs : List GivenRelation) (o : Option ℕ) → IsPlace n rs o → is_some o ≡ has_name n rs
place_named n rs None p = sym p
place_named n rs (Some i) p = by (has_name n rs) refl
  where
    stands : (xs : List GivenRelation) (j : ℕ) → j < length xs → slice_get xs j ≡ None → ⊥
    stands [] j l e = absurd (omega (arith, l))
    stands (x ∷ xs) zero l e = none-some x (sym e)
    stands (x ∷ xs) (suc j) l e = stands xs j (omega (arith, l)) e

    by : (b : Bool) → has_name n rs ≡ b → true ≡ has_name n rs
    by true h = sym h
    by false h = absurd (stands rs i p.0 (sym p.1 ∙ none_under n rs h))
