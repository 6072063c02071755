-- Relations of distinct names.
use Rattle.std.proofs.Common.{◌≡◌, ℕ, suc, ◌+◌, ◌<◌, ◌≤◌, length, get_or, drop, Bool, true, false, cond, Option, Some, None, List, [], ◌∷◌, ◌++◌, map, refl, sym, ap, ◌∙◌, subst, true≢false, bytes_eq, drop-cons, add-one}
use Rattle.std.specs.List.{list_any}
use Rattle.std.specs.Option.{option_map}
use Rattle.std.proofs.lemmas.Bool.{or_from, or_parts, false_from_ne_true}
use Rattle.std.proofs.lemmas.Slice.Eq.{bytes_eq-Decides}
use Rattle.std.proofs.lemmas.List.{drop_all}
use Rattle.ded_model.specs.Row.{Atom}
use Rattle.ded_model.specs.Catalogue.{entry_name, tuples_of}
use Rattle.ded_model.specs.Entries.{entry_of, relation_in}
use Rattle.ded_algebra.specs.Evaluation.{AreGiven}
use Rattle.ded_algebra.specs.declared.given.GivenRelation.{GivenRelation}
use Rattle.ded_algebra.specs.Given.{unnumbered, given_entry, has_name, AreNamedApart}

-- names that differ differ the other way round
pub other_way : (m n : List ℕ) → bytes_eq m n ≡ false → bytes_eq n m ≡ false
other_way m n e = false_from_ne_true (bytes_eq n m) (λ f. true≢false (sym ((bytes_eq-Decides m n).1 (sym ((bytes_eq-Decides n m).0 f))) ∙ e))

-- ---- one more

pub has-push : (n : List ℕ) (rs : List GivenRelation) (x : GivenRelation) → has_name n rs ≡ false → bytes_eq n x.name ≡ false → has_name n (rs ++ x ∷ []) ≡ false
has-push n [] x h e = or_from (bytes_eq n x.name) false e refl
has-push n (r ∷ rs) x h e = or_from (bytes_eq n r.name) (has_name n (rs ++ x ∷ [])) (or_parts _ _ h).0 (has-push n rs x (or_parts (bytes_eq n r.name) _ h).1 e)

apart-push : (rs : List GivenRelation) (x : GivenRelation) → has_name x.name rs ≡ false → AreNamedApart rs → AreNamedApart (rs ++ x ∷ [])
apart-push [] x h k = (refl, tt)
apart-push (r ∷ rs) x h k = (has-push r.name rs x k.0 (other_way x.name r.name (or_parts _ _ h).0), apart-push rs x (or_parts (bytes_eq x.name r.name) _ h).1 k.1)

-- whether or not there is room for it
pub apart_after : (rs new : List GivenRelation) (x : GivenRelation) (b : Bool) → new ≡ cond b (rs ++ x ∷ []) rs → has_name x.name rs ≡ false → AreNamedApart rs → AreNamedApart new
apart_after rs new x true e h k = subst AreNamedApart (sym e) (apart-push rs x h k)
apart_after rs new x false e h k = subst AreNamedApart (sym e) k

-- ---- what stands under a name

-- the entries' names are those of the relations
names_apart : (n : List ℕ) (rs : List GivenRelation) → has_name n rs ≡ false → list_any (λ e. bytes_eq n (entry_name e)) (map given_entry rs) ≡ false
names_apart n [] h = refl
names_apart n (r ∷ rs) h = or_from (bytes_eq n r.name) _ (or_parts _ _ h).0 (names_apart n rs (or_parts (bytes_eq n r.name) _ h).1)

pub are_given : (rs : List GivenRelation) → AreNamedApart rs → AreGiven (map given_entry rs)
are_given [] k = tt
are_given (r ∷ rs) k = (names_apart r.name rs k.0, are_given rs k.1)

-- numbers don't count
pub tuples-unnumbered : (ts : List (List Atom)) → tuples_of (unnumbered ts) ≡ ts
tuples-unnumbered [] = refl
tuples-unnumbered (t ∷ ts) = ap (λ us. t ∷ us) (tuples-unnumbered ts)

-- what is found of a list of relations
abbrev pub found_in : List ℕ → List GivenRelation → Option (List (List Atom))
found_in n rs = option_map tuples_of (relation_in (entry_of (map given_entry rs) n))

-- a relation of the name is found
pub found_here : (n : List ℕ) (rs : List GivenRelation) (i : ℕ) (r : GivenRelation) → i < length rs → r ≡ get_or rs i r → bytes_eq r.name n ≡ true → found_in n (drop i rs) ≡ Some r.tuples
found_here n rs i r l is e =
    ap (found_in n) (drop-cons rs i r l ∙ ap (λ x. x ∷ drop (suc i) rs) (sym is))
    ∙ ap (λ b. option_map tuples_of (relation_in (cond b (Some (given_entry r)) (entry_of (map given_entry (drop (suc i) rs)) n)))) ((bytes_eq-Decides n r.name).1 (sym ((bytes_eq-Decides r.name n).0 e)))
    ∙ ap Some (tuples-unnumbered r.tuples)

-- one of another name is passed by
pub passed_by : (n : List ℕ) (rs : List GivenRelation) (i : ℕ) (r : GivenRelation) → i < length rs → r ≡ get_or rs i r → bytes_eq r.name n ≡ false → found_in n (drop i rs) ≡ found_in n (drop (i + 1) rs)
passed_by n rs i r l is e =
    ap (found_in n) (drop-cons rs i r l ∙ ap (λ x. x ∷ drop (suc i) rs) (sym is))
    ∙ ap (λ b. option_map tuples_of (relation_in (cond b (Some (given_entry r)) (entry_of (map given_entry (drop (suc i) rs)) n)))) (other_way r.name n e)
    ∙ ap (λ k. found_in n (drop k rs)) (sym (add-one i))

-- at the end there is none
pub found_none : (n : List ℕ) (rs : List GivenRelation) (i : ℕ) → length rs ≤ i → found_in n (drop i rs) ≡ None
found_none n rs i l = ap (found_in n) (drop_all i rs l)
