-- Lists whose elements are taken one after another.
use Rattle.std.proofs.Common.{◌≡◌, ℕ, ◌+◌, ◌<◌, ◌≤◌, List, [], ◌∷◌, ◌++◌, length, drop, get_or, sym, ap, ◌∙◌, subst}
use Rattle.std.specs.Prelude.{Some, slice_get, map}
use Rattle.std.specs.Option.{unwrap_or}
use Rattle.std.proofs.lemmas.List.{append-nil, drop_all}
use Rattle.std.proofs.lemmas.Option.{slice_get_within, unwrap_or-slice_get}
use Rattle.ded_print.proofs.Plans.{left_after}
use Rattle.ded_dump.proofs.Loops.{one_part}

-- what is left begins with the element at the place
pub next_at : {A : Type 0} (xs : List A) (i : ℕ) (x : A) → slice_get xs i ≡ Some x → drop i xs ≡ x ∷ drop (i + 1) xs
next_at xs i x is = left_after xs i x (slice_get_within xs i x is) (sym (sym (unwrap_or-slice_get xs i x) ∙ ap (λ o. unwrap_or o x) is))

-- one element more was taken to the list
pub one_mapped : {A B : Type 0} (f : A → B) (whole done now : List B) (xs : List A) (i : ℕ) (x : A) → i < length xs → x ≡ get_or xs i x
    → done ++ map f (drop i xs) ≡ whole → now ≡ done ++ f x ∷ [] → now ++ map f (drop (i + 1) xs) ≡ whole
one_mapped {A = A} f whole done now xs i x there is e put =
    one_part whole done now (f x ∷ []) (map f (drop (i + 1) xs)) (subst (λ (l : List A). done ++ map f l ≡ whole) (left_after xs i x there is) e) put

-- nothing is left
pub all_mapped : {A B : Type 0} (f : A → B) (whole now : List B) (xs : List A) (i : ℕ) → length xs ≤ i → now ++ map f (drop i xs) ≡ whole → now ≡ whole
all_mapped {A = A} f whole now xs i end e = sym (append-nil now) ∙ ap (λ (l : List A). now ++ map f l) (sym (drop_all i xs end)) ∙ e
