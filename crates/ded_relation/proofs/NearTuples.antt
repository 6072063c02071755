-- The stored tuples in a window, one after another.
use Rattle.std.proofs.Common.{◌≡◌, ℕ, ◌+◌, ◌<◌, ◌≤◌, List, [], ◌∷◌, ◌++◌, length, get_or, take, Option, sym, ap, ◌∙◌, subst, refl, append_assoc, append-nil, arith}
use Rattle.std.specs.BTreeMap.{is_at}
use Rattle.std.specs.Map.{lookup}
use Rattle.std.specs.Ordering.{nat_cmp}
use Rattle.ded_model.specs.Row.{Atom}
use Rattle.ded_ranges.specs.declared.window.Window.{Window}
use Rattle.ded_ranges.specs.Windows.{IsMissed}
use Rattle.ded_ranges.proofs.Taken.{taken_more}
use Rattle.ded_model.proofs.Sublists.{sublist_append}
use Rattle.ded_relation.specs.Nearby.{AreNear, AddsNear, with_number, picked}

-- what is left may come behind what was found
pub adds_step : (w : Window) (old new : List (ℕ × List Atom)) (t : ℕ × List Atom) (before left all : List (ℕ × List Atom)) → before ≡ t ∷ left → AddsNear w (t ∷ []) old new
    → ((rest : List (ℕ × List Atom)) → AreNear w rest before → AreNear w (old ++ rest) all) → (rest : List (ℕ × List Atom)) → AreNear w rest left → AreNear w (new ++ rest) all
adds_step w old new t before left all e a so_far rest n =
    subst (λ us. AreNear w us all) (sym (append_assoc old a.more rest) ∙ ap (λ us. us ++ rest) (sym a.list))
    (so_far (a.more ++ rest) (subst (AreNear w (a.more ++ rest)) (sym e) (sublist_append (λ u. IsMissed w u.1) a.more (t ∷ []) rest left a.near n)))

pub adds_end : (w : Window) (old left all : List (ℕ × List Atom)) → left ≡ [] → ((rest : List (ℕ × List Atom)) → AreNear w rest left → AreNear w (old ++ rest) all) → AreNear w old all
adds_end w old left all e so_far = subst (λ us. AreNear w us all) (append-nil old) (so_far [] (subst (AreNear w []) (sym e) refl))

-- one step for each tuple that is no longer left
pub counts_step : (t : ℕ × List Atom) (before left all : List (ℕ × List Atom)) (first old new : ℕ) → before ≡ t ∷ left → new ≡ old + 1 → old + length before ≤ first + length all → new + length left ≤ first + length all
counts_step t before left all first old new e n h = let one : length before ≡ length left + 1 = ap length e ∙ omega arith in omega (arith, one, n, h)

picked-append : (is js : List ℕ) (ts : List (ℕ × List Atom)) → picked (is ++ js) ts ≡ picked is ts ++ picked js ts
picked-append [] js ts = refl
picked-append (i ∷ is) js ts = ap (λ us. with_number i (lookup (is_at (nat_cmp i)) ts) ++ us) (picked-append is js ts) ∙ sym (append_assoc (with_number i (lookup (is_at (nat_cmp i)) ts)) (picked is ts) (picked js ts))

-- those of one number more
pub picked_next : (is : List ℕ) (k i : ℕ) (ts : List (ℕ × List Atom)) (o : Option (List Atom)) → k < length is → i ≡ get_or is k 0 → o ≡ lookup (is_at (nat_cmp i)) ts
    → picked (take (k + 1) is) ts ≡ picked (take k is) ts ++ with_number i o
picked_next is k i ts o h e f =
    ap (λ js. picked js ts) (taken_more is k 0 h ∙ ap (λ x. take k is ++ x ∷ []) (sym e)) ∙ picked-append (take k is) (i ∷ []) ts ∙ ap (λ us. picked (take k is) ts ++ us) (append-nil (with_number i (lookup (is_at (nat_cmp i)) ts)) ∙ ap (with_number i) (sym f))

-- of the next number
pub picked_more : (w : Window) (is : List ℕ) (k i : ℕ) (ts old new : List (ℕ × List Atom)) (o : Option (List Atom)) → k < length is → i ≡ get_or is k 0 → o ≡ lookup (is_at (nat_cmp i)) ts → AddsNear w (with_number i o) old new
    → AreNear w old (picked (take k is) ts) → AreNear w new (picked (take (k + 1) is) ts)
picked_more w is k i ts old new o h e f a n =
    subst (AreNear w new) (sym (picked_next is k i ts o h e f)) (subst (λ us. AreNear w us (picked (take k is) ts ++ with_number i o)) (sym a.list) (sublist_append (λ u. IsMissed w u.1) old (picked (take k is) ts) a.more (with_number i o) n a.near))
