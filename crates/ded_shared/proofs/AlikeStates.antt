-- States in which the same is shared and the same is remembered of each open transaction, whatever the order of the names.
use Rattle.std.proofs.Common.{◌≡◌, ℕ, zero, suc, ◌||◌, List, [], ◌∷◌, ◌++◌, Option, Some, None, get_or, refl, sym, ap₂, ◌∙◌, bytes_eq}
use Rattle.std.specs.Prelude.{slice_set}
use Rattle.std.proofs.lemmas.List.Folds.{list_any-append}
use Rattle.ded_shared.specs.State.{Transaction, State, is_among, all_with_stale}
use Rattle.ded_shared.proofs.Places.{Places}

-- the same names, in any order
abbrev pub AreAmong : List (List ℕ) → List (List ℕ) → Type 0
AreAmong ns ms = (n : List ℕ) → is_among ns n ≡ is_among ms n

pub record AlikeOpen (x y : Transaction) : Type 0 where
  pub own : x.own ≡ y.own
  pub accepted : x.accepted ≡ y.accepted
  pub touched : AreAmong x.touched y.touched
  pub changed : AreAmong x.changed y.changed
  pub stale : AreAmong x.stale y.stale

abbrev pub BothOpen : Option Transaction → Option Transaction → Type 0
BothOpen None None = Unit {0}
BothOpen (Some x) (Some y) = AlikeOpen x y
BothOpen _ _ = ⊥

abbrev pub EachAlike : Places → Places → Type 0
EachAlike [] [] = Unit {0}
EachAlike (x ∷ xs) (y ∷ ys) = BothOpen x y × EachAlike xs ys
EachAlike _ _ = ⊥

pub record AlikeStates (s t : State) : Type 0 where
  pub shared : s.shared ≡ t.shared
  pub each : EachAlike s.transactions t.transactions

both_open : (o : Option Transaction) → BothOpen o o
both_open None = tt
both_open (Some x) = record { own = refl; accepted = refl; touched = λ n. refl; changed = λ n. refl; stale = λ n. refl }

each_alike : (xs : Places) → EachAlike xs xs
each_alike [] = tt
each_alike (x ∷ xs) = (both_open x, each_alike xs)

pub alike_itself : (s : State) → AlikeStates s s
alike_itself s = record { shared = refl; each = each_alike s.transactions }

pub each_at : (xs ys : Places) (i : ℕ) → EachAlike xs ys → BothOpen (get_or xs i None) (get_or ys i None)
each_at [] [] i a = tt
each_at [] (y ∷ ys) i a = absurd a
each_at (x ∷ xs) [] i a = absurd a
each_at (x ∷ xs) (y ∷ ys) zero a = a.0
each_at (x ∷ xs) (y ∷ ys) (suc i) a = each_at xs ys i a.1

pub each_put : (xs ys : Places) (i : ℕ) (x y : Option Transaction) → EachAlike xs ys → BothOpen x y → EachAlike (slice_set xs i x) (slice_set ys i y)
each_put [] [] i x y a b = tt
each_put [] (z ∷ ys) i x y a b = absurd a
each_put (z ∷ xs) [] i x y a b = absurd a
each_put (u ∷ xs) (z ∷ ys) zero x y a b = (b, a.1)
each_put (u ∷ xs) (z ∷ ys) (suc i) x y a b = (a.0, each_put xs ys i x y a.1 b)

among_both : (ns ms ks js : List (List ℕ)) → AreAmong ns ms → AreAmong ks js → AreAmong (ns ++ ks) (ms ++ js)
among_both ns ms ks js a b n = list_any-append (bytes_eq n) ns ks ∙ ap₂ (λ x y. x || y) (a n) (b n) ∙ sym (list_any-append (bytes_eq n) ms js)

pub each_aged : (ns ms : List (List ℕ)) (xs ys : Places) → AreAmong ns ms → EachAlike xs ys → EachAlike (all_with_stale ns xs) (all_with_stale ms ys)
each_aged ns ms [] [] same a = tt
each_aged ns ms [] (y ∷ ys) same a = absurd a
each_aged ns ms (x ∷ xs) [] same a = absurd a
each_aged ns ms (None ∷ xs) (None ∷ ys) same a = (tt, each_aged ns ms xs ys same a.1)
each_aged ns ms (None ∷ xs) (Some y ∷ ys) same a = absurd a.0
each_aged ns ms (Some x ∷ xs) (None ∷ ys) same a = absurd a.0
each_aged ns ms (Some x ∷ xs) (Some y ∷ ys) same a = (
  record { own = a.0.own; accepted = a.0.accepted; touched = a.0.touched; changed = a.0.changed; stale = among_both x.stale y.stale ns ms a.0.stale same },
  each_aged ns ms xs ys same a.1,
)
