-- Catalogues that agree on names agree on fewer names, and one after another.
use Rattle.std.proofs.Common.{◌≡◌, ℕ, Bool, true, false, not, ◌&&◌, ◌||◌, List, ◌++◌, refl, sym, ◌∙◌, ap, true≢false, bytes_eq}
use Rattle.std.proofs.lemmas.List.Folds.{list_any-append}
use Rattle.ded_model.specs.Catalogue.{Catalogue}
use Rattle.ded_shared.specs.Agreeing.{Agree}
use Rattle.ded_shared.specs.Conflicts.{NoneInBoth}
use Rattle.ded_shared.specs.State.{is_among}

-- ---- tests

pub first_of : (a b c : Bool) → a ≡ true → (a || b || c) ≡ true
first_of true b c e = refl
first_of false b c e = absurd (true≢false (sym e))

pub second_of : (a b c : Bool) → b ≡ true → (a || b || c) ≡ true
second_of true b c e = refl
second_of false true c e = refl
second_of false false c e = absurd (true≢false (sym e))

-- where one of two isn't so, neither is
pub neither : (a b c : Bool) → c ≡ (a || b) → not c ≡ true → (not a ≡ true) × (not b ≡ true)
neither true b c e h = absurd (true≢false (sym h ∙ ap not e))
neither false true c e h = absurd (true≢false (sym h ∙ ap not e))
neither false false c e h = (refl, refl)

-- of two that aren't both so, where one is
pub not_the_other : (a b : Bool) → (a && b) ≡ false → a ≡ true → not b ≡ true
not_the_other true true e h = absurd (true≢false e)
not_the_other true false e h = refl
not_the_other false b e h = absurd (true≢false (sym h))

-- ---- agreement

pub agree_less : (c d : Catalogue) (more less : List ℕ → Bool) → Agree c d more → ((n : List ℕ) → less n ≡ true → more n ≡ true) → Agree c d less
agree_less c d more less a within = record { limit = a.limit; same = λ n h. a.same n (within n h); users = λ n m h. a.users n m (within n h) }

-- one after another they agree on the names on which both pairs do
pub agree_then : (c d e : Catalogue) (among also both : List ℕ → Bool) → Agree c d among → Agree d e also
    → ((n : List ℕ) → both n ≡ true → (among n ≡ true) × (also n ≡ true)) → Agree c e both
agree_then c d e among also both a b within = record {
  limit = b.limit ∙ a.limit;
  same = λ n h. b.same n (within n h).1 ∙ a.same n (within n h).0;
  users = λ n m h. b.users n m (within n h).1 ∙ a.users n m (within n h).0;
}

-- the names that neither the one list has nor the other
pub agree_outside : (c d e : Catalogue) (old new : List (List ℕ)) → Agree c d (λ n. not (is_among old n)) → Agree d e (λ n. not (is_among new n)) → Agree c e (λ n. not (is_among (old ++ new) n))
agree_outside c d e old new a b =
    agree_then c d e (λ n. not (is_among old n)) (λ n. not (is_among new n)) (λ n. not (is_among (old ++ new) n)) a b
    (λ n h. neither (is_among old n) (is_among new n) (is_among (old ++ new) n) (list_any-append (bytes_eq n) old new) h)

-- where nothing touched is stale, they agree on all that is touched
pub agree_touched : (c d : Catalogue) (touched stale : List (List ℕ)) → NoneInBoth touched stale → Agree c d (λ n. not (is_among stale n)) → Agree c d (is_among touched)
agree_touched c d touched stale none a =
    agree_less c d (λ n. not (is_among stale n)) (is_among touched) a (λ n h. not_the_other (is_among touched n) (is_among stale n) (none n) h)
