-- Lemmas that belong into lower crates.
use Rattle.std.proofs.Common.{◌≤◌, ℕ, suc, List, [], ◌∷◌, length, inl, inr, arith, sym, subst}
use Rattle.ded_model.specs.Sublists.{IsSublistWithout}

-- ---- ded_model

-- a part of a list has no more elements
pub sublist_fewer : {A : Type 0} (Left : A → Type 0) (us xs : List A) → IsSublistWithout Left us xs → length us ≤ length xs
sublist_fewer Left us [] n = subst (λ (vs : List _). length vs ≤ 0) (sym n) (omega arith)
sublist_fewer Left us (x ∷ xs) (inl m) = more (length us) (length xs) (sublist_fewer Left us xs m.1)
  where
    more : (a b : ℕ) → a ≤ b → a ≤ suc b
    more a b h = omega arith
sublist_fewer Left us (x ∷ xs) (inr m) = subst (λ (vs : List _). length vs ≤ suc (length xs)) (sym m.1) (both (length m.0) (length xs) (sublist_fewer Left m.0 xs m.2))
  where
    both : (a b : ℕ) → a ≤ b → suc a ≤ suc b
    both a b h = omega arith
