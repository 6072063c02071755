-- The names at which a commit conflicts.
use Rattle.std.specs.Prelude.{◌≡◌, ◌≢◌, ℕ, Bool, true, false, ◌&&◌, Option, Some, None, List}
use Rattle.std.specs.declared.cmp.Ordering.TheVariants.{Less}
use Rattle.std.specs.Ordering.{nat_cmp, is_lt}
use Rattle.std.specs.Cmp.Lexicographic.{slice_cmp}
use Rattle.ded_shared.specs.State.{is_among}

-- the name stands in both lists
abbrev pub in_both : List (List ℕ) → List (List ℕ) → List ℕ → Bool
in_both touched stale n = is_among touched n && is_among stale n

-- no name stands in both lists
abbrev pub NoneInBoth : List (List ℕ) → List (List ℕ) → Type 0
NoneInBoth touched stale = (n : List ℕ) → in_both touched stale n ≡ false

-- it is the least name, by bytes, that stands in both
pub record IsLeastInBoth (touched stale : List (List ℕ)) (n : List ℕ) : Type 0 where
  pub both : in_both touched stale n ≡ true
  pub least : (m : List ℕ) → in_both touched stale m ≡ true → slice_cmp nat_cmp m n ≢ Less

-- the name is less than the other one, or there is no other one
abbrev pub is_below : List ℕ → Option (List ℕ) → Bool
is_below n None = true
is_below n (Some m) = is_lt (slice_cmp nat_cmp n m)
