-- Of the first elements of a list, one more.
use Rattle.std.proofs.Common.{◌≡◌, ℕ, ◌+◌, ◌<◌, List, [], ◌∷◌, ◌++◌, take, length, get_or, ap, ◌∙◌, add-one}
use Rattle.std.proofs.Math.Seq.{take-suc}

pub taken_more : {A : Type 0} (xs : List A) (i : ℕ) (d : A) → i < length xs → take (i + 1) xs ≡ take i xs ++ get_or xs i d ∷ []
taken_more xs i d h = ap (λ k. take k xs) (add-one i) ∙ take-suc xs i d h
