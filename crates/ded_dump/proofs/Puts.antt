-- Texts that are put one after another.
use Rattle.std.proofs.Common.{◌≡◌, ℕ, List, ◌∷◌, ◌++◌, append_assoc, subst, sym, ap, ◌∙◌}
use Rattle.std.specs.Prelude.{Result, Ok, Err, OnOk, ℤ}
use Rattle.ded_dump.specs.Operands.{product_text, later_products_text, later_constant_text, parts_text}

-- two texts after a third one
pub two : (t u v a b : List ℕ) → u ≡ t ++ a → v ≡ u ++ b → v ≡ t ++ (a ++ b)
two t u v a b e f = f ∙ ap (λ z. z ++ b) e ∙ append_assoc t a b

-- where the last of two calls went well
pub last_two : {A E : Type 0} (r : Result A E) (t u v a b : List ℕ) → u ≡ t ++ a → OnOk r (v ≡ u ++ b) → OnOk r (v ≡ t ++ (a ++ b))
last_two (Ok x) t u v a b e f = two t u v a b e f
last_two (Err x) t u v a b e f = tt

-- of three calls
pub last_three : {A E : Type 0} (r : Result A E) (t u v w a b d : List ℕ) → u ≡ t ++ a → v ≡ u ++ b → OnOk r (w ≡ v ++ d) → OnOk r (w ≡ t ++ (a ++ (b ++ d)))
last_three r t u v w a b d e f g = last_two r t u w a (b ++ d) e (last_two r u v w b d f g)

-- a sum of names; n and j are m and k as they are read
pub sum_put : {A E : Type 0} (r : Result A E) (t u v w : List ℕ) (parts : List (List ℕ × ℤ)) (c : List ℕ × ℤ) (later : List (List ℕ × ℤ)) (m n k j : ℤ) → parts ≡ c ∷ later → n ≡ m → j ≡ k
    → u ≡ t ++ product_text n c.1 c.0 → v ≡ u ++ later_products_text n later → OnOk r (w ≡ v ++ later_constant_text n j) → OnOk r (w ≡ t ++ parts_text m k parts)
sum_put r t u v w parts c later m n k j is same_m same_k e f g =
    let put : OnOk r (w ≡ t ++ parts_text n j (c ∷ later)) = last_three r t u v w (product_text n c.1 c.0) (later_products_text n later) (later_constant_text n j) e f g in
    subst (λ z. OnOk r (w ≡ t ++ parts_text m z parts)) same_k (subst (λ z. OnOk r (w ≡ t ++ parts_text z j parts)) same_m (subst (λ z. OnOk r (w ≡ t ++ parts_text n j z)) (sym is) put))
