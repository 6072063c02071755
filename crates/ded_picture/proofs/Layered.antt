-- Parts that are put into layers.
use Rattle.std.proofs.Common.{◌≡◌, ℕ, ◌+◌, ◌<◌, ◌≤◌, zero, suc, List, [], ◌∷◌, ◌++◌, length, get_or, set, refl, sym, ap, ◌∙◌, arith}
use Rattle.std.specs.Prelude.{replicate}
use Rattle.std.proofs.lemmas.List.{replicate-append-replicate}
use Rattle.ded_layers.specs.declared.part.Part.{Part}
use Rattle.ded_picture.specs.declared.parts.Shown.{Shown}
use Rattle.ded_picture.specs.Layers.{put_in, put_all}

pub put_outside : (layers : List (List Part)) (n : ℕ) (part : Part) → length layers ≤ n → layers ≡ put_in layers n part
put_outside [] n part h = refl
put_outside (l ∷ ls) zero part h = absurd (omega (arith, h))
put_outside (l ∷ ls) (suc n) part h = ap (λ (r : List (List Part)). l ∷ r) (put_outside ls n part (omega (arith, h)))

-- a part more at the end of one layer
pub put_inside : (layers : List (List Part)) (n : ℕ) (part : Part) (d : List Part) → n < length layers → set layers n (get_or layers n d ++ part ∷ []) ≡ put_in layers n part
put_inside [] n part d h = absurd (omega (arith, h))
put_inside (l ∷ ls) zero part d h = refl
put_inside (l ∷ ls) (suc n) part d h = ap (λ (r : List (List Part)). l ∷ r) (put_inside ls n part d (omega (arith, h)))

pub one_more : (layers : List (List Part)) (xs : List Shown) (x : Shown) → put_all layers (xs ++ x ∷ []) ≡ put_in (put_all layers xs) x.colour x.part
one_more layers [] x = refl
one_more layers (s ∷ ss) x = one_more (put_in layers s.colour s.part) ss x

pub next_layer : (layers now next : List (List Part)) (xs : List Shown) (x : Shown) → now ≡ put_all layers xs → next ≡ put_in now x.colour x.part → next ≡ put_all layers (xs ++ x ∷ [])
next_layer layers now next xs x e put = put ∙ ap (λ (ls : List (List Part)). put_in ls x.colour x.part) e ∙ sym (one_more layers xs x)

-- one layer without parts more
pub one_empty : (n : ℕ) (now next : List (List Part)) → now ≡ replicate n [] → next ≡ now ++ [] ∷ [] → next ≡ replicate (n + 1) []
one_empty n now next e put = put ∙ ap (λ (ls : List (List Part)). ls ++ [] ∷ []) e ∙ replicate-append-replicate n 1 []
