-- Lists that are put line by line.
use Rattle.std.proofs.Common.{◌≡◌, ℕ, ◌+◌, ◌<◌, ◌≤◌, List, [], ◌∷◌, ◌++◌, length, map, drop, drop-cons, get_or, sym, ap, ◌∙◌, subst, append_assoc}
use Rattle.std.specs.Prelude.{codes}
use Rattle.std.proofs.Math.ListN.{drop_of_length-le}
use Rattle.ded_print.specs.Gathering.{Output, Puts}
use Rattle.ded_print.specs.Lines.{counted_text, line_text, lines_text}
use Rattle.ded_print.proofs.Gathering.{puts_both, puts_none}
use Rattle.ded_print.proofs.Terms.{suc_is}

-- one more line, of things that each have a line
pub next_line : {A : Type 0} (line : A → List ℕ) (start now next : Output) (all items : List A) (i : ℕ) (x : A) → i < length items → x ≡ get_or items i x
    → ((end : Output) → Puts now end (lines_text (map line (drop i items))) → Puts start end (lines_text (map line all)))
    → Puts now next (line_text (line x))
    → (end : Output) → Puts next end (lines_text (map line (drop (i + 1) items))) → Puts start end (lines_text (map line all))
next_line {A} line start now next all items i x there is goes put end h =
    let split : drop i items ≡ get_or items i x ∷ drop (i + 1) items = rw (suc_is i) (drop-cons items i x there) in
    let here : drop i items ≡ x ∷ drop (i + 1) items = split ∙ ap (λ (y : A). y ∷ drop (i + 1) items) (sym is) in
    goes end (subst (λ z. Puts now end (lines_text (map line z))) (sym here) (puts_both now next end _ _ put h))

-- no line is left
pub last_line : {A : Type 0} (line : A → List ℕ) (start now : Output) (all items : List A) (i : ℕ) → length items ≤ i
    → ((end : Output) → Puts now end (lines_text (map line (drop i items))) → Puts start end (lines_text (map line all)))
    → Puts start now (lines_text (map line all))
last_line line start now all items i past goes =
    goes now (subst (λ z. Puts now now (lines_text (map line z))) (sym (drop_of_length-le items past)) (puts_none now))

-- the word and the count, the lines, and the end
pub counted : (a b : Output) (kind : List ℕ) (count : List ℕ) (lines : List (List ℕ))
    → Puts a b (kind ++ (32 ∷ (count ++ ((10 ∷ []) ++ (lines_text lines ++ line_text (codes "end"))))))
    → Puts a b (counted_text kind count lines)
counted a b kind count lines h =
    let rest = lines_text lines ++ line_text (codes "end") in
    subst (λ z. Puts a b z) (sym (append_assoc (kind ++ (32 ∷ count)) (10 ∷ []) rest ∙ append_assoc kind (32 ∷ count) ((10 ∷ []) ++ rest))) h

-- the parts of a numbered line
pub numbered : (a b : Output) (number text : List ℕ) → Puts a b (number ++ ((32 ∷ []) ++ (text ++ (10 ∷ [])))) → Puts a b (line_text (number ++ (32 ∷ text)))
numbered a b number text h = subst (λ z. Puts a b z) (sym (append_assoc number (32 ∷ text) (10 ∷ []))) h
