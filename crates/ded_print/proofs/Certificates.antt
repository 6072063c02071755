-- Certificates that are put number by number.
use Rattle.std.proofs.Common.{◌≡◌, ℕ, ◌+◌, ◌<◌, List, [], ◌∷◌, ◌++◌, length, drop, drop-cons, get_or, sym, ap, ◌∙◌, subst, append_assoc}
use Rattle.std.specs.Prelude.{ℤ}
use Rattle.ded_print.specs.Certificates.{multipliers_text}
use Rattle.ded_print.specs.Gathering.{Output, Puts}
use Rattle.ded_print.specs.Lines.{line_text}
use Rattle.ded_print.specs.Numbers.{integer_text}
use Rattle.ded_print.proofs.Gathering.{puts_both}
use Rattle.ded_print.proofs.Terms.{suc_is}

-- one more number
pub next_number : (start now next : Output) (items : List ℤ) (i : ℕ) (d : ℤ) → i < length items
    → ((end : Output) → Puts now end (multipliers_text (drop i items)) → Puts start end (multipliers_text items))
    → Puts now next ((32 ∷ []) ++ integer_text (get_or items i d))
    → (end : Output) → Puts next end (multipliers_text (drop (i + 1) items)) → Puts start end (multipliers_text items)
next_number start now next items i d there goes put end h =
    let split : drop i items ≡ get_or items i d ∷ drop (i + 1) items = rw (suc_is i) (drop-cons items i d there) in
    goes end (subst (λ z. Puts now end (multipliers_text z)) (sym split) (puts_both now next end _ _ put h))

-- the parts of a line
pub entry_parts : (a b : Output) (first second proof : List ℕ) → Puts a b (first ++ ((32 ∷ []) ++ (second ++ ((32 ∷ []) ++ (proof ++ (10 ∷ [])))))) → Puts a b (line_text (first ++ (32 ∷ (second ++ (32 ∷ proof)))))
entry_parts a b first second proof h =
    subst (λ z. Puts a b z) (sym (append_assoc first (32 ∷ (second ++ (32 ∷ proof))) (10 ∷ []) ∙ ap (λ z. first ++ (32 ∷ z)) (append_assoc second (32 ∷ proof) (10 ∷ [])))) h
