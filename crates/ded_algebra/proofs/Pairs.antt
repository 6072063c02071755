-- The pairs of columns and slots, one after another.
use Rattle.std.proofs.Common.{◌≡◌, ℕ, ◌+◌, ◌<◌, ◌≤◌, List, [], ◌∷◌, ◌++◌, length, get_or, drop, drop-cons, add-one, sym, ap, ap₂, ◌∙◌, append_assoc, append-nil}
use Rattle.std.proofs.lemmas.List.{drop_all}
use Rattle.ded_model.specs.declared.slot.Slot.{Slot}
use Rattle.ded_algebra.specs.Columns.{column_pairs}

pub pairs_more : (slots : List Slot) (i number number' : ℕ) (items items' whole : List (Slot × Slot)) (s : Slot) → i < length slots → s ≡ get_or slots i s → items' ≡ items ++ (record { number = number; sort = s.sort }, s) ∷ [] → number' ≡ number + 1
    → items ++ column_pairs number (drop i slots) ≡ whole → items' ++ column_pairs number' (drop (i + 1) slots) ≡ whole
pairs_more slots i number number' items items' whole s l is e f h =
    ap₂ (λ xs n. xs ++ column_pairs n (drop (i + 1) slots)) e f
    ∙ append_assoc items ((record { number = number; sort = s.sort }, s) ∷ []) (column_pairs (number + 1) (drop (i + 1) slots))
    ∙ ap (λ ys. items ++ column_pairs number ys) (sym (drop-cons slots i s l ∙ ap₂ (λ x k. x ∷ drop k slots) (sym is) (sym (add-one i)))) ∙ h

pub pairs_done : (slots : List Slot) (i number : ℕ) (items whole : List (Slot × Slot)) → length slots ≤ i → items ++ column_pairs number (drop i slots) ≡ whole → items ≡ whole
pairs_done slots i number items whole l h = sym (append-nil items) ∙ ap (λ ys. items ++ column_pairs number ys) (sym (drop_all i slots l)) ∙ h
