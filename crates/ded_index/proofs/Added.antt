-- An entry more.
use Rattle.std.proofs.Common.{◌≡◌, List, [], ◌∷◌, ◌++◌, sym, ap, ◌∙◌, subst, append_assoc, append-nil}
use Rattle.std.specs.List.Sorted.{IsPermutation}
use Rattle.std.proofs.lemmas.List.Sorted.{IsPermutation-sym, IsPermutation-middle}
use Rattle.ded_index.specs.declared.entry.BoxEntry.{BoxEntry}
use Rattle.ded_index.specs.declared.tree.BoxNode.{BoxNode}
use Rattle.ded_index.specs.Trees.{entries_of}
use Rattle.ded_index.proofs.Members.{entries_of-append}

pub added_to_tree : (ns next : List BoxNode) (es : List BoxEntry) (n : BoxNode) → next ≡ ns ++ n ∷ [] → IsPermutation (n.entry ∷ (entries_of ns ++ es)) (entries_of next ++ es)
added_to_tree ns next es n e =
    subst (λ xs. IsPermutation (n.entry ∷ (entries_of ns ++ es)) xs) (sym (ap (λ xs. entries_of xs ++ es) e ∙ ap (λ xs. xs ++ es) (entries_of-append ns (n ∷ [])) ∙ append_assoc (entries_of ns) (n.entry ∷ []) es))
    (IsPermutation-sym _ _ (IsPermutation-middle (entries_of ns) n.entry es))

pub added_apart : (xs es next : List BoxEntry) (e : BoxEntry) → next ≡ es ++ e ∷ [] → IsPermutation (e ∷ (xs ++ es)) (xs ++ next)
added_apart xs es next e h =
    subst (λ ys. IsPermutation (e ∷ (xs ++ es)) ys) (sym (ap (λ ys. xs ++ ys) h ∙ sym (append_assoc xs es (e ∷ [])))) (subst (λ ys. IsPermutation (e ∷ ys) ((xs ++ es) ++ e ∷ [])) (append-nil (xs ++ es)) (IsPermutation-sym _ _ (IsPermutation-middle (xs ++ es) e [])))
