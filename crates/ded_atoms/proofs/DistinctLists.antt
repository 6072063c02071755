-- Lists of conjunctions of which equal ones are kept once.
use Rattle.std.proofs.Common.{◌≡◌, ◌≢◌, Vec, Global, Bool, true, List, [], ◌∷◌, inl, inr, sym, ap, ◌∙◌, subst}
use Rattle.std.specs.Cmp.{IsEquivalence}
use Rattle.std.specs.Cmp.Lexicographic.{pointwise, lists_equiv}
use Rattle.std.specs.List.{AllPairs, IsDistinct}
use Rattle.std.proofs.lemmas.Map.Made.{AllPairs-from_IsDistinct}
use Rattle.indexmap.specs.IndexSet.{insert_all}
use Rattle.ded_model.specs.declared.slot.Slot.{Slot}
use Rattle.ded_model.specs.Point.{Point}
use Rattle.ded_model.specs.Cell.{conj_holds}
use Rattle.ded_model.specs.Lines.{Line, In, IsSubset}
use Rattle.ded_model.proofs.Members.{In-left, In-right, In-split}
use Rattle.ded_model.proofs.Sameness.{lists_same}
use Rattle.ded_theory.specs.Conjunctions.{conj_mentions, conj_lines}
use Rattle.ded_genrel.specs.Lists.{conjs_of, AreNormal, conjs_hold, conjs_mention, conjs_lines}
use Rattle.ded_model.specs.Sublists.{IsSublist}
use Rattle.ded_model.proofs.Sublists.{sublist_all}
use Rattle.ded_atoms.proofs.Once.{once_all, parts_all, parts_distinct, told}

module _ {A : Type 0} (h : A → Point → Bool) (m : A → Slot → Bool) (l : A → List Line) where
  -- the lines of some of the conjunctions
  sublist_lines_of : (kept conjs : List (List A)) → IsSublist kept conjs → IsSubset (conjs_lines l kept) (conjs_lines l conjs)
  sublist_lines_of kept [] s x i = subst (λ cs. In x (conjs_lines l cs)) s i
  sublist_lines_of kept (c ∷ conjs) (inl s) x i = In-right x (conj_lines l c) (conjs_lines l conjs) (sublist_lines_of kept conjs s.1 x i)
  sublist_lines_of kept (c ∷ conjs) (inr s) x i = elim (In-split x (conj_lines l c) (conjs_lines l s.0) (subst (λ cs. In x (conjs_lines l cs)) s.1 i)) [
    | inl a ↦ In-left x (conj_lines l c) (conjs_lines l conjs) a
    | inr b ↦ In-right x (conj_lines l c) (conjs_lines l conjs) (sublist_lines_of s.0 conjs s.2 x b)
  ]

  -- the conjunctions that are kept of a list hold where it does, mention nothing new and have no new lines, and none stands twice
  pub record IsDistinctPart (normal : A → Type 0) (conjs kept : List (List A)) : Type 0 where
    pub holds : (p : Point) → conjs_hold h kept p ≡ conjs_hold h conjs p
    pub once : AllPairs (λ c d. c ≢ d) kept
    pub slots : (s : Slot) → conjs_mention m kept s ≡ true → conjs_mention m conjs s ≡ true
    pub lines : IsSubset (conjs_lines l kept) (conjs_lines l conjs)
    pub normal_ones : AreNormal normal conjs → AreNormal normal kept

  pub distinct_part : (normal : A → Type 0) (eq : A → A → Bool) → IsEquivalence eq → ((a b : A) → eq a b ≡ true → a ≡ b) → (xs ks : List (Vec A Global))
      → ks ≡ insert_all (λ c d. pointwise eq c.items d.items) [] xs → IsDistinct (λ c d. pointwise eq c.items d.items) ks → IsDistinctPart normal (conjs_of xs) (conjs_of ks)
  distinct_part normal eq laws same xs ks e d =
      let equal = pointwise eq in
      let is : conjs_of ks ≡ insert_all equal [] (conjs_of xs) = ap conjs_of e ∙ parts_all (λ c. c.items) equal xs [] in
      let part = once_all equal (lists_same same) (conjs_of xs) in
      let kept : IsSublist (conjs_of ks) (conjs_of xs) = subst (λ cs. IsSublist cs (conjs_of xs)) (sym is) part.kept in
      record {
        holds = λ p. ap (λ cs. conjs_hold h cs p) is ∙ part.some (λ c. conj_holds h c p);
        once = AllPairs-from_IsDistinct (λ c d. (lists_same same c d, told (lists_equiv laws) c d)) (conjs_of ks) (parts_distinct (λ c. c.items) equal ks d);
        slots = λ s u. sym (ap (λ cs. conjs_mention m cs s) is ∙ part.some (λ c. conj_mentions m c s)) ∙ u;
        lines = sublist_lines_of (conjs_of ks) (conjs_of xs) kept;
        normal_ones = sublist_all _ _ (conjs_of ks) (conjs_of xs) kept;
      }
