-- The complement of the closure of the complement is the interior, and where a conjunction of the complement is wide, so are all
-- atoms together.
use Rattle.std.proofs.Common.{◌≡◌, Bool, true, not, ◌||◌, List, [], ◌∷◌, ◌++◌, inl, inr, refl, sym, ap, ◌∙◌, subst}
use Rattle.std.specs.Prelude.{◌↔◌, IsTrue}
use Rattle.ded_model.specs.declared.slot.Slot.{Slot}
use Rattle.ded_model.specs.Lines.{Line, IsSubset, row_lines, tuples_lines}
use Rattle.ded_model.specs.Near.{IsInsideAt, weak_tuples}
use Rattle.ded_model.specs.Normal.{IsNormalTheme}
use Rattle.ded_model.specs.Point.{Point, IsPoint}
use Rattle.ded_model.specs.Row.{Atom, row_holds, theme_holds, row_mentions, theme_mentions, tuples_hold, tuples_mention}
use Rattle.ded_model.specs.Width.{IsNarrowList}
use Rattle.ded_model.proofs.Rows.{or_left, or_right}
use Rattle.ded_model.proofs.Members.{In-left, In-right}
use Rattle.ded_laws.proofs.Weakened.{interior_is}
use Rattle.ded_theory.specs.Both.{by_kind, IsByKind}
use Rattle.ded_theory.specs.Conjunctions.{conj_mentions, conj_lines, IsWide}
use Rattle.ded_theory.proofs.Conjunctions.{conj_mentions-append}
use Rattle.ded_theory.proofs.Parted.{wide_more}
use Rattle.ded_elimination.specs.LinearAtoms.{IsLinearAtom}
use Rattle.ded_genrel.specs.Lists.{AreNormal, conjs_hold, conjs_mention, conjs_lines, SomeConj}
use Rattle.ded_genrel.specs.Operations.{IsOperation}
use Rattle.ded_genrel.proofs.Laws.{conj_lines-append}
use Rattle.ded_genrel.proofs.OfAtoms.{lists_hold}
use Rattle.ded_complement.specs.Pieces.{all_atoms}
use Rattle.ded_atoms.proofs.Narrowness.{narrow_atoms}
use Rattle.ded_complement.proofs.NarrowLists.{all_of_each}
use Rattle.ded_atoms.proofs.Shared.{lists_mention, lists_lines}
use Rattle.ded_topology.specs.Closing.{IsClosed}
use Rattle.ded_topology.proofs.Closed.{closed_slots, closed_lines}

-- ---- lists of conjunctions are lists of tuples

-- the complement of a list
abbrev pub IsOutside : List (List Atom) → List (List Atom) → Type 0
IsOutside ts out =
    IsOperation (by_kind row_holds theme_holds) (by_kind row_mentions theme_mentions) (by_kind row_lines (λ a. [])) (λ p. not (conjs_hold (by_kind row_holds theme_holds) ts p))
    (conjs_mention (by_kind row_mentions theme_mentions) ts) (conjs_lines (by_kind row_lines (λ a. [])) ts) out

outside_holds : (ts out : List (List Atom)) → IsOutside ts out → (p : Point) → IsPoint p → tuples_hold out p ≡ not (tuples_hold ts p)
outside_holds ts out o p i = sym (lists_hold out p) ∙ o.holds p i ∙ ap not (lists_hold ts p)

outside_slots : (ts out : List (List Atom)) → IsOutside ts out → (s : Slot) → tuples_mention out s ≡ true → tuples_mention ts s ≡ true
outside_slots ts out o s e = sym (lists_mention ts s) ∙ o.slots s (lists_mention out s ∙ e)

outside_lines : (ts out : List (List Atom)) → IsOutside ts out → IsSubset (tuples_lines out) (tuples_lines ts)
outside_lines ts out o = subst (λ ls. IsSubset ls (tuples_lines ts)) (lists_lines out) (subst (IsSubset (conjs_lines (by_kind row_lines (λ a. [])) out)) (lists_lines ts) o.lines)

-- ---- the interior

module _ (ts outside near inside : List (List Atom)) (o : IsOutside ts outside) (k : IsClosed outside near) (q : IsOutside near inside) where
  pub interior_inside : (p : Point) → IsPoint p → IsInsideAt (tuples_hold ts) p ↔ IsTrue (tuples_hold inside p)
  interior_inside p i =
      let law = interior_is ts k.kept p i (λ r j. k.holds r j ∙ outside_holds ts outside o r j) k.sorted k.inhabited in
      let same : tuples_hold inside p ≡ not (tuples_hold (weak_tuples k.kept) p) = outside_holds near inside q p i ∙ ap (λ us. not (tuples_hold us p)) k.list in
      (λ h. same ∙ law.0 h, λ h. law.1 (sym same ∙ h))

  pub interior_slots : (s : Slot) → tuples_mention inside s ≡ true → tuples_mention ts s ≡ true
  interior_slots s e = outside_slots ts outside o s (closed_slots outside near k s (outside_slots near inside q s e))

  pub interior_lines : IsSubset (tuples_lines inside) (tuples_lines ts)
  interior_lines l i = outside_lines ts outside o l (closed_lines outside near k l (outside_lines near inside q l i))

-- ---- wide

module _ {A : Type 0} (m : A → Slot → Bool) (l : A → List Line) where
  all_mention : (ts : List (List A)) (s : Slot) → conjs_mention m ts s ≡ conj_mentions m (all_atoms ts) s
  all_mention [] s = refl
  all_mention (t ∷ ts) s = ap (λ b. conj_mentions m t s || b) (all_mention ts s) ∙ sym (conj_mentions-append m t (all_atoms ts) s)

  all_lines : (ts : List (List A)) → conjs_lines l ts ≡ conj_lines l (all_atoms ts)
  all_lines [] = refl
  all_lines (t ∷ ts) = ap (λ ls. conj_lines l t ++ ls) (all_lines ts) ∙ sym (conj_lines-append l t (all_atoms ts))

  -- atoms that have the slots and the lines of a list with a wide conjunction are wide
  some_wide : (cs : List (List A)) (atoms : List A) → ((s : Slot) → conjs_mention m cs s ≡ true → conj_mentions m atoms s ≡ true) → IsSubset (conjs_lines l cs) (conj_lines l atoms) → SomeConj (IsWide m l) cs → IsWide m l atoms
  some_wide [] atoms slots lines w = absurd w
  some_wide (c ∷ cs) atoms slots lines (inl w) =
      wide_more m l m l c atoms (λ x i. lines x (In-left x (conj_lines l c) (conjs_lines l cs) i)) (λ s e. slots s (or_left (conj_mentions m c s) (conjs_mention m cs s) e)) w
  some_wide (c ∷ cs) atoms slots lines (inr w) =
      some_wide cs atoms (λ s e. slots s (or_right (conj_mentions m c s) (conjs_mention m cs s) e)) (λ x i. lines x (In-right x (conj_lines l c) (conjs_lines l cs) i)) w

pub wide_outside : (ts out : List (List Atom)) → AreNormal (IsByKind IsLinearAtom IsNormalTheme) ts → IsOutside ts out → SomeConj (IsWide (by_kind row_mentions theme_mentions) (by_kind row_lines (λ a. []))) out → IsNarrowList (all_atoms ts) → ⊥
wide_outside ts out n o w k =
    narrow_atoms (all_atoms ts) (all_of_each (IsByKind IsLinearAtom IsNormalTheme) ts n) k
    (some_wide (by_kind row_mentions theme_mentions) (by_kind row_lines (λ a. [])) out (all_atoms ts)
    (λ s e. sym (all_mention (by_kind row_mentions theme_mentions) (by_kind row_lines (λ a. [])) ts s) ∙ o.slots s e)
    (subst (IsSubset (conjs_lines (by_kind row_lines (λ a. [])) out)) (all_lines (by_kind row_mentions theme_mentions) (by_kind row_lines (λ a. [])) ts) o.lines) w)
