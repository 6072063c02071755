-- What the reduction of a tuple's atoms, as a conjunction of the theory of atoms, says of tuples.
use Rattle.std.proofs.Common.{◌≡◌, Some, List, [], ◌++◌, refl, sym, ap, ◌∙◌, subst}
use Rattle.ded_model.specs.declared.tuple.BothAtom.TheVariants.{First, Second}
use Rattle.ded_model.specs.Point.{Point, IsPoint}
use Rattle.ded_model.specs.Row.{Atom, row_holds, theme_holds, row_mentions, theme_mentions, atom_holds, tuple_holds}
use Rattle.ded_model.specs.Cell.{conj_holds, IsReduced, HoldsNowhere}
use Rattle.ded_model.specs.Lines.{row_lines}
use Rattle.ded_model.specs.Normal.{IsNormalTuple}
use Rattle.ded_theory.specs.Both.{by_kind}
use Rattle.ded_theory.specs.Conjunctions.{IsWide}
use Rattle.ded_model.specs.Sublists.{IsSublist}
use Rattle.ded_theory.proofs.Shared.{holds_alike}
use Rattle.ded_atoms.proofs.Narrowness.{narrow_is}
use Rattle.ded_atoms.specs.Kept.{IsSiftedPart}
use Rattle.ded_atoms.proofs.TupleParts.{normal_part}

atom_holds-is : (a : Atom) (p : Point) → by_kind row_holds theme_holds a p ≡ atom_holds a p
unfolding atom_holds
atom_holds-is (First r) p = refl
atom_holds-is (Second a) p = refl

-- without superfluous atoms as a conjunction, so as a tuple
pub reduced_is : (t : List Atom) → IsReduced (by_kind row_holds theme_holds) t → IsReduced atom_holds t
unfolding tuple_holds
reduced_is t r = record {
  inhabited = (r.inhabited.0, r.inhabited.1, sym (holds_alike t r.inhabited.0) ∙ r.inhabited.2);
  needed = λ before a after e.
      let w = r.needed before a after e in
      (w.0, w.1, sym (holds_alike (before ++ after) w.0) ∙ w.2, sym (atom_holds-is a w.0) ∙ w.3);
}

-- the atoms are those of a tuple that holds nowhere
pub sifted_gone : (conj t : List Atom) → conj ≡ t → HoldsNowhere (conj_holds (by_kind row_holds theme_holds) conj) → HoldsNowhere (tuple_holds t)
sifted_gone conj t e z p i = sym (holds_alike t p) ∙ ap (λ u. conj_holds (by_kind row_holds theme_holds) u p) (sym e) ∙ z p i

-- what is kept of the atoms of a normal tuple
pub sifted_kept : (conj t kept : List Atom) → conj ≡ t → IsNormalTuple t
    → ((p : Point) → IsPoint p → conj_holds (by_kind row_holds theme_holds) kept p ≡ conj_holds (by_kind row_holds theme_holds) conj p) → IsSublist kept conj
    → ((IsWide (by_kind row_mentions theme_mentions) (by_kind row_lines (λ a. [])) kept → ⊥) → IsReduced (by_kind row_holds theme_holds) kept)
    → IsSiftedPart t (Some kept)
sifted_kept conj t kept e n h s k =
    let part : IsSublist kept t = subst (IsSublist kept) e s in
    let normal = normal_part kept t part n in (
      λ p i. sym (holds_alike kept p) ∙ h p i ∙ holds_alike conj p ∙ ap (λ u. tuple_holds u p) e,
      part,
      normal,
      λ narrow. reduced_is kept (k (narrow_is kept normal narrow)),
    )
