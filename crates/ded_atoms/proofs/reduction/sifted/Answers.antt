use Rattle.std.proofs.Common.{◌≡◌, [], sym, ◌∙◌, subst}
use Rattle.std.specs.List.{AllByRecursion}
use Rattle.ded_model.specs.Point.{Point, IsPoint}
use Rattle.ded_model.specs.Row.{row_holds, theme_holds, row_mentions, theme_mentions}
use Rattle.ded_model.specs.Cell.{conj_holds, IsReduced, HoldsNowhere}
use Rattle.ded_model.specs.Lines.{row_lines}
use Rattle.ded_model.specs.Normal.{IsNormalTheme, IsNormalTuple}
use Rattle.ded_theory.specs.Both.{by_kind, IsByKind}
use Rattle.ded_theory.specs.Conjunctions.{IsWide}
use Rattle.ded_elimination.specs.LinearAtoms.{IsLinearAtom}
use Rattle.ded_model.specs.Sublists.{IsSublist}
use Rattle.ded_elimination.proofs.Shared.{atoms_normal}
use Rattle.ded_reduce.specs.Reductions.{IfGone, IfKept}
use Rattle.ded_atoms.proofs.TupleParts.{normal_part}
use Rattle.ded_atoms.proofs.Sifted.{sifted_gone, sifted_kept}
use Rattle.ded_atoms.proofs.reduction.sifted.Goals as goal

pub reduce-requires : goal.reduce-requires
reduce-requires c = record {
  normal = subst (AllByRecursion (IsByKind IsLinearAtom IsNormalTheme)) (sym c.deref.ensures.value) (atoms_normal c.tuple.inside.atoms.items c.tuple.invariant);
}

pub invariant_of-result : goal.invariant_of-result
invariant_of-result c =
    normal_part c.in-Kept.atoms.items c.tuple.inside.atoms.items
    (subst (IsSublist c.in-Kept.atoms.items) c.deref.ensures.value (subst (λ r. IfKept (λ atoms. IsSublist atoms c.deref.result.now) r) c.in-Kept.is c.in_ok-reduce.ensures.kept)) c.tuple.invariant

pub returns-in-Gone : goal.returns-in-Gone
returns-in-Gone c =
    sifted_gone c.deref.result.now c.args.tuple.now (c.deref.ensures.value ∙ c.tuple.view_is)
    (subst (λ r. IfGone (HoldsNowhere (conj_holds (by_kind row_holds theme_holds) c.deref.result.now)) r) c.in-Gone.is c.in_ok-reduce.ensures.gone)

pub returns-in-Kept : goal.returns-in-Kept
returns-in-Kept c =
    sifted_kept c.deref.result.now c.args.tuple.now c.in-Kept.atoms.items (c.deref.ensures.value ∙ c.tuple.view_is) (subst IsNormalTuple c.tuple.view_is c.tuple.invariant)
    (subst (λ r. IfKept (λ atoms. (p : Point) → IsPoint p → conj_holds (by_kind row_holds theme_holds) atoms p ≡ conj_holds (by_kind row_holds theme_holds) c.deref.result.now p) r) c.in-Kept.is c.in_ok-reduce.ensures.holds)
    (subst (λ r. IfKept (λ atoms. IsSublist atoms c.deref.result.now) r) c.in-Kept.is c.in_ok-reduce.ensures.kept)
    (subst (λ r. IfKept (λ atoms. (IsWide (by_kind row_mentions theme_mentions) (by_kind row_lines (λ a. [])) atoms → ⊥) → IsReduced (by_kind row_holds theme_holds) atoms) r) c.in-Kept.is c.in_ok-reduce.ensures.reduced)
