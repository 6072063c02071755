use Rattle.std.proofs.Common.{[], ◌++◌, sym, ap₂, ◌∙◌, subst}
use Rattle.std.specs.List.{AllByRecursion}
use Rattle.std.proofs.lemmas.Result.{IfOk-weaker}
use Rattle.ded_genrel.proofs.Items.{all-append}
use Rattle.ded_model.specs.Lines.{row_lines}
use Rattle.ded_model.specs.Normal.{IsNormalTheme}
use Rattle.ded_model.specs.Row.{row_holds, theme_holds, row_mentions, theme_mentions}
use Rattle.ded_elimination.specs.LinearAtoms.{IsLinearAtom}
use Rattle.ded_theory.specs.Both.{by_kind, IsByKind}
use Rattle.ded_theory.specs.Verdicts.{IsVerdict}
use Rattle.ded_elimination.proofs.Shared.{atoms_normal}
use Rattle.ded_atoms.proofs.Conjunctive.{normal_or_true}
use Rattle.ded_eval.proofs.TuplesOfBoth.{met_nowhere, met}
use Rattle.ded_eval.proofs.meeting.met.Goals as goal

pub refute-requires : goal.refute-requires
refute-requires c = record {
  normal = subst (AllByRecursion (IsByKind IsLinearAtom IsNormalTheme)) (sym (c.deref-3.ensures.value ∙ c.in_ok-atoms.ensures ∙ ap₂ (λ xs ys. xs ++ ys) c.deref.ensures.value c.deref-2.ensures.value))
      (all-append (IsByKind IsLinearAtom IsNormalTheme) c.first.inside.atoms.items c.second.inside.atoms.items (atoms_normal c.first.inside.atoms.items c.first.invariant) (atoms_normal c.second.inside.atoms.items c.second.invariant));
}

pub normal_tuple-requires : goal.normal_tuple-requires
normal_tuple-requires c =
    normal_or_true c.in_ok-atoms.atoms.items
    (subst (AllByRecursion (IsByKind IsLinearAtom IsNormalTheme)) (sym (c.in_ok-atoms.ensures ∙ ap₂ (λ xs ys. xs ++ ys) c.deref.ensures.value c.deref-2.ensures.value))
    (all-append (IsByKind IsLinearAtom IsNormalTheme) c.first.inside.atoms.items c.second.inside.atoms.items (atoms_normal c.first.inside.atoms.items c.first.invariant) (atoms_normal c.second.inside.atoms.items c.second.invariant)))

pub returns-in-Empty : goal.returns-in-Empty
returns-in-Empty c =
    met_nowhere c.args.first.now c.args.second.now c.deref-3.result.now (c.deref-3.ensures.value ∙ c.in_ok-atoms.ensures ∙ ap₂ (λ xs ys. xs ++ ys) (c.deref.ensures.value ∙ c.first.view_is) (c.deref-2.ensures.value ∙ c.second.view_is))
    (subst (IsVerdict (by_kind row_holds theme_holds) (by_kind row_mentions theme_mentions) (by_kind row_lines (λ a. [])) c.deref-3.result.now) c.in-Empty.is c.in_ok-refute.ensures.verdict)

pub returns : goal.returns
returns c =
    IfOk-weaker c.reduce_answer-reduced.result _ _
    (λ o k. met c.args.first.now c.args.second.now c.in_ok-atoms.atoms.items c.in_ok-both.both o (c.in_ok-atoms.ensures ∙ ap₂ (λ xs ys. xs ++ ys) (c.deref.ensures.value ∙ c.first.view_is) (c.deref-2.ensures.value ∙ c.second.view_is))
    c.in_ok-both.ensures.holds c.in_ok-both.ensures.slots c.in_ok-both.ensures.lines k) c.reduce_answer-reduced.ensures.part
