use Rattle.std.proofs.Common.{[], ◌∷◌, ◌++◌, sym, ap, ◌∙◌, subst}
use Rattle.std.specs.List.{AllByRecursion}
use Rattle.ded_model.specs.Lines.{row_lines}
use Rattle.ded_model.specs.Normal.{IsNormalTheme}
use Rattle.ded_model.specs.Row.{row_holds, theme_holds, row_mentions, theme_mentions}
use Rattle.ded_theory.specs.Both.{by_kind, IsByKind}
use Rattle.ded_theory.specs.Verdicts.{IsVerdict}
use Rattle.ded_elimination.specs.LinearAtoms.{IsLinearAtom}
use Rattle.ded_topology.specs.Closing.{verdict_of}
use Rattle.ded_topology.proofs.Closed.{closed_kept, closed_dropped}
use Rattle.ded_topology.proofs.Weak.{weakened_normal}
use Rattle.ded_topology.proofs.closing.push_closed.Goals as goal

pub push-requires : goal.push-requires
push-requires c = record { normal = subst (AllByRecursion (IsByKind IsLinearAtom IsNormalTheme)) (sym c.in_ok-weakened.ensures) (weakened_normal c.args.conj.now c.requires) }

pub returns-in_ok-push-clause-is : goal.returns-in_ok-push-clause-is
returns-in_ok-push-clause-is c = λ conjs k.
    closed_kept conjs c.args.out.now c.push.new.self c.args.conj.now c.requires
    (subst (IsVerdict (by_kind row_holds theme_holds) (by_kind row_mentions theme_mentions) (by_kind row_lines (λ a. [])) c.args.conj.now) (c.in_ok-is_inhabited.ensures.known ∙ ap verdict_of c.if-branch.true) c.in_ok-verdict.ensures.verdict)
    (c.in_ok-push.ensures.pushed ∙ ap (λ x. c.args.out.now ++ x ∷ []) c.in_ok-weakened.ensures) k

pub returns-else-branch-clause-is : goal.returns-else-branch-clause-is
returns-else-branch-clause-is c = λ conjs k.
    closed_dropped conjs c.args.out.now c.args.conj.now
    (subst (IsVerdict (by_kind row_holds theme_holds) (by_kind row_mentions theme_mentions) (by_kind row_lines (λ a. [])) c.args.conj.now) (c.in_ok-is_inhabited.ensures.known ∙ ap verdict_of c.if-branch.false) c.in_ok-verdict.ensures.verdict) k
