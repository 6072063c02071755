use Rattle.std.proofs.Common.{subst}
use Rattle.std.proofs.lemmas.Result.{IfOk-weaker}
use Rattle.ded_model.specs.Normal.{IsNormalTheme}
use Rattle.ded_theory.specs.Both.{IsByKind}
use Rattle.ded_elimination.specs.LinearAtoms.{IsLinearAtom}
use Rattle.ded_genrel.specs.Lists.{AreNormal}
use Rattle.ded_topology.specs.Closing.{IsClosed}
use Rattle.ded_topology.proofs.Closed.{closed_close, closed_slots, closed_lines, wide_each}
use Rattle.ded_topology.proofs.closing.closure.Goals as goal

pub returns-clause-is : goal.returns-clause-is
returns-clause-is c = IfOk-weaker c.closed.result (IsClosed c.args.rel.now) _ (λ r k. closed_close c.args.rel.now r k) c.closed.ensures.is

pub returns-clause-slots : goal.returns-clause-slots
returns-clause-slots c = IfOk-weaker c.closed.result (IsClosed c.args.rel.now) _ (λ r k. closed_slots c.args.rel.now r k) c.closed.ensures.is

pub returns-clause-lines : goal.returns-clause-lines
returns-clause-lines c = IfOk-weaker c.closed.result (IsClosed c.args.rel.now) _ (λ r k. closed_lines c.args.rel.now r k) c.closed.ensures.is

pub returns-clause-wide : goal.returns-clause-wide
returns-clause-wide c = λ e. wide_each c.args.rel.now (subst (AreNormal (IsByKind IsLinearAtom IsNormalTheme)) c.rel.view_is c.rel.invariant) (c.closed.ensures.wide e)
