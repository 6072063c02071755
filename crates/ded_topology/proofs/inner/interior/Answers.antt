use Rattle.std.proofs.Common.{◌≡◌, Err, ap, subst}
use Rattle.std.proofs.lemmas.Result.{err_from_is_err_and}
use Rattle.ded_model.specs.declared.memory.Refused.TheVariants.{Wide}
use Rattle.ded_model.specs.Normal.{IsNormalTheme}
use Rattle.ded_theory.specs.Both.{IsByKind}
use Rattle.ded_elimination.specs.LinearAtoms.{IsLinearAtom}
use Rattle.ded_genrel.specs.Lists.{AreNormal}
use Rattle.ded_topology.proofs.Interiors.{interior_inside, interior_slots, interior_lines, wide_outside}
use Rattle.ded_topology.proofs.inner.interior.Goals as goal

pub returns-in_err-near-clause-wide : goal.returns-in_err-near-clause-wide
returns-in_err-near-clause-wide c = λ e.
    let p = err_from_is_err_and c.from_residual-in_err-near.result c.from_residual-in_err-near.ensures.1 in
    let is : c.in_err-near.field-0.0 ≡ Wide = cc (p.1, p.2, e) in
    wide_outside c.args.rel.now c.in_ok-outside.outside (subst (AreNormal (IsByKind IsLinearAtom IsNormalTheme)) c.rel.view_is c.rel.invariant) c.in_ok-outside.ensures.is (c.in_err-near.ensures.wide (ap Err is))

pub returns-clause-is : goal.returns-clause-is
returns-clause-is c = interior_inside c.args.rel.now c.in_ok-outside.outside c.in_ok-near.near c.in_ok-complement.field-0 c.in_ok-outside.ensures.is c.in_ok-near.ensures.is c.in_ok-complement.ensures.is

pub returns-clause-slots : goal.returns-clause-slots
returns-clause-slots c = interior_slots c.args.rel.now c.in_ok-outside.outside c.in_ok-near.near c.in_ok-complement.field-0 c.in_ok-outside.ensures.is c.in_ok-near.ensures.is c.in_ok-complement.ensures.is

pub returns-clause-lines : goal.returns-clause-lines
returns-clause-lines c = interior_lines c.args.rel.now c.in_ok-outside.outside c.in_ok-near.near c.in_ok-complement.field-0 c.in_ok-outside.ensures.is c.in_ok-near.ensures.is c.in_ok-complement.ensures.is
