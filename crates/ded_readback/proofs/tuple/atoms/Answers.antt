use Rattle.std.proofs.Common.{sym, subst, ◌∙◌}
use Rattle.std.specs.List.{AllByRecursion}
use Rattle.ded_num.proofs.Tests.{all_more}
use Rattle.ded_tuple.specs.TrueRows.{IsNormalOrTrue}
use Rattle.ded_readback.proofs.Loops.{atoms_on, atoms_done}
use Rattle.ded_readback.proofs.tuple.atoms.Goals as goal

pub returns-in-Some-clause-read : goal.returns-in-Some-clause-read
returns-in-Some-clause-read c = sym c.loop.invariant.same ∙ atoms_done _ _ _ _ _ _ c.loop-test.true c.in-Some.ensures.some

pub loop-preserved : goal.loop-preserved
loop-preserved c = record {
  same = atoms_on _ _ _ _ _ _ _ c.loop-test.true c.in_default.ensures.none c.in_ok-atom.ensures.read c.in_ok-push.ensures.items ∙ c.loop.invariant.same;
  each = subst (AllByRecursion IsNormalOrTrue) (sym c.in_ok-push.ensures.items) (all_more IsNormalOrTrue c.loop.atoms.items c.in_ok-atom.atom c.loop.invariant.each c.in_ok-atom.ensures.normal);
}
