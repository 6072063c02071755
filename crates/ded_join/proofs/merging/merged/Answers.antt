use Rattle.ded_join.proofs.Alike.{alike_more}
use Rattle.ded_join.proofs.merging.merged.Goals as goal

pub loop-atom-preserved : goal.loop-atom-preserved
loop-atom-preserved g c = record {
  alike = alike_more g.T.Theory.holds c.loop-atom.yielded c.loop-atom.kept.items c.in_ok-kept-2.kept.items c.in-Some.atom c.loop-atom.invariant.alike c.in_ok-kept-2.ensures.alike;
  normal = c.in_ok-kept-2.ensures.normal;
}
