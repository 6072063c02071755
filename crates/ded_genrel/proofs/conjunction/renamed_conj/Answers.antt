use Rattle.std.proofs.Common.{◌+◌, sym, subst, take}
use Rattle.std.specs.List.{AllByRecursion}
use Rattle.ded_genrel.proofs.Items.{done_to, all-push}
use Rattle.ded_genrel.proofs.Renamed.{conj_renaming_more}
use Rattle.ded_genrel.proofs.conjunction.renamed_conj.Goals as goal

pub loop-atom-preserved : goal.loop-atom-preserved
loop-atom-preserved g c = (
  conj_renaming_more g.T.Theory.holds g.T.Theory.mentions g.T.Theory.lines c.args.map.now (take c.loop-atom.atom-index c.args.atoms.now) (take (c.loop-atom.atom-index + 1) c.args.atoms.now) c.loop-atom.renamed.items c.push.new.self.items
      c.atom-item.result c.in_ok-rename.field-0 (done_to c.args.atoms.now c.loop-atom.atom-index c.atom-item.result c.loop-atom-test.true c.atom-item.is) c.in_ok-push.ensures.items c.loop-atom.invariant.0
      (record { holds = c.in_ok-rename.ensures.holds; slots = c.in_ok-rename.ensures.slots; lines = c.in_ok-rename.ensures.lines }),
  subst (AllByRecursion g.T.Theory.normal) (sym c.in_ok-push.ensures.items) (all-push g.T.Theory.normal c.loop-atom.renamed.items c.in_ok-rename.field-0 c.loop-atom.invariant.1 c.in_ok-rename.ensures.normal),
)
