use Rattle.std.proofs.Common.{subst}
use Rattle.std.proofs.lemmas.List.{take_all}
use Rattle.std.specs.List.{AllByRecursion}
use Rattle.ded_model.specs.Lines.{atoms_lines}
use Rattle.ded_database.specs.Lost.{AreReadAmong}
use Rattle.ded_database.proofs.LostReading.{read_next}
use Rattle.ded_database.proofs.lost.read_lines.Goals as goal

pub loop-places-init : goal.loop-places-init
loop-places-init c = tt

pub loop-places-preserved : goal.loop-places-preserved
loop-places-preserved c =
    read_next (atoms_lines c.args.atoms.now) c.loop-places.lines.items c.add_read.new.lines.items c.args.all.now c.loop-places.places-index c.places-item.result c.loop-places-test.true c.places-item.is (c.in_ok-add_read.ensures c.if-not-branch.false) c.loop-places.invariant

pub returns : goal.returns
returns c = subst (AllByRecursion (AreReadAmong (atoms_lines c.args.atoms.now) c.loop-places.lines.items)) (take_all c.loop-places.places-index c.args.all.now c.loop-places-test.false) c.loop-places.invariant
