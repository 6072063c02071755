use Rattle.std.proofs.Common.{false, refl, get_or, ◌+◌, ◌++◌, ◌≡◌, sym, subst, drop}
use Rattle.ded_weighing.specs.Columns.{lent}
use Rattle.ded_cert.specs.Choosing.{chosen}
use Rattle.ded_cert.proofs.Chosen.{chosen_next}
use Rattle.ded_cert.proofs.choosing.chosen.Goals as goal

pub loop-i-preserved : goal.loop-i-preserved
loop-i-preserved c =
    subst (λ few. few ++ chosen (drop (c.loop-i.i + 1) c.args.flags.now) (lent (drop (c.loop-i.i + 1) c.args.rows.now)) ≡ chosen c.args.flags.now (lent c.args.rows.now)) (sym c.in_ok-add_chosen.ensures)
    (chosen_next c.args.flags.now c.args.rows.now c.loop-i.i (get_or c.args.flags.now c.loop-i.i false) c.index-rows-i.result (lent c.loop-i.few.items) (chosen c.args.flags.now (lent c.args.rows.now)) c.loop-i-test.true c.requires refl c.index-rows-i.is c.loop-i.invariant)
