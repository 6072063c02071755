use Rattle.std.proofs.Common.{true, arith, subst}
use Rattle.ded_elimination.specs.Adding.{Adds}
use Rattle.ded_elimination.specs.Pairs.{UpperHolds}
use Rattle.ded_elimination.proofs.Additions.{adds_more}
use Rattle.ded_elimination.proofs.Conjunctions.{In-at}
use Rattle.ded_elimination.proofs.pairs.mix_uppers.Goals as goal

pub add_upper-requires-clause-inside : goal.add_upper-requires-clause-inside
add_upper-requires-clause-inside g c = In-at c.args.rows.now c.loop-upper.upper-index c.upper-item.result (omega arith) c.upper-item.is

pub loop-upper-preserved : goal.loop-upper-preserved
loop-upper-preserved g c =
    let s = c.args.slot in
    let rows = c.args.rows.now in
    let x = c.upper-item.result in
    let step = subst (λ b. Adds g.M.Mixing.rows s rows (UpperHolds s rows x) c.loop-upper.out.rows.items b c.add_upper.new.out.rows.items) c.if-not-branch.false c.in_ok-add_upper.ensures.adds in
    adds_more g.M.Mixing.rows s rows (UpperHolds s rows) rows c.loop-upper.upper-index x c.args.out.now.rows.items c.loop-upper.out.rows.items true c.add_upper.new.out.rows.items (omega arith) c.upper-item.is c.loop-upper.invariant step
