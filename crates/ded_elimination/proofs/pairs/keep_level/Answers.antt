use Rattle.std.proofs.Common.{true, length, arith, subst}
use Rattle.ded_elimination.specs.Adding.{Adds, OfFirst}
use Rattle.ded_elimination.specs.Pairs.{LevelHolds}
use Rattle.ded_elimination.proofs.Additions.{adds_more, adds_stop}
use Rattle.ded_elimination.proofs.Conjunctions.{In-at}
use Rattle.ded_elimination.proofs.pairs.keep_level.Goals as goal

pub returns-then-not-branch : goal.returns-then-not-branch
returns-then-not-branch g c =
    let s = c.args.slot in
    let rows = c.args.rows.now in
    let x = c.row-item.result in
    let step = subst (λ b. Adds g.M.Mixing.rows s rows (LevelHolds s x) c.loop-row.out.rows.items b c.add_level.new.out.rows.items) c.if-not-branch.true
    (c.in_ok-add_level.ensures rows c.requires.normal (In-at rows c.loop-row.row-index x (omega arith) c.row-item.is)) in
    adds_stop g.M.Mixing.rows s rows (OfFirst (LevelHolds s) rows c.loop-row.row-index) (LevelHolds s x) (OfFirst (LevelHolds s) rows (length rows)) c.args.out.now.rows.items c.loop-row.out.rows.items c.add_level.new.out.rows.items
    c.loop-row.invariant step

pub loop-row-preserved : goal.loop-row-preserved
loop-row-preserved g c =
    let s = c.args.slot in
    let rows = c.args.rows.now in
    let x = c.row-item.result in
    let step = subst (λ b. Adds g.M.Mixing.rows s rows (LevelHolds s x) c.loop-row.out.rows.items b c.add_level.new.out.rows.items) c.if-not-branch.false
    (c.in_ok-add_level.ensures rows c.requires.normal (In-at rows c.loop-row.row-index x (omega arith) c.row-item.is)) in
    adds_more g.M.Mixing.rows s rows (LevelHolds s) rows c.loop-row.row-index x c.args.out.now.rows.items c.loop-row.out.rows.items true c.add_level.new.out.rows.items (omega arith) c.row-item.is c.loop-row.invariant step
