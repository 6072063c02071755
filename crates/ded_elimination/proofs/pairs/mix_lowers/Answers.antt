use Rattle.std.proofs.Common.{◌≡◌, true, length, arith, ap, subst, Err}
use Rattle.std.proofs.lemmas.Result.{err_from_is_err_and}
use Rattle.ded_model.specs.declared.memory.Refused.TheVariants.{Wide}
use Rattle.ded_elimination.specs.Adding.{Adds, OfFirst}
use Rattle.ded_elimination.specs.Pairs.{PairHolds}
use Rattle.ded_elimination.proofs.Additions.{adds_more, adds_stop}
use Rattle.ded_elimination.specs.LinearAtoms.{IsLinearAtom}
use Rattle.ded_elimination.proofs.Conjunctions.{In-at, all-In}
use Rattle.ded_elimination.proofs.pairs.mix_lowers.Goals as goal

pub add_pair-requires-clause-normal : goal.add_pair-requires-clause-normal
add_pair-requires-clause-normal g c =
    let rows = c.args.rows.now in
    let x = c.lower-item.result in
    (all-In IsLinearAtom rows c.args.upper.now c.requires.normal c.requires.inside, all-In IsLinearAtom rows x c.requires.normal (In-at rows c.loop-lower.lower-index x (omega arith) c.lower-item.is))

pub add_pair-requires-clause-rows : goal.add_pair-requires-clause-rows
add_pair-requires-clause-rows g c =
    let rows = c.args.rows.now in
    let x = c.lower-item.result in
    (all-In g.M.Mixing.rows rows c.args.upper.now c.requires.rows c.requires.inside, all-In g.M.Mixing.rows rows x c.requires.rows (In-at rows c.loop-lower.lower-index x (omega arith) c.lower-item.is))

pub returns-in_err-add_pair-clause-never_wide : goal.returns-in_err-add_pair-clause-never_wide
returns-in_err-add_pair-clause-never_wide g c = λ d i.
    let p = err_from_is_err_and c.from_residual.result c.from_residual.ensures.1 in
    let is : c.in_err-add_pair.field-0.0 ≡ Wide = cc (p.1, p.2, i) in
    c.in_err-add_pair.ensures.never_wide d (ap Err is)

pub returns-in_err-add_pair-clause-wide : goal.returns-in_err-add_pair-clause-wide
returns-in_err-add_pair-clause-wide g c = λ e.
    let p = err_from_is_err_and c.from_residual.result c.from_residual.ensures.1 in
    let is : c.in_err-add_pair.field-0.0 ≡ Wide = cc (p.1, p.2, e) in
    let rows = c.args.rows.now in
    c.in_err-add_pair.ensures.wide (ap Err is) rows c.requires.normal c.requires.inside (In-at rows c.loop-lower.lower-index c.lower-item.result (omega arith) c.lower-item.is)

pub returns-then-not-branch-clause-adds : goal.returns-then-not-branch-clause-adds
returns-then-not-branch-clause-adds g c =
    let s = c.args.slot in
    let rows = c.args.rows.now in
    let u = c.args.upper.now in
    let x = c.lower-item.result in
    let step = subst (λ b. Adds g.M.Mixing.rows s rows (PairHolds s u x) c.loop-lower.out.rows.items b c.add_pair.new.out.rows.items) c.if-not-branch.true
    (c.in_ok-add_pair.ensures.adds rows c.requires.normal c.requires.inside (In-at rows c.loop-lower.lower-index x (omega arith) c.lower-item.is)) in
    adds_stop g.M.Mixing.rows s rows (OfFirst (PairHolds s u) rows c.loop-lower.lower-index) (PairHolds s u x) (OfFirst (PairHolds s u) rows (length rows)) c.args.out.now.rows.items c.loop-lower.out.rows.items c.add_pair.new.out.rows.items
    c.loop-lower.invariant step

pub loop-lower-preserved : goal.loop-lower-preserved
loop-lower-preserved g c =
    let s = c.args.slot in
    let rows = c.args.rows.now in
    let u = c.args.upper.now in
    let x = c.lower-item.result in
    let step = subst (λ b. Adds g.M.Mixing.rows s rows (PairHolds s u x) c.loop-lower.out.rows.items b c.add_pair.new.out.rows.items) c.if-not-branch.false
    (c.in_ok-add_pair.ensures.adds rows c.requires.normal c.requires.inside (In-at rows c.loop-lower.lower-index x (omega arith) c.lower-item.is)) in
    adds_more g.M.Mixing.rows s rows (PairHolds s u) rows c.loop-lower.lower-index x c.args.out.now.rows.items c.loop-lower.out.rows.items true c.add_pair.new.out.rows.items (omega arith) c.lower-item.is c.loop-lower.invariant step
