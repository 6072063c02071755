use Rattle.std.proofs.Common.{◌<◌, length, arith}
use Rattle.ded_row.proofs.FirstSlots.{first_left, first_right, first_both}
use Rattle.ded_row.proofs.merging.next_slot.Goals as goal
use Rattle.ded_row.proofs.merging.next_slot.Goals.{then-j-ys-via-then-j-ys, then-j-ys-via-else-j-ys+then-xs-i}

pub returns-then-j-ys-clause-first : goal.returns-then-j-ys-clause-first
returns-then-j-ys-clause-first c =
    let lt : c.args.i < length c.args.xs.now = let m = c.requires.place_i in omega arith in
    first_left c.args.xs.now c.args.i c.args.ys.now c.args.j c.requires.xs c.requires.ys lt
    (elim c.then-j-ys.branch [ then-j-ys-via-then-j-ys w ↦ λ l. absurd (omega arith) | then-j-ys-via-else-j-ys+then-xs-i w ↦ λ l. omega arith ])

pub returns-then-ys-j-clause-first : goal.returns-then-ys-j-clause-first
returns-then-ys-j-clause-first c =
    let lt : c.args.j < length c.args.ys.now = let m = c.requires.place_j in omega arith in
    first_right c.args.xs.now c.args.i c.args.ys.now c.args.j c.requires.xs c.requires.ys lt (λ l. omega arith)

pub returns-clause-first : goal.returns-clause-first
returns-clause-first c =
    let lx : c.args.i < length c.args.xs.now = let m = c.requires.place_i in omega arith in
    let ly : c.args.j < length c.args.ys.now = let m = c.requires.place_j in omega arith in
    first_both c.args.xs.now c.args.i c.args.ys.now c.args.j c.requires.xs c.requires.ys lx ly (omega arith)
