use Rattle.std.proofs.Common.{◌+◌, ◌++◌, ◌∙◌, sym, subst, take}
use Rattle.std.specs.List.{AllByRecursion}
use Rattle.ded_genrel.specs.Lists.{conjs_of}
use Rattle.ded_genrel.proofs.Items.{conjs_to, conjs_done, normal-at}
use Rattle.ded_complement.specs.Boxed.{conjs_in}
use Rattle.ded_complement.specs.Pieces.{all_atoms}
use Rattle.ded_complement.proofs.Cutting.{Subtracting, subtracting_more, from_made, taken_among, minus_is}
use Rattle.ded_complement.proofs.difference.minus_boxed.Goals as goal

pub outside-requires-clause-normal : goal.outside-requires-clause-normal
outside-requires-clause-normal g c =
    subst (AllByRecursion g.T.Theory.normal) (sym (c.in_ok-copy_conj.ensures ∙ c.deref.ensures.value))
    (normal-at g.T.Theory.normal c.list-conj-items.result.now c.loop-conj.conj-index c.conj-item.result c.loop-conj-test.true c.conj-item.is c.list-conj-items.ensures.normal)

pub loop-conj-preserved : goal.loop-conj-preserved
loop-conj-preserved g c =
    let h = g.T.Theory.holds in
    let m = g.T.Theory.mentions in
    let l = g.T.Theory.lines in
    let cell = g.T.Theory.cell in
    let atoms = all_atoms c.args.from.now ++ all_atoms (conjs_in c.args.taken.now) in
    let same = c.in_ok-copy_conj.ensures ∙ c.deref.ensures.value in
    let out = c.in_ok-pieces.pieces in
    let piece = c.in_ok-copy_conj.field-0.items in
    subtracting_more h m l cell g.met.T.Theory.cells_tell atoms (conjs_in c.args.taken.now) (conjs_of (take c.loop-conj.conj-index c.list-conj-items.result.now)) (conjs_of (take (c.loop-conj.conj-index + 1) c.list-conj-items.result.now)) c.loop-conj.out c.append.new.self out
    c.conj-item.result.items piece (conjs_to c.list-conj-items.result.now c.loop-conj.conj-index c.conj-item.result c.loop-conj-test.true c.conj-item.is) c.in_ok-append.ensures same c.loop-conj.invariant
    (c.in_ok-pieces.ensures atoms
    (from_made h m l cell c.args.from.now (conjs_in c.args.taken.now) c.list-conj-items.result.now c.loop-conj.conj-index c.conj-item.result piece c.loop-conj-test.true c.conj-item.is c.list-conj-items.ensures.list same)
    (taken_among h m l cell c.args.from.now (conjs_in c.args.taken.now)))

pub returns-clause-is : goal.returns-clause-is
returns-clause-is g c =
    minus_is g.T.Theory.holds g.T.Theory.mentions g.T.Theory.lines g.T.Theory.cell c.args.from.now (conjs_in c.args.taken.now) c.loop-conj.out
    (subst (λ xs. Subtracting g.T.Theory.holds g.T.Theory.mentions g.T.Theory.lines g.T.Theory.cell (all_atoms c.args.from.now ++ all_atoms (conjs_in c.args.taken.now)) (conjs_in c.args.taken.now) xs c.loop-conj.out) (conjs_done c.list-conj-items.result.now c.loop-conj.conj-index c.loop-conj-test.false ∙ c.list-conj-items.ensures.list) c.loop-conj.invariant)

pub returns-clause-cells : goal.returns-clause-cells
returns-clause-cells g c =
    (subst (λ xs. Subtracting g.T.Theory.holds g.T.Theory.mentions g.T.Theory.lines g.T.Theory.cell (all_atoms c.args.from.now ++ all_atoms (conjs_in c.args.taken.now)) (conjs_in c.args.taken.now) xs c.loop-conj.out) (conjs_done c.list-conj-items.result.now c.loop-conj.conj-index c.loop-conj-test.false ∙ c.list-conj-items.ensures.list) c.loop-conj.invariant).cells

pub returns-clause-made : goal.returns-clause-made
returns-clause-made g c =
    (subst (λ xs. Subtracting g.T.Theory.holds g.T.Theory.mentions g.T.Theory.lines g.T.Theory.cell (all_atoms c.args.from.now ++ all_atoms (conjs_in c.args.taken.now)) (conjs_in c.args.taken.now) xs c.loop-conj.out) (conjs_done c.list-conj-items.result.now c.loop-conj.conj-index c.loop-conj-test.false ∙ c.list-conj-items.ensures.list) c.loop-conj.invariant).made
