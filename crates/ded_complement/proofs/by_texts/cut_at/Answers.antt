use Rattle.std.proofs.Common.{refl, subst}
use Rattle.std.proofs.lemmas.Result.{IfOk-weaker}
use Rattle.ded_model.specs.Negation.{EachPiece}
use Rattle.ded_complement.proofs.TextCuts.{cut_behind, cut_left, cut_off, keyed_among, keyed_normal}
use Rattle.ded_complement.proofs.by_texts.cut_at.Goals as goal

pub returns-then-is_behind : goal.returns-then-is_behind
returns-then-is_behind g c =
    cut_behind g.T.Theory.holds g.T.Theory.mentions g.T.Theory.lines g.T.Theory.cell g.T.Theory.normal c.args.near.now c.args.keyed.now c.requires.keyed c.args.out.now c.args.cut.now (c.is_behind.ensures c.if-is_behind.true)

pub returns-then-not-is_new : goal.returns-then-not-is_new
returns-then-not-is_new g c =
    cut_left g.T.Theory.holds g.T.Theory.mentions g.T.Theory.lines g.T.Theory.cell g.T.Theory.normal c.args.near.now c.args.keyed.now c.requires.keyed c.args.out.now c.args.cut.now.rest c.args.cut.now.last c.args.cut.now.left c.push.new.self c.in_ok-push.ensures.items

pub negate-requires : goal.negate-requires
negate-requires g c =
    let near = c.args.near.now in
    let e = c.args.keyed.now in
    record { normal = keyed_normal g.T.Theory.holds g.T.Theory.normal near.slots.now near.taken.now e.atom.now c.requires.near.boxed (keyed_among near.taken.now e.place e.atom.now c.requires.keyed.among) }

pub returns-in-One : goal.returns-in-One
returns-in-One g c =
    let n = c.in_ok-negation.ensures in
    let near = c.args.near.now in
    let e = c.args.keyed.now in
    IfOk-weaker c.carve_own.result _ _ (λ x k. cut_off g.T.Theory.holds g.T.Theory.mentions g.T.Theory.lines g.T.Theory.cell g.T.Theory.normal near e c.requires.keyed c.args.out.now c.carve_own.new.out
    c.args.cut.now.rest c.push-in-One.new.self c.args.cut.now.last c.args.cut.now.left c.args.keyed c.in-One.negation c.in_ok-negation.field-0 refl c.in-One.is
    (record { holds = n.holds; disjoint = n.disjoint; slots = n.slots; lines = n.lines; cells = n.cells }) (subst (EachPiece g.T.Theory.normal) c.in-One.is n.normal)
    (keyed_among near.taken.now e.place e.atom.now c.requires.keyed.among) c.in_ok-push-in-One.ensures.items (c.is_new.ensures c.if-not-is_new.false) k) c.carve_own.ensures

pub returns : goal.returns
returns g c =
    cut_left g.T.Theory.holds g.T.Theory.mentions g.T.Theory.lines g.T.Theory.cell g.T.Theory.normal c.args.near.now c.args.keyed.now c.requires.keyed c.args.out.now c.args.cut.now.rest c.args.cut.now.last c.args.cut.now.left c.push-in-Two.new.self c.in_ok-push-in-Two.ensures.items
