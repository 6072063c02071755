use Rattle.ded_complement.proofs.Halved.{halves_are}
use Rattle.ded_complement.proofs.carving.halves_by.Goals as goal

pub returns-then-most-near : goal.returns-then-most-near
returns-then-most-near g c =
    let n = c.in_ok-negation.ensures in
    halves_are g.T.Theory.holds g.T.Theory.mentions g.T.Theory.lines g.T.Theory.cell g.T.Theory.normal c.args.slots.now c.args.taken.now c.args.part.now.piece.conj.items (record { first = c.in_ok-first-in-One.first; second = c.in_ok-second-in-One.second })
    c.args.atom c.in-One.negation c.in_ok-negation.field-0 c.in-One.is (record { holds = n.holds; disjoint = n.disjoint; slots = n.slots; lines = n.lines; cells = n.cells }) c.requires.among
    c.in_ok-first-in-One.ensures.alike c.in_ok-second-in-One.ensures.alike c.in_ok-first-in-One.ensures.part c.in_ok-second-in-One.ensures.part
