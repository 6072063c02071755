use Rattle.ded_complement.proofs.Halved.{carved_alone}
use Rattle.ded_complement.proofs.difference.outside.Goals as goal

pub returns : goal.returns
returns g c =
    carved_alone g.T.Theory.holds g.T.Theory.mentions g.T.Theory.lines g.T.Theory.cell c.args.taken.now c.args.piece.items c.in_ok-part.part.piece.conj.items c.new-out.result c.carve_apart.new.out c.new-out.ensures c.in_ok-part.ensures.same c.in_ok-carve_apart.ensures
