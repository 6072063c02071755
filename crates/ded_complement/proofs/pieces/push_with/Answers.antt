use Rattle.std.proofs.lemmas.Result.{IfOk-weaker}
use Rattle.ded_complement.proofs.Cutting.{with_more, with_nowhere}
use Rattle.ded_complement.proofs.pieces.push_with.Goals as goal

pub returns-clause-more : goal.returns-clause-more
returns-clause-more g c =
    IfOk-weaker c.push_piece.result _ _ (λ x k. with_more g.T.Theory.holds g.T.Theory.mentions g.T.Theory.lines g.T.Theory.cell c.args.rest.items c.in_ok-piece.piece.items c.args.last c.args.out.now c.push_piece.new.out c.in_ok-piece.ensures.alike k) c.push_piece.ensures.more

pub returns-clause-dropped : goal.returns-clause-dropped
returns-clause-dropped g c =
    IfOk-weaker c.push_piece.result _ _ (λ x k e. with_nowhere g.T.Theory.holds g.T.Theory.mentions g.T.Theory.lines g.T.Theory.cell c.args.rest.items c.in_ok-piece.piece.items c.args.last c.in_ok-piece.ensures.alike (k e)) c.push_piece.ensures.dropped
