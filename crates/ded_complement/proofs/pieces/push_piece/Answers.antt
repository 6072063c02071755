use Rattle.std.proofs.Common.{true≢false}
use Rattle.ded_complement.proofs.Cutting.{kept_more}
use Rattle.ded_complement.proofs.pieces.push_piece.Goals as goal

pub returns-in_ok-push-in_default : goal.returns-in_ok-push-in_default
returns-in_ok-push-in_default g c = record {
  more = kept_more g.T.Theory.holds g.T.Theory.mentions g.T.Theory.lines g.T.Theory.cell c.args.piece.items c.deref.result.now c.args.out.now c.push.new.self c.in_ok-refute.field-0 c.deref.ensures.value c.in_default.not-Empty c.in_ok-refute.ensures.verdict
      c.in_ok-push-in_default.ensures.pushed;
  dropped = λ e. absurd (true≢false e);
}
