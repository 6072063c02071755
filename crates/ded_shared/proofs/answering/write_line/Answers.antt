use Rattle.std.proofs.Common.{[], ◌∷◌}
use Rattle.std.proofs.lemmas.Result.{err_from_is_err_and}
use Rattle.ded_shared.proofs.Sending.{adds_both, adds_part}
use Rattle.ded_shared.proofs.answering.write_line.Goals as goal

pub returns-in_err-send-clause-bytes : goal.returns-in_err-send-clause-bytes
returns-in_err-send-clause-bytes g c =
    let p = err_from_is_err_and c.from_residual.result c.from_residual.ensures.1 in
    adds_part _ _ c.args.bytes.now (10 ∷ []) p.0 c.from_residual.result p.1 c.in_err-send.ensures.bytes

pub returns-clause-bytes : goal.returns-clause-bytes
returns-clause-bytes g c = adds_both _ _ _ c.args.bytes.now (10 ∷ []) c.in_ok-send.ensures.bytes c.send-2.result c.send-2.ensures.bytes
