use Rattle.std.proofs.Common.{[], ◌∷◌, ◌++◌, codes, List, ℕ, ◌∙◌, subst}
use Rattle.std.proofs.lemmas.Result.{err_from_is_err_and}
use Rattle.ded_io.specs.Devices.{AddsAll}
use Rattle.ded_shared.proofs.Sending.{adds_both, adds_part}
use Rattle.ded_shared.proofs.answering.write_conflict.Goals as goal

pub returns-in_err-send-clause-bytes : goal.returns-in_err-send-clause-bytes
returns-in_err-send-clause-bytes g c =
    let p = err_from_is_err_and c.from_residual.result c.from_residual.ensures.1 in
    adds_part _ _ (codes "refused 24 conflict ") (c.args.name.now ++ 10 ∷ []) p.0 c.from_residual.result p.1 c.in_err-send.ensures.bytes

pub returns-clause-bytes : goal.returns-clause-bytes
returns-clause-bytes g c =
    adds_both _ _ _ (codes "refused 24 conflict ") (c.args.name.now ++ 10 ∷ []) c.in_ok-send.ensures.bytes c.write_line.result
    (subst (λ (l : List ℕ). AddsAll (g.K.Sink.contents c.send.new.sink) (g.K.Sink.contents c.write_line.new.sink) c.write_line.result (l ++ 10 ∷ [])) (c.deref.ensures.value ∙ c.name.view_is) c.write_line.ensures.bytes)
