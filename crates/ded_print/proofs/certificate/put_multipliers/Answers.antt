-- One more number was put.
use Rattle.std.proofs.Common.{SFits, rules, ◌++◌, ◌∷◌, [], ap, get_or}
use Rattle.std.specs.Prelude.{pos}
use Rattle.std.specs.Int.{w128}
use Rattle.std.proofs.lemmas.Int.{to_z-of_z}
use Rattle.ded_print.specs.Gathering.{output}
use Rattle.ded_print.specs.Numbers.{integer_text}
use Rattle.ded_print.proofs.Certificates.{next_number}
use Rattle.ded_print.proofs.Gathering.{puts_both, puts_as}
use Rattle.ded_print.proofs.certificate.put_multipliers.Goals as goal

pub loop-number-preserved : goal.loop-number-preserved
loop-number-preserved g c =
    let start = output (g.K.Sink.contents c.args.sink.now) (g.K.Sink.faults c.args.sink.now) c.args.gathered.now in
    let now = output (g.K.Sink.contents c.loop-number.sink) (g.K.Sink.faults c.loop-number.sink) c.loop-number.gathered in
    let next = output (g.K.Sink.contents c.put_integer.new.sink) (g.K.Sink.faults c.put_integer.new.sink) c.put_integer.new.gathered in
    let number = get_or c.args.list.now c.loop-number.number-index (pos 0) in
    let fits : SFits w128 number = search rules in
    next_number start now next c.args.list.now c.loop-number.number-index (pos 0) c.loop-number-test.true c.loop-number.invariant
    (puts_as _ _ _ _ (ap (λ z. (32 ∷ []) ++ integer_text z) (to_z-of_z w128 number fits)) (puts_both _ _ _ _ _ c.put.ensures c.put_integer.ensures))
