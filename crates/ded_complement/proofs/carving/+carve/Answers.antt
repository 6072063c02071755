use Rattle.std.proofs.Common.{subst, IfSome}
use Rattle.std.proofs.lemmas.Result.{IfOk-weaker}
use Rattle.ded_complement.specs.Parts.{AreHalves}
use Rattle.ded_complement.proofs.Halved.{carved_both}
use Rattle.ded_complement.proofs.carving.+carve.Goals as goal

pub returns-in_ok-carve-in-Some : goal.returns-in_ok-carve-in-Some
returns-in_ok-carve-in-Some g t c =
    let h = g.T.Theory.holds in
    let m = g.T.Theory.mentions in
    let l = g.T.Theory.lines in
    let cell = g.T.Theory.cell in
    let taken = c.args.taken.now in
    let piece = c.args.part.piece.conj.items in
    let halves = subst (λ o. IfSome o (λ r. AreHalves h m l cell g.T.Theory.normal c.args.slots.now taken piece r)) c.in-Some.is c.in_ok-halves.ensures in
    IfOk-weaker c.carve-in-Some.result _ _ (λ x k. carved_both h m l cell g.T.Theory.normal c.args.slots.now taken piece c.in-Some.field-0 c.args.out.now c.carve.new.out c.carve-in-Some.new.out halves c.in_ok-carve-in-Some.ensures k) c.carve-in-Some.ensures
