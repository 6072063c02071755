use Rattle.std.proofs.Common.{◌+◌, ◌-◌, ◌^◌, ◌∙◌, length, leb, min, ap, take}
use Rattle.ded_genrel.specs.Lists.{conjs_of}
use Rattle.ded_genrel.proofs.Items.{conjs_to, conjs_done}
use Rattle.ded_complement.specs.Pieces.{all_atoms}
use Rattle.ded_join.proofs.Few.{counted_more, small_count}
use Rattle.ded_join.proofs.outside.is_small.Goals as goal

pub loop-conj-preserved : goal.loop-conj-preserved
loop-conj-preserved g c =
    let done = conjs_of (take c.loop-conj.conj-index c.list-conj-items.result.now) in
    counted_more done (conjs_of (take (c.loop-conj.conj-index + 1) c.list-conj-items.result.now)) c.conj-item.result.items c.loop-conj.atoms c.saturating_add-atoms.result
    (conjs_to c.list-conj-items.result.now c.loop-conj.conj-index c.conj-item.result c.loop-conj-test.true c.conj-item.is) c.loop-conj.invariant
    (c.saturating_add-atoms.ensures ∙ ap (λ n. min (c.loop-conj.atoms + n) (2 ^ 64 - 1)) (c.len.ensures ∙ c.conj-item.result.ok.0))

pub returns : goal.returns
returns g c =
    let all = conjs_done c.list-conj-items.result.now c.loop-conj.conj-index c.loop-conj-test.false ∙ c.list-conj-items.ensures.list in
    ap (λ n. leb n 32) c.loop-conj.invariant ∙ small_count (length (all_atoms (conjs_of (take c.loop-conj.conj-index c.list-conj-items.result.now)))) ∙ ap (λ cs. leb (length (all_atoms cs)) 32) all
