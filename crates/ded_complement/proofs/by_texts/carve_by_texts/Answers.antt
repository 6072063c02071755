use Rattle.std.proofs.Common.{◌∙◌, ◌++◌, ap, subst}
use Rattle.std.proofs.lemmas.Result.{IfOk-weaker}
use Rattle.ded_complement.specs.Cuts.{IsCutFrom}
use Rattle.ded_complement.proofs.Cutting.{taken_all}
use Rattle.ded_complement.proofs.TextCuts.{cut_none, rest_part, rest_carved}
use Rattle.ded_complement.proofs.by_texts.carve_by_texts.Goals as goal

pub loop-keyed-init : goal.loop-keyed-init
loop-keyed-init g c =
    cut_none g.T.Theory.holds g.T.Theory.mentions g.T.Theory.lines g.T.Theory.cell g.T.Theory.normal c.args.near.now c.in_ok-copy_conj.field-0 c.new.result c.args.out.now (c.in_ok-copy_conj.ensures ∙ c.deref.ensures.value) c.new.ensures.items c.requires.part.boxed.normal

pub carve-requires-clause-part : goal.carve-requires-clause-part
carve-requires-clause-part g c =
    let near = c.args.near.now in
    let x = subst (λ es. IsCutFrom g.T.Theory.holds g.T.Theory.mentions g.T.Theory.lines g.T.Theory.cell g.T.Theory.normal near es c.args.out.now c.loop-keyed.out c.loop-keyed.cut) (taken_all c.deref-keyed-items.result.now c.loop-keyed.keyed-index c.loop-keyed-test.false ∙ c.deref-keyed-items.ensures.value) c.loop-keyed.invariant in
    rest_part g.T.Theory.holds g.T.Theory.mentions g.T.Theory.lines g.T.Theory.cell g.T.Theory.normal near c.requires c.args.out.now c.loop-keyed.out c.loop-keyed.cut x c.deref-3.result.now c.in_ok-part.part
    (c.deref-3.ensures.value ∙ c.in_ok-extend_from_slice.ensures.items ∙ ap (λ ys. c.loop-keyed.cut.left.items ++ ys) c.deref-2.ensures.value) c.in_ok-part.ensures.same c.in_ok-part.ensures.boxed c.in_ok-part.ensures.places c.in_ok-part.ensures.near

pub returns : goal.returns
returns g c =
    let near = c.args.near.now in
    let x = subst (λ es. IsCutFrom g.T.Theory.holds g.T.Theory.mentions g.T.Theory.lines g.T.Theory.cell g.T.Theory.normal near es c.args.out.now c.loop-keyed.out c.loop-keyed.cut) (taken_all c.deref-keyed-items.result.now c.loop-keyed.keyed-index c.loop-keyed-test.false ∙ c.deref-keyed-items.ensures.value) c.loop-keyed.invariant in
    IfOk-weaker c.carve.result _ _ (λ r k. rest_carved g.T.Theory.holds g.T.Theory.mentions g.T.Theory.lines g.T.Theory.cell g.T.Theory.normal near c.requires c.args.out.now c.loop-keyed.out c.loop-keyed.cut x c.carve.new.out c.in_ok-part.part.piece.conj.items c.in_ok-part.ensures.same k) c.carve.ensures
