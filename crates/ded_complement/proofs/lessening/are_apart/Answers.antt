use Rattle.std.proofs.Common.{◌∙◌, ◌++◌, sym, subst, ap₂, true≢false}
use Rattle.ded_theory.specs.Verdicts.{IsVerdict}
use Rattle.ded_genrel.proofs.Apart.{apart_boxes}
use Rattle.ded_complement.proofs.Cutting.{refuted_apart}
use Rattle.ded_complement.proofs.lessening.are_apart.Goals as goal

pub returns-then-not-meets : goal.returns-then-not-meets
returns-then-not-meets g c = λ e ss r s. apart_boxes g.T.Theory.holds ss c.args.one.now.conj.items c.args.other.now.conj.items c.args.one.now.bounds c.args.other.now.bounds r s (λ x. true≢false (sym (c.meets.ensures.shared.1 x) ∙ c.if-not-meets.true))

pub returns-in-Empty : goal.returns-in-Empty
returns-in-Empty g c = λ e ss r s.
    let both = c.deref-3.ensures.value ∙ c.in_ok-shared.ensures ∙ ap₂ (λ xs ys. xs ++ ys) c.deref.ensures.value c.deref-2.ensures.value in
    refuted_apart g.T.Theory.holds g.T.Theory.mentions g.T.Theory.lines g.T.Theory.cell c.args.one.now.conj.items c.args.other.now.conj.items c.deref-3.result.now both
    (subst (IsVerdict g.T.Theory.holds g.T.Theory.mentions g.T.Theory.lines c.deref-3.result.now) c.in-Empty.is c.in_ok-refute.ensures.verdict)
