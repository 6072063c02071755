use Rattle.std.proofs.Common.{◌∷◌, [], ◌++◌, ◌∙◌, ap, sym, subst}
use Rattle.std.proofs.lemmas.Result.{IfOk-weaker}
use Rattle.ded_model.specs.Cell.{conj_holds, HoldsNowhere}
use Rattle.ded_theory.specs.Verdicts.{IsVerdict}
use Rattle.ded_eval.specs.Inside.{IsInsidePart}
use Rattle.ded_eval.proofs.Inside.{inside_kept, inside_dropped}
use Rattle.ded_eval.proofs.across.push_inside.Goals as goal

pub returns-in-Empty : goal.returns-in-Empty
returns-in-Empty g c conjs k =
    let h = g.T.Theory.holds in
    let nowhere : HoldsNowhere (conj_holds h c.in_ok-both.both.items)
    = subst (λ xs. HoldsNowhere (conj_holds h xs)) c.deref-2.ensures.value (subst (IsVerdict h g.T.Theory.mentions g.T.Theory.lines c.deref-2.result.now) c.in-Empty.is c.in_ok-refute.ensures.verdict) in
    inside_dropped h g.T.Theory.mentions g.T.Theory.lines c.args.across.now conjs c.args.out.now c.args.conj.items
    (subst (λ xs. HoldsNowhere (conj_holds h xs)) (c.in_ok-both.ensures ∙ ap (λ xs. xs ++ c.args.across.now) c.deref.ensures.value) nowhere) k

pub returns-in_default : goal.returns-in_default
returns-in_default g c = IfOk-weaker c.push.result _ _ (λ _ e conjs k.
    subst (IsInsidePart g.T.Theory.holds g.T.Theory.mentions g.T.Theory.lines (conj_holds g.T.Theory.holds c.args.across.now) (conjs ++ c.args.conj.items ∷ [])) (sym e)
    (inside_kept g.T.Theory.holds g.T.Theory.mentions g.T.Theory.lines (conj_holds g.T.Theory.holds c.args.across.now) conjs c.args.out.now c.args.conj.items k)) c.push.ensures.pushed
