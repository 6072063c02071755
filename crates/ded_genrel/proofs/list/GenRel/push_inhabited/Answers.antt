use Rattle.std.proofs.Common.{◌∷◌, [], ◌++◌, sym, subst}
use Rattle.std.proofs.lemmas.Result.{IfOk-weaker}
use Rattle.ded_model.specs.Cell.{conj_holds, HoldsNowhere}
use Rattle.ded_theory.specs.Verdicts.{IsVerdict}
use Rattle.ded_genrel.specs.Operations.{IsInhabitedPart}
use Rattle.ded_genrel.proofs.Inhabited.{inhabited_kept, inhabited_dropped, not_empty}
use Rattle.ded_genrel.proofs.list.GenRel.push_inhabited.Goals as goal

pub returns-in-Empty : goal.returns-in-Empty
returns-in-Empty g c conjs =
    inhabited_dropped g.T.Theory.holds g.T.Theory.mentions g.T.Theory.lines conjs c.args.self.now c.args.conj.items
    (subst (λ xs. HoldsNowhere (conj_holds g.T.Theory.holds xs)) c.deref.ensures.value (subst (IsVerdict g.T.Theory.holds g.T.Theory.mentions g.T.Theory.lines c.deref.result.now) c.in-Empty.is c.in_ok-refute.ensures.verdict))

pub returns-in_default : goal.returns-in_default
returns-in_default g c = IfOk-weaker c.push.result _ _ (λ _ e conjs k.
    subst (IsInhabitedPart g.T.Theory.holds g.T.Theory.mentions g.T.Theory.lines (conjs ++ c.args.conj.items ∷ [])) (sym e)
    (inhabited_kept g.T.Theory.holds g.T.Theory.mentions g.T.Theory.lines conjs c.args.self.now c.args.conj.items
    (not_empty g.T.Theory.holds g.T.Theory.mentions g.T.Theory.lines c.args.conj.items c.in_ok-refute.field-0 c.in_default.not-Empty
    (subst (λ xs. IsVerdict g.T.Theory.holds g.T.Theory.mentions g.T.Theory.lines xs c.in_ok-refute.field-0) c.deref.ensures.value c.in_ok-refute.ensures.verdict)) k)) c.push.ensures.pushed
