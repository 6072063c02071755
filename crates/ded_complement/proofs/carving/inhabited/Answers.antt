use Rattle.std.proofs.Common.{[], ◌∷◌, ◌++◌, ◌∙◌, ap, sym, subst}
use Rattle.ded_complement.specs.Boxed.{conjs_in, AreBoxed}
use Rattle.ded_complement.proofs.Cutting.{kept_more}
use Rattle.ded_complement.proofs.carving.inhabited.Goals as goal

pub returns-in_ok-push-in_default : goal.returns-in_ok-push-in_default
returns-in_ok-push-in_default g c =
    let alone = c.in_ok-push-in_default.ensures.items ∙ ap (λ bs. bs ++ c.args.piece ∷ []) c.new-pieces.ensures.items in
    record {
      more = kept_more g.T.Theory.holds g.T.Theory.mentions g.T.Theory.lines g.T.Theory.cell c.args.piece.conj.items c.deref.result.now [] (conjs_in c.push.new.self.items) c.in_ok-refute.field-0 c.deref.ensures.value c.in_default.not-Empty
          c.in_ok-refute.ensures.verdict (ap conjs_in alone);
      boxed = λ ss b. subst (AreBoxed g.T.Theory.holds g.T.Theory.normal ss) (sym alone) (b, tt);
    }
