use Rattle.std.proofs.Common.{sym, ap, ◌∙◌, subst}
use Rattle.std.proofs.lemmas.Bool.{and_from}
use Rattle.std.proofs.lemmas.Result.{IfOk-weaker}
use Rattle.std.specs.List.{AllByRecursion}
use Rattle.ded_model.specs.Cell.{conj_holds}
use Rattle.ded_theory.proofs.Conjunctions.{conj_holds-append}
use Rattle.ded_genrel.proofs.Items.{all-append}
use Rattle.ded_eval.proofs.finding.with_atoms.Goals as goal

pub returns-clause-holds : goal.returns-clause-holds
returns-clause-holds g c = IfOk-weaker c.both_conjs.result _ _ (λ v k p w x. ap (λ atoms. conj_holds g.T.Theory.holds atoms p) k ∙ conj_holds-append g.T.Theory.holds c.args.window.now c.args.conj.now p ∙ and_from _ _ w x) c.both_conjs.ensures

pub returns-clause-normal : goal.returns-clause-normal
returns-clause-normal g c = IfOk-weaker c.both_conjs.result _ _ (λ v k. subst (AllByRecursion g.T.Theory.normal) (sym k) (all-append g.T.Theory.normal c.args.window.now c.args.conj.now c.requires.window c.requires.conj)) c.both_conjs.ensures
