use Rattle.std.proofs.Common.{take, drop, map}
use Rattle.ded_model.specs.Cell.{conj_holds}
use Rattle.ded_model.specs.Logic.{some_of, AllAtomsOf}
use Rattle.ded_model.specs.PlanForm.{plan_form, plan_forms}
use Rattle.ded_algebra.specs.Evaluation.{IsScannable}
use Rattle.ded_genrel.specs.Lists.{conjs_of}
use Rattle.ded_eval.specs.Finding.{IsFoundIn, IsFoundWith}
use Rattle.ded_eval.proofs.Shown.{IsFoundFrom}
use Rattle.ded_eval.proofs.finding.+few.Given as goal

abbrev pub invariant-few_joined-loop-part : goal.invariant-few_joined-loop-part
invariant-few_joined-loop-part g l =
    IsFoundFrom g.T.Theory.holds (g.R.Relations.catalogue l.relations) (conj_holds g.T.Theory.holds l.window) (map plan_form l.part-items) (map plan_form (take l.part-index l.part-items)) l.list
    × AllAtomsOf (IsScannable g.T.OfTuples.reads (g.R.Relations.catalogue l.relations)) (plan_forms (drop l.part-index l.part-items))

abbrev pub invariant-few_with-loop-conj : goal.invariant-few_with-loop-conj
invariant-few_with-loop-conj g l =
    IsFoundWith g.T.Theory.holds (g.R.Relations.catalogue l.relations) (conj_holds g.T.Theory.holds l.window) (plan_form l.plan) (conjs_of l.conj-items) l.joined

abbrev pub invariant-few_united-loop-part : goal.invariant-few_united-loop-part
invariant-few_united-loop-part g l =
    IsFoundIn g.T.Theory.holds (g.R.Relations.catalogue l.relations) (conj_holds g.T.Theory.holds l.window) (some_of (plan_forms l.part-items)) l.list
    × AllAtomsOf (IsScannable g.T.OfTuples.reads (g.R.Relations.catalogue l.relations)) (plan_forms (drop l.part-index l.part-items))
