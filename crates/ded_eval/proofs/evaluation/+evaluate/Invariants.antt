use Rattle.std.proofs.Common.{take, drop, map}
use Rattle.ded_model.specs.Logic.{negation, some_of, logics, AllAtomsOf}
use Rattle.ded_model.specs.PlanForm.{plan_form, plan_forms}
use Rattle.ded_genrel.specs.Rounds.{AreRational}
use Rattle.ded_algebra.specs.Evaluation.{IsScannable}
use Rattle.ded_genrel.specs.Lists.{conjs_of}
use Rattle.ded_eval.specs.Joining.{begun, IsJoinedWith}
use Rattle.ded_model.specs.Cell.{conj_holds}
use Rattle.ded_eval.proofs.Evaluated.{IsListFor}
use Rattle.ded_eval.proofs.InTurn.{in_turn}
use Rattle.ded_eval.proofs.Joined.{IsJoined}
use Rattle.ded_eval.proofs.evaluation.+evaluate.Given as goal

abbrev pub invariant-joined-loop-i : goal.invariant-joined-loop-i
invariant-joined-loop-i g l =
    IsJoined g.T.Theory.holds g.T.Theory.mentions g.T.Theory.lines (conj_holds g.T.Theory.holds l.window) (g.R.Relations.catalogue l.relations) (map plan_form l.parts.items) (map plan_form (take l.i (in_turn l.front l.parts.items))) (begun l.list)
    × AreRational l.slots.items

abbrev pub invariant-united-loop-part : goal.invariant-united-loop-part
invariant-united-loop-part g l =
    IsListFor g.T.Theory.holds g.T.Theory.mentions g.T.Theory.lines (conj_holds g.T.Theory.holds l.window) (g.R.Relations.catalogue l.relations) (some_of (logics (map plan_form (take l.part-index l.part-items)))) l.list
    × AllAtomsOf (IsScannable g.T.OfTuples.reads (g.R.Relations.catalogue l.relations)) (plan_forms (drop l.part-index l.part-items))

abbrev pub invariant-probed-loop-conj : goal.invariant-probed-loop-conj
invariant-probed-loop-conj g l =
    IsJoinedWith g.T.Theory.holds g.T.Theory.mentions g.T.Theory.lines (g.R.Relations.catalogue l.relations) (conj_holds g.T.Theory.holds l.step.within.now) (plan_form l.part) (conjs_of (take l.conj-index l.conj-items)) l.joined

abbrev pub invariant-left_of-loop-conj : goal.invariant-left_of-loop-conj
invariant-left_of-loop-conj g l =
    IsJoinedWith g.T.Theory.holds g.T.Theory.mentions g.T.Theory.lines (g.R.Relations.catalogue l.relations) (conj_holds g.T.Theory.holds l.window) (negation (plan_form l.taken)) (conjs_of (take l.conj-index l.conj-items)) l.left
