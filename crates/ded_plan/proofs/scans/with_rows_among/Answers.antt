use Rattle.std.proofs.Common.{rules, ◌≡◌, ◌∙◌, ◌+◌, List, Vec, Global, IsTrue, IfOk, ap, drop, subst, sym}
use Rattle.std.proofs.lemmas.Result.{IfOk-weaker}
use Rattle.ded_model.specs.declared.plan.Plan.{Plan}
use Rattle.ded_model.specs.declared.plan.Plan.TheFolds.{fold-roll-Plan, fold_out-Plan}
use Rattle.ded_model.specs.declared.plan.Plan.TheViews.{the_lemmas}
use Rattle.ded_model.specs.Logic.{atom}
use Rattle.ded_model.specs.PlanForm.{rows, plan_form, plan_forms}
use Rattle.ded_model.specs.Point.{Point}
use Rattle.ded_model.specs.Row.{Atom, tuple_holds}
use Rattle.ded_plan.specs.Scans.{RowsHold}
use Rattle.ded_plan.proofs.AddedScans.{next_of}
use Rattle.ded_plan.proofs.AtomsWithin.{WithRows, rows_none, rows_added, rows_passed}
use Rattle.ded_plan.proofs.scans.with_rows_among.Goals as goal
use Rattle.ded_plan.proofs.scans.with_rows_among.Goals.{in-Rows+in_ok-add_atoms-2, in_default}

pub loop-plan-init : goal.loop-plan-init
loop-plan-init c = rows_none c.args.tuple.now c.deref-plan-items.result.now c.new-atoms.result.items c.add_atoms.new.atoms.items c.new-atoms.ensures.items c.in_ok-add_atoms.ensures

pub loop-plan-preserved : goal.loop-plan-preserved
loop-plan-preserved c =
    let all = c.deref-plan-items.result.now in
    let next = next_of all c.loop-plan.plan-index c.plan-item.result c.loop-plan-test.true c.plan-item.is in
    elim c.match-plan.branch [
      | in-Rows+in_ok-add_atoms-2 w ↦
          let e : plan_form c.plan-item.result ≡ atom (rows w.in-Rows.rows) = search (rules, the_lemmas, fold-roll-Plan, fold_out-Plan) in
          subst (WithRows c.args.tuple.now all (drop (c.loop-plan.plan-index + 1) all)) (sym (ap (λ (v : Vec Atom Global). v.items) w.atoms-is))
          (rows_added c.args.tuple.now w.in-Rows.rows all (drop c.loop-plan.plan-index all) (drop (c.loop-plan.plan-index + 1) all) c.plan-item.result c.loop-plan.atoms.items w.add_atoms-in-Rows.new.atoms.items next e
          w.in_ok-add_atoms-2.ensures c.loop-plan.invariant)
      | in_default w ↦
          rows_passed c.args.tuple.now all (drop c.loop-plan.plan-index all) (drop (c.loop-plan.plan-index + 1) all) c.plan-item.result c.loop-plan.atoms.items c.match-plan.atoms.items next (ap (λ (v : Vec Atom Global). v.items) w.atoms-is)
          c.loop-plan.invariant
    ]

pub normal_tuple-requires : goal.normal_tuple-requires
normal_tuple-requires c = c.loop-plan.invariant.normal

pub returns : goal.returns
returns c =
    let P = λ (ps : List Plan) (t : List Atom). (p : Point) → IsTrue (tuple_holds c.args.tuple.now p) → RowsHold (plan_forms ps) p → IsTrue (tuple_holds t p) in
    subst (λ ps. IfOk c.normal_tuple.result (P ps)) c.deref-plan-items.ensures.value
    (IfOk-weaker c.normal_tuple.result (λ t. (p : Point) → tuple_holds t p ≡ tuple_holds c.loop-plan.atoms.items p) (P c.deref-plan-items.result.now)
    (λ t m p h k. m p ∙ (c.loop-plan.invariant.holds p h k).0) c.normal_tuple.ensures.holds)
