use Rattle.std.proofs.Common.{◌≡◌, true, ◌+◌, ◌∙◌, ap, sym, subst, take, Err}
use Rattle.std.specs.List.{AllByRecursion}
use Rattle.std.proofs.lemmas.Result.{err_from_is_err_and}
use Rattle.ded_model.specs.declared.memory.Refused.TheVariants.{Wide}
use Rattle.ded_model.specs.Lines.{clash_at}
use Rattle.ded_theory.specs.Conjunctions.{conj_lines}
use Rattle.ded_genrel.specs.Lists.{conjs_of, conjs_clash}
use Rattle.ded_genrel.proofs.Items.{conjs_to, normal-at, conjs-any-at}
use Rattle.ded_genrel.proofs.Projected.{projection_dropped_more, projection_kept_more}
use Rattle.ded_genrel.proofs.list.GenRel.project.Goals as goal
use Rattle.ded_genrel.proofs.list.GenRel.project.Goals.{in-Conj+in_ok-push, in_default}

pub eliminate-requires : goal.eliminate-requires
eliminate-requires g c = record {
  normal = subst (AllByRecursion g.T.Theory.normal) (sym c.deref.ensures.value) (normal-at g.T.Theory.normal c.list-conj-items.result.now c.loop-conj.conj-index c.conj-item.result c.loop-conj-test.true c.conj-item.is c.list-conj-items.ensures.normal);
}

pub returns-in_err-atoms-clause-never_wide : goal.returns-in_err-atoms-clause-never_wide
returns-in_err-atoms-clause-never_wide g c = λ d e.
    let p = err_from_is_err_and c.from_residual.result c.from_residual.ensures.1 in
    let is : c.in_err-atoms.field-0.0 ≡ Wide = cc (p.1, p.2, e) in
    c.in_err-atoms.ensures.never_wide d (ap Err is)

pub returns-in_err-atoms-clause-wide : goal.returns-in_err-atoms-clause-wide
returns-in_err-atoms-clause-wide g c = λ e.
    let p = err_from_is_err_and c.from_residual.result c.from_residual.ensures.1 in
    let is : c.in_err-atoms.field-0.0 ≡ Wide = cc (p.1, p.2, e) in
    ap (conjs_clash g.T.Theory.lines c.args.slot) (sym c.list-conj-items.ensures.list)
    ∙ conjs-any-at (λ xs. clash_at c.args.slot (conj_lines g.T.Theory.lines xs)) c.list-conj-items.result.now c.loop-conj.conj-index c.conj-item.result c.loop-conj-test.true c.conj-item.is
    (subst (λ xs. clash_at c.args.slot (conj_lines g.T.Theory.lines xs) ≡ true) c.deref.ensures.value (c.in_err-atoms.ensures.wide (ap Err is)))

pub loop-conj-preserved : goal.loop-conj-preserved
loop-conj-preserved g c =
    let next = conjs_to c.list-conj-items.result.now c.loop-conj.conj-index c.conj-item.result c.loop-conj-test.true c.conj-item.is in
    let e = c.in_ok-atoms.ensures in
    elim c.match-branch-2.branch [
      | in-Conj+in_ok-push w ↦ projection_kept_more g.T.Theory.holds g.T.Theory.mentions g.T.Theory.lines g.T.Theory.normal (conjs_of (take c.loop-conj.conj-index c.list-conj-items.result.now)) (conjs_of (take (c.loop-conj.conj-index + 1) c.list-conj-items.result.now))
          c.conj-item.result.items c.deref.result.now c.args.slot c.loop-conj.out c.match-branch-2.out w.in-Conj.atoms c.in_ok-atoms.field-0 next c.deref.ensures.value (w.out-is ∙ w.in_ok-push.ensures.pushed) w.in-Conj.is c.loop-conj.invariant
          (record { holds = e.holds; normal = e.normal; slots = e.slots; lines = e.lines })
      | in_default w ↦ projection_dropped_more g.T.Theory.holds g.T.Theory.mentions g.T.Theory.lines g.T.Theory.normal (conjs_of (take c.loop-conj.conj-index c.list-conj-items.result.now)) (conjs_of (take (c.loop-conj.conj-index + 1) c.list-conj-items.result.now))
          c.conj-item.result.items c.deref.result.now c.args.slot c.loop-conj.out c.match-branch-2.out c.in_ok-atoms.field-0 next c.deref.ensures.value w.out-is w.in_default.is c.loop-conj.invariant
          (record { holds = e.holds; normal = e.normal; slots = e.slots; lines = e.lines })
    ]
