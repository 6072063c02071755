use Rattle.std.proofs.Common.{Vec, Global, sym, ap, ◌∙◌, subst}
use Rattle.std.specs.Prelude.{IfSome}
use Rattle.std.specs.List.{AllByRecursion}
use Rattle.ded_model.specs.Constraint.{LinearConstraint}
use Rattle.ded_model.specs.Goal.{goal_form}
use Rattle.ded_model.specs.Lines.{atoms_lines}
use Rattle.ded_model.specs.PlanForm.{plan_form}
use Rattle.ded_database.specs.Changes.{before, after}
use Rattle.ded_database.specs.Lost.{lines_mention, binds, with_all, AreReadAmong}
use Rattle.ded_database.proofs.Beside.{adds_beside}
use Rattle.ded_database.proofs.LostViews.{over_heading, loses_only}
use Rattle.ded_database.proofs.lost.lost_lines.Goals as goal

pub read_lines-requires : goal.read_lines-requires
read_lines-requires c =
    over_heading (before c.args.renewal.now.change.now) (after c.args.renewal.now.change.now) c.args.renewal.now.change.now.name.now c.args.gone.now c.requires.delete c.in-Some-heading.heading.now c.in-Some-heading.ensures c.args.atoms.now c.requires.atoms

pub returns : goal.returns
returns c =
    let b = before c.args.renewal.now.change.now in
    let d = after c.args.renewal.now.change.now in
    let n = c.args.renewal.now.change.now.name.now in
    let m = c.args.renewal.now.mark.now in
    let k = c.requires.mark in
    let g = goal_form c.in-Some.goal.now in
    let ls = atoms_lines c.args.atoms.now in
    let all = c.deref.ensures.value ∙ c.in_ok-add_arguments.ensures ∙ ap (λ ts. with_all n ts g) c.new-all.ensures.items in
    loses_only b d n c.args.gone.now c.requires.delete m.name k.own k.columns k.formula (plan_form m.plan) k.entry k.planned (adds_beside m n _ (c.nothing_beside.ensures b m n k) c.requires.adds) c.args.atoms.now c.in-Some-2.lines.items g c.requires.atoms
    c.in-Some.ensures
    (subst (λ tss. AllByRecursion (AreReadAmong ls c.in-Some-2.lines.items) tss) all
    (subst (λ o. IfSome o (λ (v : Vec LinearConstraint Global). AllByRecursion (AreReadAmong ls v.items) c.deref.result.now)) c.in-Some-2.is c.in_ok-lines.ensures))
    (sym (c.binds.ensures ∙ ap (λ xs. binds (lines_mention xs) g) c.deref-2.ensures.value) ∙ c.if-binds.false)
