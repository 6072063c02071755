use Rattle.std.proofs.Common.{Vec, Global, ◌<◌, length, get_or, sym, ap, ◌∙◌, subst}
use Rattle.std.specs.Option.{option_map}
use Rattle.ded_model.specs.Lines.{IsSubset, atoms_lines}
use Rattle.ded_model.specs.Measure.{measures}
use Rattle.ded_packed.specs.declared.lent.Lent.{Lent}
use Rattle.ded_packed.specs.Lent.{lent}
use Rattle.ded_database.specs.Changes.{before, after}
use Rattle.ded_database.specs.Lost.{AreLost, AreLeftWithout}
use Rattle.ded_database.proofs.LostViews.{all_lost, lost_without, lines_there}
use Rattle.ded_database.proofs.unshared.unshared.Goals as goal

pub returns-in_default : goal.returns-in_default
returns-in_default c =
    subst (AreLost (before c.args.change.now) (after c.args.change.now) c.args.change.now.name.now c.args.gone.now) (sym (c.left.view_is ∙ c.in_ok-left.ensures))
    (all_lost (before c.args.change.now) (after c.args.change.now) c.args.change.now.name.now c.args.gone.now c.requires)

pub loop-tuple-init : goal.loop-tuple-init
loop-tuple-init c =
    subst (AreLost (before c.args.change.now) (after c.args.change.now) c.args.change.now.name.now c.args.gone.now) (sym (c.left.view_is ∙ c.in_ok-left.ensures))
    (all_lost (before c.args.change.now) (after c.args.change.now) c.args.change.now.name.now c.args.gone.now c.requires)

pub loop-tuple-preserved : goal.loop-tuple-preserved
loop-tuple-preserved c =
    let b = before c.args.change.now in
    let d = after c.args.change.now in
    let n = c.args.change.now.name.now in
    let us = c.in-Some.tuples.items in
    let same = c.deref-tuple-items.ensures.value in
    let i = c.loop-tuple.tuple-index in
    let given = sym (ap (option_map (λ (v : Vec Lent Global). lent v.items)) c.in-Some.is) ∙ c.in_ok-tuples.ensures in
    lost_without b d n c.args.gone.now c.requires c.in_ok-copy.field-0 c.loop-tuple.left.items c.in_ok-left-2.left.items
    (subst (λ t. IsSubset (atoms_lines t) (measures d n).lines) (sym c.in_ok-copy.ensures)
    (lines_there b d n c.args.gone.now c.requires us i c.tuple-item.result given (subst (λ ts. i < length ts) same c.loop-tuple-test.true) (c.tuple-item.is ∙ ap (λ ts. get_or ts i c.tuple-item.result) same)))
    (subst (λ old. AreLeftWithout c.in_ok-copy.field-0 old c.in_ok-left-2.left.items) c.deref.ensures.value c.in_ok-left-2.ensures) c.loop-tuple.invariant
