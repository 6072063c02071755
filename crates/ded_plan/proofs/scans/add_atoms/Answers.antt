use Rattle.std.proofs.Common.{◌+◌, ◌∙◌, ◌++◌, ◌∷◌, [], ap, drop, refl, subst, sym}
use Rattle.ded_model.specs.Normal.{IsNormalTuple}
use Rattle.ded_plan.proofs.AddedScans.{next_of}
use Rattle.ded_plan.proofs.AtomsWithin.{picked_none, picked_more, picked_all}
use Rattle.ded_plan.proofs.scans.add_atoms.Goals as goal

pub loop-atom-init : goal.loop-atom-init
loop-atom-init c = picked_none (λ a. Unit {0}) c.args.atoms.now.items c.deref-atom-items.result.now c.args.atoms.now.items refl (subst IsNormalTuple (sym c.deref-atom-items.ensures.value) c.tuple.invariant)

pub loop-atom-preserved : goal.loop-atom-preserved
loop-atom-preserved c =
    let all = c.deref-atom-items.result.now in
    picked_more (λ a. Unit {0}) c.args.atoms.now.items all (drop c.loop-atom.atom-index all) (drop (c.loop-atom.atom-index + 1) all) c.loop-atom.atoms.items c.push.new.self.items c.atom-item.result
    (next_of all c.loop-atom.atom-index c.atom-item.result c.loop-atom-test.true c.atom-item.is) (c.in_ok-push.ensures.items ∙ ap (λ a. c.loop-atom.atoms.items ++ a ∷ []) c.in_ok-copy.ensures) tt c.loop-atom.invariant

pub returns : goal.returns
returns c =
    let all = c.deref-atom-items.result.now in
    picked_all (λ a. Unit {0}) c.args.atoms.now.items all (drop c.loop-atom.atom-index all) c.loop-atom.atoms.items c.args.tuple.now (c.deref-atom-items.ensures.value ∙ c.tuple.view_is) c.loop-atom.invariant
