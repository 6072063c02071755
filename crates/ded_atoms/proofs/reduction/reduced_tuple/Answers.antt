use Rattle.std.proofs.Common.{refl, ◌∙◌, subst}
use Rattle.ded_model.specs.Normal.{IsNormalTuple}
use Rattle.ded_model.proofs.Sublists.{sublist_refl}
use Rattle.ded_atoms.specs.Own.{HaveOwnSlots}
use Rattle.ded_atoms.proofs.OwnSlots.{own_reduced}
use Rattle.ded_atoms.proofs.reduction.reduced_tuple.Goals as goal

pub returns-then-have_own_slots : goal.returns-then-have_own_slots
returns-then-have_own_slots c =
    let normal = subst IsNormalTuple c.tuple.view_is c.tuple.invariant in
    let own = own_reduced c.args.tuple normal (subst HaveOwnSlots (c.deref.ensures.value ∙ c.tuple.view_is) (c.have_own_slots.ensures c.if-have_own_slots.true)) in (
      λ p i. refl,
      sublist_refl _ c.args.tuple,
      normal,
      λ narrow. own,
      λ orders. own,
    )
