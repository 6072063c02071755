use Rattle.std.proofs.Common.{IfSome, ◌∙◌, inl, inr, ap, sym, subst}
use Rattle.ded_complement.specs.Boxed.{conjs_in}
use Rattle.ded_complement.specs.Parts.{conjs_at}
use Rattle.ded_complement.specs.Keys.{AreKeys}
use Rattle.ded_complement.proofs.keys.keyed.Goals as goal

pub loop-slot-preserved : goal.loop-slot-preserved
loop-slot-preserved g c =
    let h = g.T.Theory.holds in
    let taken = c.args.taken.now in
    elim c.better-best.ensures [
      | inl e ↦ subst (λ o. IfSome o (λ k. AreKeys h taken (conjs_in taken) k)) (sym e) c.loop-slot.invariant
      | inr e ↦ subst (λ o. IfSome o (λ k. AreKeys h taken (conjs_in taken) k)) (sym e) (subst (λ cs. AreKeys h taken cs c.in_ok-keys_at.field-0) (ap (conjs_at taken) c.deref.ensures.value ∙ c.in_ok-places.ensures.all) c.in_ok-keys_at.ensures)
    ]
