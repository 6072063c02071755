use Rattle.std.proofs.Common.{◌≡◌, true, subst}
use Rattle.ded_model.specs.declared.slot.Slot.{Slot}
use Rattle.ded_model.specs.declared.slot.Sort.TheVariants.{Text}
use Rattle.ded_model.specs.Point.{stands_in}
use Rattle.ded_eval.proofs.Attained.{theme_same}
use Rattle.ded_eval.proofs.attaining.is_theme_over.Goals as goal

pub returns-then-is_text_of : goal.returns-then-is_text_of
returns-then-is_text_of c = λ e p q h.
    let ss = c.args.slots.now in
    theme_same ss p q c.args.atom.now h
    (subst (λ (s : Slot). s.sort ≡ Text) c.first_slot.ensures (c.is_text_of.ensures.sort c.if-is_text_of.true))
    (subst (λ (s : Slot). stands_in ss s ≡ true) c.first_slot.ensures (c.is_text_of.ensures.stands c.if-is_text_of.true))
    (subst (λ (s : Slot). s.sort ≡ Text) c.last_slot.ensures (c.is_text_of-then-is_text_of.ensures.sort e))
    (subst (λ (s : Slot). stands_in ss s ≡ true) c.last_slot.ensures (c.is_text_of-then-is_text_of.ensures.stands e))
