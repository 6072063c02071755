use Rattle.std.proofs.Common.{ap, sym, ◌∙◌, subst}
use Rattle.ded_theme.specs.Sources.{is_at}
use Rattle.ded_theme.specs.Replacing.{IsPartner}
use Rattle.ded_theme.proofs.Pinning.{partner_left, partner_right, mentions_neither}
use Rattle.ded_theme.proofs.elimination.partner.Goals as goal

pub returns-then-is_slot : goal.returns-then-is_slot
returns-then-is_slot c =
    let e = c.comparison_of-comparison.ensures in
    let s = c.args.slot in
    subst (λ w. IsPartner s w c.args.atom.now) (sym e.right)
    (partner_right s c.args.atom.now c.requires (sym e.equal ∙ c.if-not-comparison.false) (ap (is_at s) (sym e.left) ∙ sym c.is_slot.ensures ∙ c.if-is_slot.true))

pub returns-then-is_slot-2 : goal.returns-then-is_slot-2
returns-then-is_slot-2 c =
    let e = c.comparison_of-comparison.ensures in
    let s = c.args.slot in
    subst (λ w. IsPartner s w c.args.atom.now) (sym e.left)
    (partner_left s c.args.atom.now c.requires (sym e.equal ∙ c.if-not-comparison.false)
    (ap (is_at s) (sym e.left) ∙ sym c.is_slot.ensures ∙ c.if-is_slot.false)
    (ap (is_at s) (sym e.right) ∙ sym c.is_slot-else-is_slot.ensures ∙ c.if-is_slot-2.true))

pub returns-else-is_slot-2 : goal.returns-else-is_slot-2
returns-else-is_slot-2 c =
    let e = c.comparison_of-comparison.ensures in
    let s = c.args.slot in
    λ m. absurd (mentions_neither c.args.atom.now s
    (ap (is_at s) (sym e.left) ∙ sym c.is_slot.ensures ∙ c.if-is_slot.false)
    (ap (is_at s) (sym e.right) ∙ sym c.is_slot-else-is_slot.ensures ∙ c.if-is_slot-2.false) m)
