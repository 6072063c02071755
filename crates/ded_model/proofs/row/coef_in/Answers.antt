use Rattle.std.proofs.Common.{ap, sym, ◌∙◌, subst, get_or, drop-cons}
use Rattle.std.specs.Prelude.{pos}
use Rattle.std.specs.Int.{w128}
use Rattle.std.proofs.lemmas.Int.{to_z-of_z, fits_signed_from_abs}
use Rattle.ded_model.specs.declared.slot.Sort.TheVariants.{Rat}
use Rattle.ded_model.specs.Coefs.{AreCoefs, coef_at}
use Rattle.ded_model.proofs.CoefLemmas.{coef_at-here}
use Rattle.ded_model.proofs.row.coef_in.Goals as goal

pub returns-then-is_same-clause-value : goal.returns-then-is_same-clause-value
returns-then-is_same-clause-value c =
    let here = get_or c.args.list.now c.loop-entry_slot.entry_slot-index (record { number = 0; sort = Rat }, pos 0) in
    let split = drop-cons c.args.list.now c.loop-entry_slot.entry_slot-index (record { number = 0; sort = Rat }, pos 0) c.loop-entry_slot-test.true in
    let kept = subst AreCoefs split c.loop-entry_slot.invariant.kept in
    let same = sym c.is_same.ensures ∙ c.if-is_same.true in
    to_z-of_z w128 here.1 (fits_signed_from_abs w128 here.1 kept.1)
    ∙ sym (coef_at-here c.args.slot here _ same kept.3)
    ∙ ap (λ cs. coef_at cs c.args.slot) (sym split)
    ∙ sym c.loop-entry_slot.invariant.value
