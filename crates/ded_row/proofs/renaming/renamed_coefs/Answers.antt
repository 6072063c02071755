use Rattle.std.proofs.Common.{◌≡◌, subst, sym, ap, ap₂, ◌∙◌, [], drop, ◌+◌}
use Rattle.std.proofs.Math.ListN.{drop_of_length-le}
use Rattle.ded_num.specs.Length.{IsShort}
use Rattle.ded_model.specs.Constraint.{LinearConstraint}
use Rattle.ded_model.specs.Coefs.{AreCoefs, with_coef}
use Rattle.ded_model.specs.Row.{row_mentions}
use Rattle.ded_model.specs.Renaming.{renamed_onto, KeepsSorts}
use Rattle.ded_model.proofs.CoefLists.{drop-kept}
use Rattle.ded_row.proofs.FirstSlots.{entry-in_code, split}
use Rattle.ded_row.proofs.Targets.{target_rational, onto_step}
use Rattle.ded_row.proofs.renaming.renamed_coefs.Goals as goal

pub put-requires-clause-rational : goal.put-requires-clause-rational
put-requires-clause-rational c =
    let xs = c.list-slot-items.result.now in
    let r : LinearConstraint = record { coefs = c.row.inside.coefs; constant = c.row.inside.constant; op = c.row.inside.op } in
    let kept = subst AreCoefs (sym c.list-slot-items.ensures.value) c.list-slot-items.ensures.coefs in
    ap (λ s. s.sort) c.renamed.ensures ∙ target_rational c.args.map.now r xs c.loop-slot.slot-index (subst (λ q. KeepsSorts c.args.map.now (row_mentions q)) (sym c.row.view_is) c.requires.sorts) c.list-slot-items.ensures.value kept c.loop-slot-test.true

pub put-requires-clause-short : goal.put-requires-clause-short
put-requires-clause-short c =
    let xs = c.list-slot-items.result.now in
    let kept = subst AreCoefs (sym c.list-slot-items.ensures.value) c.list-slot-items.ensures.coefs in
    subst IsShort (sym (entry-in_code xs c.loop-slot.slot-index kept c.loop-slot-test.true)) (subst AreCoefs (split xs c.loop-slot.slot-index c.loop-slot-test.true) (drop-kept xs c.loop-slot.slot-index kept)).1

pub loop-slot-preserved : goal.loop-slot-preserved
loop-slot-preserved c =
    let xs = c.list-slot-items.result.now in
    let i = c.loop-slot.slot-index in
    let kept = subst AreCoefs (sym c.list-slot-items.ensures.value) c.list-slot-items.ensures.coefs in
    ap (λ out. renamed_onto c.args.map.now out (drop (i + 1) xs))
    (c.in_ok-put.ensures.ok ∙ ap₂ (λ s z. with_coef s z c.loop-slot.coefs) c.renamed.ensures (entry-in_code xs i kept c.loop-slot-test.true))
    ∙ onto_step c.args.map.now c.loop-slot.coefs xs i c.loop-slot-test.true ∙ c.loop-slot.invariant

pub returns-clause-value : goal.returns-clause-value
returns-clause-value c =
    let end : drop c.loop-slot.slot-index c.list-slot-items.result.now ≡ [] = drop_of_length-le c.list-slot-items.result.now c.loop-slot-test.false in
    sym (ap (renamed_onto c.args.map.now c.loop-slot.coefs) end) ∙ c.loop-slot.invariant
    ∙ ap (renamed_onto c.args.map.now []) (c.list-slot-items.ensures.value ∙ ap (λ (r : LinearConstraint). r.coefs) c.row.view_is)
