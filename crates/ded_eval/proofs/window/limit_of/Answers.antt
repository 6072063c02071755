use Rattle.std.proofs.Common.{◌≡◌, ◌++◌, ◌∷◌, [], refl, sym, ap, ◌∙◌, subst, take, get_or}
use Rattle.std.specs.Prelude.{ℤ, pos}
use Rattle.std.proofs.lemmas.List.{get_or_default}
use Rattle.ded_model.specs.declared.slot.Slot.{Slot}
use Rattle.ded_model.specs.declared.slot.Sort.TheVariants.{Rat}
use Rattle.ded_model.specs.Coefs.{AreCoefs}
use Rattle.ded_genrel.proofs.Items.{done_to}
use Rattle.ded_eval.specs.Within.{AreTermsOf}
use Rattle.ded_eval.proofs.Placed.{coef_sort, terms_push}
use Rattle.ded_eval.proofs.window.limit_of.Goals as goal

pub loop-coef-preserved : goal.loop-coef-preserved
loop-coef-preserved c =
    let coefs = c.list-coefs.result.now in
    let i = c.loop-coef.coef-index in
    let x : Slot × ℤ = get_or coefs i (record { number = 0; sort = Rat }, pos 0) in
    let is : x ≡ get_or coefs i x = get_or_default coefs i _ _ c.loop-coef-test.true in
    subst (λ cs. AreTermsOf c.args.slots.now cs c.push.new.self.items) (sym (done_to coefs i x c.loop-coef-test.true is))
    (subst (AreTermsOf c.args.slots.now (take i coefs ++ x ∷ [])) (sym (c.in_ok-push-in-Some.ensures.items ∙ ap (λ t. c.loop-coef.terms.items ++ t ∷ []) c.term.ensures))
    (terms_push c.args.slots.now (take i coefs) c.loop-coef.terms.items x (c.in-Some.place, x.1)
    (coef_sort coefs i x c.loop-coef-test.true is (subst AreCoefs (sym c.list-coefs.ensures.value) c.list-coefs.ensures.coefs)) c.in-Some.ensures refl c.loop-coef.invariant))
