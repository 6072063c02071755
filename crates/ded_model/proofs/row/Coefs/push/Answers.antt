use Rattle.std.proofs.Common.{subst, sym, ap, ◌∙◌, SFits, ◌++◌, ◌∷◌, []}
use Rattle.std.specs.Int.{w128}
use Rattle.std.proofs.lemmas.Int.{to_z-of_z}
use Rattle.ded_model.specs.Coefs.{AreCoefs}
use Rattle.ded_model.proofs.CoefDivision.{AreCoefs-push}
use Rattle.ded_model.proofs.row.Coefs.push.Goals as goal

pub invariant_of-self-2 : goal.invariant_of-self-2
invariant_of-self-2 c =
    let fits : SFits w128 c.args.a = c.ranges.a in
    let kept : AreCoefs c.args.self.now = subst AreCoefs c.self.view_is c.self.invariant in
    subst AreCoefs
    (sym (c.in_ok-push.ensures.ok ∙ ap (λ z. c.self.inside.list.items ++ (c.args.slot, z) ∷ []) (to_z-of_z w128 c.args.a fits) ∙ ap (λ cs. cs ++ (c.args.slot, c.args.a) ∷ []) c.self.view_is))
    (AreCoefs-push c.args.self.now c.args.slot c.args.a kept c.requires.last c.requires.rational c.requires.short c.requires.nonzero)
