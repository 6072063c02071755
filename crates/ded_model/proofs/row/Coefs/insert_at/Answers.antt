use Rattle.std.proofs.Common.{◌≡◌, ◌≢◌, ◌≤◌, ap, sym, ◌∙◌, subst, length, SFits, insert}
use Rattle.std.specs.Prelude.{pos}
use Rattle.std.specs.Int.{w128}
use Rattle.std.proofs.Common.{of_z, to_z, lit<}
use Rattle.std.proofs.lemmas.Int.{to_z-of_z}
use Rattle.ded_model.specs.Coefs.{AreCoefs}
use Rattle.ded_model.proofs.CoefLemmas.{insert-place, absent-place, place-within, AreCoefs-with_coef}
use Rattle.ded_model.proofs.row.Coefs.insert_at.Goals as goal

pub insert-requires : goal.insert-requires
insert-requires c = (
  lit< tt,
  subst (λ cs. c.args.at ≤ length cs) (sym c.self.view_is)
      (subst (λ n. n ≤ length c.args.self.now) (sym c.requires.place) (place-within c.args.slot c.requires.rational c.args.self.now)),
)

pub returns-in_ok-insert-clause-ok : goal.returns-in_ok-insert-clause-ok
returns-in_ok-insert-clause-ok c =
    let fits : SFits w128 c.args.a = c.ranges.a in
    let kept : AreCoefs c.args.self.now = subst AreCoefs c.self.view_is c.self.invariant in
    let nonzero : c.args.a ≢ pos 0 = λ e. c.if-a-ne0.true (ap (of_z w128) e) in
    c.in_ok-insert.ensures.ok
    ∙ ap (λ z. insert c.self.inside.list.items c.args.at (c.args.slot, z)) (to_z-of_z w128 c.args.a fits)
    ∙ ap (λ cs. insert cs c.args.at (c.args.slot, c.args.a)) c.self.view_is
    ∙ ap (λ p. insert c.args.self.now p (c.args.slot, c.args.a)) c.requires.place
    ∙ insert-place c.args.slot c.requires.rational c.args.a nonzero c.args.self.now kept c.requires.absent

pub invariant_of-self : goal.invariant_of-self
invariant_of-self c =
    subst AreCoefs (sym (returns-in_ok-insert-clause-ok c))
    (AreCoefs-with_coef c.args.slot c.requires.rational c.args.a c.requires.short c.args.self.now (subst AreCoefs c.self.view_is c.self.invariant))

pub returns-else-a-ne0-clause-ok : goal.returns-else-a-ne0-clause-ok
returns-else-a-ne0-clause-ok c =
    let fits : SFits w128 c.args.a = c.ranges.a in
    let kept : AreCoefs c.args.self.now = subst AreCoefs c.self.view_is c.self.invariant in
    let zero : c.args.a ≡ pos 0 = sym (to_z-of_z w128 c.args.a fits) ∙ ap (to_z w128) c.if-a-ne0.false in
    absent-place c.args.slot c.requires.rational c.args.a zero c.args.self.now kept c.requires.absent
