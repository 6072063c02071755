use Rattle.std.proofs.Common.{◌<◌, length, Some, sym, ap, ◌∙◌, subst}
use Rattle.std.specs.Prelude.{remove, slice_get}
use Rattle.std.proofs.lemmas.Option.{slice_get-get_or}
use Rattle.ded_algebra.specs.Given.{without_name, AreNamedApart}
use Rattle.ded_algebra.proofs.Taken.{apart-without, none_under, all_left}
use Rattle.ded_algebra.proofs.given.Given.take.Goals as goal

pub invariant_of-self : goal.invariant_of-self
invariant_of-self c =
    subst AreNamedApart (ap (without_name c.args.name.now) c.self.view_is ∙ c.in-Some.ensures.2 ∙ ap (λ rs. remove rs c.in-Some.place) (sym c.self.view_is) ∙ sym c.remove.ensures.items)
    (apart-without c.args.name.now c.self.inside.relations.items c.self.invariant)

pub returns-in-Some-clause-taken : goal.returns-in-Some-clause-taken
returns-in-Some-clause-taken c =
    ap Some c.remove.ensures.value
    ∙ sym (slice_get-get_or c.self.inside.relations.items c.in-Some.place c.remove.result (subst (λ rs. c.in-Some.place < length rs) (sym c.self.view_is) c.in-Some.ensures.0))
    ∙ ap (λ rs. slice_get rs c.in-Some.place) c.self.view_is
    ∙ sym c.in-Some.ensures.1

pub returns-in-None-clause-taken : goal.returns-in-None-clause-taken
returns-in-None-clause-taken c = sym (none_under c.args.name.now c.args.self.now c.in-None.ensures)

pub returns-in-None-clause-left : goal.returns-in-None-clause-left
returns-in-None-clause-left c = sym (all_left c.args.name.now c.args.self.now c.in-None.ensures)
