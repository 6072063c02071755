use Rattle.std.proofs.Common.{◌≡◌, sym, ap, ◌∙◌, rules, true≢false}
use Rattle.std.specs.Prelude.{Err}
use Rattle.ded_model.specs.declared.fault.ParseFault.TheVariants.{NotRead}
use Rattle.ded_model.specs.declared.fault.ParseFault.{ParseFault}
use Rattle.ded_run.proofs.Accepting.{accepted_parsed, parsed_accepted, no_limit, no_size}
use Rattle.ded_run.proofs.words.options_in.Goals as goal

pub returns-then-has_dashes-clause-bad : goal.returns-then-has_dashes-clause-bad
returns-then-has_dashes-clause-bad c = λ is options a.
    absurd (true≢false (sym c.if-has_dashes.true ∙ c.has_dashes.ensures ∙ (accepted_parsed _ options a).0))

pub returns-in_err-values-clause-bad : goal.returns-in_err-values-clause-bad
returns-in_err-values-clause-bad c = λ is options a.
    let same : c.in_err-values.field-0.0 ≡ NotRead = search rules in
    c.in_err-values.ensures.bad (ap (λ (e : ParseFault). Err e) same) (accepted_parsed _ options a).1

pub returns-in_default-clause-bad : goal.returns-in_default-clause-bad
returns-in_default-clause-bad c = λ is. no_limit _ _ c.in_ok-values.ensures.limit c.in_default.ensures

pub returns-in_default-size_of-clause-bad : goal.returns-in_default-size_of-clause-bad
returns-in_default-size_of-clause-bad c = λ is. no_size _ _ c.in_ok-values.ensures.size c.in_default-size_of.ensures

pub returns-clause-accepted : goal.returns-clause-accepted
returns-clause-accepted c =
    parsed_accepted _ _ _ _ _ (sym c.has_dashes.ensures ∙ c.if-has_dashes.false) c.in_ok-values.ensures.none c.in_ok-values.ensures.limit c.in_ok-values.ensures.size c.in-Some.ensures c.in-Some-size_of.ensures
