use Rattle.std.proofs.Common.{◌≡◌, refl, sym, ap, subst, rules, inl, inr}
use Rattle.std.specs.Prelude.{Err, IsSome, ℕ}
use Rattle.std.specs.declared.option.Option.{Option}
use Rattle.ded_model.specs.declared.fault.ParseFault.TheVariants.{NotRead}
use Rattle.ded_model.specs.declared.fault.ParseFault.{ParseFault}
use Rattle.ded_run.proofs.Accepting.{limit_low, limit_high, same_words}
use Rattle.ded_table.proofs.program.run.Goals as goal

pub returns-in-Err-NotRead-clause-bad_words : goal.returns-in-Err-NotRead-clause-bad_words
returns-in-Err-NotRead-clause-bad_words g c = λ is. inl (λ options a.
    let same : c.in-Err-NotRead.field-0 ≡ NotRead = search rules in
    c.in-Err-NotRead.ensures.bad (ap (λ (e : ParseFault). Err e) same) options (same_words _ _ _ _ (sym c.deref.ensures.value) a))

pub serve-requires-clause-low : goal.serve-requires-clause-low
serve-requires-clause-low g c = limit_low _ _ c.in-Ok.ensures.accepted

pub serve-requires-clause-high : goal.serve-requires-clause-high
serve-requires-clause-high g c = limit_high _ _ c.in-Ok.ensures.accepted

pub returns-in-Some-clause-bad_words : goal.returns-in-Some-clause-bad_words
returns-in-Some-clause-bad_words g c = λ is. inr (_, same_words _ _ _ _ c.deref.ensures.value c.in-Ok.ensures.accepted, subst (λ (o : Option ℕ). IsSome o) (sym c.in-Some.is) refl)

pub returns-in-None-clause-done : goal.returns-in-None-clause-done
returns-in-None-clause-done g c = λ is. (_, same_words _ _ _ _ c.deref.ensures.value c.in-Ok.ensures.accepted, (c.in-None.is, c.serve.ensures.done is))

pub returns-in-None-clause-done_with_refusals : goal.returns-in-None-clause-done_with_refusals
returns-in-None-clause-done_with_refusals g c = λ is. (_, same_words _ _ _ _ c.deref.ensures.value c.in-Ok.ensures.accepted, (c.in-None.is, c.serve.ensures.done_with_refusals is))

pub returns-in-None-clause-broken : goal.returns-in-None-clause-broken
returns-in-None-clause-broken g c = λ is. (_, same_words _ _ _ _ c.deref.ensures.value c.in-Ok.ensures.accepted, (c.in-None.is, c.serve.ensures.broken is))

pub returns-in-None-clause-unread : goal.returns-in-None-clause-unread
returns-in-None-clause-unread g c = λ is. (_, same_words _ _ _ _ c.deref.ensures.value c.in-Ok.ensures.accepted, (c.in-None.is, c.serve.ensures.unread is))

pub returns-in-None-clause-overlong : goal.returns-in-None-clause-overlong
returns-in-None-clause-overlong g c = λ is. (_, same_words _ _ _ _ c.deref.ensures.value c.in-Ok.ensures.accepted, (c.in-None.is, c.serve.ensures.overlong is))
