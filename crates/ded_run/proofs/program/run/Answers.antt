use Rattle.std.proofs.Common.{◌≡◌, refl, sym, ap, rules}
use Rattle.std.specs.Prelude.{Err}
use Rattle.ded_model.specs.declared.fault.ParseFault.TheVariants.{NotRead}
use Rattle.ded_model.specs.declared.fault.ParseFault.{ParseFault}
use Rattle.ded_run.proofs.Accepting.{limit_low, limit_high, size_within, same_words, when_some, when_none}
use Rattle.ded_run.proofs.program.run.Goals as goal

pub returns-in-Err-NotRead-clause-bad_words : goal.returns-in-Err-NotRead-clause-bad_words
returns-in-Err-NotRead-clause-bad_words g c = λ is options a.
    let same : c.in-Err-NotRead.field-0 ≡ NotRead = search rules in
    c.in-Err-NotRead.ensures.bad (ap (λ (e : ParseFault). Err e) same) options (same_words _ _ _ _ (sym c.deref.ensures.value) a)

pub make-requires-clause-low : goal.make-requires-clause-low
make-requires-clause-low g c = limit_low _ _ c.in-Ok.ensures.accepted

pub make-requires-clause-high : goal.make-requires-clause-high
make-requires-clause-high g c = limit_high _ _ c.in-Ok.ensures.accepted

pub make-requires-clause-size_low : goal.make-requires-clause-size_low
make-requires-clause-size_low g c = (size_within _ _ _ c.in-Ok.ensures.accepted c.in-Some.is).0

pub make-requires-clause-size_high : goal.make-requires-clause-size_high
make-requires-clause-size_high g c = (size_within _ _ _ c.in-Ok.ensures.accepted c.in-Some.is).1

pub serve-requires-clause-low : goal.serve-requires-clause-low
serve-requires-clause-low g c = limit_low _ _ c.in-Ok.ensures.accepted

pub serve-requires-clause-high : goal.serve-requires-clause-high
serve-requires-clause-high g c = limit_high _ _ c.in-Ok.ensures.accepted

pub returns-in-Some-clause-done : goal.returns-in-Some-clause-done
returns-in-Some-clause-done g c = λ is. (_, same_words _ _ _ _ c.deref.ensures.value c.in-Ok.ensures.accepted, when_some _ _ _ _ c.in-Some.is (c.make.ensures.done is, refl))

pub returns-in-Some-clause-done_with_refusals : goal.returns-in-Some-clause-done_with_refusals
returns-in-Some-clause-done_with_refusals g c = λ is. (_, same_words _ _ _ _ c.deref.ensures.value c.in-Ok.ensures.accepted, when_some _ _ _ _ c.in-Some.is (c.make.ensures.done_with_refusals is, refl))

pub returns-in-Some-clause-broken : goal.returns-in-Some-clause-broken
returns-in-Some-clause-broken g c = λ is. (_, same_words _ _ _ _ c.deref.ensures.value c.in-Ok.ensures.accepted, when_some _ _ _ _ c.in-Some.is (c.make.ensures.broken is, refl))

pub returns-in-Some-clause-unread : goal.returns-in-Some-clause-unread
returns-in-Some-clause-unread g c = λ is. absurd (c.make.ensures.kinds.0 is)

pub returns-in-Some-clause-overlong : goal.returns-in-Some-clause-overlong
returns-in-Some-clause-overlong g c = λ is. absurd (c.make.ensures.kinds.1 is)

pub returns-in-None-clause-done : goal.returns-in-None-clause-done
returns-in-None-clause-done g c = λ is. (_, same_words _ _ _ _ c.deref.ensures.value c.in-Ok.ensures.accepted, when_none _ _ _ c.in-None.is (c.serve.ensures.done is))

pub returns-in-None-clause-done_with_refusals : goal.returns-in-None-clause-done_with_refusals
returns-in-None-clause-done_with_refusals g c = λ is. (_, same_words _ _ _ _ c.deref.ensures.value c.in-Ok.ensures.accepted, when_none _ _ _ c.in-None.is (c.serve.ensures.done_with_refusals is))

pub returns-in-None-clause-broken : goal.returns-in-None-clause-broken
returns-in-None-clause-broken g c = λ is. (_, same_words _ _ _ _ c.deref.ensures.value c.in-Ok.ensures.accepted, when_none _ _ _ c.in-None.is (c.serve.ensures.broken is))

pub returns-in-None-clause-unread : goal.returns-in-None-clause-unread
returns-in-None-clause-unread g c = λ is. (_, same_words _ _ _ _ c.deref.ensures.value c.in-Ok.ensures.accepted, (c.in-None.is, c.serve.ensures.unread is))

pub returns-in-None-clause-overlong : goal.returns-in-None-clause-overlong
returns-in-None-clause-overlong g c = λ is. (_, same_words _ _ _ _ c.deref.ensures.value c.in-Ok.ensures.accepted, (c.in-None.is, c.serve.ensures.overlong is))
