use Rattle.std.proofs.Common.{◌≡◌, sym, ap, rules}
use Rattle.std.specs.Prelude.{Err}
use Rattle.ded_model.specs.declared.fault.ParseFault.TheVariants.{NotRead}
use Rattle.ded_model.specs.declared.fault.ParseFault.{ParseFault}
use Rattle.ded_draw.proofs.Accepting.{limit_within, width_within, same_words}
use Rattle.ded_draw.proofs.program.run.Goals as goal

pub returns-in-Err-NotRead-clause-bad_words : goal.returns-in-Err-NotRead-clause-bad_words
returns-in-Err-NotRead-clause-bad_words g c = λ is options a.
    let same : c.in-Err-NotRead.field-0 ≡ NotRead = search rules in
    c.in-Err-NotRead.ensures.bad (ap (λ (e : ParseFault). Err e) same) options (same_words _ _ _ _ (sym c.deref.ensures.value) a)

pub serve-requires-clause-low : goal.serve-requires-clause-low
serve-requires-clause-low g c = (limit_within _ _ c.in-Ok.ensures.accepted).0

pub serve-requires-clause-high : goal.serve-requires-clause-high
serve-requires-clause-high g c = (limit_within _ _ c.in-Ok.ensures.accepted).1

pub serve-requires-clause-width : goal.serve-requires-clause-width
serve-requires-clause-width g c = width_within _ _ c.in-Ok.ensures.accepted

pub returns-clause-done : goal.returns-clause-done
returns-clause-done g c = λ is. (_, same_words _ _ _ _ c.deref.ensures.value c.in-Ok.ensures.accepted, c.serve.ensures.done is)

pub returns-clause-done_with_refusals : goal.returns-clause-done_with_refusals
returns-clause-done_with_refusals g c = λ is. (_, same_words _ _ _ _ c.deref.ensures.value c.in-Ok.ensures.accepted, c.serve.ensures.done_with_refusals is)

pub returns-clause-broken : goal.returns-clause-broken
returns-clause-broken g c = λ is. (_, same_words _ _ _ _ c.deref.ensures.value c.in-Ok.ensures.accepted, c.serve.ensures.broken is)
