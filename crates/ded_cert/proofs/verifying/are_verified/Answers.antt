-- One pair more, or the first that isn't verified.
use Rattle.std.proofs.Common.{rules, List, Some, None, ◌≡◌, ◌∙◌, sym, ap, ap₂, true≢false, subst}
use Rattle.std.specs.Option.{option_map}
use Rattle.ded_model.specs.declared.certificate.Entry.{Entry}
use Rattle.ded_model.specs.Row.{Atom}
use Rattle.ded_cert.specs.Checks.{Checks, IsTooLong}
use Rattle.ded_cert.specs.Pairs.{Numbered, entry_for, IsVerified, IsLongCheck}
use Rattle.ded_cert.proofs.PairEntries.{added_wide}
use Rattle.ded_cert.proofs.PairChecks.{with_one, with_failed, none_verified, some_verified, some_failed, some_long}
use Rattle.ded_cert.proofs.verifying.are_verified.Goals as goal

pub returns-in_default-clause-is : goal.returns-in_default-clause-is
returns-in_default-clause-is c =
    let es = c.args.entries.now in
    let t : Numbered = (c.args.number, c.args.tuple.now) in
    let u : Numbered = (c.in-Some.other.now, c.in-Some.packed.now) in
    let found : entry_for es t.0 u.0 ≡ None = ap₂ (entry_for es) (sym c.from.ensures) (sym c.from-in-loop-other.ensures) ∙ sym c.entry_for.ensures ∙ ap (option_map (λ e. e.now)) c.in_default.is in
    with_failed (IsVerified es) t c.args.second.now.entries _ u _ c.loop-other.invariant c.in-Some.ensures.steps (none_verified es t u found)

pub returns-in_err-check-clause-wide : goal.returns-in_err-check-clause-wide
returns-in_err-check-clause-wide c = λ e.
    let es = c.args.entries.now in
    let t : Numbered = (c.args.number, c.args.tuple.now) in
    let u : Numbered = (c.in-Some.other.now, c.in-Some.packed.now) in
    let entry : Entry = c.in-Some-entry_for.entry.now in
    let found : entry_for es t.0 u.0 ≡ Some entry = ap₂ (entry_for es) (sym c.from.ensures) (sym c.from-in-loop-other.ensures) ∙ sym c.entry_for.ensures ∙ ap (option_map (λ d. d.now)) c.in-Some-entry_for.is in
    added_wide (IsLongCheck es) t c.args.second.now.entries _ u _ c.loop-other.invariant.front c.loop-other.invariant.is c.in-Some.ensures.steps
    (some_long es t u entry found (subst (λ (a : List Atom). IsTooLong t.1 a entry.proof) c.in_ok-next.ensures (c.in_err-check.ensures.wide (search rules))))

pub returns-then-not-branch-clause-is : goal.returns-then-not-branch-clause-is
returns-then-not-branch-clause-is c =
    let es = c.args.entries.now in
    let t : Numbered = (c.args.number, c.args.tuple.now) in
    let u : Numbered = (c.in-Some.other.now, c.in-Some.packed.now) in
    let entry : Entry = c.in-Some-entry_for.entry.now in
    let found : entry_for es t.0 u.0 ≡ Some entry = ap₂ (entry_for es) (sym c.from.ensures) (sym c.from-in-loop-other.ensures) ∙ sym c.entry_for.ensures ∙ ap (option_map (λ d. d.now)) c.in-Some-entry_for.is in
    with_failed (IsVerified es) t c.args.second.now.entries _ u _ c.loop-other.invariant c.in-Some.ensures.steps
    (some_failed es t u entry found (λ h. true≢false (sym (c.in_ok-check.ensures.is.1 (subst (λ (a : List Atom). Checks t.1 a entry.proof) (sym c.in_ok-next.ensures) h)) ∙ c.if-not-branch.true)))

pub loop-other-preserved : goal.loop-other-preserved
loop-other-preserved c =
    let es = c.args.entries.now in
    let t : Numbered = (c.args.number, c.args.tuple.now) in
    let u : Numbered = (c.in-Some.other.now, c.in-Some.packed.now) in
    let entry : Entry = c.in-Some-entry_for.entry.now in
    let found : entry_for es t.0 u.0 ≡ Some entry = ap₂ (entry_for es) (sym c.from.ensures) (sym c.from-in-loop-other.ensures) ∙ sym c.entry_for.ensures ∙ ap (option_map (λ d. d.now)) c.in-Some-entry_for.is in
    with_one (IsVerified es) t c.args.second.now.entries _ u _ c.loop-other.invariant c.in-Some.ensures.steps
    (some_verified es t u entry found (subst (λ (a : List Atom). Checks t.1 a entry.proof) c.in_ok-next.ensures (c.in_ok-check.ensures.is.0 c.if-not-branch.false)))
