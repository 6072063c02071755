-- The pairs of one tuple more, or of the first that aren't all verified.
use Rattle.std.proofs.Common.{rules, List, ◌∙◌, sym, true≢false, subst}
use Rattle.std.specs.List.{AllByRecursion}
use Rattle.ded_model.specs.Row.{Atom}
use Rattle.ded_cert.specs.Pairs.{Numbered, pairs_with, IsVerified, IsLongCheck, SomePair}
use Rattle.ded_cert.proofs.PairEntries.{some_of_all}
use Rattle.ded_cert.proofs.PairChecks.{of_next, of_failed}
use Rattle.ded_cert.proofs.verifying.verify_all.Goals as goal

pub returns-in_err-are_verified-clause-wide : goal.returns-in_err-are_verified-clause-wide
returns-in_err-are_verified-clause-wide c = λ e.
    let t : Numbered = (c.in-Some.number.now, c.in-Some.packed.now) in
    some_of_all (IsLongCheck c.args.entries.now) c.args.second.now.entries c.args.first.now.entries _ t _ c.loop-number.invariant.front c.loop-number.invariant.is c.in-Some.ensures.steps
    (subst (λ (a : List Atom). SomePair (IsLongCheck c.args.entries.now) (pairs_with (t.0, a) c.args.second.now.entries)) c.in_ok-tuple.ensures (c.in_err-are_verified.ensures.wide (search rules)))

pub returns-then-not-branch-clause-is : goal.returns-then-not-branch-clause-is
returns-then-not-branch-clause-is c =
    let t : Numbered = (c.in-Some.number.now, c.in-Some.packed.now) in
    of_failed (IsVerified c.args.entries.now) c.args.second.now.entries c.args.first.now.entries _ t _ c.loop-number.invariant c.in-Some.ensures.steps
    (λ h.
    true≢false
    (sym (c.in_ok-are_verified.ensures.is.1 (subst (λ (a : List Atom). AllByRecursion (IsVerified c.args.entries.now) (pairs_with (t.0, a) c.args.second.now.entries)) (sym c.in_ok-tuple.ensures) h)) ∙ c.if-not-branch.true))

pub loop-number-preserved : goal.loop-number-preserved
loop-number-preserved c =
    let t : Numbered = (c.in-Some.number.now, c.in-Some.packed.now) in
    of_next (IsVerified c.args.entries.now) c.args.second.now.entries c.args.first.now.entries _ t _ c.loop-number.invariant c.in-Some.ensures.steps
    (subst (λ (a : List Atom). AllByRecursion (IsVerified c.args.entries.now) (pairs_with (t.0, a) c.args.second.now.entries)) c.in_ok-tuple.ensures (c.in_ok-are_verified.ensures.is.0 c.if-not-branch.false))
