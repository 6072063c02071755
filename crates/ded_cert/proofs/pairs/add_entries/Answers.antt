-- One entry more, or the first meeting.
use Rattle.std.proofs.Common.{List, rules, subst}
use Rattle.ded_model.specs.Row.{Atom}
use Rattle.ded_cert.specs.declared.certifying.Outcome.TheVariants.{Common, Apart}
use Rattle.ded_cert.specs.Certified.{IsCertified}
use Rattle.ded_cert.specs.Pairs.{Numbered, IsWide}
use Rattle.ded_cert.proofs.PairEntries.{added_none, added_one, added_all, added_meets, added_wide}
use Rattle.ded_cert.proofs.pairs.add_entries.Goals as goal

pub loop-other-init : goal.loop-other-init
loop-other-init c = added_none (c.args.number, c.args.tuple.now) c.args.second.now.entries _ c.args.entries.now.items (search rules)

pub returns-in_err-certify-clause-wide : goal.returns-in_err-certify-clause-wide
returns-in_err-certify-clause-wide c = λ e.
    let t : Numbered = (c.args.number, c.args.tuple.now) in
    added_wide IsWide t c.args.second.now.entries _ (c.in-Some.other.now, c.in-Some.packed.now) _ c.loop-other.invariant.front c.loop-other.invariant.is c.in-Some.ensures.steps
    (subst (λ (u : List Atom). IsWide (t, (c.in-Some.other.now, u))) c.in_ok-next.ensures (c.in_err-certify.ensures.wide (search rules)))

pub returns-in-Common-clause-is : goal.returns-in-Common-clause-is
returns-in-Common-clause-is c = λ done d.
    let t = c.args.tuple.now in
    added_meets (c.args.number, t) c.args.second.now.entries _ (c.in-Some.other.now, c.in-Some.packed.now) _ c.args.entries.now.items c.loop-other.entries.items c.loop-other.invariant c.in-Some.ensures.steps
    (subst (λ (u : List Atom). IsCertified t u Common) c.in_ok-next.ensures (subst (IsCertified t c.in_ok-next.next) c.in-Common.is c.in_ok-certify.ensures.is)) done d

pub loop-other-preserved : goal.loop-other-preserved
loop-other-preserved c =
    let t = c.args.tuple.now in
    added_one (c.args.number, t) c.args.second.now.entries _ (c.in-Some.other.now, c.in-Some.packed.now) _ c.args.entries.now.items c.loop-other.entries.items c.push.new.self.items c.entry.result c.in-Apart.proof
    c.loop-other.invariant c.in-Some.ensures.steps c.in_ok-push-in-Apart.ensures.items c.entry.ensures
    (subst (λ (u : List Atom). IsCertified t u (Apart c.in-Apart.proof)) c.in_ok-next.ensures (subst (IsCertified t c.in_ok-next.next) c.in-Apart.is c.in_ok-certify.ensures.is))

pub returns-clause-is : goal.returns-clause-is
returns-clause-is c = added_all (c.args.number, c.args.tuple.now) c.args.second.now.entries _ c.args.entries.now.items c.loop-other.entries.items c.loop-other.invariant c.in-None.ensures.steps.0
