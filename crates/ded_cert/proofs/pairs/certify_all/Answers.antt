-- The entries of one tuple more, or its first meeting.
use Rattle.std.proofs.Common.{rules, List, MatchOption, ◌++◌, subst}
use Rattle.ded_model.specs.Row.{Atom}
use Rattle.ded_cert.specs.Pairs.{Numbered, pairs_with, AreEntriesOf, IsFirstMeeting, IsWide, SomePair}
use Rattle.ded_cert.proofs.PairEntries.{entered_one, entered_meets, some_of_all}
use Rattle.ded_cert.proofs.pairs.certify_all.Goals as goal

pub returns-in_err-other-clause-wide : goal.returns-in_err-other-clause-wide
returns-in_err-other-clause-wide c = λ e.
    let us = c.args.second.now.entries in
    some_of_all IsWide us c.args.first.now.entries _ (c.in-Some.number.now, c.in-Some.packed.now) _ c.loop-number.invariant.front c.loop-number.invariant.is c.in-Some.ensures.steps
    (subst (λ (t : List Atom). SomePair IsWide (pairs_with (c.in-Some.number.now, t) us)) c.in_ok-tuple.ensures (c.in_err-other.ensures.wide (search rules)))

pub returns-in-Some-2-clause-is : goal.returns-in-Some-2-clause-is
returns-in-Some-2-clause-is c =
    let us = c.args.second.now.entries in
    let i = c.in-Some.number.now in
    let t : Numbered = (i, c.in_ok-tuple.tuple) in
    entered_meets us c.args.first.now.entries _ (i, c.in-Some.packed.now) _ c.loop-number.entries.items i c.in-Some-2.other c.loop-number.invariant c.in-Some.ensures.steps
    (λ done d.
    subst (λ (a : List Atom). IsFirstMeeting (pairs_with (i, a) us) i c.in-Some-2.other) c.in_ok-tuple.ensures
    (subst (λ m. MatchOption m (AreEntriesOf (done ++ pairs_with t us) c.add_entries.new.entries.items) (λ j. IsFirstMeeting (pairs_with t us) i j)) c.in-Some-2.is (c.in_ok-other.ensures.is done d)))

pub loop-number-preserved : goal.loop-number-preserved
loop-number-preserved c =
    let us = c.args.second.now.entries in
    let i = c.in-Some.number.now in
    let t : Numbered = (i, c.in_ok-tuple.tuple) in
    entered_one us c.args.first.now.entries _ (i, c.in-Some.packed.now) _ c.loop-number.entries.items c.add_entries.new.entries.items c.loop-number.invariant c.in-Some.ensures.steps
    (λ done d.
    subst (λ (a : List Atom). AreEntriesOf (done ++ pairs_with (i, a) us) c.add_entries.new.entries.items) c.in_ok-tuple.ensures
    (subst (λ m. MatchOption m (AreEntriesOf (done ++ pairs_with t us) c.add_entries.new.entries.items) (λ j. IsFirstMeeting (pairs_with t us) i j)) c.in_default.is (c.in_ok-other.ensures.is done d)))
