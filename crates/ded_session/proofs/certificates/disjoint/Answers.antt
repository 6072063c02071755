-- What is told of the tuples that the catalogue has.
use Rattle.std.proofs.Common.{rules, refl, ap₂, subst}
use Rattle.ded_cert.specs.Pairs.{pairs_of, AreEntriesOf, IsFirstMeeting, IsWide, SomePair}
use Rattle.ded_cert.specs.Told.{IsTold}
use Rattle.ded_session.proofs.certificates.disjoint.Goals as goal

pub returns-in_err-entries-clause-wide : goal.returns-in_err-entries-clause-wide
returns-in_err-entries-clause-wide c = λ e. subst (SomePair IsWide) (ap₂ pairs_of c.tuples.ensures c.tuples-2.ensures) (c.in_err-entries.ensures.wide (search rules))

pub returns-in-Apart-clause-does : goal.returns-in-Apart-clause-does
returns-in-Apart-clause-does c =
    (subst (λ ps. AreEntriesOf ps c.in-Apart.entries.items) (ap₂ pairs_of c.tuples.ensures c.tuples-2.ensures) (subst (IsTold (pairs_of c.tuples.result.now.entries c.tuples-2.result.now.entries)) c.in-Apart.is c.in_ok-entries.ensures.is), refl)

pub returns-in-Meet-clause-does : goal.returns-in-Meet-clause-does
returns-in-Meet-clause-does c =
    (subst (λ ps. IsFirstMeeting ps c.in-Meet.one c.in-Meet.other) (ap₂ pairs_of c.tuples.ensures c.tuples-2.ensures) (subst (IsTold (pairs_of c.tuples.result.now.entries c.tuples-2.result.now.entries)) c.in-Meet.is c.in_ok-entries.ensures.is), refl)
