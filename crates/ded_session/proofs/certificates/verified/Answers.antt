-- What is verified of the tuples that the catalogue has.
use Rattle.std.proofs.Common.{rules, refl, ap₂, subst}
use Rattle.std.specs.Prelude.{◌↔◌, IsTrue}
use Rattle.std.specs.List.{AllByRecursion}
use Rattle.ded_cert.specs.Pairs.{pairs_of, IsLongCheck, IsVerified, SomePair}
use Rattle.ded_session.proofs.certificates.verified.Goals as goal

pub returns-in_err-verify_all-clause-wide : goal.returns-in_err-verify_all-clause-wide
returns-in_err-verify_all-clause-wide c = λ e. subst (SomePair (IsLongCheck c.args.entries.now)) (ap₂ pairs_of c.tuples-one.ensures c.tuples-other.ensures) (c.in_err-verify_all.ensures.wide (search rules))

pub returns-clause-does : goal.returns-clause-does
returns-clause-does c =
    (subst (λ ps. IsTrue c.in_ok-verify_all.field-0 ↔ AllByRecursion (IsVerified c.args.entries.now) ps) (ap₂ pairs_of c.tuples-one.ensures c.tuples-other.ensures) c.in_ok-verify_all.ensures.is, refl)
