use Rattle.std.proofs.Common.{Vec, Global, subst}
use Rattle.std.specs.Prelude.{IfSome}
use Rattle.std.proofs.lemmas.Bool.{not-true}
use Rattle.ded_model.specs.Constraint.{LinearConstraint}
use Rattle.ded_model.specs.Lines.{tuples_lines}
use Rattle.ded_database.specs.Changes.{before, after}
use Rattle.ded_database.specs.Lost.{AreApartLines, LosesOnly}
use Rattle.ded_database.proofs.shortening.have_none_lost.Goals as goal

pub returns-in-Some : goal.returns-in-Some
returns-in-Some c = λ e. record {
  more = c.in-Some.lost.items;
  loses = subst (λ o. IfSome o (λ (w : Vec LinearConstraint Global). LosesOnly (before c.args.renewal.now.change.now) (after c.args.renewal.now.change.now) c.args.renewal.now.mark.now.name w.items)) c.in-Some.is c.in_ok-lost.ensures;
  apart = subst (AreApartLines (tuples_lines c.args.tuples.now)) c.deref-in-Some.ensures.value (c.in_ok-have_any-in-Some.ensures (not-true c.in_ok-have_any-in-Some.field-0 e));
}
