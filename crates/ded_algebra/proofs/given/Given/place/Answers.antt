use Rattle.std.proofs.Common.{◌≡◌, false, Some, arith, sym, ◌∙◌, subst}
use Rattle.std.proofs.lemmas.List.{take_all}
use Rattle.ded_algebra.specs.Given.{has_name, IsPlace}
use Rattle.ded_algebra.proofs.Taken.{place_of, passed}
use Rattle.ded_algebra.proofs.given.Given.place.Goals as goal

pub returns-then-eq : goal.returns-then-eq
returns-then-eq c =
    subst (λ rs. IsPlace c.args.name.now rs (Some c.loop-i.i)) c.self.view_is
    (place_of c.args.name.now c.self.inside.relations.items c.loop-i.i c.index.result.now (omega (arith, c.loop-i-test.true, c.len-i-end.ensures, c.self.inside.relations.ok.0)) c.index.ensures
    (sym c.eq.ensures ∙ c.if-eq.true) c.loop-i.invariant c.self.invariant)

pub loop-i-preserved : goal.loop-i-preserved
loop-i-preserved c =
    passed c.args.name.now c.self.inside.relations.items c.loop-i.i c.index.result.now (omega (arith, c.loop-i-test.true, c.len-i-end.ensures, c.self.inside.relations.ok.0)) c.index.ensures
    (sym c.eq.ensures ∙ c.if-eq.false) c.loop-i.invariant

pub returns : goal.returns
returns c =
    subst (λ rs. has_name c.args.name.now rs ≡ false)
    (take_all c.loop-i.i c.self.inside.relations.items (omega (arith, c.loop-i-test.false, c.len-i-end.ensures, c.self.inside.relations.ok.0)) ∙ c.self.view_is) c.loop-i.invariant
