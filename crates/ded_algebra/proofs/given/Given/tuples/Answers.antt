use Rattle.std.proofs.Common.{Some, sym, ap, ◌∙◌}
use Rattle.ded_algebra.specs.declared.given.GivenRelation.{GivenRelation}
use Rattle.std.specs.Str.{bytes_eq}
use Rattle.ded_algebra.proofs.Names.{found_in, found_here, passed_by, found_none}
use Rattle.ded_algebra.proofs.given.Given.tuples.Goals as goal

pub loop-relation-init : goal.loop-relation-init
loop-relation-init c = ap (found_in c.args.name.now) (c.deref-relation-items.ensures.value ∙ c.self.view_is)

pub returns-then-eq : goal.returns-then-eq
returns-then-eq c =
    ap Some (c.deref.ensures.value ∙ ap (λ (r : GivenRelation). r.tuples) c.relation.view_is)
    ∙ sym (found_here c.args.name.now c.deref-relation-items.result.now c.loop-relation.relation-index c.relation-item.result c.loop-relation-test.true c.relation-item.is
    (ap (λ (r : GivenRelation). bytes_eq r.name c.args.name.now) (sym c.relation.view_is) ∙ sym c.eq.ensures ∙ c.if-eq.true))
    ∙ c.loop-relation.invariant

pub loop-relation-preserved : goal.loop-relation-preserved
loop-relation-preserved c =
    sym (passed_by c.args.name.now c.deref-relation-items.result.now c.loop-relation.relation-index c.relation-item.result c.loop-relation-test.true c.relation-item.is
    (ap (λ (r : GivenRelation). bytes_eq r.name c.args.name.now) (sym c.relation.view_is) ∙ sym c.eq.ensures ∙ c.if-eq.false))
    ∙ c.loop-relation.invariant

pub returns : goal.returns
returns c = sym (found_none c.args.name.now c.deref-relation-items.result.now c.loop-relation.relation-index c.loop-relation-test.false) ∙ c.loop-relation.invariant
