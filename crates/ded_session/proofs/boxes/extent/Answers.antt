-- The bounds grow by one tuple in each round.
use Rattle.std.proofs.Common.{◌||◌, List, [], ◌∷◌, rules, sym, subst}
use Rattle.ded_model.specs.Known.{IsTupleOver}
use Rattle.ded_model.specs.Row.{Atom, tuple_holds}
use Rattle.ded_model.specs.Width.{IsBoxNarrow}
use Rattle.ded_box.specs.Extents.{IsBox}
use Rattle.ded_atoms.specs.Orders.{AreOrderAtoms}
use Rattle.ded_session.proofs.Bounding.{bounded_none, next_over, next_narrow, next_orders, next_bounded, bounded_all}
use Rattle.ded_session.proofs.boxes.extent.Goals as goal

pub loop-packed-init : goal.loop-packed-init
loop-packed-init c = bounded_none c.args.heading.now c.args.stored.now.entries _ (search rules)

pub extended-requires : goal.extended-requires
extended-requires c =
    subst (IsTupleOver c.args.heading.now) (sym c.in_ok-tuple.ensures)
    (next_over c.args.heading.now c.args.stored.now.entries _ _ _ c.in-Some.packed.now _ c.loop-packed.invariant c.in-Some.ensures.steps c.requires)

pub returns-in_err-extent-clause-wide : goal.returns-in_err-extent-clause-wide
returns-in_err-extent-clause-wide c = λ e n.
    c.in_err-extent.ensures.wide (search rules)
    (subst (λ (t : List Atom). IsBoxNarrow c.args.heading.now (t ∷ [])) (sym c.in_ok-tuple.ensures)
    (next_narrow c.args.heading.now c.args.stored.now.entries _ _ _ c.in-Some.packed.now _ c.loop-packed.invariant c.in-Some.ensures.steps n))

pub returns-in_err-extent-clause-orders : goal.returns-in_err-extent-clause-orders
returns-in_err-extent-clause-orders c = λ e o.
    c.in_err-extent.ensures.orders
    (subst AreOrderAtoms (sym c.in_ok-tuple.ensures)
    (next_orders c.args.heading.now c.args.stored.now.entries _ _ _ c.in-Some.packed.now _ c.loop-packed.invariant c.in-Some.ensures.steps o))
    (search rules)

pub loop-packed-preserved : goal.loop-packed-preserved
loop-packed-preserved c =
    next_bounded c.args.heading.now c.args.stored.now.entries _ _ _ c.in-Some.packed.now _ c.loop-packed.invariant c.in-Some.ensures.steps c.in_ok-extent.extent
    (λ test b. subst (λ (t : List Atom). IsBox (λ p. test p || tuple_holds t p) c.args.heading.now c.in_ok-extent.extent) c.in_ok-tuple.ensures (c.in_ok-extent.ensures.is test b))

pub returns-clause-is : goal.returns-clause-is
returns-clause-is c = bounded_all c.args.heading.now c.args.stored.now.entries _ c.loop-packed.extent c.loop-packed.invariant c.in-None.ensures.steps.0
