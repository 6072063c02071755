use Rattle.std.proofs.Common.{◌≡◌, sym, ap, ◌∙◌, subst, arith}
use Rattle.ded_tuple.specs.Places.{AreOrdered}
use Rattle.ded_tuple.proofs.Halving.{normal-ordered}
use Rattle.ded_tuple.proofs.Places.{place-within, put-inserted, put-there, put-normal}
use Rattle.std.specs.Prelude.{insert}
use Rattle.ded_model.specs.Normal.{IsNormalTuple, place_atom}
use Rattle.ded_tuple.proofs.placing.put.Goals as goal
use Rattle.ded_tuple.proofs.placing.put.Goals.{In_ok-insert}

pub insert-requires : goal.insert-requires
insert-requires c =
    let within = place-within c.args.atom c.as_slice.result.now in
    omega (arith, within, c.find-place.ensures.at, c.as_slice.ensures.len)

inserted : (c : In_ok-insert) → c.insert.new.self.items ≡ place_atom c.args.atom c.args.tuple.now
inserted c =
    put-inserted c.args.atom c.as_slice.result.now c.args.tuple.now _ c.find-place.result.at c.find-place.result.taken (c.as_slice.ensures.value ∙ c.tuple.view_is) c.find-place.ensures.at c.find-place.ensures.taken c.if-not-place.true
    (c.in_ok-insert.ensures.items ∙ ap (λ l. insert l c.find-place.result.at c.args.atom) c.tuple.view_is)

pub invariant_of-tuple : goal.invariant_of-tuple
invariant_of-tuple c = put-normal c.args.atom c.args.tuple.now _ (inserted c) c.requires (subst IsNormalTuple c.tuple.view_is c.tuple.invariant)

pub returns-in_ok-insert-clause-place : goal.returns-in_ok-insert-clause-place
returns-in_ok-insert-clause-place c = inserted c

pub returns-else-not-place-clause-place : goal.returns-else-not-place-clause-place
returns-else-not-place-clause-place c = put-there c.args.atom c.as_slice.result.now c.args.tuple.now c.find-place.result.taken (c.as_slice.ensures.value ∙ c.tuple.view_is) c.find-place.ensures.taken c.if-not-place.false

pub find-place-requires : goal.find-place-requires
find-place-requires c = subst AreOrdered (sym (c.as_slice.ensures.value ∙ c.tuple.view_is)) (normal-ordered c.args.tuple.now (subst IsNormalTuple c.tuple.view_is c.tuple.invariant))

pub returns-in_ok-insert-clause-normal : goal.returns-in_ok-insert-clause-normal
returns-in_ok-insert-clause-normal c = put-normal c.args.atom c.args.tuple.now _ (inserted c) c.requires (subst IsNormalTuple c.tuple.view_is c.tuple.invariant)

pub returns-else-not-place-clause-normal : goal.returns-else-not-place-clause-normal
returns-else-not-place-clause-normal c = subst IsNormalTuple c.tuple.view_is c.tuple.invariant
