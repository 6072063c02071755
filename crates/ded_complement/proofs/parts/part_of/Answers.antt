use Rattle.std.proofs.Common.{subst}
use Rattle.ded_complement.specs.Parts.{conjs_at, IsSameOutside}
use Rattle.ded_complement.proofs.parts.part_of.Goals as goal

pub returns-clause-near : goal.returns-clause-near
returns-clause-near g c =
    subst (λ xs. IsSameOutside g.T.Theory.holds xs (conjs_at c.args.taken.now c.args.places.now) (conjs_at c.args.taken.now c.in_ok-near.near.items)) c.in_ok-piece.ensures.same
    (c.in_ok-near.ensures.near c.args.slots.now c.in_ok-piece.ensures.boxed c.requires.boxed)
