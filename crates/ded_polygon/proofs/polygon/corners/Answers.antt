use Rattle.std.proofs.Common.{◌∙◌, subst}
use Rattle.ded_polygon.specs.Lists.{AreAllVertices, AreJoined}
use Rattle.ded_polygon.specs.Vertices.{IsEnclosed}
use Rattle.ded_polygon.proofs.Results.{are_corners, bounded_around, bounded_outline}
use Rattle.ded_polygon.proofs.polygon.corners.Goals as goal

pub returns-clause-corners : goal.returns-clause-corners
returns-clause-corners c =
    let cs = c.in_ok-arranged.field-0.items in
    let e = c.deref.ensures.value ∙ c.in_ok-sides.ensures.sides in
    are_corners c.args.x c.args.y c.requires.differ c.args.rows.now c.requires.only cs (subst (λ ss. AreAllVertices ss cs) e c.in_ok-arranged.ensures.all)

pub returns-clause-around : goal.returns-clause-around
returns-clause-around c = λ bounded.
    let cs = c.in_ok-arranged.field-0.items in
    let e = c.deref.ensures.value ∙ c.in_ok-sides.ensures.sides in
    bounded_around c.args.x c.args.y c.requires.differ c.args.rows.now c.requires.only cs (subst (λ ss. AreAllVertices ss cs) e c.in_ok-arranged.ensures.all)
    (subst (λ ss. IsEnclosed ss → AreJoined ss cs) e c.in_ok-arranged.ensures.joined) bounded

pub returns-clause-outline : goal.returns-clause-outline
returns-clause-outline c = λ bounded.
    let cs = c.in_ok-arranged.field-0.items in
    let e = c.deref.ensures.value ∙ c.in_ok-sides.ensures.sides in
    bounded_outline c.args.x c.args.y c.requires.differ c.args.rows.now c.requires.only cs (subst (λ ss. AreAllVertices ss cs) e c.in_ok-arranged.ensures.all)
    (subst (λ ss. IsEnclosed ss → AreJoined ss cs) e c.in_ok-arranged.ensures.joined) bounded
