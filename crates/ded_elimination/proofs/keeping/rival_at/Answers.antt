use Rattle.std.proofs.Common.{◌≡◌, ◌<◌, true, length, arith, sym, ◌∙◌, subst}
use Rattle.std.proofs.lemmas.List.{get_or_default}
use Rattle.ded_model.specs.Row.{row_holds}
use Rattle.ded_elimination.proofs.keeping.rival_at.Goals as goal

pub returns-then-implies : goal.returns-then-implies
returns-then-implies c =
    let lt : c.args.place < length c.args.rows.now = omega (arith, c.if-place-rows.false) in
    let x = c.index-rows-place.result in
    (c.args.place, lt, λ d p h e. c.implies.ensures c.if-implies.true p h (subst (λ r. row_holds r p ≡ true) (get_or_default c.args.rows.now c.args.place d x lt ∙ sym c.index-rows-place.is) e))
