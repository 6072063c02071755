use Rattle.std.proofs.Common.{◌∙◌, sym, ap, ap₂, ◌++◌, ◌∷◌, [], List, Vec, Global}
use Rattle.ded_model.specs.declared.bound.Bound.{Bound}
use Rattle.ded_box.proofs.Places.{hulls_at, hulls_past}
use Rattle.ded_box.proofs.bound_box.hulls.Goals as goal
use Rattle.ded_box.proofs.bound_box.hulls.Goals.{then-i-second+in_ok-push, else-i-second}

pub loop-i-preserved : goal.loop-i-preserved
loop-i-preserved c =
    let first = c.args.first.now in
    let second = c.args.second.now in
    elim c.if-i-second.branch [
      | then-i-second+in_ok-push w ↦
          ap (λ (v : Vec (Bound × Bound) Global). v.items) w.list-is ∙ w.in_ok-push.ensures.items ∙ ap₂ (λ (xs : List (Bound × Bound)) (x : Bound × Bound). xs ++ x ∷ []) c.loop-i.invariant w.hull.ensures
          ∙ sym (hulls_at first second c.loop-i.i c.index-first-i.result w.index-second-i.result c.loop-i-test.true w.if-i-second.true c.index-first-i.is w.index-second-i.is)
      | else-i-second w ↦
          ap (λ (v : Vec (Bound × Bound) Global). v.items) w.list-is ∙ c.loop-i.invariant ∙ sym (hulls_past first second c.loop-i.i w.if-i-second.false)
    ]
