use Rattle.std.proofs.Common.{◌≡◌, true, take}
use Rattle.std.specs.List.{AllByRecursion}
use Rattle.ded_model.specs.Cell.{conj_holds}
use Rattle.ded_model.specs.Point.{Point}
use Rattle.ded_eval.proofs.across.rows_across.Given as goal

abbrev pub invariant-loop-atom : goal.invariant-loop-atom
invariant-loop-atom g l =
    ((p : Point) → conj_holds g.T.Theory.holds (take l.atom-index l.window) p ≡ true → conj_holds g.T.Theory.holds l.rows.items p ≡ true)
    × AllByRecursion g.T.Theory.normal l.rows.items
