use Rattle.std.proofs.Common.{◌≡◌, false, true, take}
use Rattle.std.specs.List.{AllByRecursion}
use Rattle.ded_model.specs.Cell.{conj_holds}
use Rattle.ded_model.specs.Point.{Point}
use Rattle.ded_theory.specs.Conjunctions.{conj_mentions}
use Rattle.ded_eval.proofs.window.without_slot.Given as goal

abbrev pub invariant-loop-atom : goal.invariant-loop-atom
invariant-loop-atom g l =
    ((p : Point) → conj_holds g.T.Theory.holds (take l.atom-index l.window) p ≡ true → conj_holds g.T.Theory.holds l.atoms.items p ≡ true)
    × (conj_mentions g.T.Theory.mentions l.atoms.items l.slot ≡ false) × AllByRecursion g.T.Theory.normal l.atoms.items
