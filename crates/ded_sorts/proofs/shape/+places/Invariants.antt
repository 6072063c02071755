use Rattle.std.proofs.Common.{◌≡◌, ◌+◌, drop}
use Rattle.ded_model.specs.Form.{forms}
use Rattle.ded_model.specs.Logic.{quantifiers_of}
use Rattle.ded_sorts.proofs.shape.+places.Given as goal

abbrev pub invariant-room_after_all-loop-formula : goal.invariant-room_after_all-loop-formula
invariant-room_after_all-loop-formula l =
    l.left + quantifiers_of (forms l.formula-items) ≡ l.room + quantifiers_of (forms (drop l.formula-index l.formula-items))
