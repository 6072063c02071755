use Rattle.std.proofs.Common.{◌≡◌, take, map}
use Rattle.ded_model.specs.Form.{form}
use Rattle.ded_model.proofs.formula.+copy.Given as goal

abbrev pub invariant-copy_formulas-loop-part : goal.invariant-copy_formulas-loop-part
invariant-copy_formulas-loop-part l = map form l.copies.items ≡ map form (take l.part-index l.part-items)
