-- What is put and what is left to put make the whole.
use Rattle.std.proofs.Common.{◌≡◌, ◌++◌, [], drop}
use Rattle.ded_model.specs.Form.{forms}
use Rattle.ded_model.specs.Goal.{goal_forms}
use Rattle.ded_print.specs.Tuples.{column_names}
use Rattle.ded_dump.specs.Formulas.{chain_text}
use Rattle.ded_dump.proofs.formula.+formula.Given as goal

abbrev pub invariant-put_chain-loop-part : goal.invariant-put_chain-loop-part
invariant-put_chain-loop-part l =
    l.text ++ chain_text (column_names l.places) l.position l.lead l.connective (forms (drop l.part-index l.part-items)) (goal_forms l.goals)
    ≡ l.initial.text ++ chain_text (column_names l.places) l.position [] l.connective (forms l.part-items) (goal_forms l.initial.goals)
