use Rattle.std.proofs.Common.{subst, ◌∙◌}
use Rattle.ded_model.specs.Lines.{In, row_lines, elim_at}
use Rattle.ded_theory.specs.Conjunctions.{conj_lines}
use Rattle.ded_order.proofs.theory.OrderTheory.eliminate.Goals as goal

pub returns-clause-lines : goal.returns-clause-lines
returns-clause-lines c = λ l i.
    subst (λ xs. In l (elim_at c.args.slot (conj_lines row_lines xs))) (c.deref.ensures.value ∙ c.in_ok-rows.ensures)
    (c.in_ok-left.ensures.lines l (subst (λ xs. In l (conj_lines row_lines xs)) c.in_ok-eliminated.ensures.atoms i))
