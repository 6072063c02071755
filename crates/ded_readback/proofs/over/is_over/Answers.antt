use Rattle.std.proofs.Common.{ap, subst, ◌∙◌, ◌≤◌}
use Rattle.std.specs.List.{list_all}
use Rattle.ded_model.specs.Width.{tuple_length}
use Rattle.ded_readback.specs.Over.{atom_over}
use Rattle.ded_readback.proofs.Overs.{is_over, found_over}
use Rattle.ded_readback.proofs.over.is_over.Goals as goal

pub returns-clause-over : goal.returns-clause-over
returns-clause-over c =
    is_over c.args.columns.now c.args.tuple.now c.are_atoms_over.result c.atoms_of.ensures.normal
    (c.are_atoms_over.ensures.value ∙ ap (list_all (atom_over c.args.columns.now)) c.atoms_of.ensures.value)
    (λ e. subst (λ t. tuple_length t ≤ 127) c.atoms_of.ensures.value (c.are_atoms_over.ensures.short e))

pub returns-clause-all : goal.returns-clause-all
returns-clause-all c =
    found_over c.args.columns.now c.args.tuple.now c.are_atoms_over.result
    (c.are_atoms_over.ensures.value ∙ ap (list_all (atom_over c.args.columns.now)) c.atoms_of.ensures.value)
