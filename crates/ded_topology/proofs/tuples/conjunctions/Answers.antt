use Rattle.std.proofs.Common.{sym, ◌∙◌, subst}
use Rattle.std.specs.List.{AllByRecursion}
use Rattle.ded_model.specs.Normal.{IsNormalTheme}
use Rattle.ded_theory.specs.Both.{IsByKind}
use Rattle.ded_elimination.specs.LinearAtoms.{IsLinearAtom}
use Rattle.ded_elimination.proofs.Shared.{atoms_normal}
use Rattle.ded_topology.proofs.tuples.conjunctions.Goals as goal

pub push-requires : goal.push-requires
push-requires c = record { normal = subst (AllByRecursion (IsByKind IsLinearAtom IsNormalTheme)) (sym (c.in_ok-copy_conj.ensures ∙ c.deref.ensures.value)) (atoms_normal c.tuple.inside.atoms.items c.tuple.invariant) }
