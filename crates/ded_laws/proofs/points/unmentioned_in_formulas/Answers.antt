use Rattle.ded_model.specs.Catalogue.{AtomHolds, in_atom, meaning}
use Rattle.ded_model.proofs.Sats.{form_respects}
use Rattle.ded_model.proofs.Unused.{extension, unused, unused_forall}
use Rattle.ded_laws.proofs.points.unmentioned_in_formulas.Goals as goal

pub returns-clause-extension : goal.returns-clause-extension
returns-clause-extension c = λ d f s k p q. extension (AtomHolds (meaning d)) in_atom (form_respects d) f s k p q

pub returns-clause-exists : goal.returns-clause-exists
returns-clause-exists c = λ d f s k p. unused (AtomHolds (meaning d)) in_atom (form_respects d) f s k p

pub returns-clause-forall : goal.returns-clause-forall
returns-clause-forall c = λ d f s k p. unused_forall (AtomHolds (meaning d)) in_atom (form_respects d) f s k p
