-- Lemmas that several crates cite.
use Rattle.std.proofs.Common.{◌≡◌, false, refl}
use Rattle.ded_model.specs.declared.tuple.BothAtom.TheVariants.{First, Second}
use Rattle.ded_model.specs.Normal.{IsNormalAtom}
use Rattle.ded_model.specs.Row.{Atom}
use Rattle.ded_tuple.specs.TrueRows.{is_true_atom}

pub not_true : (a : Atom) → IsNormalAtom a → is_true_atom a ≡ false
not_true (First r) n = n.2
not_true (Second a) n = refl
