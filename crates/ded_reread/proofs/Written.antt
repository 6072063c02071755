-- What is read back has the words of the formula, and its shape.
use Rattle.std.proofs.Common.{ℕ, ◌+◌, ◌∷◌}
use Rattle.ded_model.specs.Form.{Form, FormAtom}
use Rattle.ded_model.specs.Logic.{atom, always, never, negation, every_of, some_of, implies, minus, exists, forall, Logics, none, also, AllAtoms, AllAtomsOf, quantifiers}
use Rattle.ded_model.specs.Slotted.{SlotScope}
use Rattle.ded_print.specs.Tuples.{Names}
use Rattle.ded_reread.specs.Words.{Test, AtomHasWords, IsChain, IsWritten, AreWritten}
use Rattle.ded_reread.proofs.Below.{again, all_again}

module _ (N M T : Test) where
  mutual
    -- the words of its atoms
    pub atoms_written : (f : Form) → IsWritten N M T f → AllAtoms (AtomHasWords N M T) f
    atoms_written (atom a) w = w
    atoms_written always w = tt
    atoms_written never w = tt
    atoms_written (negation f) w = atoms_written f w
    atoms_written (every_of fs) w = all_atoms_written fs w.1
    atoms_written (some_of fs) w = all_atoms_written fs w.1
    atoms_written (implies f g) w = (atoms_written f w.0, atoms_written g w.1)
    atoms_written (minus f g) w = absurd w
    atoms_written (exists s k f) w = atoms_written f w.1
    atoms_written (forall s k f) w = atoms_written f w.1

    all_atoms_written : (fs : Logics FormAtom) → AreWritten N M T fs → AllAtomsOf (AtomHasWords N M T) fs
    all_atoms_written none w = tt
    all_atoms_written (also f fs) w = (atoms_written f w.0, all_atoms_written fs w.1)

  module _ (names : Names) where
    chain_again : (fs : Logics FormAtom) (scope : SlotScope) (n : ℕ) → IsChain fs → IsChain (all_again names scope n fs)
    chain_again none scope n c = c
    chain_again (also f none) scope n c = c
    chain_again (also f (also g fs)) scope n c = tt

    mutual
      -- the shape is that of the formula, so the words of the atoms are left
      pub written_again : (f : Form) (scope : SlotScope) (n : ℕ) → IsWritten N M T f → AllAtoms (AtomHasWords N M T) (again names scope n f) → IsWritten N M T (again names scope n f)
      written_again (atom a) scope n w h = h
      written_again always scope n w h = tt
      written_again never scope n w h = tt
      written_again (negation f) scope n w h = written_again f scope n w h
      written_again (every_of fs) scope n w h = (chain_again fs scope n w.0, all_written_again fs scope n w.1 h)
      written_again (some_of fs) scope n w h = (chain_again fs scope n w.0, all_written_again fs scope n w.1 h)
      written_again (implies f g) scope n w h = (written_again f scope n w.0 h.0, written_again g scope (n + quantifiers f) w.1 h.1)
      written_again (minus f g) scope n w h = absurd w
      written_again (exists s k f) scope n w h = (w.0, written_again f ((k, record { number = n; sort = s }) ∷ scope) (n + 1) w.1 h)
      written_again (forall s k f) scope n w h = (w.0, written_again f ((k, record { number = n; sort = s }) ∷ scope) (n + 1) w.1 h)

      all_written_again : (fs : Logics FormAtom) (scope : SlotScope) (n : ℕ) → AreWritten N M T fs → AllAtomsOf (AtomHasWords N M T) (all_again names scope n fs) → AreWritten N M T (all_again names scope n fs)
      all_written_again none scope n w h = tt
      all_written_again (also f fs) scope n w h = (written_again f scope n w.0 h.0, all_written_again fs scope (n + quantifiers f) w.1 h.1)
