-- What was read so far of coefficients and of atoms, and what is left to be read.
use Rattle.std.specs.Prelude.{◌≡◌, ℕ, ◌-◌, ℤ, List, ◌++◌}
use Rattle.ded_model.specs.declared.slot.Slot.{Slot}
use Rattle.ded_model.specs.Normal.{IsNormalTuple}
use Rattle.ded_model.specs.Row.{Atom}
use Rattle.ded_packed.specs.Atoms.{coefs_in, after_coefs, CoefsFit, atoms_in, AtomsFit}

-- the first i of the coefficients at the start are read
pub record CoefsTaken (start : List ℕ) (count i : ℕ) (read : List (Slot × ℤ)) (bytes : List ℕ) : Type 0 where
  pub value : read ++ coefs_in (count - i) bytes ≡ coefs_in count start
  pub left : after_coefs (count - i) bytes ≡ after_coefs count start
  pub fits : CoefsFit (count - i) bytes

-- the first i of the atoms at the start are read
pub record AtomsTaken (start : List ℕ) (count i : ℕ) (read : List Atom) (bytes : List ℕ) : Type 0 where
  pub value : read ++ atoms_in (count - i) bytes ≡ atoms_in count start
  pub fits : AtomsFit (count - i) bytes
  pub normal : IsNormalTuple (atoms_in (count - i) bytes)
