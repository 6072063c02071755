-- What a stack is after something was put on it: that is read from its top, and under it is what was there before.
use Rattle.std.specs.Prelude.{◌≡◌, ℕ, ◌-◌, ◌^◌, ◌<◌, ℤ, List, length, drop}
use Rattle.ded_model.specs.declared.slot.Slot.{Slot}
use Rattle.ded_model.specs.Row.{Atom}
use Rattle.ded_packed.specs.declared.kind.Kind.{Kind}
use Rattle.ded_packed.specs.Numbers.{natural_in, after_natural, whole_in}
use Rattle.ded_packed.specs.Atoms.{coefs_in, after_coefs, CoefsFit, parts_in, after_parts, PartsFit, atom_in, after_atom, AtomFits, atoms_in, AtomsFit}

-- the new stack is the old one with a coefficient put on it, whose numbers have places in their types
pub record IsPutCoef (coef : Slot × ℤ) (old new : List ℕ) : Type 0 where
  pub slot : natural_in new ≡ coef.0.number
  pub number : whole_in (after_natural new) ≡ coef.1
  pub left : after_natural (after_natural new) ≡ old
  pub slot_fits : natural_in new < 2 ^ 32
  pub number_fits : natural_in (after_natural new) < 2 ^ 128

-- the new stack is the old one with the coefficients from a place on put on it, which fit
pub record CoefsPut (coefs : List (Slot × ℤ)) (at : ℕ) (old new : List ℕ) : Type 0 where
  pub value : coefs_in (length coefs - at) new ≡ drop at coefs
  pub left : after_coefs (length coefs - at) new ≡ old
  pub fits : CoefsFit (length coefs - at) new

-- the new stack is the old one with the parts of an atom of the kind put on it, which fit
pub record IsPutAs (kind : Kind) (atom : Atom) (old new : List ℕ) : Type 0 where
  pub value : parts_in kind new ≡ atom
  pub left : after_parts kind new ≡ old
  pub fits : PartsFit kind new

-- the new stack is the old one with an atom put on it, which fits
pub record IsPut (atom : Atom) (old new : List ℕ) : Type 0 where
  pub value : atom_in new ≡ atom
  pub left : after_atom new ≡ old
  pub fits : AtomFits new

-- on top of the new stack are the atoms from a place on, each of which fits
pub record AtomsPut (atoms : List Atom) (at : ℕ) (new : List ℕ) : Type 0 where
  pub value : atoms_in (length atoms - at) new ≡ drop at atoms
  pub fits : AtomsFit (length atoms - at) new
