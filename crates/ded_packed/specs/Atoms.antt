-- What is read from a stack of bytes, the first one on top: coefficients, rows, text atoms and tuples.
use Rattle.std.specs.Prelude.{ℕ, zero, suc, ◌^◌, ◌<◌, ℤ, List, [], ◌∷◌, drop}
use Rattle.ded_num.specs.Length.{IsShort}
use Rattle.ded_model.specs.declared.slot.Slot.{Slot}
use Rattle.ded_model.specs.declared.slot.Sort.TheVariants.{Rat, Text}
use Rattle.ded_model.specs.declared.row.RowOp.{RowOp}
use Rattle.ded_model.specs.declared.tuple.ThemeAtom.TheVariants as theme
use Rattle.ded_model.specs.declared.tuple.BothAtom.TheVariants.{First, Second}
use Rattle.ded_model.specs.Constraint.{LinearConstraint}
use Rattle.ded_model.specs.Normal.{IsNormalTuple}
use Rattle.ded_model.specs.Row.{Atom}
use Rattle.ded_packed.specs.declared.kind.Kind.{Kind}
use Rattle.ded_packed.specs.declared.kind.Kind.TheVariants.{Row, EqText, NeText, EqSlot, NeSlot}
use Rattle.ded_packed.specs.Kinds.{kind_of}
use Rattle.ded_packed.specs.Numbers.{byte_in, natural_in, after_natural, whole_in, text_in, after_text, TextFits}

-- ---- rows

-- the coefficient of a rational slot: the slot's number on top, and the coefficient
abbrev pub coef_in : List ℕ → Slot × ℤ
coef_in bytes = (record { number = natural_in bytes; sort = Rat }, whole_in (after_natural bytes))

-- k coefficients
abbrev pub coefs_in : ℕ → List ℕ → List (Slot × ℤ)
coefs_in zero bytes = []
coefs_in (suc k) bytes = coef_in bytes ∷ coefs_in k (after_natural (after_natural bytes))

-- what is under k coefficients
abbrev pub after_coefs : ℕ → List ℕ → List ℕ
after_coefs zero bytes = bytes
after_coefs (suc k) bytes = after_coefs k (after_natural (after_natural bytes))

-- each number of k coefficients has a place in its type
abbrev pub CoefsFit : ℕ → List ℕ → Type 0
CoefsFit zero bytes = Unit {0}
CoefsFit (suc k) bytes = (natural_in bytes < 2 ^ 32) × (natural_in (after_natural bytes) < 2 ^ 128) × CoefsFit k (after_natural (after_natural bytes))

-- what is under the coefficients of a row, which begins with their count
abbrev pub under_coefs : List ℕ → List ℕ
under_coefs bytes = after_coefs (natural_in bytes) (after_natural bytes)

-- a row with the op: the count of its coefficients on top, these, and its constant
abbrev pub row_in : RowOp → List ℕ → LinearConstraint
row_in op bytes = record { coefs = coefs_in (natural_in bytes) (after_natural bytes); constant = whole_in (under_coefs bytes); op = op }

-- what is under a row
abbrev pub after_row : List ℕ → List ℕ
after_row bytes = after_natural (under_coefs bytes)

-- each number of a row has a place in its type, and the constant is short
pub record RowFits (bytes : List ℕ) : Type 0 where
  pub count : natural_in bytes < 2 ^ 64
  pub coefs : CoefsFit (natural_in bytes) (after_natural bytes)
  pub constant : natural_in (under_coefs bytes) < 2 ^ 128
  pub short : IsShort (whole_in (under_coefs bytes))

-- ---- atoms

-- a text slot, as its number
abbrev pub slot_in : List ℕ → Slot
slot_in bytes = record { number = natural_in bytes; sort = Text }

-- an atom of a kind, as its parts
abbrev pub parts_in : Kind → List ℕ → Atom
parts_in (Row op) bytes = First (row_in op bytes)
parts_in EqText bytes = Second (theme.EqText (slot_in bytes) (text_in (after_natural bytes)))
parts_in NeText bytes = Second (theme.NeText (slot_in bytes) (text_in (after_natural bytes)))
parts_in EqSlot bytes = Second (theme.EqSlot (slot_in bytes) (slot_in (after_natural bytes)))
parts_in NeSlot bytes = Second (theme.NeSlot (slot_in bytes) (slot_in (after_natural bytes)))

-- what is under the parts of an atom of a kind
abbrev pub after_parts : Kind → List ℕ → List ℕ
after_parts (Row op) bytes = after_row bytes
after_parts EqText bytes = after_text (after_natural bytes)
after_parts NeText bytes = after_text (after_natural bytes)
after_parts EqSlot bytes = after_natural (after_natural bytes)
after_parts NeSlot bytes = after_natural (after_natural bytes)

-- the parts of an atom of a kind fit: each number has a place in its type, and a text is whole
abbrev pub PartsFit : Kind → List ℕ → Type 0
PartsFit (Row op) bytes = RowFits bytes
PartsFit EqText bytes = (natural_in bytes < 2 ^ 32) × TextFits (after_natural bytes)
PartsFit NeText bytes = (natural_in bytes < 2 ^ 32) × TextFits (after_natural bytes)
PartsFit EqSlot bytes = (natural_in bytes < 2 ^ 32) × (natural_in (after_natural bytes) < 2 ^ 32)
PartsFit NeSlot bytes = (natural_in bytes < 2 ^ 32) × (natural_in (after_natural bytes) < 2 ^ 32)

-- an atom: its kind on top, then its parts
abbrev pub atom_in : List ℕ → Atom
atom_in bytes = parts_in (kind_of (byte_in bytes)) (drop 1 bytes)

-- what is under an atom
abbrev pub after_atom : List ℕ → List ℕ
after_atom bytes = after_parts (kind_of (byte_in bytes)) (drop 1 bytes)

-- the parts of the atom on top fit
abbrev pub AtomFits : List ℕ → Type 0
AtomFits bytes = PartsFit (kind_of (byte_in bytes)) (drop 1 bytes)

-- ---- tuples

-- k atoms
abbrev pub atoms_in : ℕ → List ℕ → List Atom
atoms_in zero bytes = []
atoms_in (suc k) bytes = atom_in bytes ∷ atoms_in k (after_atom bytes)

-- each of k atoms fits
abbrev pub AtomsFit : ℕ → List ℕ → Type 0
AtomsFit zero bytes = Unit {0}
AtomsFit (suc k) bytes = AtomFits bytes × AtomsFit k (after_atom bytes)

-- a tuple: the count of its atoms on top, then these
unfoldable pub tuple_in : List ℕ → List Atom
tuple_in bytes = atoms_in (natural_in bytes) (after_natural bytes)

-- the bytes of a packed tuple, the first one on top: a normal tuple of numbers that have places in their types
pub record IsPacked (bytes : List ℕ) : Type 0 where
  pub count : natural_in bytes < 2 ^ 64
  pub fits : AtomsFit (natural_in bytes) (after_natural bytes)
  pub normal : IsNormalTuple (atoms_in (natural_in bytes) (after_natural bytes))
