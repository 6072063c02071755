-- Plans whose atoms are read.
use Rattle.std.proofs.Common.{Option, Some, None, List}
use Rattle.std.specs.List.{AllByRecursion}
use Rattle.ded_model.specs.declared.slot.Slot.{Slot}
use Rattle.ded_model.specs.declared.tuple.BothAtom.TheVariants.{First, Second}
use Rattle.ded_model.specs.Row.{Atom}
use Rattle.ded_model.specs.Known.{IsTupleOver}
use Rattle.ded_model.specs.Catalogue.{Entry, relation, view, Catalogue, tuples_of}
use Rattle.ded_model.specs.Entries.{entry_of}
use Rattle.ded_model.specs.Logic.{Logic, atom, always, never, negation, every_of, some_of, implies, minus, exists, forall, Logics, none, also, AllAtoms, AllAtomsOf}
use Rattle.ded_model.specs.PlanForm.{PlanAtom, PlanForm, scan, rows}
use Rattle.ded_genrel.proofs.Items.{all_weaker}
use Rattle.ded_algebra.specs.Evaluation.{IsAnyAtom, IsScannedFrom, IsScannable, IsEvaluable}
use Rattle.ded_atoms.specs.Laws.{IsAnyRow, IsOfRows}

module _ (P Q : Atom → Type 0) (f : (a : Atom) → P a → Q a) where
  tuples_read : (R : List Atom → Type 0) (ts : List (List Atom)) → AllByRecursion (λ t. R t × AllByRecursion P t) ts → AllByRecursion (λ t. R t × AllByRecursion Q t) ts
  tuples_read R ts k = all_weaker (λ t. R t × AllByRecursion P t) (λ t. R t × AllByRecursion Q t) ts (λ t j. (j.0, all_weaker P Q t f j.1)) k

  scanned_read : (o : Option Entry) (ss : List Slot) → IsScannedFrom P o ss → IsScannedFrom Q o ss
  scanned_read None ss k = k
  scanned_read (Some (relation n h m ts)) ss k = (k.0, tuples_read (IsTupleOver h) (tuples_of ts) k.1)
  scanned_read (Some (view n h x)) ss k = k

  atom_read : (c : Catalogue) (a : PlanAtom) → IsScannable P c a → IsScannable Q c a
  atom_read c (scan n ss) k = scanned_read (entry_of c.entries n) ss k
  atom_read c (rows t) k = all_weaker P Q t f k

-- what each atom has, it has of another property that follows
mutual
  pub atoms_weaker : {L : Type 0} (P Q : L → Type 0) → ((a : L) → P a → Q a) → (g : Logic L) → AllAtoms P g → AllAtoms Q g
  atoms_weaker P Q f (atom a) k = f a k
  atoms_weaker P Q f always k = tt
  atoms_weaker P Q f never k = tt
  atoms_weaker P Q f (negation g) k = atoms_weaker P Q f g k
  atoms_weaker P Q f (every_of gs) k = every_weaker P Q f gs k
  atoms_weaker P Q f (some_of gs) k = every_weaker P Q f gs k
  atoms_weaker P Q f (implies g h) k = (atoms_weaker P Q f g k.0, atoms_weaker P Q f h k.1)
  atoms_weaker P Q f (minus g h) k = (atoms_weaker P Q f g k.0, atoms_weaker P Q f h k.1)
  atoms_weaker P Q f (exists s j g) k = atoms_weaker P Q f g k
  atoms_weaker P Q f (forall s j g) k = atoms_weaker P Q f g k

  pub every_weaker : {L : Type 0} (P Q : L → Type 0) → ((a : L) → P a → Q a) → (gs : Logics L) → AllAtomsOf P gs → AllAtomsOf Q gs
  every_weaker P Q f none k = tt
  every_weaker P Q f (also g gs) k = (atoms_weaker P Q f g k.0, every_weaker P Q f gs k.1)

-- a plan that can be evaluated where atoms have a property can be where they have one that follows
pub evaluable_weaker : (P Q : Atom → Type 0) → ((a : Atom) → P a → Q a) → (c : Catalogue) (g : PlanForm) → IsEvaluable P c g → IsEvaluable Q c g
evaluable_weaker P Q f c g k = atoms_weaker (IsScannable P c) (IsScannable Q c) (atom_read P Q f c) g k

any_read : (a : Atom) → IsAnyAtom a → IsOfRows IsAnyRow a
any_read (First r) k = tt
any_read (Second a) k = tt

-- over rows and text atoms any plan can be that can be evaluated
pub evaluable_any : (c : Catalogue) (g : PlanForm) → IsEvaluable IsAnyAtom c g → IsEvaluable (IsOfRows IsAnyRow) c g
evaluable_any = evaluable_weaker IsAnyAtom (IsOfRows IsAnyRow) any_read
