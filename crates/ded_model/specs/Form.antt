-- The formula that a value of `Formula` stands for.
use Rattle.std.specs.Prelude.{ℕ, List, map, Bool, false}
use Rattle.std.specs.Str.{bytes_eq}
use Rattle.ded_model.specs.declared.formula.CompareOp.{CompareOp}
use Rattle.ded_model.specs.declared.formula.Operand.{Operand}
use Rattle.ded_model.specs.declared.formula.Formula.{Formula, fold-Formula}
use Rattle.ded_model.specs.declared.formula.Formula.TheOpen.{Formula-F}
use Rattle.ded_model.specs.Point.{name}
use Rattle.ded_model.specs.Made.{base}
use Rattle.ded_model.specs.Logic.{Logic, atom, always, never, negation, every_of, some_of, implies, exists, forall, Logics, logics, some_atom}

-- an atom as the user writes it: a comparison, or a relation or view with its operands
pub data FormAtom : Type 0 where
  compare : Operand → CompareOp → Operand → FormAtom
  member : List ℕ → List Operand → FormAtom

-- a formula as the user writes it, with variables by name
abbrev pub Form : Type 0
Form = Logic FormAtom

-- one level, with each formula inside already seen as what it stands for
abbrev pub form_step : Formula-F Form → Form
form_step Formula-F.True = always
form_step Formula-F.False = never
form_step (Formula-F.Compare l op r) = atom (compare l op r)
form_step (Formula-F.Member n ts) = atom (member n ts)
form_step (Formula-F.Not f) = negation f.value
form_step (Formula-F.And fs) = every_of (logics fs.items)
form_step (Formula-F.Or fs) = some_of (logics fs.items)
form_step (Formula-F.Implies f g) = implies f.value g.value
form_step (Formula-F.Exists c f) = exists c.sort (name c.name) f.value
form_step (Formula-F.Forall c f) = forall c.sort (name c.name) f.value

-- the formula that a value of `Formula` stands for
abbrev pub form : Formula → Form
form = fold-Formula Form form_step

-- the formulas that the values of a list stand for
abbrev pub forms : List Formula → Logics FormAtom
forms fs = logics (map form fs)

-- whether an atom is a relation or view of the name; no comparison is
abbrev pub atom_uses : List ℕ → FormAtom → Bool
atom_uses n (compare l op r) = false
atom_uses n (member m ts) = bytes_eq n m

-- whether a formula has an atom of the name
abbrev pub uses : List ℕ → Form → Bool
uses n f = some_atom (atom_uses n) f

-- whether an atom is a relation or view of the name, or the closure or the interior of one; no comparison is
abbrev pub atom_speaks_of : List ℕ → FormAtom → Bool
atom_speaks_of n (compare l op r) = false
atom_speaks_of n (member m ts) = bytes_eq n (base m)

-- whether a formula speaks of the name: has an atom of it, of its closure or of its interior
abbrev pub speaks_of : List ℕ → Form → Bool
speaks_of n f = some_atom (atom_speaks_of n) f
