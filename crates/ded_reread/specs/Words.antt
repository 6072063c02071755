-- The words and the shape of formulas as they are written. Names of variables, names of relations and views, and quoted texts pass
-- tests of their own.
use Rattle.std.specs.Prelude.{◌≡◌, ℕ, ℤ, Bool, true, List, [], ◌∷◌}
use Rattle.std.specs.List.{AllByRecursion}
use Rattle.ded_model.specs.declared.formula.Operand.{Operand}
use Rattle.ded_model.specs.declared.formula.Operand.TheVariants.{Single, Sum, Quoted}
use Rattle.ded_model.specs.declared.name.Column.{Column}
use Rattle.ded_model.specs.declared.tuple.ThemeAtom.TheVariants.{EqText, NeText, EqSlot, NeSlot}
use Rattle.ded_model.specs.declared.tuple.BothAtom.TheVariants.{First, Second}
use Rattle.ded_model.specs.Form.{Form, FormAtom, compare, member}
use Rattle.ded_model.specs.Logic.{atom, always, never, negation, every_of, some_of, implies, minus, exists, forall, Logics, none, also}
use Rattle.ded_model.specs.Point.{Key, name}
use Rattle.ded_model.specs.Row.{Atom}

-- a test of words
abbrev pub Test : Type 1
Test = List ℕ → Type 0

-- one that can be computed
abbrev pub Passes : (List ℕ → Bool) → Test
Passes test w = test w ≡ true

-- the names in the operand are N, and its text is T
abbrev pub HasWords : Test → Test → Operand → Type 0
HasWords N T (Single x) = N x
HasWords N T (Sum t) = AllByRecursion (λ (c : List ℕ × ℤ). N c.0) t.parts
HasWords N T (Quoted t) = T t

-- the names in all of the operands are N, and their texts are T
abbrev pub HaveWords : Test → Test → List Operand → Type 0
HaveWords N T [] = Unit {0}
HaveWords N T (t ∷ ts) = HasWords N T t × HaveWords N T ts

-- variables are N, relations and views are M, and texts are T
abbrev pub AtomHasWords : Test → Test → Test → FormAtom → Type 0
AtomHasWords N M T (compare l op r) = HasWords N T l × HasWords N T r
AtomHasWords N M T (member n ts) = M n × HaveWords N T ts

-- the name of a quantifier's variable
pub record IsNamed (N : Test) (k : Key) : Type 0 where
  pub word : List ℕ
  pub is : k ≡ name word
  pub passes : N word

-- two members or more
abbrev pub IsChain : Logics FormAtom → Type 0
IsChain none = ⊥
IsChain (also f none) = ⊥
IsChain (also f (also g fs)) = Unit {0}

-- the formula has such words alone, chains of two members or more, and no `minus`
abbrev mutual
  pub IsWritten : Test → Test → Test → Form → Type 0
  IsWritten N M T (atom a) = AtomHasWords N M T a
  IsWritten N M T always = Unit {0}
  IsWritten N M T never = Unit {0}
  IsWritten N M T (negation f) = IsWritten N M T f
  IsWritten N M T (every_of fs) = IsChain fs × AreWritten N M T fs
  IsWritten N M T (some_of fs) = IsChain fs × AreWritten N M T fs
  IsWritten N M T (implies f g) = IsWritten N M T f × IsWritten N M T g
  IsWritten N M T (minus f g) = ⊥
  IsWritten N M T (exists s k f) = IsNamed N k × IsWritten N M T f
  IsWritten N M T (forall s k f) = IsNamed N k × IsWritten N M T f

  -- each formula of the list is such
  pub AreWritten : Test → Test → Test → Logics FormAtom → Type 0
  AreWritten N M T none = Unit {0}
  AreWritten N M T (also f fs) = IsWritten N M T f × AreWritten N M T fs

-- ---- tuples and headings

-- the text of the atom, if it has one, is T
abbrev pub HasTexts : Test → Atom → Type 0
HasTexts T (First r) = Unit {0}
HasTexts T (Second (EqText s t)) = T t
HasTexts T (Second (NeText s t)) = T t
HasTexts T (Second (EqSlot s t)) = Unit {0}
HasTexts T (Second (NeSlot s t)) = Unit {0}

-- each text in the tuple is T
abbrev pub TupleHasTexts : Test → List Atom → Type 0
TupleHasTexts T = AllByRecursion (HasTexts T)

-- the name of each column is N
abbrev pub AreNamed : Test → List Column → Type 0
AreNamed N = AllByRecursion (λ (c : Column). N c.name)
