-- Sums that have each name once and a denominator above 0, and comparisons whose two sides are over one denominator, as formulas
-- that are read have.
use Rattle.std.specs.Prelude.{◌≡◌, ◌<ℤ◌, ℕ, ℤ, pos, false, List, [], ◌∷◌}
use Rattle.std.specs.Str.{bytes_eq}
use Rattle.std.specs.List.{list_any}
use Rattle.ded_model.specs.declared.formula.Operand.{Operand}
use Rattle.ded_model.specs.declared.formula.Operand.TheVariants.{Single, Sum, Quoted}
use Rattle.ded_model.specs.Logic.{AllAtoms, AllAtomsOf}
use Rattle.ded_model.specs.Form.{Form, FormAtom, compare, member}
use Rattle.ded_model.specs.Command.{CommandForm, header, relation, insert, delete, drop, view, keep, ask, query, show, box_of, explain, dump, disjoint, verify}

-- no name stands twice
abbrev pub AreOnce : List (List ℕ × ℤ) → Type 0
AreOnce [] = Unit {0}
AreOnce (c ∷ cs) = (list_any (λ d. bytes_eq c.0 d.0) cs ≡ false) × AreOnce cs

-- a sum that has each name once, over a denominator above 0, or what is no sum
abbrev pub IsPlainOperand : Operand → Type 0
IsPlainOperand (Single x) = Unit {0}
IsPlainOperand (Sum t) = (pos 0 <ℤ t.over) × AreOnce t.parts
IsPlainOperand (Quoted t) = Unit {0}

-- each of the operands is a sum that has each name once, over a denominator above 0, or is no sum
abbrev pub ArePlainOperands : List Operand → Type 0
ArePlainOperands [] = Unit {0}
ArePlainOperands (t ∷ ts) = IsPlainOperand t × ArePlainOperands ts

-- two sums are over one denominator
abbrev pub ShareDenominator : Operand → Operand → Type 0
ShareDenominator (Sum t) (Sum u) = t.over ≡ u.over
ShareDenominator (Sum t) (Single x) = Unit {0}
ShareDenominator (Sum t) (Quoted x) = Unit {0}
ShareDenominator (Single x) r = Unit {0}
ShareDenominator (Quoted x) r = Unit {0}

-- each sum of the atom has each name once and a denominator above 0, and two sums that it compares are over one
-- denominator
abbrev pub IsPlainAtom : FormAtom → Type 0
IsPlainAtom (compare l op r) = IsPlainOperand l × IsPlainOperand r × ShareDenominator l r
IsPlainAtom (member n ts) = ArePlainOperands ts

-- each sum of the formula has each name once and a denominator above 0, and the two sides of each comparison are over one denominator
abbrev pub IsPlain : Form → Type 0
IsPlain f = AllAtoms IsPlainAtom f

-- in each formula of the command each sum has each name once and a denominator above 0, and the two sides of each
-- comparison are over one denominator
abbrev pub IsPlainCommand : CommandForm → Type 0
IsPlainCommand header = Unit {0}
IsPlainCommand (relation n h) = Unit {0}
IsPlainCommand (insert n fs) = AllAtomsOf IsPlainAtom fs
IsPlainCommand (delete n k) = Unit {0}
IsPlainCommand (drop n) = Unit {0}
IsPlainCommand (view n h f) = IsPlain f
IsPlainCommand (keep n) = Unit {0}
IsPlainCommand (ask f) = IsPlain f
IsPlainCommand (query h f) = IsPlain f
IsPlainCommand (show n) = Unit {0}
IsPlainCommand (box_of n) = Unit {0}
IsPlainCommand (explain h f) = IsPlain f
IsPlainCommand dump = Unit {0}
IsPlainCommand (disjoint n m) = Unit {0}
IsPlainCommand (verify n m es) = Unit {0}
