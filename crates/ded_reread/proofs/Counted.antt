-- Tests and measures of atoms that are the same of what is read back, wherever an atom stands.
use Rattle.std.proofs.Common.{◌≡◌, ℕ, ◌+◌, max, Bool, true, false, ◌||◌, List, ◌∷◌, length, map, Option, Some, None, not, ◌==◌, refl, ap, ap₂}
use Rattle.std.proofs.lemmas.List.{length-map}
use Rattle.ded_model.specs.declared.formula.CompareOp.{CompareOp}
use Rattle.ded_model.specs.declared.formula.Operand.{Operand}
use Rattle.ded_model.specs.Constraint.{LinearConstraint}
use Rattle.ded_model.specs.Form.{Form, FormAtom, compare, member, atom_speaks_of}
use Rattle.ded_model.specs.Goal.{GoalForm}
use Rattle.ded_model.specs.Known.{Known, KnownNames, atom_level, is_unknown_atom, other_arity, is_arity_atom}
use Rattle.ded_model.specs.Logic.{atom, always, never, negation, every_of, some_of, implies, minus, exists, forall, Logics, none, also, some_atom, some_atom_of, greatest, greatest_of, quantifiers}
use Rattle.ded_model.specs.Made.{base}
use Rattle.ded_model.specs.Slotted.{SlotScope, atom_goal}
use Rattle.ded_print.specs.Tuples.{Names}
use Rattle.ded_dump.specs.Comparisons.{below, row_of}
use Rattle.ded_reread.specs.Formulas.{restored_atom}
use Rattle.ded_reread.specs.Operands.{restored_operand, constant_compare, restored_compare}
use Rattle.ded_reread.proofs.Below.{again, all_again}
use Rattle.ded_reread.proofs.Compared.{read_row}

-- ---- formulas

module _ (names : Names) (test : FormAtom → Bool) (same : (g : GoalForm) (a : FormAtom) → test (restored_atom names a g) ≡ test a) where
  mutual
    pub some_again : (f : Form) (scope : SlotScope) (n : ℕ) → some_atom test (again names scope n f) ≡ some_atom test f
    some_again (atom a) scope n = same (atom_goal scope a) a
    some_again always scope n = refl
    some_again never scope n = refl
    some_again (negation f) scope n = some_again f scope n
    some_again (every_of fs) scope n = some_all_again fs scope n
    some_again (some_of fs) scope n = some_all_again fs scope n
    some_again (implies f g) scope n = ap₂ (λ a b. a || b) (some_again f scope n) (some_again g scope (n + quantifiers f))
    some_again (minus f g) scope n = refl
    some_again (exists s k f) scope n = some_again f ((k, record { number = n; sort = s }) ∷ scope) (n + 1)
    some_again (forall s k f) scope n = some_again f ((k, record { number = n; sort = s }) ∷ scope) (n + 1)

    some_all_again : (fs : Logics FormAtom) (scope : SlotScope) (n : ℕ) → some_atom_of test (all_again names scope n fs) ≡ some_atom_of test fs
    some_all_again none scope n = refl
    some_all_again (also f fs) scope n = ap₂ (λ a b. a || b) (some_again f scope n) (some_all_again fs scope (n + quantifiers f))

module _ (names : Names) (of_atom : FormAtom → ℕ) (same : (g : GoalForm) (a : FormAtom) → of_atom (restored_atom names a g) ≡ of_atom a) where
  mutual
    pub greatest_again : (f : Form) (scope : SlotScope) (n : ℕ) → greatest of_atom (again names scope n f) ≡ greatest of_atom f
    greatest_again (atom a) scope n = same (atom_goal scope a) a
    greatest_again always scope n = refl
    greatest_again never scope n = refl
    greatest_again (negation f) scope n = greatest_again f scope n
    greatest_again (every_of fs) scope n = greatest_all_again fs scope n
    greatest_again (some_of fs) scope n = greatest_all_again fs scope n
    greatest_again (implies f g) scope n = ap₂ (λ a b. max a b) (greatest_again f scope n) (greatest_again g scope (n + quantifiers f))
    greatest_again (minus f g) scope n = refl
    greatest_again (exists s k f) scope n = greatest_again f ((k, record { number = n; sort = s }) ∷ scope) (n + 1)
    greatest_again (forall s k f) scope n = greatest_again f ((k, record { number = n; sort = s }) ∷ scope) (n + 1)

    greatest_all_again : (fs : Logics FormAtom) (scope : SlotScope) (n : ℕ) → greatest_of of_atom (all_again names scope n fs) ≡ greatest_of of_atom fs
    greatest_all_again none scope n = refl
    greatest_all_again (also f fs) scope n = ap₂ (λ a b. max a b) (greatest_again f scope n) (greatest_all_again fs scope (n + quantifiers f))

-- ---- atoms

-- what all comparisons have
compare_again : (Y : FormAtom → Type 0) → ((l : Operand) (o : CompareOp) (r : Operand) → Y (compare l o r)) → (names : Names) (l : Operand) (o : CompareOp) (r : Operand) (q : Option LinearConstraint)
    → Y (restored_compare names l o r q)
compare_again Y each names l o r (Some q) = read_row Y names o q (λ b. truth b) (λ c cs e p. each _ _ _)
  where
    truth : (b : Bool) → Y (constant_compare b)
    truth true = each _ _ _
    truth false = each _ _ _
compare_again Y each names l o r None = each _ _ _

pub unknown_same : (K : KnownNames) (names : Names) (g : GoalForm) (a : FormAtom) → is_unknown_atom K (restored_atom names a g) ≡ is_unknown_atom K a
unknown_same K names g (compare l o r) = compare_again (λ a. is_unknown_atom K a ≡ false) (λ l o r. refl) names l o r (row_of (below g))
unknown_same K names g (member n ts) = refl

arity_same : (o : Option Known) (ts : List Operand) → other_arity o (map restored_operand ts) ≡ other_arity o ts
arity_same None ts = refl
arity_same (Some k) ts = ap (λ n. not (n == length k.columns)) (length-map ts restored_operand)

pub arities_same : (K : KnownNames) (names : Names) (g : GoalForm) (a : FormAtom) → is_arity_atom K (restored_atom names a g) ≡ is_arity_atom K a
arities_same K names g (compare l o r) = compare_again (λ a. is_arity_atom K a ≡ false) (λ l o r. refl) names l o r (row_of (below g))
arities_same K names g (member n ts) = arity_same (K (base n)) ts

pub speaks_same : (m : List ℕ) (names : Names) (g : GoalForm) (a : FormAtom) → atom_speaks_of m (restored_atom names a g) ≡ atom_speaks_of m a
speaks_same m names g (compare l o r) = compare_again (λ a. atom_speaks_of m a ≡ false) (λ l o r. refl) names l o r (row_of (below g))
speaks_same m names g (member n ts) = refl

pub level_same : (K : KnownNames) (names : Names) (g : GoalForm) (a : FormAtom) → atom_level K (restored_atom names a g) ≡ atom_level K a
level_same K names g (compare l o r) = compare_again (λ a. atom_level K a ≡ 0) (λ l o r. refl) names l o r (row_of (below g))
level_same K names g (member n ts) = refl
