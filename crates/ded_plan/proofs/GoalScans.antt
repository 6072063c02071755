-- What the goal of a formula scans, the formula uses, at arguments of the sorts of the name's columns.
--
-- By induction on the formula: an atom of a name keeps its name, and its places have the sorts of its operands. Where the formula is
-- neither missorted nor of another arity, these are the sorts of the columns. A comparison's goal has no atom of a name.
use Rattle.std.proofs.Common.{◌≡◌, ℕ, ◌+◌, ◌==◌, Bool, true, false, not, ◌||◌, inl, inr, Option, Some, None, is_none, List, [], ◌∷◌, length, map, arith, refl, sym, ap, ◌∙◌, subst, true≢false, bytes_eq}
use Rattle.std.proofs.lemmas.Slice.Eq.{bytes_eq-Decides}
use Rattle.ded_model.specs.declared.slot.Slot.{Slot}
use Rattle.ded_model.specs.declared.name.Column.{Column}
use Rattle.ded_model.specs.declared.formula.CompareOp.{CompareOp}
use Rattle.ded_model.specs.declared.formula.Operand.{Operand}
use Rattle.ded_model.specs.declared.formula.Operand.TheVariants.{Single, Sum, Quoted}
use Rattle.ded_model.specs.Point.{same_sort}
use Rattle.ded_model.specs.Logic.{atom, always, never, negation, every_of, some_of, implies, minus, exists, forall, Logics, none, also, some_atom, some_atom_of, some_below, some_below_of, quantifiers}
use Rattle.ded_model.specs.Form.{Form, FormAtom, compare, member, atom_uses, uses}
use Rattle.ded_model.specs.Made.{base}
use Rattle.ded_model.specs.Goal.{GoalForm}
use Rattle.ded_model.specs.Slotted.{SlotScope, compare_goal, place_of, atom_goal, goal_below, goals_below, goal_of, heading_scope}
use Rattle.ded_model.specs.Known.{Known, KnownNames, is_unknown_atom, other_arity, is_arity_atom, operand_sort, arguments_differ, columns_with, is_missorted_atom, IsAccepted}
use Rattle.ded_model.proofs.Points.{and_left, and_right, same_sort_is}
use Rattle.ded_model.proofs.Rows.{or_left, or_right}
use Rattle.ded_model.proofs.Members.{or_split}
use Rattle.ded_sorts.proofs.Scopes.{sorts_of, sort_in-slot}
use Rattle.ded_sorts.proofs.Headings.{sorts_of-heading}
use Rattle.ded_model.proofs.Comparisons.{comparison_has}
use Rattle.ded_algebra.specs.Compiled.{place_sort, same_sorts, is_scanned_by}
use Rattle.ded_algebra.specs.Evaluation.{HaveSorts}
use Rattle.ded_model.proofs.Bools.{or_false_left, or_false_right}
use Rattle.std.proofs.lemmas.Bool.{not-false}
use Rattle.ded_model.proofs.Made.{same_number}

-- ---- comparisons

module _ (n : List ℕ) (ss : List Slot) where
  -- no atom of the goal is scanned
  abbrev ScansNone : GoalForm → Type 0
  ScansNone g = some_atom (is_scanned_by n ss) g ≡ false

  -- nor is one of any comparison
  comparison_none : (slots : SlotScope) (l : Operand) (op : CompareOp) (r : Operand) → ScansNone (compare_goal slots l op r)
  comparison_none slots l op r = comparison_has ScansNone (record { holds = refl; fails = refl; text = λ a. refl }) (record { row = λ q. refl; other = λ q. refl }) slots l r op

-- ---- atoms of names

-- a place has the sort of its operand
place_sort-operand : (slots : SlotScope) (t : Operand) → place_sort (place_of slots t) ≡ operand_sort (sorts_of slots) t
place_sort-operand slots (Single x) = sym (sort_in-slot slots x)
place_sort-operand slots (Sum t) = refl
place_sort-operand slots (Quoted t) = refl

-- slots of the sorts of arguments that fit the columns have the columns' sorts
columns_fit : (slots : SlotScope) (cs : List Column) (ts : List Operand) (ss : List Slot) → length ts ≡ length cs → arguments_differ (sorts_of slots) cs ts ≡ false
    → same_sorts (map place_sort (map (place_of slots) ts)) (map (λ s. s.sort) ss) ≡ true → HaveSorts cs ss
columns_fit slots [] [] [] e d h = tt
columns_fit slots [] [] (s ∷ ss) e d h = absurd (true≢false (sym h))
columns_fit slots [] (t ∷ ts) ss e d h = absurd (omega arith)
columns_fit slots (c ∷ cs) [] ss e d h = absurd (omega arith)
columns_fit slots (c ∷ cs) (t ∷ ts) [] e d h = absurd (true≢false (sym h))
columns_fit slots (c ∷ cs) (t ∷ ts) (s ∷ ss) e d h =
    let here = place_sort (place_of slots t) in
    let fits = not (same_sort c.sort (operand_sort (sorts_of slots) t)) in
    let column : c.sort ≡ operand_sort (sorts_of slots) t = same_sort_is c.sort _ (not-false _ (or_false_left fits _ d)) in
    let slot : here ≡ s.sort = same_sort_is here s.sort (and_left (same_sort here s.sort) _ h) in
    (column ∙ sym (place_sort-operand slots t) ∙ slot, columns_fit slots cs ts ss (omega arith) (or_false_right fits _ d) (and_right (same_sort here s.sort) _ h))

-- so it is with the columns of a name that is known and has as many
known_fits : (slots : SlotScope) (o : Option Known) (ts : List Operand) (ss : List Slot) → is_none o ≡ false → other_arity o ts ≡ false
    → arguments_differ (sorts_of slots) (columns_with o) ts ≡ false → same_sorts (map place_sort (map (place_of slots) ts)) (map (λ s. s.sort) ss) ≡ true → HaveSorts (columns_with o) ss
known_fits slots None ts ss u a d h = absurd (true≢false u)
known_fits slots (Some k) ts ss u a d h = columns_fit slots k.columns ts ss (same_number (length ts) (length k.columns) (not-false (length ts == length k.columns) a)) d h

-- ---- formulas

module _ (K : KnownNames) (n : List ℕ) (ss : List Slot) where
  -- a formula or an atom that uses the name, whose columns have the sorts of the slots
  abbrev IsUse : Bool → Type 0
  IsUse b = (b ≡ true) × HaveSorts (columns_with (K (base n))) ss

  -- an atom
  atom_use : (slots : SlotScope) (a : FormAtom) → is_unknown_atom K a ≡ false → is_arity_atom K a ≡ false → is_missorted_atom K (sorts_of slots) a ≡ false
      → some_atom (is_scanned_by n ss) (atom_goal slots a) ≡ true → IsUse (atom_uses n a)
  atom_use slots (compare l op r) u a m h = absurd (true≢false (sym h ∙ comparison_none n ss slots l op r))
  atom_use slots (member x ts) u a m h =
      let same = and_left (bytes_eq n x) _ h in
      let fits = known_fits slots (K (base x)) ts ss u a (or_false_right _ (arguments_differ (sorts_of slots) (columns_with (K (base x))) ts) m) (and_right (bytes_eq n x) _ h) in
      (same, subst (λ y. HaveSorts (columns_with (K (base y))) ss) (sym ((bytes_eq-Decides n x).0 same)) fits)

  -- two parts, each of which is a use where it is scanned
  parts_use : (a b d e : Bool) → (a || b) ≡ true → (a ≡ true → IsUse d) → (b ≡ true → IsUse e) → IsUse (d || e)
  parts_use a b d e h left right = elim (or_split a b h) [ inl x ↦ let r = left x in (or_left _ _ r.0, r.1) | inr x ↦ let r = right x in (or_right d _ r.0, r.1) ]

  mutual
    -- a formula over known names, of their arity and sorts
    formula_use : (f : Form) (slots : SlotScope) (m : ℕ) → some_atom (is_unknown_atom K) f ≡ false → some_atom (is_arity_atom K) f ≡ false
        → some_below (is_missorted_atom K) (sorts_of slots) f ≡ false → some_atom (is_scanned_by n ss) (goal_below slots m f) ≡ true → IsUse (some_atom (atom_uses n) f)
    formula_use (atom a) slots m u v w h = atom_use slots a u v w h
    formula_use always slots m u v w h = absurd (true≢false (sym h))
    formula_use never slots m u v w h = absurd (true≢false (sym h))
    formula_use (negation f) slots m u v w h = formula_use f slots m u v w h
    formula_use (every_of fs) slots m u v w h = formulas_use fs slots m u v w h
    formula_use (some_of fs) slots m u v w h = formulas_use fs slots m u v w h
    formula_use (implies f g) slots m u v w h =
        parts_use _ _ _ _ h (formula_use f slots m (or_false_left _ _ u) (or_false_left _ _ v) (or_false_left _ _ w))
        (formula_use g slots (m + quantifiers f) (or_false_right (some_atom (is_unknown_atom K) f) _ u) (or_false_right (some_atom (is_arity_atom K) f) _ v) (or_false_right (some_below (is_missorted_atom K) (sorts_of slots) f) _ w))
    formula_use (minus f g) slots m u v w h =
        parts_use _ _ _ _ h (formula_use f slots m (or_false_left _ _ u) (or_false_left _ _ v) (or_false_left _ _ w))
        (formula_use g slots (m + quantifiers f) (or_false_right (some_atom (is_unknown_atom K) f) _ u) (or_false_right (some_atom (is_arity_atom K) f) _ v) (or_false_right (some_below (is_missorted_atom K) (sorts_of slots) f) _ w))
    formula_use (exists s k f) slots m u v w h = formula_use f ((k, record { number = m; sort = s }) ∷ slots) (m + 1) u v w h
    formula_use (forall s k f) slots m u v w h = formula_use f ((k, record { number = m; sort = s }) ∷ slots) (m + 1) u v w h

    -- a list
    formulas_use : (fs : Logics FormAtom) (slots : SlotScope) (m : ℕ) → some_atom_of (is_unknown_atom K) fs ≡ false → some_atom_of (is_arity_atom K) fs ≡ false
        → some_below_of (is_missorted_atom K) (sorts_of slots) fs ≡ false → some_atom_of (is_scanned_by n ss) (goals_below slots m fs) ≡ true → IsUse (some_atom_of (atom_uses n) fs)
    formulas_use none slots m u v w h = absurd (true≢false (sym h))
    formulas_use (also f fs) slots m u v w h =
        parts_use _ _ _ _ h (formula_use f slots m (or_false_left _ _ u) (or_false_left _ _ v) (or_false_left _ _ w))
        (formulas_use fs slots (m + quantifiers f) (or_false_right (some_atom (is_unknown_atom K) f) _ u) (or_false_right (some_atom (is_arity_atom K) f) _ v) (or_false_right (some_below (is_missorted_atom K) (sorts_of slots) f) _ w))

-- the goal of an accepted formula
pub goal_use : (K : KnownNames) (h : List Column) (f : Form) → IsAccepted K h f → (n : List ℕ) (ss : List Slot) → some_atom (is_scanned_by n ss) (goal_of h f) ≡ true
    → (uses n f ≡ true) × HaveSorts (columns_with (K (base n))) ss
unfolding goal_of
goal_use K h f a n ss e =
    formula_use K n ss f (heading_scope 0 h) (length h) a.known a.arity (ap (λ s. some_below (is_missorted_atom K) s f) (sorts_of-heading 0 h) ∙ a.sorted) e
