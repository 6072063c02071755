-- Goals are sorted, and their rows and sums are over rational slots.
--
-- A quantifier has a slot of its own sort. A comparison has a row only where neither side is a text, and a sum that is not
-- refused has no text variable, so all slots that rows and sums are made of are rational.
use Rattle.std.proofs.Common.{◌≡◌, ℕ, ◌+◌, Bool, false, ◌||◌, List, [], ◌∷◌, map, refl, sym, ap, ◌∙◌}
use Rattle.std.specs.Prelude.{ℤ}
use Rattle.std.specs.List.{list_any}
use Rattle.ded_model.specs.declared.slot.Slot.{Slot}
use Rattle.ded_model.specs.declared.slot.Sort.TheVariants.{Rat, Text}
use Rattle.ded_model.specs.declared.name.Column.{Column}
use Rattle.ded_model.specs.declared.formula.Operand.{Operand}
use Rattle.ded_model.specs.declared.formula.Operand.TheVariants.{Single, Sum, Quoted}
use Rattle.ded_model.specs.declared.goal.Place.{Place}
use Rattle.ded_model.specs.declared.goal.Place.TheVariants.{At, Value}
use Rattle.ded_model.specs.declared.goal.Place.TheVariants as place
use Rattle.ded_model.specs.Point.{same_sort}
use Rattle.ded_model.specs.Logic.{atom, always, never, negation, every_of, some_of, implies, minus, exists, forall, Logics, none, also, AllAtoms, AllAtomsOf, IsSorted, AreSorted, Scope, some_below, some_below_of, quantifiers}
use Rattle.ded_model.specs.Form.{Form, FormAtom, compare, member}
use Rattle.ded_model.specs.Goal.{GoalForm, GoalAtom, linear, theme}
use Rattle.ded_model.specs.Goal as goal
use Rattle.ded_model.specs.Rational.{AreRationalCoefs, AreRationalPlaces, IsRationalGoalAtom, IsRationalGoal}
use Rattle.ded_model.specs.Slotted.{SlotScope, slot_of, add_parts, slot_sum, TextSide, at, word, text_side, is_text_operand, place_of, atom_goal, goal_below, goals_below, goal_of, heading_scope}
use Rattle.ded_model.specs.Known.{KnownNames, sort_in, sorts_differ, operand_sort, is_text_sum, is_missorted_atom, has_missorted}
use Rattle.ded_model.proofs.Comparisons.{comparison_has}
use Rattle.ded_sorts.proofs.Scopes.{sorts_of, sort_in-slot}
use Rattle.ded_sorts.proofs.Headings.{sorts_of-heading}
use Rattle.ded_sorts.proofs.Overs.{AreSlots, IsSideOver, ArePlacesOver, IsOver, put_slots, nonzero_slots, comparison_over}
use Rattle.ded_model.proofs.Bools.{or_false_left, or_false_right}
use Rattle.ded_model.proofs.SlotLists.{rational}

-- ---- sorted goals

-- the goal of an atom
atom_sorted : (slots : SlotScope) (a : FormAtom) → IsSorted (atom_goal slots a)
atom_sorted slots (compare l op r) = comparison_has IsSorted (record { holds = tt; fails = tt; text = λ a. tt }) (record { row = λ q. tt; other = λ q. tt }) slots l r op
atom_sorted slots (member x ts) = tt

mutual
  -- the goal of a formula
  pub goal_sorted : (f : Form) (slots : SlotScope) (n : ℕ) → IsSorted (goal_below slots n f)
  goal_sorted (atom a) slots n = atom_sorted slots a
  goal_sorted always slots n = tt
  goal_sorted never slots n = tt
  goal_sorted (negation f) slots n = goal_sorted f slots n
  goal_sorted (every_of fs) slots n = goals_sorted fs slots n
  goal_sorted (some_of fs) slots n = goals_sorted fs slots n
  goal_sorted (implies f g) slots n = (goal_sorted f slots n, goal_sorted g slots (n + quantifiers f))
  goal_sorted (minus f g) slots n = (goal_sorted f slots n, goal_sorted g slots (n + quantifiers f))
  goal_sorted (exists s k f) slots n = (refl, goal_sorted f ((k, record { number = n; sort = s }) ∷ slots) (n + 1))
  goal_sorted (forall s k f) slots n = (refl, goal_sorted f ((k, record { number = n; sort = s }) ∷ slots) (n + 1))

  -- of a list
  goals_sorted : (fs : Logics FormAtom) (slots : SlotScope) (n : ℕ) → AreSorted (goals_below slots n fs)
  goals_sorted none slots n = tt
  goals_sorted (also f fs) slots n = (goal_sorted f slots n, goals_sorted fs slots (n + quantifiers f))

-- ---- properties of all atoms

module _ (P Q : GoalAtom → Type 0) (weaker : (a : GoalAtom) → P a → Q a) where
  mutual
    -- what follows of each atom follows of all
    all_weaker : (g : GoalForm) → AllAtoms P g → AllAtoms Q g
    all_weaker (atom a) h = weaker a h
    all_weaker always h = tt
    all_weaker never h = tt
    all_weaker (negation f) h = all_weaker f h
    all_weaker (every_of fs) h = all_weaker_of fs h
    all_weaker (some_of fs) h = all_weaker_of fs h
    all_weaker (implies f g) h = (all_weaker f h.0, all_weaker g h.1)
    all_weaker (minus f g) h = (all_weaker f h.0, all_weaker g h.1)
    all_weaker (exists s k f) h = all_weaker f h
    all_weaker (forall s k f) h = all_weaker f h

    -- of a list
    all_weaker_of : (fs : Logics GoalAtom) → AllAtomsOf P fs → AllAtomsOf Q fs
    all_weaker_of none h = tt
    all_weaker_of (also f fs) h = (all_weaker f h.0, all_weaker_of fs h.1)

module _ (P : GoalAtom → Type 0) (test : Scope → FormAtom → Bool) (step : (slots : SlotScope) (a : FormAtom) → test (sorts_of slots) a ≡ false → AllAtoms P (atom_goal slots a)) where
  mutual
    -- the goals of atoms that don't pass a test have the property, so the goal of a formula without such atoms has it
    all_below : (f : Form) (slots : SlotScope) (n : ℕ) → some_below test (sorts_of slots) f ≡ false → AllAtoms P (goal_below slots n f)
    all_below (atom a) slots n h = step slots a h
    all_below always slots n h = tt
    all_below never slots n h = tt
    all_below (negation f) slots n h = all_below f slots n h
    all_below (every_of fs) slots n h = all_below_of fs slots n h
    all_below (some_of fs) slots n h = all_below_of fs slots n h
    all_below (implies f g) slots n h = (all_below f slots n (or_false_left _ _ h), all_below g slots (n + quantifiers f) (or_false_right (some_below test (sorts_of slots) f) _ h))
    all_below (minus f g) slots n h = (all_below f slots n (or_false_left _ _ h), all_below g slots (n + quantifiers f) (or_false_right (some_below test (sorts_of slots) f) _ h))
    all_below (exists s k f) slots n h = all_below f ((k, record { number = n; sort = s }) ∷ slots) (n + 1) h
    all_below (forall s k f) slots n h = all_below f ((k, record { number = n; sort = s }) ∷ slots) (n + 1) h

    -- of a list
    all_below_of : (fs : Logics FormAtom) (slots : SlotScope) (n : ℕ) → some_below_of test (sorts_of slots) fs ≡ false → AllAtomsOf P (goals_below slots n fs)
    all_below_of none slots n h = tt
    all_below_of (also f fs) slots n h = (all_below f slots n (or_false_left _ _ h), all_below_of fs slots (n + quantifiers f) (or_false_right (some_below test (sorts_of slots) f) _ h))

-- ---- rational slots

-- the property of the slots of rows and sums
abbrev Rational : Slot → Type 0
Rational u = u.sort ≡ Rat

-- no property, of the others
abbrev Any : Slot → Type 0
Any u = Unit {0}

-- each side has any slot
any_side : (l : TextSide) → IsSideOver Any l
any_side (at s) = tt
any_side (word t) = tt

-- a sum without text variables
parts_rational : (slots : SlotScope) (cs : List (List ℕ × ℤ)) → list_any (λ c. same_sort (sort_in (sorts_of slots) c.0) Text) cs ≡ false → AreSlots Rational (add_parts slots cs)
parts_rational slots [] h = tt
parts_rational slots (c ∷ cs) h =
    put_slots Rational (slot_of slots c.0) c.1 (add_parts slots cs) (sym (sort_in-slot slots c.0) ∙ rational (sort_in (sorts_of slots) c.0) (or_false_left _ _ h))
    (parts_rational slots cs (or_false_right (same_sort (sort_in (sorts_of slots) c.0) Text) _ h))

-- an operand that is no text
sum_rational : (slots : SlotScope) (t : Operand) → is_text_sum (sorts_of slots) t ≡ false → is_text_operand slots t ≡ false → AreSlots Rational (slot_sum slots t).coefs
sum_rational slots (Single x) h e = (rational (slot_of slots x).sort e, tt)
sum_rational slots (Sum t) h e = nonzero_slots Rational (add_parts slots t.parts) (parts_rational slots t.parts h)
sum_rational slots (Quoted t) h e = tt

-- the places of arguments
places_rational : (slots : SlotScope) (ts : List Operand) → list_any (is_text_sum (sorts_of slots)) ts ≡ false → ArePlacesOver Rational Any (map (place_of slots) ts)
places_rational slots [] h = tt
places_rational slots (Single x ∷ ts) h = (tt, places_rational slots ts h)
places_rational slots (Sum t ∷ ts) h =
    (nonzero_slots Rational (add_parts slots t.parts) (parts_rational slots t.parts (or_false_left _ _ h)), places_rational slots ts (or_false_right (is_text_sum (sorts_of slots) (Sum t)) _ h))
places_rational slots (Quoted t ∷ ts) h = places_rational slots ts h

-- an atom
atom_over : (K : KnownNames) (slots : SlotScope) (a : FormAtom) → is_missorted_atom K (sorts_of slots) a ≡ false → AllAtoms (IsOver Rational Any) (atom_goal slots a)
atom_over K slots (compare l op r) h =
    let sums = or_false_left (is_text_sum (sorts_of slots) l || is_text_sum (sorts_of slots) r) (sorts_differ op (operand_sort (sorts_of slots) l) (operand_sort (sorts_of slots) r)) h in
    comparison_over Rational Any slots l op r (sum_rational slots l (or_false_left _ _ sums)) (sum_rational slots r (or_false_right (is_text_sum (sorts_of slots) l) _ sums))
    (any_side (text_side slots l)) (any_side (text_side slots r))
atom_over K slots (member x ts) h = places_rational slots ts (or_false_left _ _ h)

-- ---- in the words of the specifications

-- coefficients
coefs_are : (cs : List (Slot × ℤ)) → AreSlots Rational cs → AreRationalCoefs cs
coefs_are [] h = tt
coefs_are (c ∷ cs) h = (h.0, coefs_are cs h.1)

-- places
places_are : (ts : List Place) → ArePlacesOver Rational Any ts → AreRationalPlaces ts
places_are [] h = tt
places_are (At s ∷ ts) h = places_are ts h.1
places_are (Value t ∷ ts) h = (coefs_are t.coefs h.0, places_are ts h.1)
places_are (place.Quoted t ∷ ts) h = places_are ts h

-- atoms
atom_is : (a : GoalAtom) → IsOver Rational Any a → IsRationalGoalAtom a
atom_is (linear r) h = coefs_are r.coefs h
atom_is (theme a) h = tt
atom_is (goal.member n ts) h = places_are ts h

-- the goal of a formula in which no text stands where a number has to
pub goal_rational : (K : KnownNames) (h : List Column) (f : Form) → has_missorted K h f ≡ false → IsRationalGoal (goal_of h f)
unfolding goal_of
goal_rational K h f m =
    all_below IsRationalGoalAtom (is_missorted_atom K) (λ slots a e. all_weaker (IsOver Rational Any) IsRationalGoalAtom atom_is (atom_goal slots a) (atom_over K slots a e))
    f (heading_scope 0 h) _ (ap (λ s. some_below (is_missorted_atom K) s f) (sorts_of-heading 0 h) ∙ m)

-- and of any formula
pub goal_of-sorted : (h : List Column) (f : Form) → IsSorted (goal_of h f)
unfolding goal_of
goal_of-sorted h f = goal_sorted f (heading_scope 0 h) _
