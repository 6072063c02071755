-- The tuple of comparisons without long rows has numbers of at most 63 digits.
use Rattle.std.proofs.Common.{Ok, Err, ◌≡◌, ℕ, ◌≤◌, max, nat_lt, Bool, true, false, not, ◌||◌, ◌&&◌, cond, List, [], ◌∷◌, ◌++◌, arith, refl, sym, ap, ◌∙◌, subst, bytes_eq}
use Rattle.std.specs.Prelude.{ℤ, pos, ◌<ℤ◌, Result}
use Rattle.std.proofs.lemmas.Int.{ints}
use Rattle.std.specs.Result.{IfOk}
use Rattle.std.specs.declared.cmp.Ordering.{Ordering}
use Rattle.std.specs.declared.cmp.Ordering.TheVariants.{Less, Equal, Greater}
use Rattle.ded_num.specs.Length.{length_of}
use Rattle.ded_num.proofs.Lengths.{length_of-le}
use Rattle.ded_model.specs.declared.name.Column.{Column}
use Rattle.ded_model.specs.declared.formula.CompareOp.{CompareOp}
use Rattle.ded_model.specs.declared.formula.CompareOp.TheVariants as op
use Rattle.ded_model.specs.declared.formula.Operand.{Operand}
use Rattle.ded_model.specs.declared.formula.Operand.TheVariants.{Single, Sum, Quoted}
use Rattle.ded_model.specs.declared.tuple.ThemeAtom.TheVariants.{EqSlot, NeSlot}
use Rattle.ded_model.specs.declared.tuple.BothAtom.TheVariants.{First, Second}
use Rattle.ded_model.specs.Constraint.{LinearConstraint}
use Rattle.ded_model.specs.Point.{same_slot}
use Rattle.ded_model.specs.Row.{Atom}
use Rattle.ded_model.specs.Normal.{numbers, normal_row, is_true_row, atom_order, place_atom, ordered_atoms}
use Rattle.ded_model.specs.Width.{greatest_length, row_length, tuple_length}
use Rattle.ded_model.specs.Logic.{atom, always, never, negation, every_of, some_of, implies, minus, exists, forall, logics, some_atom, some_below, some_below_of, some_atom_of, AllAtomsOf}
use Rattle.ded_model.specs.Form.{Form, compare, member}
use Rattle.ded_model.specs.Goal.{GoalForm, linear, theme}
use Rattle.ded_model.specs.Known.{is_unbound_operand, is_unbound_atom, is_text_sum}
use Rattle.ded_model.specs.LongRows.{denominator_of, row_coefs, row_constant, is_long_row, is_quoted, is_long_atom}
use Rattle.ded_model.specs.Plain.{IsPlain, IsPlainOperand, IsPlainAtom}
use Rattle.ded_model.specs.Slotted.{SlotScope, heading_scope, slot_sum, comparison_row, sums_goal, TextSide, at, word, text_side, same_text_goal, other_text_goal, texts_goal, is_text_operand, goal_below, goal_atoms, comparison_atoms, tuple_of}
use Rattle.ded_resolve.specs.Scope.{sorts_of, AreApart}
use Rattle.ded_resolve.specs.Tuples.{is_missorted_comparison}
use Rattle.ded_resolve.proofs.Reading.{numbered_heading, sorts_heading}
use Rattle.ded_resolve.specs.Ready.{AreReady}
use Rattle.ded_resolve.proofs.SlotNumbers.{summable_parts}
use Rattle.ded_resolve.proofs.ShortRows.{AllShort, constant_short, IsNumeric, comparison_short}
use Rattle.ded_model.proofs.Bools.{or_false_left, or_false_right}

-- ---- atoms

-- a row with numbers of at most 63 digits, or a text atom
abbrev IsShortAtom : Atom → Type 0
IsShortAtom (First r) = AllShort (numbers r)
IsShortAtom (Second a) = Unit {0}

abbrev AreShort : List Atom → Type 0
AreShort [] = Unit {0}
AreShort (a ∷ atoms) = IsShortAtom a × AreShort atoms

short-append : (xs ys : List Atom) → AreShort xs → AreShort ys → AreShort (xs ++ ys)
short-append [] ys h k = k
short-append (x ∷ xs) ys h k = (h.0, short-append xs ys h.1 k)

short-place : (a : Atom) (xs : List Atom) → IsShortAtom a → AreShort xs → AreShort (place_atom a xs)
short-place a [] h k = (h, tt)
short-place a (b ∷ bs) h k = go (atom_order a b) refl (short-place a bs h k.1)
  where
    go : (o : Ordering) → atom_order a b ≡ o → AreShort (place_atom a bs) → AreShort (place_atom a (b ∷ bs))
    go Less e ih = rw e (h, k)
    go Equal e ih = rw e k
    go Greater e ih = rw e (k.0, ih)

short-ordered : (xs : List Atom) → AreShort xs → AreShort (ordered_atoms xs)
short-ordered [] h = tt
short-ordered (x ∷ xs) h = short-place x (ordered_atoms xs) h.0 (short-ordered xs h.1)

-- ---- lengths

pub greatest_of : (zs : List ℤ) → AllShort zs → greatest_length zs ≤ 63
greatest_of [] h = omega arith
greatest_of (z ∷ zs) h = most (length_of z) (greatest_length zs) (length_of-le z 63 h.0) (greatest_of zs h.1)
  where
    most : (m n : ℕ) → m ≤ 63 → n ≤ 63 → max m n ≤ 63
    most m n h k = omega arith

length_of_tuple : (t : List Atom) → AreShort t → tuple_length t ≤ 63
length_of_tuple [] h = omega arith
length_of_tuple (First r ∷ atoms) h = most (row_length r) (tuple_length atoms) (greatest_of (numbers r) h.0) (length_of_tuple atoms h.1)
  where
    most : (m n : ℕ) → m ≤ 63 → n ≤ 63 → max m n ≤ 63
    most m n h k = omega arith
length_of_tuple (Second a ∷ atoms) h = length_of_tuple atoms h.1

-- ---- goals

-- the atoms of a goal are short
abbrev IsShortGoal : GoalForm → Type 0
IsShortGoal g = AreShort (goal_atoms g)

either_short : (b : Bool) (g g' : GoalForm) → IsShortGoal g → IsShortGoal g' → IsShortGoal (cond b g g')
either_short true g g' h k = h
either_short false g g' h k = k

never_short : IsShortGoal never
never_short = ((constant_short, tt), tt)

row_short : (r : LinearConstraint) → AllShort (numbers r) → IsShortGoal (atom (linear r))
row_short r h = go (is_true_row r)
  where
    go : (b : Bool) → AreShort (cond b [] (First r ∷ []))
    go true = tt
    go false = (h, tt)

same_text_short : (l r : TextSide) → IsShortGoal (same_text_goal l r)
same_text_short (at s) (at t) = either_short (same_slot s t) always (cond (nat_lt s.number t.number) (atom (theme (EqSlot s t))) (atom (theme (EqSlot t s)))) tt (either_short (nat_lt s.number t.number) (atom (theme (EqSlot s t))) (atom (theme (EqSlot t s))) (tt, tt) (tt, tt))
same_text_short (at s) (word t) = (tt, tt)
same_text_short (word t) (at s) = (tt, tt)
same_text_short (word t) (word u) = either_short (bytes_eq t u) always never tt never_short

other_text_short : (l r : TextSide) → IsShortGoal (other_text_goal l r)
other_text_short (at s) (at t) = either_short (same_slot s t) never (cond (nat_lt s.number t.number) (atom (theme (NeSlot s t))) (atom (theme (NeSlot t s)))) never_short (either_short (nat_lt s.number t.number) (atom (theme (NeSlot s t))) (atom (theme (NeSlot t s))) (tt, tt) (tt, tt))
other_text_short (at s) (word t) = (tt, tt)
other_text_short (word t) (at s) = (tt, tt)
other_text_short (word t) (word u) = either_short (bytes_eq t u) never always never_short tt

texts_short : (l r : TextSide) (o : CompareOp) → IsShortGoal (texts_goal l o r)
texts_short l r op.Less = never_short
texts_short l r op.LessEq = never_short
texts_short l r op.Equal = same_text_short l r
texts_short l r op.NotEqual = other_text_short l r
texts_short l r op.GreaterEq = never_short
texts_short l r op.Greater = never_short

-- what is no text is not quoted
pub unquoted : (scope : SlotScope) (t : Operand) → is_text_operand scope t ≡ false → is_quoted t ≡ false
unquoted scope (Single x) e = refl
unquoted scope (Sum t) e = refl
unquoted scope (Quoted t) e = e

-- the denominator of two operands
pub positive_denominator : (l r : Operand) → IsPlainOperand l → IsPlainOperand r → pos 0 <ℤ denominator_of l r
positive_denominator (Sum t) r h k = h.0
positive_denominator (Single x) (Sum u) h k = k.0
positive_denominator (Single x) (Single y) h k = omega (arith, ints)
positive_denominator (Single x) (Quoted u) h k = omega (arith, ints)
positive_denominator (Quoted t) (Sum u) h k = k.0
positive_denominator (Quoted t) (Single y) h k = omega (arith, ints)
positive_denominator (Quoted t) (Quoted u) h k = omega (arith, ints)

-- what is left of a test
pub third : (a b c : Bool) → a ≡ false → b ≡ false → ((not a && not b) && c) ≡ false → c ≡ false
third a b c e f h = sym (ap (λ x. (not x && not b) && c) e ∙ ap (λ x. (not false && not x) && c) f) ∙ h

-- what of a comparison has to be so
pub record IsShortForm (scope : SlotScope) (f : Form) : Type 0 where
  pub plain : IsPlain f
  pub bound : some_below is_unbound_atom (sorts_of scope) f ≡ false
  pub sorted : some_below is_missorted_comparison (sorts_of scope) f ≡ false
  pub short : some_atom is_long_atom f ≡ false

sums_short : (scope : SlotScope) (l r : Operand) (o : CompareOp) → IsNumeric scope l r → is_long_row (row_coefs l r) (row_constant l r) ≡ false → IsShortGoal (sums_goal (slot_sum scope l) o (slot_sum scope r))
sums_short scope l r o h s = go o (λ o. comparison_short scope l r h s o)
  where
    go : (o : CompareOp) → ((o : CompareOp) → AllShort (numbers (normal_row (comparison_row (slot_sum scope l) o (slot_sum scope r))))) → IsShortGoal (sums_goal (slot_sum scope l) o (slot_sum scope r))
    go op.Less k = row_short (normal_row (comparison_row (slot_sum scope l) op.Less (slot_sum scope r))) (k op.Less)
    go op.LessEq k = row_short (normal_row (comparison_row (slot_sum scope l) op.LessEq (slot_sum scope r))) (k op.LessEq)
    go op.Equal k = row_short (normal_row (comparison_row (slot_sum scope l) op.Equal (slot_sum scope r))) (k op.Equal)
    go op.NotEqual k = tt
    go op.GreaterEq k = row_short (normal_row (comparison_row (slot_sum scope l) op.GreaterEq (slot_sum scope r))) (k op.GreaterEq)
    go op.Greater k = row_short (normal_row (comparison_row (slot_sum scope l) op.Greater (slot_sum scope r))) (k op.Greater)

compare_short : (scope : SlotScope) (l r : Operand) (o : CompareOp) → AreApart scope → IsShortForm scope (atom (compare l o r)) → IsShortGoal (goal_below scope 0 (atom (compare l o r)))
compare_short scope l r o apart h = go (is_text_operand scope l) refl (is_text_operand scope r) refl
  where
    go : (b : Bool) → is_text_operand scope l ≡ b → (d : Bool) → is_text_operand scope r ≡ d → IsShortGoal (cond (b || d) (texts_goal (text_side scope l) o (text_side scope r)) (sums_goal (slot_sum scope l) o (slot_sum scope r)))
    go true e d f = texts_short (text_side scope l) (text_side scope r) o
    go false e true f = texts_short (text_side scope l) (text_side scope r) o
    go false e false f =
        let sums : (is_text_sum (sorts_of scope) l || is_text_sum (sorts_of scope) r) ≡ false = or_false_left (is_text_sum (sorts_of scope) l || is_text_sum (sorts_of scope) r) _ h.sorted in
        let m = denominator_of l r in
        sums_short scope l r o
        (record {
          numbers = record {
            left = summable_parts m scope l apart h.plain.0 (or_false_left _ _ h.bound) (or_false_left _ _ sums) e;
            right = summable_parts m scope r apart h.plain.1 (or_false_right (is_unbound_operand (sorts_of scope) l) _ h.bound) (or_false_right (is_text_sum (sorts_of scope) l) _ sums) f;
          };
          positive = positive_denominator l r h.plain.0 h.plain.1;
          shared = h.plain.2;
          left = e;
          right = f;
        })
        (third (is_quoted l) (is_quoted r) (is_long_row (row_coefs l r) (row_constant l r)) (unquoted scope l e) (unquoted scope r f) h.short)

goal_short : (scope : SlotScope) (f : Form) → AreApart scope → IsShortForm scope f → IsShortGoal (goal_below scope 0 f)
goal_short scope (atom (compare l o r)) a h = compare_short scope l r o a h
goal_short scope (atom (member n ts)) a h = tt
goal_short scope always a h = tt
goal_short scope never a h = never_short
goal_short scope (negation f) a h = tt
goal_short scope (every_of fs) a h = tt
goal_short scope (some_of fs) a h = tt
goal_short scope (implies f g) a h = tt
goal_short scope (minus f g) a h = tt
goal_short scope (exists s k f) a h = tt
goal_short scope (forall s k f) a h = tt

-- ---- tuples

atoms_short : (scope : SlotScope) (fs : List Form) → AreApart scope → AllAtomsOf IsPlainAtom (logics fs) → some_below_of is_unbound_atom (sorts_of scope) (logics fs) ≡ false
    → some_below_of is_missorted_comparison (sorts_of scope) (logics fs) ≡ false → some_atom_of is_long_atom (logics fs) ≡ false → AreShort (comparison_atoms scope fs)
atoms_short scope [] a p b s h = tt
atoms_short scope (f ∷ fs) a p b s h =
    short-append (goal_atoms (goal_below scope 0 f)) (comparison_atoms scope fs)
    (goal_short scope f a (record { plain = p.0; bound = or_false_left _ _ b; sorted = or_false_left _ _ s; short = or_false_left _ _ h }))
    (atoms_short scope fs a p.1 (or_false_right (some_below is_unbound_atom (sorts_of scope) f) _ b) (or_false_right (some_below is_missorted_comparison (sorts_of scope) f) _ s) (or_false_right (some_atom is_long_atom f) _ h))

-- the tuple of comparisons over a heading
pub tuple_short : (h : List Column) (fs : List Form) → AreReady h (logics fs) → tuple_length (tuple_of h fs) ≤ 63
unfolding tuple_of
tuple_short h fs k =
    let scope = heading_scope 0 h in
    length_of_tuple (ordered_atoms (comparison_atoms scope fs)) (short-ordered (comparison_atoms scope fs)
    (atoms_short scope fs (numbered_heading h).apart k.plain (ap (λ s. some_below_of is_unbound_atom s (logics fs)) (sorts_heading 0 h) ∙ k.bound)
    (ap (λ s. some_below_of is_missorted_comparison s (logics fs)) (sorts_heading 0 h) ∙ k.sorted) k.short))

-- so it is of what is such a tuple
pub short_result : {E : Type 0} (r : Result (List Atom) E) (h : List Column) (fs : List Form) → IfOk r (λ t. t ≡ tuple_of h fs) → AreReady h (logics fs) → IfOk r (λ t. tuple_length t ≤ 63)
short_result (Ok t) h fs e k = subst (λ t. tuple_length t ≤ 63) (sym e) (tuple_short h fs k)
short_result (Err e) h fs i k = tt
