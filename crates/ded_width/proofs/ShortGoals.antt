-- Where no comparison and no argument of a formula is long, the rows of its goal have numbers of at most 63 digits.
use Rattle.std.proofs.Common.{◌≡◌, ℕ, suc, ◌+◌, ◌<◌, ◌≤◌, nat_lt, nat_le, Bool, true, false, cond, ◌||◌, List, [], ◌∷◌, ◌++◌, map, arith, refl, ap, ap₂, ◌∙◌}
use Rattle.std.specs.Prelude.{pos, negsuc, ◌+ℤ◌}
use Rattle.std.specs.List.{list_any}
use Rattle.std.proofs.lemmas.Int.{ints}
use Rattle.std.proofs.lemmas.Bool.Decides.{nat_tests}
use Rattle.ded_num.proofs.Tests.{both}
use Rattle.ded_model.specs.declared.slot.Slot.{Slot}
use Rattle.ded_model.specs.declared.slot.Sort.{Sort}
use Rattle.ded_model.specs.declared.slot.Sort.TheVariants.{Rat, Text}
use Rattle.ded_model.specs.declared.name.Column.{Column}
use Rattle.ded_model.specs.declared.row.RowOp.TheVariants.{Zero}
use Rattle.ded_model.specs.declared.formula.CompareOp.{CompareOp}
use Rattle.ded_model.specs.declared.formula.CompareOp.TheVariants as op
use Rattle.ded_model.specs.declared.formula.Operand.{Operand}
use Rattle.ded_model.specs.declared.formula.Operand.TheVariants.{Single, Sum, Quoted}
use Rattle.ded_model.specs.Constraint.{LinearConstraint}
use Rattle.ded_model.specs.Sum.{denominator}
use Rattle.ded_model.specs.Coefs.{put}
use Rattle.ded_model.specs.Point.{stands_in}
use Rattle.ded_model.specs.Normal.{numbers, normal_row}
use Rattle.ded_model.specs.Width.{row_length}
use Rattle.ded_model.specs.Logic.{atom, always, never, negation, every_of, some_of, implies, minus, exists, forall, Logics, none, also, some_atom, some_atom_of, some_below, some_below_of, quantifiers, AllAtomsOf}
use Rattle.ded_model.specs.Form.{Form, FormAtom, compare, member}
use Rattle.ded_model.specs.Goal.{GoalForm}
use Rattle.ded_model.specs.Known.{KnownNames, is_unbound_operand, is_unbound_atom, is_text_sum, is_missorted_atom, arguments_differ, columns_with, IsAccepted}
use Rattle.ded_model.specs.LongRows.{denominator_of, row_coefs, row_constant, is_long_row, is_quoted, is_long_argument, is_long_atom}
use Rattle.ded_model.specs.Made.{base}
use Rattle.ded_model.specs.Plain.{IsPlain, ArePlainOperands, IsPlainAtom}
use Rattle.ded_model.specs.Scanned.{Scanned, kept, fresh, argument_row, of_slot, same_atom, scanned_after, first_free, tied_atoms}
use Rattle.ded_model.specs.Slotted.{SlotScope, slot_of, heading_scope, slot_sum, comparison_row, sums_goal, text_side, texts_goal, is_text_operand, compare_goal, place_of, goal_below, goals_below, goal_of}
use Rattle.ded_model.proofs.Bools.{or_false_left, or_false_right}
use Rattle.ded_model.proofs.Comparisons.{texts_have}
use Rattle.ded_model.proofs.CoefLemmas.{lesser_slot}
use Rattle.ded_row.proofs.Scaling.{normal_row-times}
use Rattle.ded_resolve.specs.Scope.{sorts_of, AreApart, IsNumbered}
use Rattle.ded_resolve.proofs.Reading.{numbered_more, numbered_next, numbered_heading, sorts_heading}
use Rattle.ded_resolve.proofs.ShortRows.{AllShort, IsNumeric, comparison_short}
use Rattle.ded_resolve.proofs.SlotNumbers.{summable_parts}
use Rattle.ded_resolve.proofs.ShortTuples.{positive_denominator, unquoted, greatest_of, third}
use Rattle.ded_width.specs.Orderly.{Orders, row_reach, atoms_reach, goal_reach, reach_of_all, goal_atom_reach}
use Rattle.ded_width.proofs.Shapes.{two_line, two_normal}
use Rattle.ded_width.proofs.ShortArguments.{argument_short}

-- ---- rows

pub at_most : (n : ℕ) → n ≤ 63 → nat_le n 63 ≡ true
at_most n h = grind (arith, nat_tests)

row_is_short : (r : LinearConstraint) → AllShort (numbers r) → (row_reach r).short ≡ true
row_is_short r h = at_most (row_length r) (greatest_of (numbers r) h)

-- ---- arguments

-- the row of an argument that is a slot
slot_row : (u s : Slot) → s.number < u.number → argument_row u (of_slot s) ≡ two_line s u
unfolding denominator
slot_row u s h =
    ap (λ cs. normal_row (record { coefs = cs; constant = pos 0; op = Zero })) behind
    ∙ normal_row-times (negsuc 0) (two_line s u) (record { nonzero = λ e. absurd (omega (arith, ints, e)); sign = tt }) (λ e. absurd (omega (arith, ints, e)))
    ∙ two_normal s u
  where
    not_less : (m n : ℕ) → n < m → nat_lt m n ≡ false
    not_less m n h = grind (arith, nat_tests)

    behind : put u (pos 1) ((s, negsuc 0) ∷ []) ≡ (s, negsuc 0) ∷ (u, pos 1) ∷ []
    behind =
        ap₂ (λ b d. cond b ((s, pos 1 +ℤ negsuc 0) ∷ []) (cond d ((u, pos 1) ∷ (s, negsuc 0) ∷ []) ((s, negsuc 0) ∷ (u, pos 1) ∷ []))) (lesser_slot s u h) (not_less u.number s.number h)

slot_short : (u s : Slot) → s.number < u.number → (row_reach (argument_row u (of_slot s))).short ≡ true
slot_short u s h = ap (λ r. (row_reach r).short) (slot_row u s h) ∙ row_is_short (two_line s u) (omega arith, (omega arith, (omega arith, tt)))

-- operands that are plain, bound, sorted and not long
record AreShortOperands (scope : SlotScope) (ts : List Operand) : Type 0 where
  plain : ArePlainOperands ts
  bound : list_any (is_unbound_operand (sorts_of scope)) ts ≡ false
  sorted : list_any (is_text_sum (sorts_of scope)) ts ≡ false
  short : list_any is_long_argument ts ≡ false

rest_short : (scope : SlotScope) (t : Operand) (ts : List Operand) → AreShortOperands scope (t ∷ ts) → AreShortOperands scope ts
rest_short scope t ts h = record {
  plain = h.plain.1;
  bound = or_false_right (is_unbound_operand (sorts_of scope) t) _ h.bound;
  sorted = or_false_right (is_text_sum (sorts_of scope) t) _ h.sorted;
  short = or_false_right (is_long_argument t) _ h.short;
}

ties_short : (scope : SlotScope) (ts : List Operand) (done : List Slot) (n : ℕ) → AreApart scope → AreShortOperands scope ts → first_free (map (place_of scope) ts) ≤ n
    → (atoms_reach (tied_atoms (scanned_after done n (map (place_of scope) ts)))).short ≡ true
ties_short scope [] done n a h l = refl
ties_short scope (Single x ∷ ts) done n a h l =
    go (stands_in done s) (ties_short scope ts (done ++ record { number = n; sort = s.sort } ∷ []) (suc n) a (rest_short scope (Single x) ts h) (omega (arith, l)))
    (ties_short scope ts (done ++ s ∷ []) n a (rest_short scope (Single x) ts h) (omega (arith, l)))
  where
    s : Slot
    s = slot_of scope x

    with_first : (y : Sort) → s.sort ≡ y → (gs : List Scanned) → (atoms_reach (tied_atoms gs)).short ≡ true → (atoms_reach (same_atom n y s ∷ tied_atoms gs)).short ≡ true
    with_first Rat e gs h = both _ _ (slot_short (record { number = n; sort = Rat }) s (omega (arith, l))) h
    with_first Text e gs h = h

    go : (b : Bool) → (atoms_reach (tied_atoms (scanned_after (done ++ record { number = n; sort = s.sort } ∷ []) (suc n) (map (place_of scope) ts)))).short ≡ true
        → (atoms_reach (tied_atoms (scanned_after (done ++ s ∷ []) n (map (place_of scope) ts)))).short ≡ true
        → (atoms_reach (tied_atoms (cond b
        (fresh (record { number = n; sort = s.sort }) (same_atom n s.sort s) ∷ scanned_after (done ++ record { number = n; sort = s.sort } ∷ []) (suc n) (map (place_of scope) ts))
        (kept s ∷ scanned_after (done ++ s ∷ []) n (map (place_of scope) ts))))).short ≡ true
    go true new old = with_first s.sort refl (scanned_after (done ++ record { number = n; sort = s.sort } ∷ []) (suc n) (map (place_of scope) ts)) new
    go false new old = old
ties_short scope (Sum t ∷ ts) done n a h l =
    both _ _
    (row_is_short (argument_row (record { number = n; sort = Rat }) (slot_sum scope (Sum t)))
    (argument_short scope t.parts t.constant t.over (record { number = n; sort = Rat })
    (record {
      summable = record { apart = a; once = h.plain.0.1; bound = or_false_left _ _ h.bound; rational = or_false_left _ _ h.sorted };
      positive = h.plain.0.0;
      short = or_false_left _ _ h.short;
    })
    (omega (arith, l))))
    (ties_short scope ts (done ++ record { number = n; sort = Rat } ∷ []) (suc n) a (rest_short scope (Sum t) ts h) (omega (arith, l)))
ties_short scope (Quoted t ∷ ts) done n a h l = ties_short scope ts (done ++ record { number = n; sort = Text } ∷ []) (suc n) a (rest_short scope (Quoted t) ts h) (omega (arith, l))

-- ---- comparisons

module _ (O : Orders) where
  abbrev IsShortGoal : GoalForm → Type 0
  IsShortGoal g = (goal_reach O g).short ≡ true

  sums_short : (scope : SlotScope) (l r : Operand) (o : CompareOp) → IsNumeric scope l r → is_long_row (row_coefs l r) (row_constant l r) ≡ false → IsShortGoal (sums_goal (slot_sum scope l) o (slot_sum scope r))
  sums_short scope l r o h s = go o (λ o. row_is_short (normal_row (comparison_row (slot_sum scope l) o (slot_sum scope r))) (comparison_short scope l r h s o))
    where
      go : (o : CompareOp) → ((o : CompareOp) → (row_reach (normal_row (comparison_row (slot_sum scope l) o (slot_sum scope r)))).short ≡ true) → IsShortGoal (sums_goal (slot_sum scope l) o (slot_sum scope r))
      go op.Less k = k op.Less
      go op.LessEq k = k op.LessEq
      go op.Equal k = k op.Equal
      go op.NotEqual k = k op.NotEqual
      go op.GreaterEq k = k op.GreaterEq
      go op.Greater k = k op.Greater

  compare_short : (scope : SlotScope) (l r : Operand) (o : CompareOp) → AreApart scope → IsPlainAtom (compare l o r) → is_unbound_atom (sorts_of scope) (compare l o r) ≡ false
      → (is_text_sum (sorts_of scope) l || is_text_sum (sorts_of scope) r) ≡ false → is_long_atom (compare l o r) ≡ false → IsShortGoal (compare_goal scope l o r)
  compare_short scope l r o apart plain bound sums short = go (is_text_operand scope l) refl (is_text_operand scope r) refl
    where
      texts : IsShortGoal (texts_goal (text_side scope l) o (text_side scope r))
      texts = texts_have IsShortGoal (record { holds = refl; fails = refl; text = λ a. refl }) (text_side scope l) (text_side scope r) o

      go : (b : Bool) → is_text_operand scope l ≡ b → (d : Bool) → is_text_operand scope r ≡ d → IsShortGoal (cond (b || d) (texts_goal (text_side scope l) o (text_side scope r)) (sums_goal (slot_sum scope l) o (slot_sum scope r)))
      go true e d f = texts
      go false e true f = texts
      go false e false f =
          let m = denominator_of l r in
          sums_short scope l r o
          (record {
            numbers = record {
              left = summable_parts m scope l apart plain.0 (or_false_left _ _ bound) (or_false_left _ _ sums) e;
              right = summable_parts m scope r apart plain.1 (or_false_right (is_unbound_operand (sorts_of scope) l) _ bound) (or_false_right (is_text_sum (sorts_of scope) l) _ sums) f;
            };
            positive = positive_denominator l r plain.0 plain.1;
            shared = plain.2;
            left = e;
            right = f;
          })
          (third (is_quoted l) (is_quoted r) (is_long_row (row_coefs l r) (row_constant l r)) (unquoted scope l e) (unquoted scope r f) short)

-- ---- formulas

-- over names that are short
module _ (K : KnownNames) (O : Orders) (names : (n : List ℕ) → (O n).short ≡ true) where
  mutual
    below_short : (scope : SlotScope) (n : ℕ) (f : Form) → IsNumbered scope n → IsPlain f → some_below is_unbound_atom (sorts_of scope) f ≡ false → some_below (is_missorted_atom K) (sorts_of scope) f ≡ false
        → some_atom is_long_atom f ≡ false → (goal_reach O (goal_below scope n f)).short ≡ true
    below_short scope n (atom (compare l o r)) i p u w s = compare_short O scope l r o i.apart p u (or_false_left (is_text_sum (sorts_of scope) l || is_text_sum (sorts_of scope) r) _ w) s
    below_short scope n (atom (member x ts)) i p u w s =
        both (O x).short _ (names x)
        (ties_short scope ts [] (first_free (map (place_of scope) ts)) i.apart
        (record { plain = p; bound = u; sorted = or_false_left (list_any (is_text_sum (sorts_of scope)) ts) (arguments_differ (sorts_of scope) (columns_with (K (base x))) ts) w; short = s }) (omega arith))
    below_short scope n always i p u w s = refl
    below_short scope n never i p u w s = refl
    below_short scope n (negation f) i p u w s = below_short scope n f i p u w s
    below_short scope n (every_of fs) i p u w s = all_below_short scope n fs i p u w s
    below_short scope n (some_of fs) i p u w s = all_below_short scope n fs i p u w s
    below_short scope n (implies f g) i p u w s =
        both _ _ (below_short scope n f i p.0 (or_false_left _ _ u) (or_false_left _ _ w) (or_false_left _ _ s))
        (below_short scope (n + quantifiers f) g (numbered_more scope n (quantifiers f) i) p.1 (or_false_right (some_below is_unbound_atom (sorts_of scope) f) _ u)
        (or_false_right (some_below (is_missorted_atom K) (sorts_of scope) f) _ w) (or_false_right (some_atom is_long_atom f) _ s))
    below_short scope n (minus f g) i p u w s =
        both _ _ (below_short scope n f i p.0 (or_false_left _ _ u) (or_false_left _ _ w) (or_false_left _ _ s))
        (below_short scope (n + quantifiers f) g (numbered_more scope n (quantifiers f) i) p.1 (or_false_right (some_below is_unbound_atom (sorts_of scope) f) _ u)
        (or_false_right (some_below (is_missorted_atom K) (sorts_of scope) f) _ w) (or_false_right (some_atom is_long_atom f) _ s))
    below_short scope n (exists x k f) i p u w s = below_short ((k, record { number = n; sort = x }) ∷ scope) (n + 1) f (numbered_next k x scope n i) p u w s
    below_short scope n (forall x k f) i p u w s = below_short ((k, record { number = n; sort = x }) ∷ scope) (n + 1) f (numbered_next k x scope n i) p u w s

    -- of a list
    all_below_short : (scope : SlotScope) (n : ℕ) (fs : Logics FormAtom) → IsNumbered scope n → AllAtomsOf IsPlainAtom fs → some_below_of is_unbound_atom (sorts_of scope) fs ≡ false
        → some_below_of (is_missorted_atom K) (sorts_of scope) fs ≡ false → some_atom_of is_long_atom fs ≡ false → (reach_of_all (goal_atom_reach O) (goals_below scope n fs)).short ≡ true
    all_below_short scope n none i p u w s = refl
    all_below_short scope n (also f fs) i p u w s =
        both _ _ (below_short scope n f i p.0 (or_false_left _ _ u) (or_false_left _ _ w) (or_false_left _ _ s))
        (all_below_short scope (n + quantifiers f) fs (numbered_more scope n (quantifiers f) i) p.1 (or_false_right (some_below is_unbound_atom (sorts_of scope) f) _ u)
        (or_false_right (some_below (is_missorted_atom K) (sorts_of scope) f) _ w) (or_false_right (some_atom is_long_atom f) _ s))

  pub goal_short : (h : List Column) (f : Form) → IsAccepted K h f → IsPlain f → some_atom is_long_atom f ≡ false → (goal_reach O (goal_of h f)).short ≡ true
  unfolding goal_of
  goal_short h f a p s =
      below_short (heading_scope 0 h) _ f (numbered_heading h) p (ap (λ x. some_below is_unbound_atom x f) (sorts_heading 0 h) ∙ a.bound)
      (ap (λ x. some_below (is_missorted_atom K) x f) (sorts_heading 0 h) ∙ a.sorted) s
