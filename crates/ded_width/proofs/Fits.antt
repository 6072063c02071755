-- In the goal of an accepted formula rows are normal, no coefficient is 0, and the slots of a scanned name have the sorts of its columns.
use Rattle.std.proofs.Common.{◌≡◌, ℕ, suc, ◌+◌, ◌==◌, Bool, true, false, cond, not, ◌||◌, Option, Some, None, is_none, List, [], ◌∷◌, ◌++◌, length, map, arith, ap, ◌∙◌, true≢false}
use Rattle.std.specs.Prelude.{pos}
use lib.IntN.{neg_ℤ}
use Rattle.std.proofs.lemmas.Bool.{not-false}
use Rattle.ded_model.specs.declared.slot.Slot.{Slot}
use Rattle.ded_model.specs.declared.slot.Sort.{Sort}
use Rattle.ded_model.specs.declared.slot.Sort.TheVariants.{Rat, Text}
use Rattle.ded_model.specs.declared.name.Column.{Column}
use Rattle.ded_model.specs.declared.row.RowOp.{RowOp}
use Rattle.ded_model.specs.declared.row.RowOp.TheVariants.{Zero, AtMost, Below}
use Rattle.ded_model.specs.declared.formula.CompareOp.{CompareOp}
use Rattle.ded_model.specs.declared.formula.CompareOp.TheVariants.{Less, LessEq, Equal, NotEqual, GreaterEq, Greater}
use Rattle.ded_model.specs.declared.formula.Operand.{Operand}
use Rattle.ded_model.specs.declared.formula.Operand.TheVariants.{Single, Sum, Quoted}
use Rattle.ded_model.specs.Sum.{SlotSum, denominator}
use Rattle.ded_model.specs.Coefs.{mixed}
use Rattle.ded_model.specs.Point.{same_sort, stands_in}
use Rattle.ded_model.specs.Logic.{atom, always, never, negation, every_of, some_of, implies, minus, exists, forall, Logics, none, also, AllAtoms, AllAtomsOf, some_atom, some_atom_of, some_below, some_below_of, quantifiers}
use Rattle.ded_model.specs.Form.{Form, FormAtom, compare, member}
use Rattle.ded_model.specs.Goal.{GoalAtom, linear, theme, GoalForm}
use Rattle.ded_model.specs.Goal as goal
use Rattle.ded_model.specs.Made.{base}
use Rattle.ded_model.specs.Normal.{normal_row}
use Rattle.ded_model.specs.Scanned.{kept, fresh, same_atom, scanned_after, scanned, first_free, scanned_slots}
use Rattle.ded_model.specs.Slotted.{SlotScope, slot_of, heading_scope, add_parts, slot_sum, difference_row, sums_goal, text_side, texts_goal, is_text_operand, compare_goal, place_of, goal_below, goals_below, goal_of}
use Rattle.ded_model.specs.Known.{Known, KnownNames, is_unknown_atom, other_arity, is_arity_atom, operand_sort, arguments_differ, columns_with, is_missorted_atom, IsAccepted}
use Rattle.ded_model.proofs.Bools.{or_false_left, or_false_right}
use Rattle.ded_model.proofs.Comparisons.{texts_have}
use Rattle.ded_model.proofs.LineCoefs.{nonzero-nonzero}
use Rattle.ded_model.proofs.Points.{same_sort_is}
use Rattle.ded_model.proofs.Made.{same_number}
use Rattle.ded_resolve.specs.Scope.{sorts_of}
use Rattle.ded_resolve.proofs.Summing.{sort_in-slot}
use Rattle.ded_resolve.proofs.Reading.{sorts_heading}
use Rattle.ded_width.proofs.Renamed.{HaveSorts}
use Rattle.ded_width.proofs.Ties.{IsSound, normal_sound, AreNonzeroPlaces}

-- ---- atoms

abbrev pub FitsAtom : KnownNames → GoalAtom → Type 0
FitsAtom K (linear r) = IsSound r
FitsAtom K (theme a) = Unit {0}
FitsAtom K (goal.member n ts) = HaveSorts (columns_with (K (base n))) (scanned_slots (scanned ts)) × AreNonzeroPlaces ts

abbrev pub Fits : KnownNames → GoalForm → Type 0
Fits K g = AllAtoms (FitsAtom K) g

module _ (K : KnownNames) where
  difference_fits : (l r : SlotSum) (op : RowOp) → IsSound (normal_row (difference_row l r op))
  difference_fits l r op = normal_sound (difference_row l r op) (nonzero-nonzero (mixed (pos (denominator r.over)) l.coefs (neg_ℤ (pos (denominator l.over))) r.coefs))

  sums_fit : (l r : SlotSum) (op : CompareOp) → Fits K (sums_goal l op r)
  sums_fit l r Less = difference_fits l r Below
  sums_fit l r LessEq = difference_fits l r AtMost
  sums_fit l r Equal = difference_fits l r Zero
  sums_fit l r NotEqual = difference_fits l r Zero
  sums_fit l r GreaterEq = difference_fits r l AtMost
  sums_fit l r Greater = difference_fits r l Below

  compare_fits : (scope : SlotScope) (l r : Operand) (op : CompareOp) → Fits K (compare_goal scope l op r)
  compare_fits scope l r op = go (is_text_operand scope l || is_text_operand scope r)
    where
      go : (b : Bool) → Fits K (cond b (texts_goal (text_side scope l) op (text_side scope r)) (sums_goal (slot_sum scope l) op (slot_sum scope r)))
      go true = texts_have (Fits K) (record { holds = tt; fails = tt; text = λ a. tt }) (text_side scope l) (text_side scope r) op
      go false = sums_fit (slot_sum scope l) (slot_sum scope r) op

-- ---- arguments

places_nonzero : (scope : SlotScope) (ts : List Operand) → AreNonzeroPlaces (map (place_of scope) ts)
places_nonzero scope [] = tt
places_nonzero scope (Single x ∷ ts) = places_nonzero scope ts
places_nonzero scope (Sum t ∷ ts) = (nonzero-nonzero (add_parts scope t.parts), places_nonzero scope ts)
places_nonzero scope (Quoted t ∷ ts) = places_nonzero scope ts

column_sort : (c x : Sort) → not (same_sort c x) ≡ false → c ≡ x
column_sort c x h = same_sort_is c x (not-false _ h)

columns_fit : (scope : SlotScope) (cs : List Column) (ts : List Operand) (done : List Slot) (n : ℕ) → length ts ≡ length cs → arguments_differ (sorts_of scope) cs ts ≡ false
    → HaveSorts cs (scanned_slots (scanned_after done n (map (place_of scope) ts)))
columns_fit scope [] [] done n e d = tt
columns_fit scope [] (t ∷ ts) done n e d = absurd (omega arith)
columns_fit scope (c ∷ cs) [] done n e d = absurd (omega arith)
columns_fit scope (c ∷ cs) (Single x ∷ ts) done n e d =
    go (stands_in done (slot_of scope x)) (columns_fit scope cs ts (done ++ record { number = n; sort = (slot_of scope x).sort } ∷ []) (suc n) (omega arith) rest)
    (columns_fit scope cs ts (done ++ slot_of scope x ∷ []) n (omega arith) rest)
  where
    rest : arguments_differ (sorts_of scope) cs ts ≡ false
    rest = or_false_right (not (same_sort c.sort (operand_sort (sorts_of scope) (Single x)))) _ d

    here : c.sort ≡ (slot_of scope x).sort
    here = column_sort c.sort (operand_sort (sorts_of scope) (Single x)) (or_false_left _ _ d) ∙ sort_in-slot scope x

    go : (b : Bool) → HaveSorts cs (scanned_slots (scanned_after (done ++ record { number = n; sort = (slot_of scope x).sort } ∷ []) (suc n) (map (place_of scope) ts)))
        → HaveSorts cs (scanned_slots (scanned_after (done ++ slot_of scope x ∷ []) n (map (place_of scope) ts)))
        → HaveSorts (c ∷ cs) (scanned_slots (cond b
        (fresh (record { number = n; sort = (slot_of scope x).sort }) (same_atom n (slot_of scope x).sort (slot_of scope x)) ∷ scanned_after (done ++ record { number = n; sort = (slot_of scope x).sort } ∷ []) (suc n) (map (place_of scope) ts))
        (kept (slot_of scope x) ∷ scanned_after (done ++ slot_of scope x ∷ []) n (map (place_of scope) ts))))
    go true new old = (here, new)
    go false new old = (here, old)
columns_fit scope (c ∷ cs) (Sum t ∷ ts) done n e d = (
  column_sort c.sort Rat (or_false_left _ _ d),
  columns_fit scope cs ts (done ++ record { number = n; sort = Rat } ∷ []) (suc n) (omega arith) (or_false_right (not (same_sort c.sort Rat)) _ d),
)
columns_fit scope (c ∷ cs) (Quoted t ∷ ts) done n e d = (
  column_sort c.sort Text (or_false_left _ _ d),
  columns_fit scope cs ts (done ++ record { number = n; sort = Text } ∷ []) (suc n) (omega arith) (or_false_right (not (same_sort c.sort Text)) _ d),
)

known_fits : (scope : SlotScope) (o : Option Known) (ts : List Operand) → is_none o ≡ false → other_arity o ts ≡ false → arguments_differ (sorts_of scope) (columns_with o) ts ≡ false
    → HaveSorts (columns_with o) (scanned_slots (scanned (map (place_of scope) ts)))
known_fits scope None ts u a d = absurd (true≢false u)
known_fits scope (Some k) ts u a d =
    columns_fit scope k.columns ts [] (first_free (map (place_of scope) ts)) (same_number (length ts) (length k.columns) (not-false (length ts == length k.columns) a)) d

-- ---- formulas

module _ (K : KnownNames) where
  mutual
    below_fits : (scope : SlotScope) (n : ℕ) (f : Form) → some_atom (is_unknown_atom K) f ≡ false → some_atom (is_arity_atom K) f ≡ false → some_below (is_missorted_atom K) (sorts_of scope) f ≡ false → Fits K (goal_below scope n f)
    below_fits scope n (atom (compare l op r)) u v w = compare_fits K scope l r op
    below_fits scope n (atom (member m ts)) u v w = (known_fits scope (K (base m)) ts u v (or_false_right _ (arguments_differ (sorts_of scope) (columns_with (K (base m))) ts) w), places_nonzero scope ts)
    below_fits scope n always u v w = tt
    below_fits scope n never u v w = tt
    below_fits scope n (negation f) u v w = below_fits scope n f u v w
    below_fits scope n (every_of fs) u v w = all_below_fit scope n fs u v w
    below_fits scope n (some_of fs) u v w = all_below_fit scope n fs u v w
    below_fits scope n (implies f g) u v w = (
      below_fits scope n f (or_false_left _ _ u) (or_false_left _ _ v) (or_false_left _ _ w),
      below_fits scope (n + quantifiers f) g (or_false_right (some_atom (is_unknown_atom K) f) _ u) (or_false_right (some_atom (is_arity_atom K) f) _ v) (or_false_right (some_below (is_missorted_atom K) (sorts_of scope) f) _ w),
    )
    below_fits scope n (minus f g) u v w = (
      below_fits scope n f (or_false_left _ _ u) (or_false_left _ _ v) (or_false_left _ _ w),
      below_fits scope (n + quantifiers f) g (or_false_right (some_atom (is_unknown_atom K) f) _ u) (or_false_right (some_atom (is_arity_atom K) f) _ v) (or_false_right (some_below (is_missorted_atom K) (sorts_of scope) f) _ w),
    )
    below_fits scope n (exists s k f) u v w = below_fits ((k, record { number = n; sort = s }) ∷ scope) (n + 1) f u v w
    below_fits scope n (forall s k f) u v w = below_fits ((k, record { number = n; sort = s }) ∷ scope) (n + 1) f u v w

    -- of a list
    all_below_fit : (scope : SlotScope) (n : ℕ) (fs : Logics FormAtom) → some_atom_of (is_unknown_atom K) fs ≡ false → some_atom_of (is_arity_atom K) fs ≡ false
        → some_below_of (is_missorted_atom K) (sorts_of scope) fs ≡ false → AllAtomsOf (FitsAtom K) (goals_below scope n fs)
    all_below_fit scope n none u v w = tt
    all_below_fit scope n (also f fs) u v w = (
      below_fits scope n f (or_false_left _ _ u) (or_false_left _ _ v) (or_false_left _ _ w),
      all_below_fit scope (n + quantifiers f) fs (or_false_right (some_atom (is_unknown_atom K) f) _ u) (or_false_right (some_atom (is_arity_atom K) f) _ v) (or_false_right (some_below (is_missorted_atom K) (sorts_of scope) f) _ w),
    )

  pub goal_fits : (h : List Column) (f : Form) → IsAccepted K h f → Fits K (goal_of h f)
  unfolding goal_of
  goal_fits h f a = below_fits (heading_scope 0 h) _ f a.known a.arity (ap (λ scope. some_below (is_missorted_atom K) scope f) (sorts_heading 0 h) ∙ a.sorted)
