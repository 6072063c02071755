-- The tuple of an accepted insert is a normal one over the columns of its relation, with short numbers.
use Rattle.std.proofs.Common.{◌≡◌, ◌<◌, ◌≤◌, ℕ, nat_le, max, Bool, true, false, ◌||◌, ◌&&◌, cond, inl, inr, None, List, [], ◌∷◌, ◌++◌, map, arith, refl, sym, ap, ◌∙◌, subst, true≢false}
use Rattle.std.specs.Prelude.{ℤ, pos}
use lib.IntN.{neg_ℤ}
use Rattle.std.specs.List.{AllByRecursion, list_any}
use Rattle.std.proofs.Math.Bool.{or-false}
use Rattle.std.proofs.lemmas.Bool.Decides.{nat_tests}
use Rattle.ded_resolve.specs.Tuples.{is_missorted_comparison}
use Rattle.ded_lex.specs.Lexemes.{Each, text_byte}
use Rattle.ded_model.specs.declared.formula.CompareOp.{CompareOp}
use Rattle.ded_model.specs.declared.formula.CompareOp.TheVariants.{Less, LessEq, Equal, NotEqual, GreaterEq, Greater}
use Rattle.ded_model.specs.declared.formula.Operand.{Operand}
use Rattle.ded_model.specs.declared.name.Column.{Column}
use Rattle.ded_model.specs.declared.row.RowOp.{RowOp}
use Rattle.ded_model.specs.declared.row.RowOp.TheVariants.{Zero, AtMost, Below}
use Rattle.ded_model.specs.declared.slot.Slot.{Slot}
use Rattle.ded_model.specs.declared.tuple.BothAtom.TheVariants.{First, Second}
use Rattle.ded_model.specs.declared.tuple.ThemeAtom.{ThemeAtom}
use Rattle.ded_model.specs.declared.tuple.ThemeAtom.TheVariants.{EqText, NeText, EqSlot, NeSlot}
use Rattle.ded_model.specs.Coefs.{AreCoefs, mixed}
use Rattle.ded_model.specs.Form.{Form, FormAtom, compare, member}
use Rattle.ded_model.specs.Goal.{GoalAtom, linear, theme, GoalForm, goal_mentions}
use Rattle.ded_model.specs.Goal as goal
use Rattle.ded_model.specs.Known.{IsTupleOver, has_unbound, is_unbound_atom, scope_of, heading_slots}
use Rattle.ded_model.specs.Logic.{atom, always, never, negation, every_of, some_of, implies, minus, exists, forall, Logics, none, also, AllAtoms, AllAtomsOf, logics, some_atom, some_below}
use Rattle.ded_model.specs.LongRows.{is_long_atom}
use Rattle.ded_model.specs.Normal.{IsNormalTheme, IsNormalAtom, constant_row, normal_row, is_true_row, ordered_atoms}
use Rattle.ded_model.specs.NormalGoal.{IsOrderedTheme, IsNormalGoal}
use Rattle.ded_model.specs.Point.{slot, stands_in, AllBytes}
use Rattle.ded_model.specs.Row.{Atom, row_mentions, atom_mentions, tuple_mentions}
use Rattle.ded_model.specs.Slotted.{SlotScope, heading_scope, slot_sum, difference_row, sums_goal, text_side, texts_goal, is_text_operand, compare_goal, goal_below, goal_of, goal_atoms, comparison_atoms, tuple_of}
use Rattle.ded_model.specs.Sum.{SlotSum, denominator}
use Rattle.ded_model.specs.Width.{greatest_length, tuple_length}
use Rattle.ded_model.proofs.Bools.{or_false_left, or_false_right}
use Rattle.ded_model.proofs.Comparisons.{texts_have}
use Rattle.ded_model.proofs.LineCoefs.{AllNonzero, nonzero-nonzero}
use Rattle.ded_model.proofs.Members.{or_split}
use Rattle.ded_model.proofs.Points.{and_right}
use Rattle.ded_model.proofs.Rows.{or_left, or_right}
use Rattle.ded_num.specs.Length.{length_of}
use Rattle.ded_num.proofs.Lengths.{within_from_length}
use Rattle.ded_width.proofs.Ties.{normal_sound}
use Rattle.ded_resolve.specs.Ready.{AreReady}
use Rattle.ded_resolve.proofs.ShortTuples.{tuple_short}
use Rattle.ded_reread.specs.Words.{HasTexts, TupleHasTexts, AtomHasWords}
use Rattle.ded_reread.proofs.Texts.{tuple_says}
use Rattle.ded_sorts.specs.Checks.{forms_of}
use Rattle.ded_sorts.proofs.Frees.{goal_free}
use Rattle.ded_tuple.specs.TrueRows.{IsNormalOrTrue, without_true}
use Rattle.ded_tuple.proofs.Ordered.{mentions-ordered, ordered-normal}
use Rattle.ded_tuple.proofs.Shared.{not_true}
use Rattle.ded_width.specs.Reach.{AreAscending, IsAscendingGoal}
use Rattle.ded_width.proofs.AscendingGoals.{accepted_ascending}
use Rattle.ded_plan.proofs.AtomsWithin.{normal_atom}
use Rattle.ded_reread.specs.ScriptWords.{IsName, IsMember, IsText}

-- ---- atoms

-- what may stand between quotes is bytes
text_bytes : (t : List ℕ) → Each text_byte t → AllBytes t
text_bytes [] h = tt
text_bytes (b ∷ t) h = (
  elim (or_split (nat_le 32 b && nat_le b 126) (nat_le 128 b && nat_le b 255) h.0) [
    | inl e ↦ small 126 b (and_right (nat_le 32 b) (nat_le b 126) e) (omega arith)
    | inr e ↦ small 255 b (and_right (nat_le 128 b) (nat_le b 255) e) (omega arith)
  ],
  text_bytes t h.1,
)
  where
    small : (m b : ℕ) → nat_le b m ≡ true → m < 256 → b < 256
    small m b e l = grind (arith, nat_tests)

theme_normal : (a : ThemeAtom) → IsOrderedTheme a → HasTexts IsText (Second a) → IsNormalTheme a
theme_normal (EqText s t) n h = (n, text_bytes t h)
theme_normal (NeText s t) n h = (n, text_bytes t h)
theme_normal (EqSlot s t) n h = n
theme_normal (NeSlot s t) n h = n

coefs_kept : (cs : List (Slot × ℤ)) → AreAscending cs → AllNonzero cs → greatest_length (map (λ c. c.1) cs) ≤ 63 → AreCoefs cs
coefs_kept [] a z l = tt
coefs_kept (c ∷ cs) a z l =
    let both = parts (length_of c.1) (greatest_length (map (λ d. d.1) cs)) l in
    (a.0, within_from_length c.1 127 (omega (arith, both.0)), z.0, a.1, coefs_kept cs a.2 z.1 both.1)
  where
    parts : (m n : ℕ) → max m n ≤ 63 → (m ≤ 63) × (n ≤ 63)
    parts m n h = (omega (arith, h), omega (arith, h))

-- ---- goals

-- no coefficient of a row is 0
abbrev IsNonzero : GoalAtom → Type 0
IsNonzero (linear r) = AllNonzero r.coefs
IsNonzero (theme a) = Unit {0}
IsNonzero (goal.member n ts) = Unit {0}

abbrev IsNonzeroGoal : GoalForm → Type 0
IsNonzeroGoal g = AllAtoms IsNonzero g

difference_nonzero : (l r : SlotSum) (op : RowOp) → AllNonzero (normal_row (difference_row l r op)).coefs
difference_nonzero l r op = (normal_sound (difference_row l r op) (nonzero-nonzero (mixed (pos (denominator r.over)) l.coefs (neg_ℤ (pos (denominator l.over))) r.coefs))).0

sums_nonzero : (l r : SlotSum) (op : CompareOp) → IsNonzeroGoal (sums_goal l op r)
sums_nonzero l r Less = difference_nonzero l r Below
sums_nonzero l r LessEq = difference_nonzero l r AtMost
sums_nonzero l r Equal = difference_nonzero l r Zero
sums_nonzero l r NotEqual = difference_nonzero l r Zero
sums_nonzero l r GreaterEq = difference_nonzero r l AtMost
sums_nonzero l r Greater = difference_nonzero r l Below

compare_nonzero : (scope : SlotScope) (l r : Operand) (op : CompareOp) → IsNonzeroGoal (compare_goal scope l op r)
compare_nonzero scope l r op = go (is_text_operand scope l || is_text_operand scope r)
  where
    go : (b : Bool) → IsNonzeroGoal (cond b (texts_goal (text_side scope l) op (text_side scope r)) (sums_goal (slot_sum scope l) op (slot_sum scope r)))
    go true = texts_have IsNonzeroGoal (record { holds = tt; fails = tt; text = λ a. tt }) (text_side scope l) (text_side scope r) op
    go false = sums_nonzero (slot_sum scope l) (slot_sum scope r) op

-- the row that holds nowhere
false_row : IsNormalAtom (First (constant_row false))
unfolding normal_row
false_row = (tt, record { normal = refl }, refl)

-- the atoms of a goal that is such, where these are short and have texts of bytes
goal_normal : (g : GoalForm) → IsNormalGoal g → IsAscendingGoal g → IsNonzeroGoal g → tuple_length (ordered_atoms (goal_atoms g ++ [])) ≤ 63 → TupleHasTexts IsText (ordered_atoms (goal_atoms g ++ []))
    → AllByRecursion IsNormalAtom (goal_atoms g)
goal_normal (atom (linear r)) n a z s t = by (is_true_row r) refl s
  where
    rest : (m k : ℕ) → max (max m k) 0 ≤ 63 → k ≤ 63
    rest m k h = omega (arith, h)

    by : (b : Bool) → is_true_row r ≡ b → tuple_length (ordered_atoms (cond b [] (First r ∷ []) ++ [])) ≤ 63 → AllByRecursion IsNormalAtom (cond b [] (First r ∷ []))
    by true e s = tt
    by false e s = ((coefs_kept r.coefs a z (rest (length_of r.constant) (greatest_length (map (λ c. c.1) r.coefs)) s), n, e), tt)
goal_normal (atom (theme x)) n a z s t = (theme_normal x n t.0, tt)
goal_normal (atom (goal.member m ts)) n a z s t = tt
goal_normal always n a z s t = tt
goal_normal never n a z s t = (false_row, tt)
goal_normal (negation g) n a z s t = tt
goal_normal (every_of gs) n a z s t = tt
goal_normal (some_of gs) n a z s t = tt
goal_normal (implies g k) n a z s t = tt
goal_normal (minus g k) n a z s t = tt
goal_normal (exists u k g) n a z s t = tt
goal_normal (forall u k g) n a z s t = tt

-- ---- lists of atoms

both : (xs ys : List Atom) → AllByRecursion IsNormalAtom xs → AllByRecursion IsNormalAtom ys → AllByRecursion IsNormalAtom (xs ++ ys)
both [] ys p q = q
both (x ∷ xs) ys p q = (p.0, both xs ys p.1 q)

all_or_true : (xs : List Atom) → AllByRecursion IsNormalAtom xs → AllByRecursion IsNormalOrTrue xs
all_or_true [] p = tt
all_or_true (x ∷ xs) p = (normal_atom x p.0, all_or_true xs p.1)

none_true : (xs : List Atom) → AllByRecursion IsNormalAtom xs → without_true xs ≡ xs
none_true [] p = refl
none_true (x ∷ xs) p = ap (λ b. cond b (without_true xs) (x ∷ without_true xs)) (not_true x p.0) ∙ ap (λ l. x ∷ l) (none_true xs p.1)

-- what some atom of two lists mentions
mentioned : (xs ys : List Atom) (s : Slot) (X : Type 0) → (tuple_mentions xs s ≡ true → X) → (tuple_mentions ys s ≡ true → X) → tuple_mentions (xs ++ ys) s ≡ true → X
unfolding tuple_mentions
mentioned [] ys s X f g m = g m
mentioned (x ∷ xs) ys s X f g m = elim (or_split (atom_mentions x s) (list_any (λ a. atom_mentions a s) (xs ++ ys)) m) [
  | inl e ↦ f (or_left (atom_mentions x s) _ e)
  | inr e ↦ mentioned xs ys s X (λ k. f (or_right (atom_mentions x s) _ k)) g e
]

-- the atoms of a goal mention what the goal does
goal_mentioned : (g : GoalForm) (s : Slot) → tuple_mentions (goal_atoms g) s ≡ true → goal_mentions g (slot s) ≡ true
unfolding tuple_mentions atom_mentions row_mentions
goal_mentioned (atom (linear r)) s m = by (is_true_row r) m
  where
    by : (b : Bool) → tuple_mentions (cond b [] (First r ∷ [])) s ≡ true → goal_mentions (atom (linear r)) (slot s) ≡ true
    by true k = absurd (true≢false (sym k))
    by false k = sym (or-false _) ∙ k
goal_mentioned (atom (theme x)) s m = sym (or-false _) ∙ m
goal_mentioned (atom (goal.member k ts)) s m = absurd (true≢false (sym m))
goal_mentioned always s m = absurd (true≢false (sym m))
goal_mentioned never s m = absurd (true≢false (sym m))
goal_mentioned (negation g) s m = absurd (true≢false (sym m))
goal_mentioned (every_of gs) s m = absurd (true≢false (sym m))
goal_mentioned (some_of gs) s m = absurd (true≢false (sym m))
goal_mentioned (implies g k) s m = absurd (true≢false (sym m))
goal_mentioned (minus g k) s m = absurd (true≢false (sym m))
goal_mentioned (exists u k g) s m = absurd (true≢false (sym m))
goal_mentioned (forall u k g) s m = absurd (true≢false (sym m))

-- ---- comparisons

module _ (normal_goals : (h : List Column) (f : Form) → some_below is_missorted_comparison (scope_of h) f ≡ false → IsNormalGoal (goal_of h f)) (h : List Column) where
  abbrev Worded : FormAtom → Type 0
  Worded = AtomHasWords IsName IsMember IsText

  -- one of them is a list of comparisons
  one_ready : (f : Form) (fs : Logics FormAtom) → AreReady h (also f fs) → AreReady h (also f none)
  one_ready f fs r = record {
    plain = (r.plain.0, tt);
    bound = alone _ _ r.bound;
    sorted = alone _ _ r.sorted;
    short = alone _ _ r.short;
  }
    where
      alone : (a b : Bool) → (a || b) ≡ false → (a || false) ≡ false
      alone a b e = ap (λ x. x || false) (or_false_left a b e)

  rest_ready : (f : Form) (fs : Logics FormAtom) → AreReady h (also f fs) → AreReady h fs
  rest_ready f fs r = record {
    plain = r.plain.1;
    bound = or_false_right (some_below is_unbound_atom (scope_of h) f) _ r.bound;
    sorted = or_false_right (some_below is_missorted_comparison (scope_of h) f) _ r.sorted;
    short = or_false_right (some_atom is_long_atom f) _ r.short;
  }

  compare_goals : (l r : Operand) (op : CompareOp) → is_missorted_comparison (scope_of h) (compare l op r) ≡ false
      → IsNormalGoal (compare_goal (heading_scope 0 h) l op r) × IsAscendingGoal (compare_goal (heading_scope 0 h) l op r)
  unfolding goal_of
  compare_goals l r op e = (normal_goals h (atom (compare l op r)) e, accepted_ascending (λ n. None) h (atom (compare l op r)) e)

  one_normal : (f : Form) → AreReady h (also f none) → AllAtomsOf Worded (also f none) → AllByRecursion IsNormalAtom (goal_atoms (goal_below (heading_scope 0 h) 0 f))
  unfolding tuple_of
  one_normal (atom (compare l op r)) k p =
      let g = compare_goals l r op (or_false_left _ _ k.sorted) in
      goal_normal (compare_goal (heading_scope 0 h) l op r) g.0 g.1 (compare_nonzero (heading_scope 0 h) l r op)
      (tuple_short h (atom (compare l op r) ∷ []) k) (tuple_says IsName IsMember IsText tt h (also (atom (compare l op r)) none) p)
  one_normal (atom (member n ts)) k p = tt
  one_normal always k p = tt
  one_normal never k p = (false_row, tt)
  one_normal (negation f) k p = tt
  one_normal (every_of fs) k p = tt
  one_normal (some_of fs) k p = tt
  one_normal (implies f g) k p = tt
  one_normal (minus f g) k p = tt
  one_normal (exists s x f) k p = tt
  one_normal (forall s x f) k p = tt

  one_over : (f : Form) → has_unbound h f ≡ false → (s : Slot) → tuple_mentions (goal_atoms (goal_below (heading_scope 0 h) 0 f)) s ≡ true → stands_in (heading_slots 0 h) s ≡ true
  unfolding goal_of tuple_mentions atom_mentions row_mentions
  one_over (atom (compare l op r)) u s m = goal_free h (atom (compare l op r)) u (slot s) (goal_mentioned (compare_goal (heading_scope 0 h) l op r) s m)
  one_over (atom (member n ts)) u s m = absurd (true≢false (sym m))
  one_over always u s m = absurd (true≢false (sym m))
  one_over never u s m = absurd (true≢false (sym m))
  one_over (negation f) u s m = absurd (true≢false (sym m))
  one_over (every_of fs) u s m = absurd (true≢false (sym m))
  one_over (some_of fs) u s m = absurd (true≢false (sym m))
  one_over (implies f g) u s m = absurd (true≢false (sym m))
  one_over (minus f g) u s m = absurd (true≢false (sym m))
  one_over (exists t x f) u s m = absurd (true≢false (sym m))
  one_over (forall t x f) u s m = absurd (true≢false (sym m))

  all_over : (fs : Logics FormAtom) → has_unbound h (every_of fs) ≡ false → (s : Slot) → tuple_mentions (comparison_atoms (heading_scope 0 h) (forms_of fs)) s ≡ true → stands_in (heading_slots 0 h) s ≡ true
  unfolding tuple_mentions
  all_over none u s m = absurd (true≢false (sym m))
  all_over (also f fs) u s m =
      mentioned (goal_atoms (goal_below (heading_scope 0 h) 0 f)) (comparison_atoms (heading_scope 0 h) (forms_of fs)) s _
      (one_over f (or_false_left _ _ u) s) (all_over fs (or_false_right (some_below is_unbound_atom (scope_of h) f) _ u) s) m

  all_normal : (fs : Logics FormAtom) → AreReady h fs → AllAtomsOf Worded fs → AllByRecursion IsNormalAtom (comparison_atoms (heading_scope 0 h) (forms_of fs))
  all_normal none k p = tt
  all_normal (also f fs) k p =
      both (goal_atoms (goal_below (heading_scope 0 h) 0 f)) (comparison_atoms (heading_scope 0 h) (forms_of fs)) (one_normal f (one_ready f fs k) (p.0, tt)) (all_normal fs (rest_ready f fs k) p.1)

  logics_are : (fs : Logics FormAtom) → logics (forms_of fs) ≡ fs
  logics_are none = refl
  logics_are (also f fs) = ap (also f) (logics_are fs)

  pub tuple_stored : (fs : Logics FormAtom) → AreReady h fs → AllAtomsOf Worded fs → IsTupleOver h (tuple_of h (forms_of fs)) × (tuple_length (tuple_of h (forms_of fs)) ≤ 63)
  unfolding tuple_of
  tuple_stored fs k p =
      let atoms = comparison_atoms (heading_scope 0 h) (forms_of fs) in (
        record { normal = ordered-normal atoms (all_normal fs k p); slots = λ s m. all_over fs k.bound s (mentions-ordered atoms s m) },
        tuple_short h (forms_of fs) (subst (AreReady h) (sym (logics_are fs)) k),
      )
