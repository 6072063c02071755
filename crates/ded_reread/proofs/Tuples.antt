-- The comparisons that are read back of a tuple are those of that tuple.
use Rattle.std.proofs.Common.{◌≡◌, ℕ, ◌<◌, ◌≤◌, max, nat_lt, Bool, true, false, cond, ◌||◌, ◌&&◌, List, [], ◌∷◌, ◌++◌, arith, refl, sym, ap, ap₂, ◌∙◌, subst, bytes_eq}
use Rattle.std.specs.Prelude.{ℤ, pos, ◌-ℤ◌}
use Rattle.std.specs.List.{list_any, AllByRecursion}
use Rattle.std.proofs.lemmas.Bool.{or_from}
use Rattle.std.proofs.lemmas.Bool.Decides.{nat_tests}
use Rattle.ded_num.specs.Length.{IsWithin, length_of}
use Rattle.ded_num.proofs.Lengths.{within_from_length}
use Rattle.ded_model.specs.declared.slot.Slot.{Slot}
use Rattle.ded_model.specs.declared.slot.Sort.{Sort}
use Rattle.ded_model.specs.declared.slot.Sort.TheVariants.{Rat, Text}
use Rattle.ded_model.specs.declared.name.Column.{Column}
use Rattle.ded_model.specs.declared.formula.CompareOp.{CompareOp}
use Rattle.ded_model.specs.declared.formula.CompareOp.TheVariants.{Equal, NotEqual}
use Rattle.ded_model.specs.declared.formula.Operand.TheVariants.{Single, Quoted}
use Rattle.ded_model.specs.declared.tuple.BothAtom.TheVariants.{First, Second}
use Rattle.ded_model.specs.declared.tuple.ThemeAtom.{ThemeAtom}
use Rattle.ded_model.specs.declared.tuple.ThemeAtom.TheVariants.{EqText, NeText, EqSlot, NeSlot}
use Rattle.ded_model.specs.Constraint.{LinearConstraint}
use Rattle.ded_model.specs.Form.{FormAtom, compare}
use Rattle.ded_model.specs.Goal.{GoalForm, linear, theme}
use Rattle.ded_model.specs.Known.{KnownNames, IsTupleOver, heading_slots, has_twice, scope_of, is_unbound_name, is_unbound_atom, has_unbound, is_missorted_atom, has_missorted, sort_in, sorts_differ}
use Rattle.ded_model.specs.Logic.{Scope, atom, always, never, every_of, some_atom_of, some_below, some_below_of, AllAtomsOf}
use Rattle.ded_model.specs.LongRows.{is_long_comparison, is_long_atom}
use Rattle.ded_model.specs.Normal.{IsNormalTheme, IsNormalAtom, IsNormalTuple, BeginsAfter, constant_row, is_true_row, normal_row, numbers, place_atom, ordered_atoms}
use Rattle.ded_model.specs.Plain.{IsPlainAtom}
use Rattle.ded_model.specs.Point.{same_slot, same_sort, stands_in}
use Rattle.ded_model.specs.Row.{Atom, row_mentions, theme_mentions, atom_mentions, tuple_mentions}
use Rattle.ded_model.specs.Slotted.{SlotScope, slot_of, at, word, texts_goal, sums_goal, same_slots_goal, other_slots_goal, atom_goal, goal_atoms, comparison_atoms, heading_scope, tuple_of}
use Rattle.ded_model.specs.Width.{greatest_length, row_length, tuple_length}
use Rattle.ded_model.proofs.Points.{same_slot_is, same_slot_refl}
use Rattle.ded_resolve.specs.Scope.{sorts_of}
use Rattle.ded_resolve.proofs.Ascending.{ascend-kept, nonzero-kept, rational-kept, AllRational}
use Rattle.ded_resolve.proofs.Reading.{sorts_heading}
use Rattle.ded_resolve.proofs.ShortRows.{AllShort}
use Rattle.ded_sorts.proofs.Overs.{AreSlots}
use Rattle.ded_sorts.specs.Causes.{is_rational_inequality}
use Rattle.ded_sorts.specs.Checks.{forms_of}
use Rattle.ded_print.specs.Tuples.{Names, column_names}
use Rattle.ded_reread.specs.Formulas.{row_in_tuple, theme_compare, tuple_compare, tuple_compares, restored_tuple}
use Rattle.ded_reread.specs.Operands.{left_of, right_of, terms_of, row_compare, op_of, is_turned, constant_compare}
use Rattle.ded_model.specs.declared.row.RowOp.{RowOp}
use Rattle.ded_model.specs.declared.row.RowOp.TheVariants.{Zero, AtMost, Below}
use Rattle.ded_model.proofs.Rows.{or_right, or_left}
use Rattle.ded_reread.specs.Words.{Test, AtomHasWords, HasTexts, TupleHasTexts, AreNamed}
use Rattle.ded_reread.proofs.Columns.{column_slot, column_named}
use Rattle.ded_reread.proofs.Compared.{IsVariable, slots_map, IsGoodRow, constant_is}
use Rattle.ded_reread.proofs.Rows.{row_goal, constant_goal}
use Rattle.ded_reread.proofs.Terms.{short_comparison, row_bound, row_sorted, row_plain, row_words, row_short}

-- ---- slots of a tuple

abbrev InHeading : List Column → Slot → Type 0
InHeading h s = stands_in (heading_slots 0 h) s ≡ true

-- each slot that an atom mentions is one of the heading
abbrev IsOver : List Column → Atom → Type 0
IsOver h a = (s : Slot) → atom_mentions a s ≡ true → InHeading h s

over_all : (h : List Column) (t : List Atom) → ((s : Slot) → list_any (λ a. atom_mentions a s) t ≡ true → InHeading h s) → AllByRecursion (IsOver h) t
over_all h [] k = tt
over_all h (a ∷ t) k = (λ s e. k s (or_left _ _ e), over_all h t (λ s e. k s (or_right (atom_mentions a s) _ e)))

atoms_over : (h : List Column) (t : List Atom) → ((s : Slot) → tuple_mentions t s ≡ true → InHeading h s) → AllByRecursion (IsOver h) t
unfolding tuple_mentions
atoms_over h t k = over_all h t k

row_slots : (h : List Column) (r : LinearConstraint) → IsOver h (First r) → AreSlots (InHeading h) r.coefs
unfolding atom_mentions row_mentions
row_slots h r k = by r.coefs k
  where
    by : (cs : List (Slot × ℤ)) → ((s : Slot) → list_any (λ c. same_slot c.0 s) cs ≡ true → InHeading h s) → AreSlots (InHeading h) cs
    by [] k = tt
    by (c ∷ cs) k = (k c.0 (or_left _ _ (same_slot_refl c.0)), by cs (λ s e. k s (or_right (same_slot c.0 s) _ e)))

-- the slots of a text atom
abbrev ThemeHas : (Slot → Type 0) → ThemeAtom → Type 0
ThemeHas Q (EqText s t) = Q s
ThemeHas Q (NeText s t) = Q s
ThemeHas Q (EqSlot s t) = Q s × Q t
ThemeHas Q (NeSlot s t) = Q s × Q t

theme_slots : (h : List Column) (a : ThemeAtom) → IsOver h (Second a) → ThemeHas (InHeading h) a
unfolding atom_mentions theme_mentions
theme_slots h (EqText s t) k = k s (same_slot_refl s)
theme_slots h (NeText s t) k = k s (same_slot_refl s)
theme_slots h (EqSlot s t) k = (k s (or_left _ _ (same_slot_refl s)), k t (or_right (same_slot s t) _ (same_slot_refl t)))
theme_slots h (NeSlot s t) k = (k s (or_left _ _ (same_slot_refl s)), k t (or_right (same_slot s t) _ (same_slot_refl t)))

-- ---- rows

module _ (h : List Column) (once : has_twice h ≡ false) where
  abbrev scope : SlotScope
  scope = heading_scope 0 h

  abbrev names : Names
  names = column_names h

  sorts : sorts_of scope ≡ scope_of h
  sorts = sorts_heading 0 h

  variables : (cs : List (Slot × ℤ)) → AllRational cs → AreSlots (InHeading h) cs → AreSlots (IsVariable scope names) cs
  variables [] r k = tt
  variables (c ∷ cs) r k =
      let v = column_slot h c.0 once k.0 in
      (record { called = v.called; bound = subst (λ (s : Scope). is_unbound_name s (names c.0) ≡ false) (sym sorts) v.bound; rational = r.0 }, variables cs r.1 k.1)

  good : (r : LinearConstraint) → IsNormalAtom (First r) → IsOver h (First r) → IsGoodRow scope names r
  good r n k = record {
    normal = n.1;
    ascend = ascend-kept r.coefs n.0;
    nonzero = nonzero-kept r.coefs n.0;
    slots = variables r.coefs (rational-kept r.coefs n.0) (row_slots h r k);
  }

  -- what is so of a constant and of each row that is compared is so of the row of a tuple
  row_cases : (Y : FormAtom → Type 0) (r : LinearConstraint) → Y (constant_compare false) → Y (row_compare names r) → Y (tuple_compare names (First r))
  row_cases Y r constant row = by r.coefs
    where
      by : (cs : List (Slot × ℤ)) → Y (row_in_tuple names r cs)
      by [] = constant
      by (c ∷ cs) = row

  -- ---- the goals of rows

  stays : (r : LinearConstraint) → is_true_row r ≡ false → goal_atoms (atom (linear r)) ≡ First r ∷ []
  stays r e = ap (λ b. cond b [] (First r ∷ [])) e

  row_atoms : (r : LinearConstraint) (cs : List (Slot × ℤ)) → r.coefs ≡ cs → IsNormalAtom (First r) → IsGoodRow scope names r → goal_atoms (atom_goal scope (row_in_tuple names r cs)) ≡ First r ∷ []
  row_atoms r [] e n g =
      let empty : (normal_row r).coefs ≡ [] = ap (λ (q : LinearConstraint). q.coefs) n.1.normal ∙ e in
      let constant : r ≡ constant_row false =
      sym n.1.normal ∙ constant_is r empty ∙ ap (λ q. constant_row (is_true_row q)) n.1.normal ∙ ap constant_row n.2 in
      ap goal_atoms (constant_goal scope false) ∙ ap (λ q. First q ∷ []) (sym constant)
  row_atoms r (c ∷ cs) e n g =
      ap goal_atoms (row_goal scope names r g.ascend g.nonzero (slots_map (IsVariable scope names) (λ s. slot_of scope (names s) ≡ s) (λ s v. v.called) r.coefs g.slots) g.normal) ∙ stays r n.2

  -- ---- the goals of text atoms

  -- a comparison of a column with a text, by the column's slot
  abbrev with_text : CompareOp → List ℕ → Slot → GoalForm
  with_text o t u = cond (same_sort u.sort Text || true) (texts_goal (at u) o (word t)) (sums_goal (record { coefs = (u, pos 1) ∷ []; constant = pos 0; over = pos 1 }) o (record { coefs = []; constant = pos 0; over = pos 1 }))

  abbrev with_slot : CompareOp → Slot → Slot → GoalForm
  with_slot o u v =
      cond (same_sort u.sort Text || same_sort v.sort Text) (texts_goal (at u) o (at v))
      (sums_goal (record { coefs = (u, pos 1) ∷ []; constant = pos 0; over = pos 1 }) o (record { coefs = (v, pos 1) ∷ []; constant = pos 0; over = pos 1 }))

  text_goal : (o : CompareOp) (s : Slot) (t : List ℕ) → s.sort ≡ Text → InHeading h s → atom_goal scope (compare (Single (names s)) o (Quoted t)) ≡ texts_goal (at s) o (word t)
  text_goal o s t e k =
      ap (with_text o t) (column_slot h s once k).called
      ∙ ap (λ (x : Sort). cond (same_sort x Text || true) (texts_goal (at s) o (word t)) (sums_goal (record { coefs = (s, pos 1) ∷ []; constant = pos 0; over = pos 1 }) o (record { coefs = []; constant = pos 0; over = pos 1 }))) e

  slots_goal : (o : CompareOp) (s t : Slot) → s.sort ≡ Text → InHeading h s → InHeading h t → atom_goal scope (compare (Single (names s)) o (Single (names t))) ≡ texts_goal (at s) o (at t)
  slots_goal o s t e k l =
      ap₂ (with_slot o) (column_slot h s once k).called (column_slot h t once l).called
      ∙ ap (λ (x : Sort). cond (same_sort x Text || same_sort t.sort Text) (texts_goal (at s) o (at t))
      (sums_goal (record { coefs = (s, pos 1) ∷ []; constant = pos 0; over = pos 1 }) o (record { coefs = (t, pos 1) ∷ []; constant = pos 0; over = pos 1 }))) e

  apart : (s t : Slot) → s.number < t.number → same_slot s t ≡ false
  apart s t l = by (same_slot s t) refl
    where
      below : (m n : ℕ) → m < n → m ≡ n → ⊥
      below m n l e = omega (arith, l, e)

      by : (b : Bool) → same_slot s t ≡ b → b ≡ false
      by true e = absurd (below s.number t.number l (ap (λ (u : Slot). u.number) (same_slot_is s t e)))
      by false e = refl

  first_is : (s t : Slot) → s.number < t.number → nat_lt s.number t.number ≡ true
  first_is s t l = grind (arith, nat_tests, l)

  same_is : (s t : Slot) → s.number < t.number → same_slots_goal s t ≡ atom (theme (EqSlot s t))
  same_is s t l =
      ap (λ b. cond b always (cond (nat_lt s.number t.number) (atom (theme (EqSlot s t))) (atom (theme (EqSlot t s))))) (apart s t l)
      ∙ ap (λ b. cond b (atom (theme (EqSlot s t))) (atom (theme (EqSlot t s)))) (first_is s t l)

  other_is : (s t : Slot) → s.number < t.number → other_slots_goal s t ≡ atom (theme (NeSlot s t))
  other_is s t l =
      ap (λ b. cond b never (cond (nat_lt s.number t.number) (atom (theme (NeSlot s t))) (atom (theme (NeSlot t s))))) (apart s t l)
      ∙ ap (λ b. cond b (atom (theme (NeSlot s t))) (atom (theme (NeSlot t s)))) (first_is s t l)

  theme_goal : (a : ThemeAtom) → IsNormalTheme a → ThemeHas (InHeading h) a → atom_goal scope (theme_compare names a) ≡ atom (theme a)
  theme_goal (EqText s t) n k = text_goal Equal s t n.0 k
  theme_goal (NeText s t) n k = text_goal NotEqual s t n.0 k
  theme_goal (EqSlot s t) n k = slots_goal Equal s t n.0 k.0 k.1 ∙ same_is s t n.2
  theme_goal (NeSlot s t) n k = slots_goal NotEqual s t n.0 k.0 k.1 ∙ other_is s t n.2

  -- ---- atoms

  one_atom : (a : Atom) → IsNormalAtom a → IsOver h a → goal_atoms (atom_goal scope (tuple_compare names a)) ≡ a ∷ []
  one_atom (First r) n k = row_atoms r r.coefs refl n (good r n k)
  one_atom (Second a) n k = ap goal_atoms (theme_goal a n (theme_slots h a k))

  all_atoms : (t : List Atom) → IsNormalTuple t → AllByRecursion (IsOver h) t → comparison_atoms scope (forms_of (tuple_compares names t)) ≡ t
  all_atoms [] n k = refl
  all_atoms (a ∷ t) n k = ap₂ (λ xs ys. xs ++ ys) (one_atom a n.0 k.0) (all_atoms t n.2 k.1)

  placed_first : (a : Atom) (atoms : List Atom) → BeginsAfter a atoms → place_atom a atoms ≡ a ∷ atoms
  placed_first a [] h = refl
  placed_first a (b ∷ bs) h = rw h refl

  in_order : (t : List Atom) → IsNormalTuple t → ordered_atoms t ≡ t
  in_order [] n = refl
  in_order (a ∷ t) n = ap (place_atom a) (in_order t n.2) ∙ placed_first a t n.1

  pub same_tuple : (t : List Atom) → IsTupleOver h t → tuple_of h (forms_of (restored_tuple h t)) ≡ t
  unfolding tuple_of
  same_tuple t o = ap ordered_atoms (all_atoms t o.normal (atoms_over h t o.slots)) ∙ in_order t o.normal

  -- ---- what is so of each comparison

  module _ (Y : FormAtom → Type 0) (constant : Y (constant_compare false)) (row : (r : LinearConstraint) → IsNormalAtom (First r) → IsOver h (First r) → Y (row_compare names r))
      (texts : (a : ThemeAtom) → IsNormalTheme a → ThemeHas (InHeading h) a → Y (theme_compare names a)) where
    each_atom : (a : Atom) → IsNormalAtom a → IsOver h a → Y (tuple_compare names a)
    each_atom (First r) n k = row_cases Y r constant (row r n k)
    each_atom (Second a) n k = texts a n (theme_slots h a k)

    each_all : (t : List Atom) → IsNormalTuple t → AllByRecursion (IsOver h) t → AllAtomsOf Y (tuple_compares names t)
    each_all [] n k = tt
    each_all (a ∷ t) n k = (each_atom a n.0 k.0, each_all t n.2 k.1)

    pub each_of : (t : List Atom) → IsTupleOver h t → AllAtomsOf Y (restored_tuple h t)
    each_of t o = each_all t o.normal (atoms_over h t o.slots)

  none_below : (test : Scope → FormAtom → Bool) (s : Scope) (fs : List Atom) → AllAtomsOf (λ a. test s a ≡ false) (tuple_compares names fs) → some_below_of test s (tuple_compares names fs) ≡ false
  none_below test s [] k = refl
  none_below test s (a ∷ fs) k = or_from _ _ k.0 (none_below test s fs k.1)

  none_of : (test : FormAtom → Bool) (fs : List Atom) → AllAtomsOf (λ a. test a ≡ false) (tuple_compares names fs) → some_atom_of test (tuple_compares names fs) ≡ false
  none_of test [] k = refl
  none_of test (a ∷ fs) k = or_from _ _ k.0 (none_of test fs k.1)

  -- ---- names and sorts

  bound_name : (s : Slot) → InHeading h s → is_unbound_name (scope_of h) (names s) ≡ false
  bound_name s k = (column_slot h s once k).bound

  pub tuple_bound : (t : List Atom) → IsTupleOver h t → has_unbound h (every_of (restored_tuple h t)) ≡ false
  tuple_bound t o =
      none_below is_unbound_atom (scope_of h) t
      (each_of (λ a. is_unbound_atom (scope_of h) a ≡ false) refl
      (λ r n k. subst (λ (s : Scope). is_unbound_atom s (row_compare names r) ≡ false) sorts (row_bound scope names r (good r n k) (op_of (is_turned r.coefs) r.op)))
      theme_bound t o)
    where
      theme_bound : (a : ThemeAtom) → IsNormalTheme a → ThemeHas (InHeading h) a → is_unbound_atom (scope_of h) (theme_compare names a) ≡ false
      theme_bound (EqText s t) n k = or_from _ _ (bound_name s k) refl
      theme_bound (NeText s t) n k = or_from _ _ (bound_name s k) refl
      theme_bound (EqSlot s t) n k = or_from _ _ (bound_name s k.0) (bound_name t k.1)
      theme_bound (NeSlot s t) n k = or_from _ _ (bound_name s k.0) (bound_name t k.1)

  text_name : (s : Slot) → s.sort ≡ Text → InHeading h s → sort_in (scope_of h) (names s) ≡ Text
  text_name s e k = (column_slot h s once k).sorted ∙ e

  pub tuple_sorted : (K : KnownNames) (t : List Atom) → IsTupleOver h t → has_missorted K h (every_of (restored_tuple h t)) ≡ false
  tuple_sorted K t o =
      none_below (is_missorted_atom K) (scope_of h) t
      (each_of (λ a. is_missorted_atom K (scope_of h) a ≡ false) refl
      (λ r n k. subst (λ (s : Scope). is_missorted_atom K s (row_compare names r) ≡ false) sorts (row_sorted scope names r (good r n k) (op_of (is_turned r.coefs) r.op) K))
      theme_sorted t o)
    where
      theme_sorted : (a : ThemeAtom) → IsNormalTheme a → ThemeHas (InHeading h) a → is_missorted_atom K (scope_of h) (theme_compare names a) ≡ false
      theme_sorted (EqText s t) n k = ap (λ x. sorts_differ Equal x Text) (text_name s n.0 k)
      theme_sorted (NeText s t) n k = ap (λ x. sorts_differ NotEqual x Text) (text_name s n.0 k)
      theme_sorted (EqSlot s t) n k = ap₂ (λ x y. sorts_differ Equal x y) (text_name s n.0 k.0) (text_name t n.1 k.1)
      theme_sorted (NeSlot s t) n k = ap₂ (λ x y. sorts_differ NotEqual x y) (text_name s n.0 k.0) (text_name t n.1 k.1)

  pub tuple_equalities : (t : List Atom) → IsTupleOver h t → some_below is_rational_inequality (scope_of h) (every_of (restored_tuple h t)) ≡ false
  tuple_equalities t o =
      none_below is_rational_inequality (scope_of h) t (each_of (λ a. is_rational_inequality (scope_of h) a ≡ false) refl (λ r n k. row_equality r) theme_equality t o)
    where
      row_equality : (r : LinearConstraint) → is_rational_inequality (scope_of h) (row_compare names r) ≡ false
      row_equality r = by (is_turned r.coefs) r.op
        where
          by : (b : Bool) (o : RowOp) → is_rational_inequality (scope_of h) (compare (left_of (terms_of names (is_turned r.coefs) r.coefs)) (op_of b o) (right_of (is_turned r.coefs) r.constant)) ≡ false
          by b Zero = refl
          by false AtMost = refl
          by true AtMost = refl
          by false Below = refl
          by true Below = refl

      theme_equality : (a : ThemeAtom) → IsNormalTheme a → ThemeHas (InHeading h) a → is_rational_inequality (scope_of h) (theme_compare names a) ≡ false
      theme_equality (EqText s t) n k = refl
      theme_equality (NeText s t) n k = ap (λ x. same_sort x Rat && false) (text_name s n.0 k)
      theme_equality (EqSlot s t) n k = refl
      theme_equality (NeSlot s t) n k = ap (λ x. same_sort x Rat && same_sort (sort_in (scope_of h) (names t)) Rat) (text_name s n.0 k.0)

  -- ---- words and numbers

  pub tuple_words : (N M T : Test) (t : List Atom) → AreNamed N h → TupleHasTexts T t → IsTupleOver h t → AllAtomsOf (AtomHasWords N M T) (restored_tuple h t)
  tuple_words N M T t named texts o = go t o.normal (atoms_over h t o.slots) texts
    where
      word : (s : Slot) → InHeading h s → N (names s)
      word s k = column_named N h s k named

      theme_words : (a : ThemeAtom) → ThemeHas (InHeading h) a → HasTexts T (Second a) → AtomHasWords N M T (theme_compare names a)
      theme_words (EqText s t) k x = (word s k, x)
      theme_words (NeText s t) k x = (word s k, x)
      theme_words (EqSlot s t) k x = (word s k.0, word t k.1)
      theme_words (NeSlot s t) k x = (word s k.0, word t k.1)

      row_named : (cs : List (Slot × ℤ)) → AreSlots (InHeading h) cs → AreSlots (λ s. N (names s)) cs
      row_named [] k = tt
      row_named (c ∷ cs) k = (word c.0 k.0, row_named cs k.1)

      one : (a : Atom) → IsOver h a → HasTexts T a → AtomHasWords N M T (tuple_compare names a)
      one (First r) k x = row_cases (AtomHasWords N M T) r (tt, tt) (row_words names r (op_of (is_turned r.coefs) r.op) N M T (row_named r.coefs (row_slots h r k)))
      one (Second a) k x = theme_words a (theme_slots h a k) x

      go : (t : List Atom) → IsNormalTuple t → AllByRecursion (IsOver h) t → TupleHasTexts T t → AllAtomsOf (AtomHasWords N M T) (tuple_compares names t)
      go [] n k x = tt
      go (a ∷ t) n k x = (one a k.0 x.0, go t n.2 k.1 x.1)

  pub tuple_plain : (t : List Atom) → IsTupleOver h t → AllAtomsOf IsPlainAtom (restored_tuple h t)
  tuple_plain t o = each_of IsPlainAtom ((omega arith, tt), (omega arith, tt), refl) (λ r n k. row_plain scope names r (good r n k) (op_of (is_turned r.coefs) r.op)) theme_plain t o
    where
      theme_plain : (a : ThemeAtom) → IsNormalTheme a → ThemeHas (InHeading h) a → IsPlainAtom (theme_compare names a)
      theme_plain (EqText s t) n k = (tt, tt, tt)
      theme_plain (NeText s t) n k = (tt, tt, tt)
      theme_plain (EqSlot s t) n k = (tt, tt, tt)
      theme_plain (NeSlot s t) n k = (tt, tt, tt)

-- ---- short numbers

left_most : (a b k : ℕ) → max a b ≤ k → a ≤ k
left_most a b k h = omega (arith, h)

right_most : (a b k : ℕ) → max a b ≤ k → b ≤ k
right_most a b k h = omega (arith, h)

numbers_short : (zs : List ℤ) → greatest_length zs ≤ 63 → AllShort zs
numbers_short [] h = tt
numbers_short (z ∷ zs) h = (within_from_length z 63 (left_most (length_of z) (greatest_length zs) 63 h), numbers_short zs (right_most (length_of z) (greatest_length zs) 63 h))

names_differ : (b c : Bool) → IsWithin 63 (cond b (pos 1) (pos 0) -ℤ cond c (pos 1) (pos 0))
names_differ true true = omega arith
names_differ true false = omega arith
names_differ false true = omega arith
names_differ false false = omega arith

two_names : (x y : List ℕ) → is_long_comparison (Single x) (Single y) ≡ false
two_names x y = short_comparison (Single x) (Single y) (λ n. names_differ (bytes_eq x n) (bytes_eq y n)) (omega arith)

module _ (names : Names) where
  theme_short : (a : ThemeAtom) → is_long_atom (theme_compare names a) ≡ false
  theme_short (EqText s t) = refl
  theme_short (NeText s t) = refl
  theme_short (EqSlot s t) = two_names (names s) (names t)
  theme_short (NeSlot s t) = two_names (names s) (names t)

  short_rows : (r : LinearConstraint) (cs : List (Slot × ℤ)) → AllShort (numbers r) → is_long_atom (row_in_tuple names r cs) ≡ false
  short_rows r [] h = refl
  short_rows r (c ∷ cs) h = row_short names r (op_of (is_turned r.coefs) r.op) h

  short_all : (t : List Atom) → tuple_length t ≤ 63 → some_atom_of is_long_atom (tuple_compares names t) ≡ false
  short_all [] h = refl
  short_all (First r ∷ t) h = or_from _ _ (short_rows r r.coefs (numbers_short (numbers r) (left_most (row_length r) (tuple_length t) 63 h))) (short_all t (right_most (row_length r) (tuple_length t) 63 h))
  short_all (Second a ∷ t) h = or_from _ _ (theme_short a) (short_all t h)

pub tuple_short : (h : List Column) (t : List Atom) → tuple_length t ≤ 63 → some_atom_of is_long_atom (restored_tuple h t) ≡ false
tuple_short h t l = short_all (column_names h) t l
