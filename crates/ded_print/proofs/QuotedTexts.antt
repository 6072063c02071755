-- The lines of answers, plans and boxes have their quotes in pairs, where names have none.
use Rattle.std.proofs.Common.{◌≡◌, ℕ, zero, suc, ◌+◌, List, [], ◌∷◌, ◌++◌, length, map, refl, ap, arith, Bool, true, false}
use Rattle.std.specs.Prelude.{ℤ, pos, negsuc, int_lt, int_div, unsigned_abs, ◌==◌, if◌then◌else◌, codes}
use Rattle.std.specs.List.{AllByRecursion}
use lib.IntN.{neg_ℤ}
use Rattle.ded_model.specs.declared.bound.Bound.{Bound}
use Rattle.ded_model.specs.declared.bound.Bound.TheVariants.{Infinite, Excluded, Included}
use Rattle.ded_model.specs.declared.name.Column.{Column}
use Rattle.ded_model.specs.declared.row.RowOp.{RowOp}
use Rattle.ded_model.specs.declared.row.RowOp.TheVariants.{Zero, AtMost, Below}
use Rattle.ded_model.specs.declared.slot.Slot.{Slot}
use Rattle.ded_model.specs.declared.slot.Sort.{Sort}
use Rattle.ded_model.specs.declared.slot.Sort.TheVariants.{Rat, Text}
use Rattle.ded_model.specs.declared.tuple.ThemeAtom.{ThemeAtom}
use Rattle.ded_model.specs.declared.tuple.ThemeAtom.TheVariants.{EqText, NeText, EqSlot, NeSlot}
use Rattle.ded_model.specs.declared.tuple.BothAtom.TheVariants.{First, Second}
use Rattle.ded_model.specs.Bound.{Fraction}
use Rattle.ded_model.specs.Logic.{atom, always, never, negation, every_of, some_of, implies, minus, exists, forall, Logics, none, also}
use Rattle.ded_model.specs.PlanForm.{PlanAtom, scan, rows, PlanForm}
use Rattle.ded_model.specs.Quoting.{quoted}
use Rattle.ded_model.specs.Row.{Atom}
use Rattle.ded_print.specs.Boxes.{lower_text, upper_text, span_line, span_lines, rational_names, spans_text}
use Rattle.ded_print.specs.Lines.{lines_text}
use Rattle.ded_print.specs.Numbers.{number_text, count_text, integer_text, lowest_text, fraction_text, common_divisor}
use Rattle.ded_print.specs.Plans.{indent, later_slots_text, slots_text, plan_atom_text, key_text, sort_text, parts, node_lines, part_lines, plan_text}
use Rattle.ded_print.specs.Quiet.{IsQuiet, AreQuiet, IsQuietAtom, IsQuietPlan, AreQuietPlans}
use Rattle.ded_print.specs.Tuples.{Names, column_at, column_names, slot_names, term_text, sign_text, later_term_text, signed, later_terms_text, op_text, row_with_text, theme_text, atom_text, later_atoms_text, tuple_text, answer_text}
use Rattle.ded_print.proofs.QuotedLines.{IsClosed, closed_both, closed_quiet, closed_number, closed_written, closed_quoted, IsInner, AreInner, same_counted, same_many}
use Rattle.ded_print.proofs.Runs.{first}

-- ---- numbers

either_closed : (t : Bool) (a b : List ℕ) → IsClosed a → IsClosed b → IsClosed (if t then a else b)
either_closed true a b p q = p
either_closed false a b p q = q

closed_integer : (z : ℤ) → IsClosed (integer_text z)
closed_integer (pos n) = closed_number n
closed_integer (negsuc n) = closed_both (codes "-") (number_text (suc n)) (λ ys. refl) (closed_number (suc n))

closed_lowest : (n d : ℤ) → IsClosed (lowest_text n d)
closed_lowest n d = either_closed (unsigned_abs d == 1) _ _ (closed_integer n) (closed_both (integer_text n) (47 ∷ integer_text d) (closed_integer n) (closed_both (codes "/") (integer_text d) (λ ys. refl) (closed_integer d)))

closed_fraction : (f : Fraction) → IsClosed (fraction_text f)
closed_fraction f = closed_lowest (int_div f.num (common_divisor f)) (int_div f.den (common_divisor f))

-- ---- tuples

module _ (names : Names) (closed : (s : Slot) → IsClosed (names s)) where
  closed_term : (s : Slot) (a : ℤ) → IsClosed (term_text names s a)
  closed_term s a = either_closed (unsigned_abs a == 1) _ _ (closed s)
      (closed_both (number_text (unsigned_abs a)) (42 ∷ names s) (closed_number (unsigned_abs a)) (closed_both (codes "*") (names s) (λ ys. refl) (closed s)))

  closed_sign : (a : ℤ) → IsClosed (sign_text a)
  closed_sign a = either_closed (int_lt a (pos 0)) _ _ (λ ys. refl) (λ ys. refl)

  closed_later_term : (s : Slot) (a : ℤ) → IsClosed (later_term_text names s a)
  closed_later_term s a = closed_both (sign_text a) (term_text names s a) (closed_sign a) (closed_term s a)

  closed_later_terms : (turned : Bool) (cs : List (Slot × ℤ)) → IsClosed (later_terms_text names turned cs)
  closed_later_terms turned [] = λ ys. refl
  closed_later_terms turned (c ∷ cs) = closed_both (later_term_text names c.0 (signed turned c.1)) (later_terms_text names turned cs) (closed_later_term c.0 (signed turned c.1)) (closed_later_terms turned cs)

  closed_op : (turned : Bool) (op : RowOp) → IsClosed (op_text turned op)
  closed_op true Zero = λ ys. refl
  closed_op false Zero = λ ys. refl
  closed_op true AtMost = λ ys. refl
  closed_op false AtMost = λ ys. refl
  closed_op true Below = λ ys. refl
  closed_op false Below = λ ys. refl

  closed_row : (cs : List (Slot × ℤ)) (op : RowOp) (constant : ℤ) → IsClosed (row_with_text names cs op constant)
  closed_row [] op constant = λ ys. refl
  closed_row (c ∷ cs) op constant =
      let turned = int_lt c.1 (pos 0) in
      let ending = closed_both (op_text turned op) (integer_text (neg_ℤ (signed turned constant))) (closed_op turned op) (closed_integer (neg_ℤ (signed turned constant))) in
      closed_both (term_text names c.0 (signed turned c.1)) _ (closed_term c.0 (signed turned c.1)) (closed_both (later_terms_text names turned cs) _ (closed_later_terms turned cs) ending)

  closed_theme : (a : ThemeAtom) → IsClosed (theme_text names a)
  closed_theme (EqText s t) = closed_both (names s) (codes " = " ++ quoted t) (closed s) (closed_both (codes " = ") (quoted t) (λ ys. refl) (closed_quoted t))
  closed_theme (NeText s t) = closed_both (names s) (codes " != " ++ quoted t) (closed s) (closed_both (codes " != ") (quoted t) (λ ys. refl) (closed_quoted t))
  closed_theme (EqSlot s t) = closed_both (names s) (codes " = " ++ names t) (closed s) (closed_both (codes " = ") (names t) (λ ys. refl) (closed t))
  closed_theme (NeSlot s t) = closed_both (names s) (codes " != " ++ names t) (closed s) (closed_both (codes " != ") (names t) (λ ys. refl) (closed t))

  closed_atom : (a : Atom) → IsClosed (atom_text names a)
  closed_atom (First r) = closed_row r.coefs r.op r.constant
  closed_atom (Second a) = closed_theme a

  closed_later_atoms : (rest : List Atom) → IsClosed (later_atoms_text names rest)
  closed_later_atoms [] = λ ys. refl
  closed_later_atoms (a ∷ rest) = closed_both (codes ", ") (atom_text names a ++ later_atoms_text names rest) (λ ys. refl) (closed_both (atom_text names a) (later_atoms_text names rest) (closed_atom a) (closed_later_atoms rest))

  pub closed_tuple : (t : List Atom) → IsClosed (tuple_text names t)
  closed_tuple [] = λ ys. refl
  closed_tuple (a ∷ rest) = closed_both (codes "{ ") (atom_text names a ++ (later_atoms_text names rest ++ codes " }")) (λ ys. refl)
      (closed_both (atom_text names a) (later_atoms_text names rest ++ codes " }") (closed_atom a) (closed_both (later_atoms_text names rest) (codes " }") (closed_later_atoms rest) (λ ys. refl)))

-- ---- answers

quiet_column : (columns : List Column) (n : ℕ) → AreQuiet columns → IsQuiet (column_at columns n)
quiet_column [] n h = tt
quiet_column (c ∷ cs) zero h = h.0
quiet_column (c ∷ cs) (suc n) h = quiet_column cs n h.1

other_first : (l : List ℕ) → (first l ≡ 101 → ⊥) → l ≡ codes "end" → ⊥
other_first l other e = other (ap first e)

begins_tuple : (names : Names) (t : List Atom) → tuple_text names t ≡ codes "end" → ⊥
begins_tuple names [] e = absurd (omega (arith, ap first e))
begins_tuple names (a ∷ rest) e = absurd (omega (arith, ap first e))

inner_tuples : (names : Names) → ((s : Slot) → IsClosed (names s)) → (ts : List (List Atom)) → AreInner (map (tuple_text names) ts)
inner_tuples names closed [] = tt
inner_tuples names closed (t ∷ ts) = (record { closed = closed_tuple names closed t; other = begins_tuple names t }, inner_tuples names closed ts)

pub one_answer : (columns : List Column) (ts us : List (List Atom)) (xs ys : List ℕ) → AreQuiet columns
    → answer_text columns ts ++ xs ≡ answer_text columns us ++ ys → (answer_text columns ts ≡ answer_text columns us) × (xs ≡ ys)
one_answer columns ts us xs ys quiet e =
    let closed : (s : Slot) → IsClosed (column_names columns s) = λ s. closed_quiet (column_at columns s.number) (quiet_column columns s.number quiet) in
    same_counted (codes "answer") (number_text (length ts)) (number_text (length us)) (map (tuple_text (column_names columns)) ts) (map (tuple_text (column_names columns)) us) xs ys (λ zs. refl) (closed_number (length ts)) (closed_number (length us)) (inner_tuples (column_names columns) closed ts) (inner_tuples (column_names columns) closed us) e

-- ---- plans

closed_slot : (s : Slot) → IsClosed (slot_names s)
closed_slot s = closed_both (codes "v") (number_text s.number) (λ ys. refl) (closed_number s.number)

closed_indent : (d : ℕ) → IsClosed (indent d)
closed_indent zero = λ ys. refl
closed_indent (suc d) = closed_both (codes "  ") (indent d) (λ ys. refl) (closed_indent d)

closed_later_slots : (ss : List Slot) → IsClosed (later_slots_text ss)
closed_later_slots [] = λ ys. refl
closed_later_slots (s ∷ ss) = closed_both (codes ", ") (slot_names s ++ later_slots_text ss) (λ ys. refl) (closed_both (slot_names s) (later_slots_text ss) (closed_slot s) (closed_later_slots ss))

closed_slots : (ss : List Slot) → IsClosed (slots_text ss)
closed_slots [] = λ ys. refl
closed_slots (s ∷ ss) = closed_both (slot_names s) (later_slots_text ss) (closed_slot s) (closed_later_slots ss)

closed_sort : (s : Sort) → IsClosed (sort_text s)
closed_sort Rat = λ ys. refl
closed_sort Text = λ ys. refl

closed_plan_atom : (a : PlanAtom) → IsQuietAtom a → IsClosed (plan_atom_text a)
closed_plan_atom (scan n ss) h =
    closed_both (codes "scan ") (n ++ (codes "(" ++ (slots_text ss ++ codes ")"))) (λ ys. refl) (closed_both n (codes "(" ++ (slots_text ss ++ codes ")")) (closed_quiet n h) (closed_both (codes "(") (slots_text ss ++ codes ")") (λ ys. refl) (closed_both (slots_text ss) (codes ")") (closed_slots ss) (λ ys. refl))))
closed_plan_atom (rows t) h = closed_both (codes "rows ") (tuple_text slot_names t) (λ ys. refl) (closed_tuple slot_names closed_slot t)

closed_count : (word : List ℕ) (n : ℕ) → IsClosed word → IsClosed (word ++ number_text n)
closed_count word n h = closed_both word (number_text n) h (closed_number n)

-- a node's line is not `end`, whatever its first byte is but an e
begins_node : (d : ℕ) (text : List ℕ) → (first text ≡ 101 → ⊥) → indent d ++ text ≡ codes "end" → ⊥
begins_node zero text other e = other (ap first e)
begins_node (suc d) text other e = absurd (omega (arith, ap first e))

inner_node : (d : ℕ) (text : List ℕ) → IsClosed text → (first text ≡ 101 → ⊥) → IsInner (indent d ++ text)
inner_node d text closed other = record { closed = closed_both (indent d) text (closed_indent d) closed; other = begins_node d text other }

begins_plan_atom : (a : PlanAtom) → first (plan_atom_text a) ≡ 101 → ⊥
begins_plan_atom (scan n ss) e = absurd (omega (arith, e))
begins_plan_atom (rows t) e = absurd (omega (arith, e))

inner_both : (ls ms : List (List ℕ)) → AreInner ls → AreInner ms → AreInner (ls ++ ms)
inner_both [] ms p q = q
inner_both (l ∷ ls) ms p q = (p.0, inner_both ls ms p.1 q)

mutual
  pub inner_nodes : (d : ℕ) (f : PlanForm) → IsQuietPlan f → AreInner (node_lines d f)
  inner_nodes d (atom a) h = (inner_node d (plan_atom_text a) (closed_plan_atom a h) (begins_plan_atom a), tt)
  inner_nodes d always h = tt
  inner_nodes d never h = tt
  inner_nodes d (negation f) h = (inner_node d (codes "not") (λ ys. refl) (λ e. omega (arith, e)), inner_nodes (d + 1) f h)
  inner_nodes d (every_of fs) h = (inner_node d (codes "join " ++ number_text (parts fs)) (closed_count (codes "join ") (parts fs) (λ ys. refl)) (λ e. omega (arith, e)), inner_parts (d + 1) fs h)
  inner_nodes d (some_of fs) h = (inner_node d (codes "union " ++ number_text (parts fs)) (closed_count (codes "union ") (parts fs) (λ ys. refl)) (λ e. omega (arith, e)), inner_parts (d + 1) fs h)
  inner_nodes d (implies f g) h = tt
  inner_nodes d (minus f g) h = (inner_node d (codes "minus") (λ ys. refl) (λ e. omega (arith, e)), inner_both (node_lines (d + 1) f) (node_lines (d + 1) g) (inner_nodes (d + 1) f h.0) (inner_nodes (d + 1) g h.1))
  inner_nodes d (exists s k f) h =
      (inner_node d (codes "project " ++ (key_text k ++ sort_text s)) (closed_both (codes "project ") (key_text k ++ sort_text s) (λ ys. refl) (closed_both (key_text k) (sort_text s) (closed_quiet (key_text k) h.0) (closed_sort s))) (λ e. omega (arith, e)), inner_nodes (d + 1) f h.1)
  inner_nodes d (forall s k f) h = tt

  inner_parts : (d : ℕ) (fs : Logics PlanAtom) → AreQuietPlans fs → AreInner (part_lines d fs)
  inner_parts d none h = tt
  inner_parts d (also f fs) h = inner_both (node_lines d f) (part_lines d fs) (inner_nodes d f h.0) (inner_parts d fs h.1)

pub one_plan : (f g : PlanForm) (xs ys : List ℕ) → IsQuietPlan f → IsQuietPlan g → plan_text f ++ xs ≡ plan_text g ++ ys → (plan_text f ≡ plan_text g) × (xs ≡ ys)
one_plan f g xs ys p q e = same_counted (codes "plan") (count_text (length (node_lines 0 f))) (count_text (length (node_lines 0 g))) (node_lines 0 f) (node_lines 0 g) xs ys (λ zs. refl) (closed_written (length (node_lines 0 f))) (closed_written (length (node_lines 0 g))) (inner_nodes 0 f p) (inner_nodes 0 g q) e

-- ---- boxes

closed_lower : (b : Bound) → IsClosed (lower_text b)
closed_lower Infinite = λ ys. refl
closed_lower (Excluded f) = closed_both (codes "(") (fraction_text f) (λ ys. refl) (closed_fraction f)
closed_lower (Included f) = closed_both (codes "[") (fraction_text f) (λ ys. refl) (closed_fraction f)

closed_upper : (b : Bound) → IsClosed (upper_text b)
closed_upper Infinite = λ ys. refl
closed_upper (Excluded f) = closed_both (fraction_text f) (codes ")") (closed_fraction f) (λ ys. refl)
closed_upper (Included f) = closed_both (fraction_text f) (codes "]") (closed_fraction f) (λ ys. refl)

pub closed_span : (n : List ℕ) (b : Bound × Bound) → IsQuiet n → IsClosed (span_line n b)
closed_span n b h =
    closed_both n (codes " in " ++ (lower_text b.0 ++ (codes ", " ++ upper_text b.1))) (closed_quiet n h) (closed_both (codes " in ") (lower_text b.0 ++ (codes ", " ++ upper_text b.1)) (λ ys. refl) (closed_both (lower_text b.0) (codes ", " ++ upper_text b.1) (closed_lower b.0) (closed_both (codes ", ") (upper_text b.1) (λ ys. refl) (closed_upper b.1))))

closed_spans : (ns : List (List ℕ)) (bs : List (Bound × Bound)) → AllByRecursion IsQuiet ns → AllByRecursion IsClosed (span_lines ns bs)
closed_spans [] bs h = tt
closed_spans (n ∷ ns) [] h = tt
closed_spans (n ∷ ns) (b ∷ bs) h = (closed_span n b h.0, closed_spans ns bs h.1)

as_many : (ns : List (List ℕ)) (bs cs : List (Bound × Bound)) → length bs ≡ length cs → length (span_lines ns bs) ≡ length (span_lines ns cs)
as_many [] bs cs e = refl
as_many (n ∷ ns) [] [] e = refl
as_many (n ∷ ns) [] (c ∷ cs) e = absurd (omega (arith, e))
as_many (n ∷ ns) (b ∷ bs) [] e = absurd (omega (arith, e))
as_many (n ∷ ns) (b ∷ bs) (c ∷ cs) e = ap suc (as_many ns bs cs (omega (arith, e)))

either_names : (t : Bool) (n : List ℕ) (ns : List (List ℕ)) → IsQuiet n → AllByRecursion IsQuiet ns → AllByRecursion IsQuiet (if t then (n ∷ ns) else ns)
either_names true n ns h k = (h, k)
either_names false n ns h k = k

pub quiet_names : (columns : List Column) → AreQuiet columns → AllByRecursion IsQuiet (rational_names columns)
quiet_names [] h = tt
quiet_names (c ∷ cs) h = either_names _ c.name (rational_names cs) h.0 (quiet_names cs h.1)

pub one_box : (columns : List Column) (bs cs : List (Bound × Bound)) (xs ys : List ℕ) → AreQuiet columns → length bs ≡ length cs
    → spans_text columns bs ++ xs ≡ spans_text columns cs ++ ys → (spans_text columns bs ≡ spans_text columns cs) × (xs ≡ ys)
one_box columns bs cs xs ys quiet n e =
    let names = rational_names columns in
    let both = same_many (span_lines names bs) (span_lines names cs) xs ys (as_many names bs cs n) (closed_spans names bs (quiet_names columns quiet)) (closed_spans names cs (quiet_names columns quiet)) e in
    (ap lines_text both.0, both.1)
