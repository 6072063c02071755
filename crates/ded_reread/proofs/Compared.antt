-- The rows of comparisons, and which comparison is read back.
--
-- A comparison of numbers has a row over rational slots of bound names. One of texts has no sums on its sides, so it is read back as it
-- is.
use Rattle.std.proofs.Common.{◌≡◌, ℕ, Bool, true, false, cond, nat_lt, ◌||◌, not, List, [], ◌∷◌, Some, None, refl, sym, ap, ap₂, ◌∙◌, subst, true≢false, bytes_eq}
use Rattle.std.specs.Prelude.{ℤ, pos, ◌*ℤ◌, int_div}
use lib.IntN.{neg_ℤ}
use Rattle.std.specs.List.{list_any}
use Rattle.ded_model.specs.declared.slot.Slot.{Slot}
use Rattle.ded_model.specs.declared.slot.Sort.{Sort}
use Rattle.ded_model.specs.declared.slot.Sort.TheVariants.{Rat, Text}
use Rattle.ded_model.specs.declared.row.RowOp.{RowOp}
use Rattle.ded_model.specs.declared.row.RowOp.TheVariants.{Zero, AtMost, Below}
use Rattle.ded_model.specs.declared.formula.CompareOp.{CompareOp}
use Rattle.ded_model.specs.declared.formula.CompareOp.TheVariants.{Less, LessEq, Equal, NotEqual, GreaterEq, Greater}
use Rattle.ded_model.specs.declared.formula.Operand.{Operand}
use Rattle.ded_model.specs.declared.formula.Operand.TheVariants.{Single, Sum, Quoted}
use Rattle.ded_model.specs.declared.tuple.ThemeAtom.TheVariants.{EqSlot, NeSlot}
use Rattle.ded_model.specs.Constraint.{LinearConstraint}
use Rattle.ded_model.specs.Coefs.{AllAbove, put_all, mixed}
use Rattle.ded_model.specs.Form.{FormAtom, compare}
use Rattle.ded_model.specs.Goal.{GoalForm, theme}
use Rattle.ded_model.specs.Known.{KnownNames, is_unbound_name, is_unbound_operand, sort_in, operand_sort, is_text_sum, is_equality, sorts_differ, is_missorted_atom}
use Rattle.ded_model.specs.Logic.{atom, always, never}
use Rattle.ded_model.specs.Normal.{coefs_over, divisor_of, normal_with, normal_row, constant_row, is_true_row, IsNormalRow}
use Rattle.ded_model.specs.Point.{same_slot, same_sort}
use Rattle.ded_model.specs.Row.{sign_meets}
use Rattle.ded_model.specs.Slotted.{SlotScope, slot_of, add_parts, slot_sum, difference_row, comparison_row, sums_goal, TextSide, at, word, text_side, same_text_goal, other_text_goal, texts_goal, is_text_operand, compare_goal}
use Rattle.ded_model.specs.Sum.{SlotSum, denominator}
use Rattle.ded_model.proofs.Bools.{or_false_left, or_false_right}
use Rattle.ded_model.proofs.Divisors.{divisor-whole}
use Rattle.ded_model.proofs.LineCoefs.{AllNonzero, nonzero-nonzero}
use Rattle.ded_model.proofs.SlotLists.{rational}
use Rattle.ded_model.proofs.CoefLists.{over_nonzero}
use Rattle.ded_row.proofs.Forms.{normal_row-normal}
use Rattle.ded_row.proofs.MixedLines.{nonzero_begins}
use Rattle.ded_sorts.proofs.Overs.{AreSlots, put_slots, nonzero_slots}
use Rattle.ded_resolve.specs.Scope.{sorts_of}
use Rattle.ded_resolve.proofs.Ascending.{Ascend, AllRational, ascend-mixed, ascend-nonzero}
use Rattle.ded_resolve.proofs.Summing.{sort_in-slot}
use Rattle.ded_sorts.proofs.Meanings.{never_false}
use Rattle.ded_print.specs.Tuples.{Names}
use Rattle.ded_dump.specs.Comparisons.{below, row_of}
use Rattle.ded_reread.specs.Operands.{restored_operand, row_compared, constant_compare, stated, denied, restored_row, restored_compare}
use Rattle.ded_reread.specs.Formulas.{restored_atom}
use Rattle.ded_reread.proofs.Scopes.{IsCalled}

-- ---- slots of bound names

-- the slot has a name that is bound and means it, and is rational
pub record IsVariable (scope : SlotScope) (names : Names) (s : Slot) : Type 0 where
  pub called : slot_of scope (names s) ≡ s
  pub bound : is_unbound_name (sorts_of scope) (names s) ≡ false
  pub rational : s.sort ≡ Rat

pub variable_is : (scope : SlotScope) (names : Names) (x : List ℕ) → IsCalled scope names → is_unbound_name (sorts_of scope) x ≡ false → (slot_of scope x).sort ≡ Rat → IsVariable scope names (slot_of scope x)
variable_is scope names x c u r = let e = c.each x u in record { called = ap (slot_of scope) e; bound = ap (is_unbound_name (sorts_of scope)) e ∙ u; rational = r }

-- each name of a sum has the property
abbrev pub AllNames : (List ℕ → Type 0) → List (List ℕ × ℤ) → Type 0
AllNames R [] = Unit {0}
AllNames R (c ∷ cs) = R c.0 × AllNames R cs

abbrev pub HaveNames : (List ℕ → Type 0) → Operand → Type 0
HaveNames R (Single x) = R x
HaveNames R (Sum t) = AllNames R t.parts
HaveNames R (Quoted t) = Unit {0}

pub slots_map : (Q R : Slot → Type 0) → ((s : Slot) → Q s → R s) → (cs : List (Slot × ℤ)) → AreSlots Q cs → AreSlots R cs
slots_map Q R each [] h = tt
slots_map Q R each (c ∷ cs) h = (each c.0 h.0, slots_map Q R each cs h.1)

rational_slots : (scope : SlotScope) (names : Names) (cs : List (Slot × ℤ)) → AreSlots (IsVariable scope names) cs → AllRational cs
rational_slots scope names [] h = tt
rational_slots scope names (c ∷ cs) h = (h.0.rational, rational_slots scope names cs h.1)

-- ---- slots of sums and rows

module _ (Q : Slot → Type 0) where
  parts_slots : (scope : SlotScope) (cs : List (List ℕ × ℤ)) → AllNames (λ x. Q (slot_of scope x)) cs → AreSlots Q (add_parts scope cs)
  parts_slots scope [] h = tt
  parts_slots scope (c ∷ cs) h = put_slots Q (slot_of scope c.0) c.1 (add_parts scope cs) h.0 (parts_slots scope cs h.1)

  pub sum_slots : (scope : SlotScope) (t : Operand) → HaveNames (λ x. Q (slot_of scope x)) t → AreSlots Q (slot_sum scope t).coefs
  sum_slots scope (Single x) h = (h, tt)
  sum_slots scope (Sum t) h = nonzero_slots Q (add_parts scope t.parts) (parts_slots scope t.parts h)
  sum_slots scope (Quoted t) h = tt

  put_all_slots : (k : ℤ) (cs ys : List (Slot × ℤ)) → AreSlots Q cs → AreSlots Q ys → AreSlots Q (put_all k cs ys)
  put_all_slots k [] ys e f = f
  put_all_slots k (c ∷ cs) ys e f = put_slots Q c.0 (k *ℤ c.1) (put_all k cs ys) e.0 (put_all_slots k cs ys e.1 f)

  over_slots : (k : ℤ) (cs : List (Slot × ℤ)) → AreSlots Q cs → AreSlots Q (coefs_over k cs)
  over_slots k [] e = tt
  over_slots k (c ∷ cs) e = (e.0, over_slots k cs e.1)

  normal_slots : (r : LinearConstraint) (cs : List (Slot × ℤ)) → r.coefs ≡ cs → AreSlots Q cs → AreSlots Q (normal_with r cs).coefs
  normal_slots r [] i e = tt
  normal_slots r (c ∷ cs) i e = over_slots (divisor_of r.op r.constant (c ∷ cs)) r.coefs (subst (AreSlots Q) (sym i) e)

  difference_slots : (l r : SlotSum) (op : RowOp) → AreSlots Q l.coefs → AreSlots Q r.coefs → AreSlots Q (normal_row (difference_row l r op)).coefs
  unfolding normal_row
  difference_slots l r op e f =
      let a = pos (denominator r.over) in
      let b = neg_ℤ (pos (denominator l.over)) in
      normal_slots (difference_row l r op) (difference_row l r op).coefs refl
      (nonzero_slots Q (mixed a l.coefs b r.coefs) (put_all_slots a l.coefs (put_all b r.coefs []) e (put_all_slots b r.coefs [] f tt)))

  pub comparison_slots : (l : SlotSum) (o : CompareOp) (r : SlotSum) → AreSlots Q l.coefs → AreSlots Q r.coefs → AreSlots Q (normal_row (comparison_row l o r)).coefs
  comparison_slots l Less r e f = difference_slots l r Below e f
  comparison_slots l LessEq r e f = difference_slots l r AtMost e f
  comparison_slots l Equal r e f = difference_slots l r Zero e f
  comparison_slots l NotEqual r e f = difference_slots l r Zero e f
  comparison_slots l GreaterEq r e f = difference_slots r l AtMost f e
  comparison_slots l Greater r e f = difference_slots r l Below f e

-- ---- good rows

above_over : (k : ℤ) (n : ℕ) (cs : List (Slot × ℤ)) → AllAbove n cs → AllAbove n (coefs_over k cs)
above_over k n [] h = tt
above_over k n (c ∷ cs) h = (h.0, above_over k n cs h.1)

ascend_over : (k : ℤ) (cs : List (Slot × ℤ)) → Ascend cs → Ascend (coefs_over k cs)
ascend_over k [] h = tt
ascend_over k (c ∷ cs) h = (h.0, above_over k c.0.number cs h.1, ascend_over k cs h.2)

ascend_normal : (op : RowOp) (m : ℤ) (cs : List (Slot × ℤ)) → Ascend cs → Ascend (normal_with (record { coefs = cs; constant = m; op = op }) cs).coefs
ascend_normal op m [] h = tt
ascend_normal op m (c ∷ cs) h = ascend_over (divisor_of op m (c ∷ cs)) (c ∷ cs) h

nonzero_normal : (op : RowOp) (m : ℤ) (cs : List (Slot × ℤ)) → AllNonzero cs → AllNonzero (normal_with (record { coefs = cs; constant = m; op = op }) cs).coefs
nonzero_normal op m [] h = tt
nonzero_normal op m (c ∷ cs) h = over_nonzero (divisor_of op m (c ∷ cs)) (c ∷ cs) (divisor-whole op m (c ∷ cs)) h

-- a normal row over ascending slots of bound names, without coefficients that are 0
pub record IsGoodRow (scope : SlotScope) (names : Names) (q : LinearConstraint) : Type 0 where
  pub normal : IsNormalRow q
  pub ascend : Ascend q.coefs
  pub nonzero : AllNonzero q.coefs
  pub slots : AreSlots (IsVariable scope names) q.coefs

module _ (scope : SlotScope) (names : Names) where
  good_difference : (l r : SlotSum) (op : RowOp) → AreSlots (IsVariable scope names) l.coefs → AreSlots (IsVariable scope names) r.coefs → IsGoodRow scope names (normal_row (difference_row l r op))
  unfolding normal_row
  good_difference l r op e f =
      let a = pos (denominator r.over) in
      let b = neg_ℤ (pos (denominator l.over)) in
      let cs = mixed a l.coefs b r.coefs in
      let d = difference_row l r op in
      record {
        normal = normal_row-normal d (nonzero_begins d.coefs (nonzero-nonzero cs));
        ascend = ascend_normal op d.constant d.coefs (ascend-nonzero cs (ascend-mixed a l.coefs b r.coefs (rational_slots scope names l.coefs e) (rational_slots scope names r.coefs f)));
        nonzero = nonzero_normal op d.constant d.coefs (nonzero-nonzero cs);
        slots = difference_slots (IsVariable scope names) l r op e f;
      }

  pub good_comparison : (l : SlotSum) (o : CompareOp) (r : SlotSum) → AreSlots (IsVariable scope names) l.coefs → AreSlots (IsVariable scope names) r.coefs → IsGoodRow scope names (normal_row (comparison_row l o r))
  good_comparison l Less r e f = good_difference l r Below e f
  good_comparison l LessEq r e f = good_difference l r AtMost e f
  good_comparison l Equal r e f = good_difference l r Zero e f
  good_comparison l NotEqual r e f = good_difference l r Zero e f
  good_comparison l GreaterEq r e f = good_difference r l AtMost f e
  good_comparison l Greater r e f = good_difference r l Below f e

-- ---- rows with and without coefficients

some_slots : List (Slot × ℤ) → Bool
some_slots [] = false
some_slots (c ∷ cs) = true

pub none_some : (c : Slot × ℤ) (cs : List (Slot × ℤ)) → ◌≡◌ {A = List (Slot × ℤ)} [] (c ∷ cs) → ⊥
unfolding some_slots
none_some c cs e = true≢false (sym (ap some_slots e))

-- with coefficients the op is kept
pub op_kept : (p : LinearConstraint) (c : Slot × ℤ) (cs : List (Slot × ℤ)) → (normal_row p).coefs ≡ c ∷ cs → (normal_row p).op ≡ p.op
unfolding normal_row
op_kept p c cs e = go p.coefs e
  where
    go : (ds : List (Slot × ℤ)) → (normal_with p ds).coefs ≡ c ∷ cs → (normal_with p ds).op ≡ p.op
    go [] e = absurd (none_some c cs e)
    go (d ∷ ds) e = refl

truth_of : (b : Bool) → constant_row b ≡ constant_row (is_true_row (constant_row b))
truth_of true = refl
truth_of false = refl

-- without, it is the true row or the false one
pub constant_is : (p : LinearConstraint) → (normal_row p).coefs ≡ [] → normal_row p ≡ constant_row (is_true_row (normal_row p))
unfolding normal_row
constant_is p e = go p.coefs refl e
  where
    go : (ds : List (Slot × ℤ)) → p.coefs ≡ ds → (normal_with p ds).coefs ≡ [] → normal_with p ds ≡ constant_row (is_true_row (normal_with p ds))
    go [] i e = truth_of (sign_meets p.op p.constant)
    go (d ∷ ds) i e = absurd (none_some (d.0, int_div d.1 (divisor_of p.op p.constant (d ∷ ds))) (coefs_over (divisor_of p.op p.constant (d ∷ ds)) ds) (sym e ∙ ap (coefs_over (divisor_of p.op p.constant (d ∷ ds))) i))

-- a row that is read back is the true or the false one, or is compared
pub read_row : (Y : FormAtom → Type 0) (names : Names) (o : CompareOp) (q : LinearConstraint) → ((b : Bool) → Y (constant_compare b))
    → ((c : Slot × ℤ) (cs : List (Slot × ℤ)) → q.coefs ≡ c ∷ cs → (p : CompareOp) → Y (row_compared names q p)) → Y (restored_row names o q)
read_row Y names o q constant row = by o
  where
    stating : (cs : List (Slot × ℤ)) → q.coefs ≡ cs → Y (stated names q cs)
    stating [] e = constant (is_true_row q)
    stating (c ∷ cs) e = row c cs e _

    denying : (cs : List (Slot × ℤ)) → q.coefs ≡ cs → Y (denied names q cs)
    denying [] e = constant (not (is_true_row q))
    denying (c ∷ cs) e = row c cs e NotEqual

    by : (o : CompareOp) → Y (restored_row names o q)
    by Less = stating q.coefs refl
    by LessEq = stating q.coefs refl
    by Equal = stating q.coefs refl
    by NotEqual = denying q.coefs refl
    by GreaterEq = stating q.coefs refl
    by Greater = stating q.coefs refl

-- ---- sorts of operands

pub text_test : (scope : SlotScope) (t : Operand) → is_text_operand scope t ≡ same_sort (operand_sort (sorts_of scope) t) Text
text_test scope (Single x) = ap (λ (s : Sort). same_sort s Text) (sym (sort_in-slot scope x))
text_test scope (Sum t) = refl
text_test scope (Quoted t) = refl

both_texts : (o : CompareOp) (s t : Sort) → sorts_differ o s t ≡ false → (same_sort s Text || same_sort t Text) ≡ true → (same_sort s Text ≡ true) × (same_sort t Text ≡ true)
both_texts o Rat Rat d h = absurd (true≢false (sym h))
both_texts o Rat Text d h = absurd (never_false (is_equality o) d)
both_texts o Text Rat d h = absurd (never_false (is_equality o) d)
both_texts o Text Text d h = (refl, refl)

-- what is no text and no sum of texts has names of rational slots
rational_names : (scope : SlotScope) (names : Names) (cs : List (List ℕ × ℤ)) → IsCalled scope names → list_any (λ c. is_unbound_name (sorts_of scope) c.0) cs ≡ false
    → list_any (λ c. same_sort (sort_in (sorts_of scope) c.0) Text) cs ≡ false → AllNames (λ x. IsVariable scope names (slot_of scope x)) cs
rational_names scope names [] k u s = tt
rational_names scope names (c ∷ cs) k u s = (
  variable_is scope names c.0 k (or_false_left _ _ u) (sym (sort_in-slot scope c.0) ∙ rational (sort_in (sorts_of scope) c.0) (or_false_left _ _ s)),
  rational_names scope names cs k (or_false_right (is_unbound_name (sorts_of scope) c.0) _ u) (or_false_right (same_sort (sort_in (sorts_of scope) c.0) Text) _ s),
)

pub sum_variables : (scope : SlotScope) (names : Names) (t : Operand) → IsCalled scope names → is_unbound_operand (sorts_of scope) t ≡ false → is_text_sum (sorts_of scope) t ≡ false
    → is_text_operand scope t ≡ false → HaveNames (λ x. IsVariable scope names (slot_of scope x)) t
sum_variables scope names (Single x) k u s n = variable_is scope names x k u (rational (slot_of scope x).sort n)
sum_variables scope names (Sum t) k u s n = rational_names scope names t.parts k u s
sum_variables scope names (Quoted t) k u s n = tt

-- ---- comparisons of texts

-- a text is read back as it is
same_operand : (scope : SlotScope) (t : Operand) → is_text_operand scope t ≡ true → restored_operand t ≡ t
same_operand scope (Single x) e = refl
same_operand scope (Sum t) e = absurd (true≢false (sym e))
same_operand scope (Quoted t) e = refl

-- goals of texts have no row
either_none : (b : Bool) (g g' : GoalForm) → row_of (below g) ≡ None → row_of (below g') ≡ None → row_of (below (cond b g g')) ≡ None
either_none true g g' h k = h
either_none false g g' h k = k

same_none : (l r : TextSide) → row_of (below (same_text_goal l r)) ≡ None
same_none (at s) (at t) = either_none (same_slot s t) always (cond (nat_lt s.number t.number) (atom (theme (EqSlot s t))) (atom (theme (EqSlot t s)))) refl (either_none (nat_lt s.number t.number) (atom (theme (EqSlot s t))) (atom (theme (EqSlot t s))) refl refl)
same_none (at s) (word t) = refl
same_none (word t) (at s) = refl
same_none (word t) (word u) = either_none (bytes_eq t u) always never refl refl

other_none : (l r : TextSide) → row_of (below (other_text_goal l r)) ≡ None
other_none (at s) (at t) = either_none (same_slot s t) never (cond (nat_lt s.number t.number) (atom (theme (NeSlot s t))) (atom (theme (NeSlot t s)))) refl (either_none (nat_lt s.number t.number) (atom (theme (NeSlot s t))) (atom (theme (NeSlot t s))) refl refl)
other_none (at s) (word t) = refl
other_none (word t) (at s) = refl
other_none (word t) (word u) = either_none (bytes_eq t u) never always refl refl

texts_none : (l : TextSide) (o : CompareOp) (r : TextSide) → row_of (below (texts_goal l o r)) ≡ None
texts_none l Less r = refl
texts_none l LessEq r = refl
texts_none l Equal r = same_none l r
texts_none l NotEqual r = other_none l r
texts_none l GreaterEq r = refl
texts_none l Greater r = refl

-- goals of numbers have one
sums_row : (l : SlotSum) (o : CompareOp) (r : SlotSum) → row_of (below (sums_goal l o r)) ≡ Some (normal_row (comparison_row l o r))
sums_row l Less r = refl
sums_row l LessEq r = refl
sums_row l Equal r = refl
sums_row l NotEqual r = refl
sums_row l GreaterEq r = refl
sums_row l Greater r = refl

-- ---- both

-- a comparison is read back as it is, or by its row
pub read_compare : (Y : FormAtom → Type 0) (K : KnownNames) (names : Names) (scope : SlotScope) (l : Operand) (o : CompareOp) (r : Operand) → is_missorted_atom K (sorts_of scope) (compare l o r) ≡ false
    → (is_text_operand scope l ≡ true → is_text_operand scope r ≡ true → Y (compare l o r))
    → (is_text_operand scope l ≡ false → is_text_operand scope r ≡ false → Y (restored_row names o (normal_row (comparison_row (slot_sum scope l) o (slot_sum scope r)))))
    → Y (restored_atom names (compare l o r) (compare_goal scope l o r))
read_compare Y K names scope l o r m texts numbers = by (is_text_operand scope l || is_text_operand scope r) refl
  where
    differ : sorts_differ o (operand_sort (sorts_of scope) l) (operand_sort (sorts_of scope) r) ≡ false
    differ = or_false_right (is_text_sum (sorts_of scope) l || is_text_sum (sorts_of scope) r) _ m

    by : (b : Bool) → (is_text_operand scope l || is_text_operand scope r) ≡ b
        → Y (restored_compare names l o r (row_of (below (cond b (texts_goal (text_side scope l) o (text_side scope r)) (sums_goal (slot_sum scope l) o (slot_sum scope r))))))
    by true e =
        let both = both_texts o (operand_sort (sorts_of scope) l) (operand_sort (sorts_of scope) r) differ (ap₂ (λ x y. x || y) (sym (text_test scope l)) (sym (text_test scope r)) ∙ e) in
        let left : is_text_operand scope l ≡ true = text_test scope l ∙ both.0 in
        let right : is_text_operand scope r ≡ true = text_test scope r ∙ both.1 in
        subst Y (sym (ap (restored_compare names l o r) (texts_none (text_side scope l) o (text_side scope r)) ∙ ap₂ (λ x y. compare x o y) (same_operand scope l left) (same_operand scope r right))) (texts left right)
    by false e =
        subst Y (sym (ap (restored_compare names l o r) (sums_row (slot_sum scope l) o (slot_sum scope r))))
        (numbers (or_false_left _ _ e) (or_false_right (is_text_operand scope l) _ e))
