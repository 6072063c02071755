-- What an atom that is read back has, where the atom has it.
use Rattle.std.proofs.Common.{◌≡◌, ℕ, Bool, true, false, not, ◌||◌, List, [], ◌∷◌, map, arith, refl, sym, ap₂, ◌∙◌, subst}
use Rattle.std.specs.Prelude.{ℤ, pos, ◌<ℤ◌}
use Rattle.std.specs.List.{list_any}
use Rattle.std.proofs.lemmas.Bool.{or_from}
use Rattle.std.proofs.lemmas.Int.{ints}
use Rattle.ded_model.specs.declared.name.Column.{Column}
use Rattle.ded_model.specs.declared.formula.CompareOp.{CompareOp}
use Rattle.ded_model.specs.declared.formula.Operand.{Operand}
use Rattle.ded_model.specs.declared.formula.Operand.TheVariants.{Single, Sum, Quoted}
use Rattle.ded_model.specs.Form.{FormAtom, compare, member}
use Rattle.ded_model.specs.Known.{KnownNames, is_unbound_name, is_unbound_operand, is_unbound_atom, operand_sort, is_text_sum, arguments_differ, columns_with, is_missorted_atom, sort_in}
use Rattle.ded_model.specs.Logic.{Scope}
use Rattle.ded_model.specs.LongRows.{denominator_of, row_coefs, row_constant, is_long_row, is_quoted, is_long_argument, is_long_atom}
use Rattle.ded_model.specs.Made.{base}
use Rattle.ded_model.specs.Normal.{numbers, normal_row}
use Rattle.ded_model.specs.Plain.{ArePlainOperands, IsPlainAtom}
use Rattle.ded_model.specs.Point.{same_sort}
use Rattle.ded_model.specs.declared.slot.Sort.TheVariants.{Text}
use Rattle.ded_model.specs.Slotted.{SlotScope, slot_of, slot_sum, comparison_row, is_text_operand, atom_goal}
use Rattle.ded_model.proofs.Bools.{or_false_left, or_false_right}
use Rattle.ded_sorts.proofs.Overs.{AreSlots}
use Rattle.ded_resolve.specs.Scope.{sorts_of}
use Rattle.ded_resolve.proofs.SlotNumbers.{summable_parts}
use Rattle.ded_resolve.proofs.ShortRows.{AllShort, IsNumeric, comparison_short}
use Rattle.ded_resolve.proofs.ShortTuples.{positive_denominator, unquoted, third}
use Rattle.ded_print.specs.Tuples.{Names}
use Rattle.ded_reread.specs.Formulas.{restored_atom}
use Rattle.ded_reread.specs.Operands.{divisor_in, parts_by, lowest_sum, restored_operand, constant_compare}
use Rattle.ded_reread.specs.Words.{Test, HasWords, HaveWords, AtomHasWords}
use Rattle.ded_reread.proofs.Scopes.{IsCalled}
use Rattle.ded_reread.proofs.Below.{IsFine}
use Rattle.ded_reread.proofs.Compared.{IsVariable, AllNames, HaveNames, sum_slots, comparison_slots, IsGoodRow, good_comparison, read_row, sum_variables, read_compare}
use Rattle.ded_reread.proofs.Terms.{row_bound, row_sorted, row_plain, row_words, row_short}
use Rattle.ded_reread.proofs.Sums.{any_by, plain_operand, short_argument}

-- ---- operands

any_restored : (test : Operand → Bool) → ((t : Operand) → test (restored_operand t) ≡ test t) → (ts : List Operand) → list_any test (map restored_operand ts) ≡ list_any test ts
any_restored test same [] = refl
any_restored test same (t ∷ ts) = ap₂ (λ a b. a || b) (same t) (any_restored test same ts)

unbound_restored : (scope : Scope) (t : Operand) → is_unbound_operand scope (restored_operand t) ≡ is_unbound_operand scope t
unbound_restored scope (Single x) = refl
unbound_restored scope (Sum t) = any_by (is_unbound_name scope) (divisor_in t) t.parts
unbound_restored scope (Quoted t) = refl

text_sum_restored : (scope : Scope) (t : Operand) → is_text_sum scope (restored_operand t) ≡ is_text_sum scope t
text_sum_restored scope (Single x) = refl
text_sum_restored scope (Sum t) = any_by (λ x. same_sort (sort_in scope x) Text) (divisor_in t) t.parts
text_sum_restored scope (Quoted t) = refl

sort_restored : (scope : Scope) (t : Operand) → operand_sort scope (restored_operand t) ≡ operand_sort scope t
sort_restored scope (Single x) = refl
sort_restored scope (Sum t) = refl
sort_restored scope (Quoted t) = refl

arguments_restored : (scope : Scope) (cs : List Column) (ts : List Operand) → arguments_differ scope cs (map restored_operand ts) ≡ arguments_differ scope cs ts
arguments_restored scope [] ts = refl
arguments_restored scope (c ∷ cs) [] = refl
arguments_restored scope (c ∷ cs) (t ∷ ts) = ap₂ (λ s b. not (same_sort c.sort s) || b) (sort_restored scope t) (arguments_restored scope cs ts)

plain_operands : (ts : List Operand) → ArePlainOperands ts → ArePlainOperands (map restored_operand ts)
plain_operands [] h = tt
plain_operands (t ∷ ts) h = (plain_operand t h.0, plain_operands ts h.1)

short_arguments : (ts : List Operand) → ArePlainOperands ts → list_any is_long_argument ts ≡ false → list_any is_long_argument (map restored_operand ts) ≡ false
short_arguments [] h e = refl
short_arguments (t ∷ ts) h e = or_from _ _ (short_argument t h.0 (or_false_left _ _ e)) (short_arguments ts h.1 (or_false_right (is_long_argument t) _ e))

parts_words : (N T : Test) (g k m k' m' : ℤ) (ps : List (List ℕ × ℤ)) → HasWords N T (Sum (record { parts = ps; constant = k; over = m })) → HasWords N T (Sum (record { parts = parts_by g ps; constant = k'; over = m' }))
parts_words N T g k m k' m' [] h = tt
parts_words N T g k m k' m' (p ∷ ps) h = (h.0, parts_words N T g k m k' m' ps h.1)

operand_words : (N T : Test) (t : Operand) → HasWords N T t → HasWords N T (restored_operand t)
operand_words N T (Single x) h = h
operand_words N T (Sum t) h = parts_words N T (divisor_in t) t.constant t.over (lowest_sum t).constant (lowest_sum t).over t.parts h
operand_words N T (Quoted t) h = h

operands_words : (N T : Test) (ts : List Operand) → HaveWords N T ts → HaveWords N T (map restored_operand ts)
operands_words N T [] h = tt
operands_words N T (t ∷ ts) h = (operand_words N T t h.0, operands_words N T ts h.1)

-- the names of the slots of an operand are its own
part_names : (N T : Test) (scope : SlotScope) (names : Names) (k m : ℤ) (ps : List (List ℕ × ℤ)) → IsCalled scope names → list_any (λ c. is_unbound_name (sorts_of scope) c.0) ps ≡ false
    → HasWords N T (Sum (record { parts = ps; constant = k; over = m })) → AllNames (λ x. N (names (slot_of scope x))) ps
part_names N T scope names k m [] c u h = tt
part_names N T scope names k m (p ∷ ps) c u h =
    (subst N (sym (c.each p.0 (or_false_left _ _ u))) h.0, part_names N T scope names k m ps c (or_false_right (is_unbound_name (sorts_of scope) p.0) _ u) h.1)

operand_names : (N T : Test) (scope : SlotScope) (names : Names) (t : Operand) → IsCalled scope names → is_unbound_operand (sorts_of scope) t ≡ false → HasWords N T t → HaveNames (λ x. N (names (slot_of scope x))) t
operand_names N T scope names (Single x) c u h = subst N (sym (c.each x u)) h
operand_names N T scope names (Sum t) c u h = part_names N T scope names t.constant t.over t.parts c u h
operand_names N T scope names (Quoted t) c u h = tt

-- ---- the true comparison and the false one

constant_bound : (scope : Scope) (b : Bool) → is_unbound_atom scope (constant_compare b) ≡ false
constant_bound scope true = refl
constant_bound scope false = refl

constant_sorted : (K : KnownNames) (scope : Scope) (b : Bool) → is_missorted_atom K scope (constant_compare b) ≡ false
constant_sorted K scope true = refl
constant_sorted K scope false = refl

above_none : pos 0 <ℤ pos 1
above_none = omega (arith, ints)

constant_plain : (b : Bool) → IsPlainAtom (constant_compare b)
constant_plain true = ((above_none, tt), (above_none, tt), refl)
constant_plain false = ((above_none, tt), (above_none, tt), refl)

constant_words : (N M T : Test) (b : Bool) → AtomHasWords N M T (constant_compare b)
constant_words N M T true = (tt, tt)
constant_words N M T false = (tt, tt)

constant_brief : (b : Bool) → is_long_atom (constant_compare b) ≡ false
constant_brief true = refl
constant_brief false = refl

-- ---- short rows

-- ---- atoms

module _ (K : KnownNames) (names : Names) (X : FormAtom → Type 0) (scope : SlotScope) where
  abbrev Fine : FormAtom → Type 0
  Fine a = IsFine K names X scope a

  module _ (l : Operand) (o : CompareOp) (r : Operand) (h : Fine (compare l o r)) (n : is_text_operand scope l ≡ false) (m : is_text_operand scope r ≡ false) where
    left_sum : is_text_sum (sorts_of scope) l ≡ false
    left_sum = or_false_left _ _ (or_false_left (is_text_sum (sorts_of scope) l || is_text_sum (sorts_of scope) r) _ h.sorted)

    right_sum : is_text_sum (sorts_of scope) r ≡ false
    right_sum = or_false_right (is_text_sum (sorts_of scope) l) _ (or_false_left (is_text_sum (sorts_of scope) l || is_text_sum (sorts_of scope) r) _ h.sorted)

    left_bound : is_unbound_operand (sorts_of scope) l ≡ false
    left_bound = or_false_left _ _ h.bound

    right_bound : is_unbound_operand (sorts_of scope) r ≡ false
    right_bound = or_false_right (is_unbound_operand (sorts_of scope) l) _ h.bound

    pub compare_good : IsGoodRow scope names (normal_row (comparison_row (slot_sum scope l) o (slot_sum scope r)))
    compare_good =
        good_comparison scope names (slot_sum scope l) o (slot_sum scope r)
        (sum_slots (IsVariable scope names) scope l (sum_variables scope names l h.called left_bound left_sum n))
        (sum_slots (IsVariable scope names) scope r (sum_variables scope names r h.called right_bound right_sum m))

    compare_words : (N M T : Test) → AtomHasWords N M T (compare l o r) → AreSlots (λ s. N (names s)) (normal_row (comparison_row (slot_sum scope l) o (slot_sum scope r))).coefs
    compare_words N M T w =
        comparison_slots (λ s. N (names s)) (slot_sum scope l) o (slot_sum scope r)
        (sum_slots (λ s. N (names s)) scope l (operand_names N T scope names l h.called left_bound w.0))
        (sum_slots (λ s. N (names s)) scope r (operand_names N T scope names r h.called right_bound w.1))

    compare_short : IsPlainAtom (compare l o r) → is_long_atom (compare l o r) ≡ false → AllShort (numbers (normal_row (comparison_row (slot_sum scope l) o (slot_sum scope r))))
    compare_short p e =
        let d = denominator_of l r in
        let numeric : IsNumeric scope l r = record {
          numbers = record { left = summable_parts d scope l h.apart p.0 left_bound left_sum n; right = summable_parts d scope r h.apart p.1 right_bound right_sum m };
          positive = positive_denominator l r p.0 p.1;
          shared = p.2;
          left = n;
          right = m;
        } in
        comparison_short scope l r numeric (third (is_quoted l) (is_quoted r) (is_long_row (row_coefs l r) (row_constant l r)) (unquoted scope l n) (unquoted scope r m) e) o

  pub bound_atom : (a : FormAtom) → Fine a → is_unbound_atom (sorts_of scope) (restored_atom names a (atom_goal scope a)) ≡ false
  bound_atom (compare l o r) h =
      let q = normal_row (comparison_row (slot_sum scope l) o (slot_sum scope r)) in
      read_compare (λ a. is_unbound_atom (sorts_of scope) a ≡ false) K names scope l o r h.sorted (λ n m. h.bound)
      (λ n m. read_row (λ a. is_unbound_atom (sorts_of scope) a ≡ false) names o q (constant_bound (sorts_of scope)) (λ c cs e p. row_bound scope names q (compare_good l o r h n m) p))
  bound_atom (member n ts) h = any_restored (is_unbound_operand (sorts_of scope)) (unbound_restored (sorts_of scope)) ts ∙ h.bound

  pub sorted_atom : (a : FormAtom) → Fine a → is_missorted_atom K (sorts_of scope) (restored_atom names a (atom_goal scope a)) ≡ false
  sorted_atom (compare l o r) h =
      let q = normal_row (comparison_row (slot_sum scope l) o (slot_sum scope r)) in
      read_compare (λ a. is_missorted_atom K (sorts_of scope) a ≡ false) K names scope l o r h.sorted (λ n m. h.sorted)
      (λ n m. read_row (λ a. is_missorted_atom K (sorts_of scope) a ≡ false) names o q (constant_sorted K (sorts_of scope)) (λ c cs e p. row_sorted scope names q (compare_good l o r h n m) p K))
  sorted_atom (member n ts) h =
      ap₂ (λ a b. a || b) (any_restored (is_text_sum (sorts_of scope)) (text_sum_restored (sorts_of scope)) ts) (arguments_restored (sorts_of scope) (columns_with (K (base n))) ts) ∙ h.sorted

  pub plain_atom : (a : FormAtom) → Fine a → IsPlainAtom a → IsPlainAtom (restored_atom names a (atom_goal scope a))
  plain_atom (compare l o r) h i =
      let q = normal_row (comparison_row (slot_sum scope l) o (slot_sum scope r)) in
      read_compare IsPlainAtom K names scope l o r h.sorted (λ n m. i) (λ n m. read_row IsPlainAtom names o q constant_plain (λ c cs e p. row_plain scope names q (compare_good l o r h n m) p))
  plain_atom (member n ts) h i = plain_operands ts i

  pub short_atom : (a : FormAtom) → Fine a → IsPlainAtom a → is_long_atom a ≡ false → is_long_atom (restored_atom names a (atom_goal scope a)) ≡ false
  short_atom (compare l o r) h i s =
      let q = normal_row (comparison_row (slot_sum scope l) o (slot_sum scope r)) in
      read_compare (λ a. is_long_atom a ≡ false) K names scope l o r h.sorted (λ n m. s)
      (λ n m. read_row (λ a. is_long_atom a ≡ false) names o q constant_brief (λ c cs e p. row_short names q p (compare_short l o r h n m i s)))
  short_atom (member n ts) h i s = short_arguments ts i s

  pub words_atom : (N M T : Test) (a : FormAtom) → Fine a → AtomHasWords N M T a → AtomHasWords N M T (restored_atom names a (atom_goal scope a))
  words_atom N M T (compare l o r) h w =
      let q = normal_row (comparison_row (slot_sum scope l) o (slot_sum scope r)) in
      read_compare (AtomHasWords N M T) K names scope l o r h.sorted (λ n m. w)
      (λ n m. read_row (AtomHasWords N M T) names o q (constant_words N M T) (λ c cs e p. row_words names q p N M T (compare_words l o r h n m N M T w)))
  words_atom N M T (member n ts) h w = (w.0, operands_words N T ts w.1)
