-- What a row that is compared has: names that are bound and rational, each once, and short numbers where the row has these.
use Rattle.std.proofs.Common.{◌≡◌, ℕ, ◌/◌, ◌<◌, ◌≤◌, ◌^◌, nat_le, Bool, true, false, cond, not, ◌&&◌, List, [], ◌∷◌, ◌++◌, map, arith, refl, sym, ap, ◌∙◌, subst, true≢false, bytes_eq}
use Rattle.std.specs.Prelude.{ℤ, pos, ◌-ℤ◌, ◌<ℤ◌, unsigned_abs}
use Rattle.std.specs.List.{list_any}
use Rattle.std.specs.Ordering.{int_eq}
use lib.IntN.{neg_ℤ}
use Rattle.std.proofs.Math.Nat.{div-le_self}
use Rattle.std.proofs.lemmas.Bool.{or_from}
use Rattle.std.proofs.lemmas.Bool.Decides.{nat_tests}
use Rattle.std.proofs.lemmas.Int.{ints}
use Rattle.std.proofs.lemmas.Slice.Eq.{bytes_eq-Decides}
use Rattle.ded_num.specs.Gcd.{gcd_all}
use Rattle.ded_num.specs.Length.{IsWithin}
use Rattle.ded_num.proofs.Tests.{and_false}
use Rattle.ded_model.specs.declared.slot.Slot.{Slot}
use Rattle.ded_model.specs.declared.slot.Sort.{Sort}
use Rattle.ded_model.specs.declared.slot.Sort.TheVariants.{Rat, Text}
use Rattle.ded_model.specs.declared.formula.CompareOp.{CompareOp}
use Rattle.ded_model.specs.declared.formula.Operand.{Operand}
use Rattle.ded_model.specs.declared.formula.Operand.TheVariants.{Single, Sum, Quoted}
use Rattle.ded_model.specs.Constraint.{LinearConstraint}
use Rattle.ded_model.specs.Coefs.{AllAbove}
use Rattle.ded_model.specs.Known.{KnownNames, is_unbound_name, is_unbound_operand, is_unbound_atom, sort_in, operand_sort, is_text_sum, is_equality, sorts_differ, is_missorted_atom}
use Rattle.ded_model.specs.Logic.{Scope}
use Rattle.ded_model.specs.LongRows.{denominator_of, parts_over, coefficient, difference_over, differences_over, row_coefs, row_constant, is_nonzero, is_long_over, is_long_row, is_quoted, is_long_comparison, coefficients, is_long_atom}
use Rattle.ded_model.specs.Normal.{numbers}
use Rattle.ded_model.specs.Plain.{AreOnce, IsPlainOperand, ShareDenominator, IsPlainAtom}
use Rattle.ded_model.specs.Point.{same_sort}
use Rattle.ded_model.specs.Slotted.{SlotScope, slot_of}
use Rattle.ded_sorts.proofs.Overs.{AreSlots}
use Rattle.ded_resolve.specs.Scope.{sorts_of}
use Rattle.ded_resolve.proofs.Ascending.{Ascend}
use Rattle.ded_resolve.proofs.Summing.{sort_in-slot}
use Rattle.ded_resolve.proofs.ShortRows.{AllShort, constant_short}
use Rattle.ded_print.specs.Tuples.{Names, signed}
use Rattle.ded_reread.specs.Operands.{is_turned, terms_of, whole_sum, left_of, right_of, row_compared}
use Rattle.ded_reread.specs.Words.{Test, HasWords, AtomHasWords}
use Rattle.ded_reread.proofs.Compared.{IsVariable, AllNames, HaveNames, slots_map, IsGoodRow}

-- ---- names of operands

module _ (R S : List ℕ → Type 0) (each : (x : List ℕ) → R x → S x) where
  all_names_map : (cs : List (List ℕ × ℤ)) → AllNames R cs → AllNames S cs
  all_names_map [] h = tt
  all_names_map (c ∷ cs) h = (each c.0 h.0, all_names_map cs h.1)

any_none : (test : List ℕ → Bool) (cs : List (List ℕ × ℤ)) → AllNames (λ x. test x ≡ false) cs → list_any (λ c. test c.0) cs ≡ false
any_none test [] h = refl
any_none test (c ∷ cs) h = or_from _ _ h.0 (any_none test cs h.1)

unbound_none : (scope : Scope) (t : Operand) → HaveNames (λ x. is_unbound_name scope x ≡ false) t → is_unbound_operand scope t ≡ false
unbound_none scope (Single x) h = h
unbound_none scope (Sum t) h = any_none (is_unbound_name scope) t.parts h
unbound_none scope (Quoted t) h = refl

-- names of numbers
text_sum_none : (scope : Scope) (t : Operand) → HaveNames (λ x. sort_in scope x ≡ Rat) t → is_text_sum scope t ≡ false
text_sum_none scope (Single x) h = refl
text_sum_none scope (Sum t) h = any_none (λ x. same_sort (sort_in scope x) Text) t.parts (all_names_map (λ x. sort_in scope x ≡ Rat) (λ x. same_sort (sort_in scope x) Text ≡ false) (λ x e. ap (λ (s : Sort). same_sort s Text) e) t.parts h)
text_sum_none scope (Quoted t) h = refl

rational_operand : (scope : Scope) (t : Operand) → is_quoted t ≡ false → HaveNames (λ x. sort_in scope x ≡ Rat) t → operand_sort scope t ≡ Rat
rational_operand scope (Single x) q h = h
rational_operand scope (Sum t) q h = refl
rational_operand scope (Quoted t) q h = absurd (true≢false q)

all_words : (N : Test) (cs : List (List ℕ × ℤ)) → AllNames N cs → HasWords N N (whole_sum cs (pos 0))
all_words N [] h = tt
all_words N (c ∷ cs) h = (h.0, all_words N cs h.1)

-- ---- the terms of a row

terms_names : (R : List ℕ → Type 0) (names : Names) (b : Bool) (cs : List (Slot × ℤ)) → AreSlots (λ s. R (names s)) cs → AllNames R (terms_of names b cs)
terms_names R names b [] h = tt
terms_names R names b (c ∷ cs) h = (h.0, terms_names R names b cs h.1)

-- they are a name, or a sum
left_cases : (Y : Operand → Type 0) (ts : List (List ℕ × ℤ)) → ((p : List ℕ × ℤ) → ts ≡ p ∷ [] → Y (Single p.0)) → Y (whole_sum ts (pos 0)) → Y (left_of ts)
left_cases Y [] single whole = whole
left_cases Y (p ∷ []) single whole = go (int_eq p.1 (pos 1))
  where
    go : (b : Bool) → Y (cond b (Single p.0) (whole_sum (p ∷ []) (pos 0)))
    go true = single p refl
    go false = whole
left_cases Y (p ∷ q ∷ ps) single whole = whole

left_names : (R : List ℕ → Type 0) (ts : List (List ℕ × ℤ)) → AllNames R ts → HaveNames R (left_of ts)
left_names R ts h = left_cases (HaveNames R) ts (λ p e. (subst (AllNames R) e h).0) h

left_quoted : (ts : List (List ℕ × ℤ)) → is_quoted (left_of ts) ≡ false
left_quoted ts = left_cases (λ t. is_quoted t ≡ false) ts (λ p e. refl) refl

left_words : (N T : Test) (ts : List (List ℕ × ℤ)) → AllNames N ts → HasWords N T (left_of ts)
left_words N T ts h = left_cases (HasWords N T) ts (λ p e. (subst (AllNames N) e h).0) (all_words N ts h)

above_none : pos 0 <ℤ pos 1
above_none = omega (arith, ints)

left_plain : (ts : List (List ℕ × ℤ)) → AreOnce ts → IsPlainOperand (left_of ts)
left_plain ts h = left_cases IsPlainOperand ts (λ p e. tt) (above_none, h)

left_shares : (ts : List (List ℕ × ℤ)) (b : Bool) (k : ℤ) → ShareDenominator (left_of ts) (right_of b k)
left_shares ts b k = left_cases (λ t. ShareDenominator t (right_of b k)) ts (λ p e. tt) refl

-- ---- each once

module _ (scope : SlotScope) (names : Names) (b : Bool) where
  differ : (s t : Slot) → IsVariable scope names s → IsVariable scope names t → s.number < t.number → bytes_eq (names s) (names t) ≡ false
  differ s t v w l = go (bytes_eq (names s) (names t)) refl
    where
      below : (m n : ℕ) → m < n → m ≡ n → ⊥
      below m n l e = omega (arith, l, e)

      go : (d : Bool) → bytes_eq (names s) (names t) ≡ d → d ≡ false
      go true e = absurd (below s.number t.number l (ap (λ (u : Slot). u.number) (sym v.called ∙ ap (slot_of scope) ((bytes_eq-Decides (names s) (names t)).0 e) ∙ w.called)))
      go false e = refl

  others : (s : Slot) (cs : List (Slot × ℤ)) → IsVariable scope names s → AllAbove s.number cs → AreSlots (IsVariable scope names) cs → list_any (λ d. bytes_eq (names s) d.0) (terms_of names b cs) ≡ false
  others s [] v a h = refl
  others s (c ∷ cs) v a h = or_from _ _ (differ s c.0 v h.0 a.0) (others s cs v a.1 h.1)

  terms_once : (cs : List (Slot × ℤ)) → Ascend cs → AreSlots (IsVariable scope names) cs → AreOnce (terms_of names b cs)
  terms_once [] a h = tt
  terms_once (c ∷ cs) a h = (others c.0 cs h.0 a.1 h.1, terms_once cs a.2 h.1)

-- ---- short numbers

short_quotient : (n g : ℕ) → n < 2 ^ 63 → nat_le (2 ^ 63) (n / g) ≡ false
short_quotient n g h = let l : n / g ≤ n = div-le_self n g in below (n / g) (omega (arith, h, l))
  where
    below : (m : ℕ) → m < 2 ^ 63 → nat_le (2 ^ 63) m ≡ false
    below m h = grind (arith, nat_tests)

pub long_none : (g : ℕ) (zs : List ℤ) → AllShort zs → list_any (is_long_over g) zs ≡ false
long_none g [] h = refl
long_none g (z ∷ zs) h = or_from _ _ (short_quotient (unsigned_abs z) g h.0) (long_none g zs h.1)

-- a row of short numbers is none that is long
pub short_row : (coefs : List ℤ) (constant : ℤ) → AllShort (constant ∷ coefs) → is_long_row coefs constant ≡ false
short_row coefs constant h = and_false (list_any is_nonzero coefs) _ (long_none (gcd_all (constant ∷ coefs)) (constant ∷ coefs) h)

all_differences : (m : ℤ) (l r : Operand) (ps : List (List ℕ × ℤ)) → ((x : List ℕ) → IsWithin 63 (difference_over m l r x)) → AllShort (differences_over m l r ps)
all_differences m l r [] h = tt
all_differences m l r (p ∷ ps) h = (h p.0, all_differences m l r ps h)

both_short : (xs ys : List ℤ) → AllShort xs → AllShort ys → AllShort (xs ++ ys)
both_short [] ys h k = k
both_short (x ∷ xs) ys h k = (h.0, both_short xs ys h.1 k)

pub short_comparison : (l r : Operand) → ((x : List ℕ) → IsWithin 63 (difference_over (denominator_of l r) l r x)) → IsWithin 63 (row_constant l r) → is_long_comparison l r ≡ false
short_comparison l r h k =
    let m = denominator_of l r in
    and_false (not (is_quoted l) && not (is_quoted r)) _
    (short_row (row_coefs l r) (row_constant l r)
    (k, both_short (differences_over m l r (parts_over m l)) (differences_over m l r (parts_over m r)) (all_differences m l r (parts_over m l) h) (all_differences m l r (parts_over m r) h)))

minus_none : (z : ℤ) → IsWithin 63 z → IsWithin 63 (z -ℤ pos 0)
minus_none z h = subst (IsWithin 63) (law z) h
  where
    law : (z : ℤ) → z ≡ z -ℤ pos 0
    law z = omega (arith, ints)

minus_turned : (z : ℤ) → IsWithin 63 z → IsWithin 63 (pos 0 -ℤ neg_ℤ z)
minus_turned z h = subst (IsWithin 63) (law z) h
  where
    law : (z : ℤ) → z ≡ pos 0 -ℤ neg_ℤ z
    law z = omega (arith, ints)

signed_short : (b : Bool) (z : ℤ) → IsWithin 63 z → IsWithin 63 (signed b z)
signed_short false z h = h
signed_short true z h = subst (λ n. n < 2 ^ 63) (law z) h
  where
    law : (z : ℤ) → unsigned_abs z ≡ unsigned_abs (neg_ℤ z)
    law z = omega (arith, ints)

one_short : IsWithin 63 (pos 1)
one_short = omega arith

-- the coefficient of a name is one of them, or 0
coefficient_short : (ps : List (List ℕ × ℤ)) (x : List ℕ) → AllShort (coefficients ps) → IsWithin 63 (coefficient ps x)
coefficient_short [] x h = constant_short
coefficient_short (p ∷ ps) x h = go (bytes_eq p.0 x) (coefficient_short ps x h.1)
  where
    go : (b : Bool) → IsWithin 63 (coefficient ps x) → IsWithin 63 (cond b p.1 (coefficient ps x))
    go true i = h.0
    go false i = i

terms_short : (names : Names) (b : Bool) (cs : List (Slot × ℤ)) → AllShort (map (λ c. c.1) cs) → AllShort (coefficients (terms_of names b cs))
terms_short names b [] h = tt
terms_short names b (c ∷ cs) h = (signed_short b c.1 h.0, terms_short names b cs h.1)

-- the terms against a number
sides_short : (ts : List (List ℕ × ℤ)) (b : Bool) (k : ℤ) → AllShort (coefficients ts) → IsWithin 63 k → is_long_comparison (left_of ts) (right_of b k) ≡ false
sides_short ts b k h i =
    left_cases (λ t. is_long_comparison t (right_of b k) ≡ false) ts
    (λ p e. short_comparison (Single p.0) (right_of b k) (λ x. minus_none (coefficient ((p.0, pos 1) ∷ []) x) (coefficient_short ((p.0, pos 1) ∷ []) x (one_short, tt))) (minus_turned (signed b k) (signed_short b k i)))
    (short_comparison (whole_sum ts (pos 0)) (right_of b k) (λ x. minus_none (coefficient ts x) (coefficient_short ts x h)) (minus_turned (signed b k) (signed_short b k i)))

-- ---- a row that is compared

module _ (scope : SlotScope) (names : Names) (q : LinearConstraint) (g : IsGoodRow scope names q) (o : CompareOp) where
  pub row_bound : is_unbound_atom (sorts_of scope) (row_compared names q o) ≡ false
  row_bound =
      let ts = terms_of names (is_turned q.coefs) q.coefs in
      let bound = slots_map (IsVariable scope names) (λ s. is_unbound_name (sorts_of scope) (names s) ≡ false) (λ s v. v.bound) q.coefs g.slots in
      or_from _ _ (unbound_none (sorts_of scope) (left_of ts) (left_names (λ x. is_unbound_name (sorts_of scope) x ≡ false) ts (terms_names (λ x. is_unbound_name (sorts_of scope) x ≡ false) names (is_turned q.coefs) q.coefs bound))) refl

  numbers_differ : (p : CompareOp) → sorts_differ p Rat Rat ≡ false
  numbers_differ p = go (is_equality p)
    where
      go : (b : Bool) → cond b false false ≡ false
      go true = refl
      go false = refl

  pub row_sorted : (K : KnownNames) → is_missorted_atom K (sorts_of scope) (row_compared names q o) ≡ false
  row_sorted K =
      let ts = terms_of names (is_turned q.coefs) q.coefs in
      let sorts = slots_map (IsVariable scope names) (λ s. sort_in (sorts_of scope) (names s) ≡ Rat) (λ s v. sort_in-slot scope (names s) ∙ ap (λ (t : Slot). t.sort) v.called ∙ v.rational) q.coefs g.slots in
      let left = left_names (λ x. sort_in (sorts_of scope) x ≡ Rat) ts (terms_names (λ x. sort_in (sorts_of scope) x ≡ Rat) names (is_turned q.coefs) q.coefs sorts) in
      or_from _ _
      (or_from _ _ (text_sum_none (sorts_of scope) (left_of ts) left) refl)
      (ap (λ s. sorts_differ o s Rat) (rational_operand (sorts_of scope) (left_of ts) (left_quoted ts) left) ∙ numbers_differ o)

  pub row_plain : IsPlainAtom (row_compared names q o)
  row_plain =
      let ts = terms_of names (is_turned q.coefs) q.coefs in
      (left_plain ts (terms_once scope names (is_turned q.coefs) q.coefs g.ascend g.slots), (above_none, tt), left_shares ts (is_turned q.coefs) q.constant)

module _ (names : Names) (q : LinearConstraint) (o : CompareOp) where
  pub row_words : (N M T : Test) → AreSlots (λ s. N (names s)) q.coefs → AtomHasWords N M T (row_compared names q o)
  row_words N M T h = (left_words N T (terms_of names (is_turned q.coefs) q.coefs) (terms_names N names (is_turned q.coefs) q.coefs h), tt)

  pub row_short : AllShort (numbers q) → is_long_atom (row_compared names q o) ≡ false
  row_short h = sides_short (terms_of names (is_turned q.coefs) q.coefs) (is_turned q.coefs) q.constant (terms_short names (is_turned q.coefs) q.coefs h.1) h.0
