-- A tuple over a heading that is wide isn't narrow with all rational columns of the heading.
use Rattle.std.proofs.Common.{◌≡◌, ℕ, zero, suc, ◌+◌, ◌*◌, ◌^◌, ◌<◌, ◌≤◌, List, [], ◌∷◌, length, get_or, arith, sym, ◌∙◌, subst}
use Rattle.std.proofs.Math.Nat.{mul-le-mul_right}
use Rattle.std.specs.List.{AllByRecursion}
use Rattle.ded_model.specs.declared.name.Column.{Column}
use Rattle.ded_model.specs.Known.{IsTupleOver}
use Rattle.ded_model.specs.Lines.{row_lines}
use Rattle.ded_model.specs.Row.{Atom, row_mentions, theme_mentions}
use Rattle.ded_model.specs.Width.{tuple_length, tuples_length, rational_columns, IsBoxNarrow}
use Rattle.ded_model.proofs.RationalColumns.{rational_heading, rational_heading-length, rational_heading-has}
use Rattle.ded_theory.specs.Both.{by_kind}
use Rattle.ded_theory.specs.Conjunctions.{IsWide}
use Rattle.ded_elimination.proofs.Shared.{atoms_normal}
use Rattle.ded_atoms.proofs.Conjunctive.{tuple_mentions-is}
use Rattle.ded_atoms.proofs.Narrowness.{lines_within}

-- ---- one tuple

pub wide_tuple : (h : List Column) (t : List Atom) → IsTupleOver h t → IsWide (by_kind row_mentions theme_mentions) (by_kind row_lines (λ a. [])) t → IsBoxNarrow h (t ∷ []) → ⊥
unfolding IsBoxNarrow
wide_tuple h t o w n =
    let b = tuples_length (t ∷ []) in
    let above = w.above b (lines_within t b (atoms_normal t o.normal) (omega arith)) (rational_heading 0 h) (λ s m r. rational_heading-has 0 h s (o.slots s (sym (tuple_mentions-is t s) ∙ m)) r) in
    let more : 128 < (b + 1) * 2 ^ rational_columns h = subst (λ k. 128 < (b + 1) * 2 ^ k) (rational_heading-length 0 h) above in
    beyond ((b + 1) * 2 ^ rational_columns h) more n
  where
    beyond : (n : ℕ) → 128 < n → n ≤ 128 → ⊥
    beyond n h k = omega (arith, h, k)

-- ---- one of several tuples

length_of-one : (ts : List (List Atom)) (i : ℕ) (t : List Atom) → i < length ts → t ≡ get_or ts i t → tuple_length t ≤ tuples_length ts
length_of-one [] i t l e = absurd (omega (arith, l))
length_of-one (u ∷ ts) zero t l e = subst (λ x. tuple_length x ≤ tuples_length (u ∷ ts)) (sym e) (omega arith)
length_of-one (u ∷ ts) (suc i) t l e = let h = length_of-one ts i t (omega (arith, l)) e in omega (arith, h)

-- where the tuples are narrow each one is
pub narrow_one : (h : List Column) (ts : List (List Atom)) (i : ℕ) (t : List Atom) → i < length ts → t ≡ get_or ts i t → IsBoxNarrow h ts → IsBoxNarrow h (t ∷ [])
unfolding IsBoxNarrow
narrow_one h ts i t l e n =
    let le = length_of-one ts i t l e in
    trans ((tuples_length (t ∷ []) + 1) * 2 ^ rational_columns h) _ (mul-le-mul_right {m = tuples_length (t ∷ []) + 1} {n = tuples_length ts + 1} (2 ^ rational_columns h) (omega (arith, le))) n
  where
    trans : (a b : ℕ) → a ≤ b → b ≤ 128 → a ≤ 128
    trans a b h k = omega (arith, h, k)

-- what holds of all tuples holds of each
pub over_one : (h : List Column) (ts : List (List Atom)) (i : ℕ) (t : List Atom) → i < length ts → t ≡ get_or ts i t → AllByRecursion (IsTupleOver h) ts → IsTupleOver h t
over_one h [] i t l e a = absurd (omega (arith, l))
over_one h (u ∷ ts) zero t l e a = subst (IsTupleOver h) (sym e) a.0
over_one h (u ∷ ts) (suc i) t l e a = over_one h ts i t (omega (arith, l)) e a.1
