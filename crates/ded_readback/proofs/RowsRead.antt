-- Rows are read back.
use Rattle.std.proofs.Common.{◌≡◌, ℕ, ◌^◌, ◌<◌, ◌≤◌, List, [], ◌∷◌, ◌++◌, length, map, refl, sym, ap, ◌∙◌, subst, arith, Bool, true, false, append_assoc, length-append}
use Rattle.std.specs.Prelude.{ℤ, pos, unsigned_abs, int_lt, Option, Some, None, codes}
use Rattle.std.specs.List.{AllByRecursion}
use lib.IntN.{neg_ℤ}
use Rattle.ded_num.specs.Length.{IsShort}
use Rattle.ded_model.specs.declared.slot.Slot.{Slot}
use Rattle.ded_model.specs.declared.slot.Sort.{Sort}
use Rattle.ded_model.specs.declared.slot.Sort.TheVariants.{Rat, Text}
use Rattle.ded_model.specs.declared.name.Column.{Column}
use Rattle.ded_model.specs.declared.row.RowOp.{RowOp}
use Rattle.ded_model.specs.declared.row.RowOp.TheVariants.{Zero, AtMost, Below}
use Rattle.ded_model.specs.declared.tuple.BothAtom.TheVariants.{First}
use Rattle.ded_model.specs.Constraint.{LinearConstraint}
use Rattle.ded_model.specs.Coefs.{AreCoefs}
use Rattle.ded_model.specs.Point.{same_sort}
use Rattle.ded_model.specs.Row.{Atom, sign_meets}
use Rattle.ded_model.specs.Normal.{IsNormalRow, normal_row, constant_row, is_true_with}
use Rattle.ded_model.proofs.Points.{cond_true, cond_false}
use Rattle.ded_lex.specs.Lexemes.{letter_byte, digit_byte, word_byte, BeginsNot}
use Rattle.ded_print.specs.Numbers.{integer_text}
use Rattle.ded_print.specs.Tuples.{column_names, term_text, signed, later_terms_text, op_text, sides_text, row_with_text}
use Rattle.ded_print.proofs.Signs.{turned_abs, turned_if}
use Rattle.ded_readback.specs.declared.terms.Summand.{Summand}
use Rattle.ded_readback.specs.Plain.{IsPlainHeading}
use Rattle.ded_readback.specs.Reading.{◌>>=◌, with_rest, term_of, term_at, later_at, comparison_at, is_short, coefs_from, row_with, row_of, row_by, row_behind, row_at, atom_by, atom_at}
use Rattle.ded_readback.proofs.Digits.{integer_read}
use Rattle.ded_readback.proofs.Names.{IsNamed, no_column}
use Rattle.ded_readback.proofs.Signs.{constant_back, constant_abs}
use Rattle.ded_readback.proofs.TermsRead.{summand, summand_of, IsFactor, term_read, later_begins, terms_read, terms_length}
use Rattle.ded_readback.proofs.CoefsRead.{short_is, coefs_read}
use Rattle.std.proofs.lemmas.Bool.{or_parts}
use Rattle.ded_print.proofs.Shared.{first_plus}

-- ---- the op

op_read : (turned : Bool) (op : RowOp) (rest : List ℕ) → (op ≡ Zero → turned ≡ false) → comparison_at (op_text turned op ++ rest) ≡ Some ((op, turned), rest)
op_read turned Zero rest h = ap (λ (b : Bool). Some ((Zero, b), rest)) (sym (h refl))
op_read false AtMost rest h = refl
op_read true AtMost rest h = refl
op_read false Below rest h = refl
op_read true Below rest h = refl

op_no_term : (h : List Column) (turned : Bool) (op : RowOp) (rest : List ℕ) → later_at h (op_text turned op ++ rest) ≡ None
op_no_term h turned Zero rest = refl
op_no_term h false AtMost rest = refl
op_no_term h true AtMost rest = refl
op_no_term h false Below rest = refl
op_no_term h true Below rest = refl

op_begins : (turned : Bool) (op : RowOp) (rest : List ℕ) → BeginsNot word_byte (op_text turned op ++ rest)
op_begins turned Zero rest = refl
op_begins false AtMost rest = refl
op_begins true AtMost rest = refl
op_begins false Below rest = refl
op_begins true Below rest = refl

-- ---- the sides

no_digit_byte : (b : ℕ) → word_byte b ≡ false → digit_byte b ≡ false
no_digit_byte b h = (or_parts (letter_byte b) (digit_byte b) h).1

pub no_digit : (rest : List ℕ) → BeginsNot word_byte rest → BeginsNot digit_byte rest
no_digit [] h = tt
no_digit (b ∷ bs) h = no_digit_byte b h

abbrev row : List (Slot × ℤ) → ℤ → RowOp → LinearConstraint
row cs m op = record { coefs = cs; constant = m; op = op }

-- the number on the other side
abbrev other_side : Bool → ℤ → ℤ
other_side turned m = neg_ℤ (signed turned m)

row_of_read : (turned : Bool) (op : RowOp) (m : ℤ) (cs : List (Slot × ℤ)) (ts : List Summand) → coefs_from turned [] ts ≡ Some cs → IsNormalRow (row cs m op) → IsShort m
    → row_of op turned (int_lt (other_side turned m) (pos 0)) (unsigned_abs (other_side turned m)) ts ≡ Some (row cs m op)
row_of_read turned op m cs ts read normal short =
    let n = unsigned_abs (other_side turned m) in
    let small : n < 2 ^ 127 = subst (λ k. k < 2 ^ 127) (sym (constant_abs turned m)) short in
    ap (λ (o : Option (List (Slot × ℤ))). o >>= row_with op turned (int_lt (other_side turned m) (pos 0)) n) read
    ∙ cond_true (is_short n) _ None (short_is n small)
    ∙ ap (λ (z : ℤ). Some (normal_row (row cs z op))) (constant_back turned m)
    ∙ ap (λ (r : LinearConstraint). Some r) normal.normal

behind_read : (turned : Bool) (op : RowOp) (m : ℤ) (cs : List (Slot × ℤ)) (ts : List Summand) (rest : List ℕ) → coefs_from turned [] ts ≡ Some cs → (op ≡ Zero → turned ≡ false) → IsNormalRow (row cs m op) → IsShort m → BeginsNot word_byte rest
    → row_behind (ts, op_text turned op ++ (integer_text (other_side turned m) ++ rest)) ≡ Some (row cs m op, rest)
behind_read turned op m cs ts rest read plain normal short stops =
    let small : unsigned_abs (other_side turned m) < 2 ^ 127 = subst (λ k. k < 2 ^ 127) (sym (constant_abs turned m)) short in
    ap (row_by ts) (op_read turned op (integer_text (other_side turned m) ++ rest) plain)
    ∙ ap (λ (x : Bool × ℕ × List ℕ). with_rest x.2 (row_of op turned x.0 x.1 ts)) (integer_read (other_side turned m) rest small (no_digit rest stops))
    ∙ ap (with_rest rest) (row_of_read turned op m cs ts read normal short)

factors : (h : List Column) (turned : Bool) (cs : List (Slot × ℤ)) → AreCoefs cs → AllByRecursion (λ d. IsNamed h d.0) cs → AllByRecursion (IsFactor h turned) cs
factors h turned [] kept each = tt
factors h turned (c ∷ cs) kept each = ((each.0, subst (λ n. n < 2 ^ 127) (sym (turned_abs turned c.1)) kept.1), factors h turned cs kept.4 each.1)

-- behind the first term
sides_read : (h : List Column) (turned : Bool) (c : Slot × ℤ) (cs : List (Slot × ℤ)) (op : RowOp) (m : ℤ) (rest : List ℕ)
    → AreCoefs (c ∷ cs) → (op ≡ Zero → turned ≡ false) → IsNormalRow (row (c ∷ cs) m op) → IsShort m → AllByRecursion (λ d. IsNamed h d.0) (c ∷ cs) → BeginsNot word_byte rest
    → row_at h (summand_of turned c) (later_terms_text (column_names h) turned cs ++ (op_text turned op ++ (integer_text (other_side turned m) ++ rest))) ≡ Some (row (c ∷ cs) m op, rest)
sides_read h turned c cs op m rest kept plain normal short each stops =
    let after = integer_text (other_side turned m) ++ rest in
    let terms = later_terms_text (column_names h) turned cs in
    let few : length cs ≤ length (terms ++ (op_text turned op ++ after)) = omega (arith, terms_length h turned cs, length-append terms (op_text turned op ++ after)) in
    ap row_behind (terms_read h turned cs (length (terms ++ (op_text turned op ++ after))) (summand_of turned c ∷ []) (op_text turned op ++ after) (factors h turned cs kept.4 each.1) few (op_begins turned op after) (op_no_term h turned op after))
    ∙ behind_read turned op m (c ∷ cs) (map (summand_of turned) (c ∷ cs)) rest (coefs_read turned [] (c ∷ cs) kept) plain normal short stops

no_text : (s : Sort) → s ≡ Rat → same_sort s Text ≡ false
no_text s e = rw e refl

-- ---- rows

abbrev as_row : LinearConstraint × List ℕ → Option (Atom × List ℕ)
as_row r = Some (First r.0, r.1)

full_read : (h : List Column) (turned : Bool) (c : Slot × ℤ) (cs : List (Slot × ℤ)) (op : RowOp) (m : ℤ) (rest : List ℕ)
    → AreCoefs (c ∷ cs) → (op ≡ Zero → turned ≡ false) → int_lt (signed turned c.1) (pos 0) ≡ false → IsNormalRow (row (c ∷ cs) m op) → IsShort m → AllByRecursion (λ d. IsNamed h d.0) (c ∷ cs) → BeginsNot word_byte rest
    → atom_at h (sides_text (column_names h) turned c cs op m ++ rest) ≡ Some (First (row (c ∷ cs) m op), rest)
full_read h turned c cs op m rest kept plain first normal short each stops =
    let term = term_text (column_names h) c.0 (signed turned c.1) in
    let terms = later_terms_text (column_names h) turned cs in
    let number = integer_text (other_side turned m) in
    let after = terms ++ (op_text turned op ++ (number ++ rest)) in
    let n = unsigned_abs (signed turned c.1) in
    let small : n < 2 ^ 127 = subst (λ k. k < 2 ^ 127) (sym (turned_abs turned c.1)) kept.1 in
    let split : (term ++ (terms ++ (op_text turned op ++ number))) ++ rest ≡ term ++ after =
    append_assoc term (terms ++ (op_text turned op ++ number)) rest
    ∙ ap (λ (l : List ℕ). term ++ l) (append_assoc terms (op_text turned op ++ number) rest
    ∙ ap (λ (l : List ℕ). terms ++ l) (append_assoc (op_text turned op) number rest)) in
    ap (atom_at h) split
    ∙ ap (atom_by h (term ++ after)) (term_read h c.0 false (signed turned c.1) after each.0 small (later_begins h turned cs (op_text turned op ++ (number ++ rest)) (op_begins turned op (number ++ rest))))
    ∙ cond_false (same_sort c.0.sort Text) _ (row_at h (summand c.0 false n) after >>= as_row) (no_text c.0.sort kept.0)
    ∙ ap (λ (b : Bool). row_at h (summand c.0 b n) after >>= as_row) (sym first)
    ∙ ap (λ (o : Option (LinearConstraint × List ℕ)). o >>= as_row) (sides_read h turned c cs op m rest kept plain normal short each stops)

false_row : (b : Bool) (op : RowOp) (m : ℤ) → constant_row b ≡ row [] m op → is_true_with op [] ≡ false → constant_row false ≡ row [] m op
false_row false op m e n = e
false_row true op m e n = let o : Zero ≡ op = ap (λ (r : LinearConstraint). r.op) e in absurd (differs (subst (λ p. is_true_with p [] ≡ false) (sym o) n))
  where
    differs : true ≡ false → ⊥
    differs e = cc

normal_false : (op : RowOp) (m : ℤ) → IsNormalRow (row [] m op) → is_true_with op [] ≡ false → constant_row false ≡ row [] m op
unfolding normal_row
normal_false op m k n = false_row (sign_meets op m) op m k.normal n

false_read : (h : List Column) (op : RowOp) (m : ℤ) (rest : List ℕ) → IsPlainHeading h → IsNormalRow (row [] m op) → is_true_with op [] ≡ false → atom_at h (codes "0 < 0" ++ rest) ≡ Some (First (row [] m op), rest)
false_read h op m rest plain k n =
    let none : term_at h false (codes "0 < 0" ++ rest) ≡ None = ap (λ (o : Option Slot). with_rest (32 ∷ 60 ∷ 32 ∷ 48 ∷ rest) o >>= term_of false 1) (no_column 0 h (48 ∷ []) plain.words refl) in
    ap (atom_by h (codes "0 < 0" ++ rest)) none
    ∙ ap (λ (r : LinearConstraint). Some (First r, rest)) (normal_false op m k n)

-- a row in normal form that isn't true
pub row_read : (h : List Column) (cs : List (Slot × ℤ)) (op : RowOp) (m : ℤ) (rest : List ℕ) → IsPlainHeading h
    → AreCoefs cs → IsNormalRow (row cs m op) → is_true_with op cs ≡ false → IsShort m → AllByRecursion (λ d. IsNamed h d.0) cs → BeginsNot word_byte rest
    → atom_at h (row_with_text (column_names h) cs op m ++ rest) ≡ Some (First (row cs m op), rest)
row_read h [] op m rest plain kept normal says short each stops = false_read h op m rest plain normal says
row_read h (c ∷ cs) op m rest plain kept normal says short each stops =
    full_read h (int_lt c.1 (pos 0)) c cs op m rest kept (turned_if op m c cs kept.2 normal) (first_plus c.1) normal short each stops
