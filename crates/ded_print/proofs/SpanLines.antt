-- The lines of a box that are put one after another, and the fractions in them.
use Rattle.std.proofs.Common.{◌≡◌, ℕ, arith, ◌+◌, ◌<◌, ◌≤◌, true, false, cond, List, [], ◌∷◌, ◌++◌, length, drop, get_or, refl, sym, ap, ap₂, ◌∙◌, ⊎_elim, subst, append_assoc}
use Rattle.std.specs.Prelude.{ℤ, pos, ◌<ℤ◌, unsigned_abs, codes, ◌==◌}
use Rattle.std.specs.Int.{IsGcd}
use Rattle.std.proofs.Math.ListN.{drop_of_length-le}
use Rattle.std.proofs.Math.Nat.{eq-zero_of_zero-dvd}
use Rattle.std.proofs.lemmas.Int.{ints}
use Rattle.std.proofs.lemmas.Bool.Decides.{eqb_tells}
use Prim.Native.Nat.{◌∣◌}
use Rattle.ded_model.specs.declared.bound.Bound.{Bound}
use Rattle.ded_model.specs.declared.name.Column.{Column}
use Rattle.ded_model.specs.declared.slot.Sort.TheVariants.{Rat}
use Rattle.ded_model.specs.Point.{same_sort}
use Rattle.ded_print.specs.Boxes.{lower_text, upper_text, span_line, span_lines, rational_names, spans_text}
use Rattle.ded_print.specs.Gathering.{Output, Puts}
use Rattle.ded_print.specs.Lines.{line_text, lines_text}
use Rattle.ded_print.specs.Numbers.{integer_text, lowest_text}
use Rattle.ded_print.proofs.Gathering.{puts_both}
use Rattle.ded_print.proofs.Plans.{left_after}

-- ---- fractions

other : (m : ℕ) (x y : List ℕ) → (m ≡ 1 → ⊥) → y ≡ cond (m == 1) x y
other m x y more = ⊎_elim (λ e. absurd (more e.1)) (λ e. sym (rw e.0 refl)) (eqb_tells m 1)

-- a denominator that isn't 1 is written
pub with_denominator : (a b : Output) (num den : ℤ) → (unsigned_abs den ≡ 1 → ⊥) → Puts a b (integer_text num ++ (47 ∷ integer_text den)) → Puts a b (lowest_text num den)
with_denominator a b num den more h = subst (λ t. Puts a b t) (other (unsigned_abs den) (integer_text num) (integer_text num ++ (47 ∷ integer_text den)) more) h

none_of : (b : ℤ) → pos 0 <ℤ b → unsigned_abs b ≡ 0 → ⊥
none_of b p e = omega (arith, ints)

-- a common divisor of a number above 0 isn't 0
pub divisor_above : (a : ℕ) (b g : ℤ) → pos 0 <ℤ b → IsGcd a (unsigned_abs b) (unsigned_abs g) → g ≡ pos 0 → ⊥
divisor_above a b g p h e = none_of b p (eq-zero_of_zero-dvd (subst (λ k. unsigned_abs k ∣ unsigned_abs b) e h.1))

-- ---- lines

-- the parts of a line
pub span_parts : (a b : Output) (name : List ℕ) (s : Bound × Bound) → Puts a b (name ++ (codes " in " ++ (lower_text s.0 ++ (codes ", " ++ (upper_text s.1 ++ (10 ∷ [])))))) → Puts a b (line_text (span_line name s))
span_parts a b name s h = subst (λ z. Puts a b z) (sym
    (append_assoc name (codes " in " ++ (lower_text s.0 ++ (codes ", " ++ upper_text s.1))) (10 ∷ [])
    ∙ ap (λ z. name ++ z) (append_assoc (codes " in ") (lower_text s.0 ++ (codes ", " ++ upper_text s.1)) (10 ∷ [])
    ∙ ap (λ z. codes " in " ++ z) (append_assoc (lower_text s.0) (codes ", " ++ upper_text s.1) (10 ∷ [])
    ∙ ap (λ z. lower_text s.0 ++ z) (append_assoc (codes ", ") (upper_text s.1) (10 ∷ [])))))) h

line_of : (c : Column) (cs : List Column) (s : Bound × Bound) (ss : List (Bound × Bound)) → same_sort c.sort Rat ≡ true → line_text (span_line c.name s) ++ spans_text cs ss ≡ spans_text (c ∷ cs) (s ∷ ss)
line_of c cs s ss e = sym (ap (λ b. lines_text (span_lines (cond b (c.name ∷ rational_names cs) (rational_names cs)) (s ∷ ss))) e)

no_line_of : (c : Column) (cs : List Column) (ss : List (Bound × Bound)) → same_sort c.sort Rat ≡ false → spans_text cs ss ≡ spans_text (c ∷ cs) ss
no_line_of c cs ss e = sym (ap (λ b. lines_text (span_lines (cond b (c.name ∷ rational_names cs) (rational_names cs)) ss)) e)

none_left : (ns : List (List ℕ)) → span_lines ns [] ≡ []
none_left [] = refl
none_left (n ∷ ns) = refl

module _ (start now : Output) (columns all : List Column) (spans every : List (Bound × Bound)) (i k : ℕ) (c : Column) (there : i < length columns) (is : c ≡ get_or columns i c)
    (goes : (end : Output) → Puts now end (spans_text (drop i columns) (drop k spans)) → Puts start end (spans_text all every)) where
  -- one more line
  pub next_span : (next : Output) (n : ℕ) (s : Bound × Bound) → n ≡ k + 1 → same_sort c.sort Rat ≡ true → k < length spans → s ≡ get_or spans k s → Puts now next (line_text (span_line c.name s))
      → (end : Output) → Puts next end (spans_text (drop (i + 1) columns) (drop n spans)) → Puts start end (spans_text all every)
  next_span next n s e rational h f put end rest = goes end
      (subst (λ z. Puts now end z) (line_of c (drop (i + 1) columns) s (drop (k + 1) spans) rational ∙ sym (ap₂ spans_text (left_after columns i c there is) (left_after spans k s h f)))
      (puts_both now next end _ _ put (subst (λ m. Puts next end (spans_text (drop (i + 1) columns) (drop m spans))) e rest)))

  -- a column of texts
  pub skip_text : same_sort c.sort Rat ≡ false → (end : Output) → Puts now end (spans_text (drop (i + 1) columns) (drop k spans)) → Puts start end (spans_text all every)
  skip_text e end rest = goes end
      (subst (λ z. Puts now end z) (no_line_of c (drop (i + 1) columns) (drop k spans) e ∙ sym (ap (λ cs. spans_text cs (drop k spans)) (left_after columns i c there is))) rest)

  -- no bounds are left
  pub skip_past : length spans ≤ k → (end : Output) → Puts now end (spans_text (drop (i + 1) columns) (drop k spans)) → Puts start end (spans_text all every)
  skip_past h end rest = goes end
      (subst (λ z. Puts now end z) (empty (drop (i + 1) columns) ∙ sym (empty (drop i columns))) rest)
    where
      empty : (cs : List Column) → spans_text cs (drop k spans) ≡ []
      empty cs = ap (spans_text cs) (drop_of_length-le spans h) ∙ ap lines_text (none_left (rational_names cs))
