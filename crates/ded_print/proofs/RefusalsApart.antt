-- No text of a refusal begins as an answer, a plan or a box does.
--
-- A box's line is a column's name, a blank and `in`. A column may be called `refused`; but behind `refused` and a blank a
-- refusal has a number.
use Rattle.std.proofs.Common.{◌≡◌, ℕ, ◌<◌, List, [], ◌∷◌, ◌++◌, length, map, refl, sym, ap, ◌∙◌, append_assoc, arith}
use Rattle.std.specs.Prelude.{codes}
use Rattle.std.specs.List.{AllByRecursion}
use Rattle.ded_model.specs.declared.bound.Bound.{Bound}
use Rattle.ded_model.specs.declared.certificate.Entry.{Entry}
use Rattle.ded_model.specs.declared.name.Column.{Column}
use Rattle.ded_model.specs.declared.command.Refusal.{Refusal}
use Rattle.ded_model.specs.declared.command.Refusal.TheVariants.{LongStatement, Unfinished, Syntax, LongName, LongNumber, Deep, Many, Twice, Unknown, Taken, Kind, Arity, Unbound, WrongSort, Used, NoTuple, Full, Spent, Level, Wide, Memory}
use Rattle.ded_model.specs.PlanForm.{PlanForm}
use Rattle.ded_model.specs.Row.{Atom}
use Rattle.ded_model.specs.Refusals.{refusal_number, refusal_word}
use Rattle.ded_print.specs.Boxes.{span_line, span_lines, rational_names, spans_text}
use Rattle.ded_print.specs.Certificates.{entry_line, apart_text}
use Rattle.ded_print.specs.Lines.{line_text, lines_text, counted_text, refusal_line, script_text, refusal_text}
use Rattle.ded_print.specs.Numbers.{number_text, count_text}
use Rattle.ded_print.specs.Plans.{node_lines, plan_text}
use Rattle.ded_print.specs.Quiet.{IsQuiet, AreQuiet}
use Rattle.ded_print.specs.Tuples.{column_names, tuple_text, answer_text}
use Rattle.ded_print.proofs.QuotedLines.{IsClosed, closed_both, closed_number, counted_first, header_closed, same_line, closed_written}
use Rattle.ded_print.proofs.QuotedTexts.{closed_span, quiet_names}
use Rattle.ded_print.proofs.Runs.{tails, first}

closed_word : (r : Refusal) → IsClosed (refusal_word r)
closed_word LongStatement = λ ys. refl
closed_word Unfinished = λ ys. refl
closed_word Syntax = λ ys. refl
closed_word LongName = λ ys. refl
closed_word LongNumber = λ ys. refl
closed_word Deep = λ ys. refl
closed_word Many = λ ys. refl
closed_word Twice = λ ys. refl
closed_word Unknown = λ ys. refl
closed_word Taken = λ ys. refl
closed_word Kind = λ ys. refl
closed_word Arity = λ ys. refl
closed_word Unbound = λ ys. refl
closed_word WrongSort = λ ys. refl
closed_word Used = λ ys. refl
closed_word NoTuple = λ ys. refl
closed_word Full = λ ys. refl
closed_word Spent = λ ys. refl
closed_word Level = λ ys. refl
closed_word Wide = λ ys. refl
closed_word Memory = λ ys. refl

closed_refusal : (r : Refusal) → IsClosed (refusal_line r)
closed_refusal r = closed_both (codes "refused ") (number_text (refusal_number r) ++ (32 ∷ refusal_word r)) (λ ys. refl) (closed_both (number_text (refusal_number r)) (32 ∷ refusal_word r) (closed_number (refusal_number r)) (closed_both (codes " ") (refusal_word r) (λ ys. refl) (closed_word r)))

-- ---- answers and plans

no_counted : (kind n : List ℕ) (ls : List (List ℕ)) (r : Refusal) (xs ys : List ℕ) → IsClosed kind → IsClosed n → (first (kind ++ (32 ∷ n)) ≡ 114 → ⊥)
    → counted_text kind n ls ++ xs ≡ refusal_text r ++ ys → ⊥
no_counted kind n ls r xs ys k c other e =
    other (ap first (same_line (kind ++ (32 ∷ n)) (refusal_line r) _ ys (header_closed kind n k c) (closed_refusal r) (sym (counted_first kind n ls xs) ∙ e)).0)

pub no_apart : (es : List Entry) (r : Refusal) (xs ys : List ℕ) → apart_text es ++ xs ≡ refusal_text r ++ ys → ⊥
no_apart es r xs ys e = no_counted (codes "apart") (number_text (length es)) (map entry_line es) r xs ys (λ zs. refl) (closed_number (length es)) (λ f. omega (arith, f)) e

pub no_answer : (columns : List Column) (ts : List (List Atom)) (r : Refusal) (xs ys : List ℕ) → answer_text columns ts ++ xs ≡ refusal_text r ++ ys → ⊥
no_answer columns ts r xs ys e = no_counted (codes "answer") (number_text (length ts)) (map (tuple_text (column_names columns)) ts) r xs ys (λ zs. refl) (closed_number (length ts)) (λ f. omega (arith, f)) e

pub no_plan : (f : PlanForm) (r : Refusal) (xs ys : List ℕ) → plan_text f ++ xs ≡ refusal_text r ++ ys → ⊥
no_plan f r xs ys e = no_counted (codes "plan") (count_text (length (node_lines 0 f))) (node_lines 0 f) r xs ys (λ zs. refl) (closed_written (length (node_lines 0 f))) (λ f. omega (arith, f)) e

pub no_script : (lines : List (List ℕ)) (r : Refusal) (xs ys : List ℕ) → script_text lines ++ xs ≡ refusal_text r ++ ys → ⊥
no_script lines r xs ys e = no_counted (codes "dump") (number_text (length lines)) lines r xs ys (λ zs. refl) (closed_number (length lines)) (λ f. omega (arith, f)) e

-- ---- boxes

no_other_line : (l : List ℕ) (r : Refusal) (xs ys : List ℕ) → IsClosed l → (first l ≡ 114 → ⊥) → line_text l ++ xs ≡ refusal_text r ++ ys → ⊥
no_other_line l r xs ys k other e = other (ap first (same_line l (refusal_line r) xs ys k (closed_refusal r) e).0)

pub no_nowhere : (r : Refusal) (xs ys : List ℕ) → line_text (codes "empty") ++ xs ≡ refusal_text r ++ ys → ⊥
no_nowhere r xs ys e = no_other_line (codes "empty") r xs ys (λ zs. refl) (λ f. omega (arith, f)) e

pub no_rational : (r : Refusal) (xs ys : List ℕ) → line_text (codes "no rational column") ++ xs ≡ refusal_text r ++ ys → ⊥
no_rational r xs ys e = no_other_line (codes "no rational column") r xs ys (λ zs. refl) (λ f. omega (arith, f)) e

-- what stands behind the first blank
behind_blank : (n m p q : List ℕ) → IsQuiet n → IsQuiet m → n ++ 32 ∷ p ≡ m ++ 32 ∷ q → p ≡ q
behind_blank [] [] p q hn hm e = (tails e).1
behind_blank [] (b ∷ m) p q hn hm e = absurd (omega (arith, hm.0, (tails e).0))
behind_blank (a ∷ n) [] p q hn hm e = absurd (omega (arith, hn.0, (tails e).0))
behind_blank (a ∷ n) (b ∷ m) p q hn hm e = behind_blank n m p q hn.1 hm.1 (tails e).1

word_quiet : IsQuiet (codes "refused")
word_quiet = (omega arith, (omega arith, (omega arith, (omega arith, (omega arith, (omega arith, (omega arith, tt)))))))

numbered : (r : Refusal) (rest : List ℕ) → 105 ∷ rest ≡ number_text (refusal_number r) ++ (32 ∷ refusal_word r) → ⊥
unfolding number_text
numbered LongStatement rest e = absurd (omega (arith, ap first e))
numbered Unfinished rest e = absurd (omega (arith, ap first e))
numbered Syntax rest e = absurd (omega (arith, ap first e))
numbered LongName rest e = absurd (omega (arith, ap first e))
numbered LongNumber rest e = absurd (omega (arith, ap first e))
numbered Deep rest e = absurd (omega (arith, ap first e))
numbered Many rest e = absurd (omega (arith, ap first e))
numbered Twice rest e = absurd (omega (arith, ap first e))
numbered Unknown rest e = absurd (omega (arith, ap first e))
numbered Taken rest e = absurd (omega (arith, ap first e))
numbered Kind rest e = absurd (omega (arith, ap first e))
numbered Arity rest e = absurd (omega (arith, ap first e))
numbered Unbound rest e = absurd (omega (arith, ap first e))
numbered WrongSort rest e = absurd (omega (arith, ap first e))
numbered Used rest e = absurd (omega (arith, ap first e))
numbered NoTuple rest e = absurd (omega (arith, ap first e))
numbered Full rest e = absurd (omega (arith, ap first e))
numbered Spent rest e = absurd (omega (arith, ap first e))
numbered Level rest e = absurd (omega (arith, ap first e))
numbered Wide rest e = absurd (omega (arith, ap first e))
numbered Memory rest e = absurd (omega (arith, ap first e))

-- a column's bounds are no refusal
no_span : (n : List ℕ) (b : Bound × Bound) (r : Refusal) → IsQuiet n → span_line n b ≡ refusal_line r → ⊥
no_span n b r h e = numbered r _ (behind_blank n (codes "refused") _ _ h word_quiet e)

no_spans : (ns : List (List ℕ)) (bs : List (Bound × Bound)) (r : Refusal) (xs ys : List ℕ) → AllByRecursion IsQuiet ns → 0 < length ns → 0 < length bs → lines_text (span_lines ns bs) ++ xs ≡ refusal_text r ++ ys → ⊥
no_spans [] bs r xs ys h some more e = absurd (omega (arith, some))
no_spans (n ∷ ns) [] r xs ys h some more e = absurd (omega (arith, more))
no_spans (n ∷ ns) (b ∷ bs) r xs ys h some more e =
    no_span n b r h.0 (same_line (span_line n b) (refusal_line r) (lines_text (span_lines ns bs) ++ xs) ys (closed_span n b h.0) (closed_refusal r) (sym (append_assoc (line_text (span_line n b)) (lines_text (span_lines ns bs)) xs) ∙ e)).0

pub no_box : (columns : List Column) (bs : List (Bound × Bound)) (r : Refusal) (xs ys : List ℕ) → AreQuiet columns → 0 < length (rational_names columns) → 0 < length bs
    → spans_text columns bs ++ xs ≡ refusal_text r ++ ys → ⊥
no_box columns bs r xs ys quiet some more e = no_spans (rational_names columns) bs r xs ys (quiet_names columns quiet) some more e
