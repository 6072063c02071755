-- Texts that are put part by part: what is put and what is left to put make the whole.
use Rattle.std.proofs.Common.{◌≡◌, ℕ, ◌+◌, ◌<◌, List, [], ◌++◌, length, drop, get_or, append_assoc, append-nil, sym, ap, ◌∙◌, subst}
use Rattle.std.specs.Prelude.{codes}
use Rattle.ded_model.specs.declared.name.Column.{Column}
use Rattle.ded_model.specs.declared.formula.Operand.{Operand}
use Rattle.ded_model.specs.declared.formula.Formula.{Formula}
use Rattle.ded_model.specs.Form.{form, forms}
use Rattle.ded_print.proofs.Plans.{left_after}
use Rattle.ded_dump.specs.Headings.{column_text, columns_text, variables, variables_of}
use Rattle.ded_dump.specs.Operands.{operand_text, operands_text}

-- ---- lists

-- one more part was put
pub one_part : {B : Type 0} (whole done now part left : List B) → done ++ (part ++ left) ≡ whole → now ≡ done ++ part → now ++ left ≡ whole
one_part whole done now part left e n = ap (λ z. z ++ left) n ∙ append_assoc done part left ∙ e

-- one more part was put after a lead
pub led_part : (whole done between now lead part left : List ℕ) → done ++ (lead ++ (part ++ left)) ≡ whole → between ≡ done ++ lead → now ≡ between ++ part → now ++ left ≡ whole
led_part whole done between now lead part left e n m = one_part whole between now part left (one_part whole done between lead (part ++ left) e n) m

-- nothing is left
pub no_part : {B : Type 0} (whole now left : List B) → left ≡ [] → now ++ left ≡ whole → now ≡ whole
no_part whole now left none e = sym (append-nil now) ∙ ap (λ z. now ++ z) (sym none) ∙ e

-- ---- headings and operands

pub next_column : (whole done between now lead : List ℕ) (cs : List Column) (i : ℕ) (c : Column) → i < length cs → c ≡ get_or cs i c
    → done ++ columns_text lead (drop i cs) ≡ whole → between ≡ done ++ lead → now ≡ between ++ column_text c
    → now ++ columns_text (codes ", ") (drop (i + 1) cs) ≡ whole
next_column whole done between now lead cs i c there is e n m =
    led_part whole done between now lead (column_text c) (columns_text (codes ", ") (drop (i + 1) cs)) (subst (λ z. done ++ columns_text lead z ≡ whole) (left_after cs i c there is) e) n m

pub next_operand : (whole done between now lead : List ℕ) (ts : List Operand) (i : ℕ) (t : Operand) → i < length ts → t ≡ get_or ts i t
    → done ++ operands_text lead (drop i ts) ≡ whole → between ≡ done ++ lead → now ≡ between ++ operand_text t
    → now ++ operands_text (codes ", ") (drop (i + 1) ts) ≡ whole
next_operand whole done between now lead ts i t there is e n m =
    led_part whole done between now lead (operand_text t) (operands_text (codes ", ") (drop (i + 1) ts)) (subst (λ z. done ++ operands_text lead z ≡ whole) (left_after ts i t there is) e) n m

-- ---- formulas

pub next_variables : (whole done now : List Column) (fs : List Formula) (i : ℕ) (f : Formula) → i < length fs → f ≡ get_or fs i f
    → done ++ variables_of (forms (drop i fs)) ≡ whole → now ≡ done ++ variables (form f)
    → now ++ variables_of (forms (drop (i + 1) fs)) ≡ whole
next_variables whole done now fs i f there is e n =
    one_part whole done now (variables (form f)) (variables_of (forms (drop (i + 1) fs))) (subst (λ z. done ++ variables_of (forms z) ≡ whole) (left_after fs i f there is) e) n
