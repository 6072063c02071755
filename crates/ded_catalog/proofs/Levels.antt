-- The greatest level of the names that formulas use, one formula after another.
use Rattle.std.proofs.Common.{◌≡◌, ℕ, ◌+◌, ◌<◌, max, List, length, drop, get_or, sym, ap, ◌∙◌, arith}
use Rattle.std.proofs.lemmas.List.{at_drop_more}
use Rattle.ded_model.specs.declared.formula.Formula.{Formula}
use Rattle.ded_model.specs.Form.{FormAtom, form, forms}
use Rattle.ded_model.specs.Logic.{greatest, greatest_of}

three : (a b c : ℕ) → max (max a b) c ≡ max a (max b c)
three a b c = omega arith

-- with one formula more
pub greatest-more : (t : FormAtom → ℕ) (fs : List Formula) (i : ℕ) (f : Formula) (level next total : ℕ) → i < length fs → f ≡ get_or fs i f → next ≡ max level (greatest t (form f))
    → max level (greatest_of t (forms (drop i fs))) ≡ total → max next (greatest_of t (forms (drop (i + 1) fs))) ≡ total
greatest-more t fs i f level next total lt is n h =
    ap (λ l. max l (greatest_of t (forms (drop (i + 1) fs)))) n
    ∙ three level (greatest t (form f)) (greatest_of t (forms (drop (i + 1) fs)))
    ∙ ap (λ g. max level (max (greatest t (form g)) (greatest_of t (forms (drop (i + 1) fs))))) is
    ∙ ap (max level) (sym (at_drop_more (λ gs. greatest_of t (forms gs)) fs i f lt))
    ∙ h
