-- Comparisons and their atoms.
use Rattle.std.proofs.Common.{◌≡◌, ℕ, zero, suc, ◌-◌, ◌<◌, ◌≤◌, ◌||◌, Bool, true, false, List, [], ◌∷◌, ◌++◌, length, map, get_or, drop, drop-cons, arith, refl, sym, ap, ap₂, ◌∙◌, subst, true≢false}
use Rattle.ded_model.specs.declared.slot.Sort.{Sort}
use Rattle.ded_model.specs.declared.slot.Sort.TheVariants.{Rat, Text}
use Rattle.ded_model.specs.declared.name.Column.{Column}
use Rattle.ded_model.specs.declared.formula.CompareOp.{CompareOp}
use Rattle.ded_model.specs.declared.formula.CompareOp.TheVariants.{Less, LessEq, Equal, NotEqual, GreaterEq, Greater}
use Rattle.ded_model.specs.declared.formula.Operand.{Operand}
use Rattle.ded_model.specs.declared.formula.Operand.TheVariants.{Single, Sum, Quoted}
use Rattle.ded_model.specs.declared.formula.Formula.{Formula}
use Rattle.ded_model.specs.Constraint.{LinearConstraint}
use Rattle.ded_model.specs.Point.{same_sort}
use Rattle.ded_model.specs.Row.{Atom}
use Rattle.ded_model.specs.Coefs.{AreCoefs}
use Rattle.ded_model.specs.Normal.{normal_row, IsNormalRow, constant_row, is_true_row, place_atom, ordered_atoms}
use Rattle.ded_model.specs.Logic.{every_of, Logics, some_below, some_below_of}
use Rattle.ded_model.specs.Form.{Form, FormAtom, form, forms}
use Rattle.ded_model.specs.Slotted.{SlotScope, slot_of, is_text_operand, text_side, goal_below, goal_atoms, comparison_atoms, heading_scope, tuple_of}
use Rattle.ded_model.specs.Known.{has_unbound, is_unbound_atom, scope_of, sorts_differ, operand_sort}
use Rattle.ded_model.specs.Plain.{IsPlain}
use Rattle.ded_resolve.specs.Scope.{sorts_of}
use Rattle.ded_resolve.specs.Tuples.{is_missorted_comparison, IsTextSide, IsFitting, AreFitting}
use Rattle.ded_tuple.specs.Places.{placed}
use Rattle.ded_resolve.proofs.Summing.{sort_in-slot}
use Rattle.ded_resolve.proofs.Reading.{numbered_heading, sorts_heading}
use Rattle.ded_model.proofs.Bools.{or_false_left, or_false_right}

-- ---- sides of comparisons

-- an operand of the sort of texts is the side of a text
text_sided : (scope : SlotScope) (t : Operand) → operand_sort (sorts_of scope) t ≡ Text → IsTextSide (text_side scope t)
text_sided scope (Single x) e = sym (sort_in-slot scope x) ∙ e
text_sided scope (Sum t) e = tt
text_sided scope (Quoted t) e = tt

pub is_text : (s : Sort) → same_sort s Text ≡ true → s ≡ Text
is_text Rat e = absurd (true≢false (sym e))
is_text Text e = refl

-- a text has the sort of texts
pub text_sort : (scope : SlotScope) (t : Operand) → is_text_operand scope t ≡ true → operand_sort (sorts_of scope) t ≡ Text
text_sort scope (Single x) e = sort_in-slot scope x ∙ is_text (slot_of scope x).sort e
text_sort scope (Sum t) e = absurd (true≢false (sym e))
text_sort scope (Quoted t) e = refl

-- so has the other side, where the sorts don't differ
both_text : (op : CompareOp) (s t : Sort) → sorts_differ op s t ≡ false → s ≡ Text → t ≡ Text
both_text op s t d e = go op t (sym (ap (λ u. sorts_differ op u t) e) ∙ d)
  where
    go : (op : CompareOp) (t : Sort) → sorts_differ op Text t ≡ false → t ≡ Text
    go op Text d = refl
    go Less Rat d = absurd (true≢false d)
    go LessEq Rat d = absurd (true≢false d)
    go Equal Rat d = absurd (true≢false d)
    go NotEqual Rat d = absurd (true≢false d)
    go GreaterEq Rat d = absurd (true≢false d)
    go Greater Rat d = absurd (true≢false d)

both_text_back : (op : CompareOp) (s t : Sort) → sorts_differ op s t ≡ false → t ≡ Text → s ≡ Text
both_text_back op s t d e = go op s (sym (ap (sorts_differ op s) e) ∙ d)
  where
    go : (op : CompareOp) (s : Sort) → sorts_differ op s Text ≡ false → s ≡ Text
    go op Text d = refl
    go Less Rat d = absurd (true≢false d)
    go LessEq Rat d = absurd (true≢false d)
    go Equal Rat d = absurd (true≢false d)
    go NotEqual Rat d = absurd (true≢false d)
    go GreaterEq Rat d = absurd (true≢false d)
    go Greater Rat d = absurd (true≢false d)

-- a comparison with a text that isn't missorted is one of two texts
pub text_sides : (scope : SlotScope) (l r : Operand) (op : CompareOp) → sorts_differ op (operand_sort (sorts_of scope) l) (operand_sort (sorts_of scope) r) ≡ false
    → (is_text_operand scope l || is_text_operand scope r) ≡ true → IsTextSide (text_side scope l) × IsTextSide (text_side scope r)
text_sides scope l r op d h = go (is_text_operand scope l) refl h
  where
    go : (b : Bool) → is_text_operand scope l ≡ b → (b || is_text_operand scope r) ≡ true → IsTextSide (text_side scope l) × IsTextSide (text_side scope r)
    go true e h = let k = text_sort scope l e in (text_sided scope l k, text_sided scope r (both_text op _ _ d k))
    go false e h = let k = text_sort scope r h in (text_sided scope l (both_text_back op _ _ d k), text_sided scope r k)

-- ---- rows

-- the false row is normal
false_row_normal : IsNormalRow (constant_row false)
unfolding normal_row
false_row_normal = record { normal = refl }

pub falsehood_normal : (r : LinearConstraint) → r ≡ constant_row false → AreCoefs r.coefs × IsNormalRow r × (is_true_row r ≡ false)
falsehood_normal r e = subst (λ q. AreCoefs q.coefs × IsNormalRow q × (is_true_row q ≡ false)) (sym e) (tt, false_row_normal, refl)

-- ---- lists of comparisons

-- the one at a place
pub fitting_at : (scope : SlotScope) (fs : List Formula) (i : ℕ) (d : Formula) → AreFitting scope (forms fs) → i < length fs → IsFitting scope (form (get_or fs i d))
fitting_at scope [] i d h l = absurd (omega arith)
fitting_at scope (f ∷ fs) zero d h l = record { apart = h.apart; plain = h.plain.0; bound = or_false_left _ _ h.bound; sorted = or_false_left _ _ h.sorted }
fitting_at scope (f ∷ fs) (suc i) d h l =
    fitting_at scope fs i d
    (record { apart = h.apart; plain = h.plain.1; bound = or_false_right (some_below is_unbound_atom (sorts_of scope) (form f)) _ h.bound; sorted = or_false_right (some_below is_missorted_comparison (sorts_of scope) (form f)) _ h.sorted })
    (omega arith)

-- atoms in front are put at their places
ordered-append : (xs ys : List Atom) → ordered_atoms (xs ++ ys) ≡ placed xs (ordered_atoms ys)
ordered-append [] ys = refl
ordered-append (x ∷ xs) ys = ap (place_atom x) (ordered-append xs ys)

-- one comparison more
pub gather_step : (scope : SlotScope) (fs : List Formula) (at : ℕ) (f : Formula) (t t' : List Atom) → 0 < at → at ≤ length fs → f ≡ get_or fs (at - 1) f
    → t' ≡ placed (goal_atoms (goal_below scope 0 (form f))) t → t ≡ ordered_atoms (comparison_atoms scope (map form (drop at fs))) → t' ≡ ordered_atoms (comparison_atoms scope (map form (drop (at - 1) fs)))
gather_step scope fs at f t t' above within here e h =
    e ∙ ap (placed (goal_atoms (goal_below scope 0 (form f)))) h
    ∙ sym (ordered-append (goal_atoms (goal_below scope 0 (form f))) (comparison_atoms scope (map form (drop at fs))))
    ∙ ap (λ l. ordered_atoms (comparison_atoms scope (map form l))) (sym rest)
  where
    rest : drop (at - 1) fs ≡ f ∷ drop at fs
    rest = drop-cons fs (at - 1) f (omega arith) ∙ ap₂ (λ x k. x ∷ drop k fs) (sym here) (let i : suc (at - 1) ≡ at = omega arith in i)

-- all of them
pub gather_all : (scope : SlotScope) (fs : List Formula) (at : ℕ) (t : List Atom) → at ≡ 0 → t ≡ ordered_atoms (comparison_atoms scope (map form (drop at fs))) → t ≡ ordered_atoms (comparison_atoms scope (map form fs))
gather_all scope fs at t e h = h ∙ ap (λ k. ordered_atoms (comparison_atoms scope (map form (drop k fs)))) e

-- comparisons over a heading are so in its scope
pub heading_fitting : (h : List Column) (fs : Logics FormAtom) (scope : SlotScope) → scope ≡ heading_scope 0 h → IsPlain (every_of fs) → has_unbound h (every_of fs) ≡ false
    → some_below is_missorted_comparison (scope_of h) (every_of fs) ≡ false → AreFitting scope fs
heading_fitting h fs scope e p b s = subst (λ t. AreFitting t fs) (sym e) (record {
  apart = (numbered_heading h).apart;
  plain = p;
  bound = ap (λ t. some_below_of is_unbound_atom t fs) (sorts_heading 0 h) ∙ b;
  sorted = ap (λ t. some_below_of is_missorted_comparison t fs) (sorts_heading 0 h) ∙ s;
})

pub heading_tuple : (h : List Column) (fs : List Form) (scope : SlotScope) → scope ≡ heading_scope 0 h → ordered_atoms (comparison_atoms scope fs) ≡ tuple_of h fs
unfolding tuple_of
heading_tuple h fs scope e = ap (λ s. ordered_atoms (comparison_atoms s fs)) e
