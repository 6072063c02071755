-- Atoms that are wide aren't narrow, in whatever order they stand.
--
-- The lines of normal atoms have no more digits than their numbers, and the rational slots that their rows mention are all those
-- that they mention: a text atom in normal form mentions text slots alone.
use Rattle.std.proofs.Common.{◌≡◌, ◌≤◌, ℕ, Bool, true, false, cond, List, [], ◌∷◌, ⊎_elim, arith, refl, sym, ap, ◌∙◌, subst, true≢false}
use Rattle.std.specs.Prelude.{ℤ}
use Rattle.std.specs.List.{list_any, AllByRecursion}
use Rattle.ded_num.proofs.Lengths.{within_from_length}
use Rattle.ded_model.specs.declared.slot.Slot.{Slot}
use Rattle.ded_model.specs.declared.slot.Sort.{Sort}
use Rattle.ded_model.specs.declared.slot.Sort.TheVariants.{Rat, Text}
use Rattle.ded_model.specs.declared.tuple.ThemeAtom.{ThemeAtom}
use Rattle.ded_model.specs.declared.tuple.ThemeAtom.TheVariants.{EqText, NeText, EqSlot, NeSlot}
use Rattle.ded_model.specs.declared.tuple.BothAtom.TheVariants.{First, Second}
use Rattle.ded_model.specs.Constraint.{LinearConstraint}
use Rattle.ded_model.specs.Point.{same_slot, stands_in}
use Rattle.ded_model.specs.Coefs.{AreCoefs}
use Rattle.ded_model.specs.Row.{Atom, row_mentions, theme_mentions}
use Rattle.ded_model.specs.Lines.{In, row_lines, AreWithin}
use Rattle.ded_model.specs.Normal.{IsNormalTheme, IsNormalTuple}
use Rattle.ded_model.specs.Width.{row_length, tuple_length, with_slots, rational_slots_after, rational_slots, IsNarrowList}
use Rattle.ded_model.proofs.Points.{same_slot_is, same_slot_refl}
use Rattle.ded_model.proofs.Rows.{or_left}
use Rattle.ded_model.proofs.Members.{or_split, In-split}
use Rattle.ded_model.proofs.LineLengths.{line_with-within}
use Rattle.ded_model.proofs.CoefLists.{coef_within, with_slots-kept}
use Rattle.ded_model.proofs.SlotLists.{slots-kept}
use Rattle.ded_theory.specs.Both.{by_kind, IsByKind}
use Rattle.ded_theory.specs.Conjunctions.{conj_mentions, conj_lines, IsWide}
use Rattle.ded_elimination.specs.LinearAtoms.{IsLinearAtom}
use Rattle.ded_elimination.proofs.Shared.{atoms_normal}

-- ---- lengths

-- the line of a row has no more digits than the row
row_within : (r : LinearConstraint) (k : ℕ) → AreCoefs r.coefs → row_length r ≤ k → AreWithin k (row_lines r)
row_within r k c h = line_with-within r.coefs r.constant k (λ t. coef_within r.coefs t k c (omega (arith, h))) (within_from_length r.constant k (omega (arith, h)))

pub lines_within : (t : List Atom) (k : ℕ) → AllByRecursion (IsByKind IsLinearAtom IsNormalTheme) t → tuple_length t ≤ k → AreWithin k (conj_lines (by_kind row_lines (λ a. [])) t)
lines_within [] k n h l i = absurd i
lines_within (First r ∷ t) k n h l i = ⊎_elim
    (λ (j : In l (row_lines r)). row_within r k n.0.coefs (omega (arith, h)) l j)
    (λ j. lines_within t k n.1 (omega (arith, h)) l j)
    (In-split l (row_lines r) (conj_lines (by_kind row_lines (λ a. [])) t) i)
lines_within (Second a ∷ t) k n h l i = lines_within t k n.1 h l i

-- ---- slots

-- and each slot of the coefficients is there
with_slots-has : (cs : List (Slot × ℤ)) (ss : List Slot) (s : Slot) → list_any (λ c. same_slot c.0 s) cs ≡ true → stands_in (with_slots cs ss) s ≡ true
with_slots-has [] ss s h = absurd (true≢false (sym h))
with_slots-has (c ∷ cs) ss s h = ⊎_elim
    (λ (e : same_slot c.0 s ≡ true). here (same_slot_is c.0 s e) (stands_in ss c.0) refl)
    (λ e. with_slots-has cs (cond (stands_in ss c.0) ss (c.0 ∷ ss)) s e)
    (or_split (same_slot c.0 s) (list_any (λ d. same_slot d.0 s) cs) h)
  where
    here : c.0 ≡ s → (b : Bool) → stands_in ss c.0 ≡ b → stands_in (with_slots cs (cond b ss (c.0 ∷ ss))) s ≡ true
    here e true f = with_slots-kept cs ss s (subst (λ t. stands_in ss t ≡ true) e f)
    here e false f = with_slots-kept cs (c.0 ∷ ss) s (or_left (same_slot c.0 s) (stands_in ss s) (subst (λ t. same_slot c.0 t ≡ true) e (same_slot_refl c.0)))

not_rational : (s t : Slot) → s.sort ≡ Text → same_slot s t ≡ true → t.sort ≡ Rat → ⊥
not_rational s t x e r = sorts_apart (sym x ∙ ap (λ u. u.sort) (same_slot_is s t e) ∙ r)
  where
    sorts_apart : Text ≡ Rat → ⊥
    sorts_apart e = true≢false (ap is_text e)
      where
        is_text : Sort → Bool
        is_text Rat = false
        is_text Text = true

text_atom : (a : ThemeAtom) (s : Slot) → IsNormalTheme a → theme_mentions a s ≡ true → s.sort ≡ Rat → ⊥
unfolding theme_mentions
text_atom (EqText t x) s n m r = not_rational t s n.0 m r
text_atom (NeText t x) s n m r = not_rational t s n.0 m r
text_atom (EqSlot t u) s n m r = ⊎_elim (λ (e : same_slot t s ≡ true). not_rational t s n.0 e r) (λ e. not_rational u s n.1 e r) (or_split (same_slot t s) (same_slot u s) m)
text_atom (NeSlot t u) s n m r = ⊎_elim (λ (e : same_slot t s ≡ true). not_rational t s n.0 e r) (λ e. not_rational u s n.1 e r) (or_split (same_slot t s) (same_slot u s) m)

slots-has : (t : List Atom) (ss : List Slot) (s : Slot) → AllByRecursion (IsByKind IsLinearAtom IsNormalTheme) t → conj_mentions (by_kind row_mentions theme_mentions) t s ≡ true → s.sort ≡ Rat → stands_in (rational_slots_after ss t) s ≡ true
unfolding row_mentions
slots-has [] ss s n m r = absurd (true≢false (sym m))
slots-has (First q ∷ t) ss s n m r = ⊎_elim
    (λ (e : row_mentions q s ≡ true). slots-kept t (with_slots q.coefs ss) s (with_slots-has q.coefs ss s e))
    (λ e. slots-has t (with_slots q.coefs ss) s n.1 e r)
    (or_split (row_mentions q s) (conj_mentions (by_kind row_mentions theme_mentions) t s) m)
slots-has (Second a ∷ t) ss s n m r = ⊎_elim
    (λ (e : theme_mentions a s ≡ true). absurd (text_atom a s n.0 e r))
    (λ e. slots-has t ss s n.1 e r)
    (or_split (theme_mentions a s) (conj_mentions (by_kind row_mentions theme_mentions) t s) m)

-- ---- narrow

pub narrow_atoms : (t : List Atom) → AllByRecursion (IsByKind IsLinearAtom IsNormalTheme) t → IsNarrowList t → IsWide (by_kind row_mentions theme_mentions) (by_kind row_lines (λ a. [])) t → ⊥
unfolding IsNarrowList
narrow_atoms t n narrow w =
    let above = w.above (tuple_length t) (lines_within t (tuple_length t) n (omega arith)) (rational_slots t) (λ s m r. slots-has t [] s n m r) in
    omega (arith, above, narrow)

pub narrow_is : (t : List Atom) → IsNormalTuple t → IsNarrowList t → IsWide (by_kind row_mentions theme_mentions) (by_kind row_lines (λ a. [])) t → ⊥
narrow_is t n = narrow_atoms t (atoms_normal t n)
