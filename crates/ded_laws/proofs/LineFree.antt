-- The lines of a formula mention only rational slots that it mentions freely, where those of its atoms do.
--
-- By induction on the formula. Past a rational quantifier its slot is eliminated; past one over texts the lines stay, and as
-- they are over rational slots they don't mention its slot.
use Rattle.std.proofs.Common.{◌≡◌, Bool, true, false, not, ◌&&◌, ◌||◌, List, ◌++◌, inl, inr, refl, sym, ◌∙◌, ap, true≢false}
use Rattle.ded_model.specs.declared.slot.Slot.{Slot}
use Rattle.ded_model.specs.declared.slot.Sort.{Sort}
use Rattle.ded_model.specs.declared.slot.Sort.TheVariants.{Rat, Text}
use Rattle.ded_model.specs.Point.{Key, slot, name, same_key, same_slot, same_sort}
use Rattle.ded_model.specs.Logic.{Logic, atom, always, never, negation, every_of, some_of, implies, minus, exists, forall, Logics, none, also, mentions, any_mentions, AllAtoms, AllAtomsOf, IsSorted, AreSorted, IsOfSort}
use Rattle.ded_model.specs.Lines.{Line, elim_past, lines, all_lines}
use Rattle.ded_model.proofs.Points.{same_slot_is}
use Rattle.ded_model.proofs.Members.{In-split}
use Rattle.ded_model.proofs.LineSlots.{AreOver, elim_over}

-- a rational slot
abbrev pub is_rat : Slot → Bool
is_rat s = same_sort s.sort Rat

-- a rational slot that the test passes
abbrev pub free_in : (Key → Bool) → Slot → Bool
free_in test t = test (slot t) && is_rat t

-- `and` of three tests
move : (a b c : Bool) → (a && (b && c)) ≡ true → ((a && b) && c) ≡ true
move true b c e = e
move false b c e = e

-- a part of `or`, with a test beside
both_left : (a b c : Bool) → (a && c) ≡ true → ((a || b) && c) ≡ true
both_left true b c e = e
both_left false b c e = absurd (true≢false (sym e))

-- of the other part
both_right : (a b c : Bool) → (b && c) ≡ true → ((a || b) && c) ≡ true
both_right true true c e = e
both_right true false c e = absurd (true≢false (sym e))
both_right false b c e = e

-- the lines of two parts
over_both : (f g : Key → Bool) (xs ys : List Line) → AreOver (free_in f) xs → AreOver (free_in g) ys → AreOver (free_in (λ k. f k || g k)) (xs ++ ys)
over_both f g xs ys h k l i t m = elim (In-split l xs ys i) [
  | inl a ↦ both_left (f (slot t)) (g (slot t)) (is_rat t) (h l a t m)
  | inr b ↦ both_right (f (slot t)) (g (slot t)) (is_rat t) (k l b t m)
]

-- a rational slot is no text slot
keeps_rat : (t u : Slot) (m b : Bool) → u.sort ≡ Text → same_slot t u ≡ b → (m && is_rat t) ≡ true → ((not b && m) && is_rat t) ≡ true
keeps_rat t u m false e s h = h
keeps_rat t u true true e s h = absurd (true≢false (sym h ∙ ap (λ w. same_sort w Rat) (ap (λ (w : Slot). w.sort) (same_slot_is t u s) ∙ e)))
keeps_rat t u false true e s h = h

-- past a quantifier
pub over_past : (s : Sort) (k : Key) (f : Key → Bool) (ls : List Line) → IsOfSort s k → AreOver (free_in f) ls → AreOver (free_in (λ j. not (same_key j k) && f j)) (elim_past s k ls)
over_past Rat (slot u) f ls e h l i t m = move (not (same_slot t u)) (f (slot t)) (is_rat t) (elim_over u (free_in f) ls h l i t m)
over_past Rat (name x) f ls e h l i t m = h l i t m
over_past Text (slot u) f ls e h l i t m = keeps_rat t u (f (slot t)) (same_slot t u) e refl (h l i t m)
over_past Text (name x) f ls e h l i t m = h l i t m

module _ {L : Type 0} (of : L → List Line) (in_atom : L → Key → Bool) (P : L → Type 0) (over : (a : L) → P a → AreOver (free_in (in_atom a)) (of a)) where
  mutual
    -- the law
    pub lines_over : (f : Logic L) → IsSorted f → AllAtoms P f → AreOver (free_in (mentions in_atom f)) (lines of f)
    lines_over (atom a) h p = over a p
    lines_over always h p = λ l i. absurd i
    lines_over never h p = λ l i. absurd i
    lines_over (negation f) h p = lines_over f h p
    lines_over (every_of fs) h p = all_lines_over fs h p
    lines_over (some_of fs) h p = all_lines_over fs h p
    lines_over (implies f g) h p = over_both (mentions in_atom f) (mentions in_atom g) _ _ (lines_over f h.0 p.0) (lines_over g h.1 p.1)
    lines_over (minus f g) h p = over_both (mentions in_atom f) (mentions in_atom g) _ _ (lines_over f h.0 p.0) (lines_over g h.1 p.1)
    lines_over (exists s k f) h p = over_past s k (mentions in_atom f) _ h.0 (lines_over f h.1 p)
    lines_over (forall s k f) h p = over_past s k (mentions in_atom f) _ h.0 (lines_over f h.1 p)

    -- of a list
    pub all_lines_over : (fs : Logics L) → AreSorted fs → AllAtomsOf P fs → AreOver (free_in (any_mentions in_atom fs)) (all_lines of fs)
    all_lines_over none h p = λ l i. absurd i
    all_lines_over (also f fs) h p = over_both (mentions in_atom f) (any_mentions in_atom fs) _ _ (lines_over f h.0 p.0) (all_lines_over fs h.1 p.1)
