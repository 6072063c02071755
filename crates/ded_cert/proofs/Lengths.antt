-- How long the numbers of the rows of tuples are, and which slots these have.
use Rattle.std.proofs.Common.{◌≡◌, ℕ, ◌+◌, ◌*◌, ◌^◌, ◌<◌, ◌≤◌, max, Bool, true, false, cond, List, [], ◌∷◌, ◌++◌, length, ⊎_elim, arith, refl, sym, subst, true≢false}
use Rattle.std.specs.Prelude.{ℤ}
use Rattle.std.specs.List.{list_any, AllByRecursion}
use Rattle.std.proofs.Math.Pow.{pow-add}
use Rattle.ded_num.specs.Length.{IsWithin}
use Rattle.ded_num.proofs.Lengths.{within_from_length}
use Rattle.ded_model.specs.declared.slot.Slot.{Slot}
use Rattle.ded_model.specs.declared.tuple.BothAtom.TheVariants.{First, Second}
use Rattle.ded_model.specs.Constraint.{LinearConstraint}
use Rattle.ded_model.specs.Point.{same_slot, stands_in}
use Rattle.ded_model.specs.Coefs.{AreCoefs, coef_at}
use Rattle.ded_model.specs.Row.{Atom, row_mentions}
use Rattle.ded_model.specs.Lines.{In, row_lines, AreWithin}
use Rattle.ded_model.specs.Width.{tuple_length, with_slots, rational_slots_after, rational_slots}
use Rattle.ded_model.proofs.Points.{same_slot_is, same_slot_refl}
use Rattle.ded_model.proofs.Rows.{or_left}
use Rattle.ded_model.proofs.Members.{or_split, In-split}
use Rattle.ded_model.proofs.LineLengths.{line_with-within}
use Rattle.ded_model.proofs.CoefLists.{coef_within, with_slots-kept}
use Rattle.ded_model.proofs.SlotLists.{slots-kept}
use Rattle.ded_theory.specs.Both.{firsts}
use Rattle.ded_theory.specs.Conjunctions.{conj_mentions, conj_lines, IsWide}
use Rattle.ded_cert.specs.Certified.{IsWidePair}
use Rattle.ded_cert.specs.Tracing.{AreWideRows}

-- all numbers of rows have at most k digits
abbrev pub NumbersWithin : ℕ → List LinearConstraint → Type 0
NumbersWithin k rs = AllByRecursion (λ r. ((s : Slot) → IsWithin k (coef_at r.coefs s)) × IsWithin k r.constant) rs

pub rows_within : (k : ℕ) (atoms : List Atom) → AllByRecursion (λ r. AreCoefs r.coefs) (firsts atoms) → tuple_length atoms ≤ k → NumbersWithin k (firsts atoms)
rows_within k [] a h = tt
rows_within k (First r ∷ atoms) a h = ((λ s. coef_within r.coefs s k a.0 (omega (arith, h)), within_from_length r.constant k (omega (arith, h))), rows_within k atoms a.1 (omega (arith, h)))
rows_within k (Second x ∷ atoms) a h = rows_within k atoms a h

lines_within : (k : ℕ) (rs : List LinearConstraint) → NumbersWithin k rs → AreWithin k (conj_lines row_lines rs)
lines_within k [] h l i = absurd i
lines_within k (r ∷ rs) h l i = ⊎_elim
    (λ (j : In l (row_lines r)). line_with-within r.coefs r.constant k h.0.0 h.0.1 l j)
    (λ j. lines_within k rs h.1 l j)
    (In-split l (row_lines r) (conj_lines row_lines rs) i)

pub joined_length : (k : ℕ) (t u : List Atom) → tuple_length t ≤ k → tuple_length u ≤ k → tuple_length (t ++ u) ≤ k
joined_length k [] u h g = g
joined_length k (First r ∷ t) u h g = let i = joined_length k t u (omega (arith, h)) g in omega (arith, h, i)
joined_length k (Second a ∷ t) u h g = joined_length k t u h g

-- ---- slots

-- and each slot of the coefficients is there
slots_there : (cs : List (Slot × ℤ)) (ss : List Slot) (s : Slot) → list_any (λ c. same_slot c.0 s) cs ≡ true → stands_in (with_slots cs ss) s ≡ true
slots_there [] ss s h = absurd (true≢false (sym h))
slots_there (c ∷ cs) ss s h = ⊎_elim
    (λ (e : same_slot c.0 s ≡ true). here (same_slot_is c.0 s e) (stands_in ss c.0) refl)
    (λ e. slots_there cs (cond (stands_in ss c.0) ss (c.0 ∷ ss)) s e)
    (or_split (same_slot c.0 s) (list_any (λ d. same_slot d.0 s) cs) h)
  where
    here : c.0 ≡ s → (b : Bool) → stands_in ss c.0 ≡ b → stands_in (with_slots cs (cond b ss (c.0 ∷ ss))) s ≡ true
    here e true f = with_slots-kept cs ss s (subst (λ t. stands_in ss t ≡ true) e f)
    here e false f = with_slots-kept cs (c.0 ∷ ss) s (or_left (same_slot c.0 s) (stands_in ss s) (subst (λ t. same_slot c.0 t ≡ true) e (same_slot_refl c.0)))

after_there : (t : List Atom) (ss : List Slot) (s : Slot) → conj_mentions row_mentions (firsts t) s ≡ true → stands_in (rational_slots_after ss t) s ≡ true
unfolding row_mentions
after_there [] ss s m = absurd (true≢false (sym m))
after_there (First q ∷ t) ss s m = ⊎_elim
    (λ (e : row_mentions q s ≡ true). slots-kept t (with_slots q.coefs ss) s (slots_there q.coefs ss s e))
    (λ e. after_there t (with_slots q.coefs ss) s e)
    (or_split (row_mentions q s) (conj_mentions row_mentions (firsts t) s) m)
after_there (Second a ∷ t) ss s m = after_there t ss s m

-- ---- wide

at_least_one : (n : ℕ) → 1 ≤ max 1 n
at_least_one n = omega arith

at_most : (n : ℕ) → n ≤ max 1 n
at_most n = omega arith

-- two tuples of which the rows are wide
pub wide_pair : (t u : List Atom) → AllByRecursion (λ r. AreCoefs r.coefs) (firsts (t ++ u)) → AreWideRows (firsts (t ++ u)) → IsWidePair t u
wide_pair t u a w =
    let k = max 1 (tuple_length (t ++ u)) in
    w.above k (at_least_one (tuple_length (t ++ u))) (lines_within k (firsts (t ++ u)) (rows_within k (t ++ u) a (at_most (tuple_length (t ++ u))))) (rational_slots (t ++ u)) (λ s m r. after_there (t ++ u) [] s m)

more_law : (k n : ℕ) → 128 < k * 2 ^ n → 128 < k * 2 ^ (n + 1)
more_law k n h = let e : 2 ^ (n + 1) ≡ 2 ^ n * 2 ^ 1 = pow-add 2 n 1 in rw e (omega (arith, h))

-- a verdict that isn't known comes of wide rows
pub unknown_wide : (rs : List LinearConstraint) → IsWide row_mentions row_lines rs → AreWideRows rs
unknown_wide rs w = record { above = λ b some h ss has. more_law (b + 1) (length ss) (w.above b h ss has) }
