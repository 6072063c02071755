-- The combination of two rows that don't clash has short coefficients in order.
use Rattle.std.proofs.Common.{◌≡◌, ◌≢◌, Bool, true, false, not, ◌&&◌, ◌||◌, cond, List, [], ◌∷◌, inl, inr, refl, sym, ap₂, ◌∙◌, subst, true≢false}
use Rattle.std.specs.Prelude.{ℤ, pos, ◌+ℤ◌, ◌*ℤ◌, nat_lt, unsigned_abs, ◌^◌}
use lib.IntN.{neg_ℤ}
use Rattle.std.proofs.Math.IntN.{*ℤ-zero}
use Rattle.std.specs.List.{list_any}
use Rattle.std.proofs.lemmas.Bool.{not-false, or_parts}
use Rattle.ded_num.specs.Length.{IsShort}
use Rattle.ded_model.specs.declared.row.RowOp.{RowOp}
use Rattle.ded_model.specs.declared.slot.Slot.{Slot}
use Rattle.ded_model.specs.Coefs.{AreCoefs, coef_at, mixed, cut}
use Rattle.ded_model.specs.Constraint.{LinearConstraint}
use Rattle.ded_model.specs.Lines.{is_long, lines_clash}
use Rattle.ded_model.specs.Normal.{divisor_of, normal_with, normal_row}
use Rattle.ded_model.specs.Point.{same_slot}
use Rattle.ded_model.proofs.CoefDivision.{AreCoefs-coefs_over}
use Rattle.ded_model.proofs.CoefLemmas.{is_lesser, coef_at-above, coef_at-here, coef_at-past}
use Rattle.ded_model.specs.Coefs.{AllAbove}
use Rattle.ded_model.proofs.Divisors.{divisor-whole, divisor-nonzero_first}
use Rattle.ded_model.proofs.LineCoefs.{AllNonzero, nonzero-nonzero, coef_at-mixed, coef_at-nonzero, coef_at-cut, coef_at-cut_here}
use Rattle.ded_model.proofs.LineLengths.{zero_within}
use Rattle.ded_model.proofs.LineSlots.{has_slot}
use Rattle.ded_model.proofs.Members.{or_split}
use Rattle.ded_model.proofs.Points.{same_slot_is, same_slot_refl}
use Rattle.ded_model.proofs.SlotLists.{same_slot-turned}
use Rattle.ded_row.specs.Mixing.{factor, mixed_coefs, mixed_row, mix_of, sum_is_long, long_at, coefs_are_long}
use Rattle.ded_row.proofs.Forms.{begins, normal_row-normal}
use Rattle.ded_row.proofs.MixedLines.{mix-clash}
use Rattle.ded_row.proofs.Targets.{coef_at-absent}
use Rattle.ded_resolve.proofs.Ascending.{Ascend, rational-kept, ascend-mixed, ascend-nonzero}
use Rattle.ded_elimination.specs.LinearAtoms.{IsLinearAtom}
use Rattle.ded_order.proofs.Sums.{above-cut}

-- ---- short numbers

-- a number that isn't long has at most 127 digits
not_long : (z : ℤ) → is_long z ≡ false → IsShort z
not_long z h = is_lesser (unsigned_abs z) (2 ^ 127) (not-false (nat_lt (unsigned_abs z) (2 ^ 127)) h)

sum_short : (k c m d : ℤ) → sum_is_long k c m d ≡ false → IsShort (k *ℤ c +ℤ m *ℤ d)
sum_short k c m d h = not_long (k *ℤ c +ℤ m *ℤ d) (or_parts (is_long (k *ℤ c) || is_long (m *ℤ d)) (is_long (k *ℤ c +ℤ m *ℤ d)) h).1

-- of zeros
no_sum : (k c m d : ℤ) → c ≡ pos 0 → d ≡ pos 0 → IsShort (k *ℤ c +ℤ m *ℤ d)
no_sum k c m d e f = subst IsShort (sym (ap₂ (λ (a b : ℤ). k *ℤ a +ℤ m *ℤ b) e f ∙ ap₂ (λ (a b : ℤ). a +ℤ b) (*ℤ-zero k) (*ℤ-zero m))) (zero_within 127)

-- ---- at each slot

past_not : (a b : Bool) → a ≡ false → (not a && b) ≡ false → b ≡ false
past_not true b e h = absurd (true≢false e)
past_not false b e h = h

module _ (s : Slot) (k : ℤ) (xs : List (Slot × ℤ)) (m : ℤ) (ys : List (Slot × ℤ)) where
  abbrev SumAt : Slot → Type 0
  SumAt t = IsShort (k *ℤ coef_at xs t +ℤ m *ℤ coef_at ys t)

  -- of a slot of a list of which none is long
  at_slot : (cs : List (Slot × ℤ)) (t : Slot) → same_slot t s ≡ false → list_any (λ c. long_at s k xs m ys c.0) cs ≡ false → has_slot cs t ≡ true → SumAt t
  at_slot [] t n h i = absurd (true≢false (sym i))
  at_slot (c ∷ cs) t n h i =
      let both = or_parts (long_at s k xs m ys c.0) (list_any (λ d. long_at s k xs m ys d.0) cs) h in
      elim (or_split (same_slot c.0 t) (has_slot cs t) i) [
        | inl e ↦ sum_short k (coef_at xs t) m (coef_at ys t)
            (past_not (same_slot t s) (sum_is_long k (coef_at xs t) m (coef_at ys t)) n (subst (λ (u : Slot). long_at s k xs m ys u ≡ false) (same_slot_is c.0 t e) both.0))
        | inr j ↦ at_slot cs t n both.1 j
      ]

  each_sum : (t : Slot) → same_slot t s ≡ false → coefs_are_long s k xs m ys ≡ false → SumAt t
  each_sum t n h = by (has_slot xs t) refl (has_slot ys t) refl
    where
      both : (list_any (λ c. long_at s k xs m ys c.0) xs ≡ false) × (list_any (λ c. long_at s k xs m ys c.0) ys ≡ false)
      both = or_parts (list_any (λ c. long_at s k xs m ys c.0) xs) (list_any (λ c. long_at s k xs m ys c.0) ys) h

      by : (a : Bool) → has_slot xs t ≡ a → (b : Bool) → has_slot ys t ≡ b → SumAt t
      by true e b f = at_slot xs t n both.0 e
      by false e true f = at_slot ys t n both.1 f
      by false e false f = no_sum k (coef_at xs t) m (coef_at ys t) (coef_at-absent xs t e) (coef_at-absent ys t f)

  left_short : (t : Slot) → coefs_are_long s k xs m ys ≡ false → IsShort (coef_at (mixed_coefs s k xs m ys) t)
  left_short t h = by (same_slot s t) refl
    where
      by : (b : Bool) → same_slot s t ≡ b → IsShort (coef_at (mixed_coefs s k xs m ys) t)
      by true e = subst IsShort (sym (coef_at-nonzero (cut s (mixed k xs m ys)) t ∙ coef_at-cut_here s (mixed k xs m ys) t e)) (zero_within 127)
      by false e = subst IsShort (sym (coef_at-nonzero (cut s (mixed k xs m ys)) t ∙ coef_at-cut s (mixed k xs m ys) t e ∙ coef_at-mixed k xs m ys t)) (each_sum t (same_slot-turned s t e) h)

-- ---- lists

ascend_cut : (s : Slot) (cs : List (Slot × ℤ)) → Ascend cs → Ascend (cut s cs)
ascend_cut s [] h = tt
ascend_cut s (c ∷ cs) h = by (same_slot c.0 s) (ascend_cut s cs h.2)
  where
    by : (b : Bool) → Ascend (cut s cs) → Ascend (cond b (cut s cs) (c ∷ cut s cs))
    by true i = i
    by false i = (h.0, above-cut c.0.number s cs h.1, i)

-- coefficients in order that are short and not 0
coefs_by : (cs : List (Slot × ℤ)) → Ascend cs → AllNonzero cs → ((t : Slot) → IsShort (coef_at cs t)) → AreCoefs cs
coefs_by [] a z f = tt
coefs_by (c ∷ cs) a z f = (a.0, subst IsShort (coef_at-here c.0 c cs (same_slot_refl c.0) a.1) (f c.0), z.0, a.1, coefs_by cs a.2 z.1 (λ t. rest t (same_slot c.0 t) refl))
  where
    rest : (t : Slot) (b : Bool) → same_slot c.0 t ≡ b → IsShort (coef_at cs t)
    rest t true e = subst IsShort (sym (coef_at-above t cs (subst (λ (u : Slot). AllAbove u.number cs) (same_slot_is c.0 t e) a.1))) (zero_within 127)
    rest t false e = subst IsShort (coef_at-past t c cs e) (f t)

normal_coefs : (op : RowOp) (m : ℤ) (cs : List (Slot × ℤ)) → AreCoefs cs → AreCoefs (normal_with (record { coefs = cs; constant = m; op = op }) cs).coefs
normal_coefs op m [] h = tt
normal_coefs op m (c ∷ cs) h = AreCoefs-coefs_over (divisor_of op m (c ∷ cs)) (c ∷ cs) (divisor-nonzero_first op m c cs h.2) (divisor-whole op m (c ∷ cs)) h

-- ---- the combination

pub mix_linear : (s : Slot) (q r : LinearConstraint) → IsLinearAtom q → IsLinearAtom r → coef_at q.coefs s ≢ pos 0 → coef_at r.coefs s ≢ pos 0 → lines_clash s q r ≡ false → IsLinearAtom (mix_of s q r)
unfolding normal_row
mix_linear s q r lq lr some other apart =
    let k = factor (coef_at q.coefs s) (coef_at r.coefs s) in
    let m = factor (neg_ℤ (coef_at r.coefs s)) (coef_at q.coefs s) in
    let row = mixed_row s k q m r in
    let short = (or_parts (coefs_are_long s k q.coefs m r.coefs) (sum_is_long k q.constant m r.constant) (mix-clash s q r some other ∙ apart)).0 in
    let sums = mixed k q.coefs m r.coefs in
    let up = ascend-nonzero (cut s sums) (ascend_cut s sums (ascend-mixed k q.coefs m r.coefs (rational-kept q.coefs lq.coefs) (rational-kept r.coefs lr.coefs))) in
    let coefs = coefs_by (mixed_coefs s k q.coefs m r.coefs) up (nonzero-nonzero (cut s sums)) (λ t. left_short s k q.coefs m r.coefs t short) in
    record { coefs = normal_coefs row.op row.constant row.coefs coefs; row = normal_row-normal row (begins row.coefs coefs) }
