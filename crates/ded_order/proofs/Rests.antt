-- What is left of an order row without one of its slots, and that combinations of such rows are order rows.
use Rattle.std.proofs.Common.{◌≡◌, ◌≢◌, ℕ, suc, ◌<◌, nat_lt, Bool, true, false, ◌&&◌, cond, List, [], ◌∷◌, length, arith, refl, sym, ap, ap₂, ◌∙◌, subst, true≢false}
use Rattle.std.specs.Prelude.{ℤ, pos, ◌+ℤ◌, ◌*ℤ◌, int_div, unsigned_abs}
use lib.IntN.{neg_ℤ, +ℤ_idl, +ℤ_idr}
use Rattle.std.specs.Ordering.{int_eq}
use Rattle.std.proofs.lemmas.Bool.Decides.{nat_tests, Decides-int_eq}
use Rattle.std.proofs.Math.IntN.{*ℤ-zero}
use Rattle.ded_num.specs.Length.{IsShort}
use Rattle.ded_model.specs.declared.slot.Slot.{Slot}
use Rattle.ded_model.specs.declared.row.RowOp.{RowOp}
use Rattle.ded_model.specs.Constraint.{LinearConstraint}
use Rattle.ded_model.specs.Point.{same_slot}
use Rattle.ded_model.specs.Coefs.{AreCoefs, coef_at, put, mixed, nonzero, cut}
use Rattle.ded_model.specs.Normal.{normal_row, divisor_of}
use Rattle.ded_model.proofs.Points.{and_left, and_right, same_slot_is}
use Rattle.ded_model.proofs.Divisors.{divisor-whole, divisor-whole_constant, divisor-nonzero_first}
use Rattle.ded_row.specs.Mixing.{factor, mixed_coefs, mixed_row, mix_of}
use Rattle.ded_row.proofs.Mixes.{factors, cancels}
use Rattle.ded_row.proofs.Scaling.{cancel_factor}
use Rattle.ded_linear.specs.Intervals.{is_single}
use Rattle.ded_order.specs.OrderRows.{is_order_with, is_order_row}
use Rattle.ded_order.proofs.Units.{AreOpposite, opposite_from, opposite_test, swapped, units_over, units_mixed, factor_unit}
use Rattle.ded_order.proofs.Sums.{ascend-kept, cut-mixed}

-- ---- shapes of lists of coefficients

-- at most one slot, or two with opposite units and the constant 0
pub data IsOrderly (cs : List (Slot × ℤ)) (m : ℤ) : Type 0 where
  nothing : cs ≡ [] → IsOrderly cs m
  single : (c : Slot × ℤ) → cs ≡ c ∷ [] → IsOrderly cs m
  double : (c d : Slot × ℤ) → cs ≡ c ∷ d ∷ [] → AreOpposite c.1 d.1 → m ≡ pos 0 → IsOrderly cs m

pub orderly_test : (cs : List (Slot × ℤ)) (m : ℤ) → IsOrderly cs m → is_order_with cs m ≡ true
orderly_test cs m (nothing e) = ap (λ xs. is_order_with xs m) e
orderly_test cs m (single c e) = ap (λ xs. is_order_with xs m) e
orderly_test cs m (double c d e h f) = ap₂ is_order_with e f ∙ opposite_test c.1 d.1 h

pub orderly_from : (cs : List (Slot × ℤ)) (m : ℤ) → is_order_with cs m ≡ true → IsOrderly cs m
orderly_from [] m h = nothing refl
orderly_from (c ∷ []) m h = single c refl
orderly_from (c ∷ d ∷ []) m h = double c d refl (opposite_from c.1 d.1 (and_right (int_eq m (pos 0)) _ h)) ((Decides-int_eq m (pos 0)).0 (and_left (int_eq m (pos 0)) _ h))
orderly_from (c ∷ d ∷ e ∷ cs) m h = absurd (true≢false (sym h))

-- ---- normal rows

-- a number that divides 0 without rest leaves 0
zero_over : (d q m : ℤ) → d ≢ pos 0 → d *ℤ q ≡ m → m ≡ pos 0 → q ≡ pos 0
zero_over d q m n e f = cancel_factor d q (pos 0) n (e ∙ f ∙ sym (*ℤ-zero d))

pub not_zero_unit : (a b : ℤ) → AreOpposite a b → a ≢ pos 0
not_zero_unit a b h e = let u : unsigned_abs a ≡ 1 = h.unit in absurd (omega (arith, u, ap unsigned_abs e))

normal_orderly : (cs : List (Slot × ℤ)) (m : ℤ) (op : RowOp) → IsOrderly cs m → is_order_row (normal_row (record { coefs = cs; constant = m; op = op })) ≡ true
unfolding normal_row
normal_orderly cs m op (nothing e) = ap (λ xs. is_order_row (normal_row (record { coefs = xs; constant = m; op = op }))) e
normal_orderly cs m op (single c e) = ap (λ xs. is_order_row (normal_row (record { coefs = xs; constant = m; op = op }))) e
normal_orderly cs m op (double c d e h f) =
    let k = divisor_of op m (c ∷ d ∷ []) in
    let n = divisor-nonzero_first op m c (d ∷ []) (not_zero_unit c.1 d.1 h) in
    let w = divisor-whole op m (c ∷ d ∷ []) in
    ap (λ xs. is_order_row (normal_row (record { coefs = xs; constant = m; op = op }))) e
    ∙ ap₂ (λ x y. int_eq x (pos 0) && y)
    (zero_over k (int_div m k) m n (divisor-whole_constant op m c (d ∷ [])) f)
    (opposite_test (int_div c.1 k) (int_div d.1 k) (units_over k (int_div c.1 k) (int_div d.1 k) c.1 d.1 n w.0 w.1.0 h))

-- the normal row of an order row is one
pub normal_order : (r : LinearConstraint) → IsOrderly r.coefs r.constant → is_order_row (normal_row r) ≡ true
normal_order r h = normal_orderly r.coefs r.constant r.op h

-- ---- without a slot

-- what is left of an order row that mentions the slot: nothing, or one other slot with a unit, opposite to that of the slot
pub data IsRest (s : Slot) (cs : List (Slot × ℤ)) (m : ℤ) : Type 0 where
  alone : cut s cs ≡ [] → nat_lt (length cs) 2 ≡ true → IsShort (coef_at cs s) → IsRest s cs m
  pair : (y : Slot) (e : ℤ) → cut s cs ≡ (y, e) ∷ [] → AreOpposite (coef_at cs s) e → m ≡ pos 0 → IsRest s cs m

plus_nothing : (a : ℤ) → a +ℤ pos 0 ≡ a
plus_nothing a = +ℤ_idr a

rest_single : (s : Slot) (c : Slot × ℤ) (m : ℤ) → IsShort c.1 → coef_at (c ∷ []) s ≢ pos 0 → IsRest s (c ∷ []) m
rest_single s c m h n = go (same_slot c.0 s) refl
  where
    go : (b : Bool) → same_slot c.0 s ≡ b → IsRest s (c ∷ []) m
    go true e = alone (ap (λ t. cond t [] (c ∷ [])) e) refl (subst IsShort (sym (ap (λ t. cond t c.1 (pos 0) +ℤ pos 0) e ∙ +ℤ_idr c.1)) h)
    go false e = absurd (n (ap (λ t. cond t c.1 (pos 0) +ℤ pos 0) e))

rest_double : (s : Slot) (c d : Slot × ℤ) (m : ℤ) → c.0.number < d.0.number → AreOpposite c.1 d.1 → m ≡ pos 0 → coef_at (c ∷ d ∷ []) s ≢ pos 0 → IsRest s (c ∷ d ∷ []) m
rest_double s c d m l h z n = go (same_slot c.0 s) refl (same_slot d.0 s) refl
  where
    coef : (b e : Bool) → same_slot c.0 s ≡ b → same_slot d.0 s ≡ e → coef_at (c ∷ d ∷ []) s ≡ cond b c.1 (pos 0) +ℤ (cond e d.1 (pos 0) +ℤ pos 0)
    coef b e f g = ap₂ (λ t u. cond t c.1 (pos 0) +ℤ (cond u d.1 (pos 0) +ℤ pos 0)) f g

    left : (b e : Bool) → same_slot c.0 s ≡ b → same_slot d.0 s ≡ e → cut s (c ∷ d ∷ []) ≡ cond b (cond e [] (d ∷ [])) (c ∷ cond e [] (d ∷ []))
    left b e f g = ap₂ (λ t u. cond t (cond u [] (d ∷ [])) (c ∷ cond u [] (d ∷ []))) f g

    go : (b : Bool) → same_slot c.0 s ≡ b → (e : Bool) → same_slot d.0 s ≡ e → IsRest s (c ∷ d ∷ []) m
    go true f true g = absurd (omega (arith, l, ap (λ (t : Slot). t.number) (same_slot_is c.0 s f ∙ sym (same_slot_is d.0 s g))))
    go true f false g = pair d.0 d.1 (left true false f g) (subst (λ x. AreOpposite x d.1) (sym (coef true false f g ∙ +ℤ_idr c.1)) h) z
    go false f true g = pair c.0 c.1 (left false true f g) (subst (λ x. AreOpposite x c.1) (sym (coef false true f g ∙ +ℤ_idl (d.1 +ℤ pos 0) ∙ +ℤ_idr d.1)) (swapped c.1 d.1 h)) z
    go false f false g = absurd (n (coef false false f g))

rest_by : (s : Slot) (cs : List (Slot × ℤ)) (m : ℤ) → AreCoefs cs → coef_at cs s ≢ pos 0 → IsOrderly cs m → IsRest s cs m
rest_by s cs m h n (nothing e) = absurd (n (ap (λ xs. coef_at xs s) e))
rest_by s cs m h n (single c e) =
    let k = subst AreCoefs e h in
    subst (λ xs. IsRest s xs m) (sym e) (rest_single s c m k.1 (λ z. n (ap (λ xs. coef_at xs s) e ∙ z)))
rest_by s cs m h n (double c d e u z) =
    let k = subst AreCoefs e h in
    subst (λ xs. IsRest s xs m) (sym e) (rest_double s c d m k.3.0 u z (λ f. n (ap (λ xs. coef_at xs s) e ∙ f)))

pub rest : (s : Slot) (r : LinearConstraint) → AreCoefs r.coefs → is_order_row r ≡ true → coef_at r.coefs s ≢ pos 0 → IsRest s r.coefs r.constant
rest s r h o n = rest_by s r.coefs r.constant h n (orderly_from r.coefs r.constant o)

-- ---- combinations

-- without zeros a list of at most one coefficient has at most one
pub orderly_single : (c : Slot × ℤ) (m : ℤ) → IsOrderly (nonzero (c ∷ [])) m
orderly_single c m = go (int_eq c.1 (pos 0))
  where
    go : (b : Bool) → IsOrderly (cond b [] (c ∷ [])) m
    go true = nothing refl
    go false = single c refl

unit_stays : (a : ℤ) → unsigned_abs a ≡ 1 → int_eq a (pos 0) ≡ false
unit_stays a e = go (int_eq a (pos 0)) refl
  where
    go : (b : Bool) → int_eq a (pos 0) ≡ b → b ≡ false
    go true f = absurd (omega (arith, e, ap unsigned_abs ((Decides-int_eq a (pos 0)).0 f)))
    go false f = refl

orderly_double : (c d : Slot × ℤ) (m : ℤ) → AreOpposite c.1 d.1 → m ≡ pos 0 → IsOrderly (nonzero (c ∷ d ∷ [])) m
orderly_double c d m h z =
    double c d (ap₂ (λ t u. cond t (cond u [] (d ∷ [])) (c ∷ cond u [] (d ∷ []))) (unit_stays c.1 h.unit) (unit_stays d.1 (swapped c.1 d.1 h).unit)) h z

-- two slots that are put together
pub orderly_put : (y z : Slot) (a b m : ℤ) → AreOpposite a b → m ≡ pos 0 → IsOrderly (nonzero (put y a ((z, b) ∷ []))) m
orderly_put y z a b m h e = go (same_slot z y) (nat_lt y.number z.number)
  where
    go : (t u : Bool) → IsOrderly (nonzero (cond t ((z, a +ℤ b) ∷ []) (cond u ((y, a) ∷ (z, b) ∷ []) ((z, b) ∷ (y, a) ∷ [])))) m
    go true u = orderly_single (z, a +ℤ b) m
    go false true = orderly_double (y, a) (z, b) m h e
    go false false = orderly_double (z, b) (y, a) m (swapped a b h) e

-- a sum of products that are 0
none_mixed : (k c m d : ℤ) → c ≡ pos 0 → d ≡ pos 0 → k *ℤ c +ℤ m *ℤ d ≡ pos 0
none_mixed k c m d e f = ap₂ (λ x y. k *ℤ x +ℤ m *ℤ y) e f ∙ ap₂ (λ x y. x +ℤ y) (*ℤ-zero k) (*ℤ-zero m)

-- what is left of both lists
mixed_rests : (s : Slot) (xs ys : List (Slot × ℤ)) (c d k m : ℤ) → k *ℤ coef_at xs s +ℤ m *ℤ coef_at ys s ≡ pos 0 → k ≡ factor (coef_at xs s) (coef_at ys s)
    → IsRest s xs c → IsRest s ys d → IsOrderly (nonzero (mixed k (cut s xs) m (cut s ys))) (k *ℤ c +ℤ m *ℤ d)
mixed_rests s xs ys c d k m e f (alone p i j) (alone q u v) = nothing (ap₂ (λ us vs. nonzero (mixed k us m vs)) p q)
mixed_rests s xs ys c d k m e f (alone p i j) (pair z b q h o) = subst (λ us. IsOrderly us (k *ℤ c +ℤ m *ℤ d)) (sym (ap₂ (λ us vs. nonzero (mixed k us m vs)) p q)) (orderly_single (z, m *ℤ b) (k *ℤ c +ℤ m *ℤ d))
mixed_rests s xs ys c d k m e f (pair y a p g n) (alone q u v) = subst (λ us. IsOrderly us (k *ℤ c +ℤ m *ℤ d)) (sym (ap₂ (λ us vs. nonzero (mixed k us m vs)) p q)) (orderly_single (y, k *ℤ a) (k *ℤ c +ℤ m *ℤ d))
mixed_rests s xs ys c d k m e f (pair y a p g n) (pair z b q h o) =
    subst (λ us. IsOrderly us (k *ℤ c +ℤ m *ℤ d)) (sym (ap₂ (λ us vs. nonzero (mixed k us m vs)) p q))
    (orderly_put y z (k *ℤ a) (m *ℤ b) (k *ℤ c +ℤ m *ℤ d)
    (units_mixed (coef_at xs s) a (coef_at ys s) b k m g h (ap unsigned_abs f ∙ factor_unit (coef_at xs s) (coef_at ys s) h.unit) e)
    (none_mixed k c m d n o))

-- the combination of two order rows is one
pub mix_order : (s : Slot) (q r : LinearConstraint) → AreCoefs q.coefs → AreCoefs r.coefs → coef_at q.coefs s ≢ pos 0 → coef_at r.coefs s ≢ pos 0
    → IsRest s q.coefs q.constant → IsRest s r.coefs r.constant → is_order_row (mix_of s q r) ≡ true
mix_order s q r h l n o i j =
    let a = coef_at q.coefs s in
    let b = coef_at r.coefs s in
    let k = factor a b in
    let m = factor (neg_ℤ b) a in
    normal_order (mixed_row s k q m r)
    (subst (λ us. IsOrderly (nonzero us) (k *ℤ q.constant +ℤ m *ℤ r.constant)) (sym (cut-mixed s k q.coefs m r.coefs (ascend-kept q.coefs h) (ascend-kept r.coefs l)))
    (mixed_rests s q.coefs r.coefs q.constant r.constant k m (cancels a b k m (factors a b n o)) refl i j))

-- two rows that have the slot alone leave no slot
pub mix_alone : (s : Slot) (k : ℤ) (xs : List (Slot × ℤ)) (m : ℤ) (ys : List (Slot × ℤ)) → AreCoefs xs → AreCoefs ys → cut s xs ≡ [] → cut s ys ≡ [] → mixed_coefs s k xs m ys ≡ []
mix_alone s k xs m ys h l p q = ap nonzero (cut-mixed s k xs m ys (ascend-kept xs h) (ascend-kept ys l) ∙ ap₂ (λ us vs. mixed k us m vs) p q)

-- a row of at most one slot has nothing else left
pub alone_cut : (s : Slot) (cs : List (Slot × ℤ)) → nat_lt (length cs) 2 ≡ true → coef_at cs s ≢ pos 0 → cut s cs ≡ []
alone_cut s [] h n = refl
alone_cut s (c ∷ []) h n = go (same_slot c.0 s) refl
  where
    go : (b : Bool) → same_slot c.0 s ≡ b → cond b [] (c ∷ []) ≡ []
    go true e = refl
    go false e = absurd (n (ap (λ t. cond t c.1 (pos 0) +ℤ pos 0) e))
alone_cut s (c ∷ d ∷ cs) h n = absurd (more (length cs) h)
  where
    more : (n : ℕ) → nat_lt (suc (suc n)) 2 ≡ true → ⊥
    more n e = grind (arith, nat_tests)

-- two rows of at most one slot, which is the slot, leave no slot
pub both_alone : (s : Slot) (k : ℤ) (q : LinearConstraint) (m : ℤ) (r : LinearConstraint) → AreCoefs q.coefs → AreCoefs r.coefs → coef_at q.coefs s ≢ pos 0 → coef_at r.coefs s ≢ pos 0
    → (is_single q && is_single r) ≡ true → mixed_coefs s k q.coefs m r.coefs ≡ []
both_alone s k q m r h l n o e = mix_alone s k q.coefs m r.coefs h l (alone_cut s q.coefs (and_left (is_single q) (is_single r) e) n) (alone_cut s r.coefs (and_right (is_single q) (is_single r) e) o)
