-- Two order rows of which one has two slots never clash.
use Rattle.std.proofs.Common.{◌≡◌, ℕ, zero, suc, ◌*◌, ◌^◌, ◌<◌, ◌≤◌, Bool, true, false, not, ◌&&◌, ◌||◌, cond, List, [], ◌∷◌, arith, refl, sym, ap, ap₂, ◌∙◌, subst, true≢false}
use Rattle.std.specs.Prelude.{ℤ, pos, ◌+ℤ◌, ◌-ℤ◌, ◌*ℤ◌, unsigned_abs}
use lib.IntN.{+ℤ_idr}
use Rattle.std.proofs.lemmas.Int.{ints, unsigned_abs-mul}
use Rattle.std.proofs.Math.IntN.{*ℤ-zero}
use Rattle.ded_num.specs.Length.{IsWithin, IsShort}
use Rattle.ded_model.specs.declared.slot.Slot.{Slot}
use Rattle.ded_model.specs.Constraint.{LinearConstraint}
use Rattle.ded_model.specs.Point.{same_slot}
use Rattle.ded_model.specs.Coefs.{coef_at, cut}
use Rattle.ded_model.specs.Lines.{is_long, products_clash, slots_clash, lines_clash, IsLineWithin}
use Rattle.ded_model.proofs.Points.{same_slot_is, same_slot_refl}
use Rattle.ded_model.proofs.LineCoefs.{coef_at-cut}
use Rattle.ded_model.proofs.LineLengths.{not_long, lines_fit, zero_within}
use Rattle.ded_linear.specs.Intervals.{is_single}
use Rattle.ded_order.proofs.Units.{AreOpposite, swapped}
use Rattle.ded_order.proofs.Rests.{IsRest, alone, pair}

-- ---- slots

turned_test : (s t : Slot) → same_slot t s ≡ false → same_slot s t ≡ false
turned_test s t e = go (same_slot s t) refl
  where
    go : (b : Bool) → same_slot s t ≡ b → b ≡ false
    go true f = absurd (true≢false (sym (ap (λ u. same_slot u s) (sym (same_slot_is s t f)) ∙ same_slot_refl s) ∙ e))
    go false f = refl

-- the other coefficients of a row that has the slot alone are 0
others_none : (s t : Slot) (cs : List (Slot × ℤ)) → cut s cs ≡ [] → same_slot t s ≡ false → coef_at cs t ≡ pos 0
others_none s t cs e n = sym (coef_at-cut s cs t (turned_test s t n)) ∙ ap (λ xs. coef_at xs t) e

-- those of another row are units or 0
small_part : (b : Bool) (e : ℤ) → unsigned_abs e ≡ 1 → unsigned_abs (cond b e (pos 0) +ℤ pos 0) ≤ 1
small_part true e h = omega (arith, h, ap unsigned_abs (+ℤ_idr e))
small_part false e h = omega arith

others_small : (s t y : Slot) (e : ℤ) (cs : List (Slot × ℤ)) → cut s cs ≡ (y, e) ∷ [] → unsigned_abs e ≡ 1 → same_slot t s ≡ false → unsigned_abs (coef_at cs t) ≤ 1
others_small s t y e cs p h n =
    let same : coef_at cs t ≡ cond (same_slot y t) e (pos 0) +ℤ pos 0 = sym (coef_at-cut s cs t (turned_test s t n)) ∙ ap (λ xs. coef_at xs t) p in
    subst (λ z. unsigned_abs z ≤ 1) (sym same) (small_part (same_slot y t) e h)

-- ---- products

times_small : (a b c : ℕ) → a < c → b ≤ 1 → a * b < c
times_small a zero c h l = omega arith
times_small a (suc zero) c h l = omega arith
times_small a (suc (suc b)) c h l = absurd (omega arith)

small_times : (a b c : ℕ) → a ≤ 1 → b < c → a * b < c
small_times zero b c h l = omega arith
small_times (suc zero) b c h l = omega arith
small_times (suc (suc a)) b c h l = absurd (omega arith)

short_by_small : (x y : ℤ) → IsShort x → unsigned_abs y ≤ 1 → IsShort (x *ℤ y)
short_by_small x y h l = subst (λ n. n < 2 ^ 127) (sym (unsigned_abs-mul x y)) (times_small (unsigned_abs x) (unsigned_abs y) (2 ^ 127) h l)

small_by_short : (x y : ℤ) → unsigned_abs x ≤ 1 → IsShort y → IsShort (x *ℤ y)
small_by_short x y h l = subst (λ n. n < 2 ^ 127) (sym (unsigned_abs-mul x y)) (small_times (unsigned_abs x) (unsigned_abs y) (2 ^ 127) h l)

nothing_less : (p q : ℤ) → q ≡ pos 0 → unsigned_abs (p -ℤ q) ≡ unsigned_abs p
nothing_less p q e = omega (arith, ints)

less_from_nothing : (p q : ℤ) → p ≡ pos 0 → unsigned_abs (p -ℤ q) ≡ unsigned_abs q
less_from_nothing p q e = omega (arith, ints)

or_none : (x y z : Bool) → x ≡ false → y ≡ false → z ≡ false → (x || y || z) ≡ false
or_none x y z e f g = rw (e, f, g) refl

-- where one of the products is 0
second_none : (k x m y : ℤ) → IsShort (k *ℤ x) → y ≡ pos 0 → products_clash k x m y ≡ false
second_none k x m y h e =
    let none : m *ℤ y ≡ pos 0 = ap (λ z. m *ℤ z) e ∙ *ℤ-zero m in
    or_none (is_long (k *ℤ x)) (is_long (m *ℤ y)) (is_long (k *ℤ x -ℤ m *ℤ y)) (not_long (k *ℤ x) h) (not_long (m *ℤ y) (subst IsShort (sym none) (zero_within 127)))
    (not_long (k *ℤ x -ℤ m *ℤ y) (subst (λ n. n < 2 ^ 127) (sym (nothing_less (k *ℤ x) (m *ℤ y) none)) h))

first_none : (k x m y : ℤ) → x ≡ pos 0 → IsShort (m *ℤ y) → products_clash k x m y ≡ false
first_none k x m y e h =
    let none : k *ℤ x ≡ pos 0 = ap (λ z. k *ℤ z) e ∙ *ℤ-zero k in
    or_none (is_long (k *ℤ x)) (is_long (m *ℤ y)) (is_long (k *ℤ x -ℤ m *ℤ y)) (not_long (k *ℤ x) (subst IsShort (sym none) (zero_within 127))) (not_long (m *ℤ y) h)
    (not_long (k *ℤ x -ℤ m *ℤ y) (subst (λ n. n < 2 ^ 127) (sym (less_from_nothing (k *ℤ x) (m *ℤ y) none)) h))

-- ---- lines

slots_none : (s : Slot) (l m : LinearConstraint) → ((t : Slot) → same_slot t s ≡ false → products_clash (coef_at m.coefs s) (coef_at l.coefs t) (coef_at l.coefs s) (coef_at m.coefs t) ≡ false)
    → (cs : List (Slot × ℤ)) → slots_clash s l m cs ≡ false
slots_none s l m h = go
  where
    part : (c : Slot × ℤ) (b : Bool) → same_slot c.0 s ≡ b → (not b && products_clash (coef_at m.coefs s) (coef_at l.coefs c.0) (coef_at l.coefs s) (coef_at m.coefs c.0)) ≡ false
    part c true e = refl
    part c false e = h c.0 e

    join : (x y : Bool) → x ≡ false → y ≡ false → (x || y) ≡ false
    join x y e f = rw (e, f) refl

    go : (cs : List (Slot × ℤ)) → slots_clash s l m cs ≡ false
    go [] = refl
    go (c ∷ cs) = join _ _ (part c (same_slot c.0 s) refl) (go cs)

lines_none : (s : Slot) (l m : LinearConstraint) → ((t : Slot) → same_slot t s ≡ false → products_clash (coef_at m.coefs s) (coef_at l.coefs t) (coef_at l.coefs s) (coef_at m.coefs t) ≡ false)
    → products_clash (coef_at m.coefs s) l.constant (coef_at l.coefs s) m.constant ≡ false → lines_clash s l m ≡ false
unfolding lines_clash
lines_none s l m h e = or_none (slots_clash s l m l.coefs) (slots_clash s l m m.coefs) _ (slots_none s l m h l.coefs) (slots_none s l m h m.coefs) e

at_most : (n : ℕ) → n ≡ 1 → n ≤ 1
at_most n e = omega arith

-- a number of at most 1 has at most 63 digits
small_within : (z : ℤ) → unsigned_abs z ≤ 1 → IsWithin 63 z
small_within z h = omega arith

-- all coefficients of a row of two slots
all_small : (s y : Slot) (e : ℤ) (cs : List (Slot × ℤ)) (t : Slot) → cut s cs ≡ (y, e) ∷ [] → AreOpposite (coef_at cs s) e → unsigned_abs (coef_at cs t) ≤ 1
all_small s y e cs t p h = go (same_slot t s) refl
  where
    go : (b : Bool) → same_slot t s ≡ b → unsigned_abs (coef_at cs t) ≤ 1
    go true f = subst (λ u. unsigned_abs (coef_at cs u) ≤ 1) (sym (same_slot_is t s f)) (at_most (unsigned_abs (coef_at cs s)) h.unit)
    go false f = others_small s t y e cs p (swapped (coef_at cs s) e h).unit f

small_line : (s y : Slot) (e : ℤ) (l : LinearConstraint) → cut s l.coefs ≡ (y, e) ∷ [] → AreOpposite (coef_at l.coefs s) e → l.constant ≡ pos 0 → IsLineWithin 63 l
small_line s y e l p h z = record {
  coefs = λ t. small_within (coef_at l.coefs t) (all_small s y e l.coefs t p h);
  constant = subst (IsWithin 63) (sym z) (zero_within 63);
}

-- two rows of which one has two slots don't clash
pub never_clash : (s : Slot) (l m : LinearConstraint) → IsShort l.constant → IsShort m.constant → (is_single l && is_single m) ≡ false
    → IsRest s l.coefs l.constant → IsRest s m.coefs m.constant → lines_clash s l m ≡ false
never_clash s l m h k n (alone p i j) (alone q u v) = absurd (true≢false (sym (ap₂ (λ x y. x && y) i u) ∙ n))
never_clash s l m h k n (alone p i j) (pair z b q g o) =
    lines_none s l m
    (λ t e. first_none (coef_at m.coefs s) (coef_at l.coefs t) (coef_at l.coefs s) (coef_at m.coefs t) (others_none s t l.coefs p e)
    (short_by_small (coef_at l.coefs s) (coef_at m.coefs t) j (others_small s t z b m.coefs q (swapped (coef_at m.coefs s) b g).unit e)))
    (second_none (coef_at m.coefs s) l.constant (coef_at l.coefs s) m.constant (small_by_short (coef_at m.coefs s) l.constant (at_most (unsigned_abs (coef_at m.coefs s)) g.unit) h) o)
never_clash s l m h k n (pair y a p g o) (alone q u v) =
    lines_none s l m
    (λ t e. second_none (coef_at m.coefs s) (coef_at l.coefs t) (coef_at l.coefs s) (coef_at m.coefs t)
    (short_by_small (coef_at m.coefs s) (coef_at l.coefs t) v (others_small s t y a l.coefs p (swapped (coef_at l.coefs s) a g).unit e)) (others_none s t m.coefs q e))
    (first_none (coef_at m.coefs s) l.constant (coef_at l.coefs s) m.constant o (small_by_short (coef_at l.coefs s) m.constant (at_most (unsigned_abs (coef_at l.coefs s)) g.unit) k))
never_clash s l m h k n (pair y a p g o) (pair z b q i w) = lines_fit s l m (small_line s y a l p g o) (small_line s z b m q i w)
