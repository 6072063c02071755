-- The sum of the rows has no coefficient exactly where the sum of each column is 0.
--
-- Its list of coefficients ascends, so each number in it is the coefficient of its slot, which is the sum of that column.
use Rattle.std.proofs.Common.{◌≡◌, ℕ, ◌<◌, nat_lt, Bool, true, false, ◌&&◌, cond, List, [], ◌∷◌, inl, inr, arith, refl, sym, ap, ap₂, ◌∙◌, subst, true≢false, length, ◌==◌}
use Rattle.std.specs.Prelude.{ℤ, pos, ◌+ℤ◌, ◌*ℤ◌}
use Rattle.std.specs.Borrow.{Bor}
use Rattle.std.proofs.lemmas.List.{length-map}
use Rattle.std.specs.List.{AllByRecursion, list_all}
use Rattle.std.specs.Ordering.{int_eq}
use Rattle.std.proofs.lemmas.Bool.Decides.{nat_tests, Decides-int_eq}
use lib.IntN.{+ℤ_idl, +ℤ_idr}
use Rattle.ded_num.proofs.Tests.{both, same_tests}
use Rattle.ded_model.specs.declared.slot.Slot.{Slot}
use Rattle.ded_model.specs.declared.slot.Sort.TheVariants.{Rat}
use Rattle.ded_model.specs.Constraint.{LinearConstraint}
use Rattle.ded_model.specs.Point.{same_slot, stands_in}
use Rattle.ded_model.specs.Coefs.{AllAbove, AreCoefs, coef_at, put, put_all}
use Rattle.ded_model.proofs.Points.{same_slot_is, same_slot_refl, and_left, and_right}
use Rattle.ded_model.proofs.Rows.{or_left, or_right}
use Rattle.ded_model.proofs.Members.{or_split}
use Rattle.ded_model.proofs.CoefLemmas.{is_zero, above_lesser, coef_at-above, coef_at-here, coef_at-past, is_lesser}
use Rattle.ded_model.proofs.LineCoefs.{coef_at-put_all}
use Rattle.ded_model.proofs.LineSlots.{has_slot, put_all_slots}
use Rattle.ded_model.proofs.SlotLists.{above_by_tests}
use Rattle.ded_model.proofs.CoefLists.{AllAbove-put}
use Rattle.ded_num.proofs.Signs.{plus_swap}
use Rattle.ded_weighing.specs.Weighing.{weighed_coefs, weighed_constant, signs_fit, is_strict, is_weak, constant_refutes, refutes}
use Rattle.ded_weighing.specs.Columns.{lent, sum_from, vanishes, all_vanish, HasSlots, HasAllSlots}

-- ---- truth values

-- what all slots pass, one of them passes
one_passes : (test : Slot → Bool) (ss : List Slot) (s : Slot) → list_all test ss ≡ true → stands_in ss s ≡ true → test s ≡ true
one_passes test [] s h k = absurd (true≢false (sym k))
one_passes test (t ∷ ss) s h k = elim (or_split (same_slot t s) _ k) [
  | inl x ↦ subst (λ u. test u ≡ true) (same_slot_is t s x) (and_left (test t) _ h)
  | inr x ↦ one_passes test ss s (and_right (test t) _ h) x
]

-- what every slot passes, all of a list pass
all_pass : (test : Slot → Bool) (ss : List Slot) → ((s : Slot) → test s ≡ true) → list_all test ss ≡ true
all_pass test [] h = refl
all_pass test (s ∷ ss) h = both (test s) _ (h s) (all_pass test ss h)

-- ---- ascending lists

-- rational slots in ascending order
abbrev pub Ascend : List (Slot × ℤ) → Type 0
Ascend [] = Unit {0}
Ascend (c ∷ cs) = (c.0.sort ≡ Rat) × AllAbove c.0.number cs × Ascend cs

ascend-put : (s : Slot) (z : ℤ) (cs : List (Slot × ℤ)) → s.sort ≡ Rat → Ascend cs → Ascend (put s z cs)
ascend-put s z [] r h = (r, tt, tt)
ascend-put s z (c ∷ cs) r h = go (same_slot c.0 s) refl (nat_lt s.number c.0.number) refl (ascend-put s z cs r h.2)
  where
    go : (b : Bool) → same_slot c.0 s ≡ b → (d : Bool) → nat_lt s.number c.0.number ≡ d → Ascend (put s z cs)
        → Ascend (cond b ((c.0, z +ℤ c.1) ∷ cs) (cond d ((s, z) ∷ c ∷ cs) (c ∷ put s z cs)))
    go true e d f i = h
    go false e true f i = let l : s.number < c.0.number = is_lesser s.number c.0.number f in (r, (l, above_lesser s.number c.0.number cs (omega (arith, l)) h.1), h)
    go false e false f i = (h.0, AllAbove-put c.0.number s z cs (above_by_tests c.0 s h.0 r e f) h.1, i)

ascend-put_all : (k : ℤ) (xs ys : List (Slot × ℤ)) → AreCoefs xs → Ascend ys → Ascend (put_all k xs ys)
ascend-put_all k [] ys r h = h
ascend-put_all k (x ∷ xs) ys r h = ascend-put x.0 (k *ℤ x.1) (put_all k xs ys) r.0 (ascend-put_all k xs ys r.4 h)

pub ascend-weighed : (ms : List ℤ) (rs : List LinearConstraint) → AllByRecursion (λ r. AreCoefs r.coefs) rs → Ascend (weighed_coefs ms rs)
ascend-weighed [] rs h = tt
ascend-weighed (m ∷ ms) [] h = tt
ascend-weighed (m ∷ ms) (r ∷ rs) h = ascend-put_all m r.coefs (weighed_coefs ms rs) h.0 (ascend-weighed ms rs h.1)

-- ---- zeros

abbrev pub all_zero : List (Slot × ℤ) → Bool
all_zero cs = list_all (λ c. int_eq c.1 (pos 0)) cs

-- where all numbers are 0, so is each coefficient
pub coef_zero : (cs : List (Slot × ℤ)) (s : Slot) → all_zero cs ≡ true → coef_at cs s ≡ pos 0
coef_zero [] s h = refl
coef_zero (c ∷ cs) s h = go (same_slot c.0 s) ∙ coef_zero cs s (and_right (int_eq c.1 (pos 0)) _ h)
  where
    go : (b : Bool) → cond b c.1 (pos 0) +ℤ coef_at cs s ≡ coef_at cs s
    go true = ap (λ z. z +ℤ coef_at cs s) ((Decides-int_eq c.1 (pos 0)).0 (and_left (int_eq c.1 (pos 0)) _ h)) ∙ +ℤ_idl (coef_at cs s)
    go false = +ℤ_idl (coef_at cs s)

-- in an ascending list all numbers are 0 where each coefficient is
pub zero_coefs : (cs : List (Slot × ℤ)) → Ascend cs → ((s : Slot) → has_slot cs s ≡ true → coef_at cs s ≡ pos 0) → all_zero cs ≡ true
zero_coefs [] h z = refl
zero_coefs (c ∷ cs) h z =
    both (int_eq c.1 (pos 0)) _ (is_zero c.1 (sym (coef_at-here c.0 c cs (same_slot_refl c.0) h.1) ∙ z c.0 (or_left (same_slot c.0 c.0) _ (same_slot_refl c.0))))
    (zero_coefs cs h.2 (λ s k. go s k (same_slot c.0 s) refl))
  where
    go : (s : Slot) → has_slot cs s ≡ true → (b : Bool) → same_slot c.0 s ≡ b → coef_at cs s ≡ pos 0
    go s k true e = coef_at-above s cs (subst (λ t. AllAbove t.number cs) (same_slot_is c.0 s e) h.1)
    go s k false e = sym (coef_at-past s c cs e) ∙ z s (or_right (same_slot c.0 s) _ k)

-- ---- sums

-- the sum of a column is the coefficient of its slot
sum_is : (z : ℤ) (ms : List ℤ) (rs : List LinearConstraint) (s : Slot) → sum_from (λ r. coef_at r.coefs s) z ms rs ≡ z +ℤ coef_at (weighed_coefs ms rs) s
sum_is z [] rs s = sym (+ℤ_idr z)
sum_is z (m ∷ ms) [] s = sym (+ℤ_idr z)
sum_is z (m ∷ ms) (r ∷ rs) s =
    sum_is (m *ℤ coef_at r.coefs s +ℤ z) ms rs s ∙ plus_swap (m *ℤ coef_at r.coefs s) z (coef_at (weighed_coefs ms rs) s) ∙ ap (λ w. z +ℤ w) (sym (coef_at-put_all m r.coefs (weighed_coefs ms rs) s))

constants_from : (z : ℤ) (ms : List ℤ) (rs : List LinearConstraint) → sum_from (λ r. r.constant) z ms rs ≡ z +ℤ weighed_constant ms rs
constants_from z [] rs = sym (+ℤ_idr z)
constants_from z (m ∷ ms) [] = sym (+ℤ_idr z)
constants_from z (m ∷ ms) (r ∷ rs) = constants_from (m *ℤ r.constant +ℤ z) ms rs ∙ plus_swap (m *ℤ r.constant) z (weighed_constant ms rs)

pub constants_are : (ms : List ℤ) (rs : List LinearConstraint) → sum_from (λ r. r.constant) (pos 0) ms rs ≡ weighed_constant ms rs
constants_are ms rs = constants_from (pos 0) ms rs ∙ +ℤ_idl (weighed_constant ms rs)

-- ---- the slots of the sum

pub weighed_slots : (ss : List Slot) (ms : List ℤ) (rs : List LinearConstraint) → HasAllSlots ss rs → HasSlots ss (weighed_coefs ms rs)
weighed_slots ss [] rs h = λ s e. absurd (true≢false (sym e))
weighed_slots ss (m ∷ ms) [] h = λ s e. absurd (true≢false (sym e))
weighed_slots ss (m ∷ ms) (r ∷ rs) h = λ s e. elim (put_all_slots m r.coefs (weighed_coefs ms rs) s e) [ inl x ↦ h.0 s x | inr x ↦ weighed_slots ss ms rs h.1 s x ]

-- the sum has no coefficient exactly where each column comes to 0
pub vanish_is : (ss : List Slot) (ms : List ℤ) (rs : List LinearConstraint) → AllByRecursion (λ r. AreCoefs r.coefs) rs → HasAllSlots ss rs
    → all_vanish ms rs ss ≡ list_all (λ c. int_eq c.1 (pos 0)) (weighed_coefs ms rs)
vanish_is ss ms rs a h = same_tests (all_vanish ms rs ss) (all_zero (weighed_coefs ms rs)) forth back
  where
    column : (s : Slot) → sum_from (λ r. coef_at r.coefs s) (pos 0) ms rs ≡ coef_at (weighed_coefs ms rs) s
    column s = sum_is (pos 0) ms rs s ∙ +ℤ_idl (coef_at (weighed_coefs ms rs) s)

    forth : all_vanish ms rs ss ≡ true → all_zero (weighed_coefs ms rs) ≡ true
    forth v = zero_coefs (weighed_coefs ms rs) (ascend-weighed ms rs a)
        (λ s k. sym (column s) ∙ (Decides-int_eq (sum_from (λ r. coef_at r.coefs s) (pos 0) ms rs) (pos 0)).0 (one_passes (vanishes ms rs) ss s v (weighed_slots ss ms rs h s k)))

    back : all_zero (weighed_coefs ms rs) ≡ true → all_vanish ms rs ss ≡ true
    back z = all_pass (vanishes ms rs) ss (λ s. is_zero (sum_from (λ r. coef_at r.coefs s) (pos 0) ms rs) (column s ∙ coef_zero (weighed_coefs ms rs) s z))

-- what the rows come to refutes exactly where the columns vanish and the constants refute
pub refutes_is : (ss : List Slot) (ms : List ℤ) (rs : List LinearConstraint) → AllByRecursion (λ r. AreCoefs r.coefs) rs → HasAllSlots ss rs → (length ms == length rs) ≡ true → signs_fit ms rs ≡ true
    → (all_vanish ms rs ss && constant_refutes (is_strict ms rs) (is_weak ms rs) (sum_from (λ r. r.constant) (pos 0) ms rs)) ≡ refutes ms rs
refutes_is ss ms rs a h e f =
    ap₂ (λ x z. x && constant_refutes (is_strict ms rs) (is_weak ms rs) z) (vanish_is ss ms rs a h) (constants_are ms rs)
    ∙ sym (ap₂ (λ x y. x && (y && (list_all (λ c. int_eq c.1 (pos 0)) (weighed_coefs ms rs) && constant_refutes (is_strict ms rs) (is_weak ms rs) (weighed_constant ms rs)))) e f)

-- as many numbers as rows behind references
pub as_many : (ms : List ℤ) (rs : List (Bor LinearConstraint)) → length ms ≡ length rs → (length ms == length (lent rs)) ≡ true
as_many ms rs h = same (length ms) (length (lent rs)) (h ∙ sym (length-map rs (λ r. r.now)))
  where
    same : (n m : ℕ) → n ≡ m → (n == m) ≡ true
    same n m e = grind (arith, nat_tests)
