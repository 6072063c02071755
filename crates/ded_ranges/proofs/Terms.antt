-- The values of a column of which a multiple and a constant stand to 0, and reaches narrowed to them.
use Rattle.std.proofs.Common.{◌≡◌, ℕ, zero, suc, ◌+◌, ◌<◌, ◌≤◌, Bool, true, false, cond, Option, Some, None, List, [], ◌∷◌, ◌++◌, length, get_or, set, arith, refl, sym, ap, ◌∙◌, subst, add-one, take_at, length-append}
use Rattle.std.specs.Prelude.{ℤ, pos, ◌+ℤ◌, ◌-ℤ◌, ◌*ℤ◌, ◌≤ℤ◌, ◌<ℤ◌, int_lt, int_le, neg_ℤ}
use Rattle.std.specs.Ordering.{int_eq}
use Rattle.std.specs.Option.{IfSome}
use Rattle.std.specs.List.{refill}
use Rattle.std.proofs.Math.IntN.{*ℤ-zero}
use Rattle.std.proofs.lemmas.Int.{ints}
use Rattle.ded_num.proofs.Ring.{parts, diff_same, ring}
use Rattle.ded_model.specs.declared.row.RowOp.{RowOp}
use Rattle.ded_model.specs.declared.row.RowOp.TheVariants.{Zero, AtMost, Below}
use Rattle.ded_model.specs.Row.{sign_meets}
use Rattle.ded_model.proofs.Lists.{every-append}
use Rattle.ded_ranges.specs.declared.reach.Range.{Range}
use Rattle.ded_ranges.specs.Codes.{fine, is_up_to}
use Rattle.ded_ranges.specs.Reaches.{IsAbove, IsBelow, NotAbove, NotBelow, IsIn, Lies, everywhere, range_at, both_low, both_high, met, narrowed, all_values, AreOrdered}
use Rattle.ded_ranges.specs.Limits.{Term, sum_of}
use Rattle.ded_ranges.specs.Tuples.{IsRangeOf}
use Rattle.ded_ranges.proofs.Ends.{above_lower, below_higher}
use Rattle.ded_ranges.specs.Scaling.{le_unscale, not_negative, times_up}

-- ---- one end

-- with m the number below which the multiple of k lies, and u units, d the denominator
high : (a c k n u d : ℤ) → pos 0 <ℤ a → pos 0 ≤ℤ u → pos 0 ≤ℤ d → (neg_ℤ k *ℤ a) ≤ℤ (c *ℤ u) → (a *ℤ n +ℤ c *ℤ d) ≤ℤ pos 0 → (n *ℤ u) ≤ℤ (k *ℤ d)
high a c k n u d pa pu pd g h =
    le_unscale a (n *ℤ u) (k *ℤ d) pa
    (join (a *ℤ (n *ℤ u)) (u *ℤ (a *ℤ n +ℤ c *ℤ d)) (d *ℤ (c *ℤ u)) (d *ℤ (neg_ℤ k *ℤ a)) (u *ℤ pos 0) (a *ℤ (k *ℤ d)) (first a c n u d) (times_up u (a *ℤ n +ℤ c *ℤ d) (pos 0) pu h) (*ℤ-zero u) (times_up d (neg_ℤ k *ℤ a) (c *ℤ u) pd g) (second a k d))
  where
    first : (a c n u d : ℤ) → a *ℤ (n *ℤ u) ≡ u *ℤ (a *ℤ n +ℤ c *ℤ d) -ℤ d *ℤ (c *ℤ u)
    first a c n u d = rw (parts a, parts c, parts n, parts u, parts d) (simp ring (diff_same _ _ _ _ (omega arith)))

    second : (a k d : ℤ) → neg_ℤ (d *ℤ (neg_ℤ k *ℤ a)) ≡ a *ℤ (k *ℤ d)
    second a k d = rw (parts a, parts k, parts d) (simp ring (diff_same _ _ _ _ (omega arith)))

    join : (x p q r z y : ℤ) → x ≡ p -ℤ q → p ≤ℤ z → z ≡ pos 0 → r ≤ℤ q → neg_ℤ r ≡ y → x ≤ℤ y
    join x p q r z y e h f g i = omega (arith, ints)

low : (a c k n u d : ℤ) → pos 0 <ℤ neg_ℤ a → pos 0 ≤ℤ u → pos 0 ≤ℤ d → (k *ℤ neg_ℤ a) ≤ℤ (c *ℤ u) → (a *ℤ n +ℤ c *ℤ d) ≤ℤ pos 0 → (k *ℤ d) ≤ℤ (n *ℤ u)
low a c k n u d pa pu pd g h =
    le_unscale (neg_ℤ a) (k *ℤ d) (n *ℤ u) pa
    (join (neg_ℤ a *ℤ (k *ℤ d)) (d *ℤ (k *ℤ neg_ℤ a)) (d *ℤ (c *ℤ u)) (u *ℤ (a *ℤ n +ℤ c *ℤ d)) (u *ℤ pos 0) (neg_ℤ a *ℤ (n *ℤ u)) (first a k d) (times_up d (k *ℤ neg_ℤ a) (c *ℤ u) pd g) (times_up u (a *ℤ n +ℤ c *ℤ d) (pos 0) pu h) (*ℤ-zero u) (second a c n u d))
  where
    first : (a k d : ℤ) → neg_ℤ a *ℤ (k *ℤ d) ≡ d *ℤ (k *ℤ neg_ℤ a)
    first a k d = rw (parts a, parts k, parts d) (simp ring (diff_same _ _ _ _ (omega arith)))

    second : (a c n u d : ℤ) → d *ℤ (c *ℤ u) -ℤ u *ℤ (a *ℤ n +ℤ c *ℤ d) ≡ neg_ℤ a *ℤ (n *ℤ u)
    second a c n u d = rw (parts a, parts c, parts n, parts u, parts d) (simp ring (diff_same _ _ _ _ (omega arith)))

    join : (x p q s z y : ℤ) → x ≡ p → p ≤ℤ q → s ≤ℤ z → z ≡ pos 0 → q -ℤ s ≡ y → x ≤ℤ y
    join x p q s z y e h f g i = omega (arith, ints)

high_is : (o : Option ℤ) (a c : ℤ) → pos 0 <ℤ a → IfSome o (λ k. (neg_ℤ k *ℤ a) ≤ℤ (c *ℤ pos fine)) → (num : ℤ) (den : ℕ) → (a *ℤ num +ℤ c *ℤ pos den) ≤ℤ pos 0 → IsIn (record { low = None; high = o }) num den
high_is None a c p s n d h = record { low = tt; high = tt }
high_is (Some k) a c p s n d h = record { low = tt; high = high a c k n (pos fine) (pos d) p (not_negative fine) (not_negative d) s h }

low_is : (o : Option ℤ) (a c : ℤ) → a <ℤ pos 0 → IfSome o (λ k. (k *ℤ neg_ℤ a) ≤ℤ (c *ℤ pos fine)) → (num : ℤ) (den : ℕ) → (a *ℤ num +ℤ c *ℤ pos den) ≤ℤ pos 0 → IsIn (record { low = o; high = None }) num den
low_is None a c p s n d h = record { low = tt; high = tt }
low_is (Some k) a c p s n d h = record { low = low a c k n (pos fine) (pos d) (turned a p) (not_negative fine) (not_negative d) s h; high = tt }
  where
    turned : (a : ℤ) → a <ℤ pos 0 → pos 0 <ℤ neg_ℤ a
    turned a p = omega (arith, ints)

-- the ends that are kept may be further out
pub high_at : (z p o : Option ℤ) (a c : ℤ) → z ≡ None → NotBelow p o → pos 0 <ℤ a → IfSome o (λ k. (neg_ℤ k *ℤ a) ≤ℤ (c *ℤ pos fine)) → (num : ℤ) (den : ℕ) → (a *ℤ num +ℤ c *ℤ pos den) ≤ℤ pos 0 → IsIn (record { low = z; high = p }) num den
high_at z p o a c e f h s n d m = record {
  low = subst (λ z. IsAbove z n d) (sym e) tt;
  high = below_higher p o n d f (high_is o a c h s n d m).high;
}

pub low_at : (z p o : Option ℤ) (a c : ℤ) → z ≡ None → NotAbove p o → a <ℤ pos 0 → IfSome o (λ k. (k *ℤ neg_ℤ a) ≤ℤ (c *ℤ pos fine)) → (num : ℤ) (den : ℕ) → (a *ℤ num +ℤ c *ℤ pos den) ≤ℤ pos 0 → IsIn (record { low = p; high = z }) num den
low_at z p o a c e f h s n d m = record {
  low = above_lower p o n d f (low_is o a c h s n d m).low;
  high = subst (λ z. IsBelow z n d) (sym e) tt;
}

pub in_everywhere : (n : ℤ) (d : ℕ) → IsIn everywhere n d
in_everywhere n d = record { low = tt; high = tt }

-- at least 0 is at most 0 for the negatives
pub negatives_at_most : (a c a' c' n d : ℤ) → a' ≡ neg_ℤ a → c' ≡ neg_ℤ c → pos 0 ≤ℤ (a *ℤ n +ℤ c *ℤ d) → (a' *ℤ n +ℤ c' *ℤ d) ≤ℤ pos 0
negatives_at_most a c a' c' n d e f h =
    turn (a *ℤ n +ℤ c *ℤ d) (a' *ℤ n +ℤ c' *ℤ d) (ap (λ x. x *ℤ n +ℤ c' *ℤ d) e ∙ ap (λ y. neg_ℤ a *ℤ n +ℤ y *ℤ d) f ∙ law a c n d) h
  where
    law : (a c n d : ℤ) → neg_ℤ a *ℤ n +ℤ neg_ℤ c *ℤ d ≡ neg_ℤ (a *ℤ n +ℤ c *ℤ d)
    law a c n d = rw (parts a, parts c, parts n, parts d) (simp ring (diff_same _ _ _ _ (omega arith)))

    turn : (x y : ℤ) → y ≡ neg_ℤ x → pos 0 ≤ℤ x → y ≤ℤ pos 0
    turn x y e h = omega (arith, ints)

-- ---- both ends

in_met_low : (o p : Option ℤ) (n : ℤ) (d : ℕ) → IsAbove o n d → IsAbove p n d → IsAbove (both_low o p) n d
in_met_low None p n d h k = k
in_met_low (Some a) None n d h k = h
in_met_low (Some a) (Some b) n d h k = by (int_lt a b)
  where
    by : (t : Bool) → IsAbove (cond t (Some b) (Some a)) n d
    by true = k
    by false = h

in_met_high : (o p : Option ℤ) (n : ℤ) (d : ℕ) → IsBelow o n d → IsBelow p n d → IsBelow (both_high o p) n d
in_met_high None p n d h k = k
in_met_high (Some a) None n d h k = h
in_met_high (Some a) (Some b) n d h k = by (int_lt b a)
  where
    by : (t : Bool) → IsBelow (cond t (Some b) (Some a)) n d
    by true = k
    by false = h

pub in_met : (r s : Range) (n : ℤ) (d : ℕ) → IsIn r n d → IsIn s n d → IsIn (met r s) n d
in_met r s n d h k = record { low = in_met_low r.low s.low n d h.low k.low; high = in_met_high r.high s.high n d h.high k.high }

-- a number stands to 0 as an op says: both signs, or one
zero_low : (z : ℤ) → int_eq z (pos 0) ≡ true → z ≤ℤ pos 0
zero_low z h = grind (arith, ints)

zero_high : (z : ℤ) → int_eq z (pos 0) ≡ true → pos 0 ≤ℤ z
zero_high z h = grind (arith, ints)

at_most_low : (z : ℤ) → int_le z (pos 0) ≡ true → z ≤ℤ pos 0
at_most_low z h = grind (arith, ints)

below_low : (z : ℤ) → int_lt z (pos 0) ≡ true → z ≤ℤ pos 0
below_low z h = grind (arith, ints)

pub zero_range : (r s : Range) (a c : ℤ) → ((num : ℤ) (den : ℕ) → (a *ℤ num +ℤ c *ℤ pos den) ≤ℤ pos 0 → IsIn r num den) → ((num : ℤ) (den : ℕ) → pos 0 ≤ℤ (a *ℤ num +ℤ c *ℤ pos den) → IsIn s num den) → IsRangeOf (met r s) a c Zero
zero_range r s a c h k = λ n d m. in_met r s n d (h n d (zero_low (a *ℤ n +ℤ c *ℤ pos d) m)) (k n d (zero_high (a *ℤ n +ℤ c *ℤ pos d) m))

pub at_most_range : (r : Range) (a c : ℤ) → ((num : ℤ) (den : ℕ) → (a *ℤ num +ℤ c *ℤ pos den) ≤ℤ pos 0 → IsIn r num den) → IsRangeOf r a c AtMost
at_most_range r a c h = λ n d m. h n d (at_most_low (a *ℤ n +ℤ c *ℤ pos d) m)

pub below_range : (r : Range) (a c : ℤ) → ((num : ℤ) (den : ℕ) → (a *ℤ num +ℤ c *ℤ pos den) ≤ℤ pos 0 → IsIn r num den) → IsRangeOf r a c Below
below_range r a c h = λ n d m. h n d (below_low (a *ℤ n +ℤ c *ℤ pos d) m)

-- ---- reaches

lies_at : (rs : List Range) (p q : ℕ) (s : Range) (n : ℤ) (d : ℕ) → IsIn (range_at rs q) n d → (p ≡ q → IsIn s n d) → IsIn (range_at (narrowed rs p s) q) n d
lies_at [] p q s n d h k = h
lies_at (r ∷ rs) zero zero s n d h k = in_met r s n d h (k refl)
lies_at (r ∷ rs) zero (suc q) s n d h k = h
lies_at (r ∷ rs) (suc p) zero s n d h k = h
lies_at (r ∷ rs) (suc p) (suc q) s n d h k = lies_at rs p q s n d h (λ e. k (ap suc e))

pub lies_narrowed : (rs : List Range) (p : ℕ) (s : Range) (v : ℕ → ℤ) (den : ℕ) → Lies rs v den → IsIn s (v p) den → Lies (narrowed rs p s) v den
lies_narrowed rs p s v den l h q = lies_at rs p q s (v q) den (l q) (λ e. subst (λ k. IsIn s (v k) den) e h)

-- in place
pub narrowed_here : (rs : List Range) (p : ℕ) (s d : Range) → p < length rs → set rs p (met (get_or rs p d) s) ≡ narrowed rs p s
narrowed_here [] p s d h = absurd (omega (arith, h))
narrowed_here (r ∷ rs) zero s d h = refl
narrowed_here (r ∷ rs) (suc p) s d h = ap (λ xs. r ∷ xs) (narrowed_here rs p s d (omega (arith, h)))

pub narrowed_past : (rs : List Range) (p : ℕ) (s : Range) → length rs ≤ p → rs ≡ narrowed rs p s
narrowed_past [] p s h = refl
narrowed_past (r ∷ rs) zero s h = absurd (omega (arith, h))
narrowed_past (r ∷ rs) (suc p) s h = ap (λ xs. r ∷ xs) (narrowed_past rs p s (omega (arith, h)))

narrowed-length : (rs : List Range) (p : ℕ) (s : Range) → length (narrowed rs p s) ≡ length rs
narrowed-length [] p s = refl
narrowed-length (r ∷ rs) zero s = refl
narrowed-length (r ∷ rs) (suc p) s = ap suc (narrowed-length rs p s)

-- what was lent is narrowed
pub narrowed_held : (old items lent new : List Range) (p : ℕ) (r : Range) → items ≡ old → lent ≡ items → new ≡ narrowed lent p r → refill (length items) items new ≡ narrowed old p r
narrowed_held old items lent new p r e f g =
    let is : new ≡ narrowed items p r = g ∙ ap (λ (rs : List Range). narrowed rs p r) f in
    take_at new _ (length items) (ap (λ (rs : List Range). length rs) is ∙ narrowed-length items p r) ∙ is ∙ ap (λ (rs : List Range). narrowed rs p r) e

pub all_values-more : (n : ℕ) → all_values n ++ everywhere ∷ [] ≡ all_values (n + 1)
all_values-more zero = refl
all_values-more (suc n) = ap (λ xs. everywhere ∷ xs) (all_values-more n ∙ ap all_values (add-one n)) ∙ sym (ap all_values (add-one (suc n)))

all_values-at : (n p : ℕ) (m : ℤ) (d : ℕ) → IsIn (range_at (all_values n) p) m d
all_values-at zero p m d = in_everywhere m d
all_values-at (suc n) zero m d = in_everywhere m d
all_values-at (suc n) (suc p) m d = all_values-at n p m d

pub lies_all_values : (n : ℕ) (v : ℕ → ℤ) (den : ℕ) → Lies (all_values n) v den
lies_all_values n v den p = all_values-at n p (v p) den

-- ---- one term alone

pub only : {A : Type 0} (xs : List A) (d : A) → length xs ≡ 1 → xs ≡ get_or xs 0 d ∷ []
only [] d h = absurd (omega (arith, h))
only (x ∷ []) d h = refl
only (x ∷ y ∷ xs) d h = absurd (omega (arith, h))

plus_nothing : (x z : ℤ) → z ≡ pos 0 → x +ℤ z ≡ x
plus_nothing x z h = omega (arith, ints)

pub one_term : (ts : List Term) (t : Term) (c : ℤ) (op : RowOp) (v : ℕ → ℤ) (den : ℕ) → ts ≡ t ∷ [] → sign_meets op (sum_of ts v +ℤ c *ℤ pos den) ≡ true → sign_meets op (t.1 *ℤ v t.0 +ℤ c *ℤ pos den) ≡ true
one_term ts t c op v den e m = subst (λ z. sign_meets op (z +ℤ c *ℤ pos den) ≡ true) (ap (λ ts. sum_of ts v) e ∙ plus_nothing (t.1 *ℤ v t.0) (pos 0) refl) m

pub narrowed_in_place : (old now : List Range) (p : ℕ) (r own m : Range) → now ≡ old → p < length old → own ≡ get_or now p own → m ≡ met own r → set now p m ≡ narrowed old p r
narrowed_in_place old now p r own m e h f g =
    ap (λ (rs : List Range). set rs p m) e ∙ ap (λ (x : Range). set old p x) (g ∙ ap (λ (x : Range). met x r) (f ∙ ap (λ (rs : List Range). get_or rs p own) e)) ∙ narrowed_here old p r own h

-- values that lie in what is narrowed
pub lies_as : (old new : List Range) (p : ℕ) (r : Range) → new ≡ narrowed old p r → (v : ℕ → ℤ) (den : ℕ) → Lies old v den → IsIn r (v p) den → Lies new v den
lies_as old new p r e v den l h = subst (λ (rs : List Range). Lies rs v den) (sym e) (lies_narrowed old p r v den l h)

-- values in a reach and in one range more
pub lies_more : (rs : List Range) (x : Range) (p : ℕ) (v : ℕ → ℤ) (den : ℕ) → length rs ≡ p → Lies rs v den → IsIn x (v p) den → Lies (rs ++ x ∷ []) v den
lies_more [] x zero v den e l i zero = i
lies_more [] x zero v den e l i (suc q) = record { low = tt; high = tt }
lies_more [] x (suc p) v den e l i q = absurd (omega (arith, e))
lies_more (r ∷ rs) x zero v den e l i q = absurd (omega (arith, e))
lies_more (r ∷ rs) x (suc p) v den e l i zero = l zero
lies_more (r ∷ rs) x (suc p) v den e l i (suc q) = lies_more rs x p (λ j. v (suc j)) den (omega (arith, e)) (λ j. l (suc j)) i q

-- ---- ranges put in order

-- of the first so many columns
pub record AreInOrder (old : List Range) (p : ℕ) (rs : List Range) : Type 0 where
  pub width : length rs ≡ p
  pub ends : AreOrdered rs
  pub lies : (v : ℕ → ℤ) (den : ℕ) → 0 < den → Lies old v den → Lies rs v den

pub in_order_none : (old new : List Range) → new ≡ [] → AreInOrder old 0 new
in_order_none old new e = subst (AreInOrder old 0) (sym e) (record { width = refl; ends = tt; lies = λ v den s l p. record { low = tt; high = tt } })

pub in_order_more : (old now new : List Range) (p : ℕ) (r x : Range) → new ≡ now ++ x ∷ [] → r ≡ range_at old p → is_up_to x.low x.high ≡ true → ((num : ℤ) (den : ℕ) → 0 < den → IsIn r num den → IsIn x num den) → AreInOrder old p now → AreInOrder old (p + 1) new
in_order_more old now new p r x e f k w h = subst (AreInOrder old (p + 1)) (sym e) (record {
  width = length-append now (x ∷ []) ∙ ap (λ n. n + 1) h.width;
  ends = every-append (λ (s : Range). is_up_to s.low s.high ≡ true) now (x ∷ []) h.ends (k, tt);
  lies = λ v den s l. lies_more now x p v den h.width (h.lies v den s l) (w (v p) den s (subst (λ (s : Range). IsIn s (v p) den) (sym f) (l p)));
})

pub one_more : (now new : List Range) (n : ℕ) (r : Range) → now ≡ all_values n → r ≡ everywhere → new ≡ now ++ r ∷ [] → new ≡ all_values (n + 1)
one_more now new n r e f g = g ∙ ap (λ (rs : List Range). rs ++ r ∷ []) e ∙ ap (λ (x : Range). all_values n ++ x ∷ []) f ∙ all_values-more n
