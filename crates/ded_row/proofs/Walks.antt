-- The walk along two lists of coefficients that adds up multiples of them.
--
-- What is left of the lists begins with a slot, its coefficients are those that the whole lists have there, and the sum of the
-- multiples begins with it too. So each step takes one slot off the sum of what is left and adds it to what is done.
use Rattle.std.proofs.Common.{◌≡◌, ◌≢◌, ℕ, ◌<◌, Bool, true, false, not, ◌&&◌, ◌||◌, cond, List, [], ◌∷◌, ◌++◌, ◌⊎◌, inl, inr, nat_lt, arith, refl, sym, ap, ap₂, ◌∙◌, subst, true≢false}
use Rattle.std.specs.Prelude.{ℤ, pos, ◌+ℤ◌, ◌*ℤ◌, ◌^◌, unsigned_abs}
use Rattle.ded_num.specs.Length.{IsShort}
use Rattle.ded_model.specs.Lines.{is_long}
use lib.IntN.{+ℤ_idl, +ℤ_idr}
use Rattle.std.specs.List.{list_any}
use Rattle.std.specs.Ordering.{int_eq}
use Rattle.std.proofs.lemmas.Bool.Decides.{nat_tests}
use Rattle.std.proofs.Math.IntN.{*ℤ-zero}
use Rattle.ded_model.specs.declared.slot.Slot.{Slot}
use Rattle.ded_model.specs.declared.slot.Sort.TheVariants.{Rat}
use Rattle.ded_model.specs.Point.{same_slot}
use Rattle.ded_model.specs.Coefs.{AllAbove, AllBelow, AreCoefs, coef_at, put, put_all, mixed, nonzero, cut}
use Rattle.ded_model.proofs.Points.{same_slot_is, same_slot_refl}
use Rattle.ded_model.proofs.Rows.{or_left, or_right}
use Rattle.ded_model.proofs.CoefLemmas.{not_zero, lesser_slot, put-above, coef_at-above, coef_at-here, coef_at-past}
use Rattle.ded_model.proofs.CoefLists.{AllAbove-put}
use Rattle.ded_model.proofs.LineLengths.{not_long}
use Rattle.ded_model.proofs.LineSlots.{has_slot}
use Rattle.ded_row.specs.Merging.{IsFirst, in_left, in_right, in_both}
use Rattle.ded_row.specs.Mixing.{mixed_coefs, sum_is_long, long_at, coefs_are_long}

-- ---- sums of multiples, from the front

-- putting all multiples keeps above a lesser number
AllAbove-put_all : (n : ℕ) (k : ℤ) (xs zs : List (Slot × ℤ)) → AllAbove n xs → AllAbove n zs → AllAbove n (put_all k xs zs)
AllAbove-put_all n k [] zs h l = l
AllAbove-put_all n k (x ∷ xs) zs h l = AllAbove-put n x.0 (k *ℤ x.1) (put_all k xs zs) h.0 (AllAbove-put_all n k xs zs h.1 l)

-- a number that isn't less
pub not_less : (m n : ℕ) → n < m → nat_lt m n ≡ false
not_less m n h = grind (arith, nat_tests)

-- putting goes past a lesser slot
put-past : (s : Slot) (z : ℤ) (c : Slot × ℤ) (cs : List (Slot × ℤ)) → c.0.number < s.number → put s z (c ∷ cs) ≡ c ∷ put s z cs
put-past s z c cs h = rw (lesser_slot c.0 s h, not_less s.number c.0.number h) refl

-- putting all multiples keeps above a lesser number
put_all-past : (k : ℤ) (xs : List (Slot × ℤ)) (c : Slot × ℤ) (zs : List (Slot × ℤ)) → AllAbove c.0.number xs → put_all k xs (c ∷ zs) ≡ c ∷ put_all k xs zs
put_all-past k [] c zs h = refl
put_all-past k (x ∷ xs) c zs h = ap (put x.0 (k *ℤ x.1)) (put_all-past k xs c zs h.1) ∙ put-past x.0 (k *ℤ x.1) c (put_all k xs zs) h.0

mixed_left : (k m : ℤ) (x : Slot × ℤ) (xs ys : List (Slot × ℤ)) → AllAbove x.0.number xs → AllAbove x.0.number ys → mixed k (x ∷ xs) m ys ≡ (x.0, k *ℤ x.1) ∷ mixed k xs m ys
mixed_left k m x xs ys h l = put-above x.0 (k *ℤ x.1) (mixed k xs m ys) (AllAbove-put_all x.0.number k xs (put_all m ys []) h (AllAbove-put_all x.0.number m ys [] l tt))

mixed_right : (k m : ℤ) (xs : List (Slot × ℤ)) (y : Slot × ℤ) (ys : List (Slot × ℤ)) → AllAbove y.0.number xs → AllAbove y.0.number ys → mixed k xs m (y ∷ ys) ≡ (y.0, m *ℤ y.1) ∷ mixed k xs m ys
mixed_right k m xs y ys h l =
    ap (put_all k xs) (put-above y.0 (m *ℤ y.1) (put_all m ys []) (AllAbove-put_all y.0.number m ys [] l tt)) ∙ put_all-past k xs (y.0, m *ℤ y.1) (put_all m ys []) h

mixed_both : (k m : ℤ) (s : Slot) (a b : ℤ) (xs ys : List (Slot × ℤ)) → AllAbove s.number xs → AllAbove s.number ys → mixed k ((s, a) ∷ xs) m ((s, b) ∷ ys) ≡ (s, k *ℤ a +ℤ m *ℤ b) ∷ mixed k xs m ys
mixed_both k m s a b xs ys h l =
    ap (put s (k *ℤ a)) (mixed_right k m xs (s, b) ys h l) ∙ ap (λ e. cond e ((s, k *ℤ a +ℤ m *ℤ b) ∷ mixed k xs m ys) (cond (nat_lt s.number s.number) ((s, k *ℤ a) ∷ (s, m *ℤ b) ∷ mixed k xs m ys) ((s, m *ℤ b) ∷ put s (k *ℤ a) (mixed k xs m ys)))) (same_slot_refl s)

-- ---- the first slot

-- what is true of the first slot and of what is left after it
record AtFirst (k m : ℤ) (xs ys : List (Slot × ℤ)) (t : Slot) (a b : ℤ) (xs' ys' : List (Slot × ℤ)) : Type 0 where
  rational : t.sort ≡ Rat
  kept_x : AreCoefs xs'
  kept_y : AreCoefs ys'
  above_x : AllAbove t.number xs'
  above_y : AllAbove t.number ys'
  here_x : coef_at xs t ≡ a
  here_y : coef_at ys t ≡ b
  past_x : (u : Slot) → same_slot t u ≡ false → coef_at xs u ≡ coef_at xs' u
  past_y : (u : Slot) → same_slot t u ≡ false → coef_at ys u ≡ coef_at ys' u
  sub_x : (u : Slot) → has_slot xs' u ≡ true → has_slot xs u ≡ true
  sub_y : (u : Slot) → has_slot ys' u ≡ true → has_slot ys u ≡ true
  from : (has_slot xs t ≡ true) ⊎ (has_slot ys t ≡ true)
  any_x : (f : Slot → Bool) → f t ≡ false → list_any (λ c. f c.0) xs' ≡ list_any (λ c. f c.0) xs
  any_y : (f : Slot → Bool) → f t ≡ false → list_any (λ c. f c.0) ys' ≡ list_any (λ c. f c.0) ys
  some : (f : Slot → Bool) → f t ≡ true → (list_any (λ c. f c.0) xs || list_any (λ c. f c.0) ys) ≡ true
  sum : mixed k xs m ys ≡ (t, k *ℤ a +ℤ m *ℤ b) ∷ mixed k xs' m ys'

-- a product with 0 more, in front or behind
no_second : (k a m : ℤ) → k *ℤ a ≡ k *ℤ a +ℤ m *ℤ pos 0
no_second k a m = sym (ap (λ z. k *ℤ a +ℤ z) (*ℤ-zero m) ∙ +ℤ_idr (k *ℤ a))

no_first : (k m b : ℤ) → m *ℤ b ≡ k *ℤ pos 0 +ℤ m *ℤ b
no_first k m b = sym (ap (λ z. z +ℤ m *ℤ b) (*ℤ-zero k) ∙ +ℤ_idl (m *ℤ b))

left_first : (k m : ℤ) (t : Slot) (a : ℤ) (xs ys : List (Slot × ℤ)) → AreCoefs ((t, a) ∷ xs) → AreCoefs ys → AllAbove t.number ys → AtFirst k m ((t, a) ∷ xs) ys t a (pos 0) xs ys
left_first k m t a xs ys h l above = record {
  rational = h.0;
  kept_x = h.4;
  kept_y = l;
  above_x = h.3;
  above_y = above;
  here_x = coef_at-here t (t, a) xs (same_slot_refl t) h.3;
  here_y = coef_at-above t ys above;
  past_x = λ u e. coef_at-past u (t, a) xs e;
  past_y = λ u e. refl;
  sub_x = λ u e. or_right (same_slot t u) _ e;
  sub_y = λ u e. e;
  from = inl (or_left _ _ (same_slot_refl t));
  any_x = λ f e. sym (ap (λ b. b || list_any (λ c. f c.0) xs) e);
  any_y = λ f e. refl;
  some = λ f e. or_left _ _ (or_left _ _ e);
  sum = mixed_left k m (t, a) xs ys h.3 above ∙ ap (λ z. (t, z) ∷ mixed k xs m ys) (no_second k a m);
}

right_first : (k m : ℤ) (t : Slot) (b : ℤ) (xs ys : List (Slot × ℤ)) → AreCoefs xs → AreCoefs ((t, b) ∷ ys) → AllAbove t.number xs → AtFirst k m xs ((t, b) ∷ ys) t (pos 0) b xs ys
right_first k m t b xs ys h l above = record {
  rational = l.0;
  kept_x = h;
  kept_y = l.4;
  above_x = above;
  above_y = l.3;
  here_x = coef_at-above t xs above;
  here_y = coef_at-here t (t, b) ys (same_slot_refl t) l.3;
  past_x = λ u e. refl;
  past_y = λ u e. coef_at-past u (t, b) ys e;
  sub_x = λ u e. e;
  sub_y = λ u e. or_right (same_slot t u) _ e;
  from = inr (or_left _ _ (same_slot_refl t));
  any_x = λ f e. refl;
  any_y = λ f e. sym (ap (λ d. d || list_any (λ c. f c.0) ys) e);
  some = λ f e. or_right (list_any (λ c. f c.0) xs) _ (or_left _ _ e);
  sum = mixed_right k m xs (t, b) ys above l.3 ∙ ap (λ z. (t, z) ∷ mixed k xs m ys) (no_first k m b);
}

both_first : (k m : ℤ) (t : Slot) (a b : ℤ) (xs ys : List (Slot × ℤ)) → AreCoefs ((t, a) ∷ xs) → AreCoefs ((t, b) ∷ ys) → AtFirst k m ((t, a) ∷ xs) ((t, b) ∷ ys) t a b xs ys
both_first k m t a b xs ys h l = record {
  rational = h.0;
  kept_x = h.4;
  kept_y = l.4;
  above_x = h.3;
  above_y = l.3;
  here_x = coef_at-here t (t, a) xs (same_slot_refl t) h.3;
  here_y = coef_at-here t (t, b) ys (same_slot_refl t) l.3;
  past_x = λ u e. coef_at-past u (t, a) xs e;
  past_y = λ u e. coef_at-past u (t, b) ys e;
  sub_x = λ u e. or_right (same_slot t u) _ e;
  sub_y = λ u e. or_right (same_slot t u) _ e;
  from = inl (or_left _ _ (same_slot_refl t));
  any_x = λ f e. sym (ap (λ d. d || list_any (λ c. f c.0) xs) e);
  any_y = λ f e. sym (ap (λ d. d || list_any (λ c. f c.0) ys) e);
  some = λ f e. or_left _ _ (or_left _ _ e);
  sum = mixed_both k m t a b xs ys h.3 l.3;
}

at_first : (k m : ℤ) (xs ys : List (Slot × ℤ)) (t : Slot) (a b : ℤ) (xs' ys' : List (Slot × ℤ)) → AreCoefs xs → AreCoefs ys → IsFirst xs ys t a b xs' ys' → AtFirst k m xs ys t a b xs' ys'
at_first k m xs ys t a b xs' ys' h l (in_left e f g above) =
    rw (e, f, g) (left_first k m t a xs' ys' (subst AreCoefs e h) (subst AreCoefs f l) (subst (AllAbove t.number) f above))
at_first k m xs ys t a b xs' ys' h l (in_right e f g above) =
    rw (e, f, g) (right_first k m t b xs' ys' (subst AreCoefs e h) (subst AreCoefs f l) (subst (AllAbove t.number) e above))
at_first k m xs ys t a b xs' ys' h l (in_both e f) = rw (e, f) (both_first k m t a b xs' ys' (subst AreCoefs e h) (subst AreCoefs f l))

-- ---- the walk

-- all slots of `out` are below each slot of the list
AreBelow : List (Slot × ℤ) → List (Slot × ℤ) → Type 0
AreBelow out zs = (u : Slot) → has_slot zs u ≡ true → AllBelow u.number out

-- what is done is `out`, and xs' and ys' are left
pub record Walking (s : Slot) (k : ℤ) (xs : List (Slot × ℤ)) (m : ℤ) (ys xs' ys' out : List (Slot × ℤ)) : Type 0 where
  pub kept_x : AreCoefs xs'
  pub kept_y : AreCoefs ys'
  pub below_x : (u : Slot) → has_slot xs' u ≡ true → AllBelow u.number out
  pub below_y : (u : Slot) → has_slot ys' u ≡ true → AllBelow u.number out
  pub same_x : (u : Slot) → ((has_slot xs' u ≡ true) ⊎ (has_slot ys' u ≡ true)) → coef_at xs' u ≡ coef_at xs u
  pub same_y : (u : Slot) → ((has_slot xs' u ≡ true) ⊎ (has_slot ys' u ≡ true)) → coef_at ys' u ≡ coef_at ys u
  pub long_x : list_any (λ c. long_at s k xs m ys c.0) xs' ≡ list_any (λ c. long_at s k xs m ys c.0) xs
  pub long_y : list_any (λ c. long_at s k xs m ys c.0) ys' ≡ list_any (λ c. long_at s k xs m ys c.0) ys
  pub value : out ++ mixed_coefs s k xs' m ys' ≡ mixed_coefs s k xs m ys

-- at first all is left
pub walking_first : (s : Slot) (k : ℤ) (xs : List (Slot × ℤ)) (m : ℤ) (ys out : List (Slot × ℤ)) → out ≡ [] → AreCoefs xs → AreCoefs ys → Walking s k xs m ys xs ys out
walking_first s k xs m ys out e h l = record {
  kept_x = h;
  kept_y = l;
  below_x = λ u f. subst (AllBelow u.number) (sym e) tt;
  below_y = λ u f. subst (AllBelow u.number) (sym e) tt;
  same_x = λ u f. refl;
  same_y = λ u f. refl;
  long_x = refl;
  long_y = refl;
  value = ap (λ o. o ++ mixed_coefs s k xs m ys) e;
}

-- nothing more
append-nothing : (out : List (Slot × ℤ)) → out ++ [] ≡ out
append-nothing [] = refl
append-nothing (c ∷ out) = ap (λ o. c ∷ o) (append-nothing out)

-- at the end the sum is done, and no number was too long
pub walking_last : (s : Slot) (k : ℤ) (xs : List (Slot × ℤ)) (m : ℤ) (ys xs' ys' out : List (Slot × ℤ)) → xs' ≡ [] → ys' ≡ [] → Walking s k xs m ys xs' ys' out → out ≡ mixed_coefs s k xs m ys
walking_last s k xs m ys xs' ys' out e f w = sym (append-nothing out) ∙ ap₂ (λ us vs. out ++ mixed_coefs s k us m vs) (sym e) (sym f) ∙ w.value

pub walking_short : (s : Slot) (k : ℤ) (xs : List (Slot × ℤ)) (m : ℤ) (ys xs' ys' out : List (Slot × ℤ)) → xs' ≡ [] → ys' ≡ [] → Walking s k xs m ys xs' ys' out → coefs_are_long s k xs m ys ≡ false
walking_short s k xs m ys xs' ys' out e f w =
    let f_at : Slot × ℤ → Bool = λ c. long_at s k xs m ys c.0 in
    ap₂ (λ b d. b || d) (sym w.long_x ∙ ap (list_any f_at) e) (sym w.long_y ∙ ap (list_any f_at) f)

-- ---- a step

-- a slot of a list stands above what the list stands above
above_number : (n : ℕ) (cs : List (Slot × ℤ)) (u : Slot) → AllAbove n cs → has_slot cs u ≡ true → n < u.number
above_number n [] u h e = absurd (true≢false (sym e))
above_number n (c ∷ cs) u h e = go (same_slot c.0 u) refl (above_number n cs u h.1)
  where
    go : (b : Bool) → same_slot c.0 u ≡ b → (has_slot cs u ≡ true → n < u.number) → n < u.number
    go true f ih = subst (λ t. n < t.number) (same_slot_is c.0 u f) h.0
    go false f ih = ih (sym (ap (λ b. b || has_slot cs u) f) ∙ e)

-- two lists below a number
AllBelow-append : (n : ℕ) (xs ys : List (Slot × ℤ)) → AllBelow n xs → AllBelow n ys → AllBelow n (xs ++ ys)
AllBelow-append n [] ys h l = l
AllBelow-append n (x ∷ xs) ys h l = (h.0, AllBelow-append n xs ys h.1 l)

-- a coefficient or none
below_alone : (n : ℕ) (t : Slot) (z : ℤ) → t.number < n → AllBelow n (nonzero ((t, z) ∷ []))
below_alone n t z h = go (int_eq z (pos 0))
  where
    go : (b : Bool) → AllBelow n (cond b [] ((t, z) ∷ []))
    go true = tt
    go false = (h, tt)

-- three lists
append-append : (xs ys zs : List (Slot × ℤ)) → (xs ++ ys) ++ zs ≡ xs ++ (ys ++ zs)
append-append [] ys zs = refl
append-append (x ∷ xs) ys zs = ap (λ o. x ∷ o) (append-append xs ys zs)

-- the first coefficient apart
nonzero-first : (t : Slot) (z : ℤ) (cs : List (Slot × ℤ)) → nonzero ((t, z) ∷ cs) ≡ nonzero ((t, z) ∷ []) ++ nonzero cs
nonzero-first t z cs = go (int_eq z (pos 0))
  where
    go : (b : Bool) → cond b (nonzero cs) ((t, z) ∷ nonzero cs) ≡ cond b [] ((t, z) ∷ []) ++ nonzero cs
    go true = refl
    go false = refl

module _ (s : Slot) (k : ℤ) (xs : List (Slot × ℤ)) (m : ℤ) (ys xs' ys' out : List (Slot × ℤ)) (w : Walking s k xs m ys xs' ys' out) (t : Slot) (a b : ℤ) (xs'' ys'' : List (Slot × ℤ)) (h : IsFirst xs' ys' t a b xs'' ys'') where
  -- the first slot of what is left
  facts : AtFirst k m xs' ys' t a b xs'' ys''
  facts = at_first k m xs' ys' t a b xs'' ys'' w.kept_x w.kept_y h

  -- it may be added at the end
  pub walking_rational : t.sort ≡ Rat
  walking_rational = facts.rational

  pub walking_below : AllBelow t.number out
  walking_below = elim facts.from [ inl e ↦ w.below_x t e | inr e ↦ w.below_y t e ]

  -- its coefficients are those of the whole lists
  whole_long : long_at s k xs m ys t ≡ (not (same_slot t s) && sum_is_long k a m b)
  whole_long =
      ap₂ (λ x y. not (same_slot t s) && sum_is_long k x m y) (sym (w.same_x t facts.from) ∙ facts.here_x) (sym (w.same_y t facts.from) ∙ facts.here_y)

  -- a number that is too long there is one of the whole sum
  pub walking_wide : same_slot t s ≡ false → sum_is_long k a m b ≡ true → coefs_are_long s k xs m ys ≡ true
  walking_wide e f =
      ap₂ (λ p q. p || q) (sym w.long_x) (sym w.long_y) ∙ facts.some (long_at s k xs m ys) (whole_long ∙ ap₂ (λ p q. not p && q) e f)

  -- slots that are left are greater
  greater : (u : Slot) → ((has_slot xs'' u ≡ true) ⊎ (has_slot ys'' u ≡ true)) → t.number < u.number
  greater u e = elim e [ inl f ↦ above_number t.number xs'' u facts.above_x f | inr f ↦ above_number t.number ys'' u facts.above_y f ]

  -- and were left before
  before : (u : Slot) → ((has_slot xs'' u ≡ true) ⊎ (has_slot ys'' u ≡ true)) → (has_slot xs' u ≡ true) ⊎ (has_slot ys' u ≡ true)
  before u e = elim e [ inl f ↦ inl (facts.sub_x u f) | inr f ↦ inr (facts.sub_y u f) ]

  -- what is left after it, with what is done then
  next : (out' : List (Slot × ℤ)) → long_at s k xs m ys t ≡ false → ((u : Slot) → ((has_slot xs'' u ≡ true) ⊎ (has_slot ys'' u ≡ true)) → AllBelow u.number out')
      → out' ++ mixed_coefs s k xs'' m ys'' ≡ out ++ mixed_coefs s k xs' m ys' → Walking s k xs m ys xs'' ys'' out'
  next out' e below value = record {
    kept_x = facts.kept_x;
    kept_y = facts.kept_y;
    below_x = λ u f. below u (inl f);
    below_y = λ u f. below u (inr f);
    same_x = λ u f. sym (facts.past_x u (lesser_slot t u (greater u f))) ∙ w.same_x u (before u f);
    same_y = λ u f. sym (facts.past_y u (lesser_slot t u (greater u f))) ∙ w.same_y u (before u f);
    long_x = facts.any_x (long_at s k xs m ys) e ∙ w.long_x;
    long_y = facts.any_y (long_at s k xs m ys) e ∙ w.long_y;
    value = value ∙ w.value;
  }

  -- below the slots that are left
  still_below : (u : Slot) → ((has_slot xs'' u ≡ true) ⊎ (has_slot ys'' u ≡ true)) → AllBelow u.number out
  still_below u e = elim (before u e) [ inl f ↦ w.below_x u f | inr f ↦ w.below_y u f ]

  -- the slot that falls out is passed over
  pub walking_skip : same_slot t s ≡ true → Walking s k xs m ys xs'' ys'' out
  walking_skip e =
      next out (whole_long ∙ ap (λ p. not p && sum_is_long k a m b) e) still_below
      (ap (λ o. out ++ o) (sym (ap (λ cs. nonzero (cut s cs)) facts.sum ∙ ap (λ p. nonzero (cond p (cut s (mixed k xs'' m ys'')) ((t, k *ℤ a +ℤ m *ℤ b) ∷ cut s (mixed k xs'' m ys'')))) e)))

  -- the coefficient of another one is added, unless it is 0
  pub walking_add : same_slot t s ≡ false → sum_is_long k a m b ≡ false → Walking s k xs m ys xs'' ys'' (out ++ nonzero ((t, k *ℤ a +ℤ m *ℤ b) ∷ []))
  walking_add e f =
      let z = k *ℤ a +ℤ m *ℤ b in
      next (out ++ nonzero ((t, z) ∷ [])) (whole_long ∙ ap₂ (λ p q. not p && q) e f)
      (λ u g. AllBelow-append u.number out (nonzero ((t, z) ∷ [])) (still_below u g) (below_alone u.number t z (greater u g)))
      (append-append out (nonzero ((t, z) ∷ [])) (mixed_coefs s k xs'' m ys'')
      ∙ ap (λ o. out ++ o) (sym (ap (λ cs. nonzero (cut s cs)) facts.sum ∙ ap (λ p. nonzero (cond p (cut s (mixed k xs'' m ys'')) ((t, z) ∷ cut s (mixed k xs'' m ys'')))) e ∙ nonzero-first t z (cut s (mixed k xs'' m ys'')))))

-- ---- numbers that are too long

-- short products with a short sum
pub sum_is_short : (k a m b : ℤ) → IsShort (k *ℤ a) → IsShort (m *ℤ b) → IsShort (k *ℤ a +ℤ m *ℤ b) → sum_is_long k a m b ≡ false
sum_is_short k a m b h i j = rw (not_long (k *ℤ a) h, not_long (m *ℤ b) i, not_long (k *ℤ a +ℤ m *ℤ b) j) refl

-- what the code adds at the end
pub push_nonzero : (out : List (Slot × ℤ)) (t : Slot) (y z : ℤ) → y ≡ z → z ≢ pos 0 → out ++ (t, y) ∷ [] ≡ out ++ nonzero ((t, z) ∷ [])
push_nonzero out t y z e n = ap (λ x. out ++ (t, x) ∷ []) e ∙ ap (λ b. out ++ cond b [] ((t, z) ∷ [])) (sym (not_zero z n))

-- what isn't long is short
short_from_test : (z : ℤ) → is_long z ≡ false → IsShort z
short_from_test z e = from_test (unsigned_abs z) (2 ^ 127) e
  where
    from_test : (m n : ℕ) → not (nat_lt m n) ≡ false → m < n
    from_test m n e = grind (arith, nat_tests)

-- where not all three are short, one is long
pub sum_is_long_where : (k a m b : ℤ) → ((IsShort (k *ℤ a) × IsShort (m *ℤ b) × IsShort (k *ℤ a +ℤ m *ℤ b)) → ⊥) → sum_is_long k a m b ≡ true
sum_is_long_where k a m b h = go (is_long (k *ℤ a)) refl (is_long (m *ℤ b)) refl (is_long (k *ℤ a +ℤ m *ℤ b)) refl
  where
    go : (p : Bool) → is_long (k *ℤ a) ≡ p → (q : Bool) → is_long (m *ℤ b) ≡ q → (r : Bool) → is_long (k *ℤ a +ℤ m *ℤ b) ≡ r → (p || q || r) ≡ true
    go true e q f r g = refl
    go false e true f r g = refl
    go false e false f true g = refl
    go false e false f false g = absurd (h (short_from_test (k *ℤ a) e, short_from_test (m *ℤ b) f, short_from_test (k *ℤ a +ℤ m *ℤ b) g))
