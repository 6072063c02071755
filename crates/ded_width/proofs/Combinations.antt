-- A combination of order lines at a slot is an order line, or there is none.
--
-- Of two lines of one slot nothing is left. A line of one slot and one that compares it with another give a multiple of the first at the
-- other slot, which is one line with it. Two lines that compare the slot with others compare these.
use Rattle.std.proofs.Common.{◌≡◌, ◌≢◌, ℕ, ◌<◌, Bool, true, false, cond, not, ◌&&◌, List, [], ◌∷◌, ◌⊎◌, inl, inr, arith, refl, sym, ap, ap₂, ◌∙◌, subst, true≢false}
use Rattle.std.specs.Prelude.{ℤ, pos, negsuc, ◌+ℤ◌, ◌-ℤ◌, ◌*ℤ◌}
use lib.IntN.{neg_ℤ, +ℤ_idl, +ℤ_idr}
use Rattle.std.proofs.lemmas.Int.{ints}
use Rattle.std.proofs.Math.IntN.{*ℤ-zero, *ℤ-negsuc}
use Rattle.ded_num.proofs.Ring.{parts, ring, diff_same}
use Rattle.ded_num.proofs.Signs.{times_one_back}
use Rattle.ded_model.specs.declared.slot.Slot.{Slot}
use Rattle.ded_model.specs.declared.slot.Sort.TheVariants.{Rat}
use Rattle.ded_model.specs.Coefs.{coef_at, mixed, nonzero, cut}
use Rattle.ded_model.specs.Point.{same_slot}
use Rattle.ded_model.specs.Row.{row_mentions}
use Rattle.ded_model.specs.Lines.{Line, line_with, combination, both_mention, lines_clash, combined, elim_at}
use Rattle.ded_model.proofs.CoefLemmas.{lesser_slot, greater_slot, equal_by_number}
use Rattle.ded_model.proofs.LineCoefs.{AllNonzero, nonzero-nonzero, coef_at-mixed, coef_at-cut, coef_at-cut_here, coef_at-nonzero}
use Rattle.ded_model.proofs.Members.{elim-In, or_split}
use Rattle.ded_model.proofs.Points.{same_slot_is, same_slot_refl, and_left, and_right}
use Rattle.ded_row.proofs.Scaling.{product_nonzero}
use Rattle.ded_row.proofs.MixedLines.{minus_one}
use Rattle.ded_elimination.proofs.Bridge.{swapped}
use Rattle.ded_order.proofs.Sums.{above-cut}
use Rattle.ded_resolve.proofs.Ascending.{Ascend, AllRational, ascend-mixed, ascend-nonzero, same_lists}
use Rattle.ded_width.proofs.Shapes.{one_line, two_line, IsPointPair, IsShape, AreShapes, single, pair_moved, line_one, line_two}

-- ---- what is left of a combination

ascend-cut : (s : Slot) (cs : List (Slot × ℤ)) → Ascend cs → Ascend (cut s cs)
ascend-cut s [] h = tt
ascend-cut s (c ∷ cs) h = go (same_slot c.0 s) (ascend-cut s cs h.2)
  where
    go : (b : Bool) → Ascend (cut s cs) → Ascend (cond b (cut s cs) (c ∷ cut s cs))
    go true i = i
    go false i = (h.0, above-cut c.0.number s cs h.1, i)

-- b times the one less a times the other, without the slot
abbrev left_over : Slot → List (Slot × ℤ) → List (Slot × ℤ) → ℤ → ℤ → List (Slot × ℤ)
left_over s xs ys a b = nonzero (cut s (mixed b xs (neg_ℤ a) ys))

left_ascends : (s : Slot) (xs ys : List (Slot × ℤ)) (a b : ℤ) → AllRational xs → AllRational ys → Ascend (left_over s xs ys a b)
left_ascends s xs ys a b h k = ascend-nonzero (cut s (mixed b xs (neg_ℤ a) ys)) (ascend-cut s (mixed b xs (neg_ℤ a) ys) (ascend-mixed b xs (neg_ℤ a) ys h k))

left_coef : (s : Slot) (xs ys : List (Slot × ℤ)) (a b : ℤ) (v : Slot) → coef_at (left_over s xs ys a b) v ≡ cond (same_slot s v) (pos 0) (b *ℤ coef_at xs v +ℤ neg_ℤ a *ℤ coef_at ys v)
left_coef s xs ys a b v = coef_at-nonzero (cut s (mixed b xs (neg_ℤ a) ys)) v ∙ go (same_slot s v) refl
  where
    go : (p : Bool) → same_slot s v ≡ p → coef_at (cut s (mixed b xs (neg_ℤ a) ys)) v ≡ cond p (pos 0) (b *ℤ coef_at xs v +ℤ neg_ℤ a *ℤ coef_at ys v)
    go true e = coef_at-cut_here s (mixed b xs (neg_ℤ a) ys) v e
    go false e = coef_at-cut s (mixed b xs (neg_ℤ a) ys) v e ∙ coef_at-mixed b xs (neg_ℤ a) ys v

-- a list with the coefficients of what is left is what is left
left_is : (s : Slot) (xs ys zs : List (Slot × ℤ)) (a b : ℤ) → AllRational xs → AllRational ys → Ascend zs → AllNonzero zs
    → ((v : Slot) → cond (same_slot s v) (pos 0) (b *ℤ coef_at xs v +ℤ neg_ℤ a *ℤ coef_at ys v) ≡ coef_at zs v) → left_over s xs ys a b ≡ zs
left_is s xs ys zs a b h k r n same =
    same_lists (left_over s xs ys a b) zs (left_ascends s xs ys a b h k) (nonzero-nonzero (cut s (mixed b xs (neg_ℤ a) ys))) r n (λ v. left_coef s xs ys a b v ∙ same v)

-- ---- a line at a slot that it mentions

-- it has that slot alone
pub record IsAlone (ps : List (ℤ × ℤ)) (s : Slot) (l : Line) : Type 0 where
  pub a : ℤ
  pub c : ℤ
  pub pair : IsPointPair ps s a c
  pub rational : AllRational l.coefs
  pub coefs : (v : Slot) → coef_at l.coefs v ≡ cond (same_slot s v) a (pos 0)
  pub constant : l.constant ≡ c

-- it has the opposite coefficient at another one
pub record IsBeside (s : Slot) (l : Line) : Type 0 where
  pub other : Slot
  pub a : ℤ
  pub nonzero : a ≢ pos 0
  pub sort : other.sort ≡ Rat
  pub apart : (v : Slot) → same_slot s v ≡ true → same_slot other v ≡ false
  pub rational : AllRational l.coefs
  pub coefs : (v : Slot) → coef_at l.coefs v ≡ cond (same_slot s v) a (cond (same_slot other v) (neg_ℤ a) (pos 0))
  pub constant : l.constant ≡ pos 0

one_alone : (ps : List (ℤ × ℤ)) (x : Slot) (a c : ℤ) (s : Slot) → x.sort ≡ Rat → IsPointPair ps x a c → row_mentions (one_line x a c) s ≡ true → IsAlone ps s (one_line x a c)
unfolding row_mentions
one_alone ps x a c s r p h = elim (or_split (same_slot x s) false h) [
  | inl e ↦ let same = same_slot_is x s e in record {
    a = a;
    c = c;
    pair = pair_moved ps x s a c p;
    rational = (r, tt);
    coefs = λ v. +ℤ_idr (cond (same_slot x v) a (pos 0)) ∙ ap (λ u. cond (same_slot u v) a (pos 0)) same;
    constant = refl;
  }
  | inr e ↦ absurd (true≢false (sym e))
]

plus_one : pos 1 ≢ pos 0
plus_one e = absurd (omega (arith, ints, e))

-- slots of different numbers
apart_by : (x y : Slot) → same_slot x y ≡ false → (v : Slot) → same_slot x v ≡ true → same_slot y v ≡ false
apart_by x y n v e = go (same_slot y v) refl
  where
    go : (b : Bool) → same_slot y v ≡ b → b ≡ false
    go true f = absurd (true≢false (sym (same_slot_refl x) ∙ ap (same_slot x) (same_slot_is x v e ∙ sym (same_slot_is y v f)) ∙ n))
    go false f = refl

two_beside : (x y s : Slot) → x.sort ≡ Rat → y.sort ≡ Rat → x.number < y.number → row_mentions (two_line x y) s ≡ true → IsBeside s (two_line x y)
unfolding row_mentions
two_beside x y s r q l h = elim (or_split (same_slot x s) _ h) [
  | inl e ↦ subst (λ u. IsBeside u (two_line x y)) (same_slot_is x s e) (record {
    other = y;
    a = pos 1;
    nonzero = plus_one;
    sort = q;
    apart = apart_by x y (lesser_slot x y l);
    rational = (r, (q, tt));
    coefs = λ v. first (same_slot x v) (same_slot y v) (apart_by x y (lesser_slot x y l) v);
    constant = refl;
  })
  | inr e ↦ elim (or_split (same_slot y s) false e) [
    | inl f ↦ subst (λ u. IsBeside u (two_line x y)) (same_slot_is y s f) (record {
      other = x;
      a = negsuc 0;
      nonzero = minus_one;
      sort = r;
      apart = apart_by y x (greater_slot y x l);
      rational = (r, (q, tt));
      coefs = λ v. second (same_slot x v) (same_slot y v) (apart_by y x (greater_slot y x l) v);
      constant = refl;
    })
    | inr f ↦ absurd (true≢false (sym f))
  ]
]
  where
    first : (p q : Bool) → (p ≡ true → q ≡ false) → cond p (pos 1) (pos 0) +ℤ (cond q (negsuc 0) (pos 0) +ℤ pos 0) ≡ cond p (pos 1) (cond q (neg_ℤ (pos 1)) (pos 0))
    first true true h = absurd (true≢false (h refl))
    first true false h = refl
    first false true h = refl
    first false false h = refl

    second : (p q : Bool) → (q ≡ true → p ≡ false) → cond p (pos 1) (pos 0) +ℤ (cond q (negsuc 0) (pos 0) +ℤ pos 0) ≡ cond q (negsuc 0) (cond p (neg_ℤ (negsuc 0)) (pos 0))
    second true true h = absurd (true≢false (h refl))
    second true false h = refl
    second false true h = refl
    second false false h = refl

-- an order line at a slot
seen : (ps : List (ℤ × ℤ)) (l : Line) (s : Slot) → IsShape ps l → row_mentions l s ≡ true → IsAlone ps s l ⊎ IsBeside s l
seen ps l s (inl o) h = inl (subst (IsAlone ps s) (sym o.is) (one_alone ps o.slot o.a o.c s o.rational o.pair (ap (λ m. row_mentions m s) (sym o.is) ∙ h)))
seen ps l s (inr t) h = inr (subst (IsBeside s) (sym t.is) (two_beside t.first t.second s t.rational t.other t.below (ap (λ m. row_mentions m s) (sym t.is) ∙ h)))

-- ---- the coefficients

nothing_plus : (x y : ℤ) → x ≡ pos 0 → y ≡ pos 0 → x +ℤ y ≡ pos 0
nothing_plus x y e f = rw (e, f) refl

-- of two lines of one slot
none_law : (p : Bool) (a b : ℤ) → cond p (pos 0) (b *ℤ cond p a (pos 0) +ℤ neg_ℤ a *ℤ cond p b (pos 0)) ≡ pos 0
none_law true a b = refl
none_law false a b = nothing_plus _ _ (*ℤ-zero b) (*ℤ-zero (neg_ℤ a))

turned_both : (a e : ℤ) → neg_ℤ a *ℤ neg_ℤ e ≡ e *ℤ a
turned_both a e = rw (parts a, parts e) (simp ring (diff_same _ _ _ _ (omega arith)))

turned_right : (f e : ℤ) → f *ℤ neg_ℤ e ≡ neg_ℤ e *ℤ f
turned_right f e = rw (parts f, parts e) (simp ring (diff_same _ _ _ _ (omega arith)))

-- of a line of one slot and one beside
after_law : (p q : Bool) (a e : ℤ) → (p ≡ true → q ≡ false) → cond p (pos 0) (e *ℤ cond p a (pos 0) +ℤ neg_ℤ a *ℤ cond p e (cond q (neg_ℤ e) (pos 0))) ≡ cond q (e *ℤ a) (pos 0) +ℤ pos 0
after_law true true a e h = absurd (true≢false (h refl))
after_law true false a e h = refl
after_law false true a e h = ap (λ x. x +ℤ neg_ℤ a *ℤ neg_ℤ e) (*ℤ-zero e) ∙ +ℤ_idl (neg_ℤ a *ℤ neg_ℤ e) ∙ turned_both a e ∙ sym (+ℤ_idr (e *ℤ a))
after_law false false a e h = nothing_plus _ _ (*ℤ-zero e) (*ℤ-zero (neg_ℤ a))

-- of one beside and a line of one slot
before_law : (p q : Bool) (a e : ℤ) → (p ≡ true → q ≡ false) → cond p (pos 0) (a *ℤ cond p e (cond q (neg_ℤ e) (pos 0)) +ℤ neg_ℤ e *ℤ cond p a (pos 0)) ≡ cond q (neg_ℤ e *ℤ a) (pos 0) +ℤ pos 0
before_law true true a e h = absurd (true≢false (h refl))
before_law true false a e h = refl
before_law false true a e h = ap (λ x. a *ℤ neg_ℤ e +ℤ x) (*ℤ-zero (neg_ℤ e)) ∙ +ℤ_idr (a *ℤ neg_ℤ e) ∙ turned_right a e ∙ sym (+ℤ_idr (neg_ℤ e *ℤ a))
before_law false false a e h = nothing_plus _ _ (*ℤ-zero a) (*ℤ-zero (neg_ℤ e))

-- of two beside
beside_law : (p q r : Bool) (e f : ℤ) → (p ≡ true → q ≡ false) → (p ≡ true → r ≡ false)
    → cond p (pos 0) (f *ℤ cond p e (cond q (neg_ℤ e) (pos 0)) +ℤ neg_ℤ e *ℤ cond p f (cond r (neg_ℤ f) (pos 0))) ≡ cond q (neg_ℤ e *ℤ f) (pos 0) +ℤ cond r (f *ℤ e) (pos 0)
beside_law true true r e f h k = absurd (true≢false (h refl))
beside_law true false true e f h k = absurd (true≢false (k refl))
beside_law true false false e f h k = refl
beside_law false true true e f h k = ap₂ (λ x y. x +ℤ y) (turned_right f e) (turned_both e f)
beside_law false true false e f h k = ap₂ (λ x y. x +ℤ y) (turned_right f e) (*ℤ-zero (neg_ℤ e))
beside_law false false true e f h k = ap₂ (λ x y. x +ℤ y) (*ℤ-zero f) (turned_both e f)
beside_law false false false e f h k = ap₂ (λ x y. x +ℤ y) (*ℤ-zero f) (*ℤ-zero (neg_ℤ e))

-- ---- combinations

module _ (s : Slot) (l m : Line) where
  -- with the coefficients at the slot, and what is left
  made_of : (a b k : ℤ) (zs : List (Slot × ℤ)) → coef_at l.coefs s ≡ a → coef_at m.coefs s ≡ b → left_over s l.coefs m.coefs a b ≡ zs → b *ℤ l.constant -ℤ a *ℤ m.constant ≡ k
      → combination s l m ≡ line_with zs k
  made_of a b k zs e f g h = ap₂ (λ x y. line_with (left_over s l.coefs m.coefs x y) (y *ℤ l.constant -ℤ x *ℤ m.constant)) e f ∙ ap₂ (λ xs z. line_with xs z) g h

  -- the coefficients, where those of the two are known
  left_by : (a b : ℤ) (x y : Slot → ℤ) (zs : List (Slot × ℤ)) → AllRational l.coefs → AllRational m.coefs → ((v : Slot) → coef_at l.coefs v ≡ x v) → ((v : Slot) → coef_at m.coefs v ≡ y v)
      → Ascend zs → AllNonzero zs → ((v : Slot) → cond (same_slot s v) (pos 0) (b *ℤ x v +ℤ neg_ℤ a *ℤ y v) ≡ coef_at zs v) → left_over s l.coefs m.coefs a b ≡ zs
  left_by a b x y zs h k e f r n g =
      left_is s l.coefs m.coefs zs a b h k r n (λ v. ap₂ (λ i j. cond (same_slot s v) (pos 0) (b *ℤ i +ℤ neg_ℤ a *ℤ j)) (e v) (f v) ∙ g v)

at_itself : (s : Slot) (a z : ℤ) → cond (same_slot s s) a z ≡ a
at_itself s a z = ap (λ p. cond p a z) (same_slot_refl s)

less_nothing : (x a : ℤ) → x -ℤ a *ℤ pos 0 ≡ x
less_nothing x a = ap (λ y. x -ℤ y) (*ℤ-zero a) ∙ plain x
  where
    plain : (x : ℤ) → x -ℤ pos 0 ≡ x
    plain x = omega (arith, ints)

nothing_less : (a e c : ℤ) → a *ℤ pos 0 -ℤ e *ℤ c ≡ neg_ℤ e *ℤ c
nothing_less a e c = ap (λ y. y -ℤ e *ℤ c) (*ℤ-zero a) ∙ plain (e *ℤ c) ∙ turned e c
  where
    plain : (x : ℤ) → pos 0 -ℤ x ≡ neg_ℤ x
    plain x = omega (arith, ints)

    turned : (e c : ℤ) → neg_ℤ (e *ℤ c) ≡ neg_ℤ e *ℤ c
    turned e c = rw (parts e, parts c) (simp ring (diff_same _ _ _ _ (omega arith)))

turned_nonzero : (a : ℤ) → a ≢ pos 0 → neg_ℤ a ≢ pos 0
turned_nonzero a n e = n (back a e)
  where
    back : (a : ℤ) → neg_ℤ a ≡ pos 0 → a ≡ pos 0
    back a e = omega (arith, ints)

-- two lines of one slot leave none
alone_alone : (ps : List (ℤ × ℤ)) (s : Slot) (l m : Line) → IsAlone ps s l → IsAlone ps s m → combination s l m ≡ []
alone_alone ps s l m h k =
    made_of s l m h.a k.a (k.a *ℤ l.constant -ℤ h.a *ℤ m.constant) [] (h.coefs s ∙ at_itself s h.a (pos 0)) (k.coefs s ∙ at_itself s k.a (pos 0))
    (left_by s l m h.a k.a (λ v. cond (same_slot s v) h.a (pos 0)) (λ v. cond (same_slot s v) k.a (pos 0)) [] h.rational k.rational h.coefs k.coefs tt tt (λ v. none_law (same_slot s v) h.a k.a)) refl

-- a line of one slot goes to the other slot
alone_beside : (ps : List (ℤ × ℤ)) (s : Slot) (l m : Line) (h : IsAlone ps s l) (k : IsBeside s m) → combination s l m ≡ one_line k.other h.a h.c ∷ []
alone_beside ps s l m h k =
    made_of s l m h.a k.a (k.a *ℤ h.c) ((k.other, k.a *ℤ h.a) ∷ []) (h.coefs s ∙ at_itself s h.a (pos 0)) (k.coefs s ∙ at_itself s k.a (cond (same_slot k.other s) (neg_ℤ k.a) (pos 0)))
    (left_by s l m h.a k.a (λ v. cond (same_slot s v) h.a (pos 0)) (λ v. cond (same_slot s v) k.a (cond (same_slot k.other v) (neg_ℤ k.a) (pos 0))) ((k.other, k.a *ℤ h.a) ∷ []) h.rational k.rational h.coefs k.coefs
    (k.sort, tt, tt) (product_nonzero k.a h.a k.nonzero h.pair.nonzero, tt) (λ v. after_law (same_slot s v) (same_slot k.other v) h.a k.a (k.apart v)))
    (ap₂ (λ x y. k.a *ℤ x -ℤ h.a *ℤ y) h.constant k.constant ∙ less_nothing (k.a *ℤ h.c) h.a)
    ∙ line_one ps s k.other k.a h.a h.c k.nonzero h.pair

beside_alone : (ps : List (ℤ × ℤ)) (s : Slot) (l m : Line) (h : IsBeside s l) (k : IsAlone ps s m) → combination s l m ≡ one_line h.other k.a k.c ∷ []
beside_alone ps s l m h k =
    made_of s l m h.a k.a (neg_ℤ h.a *ℤ k.c) ((h.other, neg_ℤ h.a *ℤ k.a) ∷ []) (h.coefs s ∙ at_itself s h.a (cond (same_slot h.other s) (neg_ℤ h.a) (pos 0))) (k.coefs s ∙ at_itself s k.a (pos 0))
    (left_by s l m h.a k.a (λ v. cond (same_slot s v) h.a (cond (same_slot h.other v) (neg_ℤ h.a) (pos 0))) (λ v. cond (same_slot s v) k.a (pos 0)) ((h.other, neg_ℤ h.a *ℤ k.a) ∷ []) h.rational k.rational h.coefs k.coefs
    (h.sort, tt, tt) (product_nonzero (neg_ℤ h.a) k.a (turned_nonzero h.a h.nonzero) k.pair.nonzero, tt) (λ v. before_law (same_slot s v) (same_slot h.other v) k.a h.a (h.apart v)))
    (ap₂ (λ x y. k.a *ℤ x -ℤ h.a *ℤ y) h.constant k.constant ∙ nothing_less k.a h.a k.c)
    ∙ line_one ps s h.other (neg_ℤ h.a) k.a k.c (turned_nonzero h.a h.nonzero) k.pair

-- ---- two lines beside the slot

times_minus_one : (x : ℤ) → neg_ℤ x ≡ x *ℤ negsuc 0
times_minus_one x = ap neg_ℤ (times_one_back x) ∙ sym (*ℤ-negsuc x 0)

turned_product : (e f : ℤ) → f *ℤ e ≡ neg_ℤ (neg_ℤ e *ℤ f)
turned_product e f = rw (parts e, parts f) (simp ring (diff_same _ _ _ _ (omega arith)))

turned_product_back : (e f : ℤ) → neg_ℤ e *ℤ f ≡ neg_ℤ (f *ℤ e)
turned_product_back e f = rw (parts e, parts f) (simp ring (diff_same _ _ _ _ (omega arith)))

opposite_sum : (e f : ℤ) → neg_ℤ e *ℤ f +ℤ f *ℤ e ≡ pos 0
opposite_sum e f = ap (λ x. x +ℤ f *ℤ e) (turned_product_back e f) ∙ plain (f *ℤ e)
  where
    plain : (x : ℤ) → neg_ℤ x +ℤ x ≡ pos 0
    plain x = omega (arith, ints)

-- the coefficients of two slots
pair_law : (q r : Bool) (x y z w : ℤ) → x ≡ z → y ≡ w → cond q x (pos 0) +ℤ cond r y (pos 0) ≡ cond q z (pos 0) +ℤ (cond r w (pos 0) +ℤ pos 0)
pair_law q r x y z w e f = ap₂ (λ i j. cond q i (pos 0) +ℤ j) e (ap (λ j. cond r j (pos 0)) f ∙ sym (+ℤ_idr (cond r w (pos 0))))

zero_law : (q : Bool) (x y : ℤ) → x +ℤ y ≡ pos 0 → cond q x (pos 0) +ℤ cond q y (pos 0) ≡ pos 0
zero_law true x y e = e
zero_law false x y e = refl

zero_constant : (a b k x y : ℤ) → x ≡ pos 0 → y ≡ pos 0 → b *ℤ x -ℤ a *ℤ y ≡ k *ℤ pos 0
zero_constant a b k x y e f = ap₂ (λ i j. b *ℤ i -ℤ a *ℤ j) e f ∙ less_nothing (b *ℤ pos 0) a ∙ *ℤ-zero b ∙ sym (*ℤ-zero k)

-- of two rational slots one has the lesser number, or they are one
abbrev IsOrderOf : Slot → Slot → Type 0
IsOrderOf t u = (t.number < u.number) ⊎ ((u.number < t.number) ⊎ (t ≡ u))

order_of : (t u : Slot) → t.sort ≡ Rat → u.sort ≡ Rat → IsOrderOf t u
order_of t u h k = elim (below_or t.number u.number) [
  | inl e ↦ inl e
  | inr e ↦ elim e [ inl f ↦ inr (inl f) | inr f ↦ inr (inr (equal_by_number t u h k f)) ]
]
  where
    below_or : (m n : ℕ) → (m < n) ⊎ ((n < m) ⊎ (m ≡ n))
    below_or m n = grind arith

-- the coefficients of a line beside s with the other slot t
abbrev IsAgainst : Slot → Slot → ℤ → Line → Type 0
IsAgainst s t a l = (v : Slot) → coef_at l.coefs v ≡ cond (same_slot s v) a (cond (same_slot t v) (neg_ℤ a) (pos 0))

abbrev AreApart : Slot → Slot → Type 0
AreApart s t = (v : Slot) → same_slot s v ≡ true → same_slot t v ≡ false

module _ (ps : List (ℤ × ℤ)) (s : Slot) (l m : Line) (h : IsBeside s l) (k : IsBeside s m) where
  -- beside one slot they leave none
  beside_one : (t : Slot) → AreApart s t → IsAgainst s t h.a l → IsAgainst s t k.a m → combination s l m ≡ []
  beside_one t at ct cu =
      made_of s l m h.a k.a (k.a *ℤ l.constant -ℤ h.a *ℤ m.constant) [] (ct s ∙ at_itself s h.a (cond (same_slot t s) (neg_ℤ h.a) (pos 0))) (cu s ∙ at_itself s k.a (cond (same_slot t s) (neg_ℤ k.a) (pos 0)))
      (left_by s l m h.a k.a (λ v. cond (same_slot s v) h.a (cond (same_slot t v) (neg_ℤ h.a) (pos 0))) (λ v. cond (same_slot s v) k.a (cond (same_slot t v) (neg_ℤ k.a) (pos 0))) [] h.rational k.rational ct cu tt tt
      (λ v. beside_law (same_slot s v) (same_slot t v) (same_slot t v) h.a k.a (at v) (at v) ∙ zero_law (same_slot t v) (neg_ℤ h.a *ℤ k.a) (k.a *ℤ h.a) (opposite_sum h.a k.a))) refl

  -- beside two they compare these
  beside_two : (t u x y : Slot) (j : ℤ) → j ≢ pos 0 → x.sort ≡ Rat → y.sort ≡ Rat → x.number < y.number → AreApart s t → AreApart s u → IsAgainst s t h.a l → IsAgainst s u k.a m
      → ((v : Slot) → cond (same_slot t v) (neg_ℤ h.a *ℤ k.a) (pos 0) +ℤ cond (same_slot u v) (k.a *ℤ h.a) (pos 0) ≡ cond (same_slot x v) (j *ℤ pos 1) (pos 0) +ℤ (cond (same_slot y v) (j *ℤ negsuc 0) (pos 0) +ℤ pos 0))
      → combination s l m ≡ two_line x y ∷ []
  beside_two t u x y j n rx ry o at au ct cu same =
      made_of s l m h.a k.a (j *ℤ pos 0) ((x, j *ℤ pos 1) ∷ (y, j *ℤ negsuc 0) ∷ []) (ct s ∙ at_itself s h.a (cond (same_slot t s) (neg_ℤ h.a) (pos 0))) (cu s ∙ at_itself s k.a (cond (same_slot u s) (neg_ℤ k.a) (pos 0)))
      (left_by s l m h.a k.a (λ v. cond (same_slot s v) h.a (cond (same_slot t v) (neg_ℤ h.a) (pos 0))) (λ v. cond (same_slot s v) k.a (cond (same_slot u v) (neg_ℤ k.a) (pos 0))) ((x, j *ℤ pos 1) ∷ (y, j *ℤ negsuc 0) ∷ [])
      h.rational k.rational ct cu (rx, (o, tt), (ry, tt, tt)) (λ z. n (times_one_back j ∙ z), ((λ z. turned_nonzero j n (times_minus_one j ∙ z)), tt))
      (λ v. beside_law (same_slot s v) (same_slot t v) (same_slot u v) h.a k.a (at v) (au v) ∙ same v))
      (zero_constant h.a k.a j l.constant m.constant h.constant k.constant)
      ∙ line_two x y j n

  beside_by : (t u : Slot) → IsOrderOf t u → t.sort ≡ Rat → u.sort ≡ Rat → AreApart s t → AreApart s u → IsAgainst s t h.a l → IsAgainst s u k.a m → AreShapes ps (combination s l m)
  beside_by t u (inr (inr e)) rt ru at au ct cu = subst (AreShapes ps) (sym (beside_one t at ct (subst (λ w. IsAgainst s w k.a m) (sym e) cu))) (λ n i. absurd i)
  beside_by t u (inl o) rt ru at au ct cu =
      let j = neg_ℤ h.a *ℤ k.a in
      subst (AreShapes ps)
      (sym (beside_two t u t u j (product_nonzero (neg_ℤ h.a) k.a (turned_nonzero h.a h.nonzero) k.nonzero) rt ru o at au ct cu
      (λ v. pair_law (same_slot t v) (same_slot u v) j (k.a *ℤ h.a) (j *ℤ pos 1) (j *ℤ negsuc 0) (times_one_back j) (turned_product h.a k.a ∙ times_minus_one j))))
      (single ps (two_line t u) (inr (record { first = t; second = u; is = refl; rational = rt; other = ru; below = o })))
  beside_by t u (inr (inl o)) rt ru at au ct cu =
      let j = k.a *ℤ h.a in
      subst (AreShapes ps)
      (sym (beside_two t u u t j (product_nonzero k.a h.a k.nonzero h.nonzero) ru rt o at au ct cu
      (λ v. swapped (cond (same_slot t v) (neg_ℤ h.a *ℤ k.a) (pos 0)) (cond (same_slot u v) j (pos 0))
      ∙ pair_law (same_slot u v) (same_slot t v) j (neg_ℤ h.a *ℤ k.a) (j *ℤ pos 1) (j *ℤ negsuc 0) (times_one_back j) (turned_product_back h.a k.a ∙ times_minus_one j))))
      (single ps (two_line u t) (inr (record { first = u; second = t; is = refl; rational = ru; other = rt; below = o })))

  beside_beside : AreShapes ps (combination s l m)
  beside_beside = beside_by h.other k.other (order_of h.other k.other h.sort k.sort) h.sort k.sort h.apart k.apart h.coefs k.coefs

-- ---- eliminations

pub combination_shapes : (ps : List (ℤ × ℤ)) (s : Slot) (l m : Line) → IsShape ps l → IsShape ps m → row_mentions l s ≡ true → row_mentions m s ≡ true → AreShapes ps (combination s l m)
combination_shapes ps s l m h k i j = go (seen ps l s h i) (seen ps m s k j)
  where
    go : IsAlone ps s l ⊎ IsBeside s l → IsAlone ps s m ⊎ IsBeside s m → AreShapes ps (combination s l m)
    go (inl a) (inl b) = subst (AreShapes ps) (sym (alone_alone ps s l m a b)) (λ n i. absurd i)
    go (inl a) (inr b) = subst (AreShapes ps) (sym (alone_beside ps s l m a b))
        (single ps (one_line b.other a.a a.c) (inl (record { slot = b.other; a = a.a; c = a.c; is = refl; rational = b.sort; pair = pair_moved ps s b.other a.a a.c a.pair })))
    go (inr a) (inl b) = subst (AreShapes ps) (sym (beside_alone ps s l m a b))
        (single ps (one_line a.other b.a b.c) (inl (record { slot = a.other; a = b.a; c = b.c; is = refl; rational = a.sort; pair = pair_moved ps s a.other b.a b.c b.pair })))
    go (inr a) (inr b) = beside_beside ps s l m a b

combined_shapes : (ps : List (ℤ × ℤ)) (s : Slot) (l m : Line) → IsShape ps l → IsShape ps m → AreShapes ps (combined s l m)
combined_shapes ps s l m h k = go (both_mention s l m && not (lines_clash s l m)) refl
  where
    go : (b : Bool) → (both_mention s l m && not (lines_clash s l m)) ≡ b → AreShapes ps (cond b (combination s l m) [])
    go true e =
        let both = and_left (both_mention s l m) _ e in
        combination_shapes ps s l m h k (and_left (row_mentions l s) _ both) (and_right (row_mentions l s) _ both)
    go false e = λ n i. absurd i

-- an elimination among order lines leaves order lines
pub elim_shapes : (ps : List (ℤ × ℤ)) (s : Slot) (ls : List Line) → AreShapes ps ls → AreShapes ps (elim_at s ls)
elim_shapes ps s ls h l i = elim (elim-In s ls l i) [
  | inl k ↦ h l k.0
  | inr p ↦ combined_shapes ps s p.first p.second (h p.first p.in_first) (h p.second p.in_second) l p.combined
]
