-- Eliminating a rational key: a conjunction that holds where some extension at the key satisfies the given one.
--
-- Fourier's elimination with Motzkin's strict inequalities: the lines without the key stay, and each line with a positive
-- coefficient is combined with each of a negative one so that the key cancels, strict where one of the two is. A linear form
-- at an extension is its coefficient times the new value plus its rest times the new denominator, so Core's laws on numbers
-- say that the result is sound and exact. Claims on texts stay, with the empty text at the key.
use Rattle.std.proofs.Common.{◌≡◌, ℕ, ◌*◌, ◌<◌, inl, Bool, true, false, cond, ◌||◌, List, [], ◌∷◌, ◌++◌, map, arith, refl, sym, ap, ◌∙◌, subst, true≢false}
use Rattle.std.specs.Prelude.{ℤ, pos, negsuc, ◌+ℤ◌, ◌*ℤ◌, ◌<ℤ◌, int_lt}
use Rattle.std.specs.Bool.{Decides}
use Rattle.std.specs.List.{All}
use Rattle.std.specs.Ordering.{int_eq}
use lib.IntN.{neg_ℤ}
use Rattle.std.proofs.lemmas.Int.{ints}
use Rattle.std.proofs.lemmas.Bool.Decides.{Decides-int_eq}
use borrow.Author.Differences.{up}
use Rattle.ded_model.specs.declared.row.RowOp.{RowOp}
use Rattle.ded_model.specs.Point.{Key, Point, number, IsNumberExtension, same_key, number_at, text_at, all_times}
use Rattle.ded_num.proofs.Ring.{parts, ring_pos, diff_same}
use Rattle.ded_model.proofs.Points.{number_at-extended, number_at-kept, text_at-number_extended, text_at-number_kept}
use Rattle.ded_model.proofs.Core.{Meets, join, Strictable, Cut, CutHolds, IsUpper, IsLower, mixed, AllMixed, exact, sound, meets_unscale}
use Rattle.ded_model.proofs.Lists.{Every, flat, every_all, all_every, every_if, every_weaker, every-map, every-unmap, every-append, every-left, every-right, every-flat, every-unflat}
use Rattle.ded_model.proofs.Terms.{Linear, keys_at, linear_at, plus, scale, unit, linear-plus, linear-scale, at, quoted, word_at, Line, Conj, op_of, LineHolds, ConjHolds, Put, put_claim, PutsTexts, claims_put, claims_unput}

-- ---- a linear form at an extension: its coefficient, and the rest
abbrev pub coef : Key → List (Key × ℤ) → ℤ
coef k [] = pos 0
coef k (c ∷ cs) = cond (same_key c.0 k) (c.1 +ℤ coef k cs) (coef k cs)

abbrev pub drop_key : Key → List (Key × ℤ) → List (Key × ℤ)
drop_key k [] = []
drop_key k (c ∷ cs) = cond (same_key c.0 k) (drop_key k cs) (c ∷ drop_key k cs)

abbrev pub rest : Key → Linear → Linear
rest k f = record { coefs = drop_key k f.coefs; constant = f.constant }

here_law : (a m x r e y : ℤ) → y ≡ x *ℤ m +ℤ r *ℤ e → a *ℤ m +ℤ y ≡ (a +ℤ x) *ℤ m +ℤ r *ℤ e
here_law a m x r e y h = rw h (rw (parts a, parts m, parts x, parts r, parts e) (simp ring_pos (diff_same _ _ _ _ (omega arith))))

away_law : (a n e x m r y : ℤ) → y ≡ x *ℤ m +ℤ r *ℤ e → a *ℤ (n *ℤ e) +ℤ y ≡ x *ℤ m +ℤ (a *ℤ n +ℤ r) *ℤ e
away_law a n e x m r y h = rw h (rw (parts a, parts n, parts e, parts x, parts m, parts r) (simp ring_pos (diff_same _ _ _ _ (omega arith))))

const_law : (x m r c d e : ℤ) → (x *ℤ m +ℤ r *ℤ e) +ℤ c *ℤ (d *ℤ e) ≡ x *ℤ m +ℤ (r +ℤ c *ℤ d) *ℤ e
const_law x m r c d e = rw (parts x, parts m, parts r, parts c, parts d, parts e) (simp ring_pos (diff_same _ _ _ _ (omega arith)))

module _ (k : Key) (p q : Point) (x : IsNumberExtension p k q) where
  keys-extended : (cs : List (Key × ℤ)) → keys_at cs q ≡ coef k cs *ℤ x.value +ℤ keys_at (drop_key k cs) p *ℤ pos x.factor
  keys-extended [] = omega (arith, ints)
  keys-extended (c ∷ cs) = by (same_key c.0 k) refl (keys-extended cs)
    where
      by : (b : Bool) → same_key c.0 k ≡ b → keys_at cs q ≡ coef k cs *ℤ x.value +ℤ keys_at (drop_key k cs) p *ℤ pos x.factor
          → c.1 *ℤ number_at q c.0 +ℤ keys_at cs q ≡ cond b (c.1 +ℤ coef k cs) (coef k cs) *ℤ x.value +ℤ keys_at (cond b (drop_key k cs) (c ∷ drop_key k cs)) p *ℤ pos x.factor
      by true e h = ap (λ z. c.1 *ℤ z +ℤ keys_at cs q) (number_at-extended p k q x c.0 e) ∙ here_law c.1 x.value (coef k cs) (keys_at (drop_key k cs) p) (pos x.factor) (keys_at cs q) h
      by false e h =
          ap (λ z. c.1 *ℤ z +ℤ keys_at cs q) (number_at-kept p k q x c.0 e)
          ∙ away_law c.1 (number_at p c.0) (pos x.factor) (coef k cs) x.value (keys_at (drop_key k cs) p) (keys_at cs q) h

  pub linear-extended : (f : Linear) → linear_at f q ≡ coef k f.coefs *ℤ x.value +ℤ linear_at (rest k f) p *ℤ pos x.factor
  linear-extended f =
      ap (λ z. z +ℤ f.constant *ℤ pos q.den) (keys-extended f.coefs)
      ∙ ap (λ d. (coef k f.coefs *ℤ x.value +ℤ keys_at (drop_key k f.coefs) p *ℤ pos x.factor) +ℤ f.constant *ℤ pos d) x.den
      ∙ const_law (coef k f.coefs) x.value (keys_at (drop_key k f.coefs) p) f.constant (pos p.den) (pos x.factor)

-- ---- the combinations of two lines
abbrev pub cut : Key → Point → Line → Cut
cut k p l = record { a = coef k l.sum.coefs; r = linear_at (rest k l.sum) p; op = op_of l.strict }

abbrev pub rest_line : Key → Line → Line
rest_line k l = record { strict = l.strict; sum = rest k l.sum }

abbrev pub level : Key → Line → List Line
level k l = cond (int_eq (coef k l.sum.coefs) (pos 0)) (rest_line k l ∷ []) []

abbrev pub mixed_line : Key → Line → Line → Line
mixed_line k u l = record {
  strict = u.strict || l.strict;
  sum = plus (scale (neg_ℤ (coef k l.sum.coefs)) (rest k u.sum)) (scale (coef k u.sum.coefs) (rest k l.sum));
}

abbrev pub mix : Key → Line → Line → List Line
mix k u l = cond (int_lt (pos 0) (coef k u.sum.coefs)) (cond (int_lt (pos 0) (neg_ℤ (coef k l.sum.coefs))) (mixed_line k u l ∷ []) []) []

-- an extension at a rational key has no text at the key
abbrev pub silent : Key → Key → Put
silent k j = record { number = unit j; word = cond (same_key j k) (quoted []) (at j) }

abbrev pub without_number : Key → Conj → Conj
without_number k c = record {
  lines = flat (level k) c.lines ++ flat (λ u. flat (mix k u) c.lines) c.lines;
  claims = map (put_claim (silent k)) c.claims;
}

chosen : (b : Bool) (A : Type 0) → Decides b A → (ls : List Line) (p : Point) → (A → Every (LineHolds p) ls) → Every (LineHolds p) (cond b ls [])
chosen true A d ls p f = f (d.0 refl)
chosen false A d ls p f = tt

unchosen : (b : Bool) (A : Type 0) → Decides b A → (ls : List Line) (p : Point) → Every (LineHolds p) (cond b ls []) → A → Every (LineHolds p) ls
unchosen true A d ls p h a = h
unchosen false A d ls p h a = absurd (true≢false (sym (d.1 a)))

positive_test : (c : ℤ) → Decides (int_lt (pos 0) c) (pos 0 <ℤ c)
positive_test c = (λ e. grind (arith, ints), λ h. grind (arith, ints))

op_join : (a b : Bool) → join (op_of a) (op_of b) ≡ op_of (a || b)
op_join true b = refl
op_join false true = refl
op_join false false = refl

may_be_strict : (b : Bool) → Strictable (op_of b)
may_be_strict true = tt
may_be_strict false = tt

module _ (k : Key) (p : Point) where
  level_to : (l : Line) → (coef k l.sum.coefs ≡ pos 0 → LineHolds p (rest_line k l)) → Every (LineHolds p) (level k l)
  level_to l f = chosen (int_eq (coef k l.sum.coefs) (pos 0)) (coef k l.sum.coefs ≡ pos 0) (Decides-int_eq (coef k l.sum.coefs) (pos 0)) (rest_line k l ∷ []) p (λ z. (f z, tt))

  level_from : (l : Line) → Every (LineHolds p) (level k l) → coef k l.sum.coefs ≡ pos 0 → LineHolds p (rest_line k l)
  level_from l h z = (unchosen (int_eq (coef k l.sum.coefs) (pos 0)) (coef k l.sum.coefs ≡ pos 0) (Decides-int_eq (coef k l.sum.coefs) (pos 0)) (rest_line k l ∷ []) p h z).0

  mixed-is : (u l : Line) → linear_at (mixed_line k u l).sum p ≡ mixed (cut k p u) (cut k p l)
  mixed-is u l =
      let a = coef k u.sum.coefs in
      let b = neg_ℤ (coef k l.sum.coefs) in
      linear-plus (scale b (rest k u.sum)) (scale a (rest k l.sum)) p
      ∙ rw (linear-scale b (rest k u.sum) p, linear-scale a (rest k l.sum) p)

  mixed_to : (u l : Line) → Meets (join (op_of u.strict) (op_of l.strict)) (mixed (cut k p u) (cut k p l)) → LineHolds p (mixed_line k u l)
  mixed_to u l h =
      subst (λ o. Meets o (linear_at (mixed_line k u l).sum p)) (op_join u.strict l.strict)
      (subst (Meets (join (op_of u.strict) (op_of l.strict))) (sym (mixed-is u l)) h)

  mixed_from : (u l : Line) → LineHolds p (mixed_line k u l) → Meets (join (op_of u.strict) (op_of l.strict)) (mixed (cut k p u) (cut k p l))
  mixed_from u l h =
      subst (Meets (join (op_of u.strict) (op_of l.strict))) (mixed-is u l)
      (subst (λ o. Meets o (linear_at (mixed_line k u l).sum p)) (sym (op_join u.strict l.strict)) h)

  abbrev PairMeets : Line → Line → Type 0
  PairMeets u l = IsUpper (cut k p u) → IsLower (cut k p l) → Meets (join (op_of u.strict) (op_of l.strict)) (mixed (cut k p u) (cut k p l))

  mix_to : (u l : Line) → PairMeets u l → Every (LineHolds p) (mix k u l)
  mix_to u l f =
      let low = cond (int_lt (pos 0) (neg_ℤ (coef k l.sum.coefs))) (mixed_line k u l ∷ []) [] in
      chosen (int_lt (pos 0) (coef k u.sum.coefs)) (IsUpper (cut k p u)) (positive_test (coef k u.sum.coefs)) low p
      (λ up. chosen (int_lt (pos 0) (neg_ℤ (coef k l.sum.coefs))) (IsLower (cut k p l)) (positive_test (neg_ℤ (coef k l.sum.coefs))) (mixed_line k u l ∷ []) p (λ lo. (mixed_to u l (f up lo), tt)))

  mix_from : (u l : Line) → Every (LineHolds p) (mix k u l) → PairMeets u l
  mix_from u l h up lo =
      let low = cond (int_lt (pos 0) (neg_ℤ (coef k l.sum.coefs))) (mixed_line k u l ∷ []) [] in
      mixed_from u l
      (unchosen (int_lt (pos 0) (neg_ℤ (coef k l.sum.coefs))) (IsLower (cut k p l)) (positive_test (neg_ℤ (coef k l.sum.coefs))) (mixed_line k u l ∷ []) p
      (unchosen (int_lt (pos 0) (coef k u.sum.coefs)) (IsUpper (cut k p u)) (positive_test (coef k u.sum.coefs)) low p h up) lo).0

-- ---- texts
silent-texts : (k : Key) (p q : Point) → IsNumberExtension p k q → PutsTexts (silent k) p q
silent-texts k p q x = record { text = λ j. by j (same_key j k) refl }
  where
    by : (j : Key) (b : Bool) → same_key j k ≡ b → text_at q j ≡ word_at (cond b (quoted []) (at j)) p
    by j true e = text_at-number_extended p k q x j e
    by j false e = text_at-number_kept p k q x j e

-- ---- sound: what some extension satisfies
pub at_level : (op : RowOp) (a m r e : ℤ) → pos 0 <ℤ e → a ≡ pos 0 → Meets op (a *ℤ m +ℤ r *ℤ e) → Meets op r
at_level op a m r e pe z h = meets_unscale op e r pe (subst (Meets op) (flat_law a m r e z) h)
  where
    flat_law : (a m r e : ℤ) → a ≡ pos 0 → a *ℤ m +ℤ r *ℤ e ≡ e *ℤ r
    flat_law a m r e z = rw z (rw (parts m, parts r, parts e) (simp ring_pos (diff_same _ _ _ _ (omega arith))))

pub cancel_pair : (a b : ℤ) → neg_ℤ b *ℤ a +ℤ a *ℤ b ≡ pos 0
cancel_pair a b = rw (parts a, parts b) (simp ring_pos (diff_same _ _ _ _ (omega arith)))

module _ (k : Key) (p q : Point) (x : IsNumberExtension p k q) where
  cut_from : (l : Line) → LineHolds q l → CutHolds x.value (pos x.factor) (cut k p l)
  cut_from l h = subst (Meets (op_of l.strict)) (linear-extended k p q x l.sum) h

  cut_to : (l : Line) → CutHolds x.value (pos x.factor) (cut k p l) → LineHolds q l
  cut_to l h = subst (Meets (op_of l.strict)) (sym (linear-extended k p q x l.sum)) h

  above : pos 0 <ℤ pos x.factor
  above = let h = x.positive in omega (arith, ints)

  level_sound : (l : Line) → LineHolds q l → Every (LineHolds p) (level k l)
  level_sound l h = level_to k p l (λ z. at_level (op_of l.strict) (coef k l.sum.coefs) x.value (linear_at (rest k l.sum) p) (pos x.factor) above z (cut_from l h))

  mix_sound : (u l : Line) → LineHolds q u → LineHolds q l → Every (LineHolds p) (mix k u l)
  mix_sound u l h i = mix_to k p u l (λ up lo.
      sound (cut k p u) (cut k p l) (neg_ℤ (coef k l.sum.coefs)) (coef k u.sum.coefs) x.value (pos x.factor) above (inl lo) (inl up)
      (cancel_pair (coef k u.sum.coefs) (coef k l.sum.coefs)) (cut_from u h) (cut_from l i))

  lines_sound : (ls : List Line) → Every (LineHolds q) ls → Every (LineHolds p) (flat (level k) ls ++ flat (λ u. flat (mix k u) ls) ls)
  lines_sound ls h =
      every-append (LineHolds p) (flat (level k) ls) (flat (λ u. flat (mix k u) ls) ls)
      (every-flat (level k) (LineHolds p) ls (every_weaker (LineHolds q) (λ l. Every (LineHolds p) (level k l)) ls level_sound h))
      (every-flat (λ u. flat (mix k u) ls) (LineHolds p) ls
      (every_weaker (LineHolds q) (λ u. Every (LineHolds p) (flat (mix k u) ls)) ls
      (λ u i. every-flat (mix k u) (LineHolds p) ls (every_weaker (LineHolds q) (λ l. Every (LineHolds p) (mix k u l)) ls (λ l j. mix_sound u l i j) h)) h))

  pub number_sound : (c : Conj) → ConjHolds q c → ConjHolds p (without_number k c)
  number_sound c h = record {
    lines = lines_sound c.lines h.lines;
    claims = claims_unput (silent k) p q (silent-texts k p q x) c.claims h.claims;
  }

-- ---- exact: some extension satisfies it
abbrev pub extended : Key → ℕ → ℤ → Point → Point
extended k e m p = record { den = p.den * e; coords = all_times e p.coords ++ (k, number m) ∷ [] }

abbrev pub extended_is : (k : Key) (e : ℕ) (m : ℤ) (p : Point) → 0 < e → IsNumberExtension p k (extended k e m p)
extended_is k e m p h = record { factor = e; positive = h; value = m; den = refl; coords = refl }

pub positive_is : (z : ℤ) → pos 0 <ℤ z → (0 < up z) × (z ≡ pos (up z))
positive_is (pos n) h = (omega (arith, ints), refl)
positive_is (negsuc n) h = absurd (omega (arith, ints))

module _ (k : Key) (p : Point) (ls : List Line) (h : Every (LineHolds p) (flat (level k) ls ++ flat (λ u. flat (mix k u) ls) ls)) where
  levels : Every (λ l. Every (LineHolds p) (level k l)) ls
  levels = every-unflat (level k) (LineHolds p) ls (every-left (LineHolds p) (flat (level k) ls) (flat (λ u. flat (mix k u) ls) ls) h)

  pairs : Every (λ u. Every (LineHolds p) (flat (mix k u) ls)) ls
  pairs = every-unflat (λ u. flat (mix k u) ls) (LineHolds p) ls (every-right (LineHolds p) (flat (level k) ls) (flat (λ u. flat (mix k u) ls) ls) h)

  abbrev cuts : List Cut
  cuts = map (cut k p) ls

  all_mixed : AllMixed cuts
  all_mixed = record {
    level = every_all (λ c. c.a ≡ pos 0 → Meets c.op c.r) cuts
        (every-map (cut k p) (λ c. c.a ≡ pos 0 → Meets c.op c.r) ls
        (every_weaker (λ l. Every (LineHolds p) (level k l)) (λ l. coef k l.sum.coefs ≡ pos 0 → LineHolds p (rest_line k l)) ls (level_from k p) levels));
    strictable = every_all (λ c. ¬ (c.a ≡ pos 0) → Strictable c.op) cuts
        (every-map (cut k p) (λ c. ¬ (c.a ≡ pos 0) → Strictable c.op) ls (every_if (λ l. ¬ (coef k l.sum.coefs ≡ pos 0) → Strictable (op_of l.strict)) ls (λ l _. may_be_strict l.strict)));
    pairs = every_all (λ u. IsUpper u → All (λ l. IsLower l → Meets (join u.op l.op) (mixed u l)) cuts) cuts
        (every-map (cut k p) (λ u. IsUpper u → All (λ l. IsLower l → Meets (join u.op l.op) (mixed u l)) cuts) ls
        (every_weaker (λ u. Every (LineHolds p) (flat (mix k u) ls)) (λ u. IsUpper (cut k p u) → All (λ l. IsLower l → Meets (join (op_of u.strict) l.op) (mixed (cut k p u) l)) cuts) ls
        (λ u i up. every_all (λ l. IsLower l → Meets (join (op_of u.strict) l.op) (mixed (cut k p u) l)) cuts
        (every-map (cut k p) (λ l. IsLower l → Meets (join (op_of u.strict) l.op) (mixed (cut k p u) l)) ls
        (every_weaker (λ l. Every (LineHolds p) (mix k u l)) (λ l. IsLower (cut k p l) → Meets (join (op_of u.strict) (op_of l.strict)) (mixed (cut k p u) (cut k p l))) ls
        (λ l j lo. mix_from k p u l j up lo) (every-unflat (mix k u) (LineHolds p) ls i)))) pairs));
  }

  lines_exact : (q : Point) × (IsNumberExtension p k q) × Every (LineHolds q) ls
  lines_exact =
      let v = exact cuts all_mixed in
      let e = positive_is v.den v.positive in
      let q = extended k (up v.den) v.num p in
      let x : IsNumberExtension p k q = extended_is k (up v.den) v.num p e.0 in (
        q,
        x,
        every_weaker (λ l. CutHolds v.num v.den (cut k p l)) (LineHolds q) ls
            (λ l i. cut_to k p q x l (subst (λ z. CutHolds v.num z (cut k p l)) e.1 i))
            (every-unmap (cut k p) (CutHolds v.num v.den) ls (all_every (CutHolds v.num v.den) cuts v.all)),
      )

pub number_exact : (k : Key) (p : Point) (c : Conj) → ConjHolds p (without_number k c) → (q : Point) × (IsNumberExtension p k q) × ConjHolds q c
number_exact k p c h =
    let w = lines_exact k p c.lines h.lines in
    (w.0, w.1, record { lines = w.2; claims = claims_put (silent k) p w.0 (silent-texts k p w.0 w.1) c.claims h.claims })
