-- How long the numbers of tagged rows are, and of what is left of them.
use Rattle.std.proofs.Common.{◌≡◌, ℕ, suc, ◌+◌, ◌*◌, ◌^◌, ◌<◌, ◌≤◌, Bool, true, false, cond, ◌||◌, List, [], ◌∷◌, map, length, inl, inr, ◌⊎◌, ⊎_elim, arith, refl, sym, ap, ◌∙◌, subst, true≢false}
use Rattle.std.proofs.lemmas.Bool.{false_from_ne_true}
use Rattle.std.specs.Prelude.{ℤ, pos, negsuc, ◌*ℤ◌, ◌≤ℤ◌, unsigned_abs}
use lib.IntN.{neg_ℤ}
use Rattle.std.specs.List.{AllByRecursion}
use Rattle.std.proofs.lemmas.Int.{ints}
use Rattle.std.proofs.lemmas.Nat.{mul-le}
use Rattle.std.proofs.Math.Pow.{pow_mono, pow-add}
use Rattle.ded_num.specs.Gcd.{gcd_all}
use Rattle.ded_num.specs.Length.{IsWithin}
use Rattle.ded_num.proofs.Signs.{same_size}
use Rattle.ded_model.specs.declared.slot.Slot.{Slot}
use Rattle.ded_model.specs.declared.slot.Sort.TheVariants.{Rat}
use Rattle.ded_model.specs.declared.row.RowOp.{RowOp}
use Rattle.ded_model.specs.declared.row.RowOp.TheVariants.{Zero, AtMost, Below}
use Rattle.ded_model.specs.Constraint.{LinearConstraint}
use Rattle.ded_model.specs.Point.{same_slot, stands_in, AreDistinctSlots}
use Rattle.ded_model.specs.Coefs.{AllBelow, coef_at}
use Rattle.ded_model.specs.Normal.{divisor_of, normal_row}
use Rattle.ded_model.specs.Row.{row_mentions}
use Rattle.ded_model.specs.Lines.{In, IsLineWithin, AreWithin, row_lines}
use Rattle.ded_model.proofs.Divisors.{abs_divisor}
use Rattle.ded_model.proofs.LineLengths.{zero_within, line_with-within}
use Rattle.ded_model.proofs.Members.{In-left, In-right, or_split}
use Rattle.ded_model.proofs.Points.{same_slot_is, same_slot_refl}
use Rattle.ded_model.proofs.Rows.{or_left, or_right}
use Rattle.ded_row.proofs.Forms.{begins}
use Rattle.ded_row.proofs.Pieces.{normal_gcd, whole_minus}
use Rattle.ded_row.proofs.Scaling.{BeginsNonzero}
use Rattle.ded_theory.specs.Conjunctions.{conj_mentions, conj_lines, HasRationals}
use Rattle.ded_elimination.specs.LinearAtoms.{IsLinearAtom}
use Rattle.ded_linear.proofs.Steps.{mentioned_rational}
use Rattle.ded_weighing.specs.Gathered.{AreOf}
use Rattle.ded_cert.specs.Tracing.{tag, slack_of, tagged_coefs, turned_coefs, traces, AreBelow, AreWideRows}
use Rattle.ded_cert.specs.Projecting.{digits_after, IsProjected, GetLong}
use Rattle.ded_cert.proofs.Combined.{line_of, coef_over}
use Rattle.ded_cert.proofs.Projections.{digits_law}
use Rattle.ded_cert.proofs.Tagged.{tagged_at_tag, tagged_at_total, tagged_at_slack, tagged_at_other}
use Rattle.ded_cert.proofs.Lows.{turned_below, turned_size}
use Rattle.ded_cert.proofs.Nears.{none_constant}
use Rattle.ded_cert.proofs.Identities.{EachTrace, trace_lines, in_lines}

-- ---- rows and their lines

-- the numbers of a normal row are those of its line, up to sign
pub row_within : (k : ℕ) (r : LinearConstraint) → IsLinearAtom r → AreWithin k (row_lines r) → IsLineWithin k r
row_within k r n w = go r.coefs r.op r.constant (begins r.coefs n.coefs) n.row.normal w
  where
    go : (cs : List (Slot × ℤ)) (op : RowOp) (m : ℤ) → BeginsNonzero cs → normal_row (record { coefs = cs; constant = m; op = op }) ≡ record { coefs = cs; constant = m; op = op }
        → AreWithin k (row_lines (record { coefs = cs; constant = m; op = op })) → IsLineWithin k (record { coefs = cs; constant = m; op = op })
    go [] op m o e w = record { coefs = λ t. zero_within k; constant = subst (IsWithin k) (none_constant op m e) (zero_within k) }
    go (c ∷ cs) op m o e w =
        let l = normal_row (record { coefs = c ∷ cs; constant = m; op = Zero }) in
        let d = divisor_of Zero m (c ∷ cs) in
        let one : unsigned_abs d ≡ 1 = abs_divisor Zero c.1 (gcd_all (m ∷ map (λ d. d.1) (c ∷ cs))) ∙ normal_gcd op m c cs o e in
        let of = line_of (c ∷ cs) m l o (inl refl) in
        let short = w l (inl refl) in
        record {
          coefs = λ t. subst (λ n. n < 2 ^ k) (same_size d (coef_at l.coefs t) (coef_at (c ∷ cs) t) one (of.coefs t)) (short.coefs t);
          constant = subst (λ n. n < 2 ^ k) (same_size d l.constant m one of.constant) short.constant;
        }

-- ---- tagged rows

one_within : (k : ℕ) → 1 ≤ k → IsWithin k (pos 1)
one_within k h = let p : 2 ^ 1 ≤ 2 ^ k = pow_mono h in omega (arith, p)

slack_within : (op : RowOp) (k : ℕ) → 1 ≤ k → IsWithin k (slack_of op)
slack_within Zero k h = zero_within k
slack_within AtMost k h = zero_within k
slack_within Below k h = one_within k h

module _ (b k : ℕ) (some : 1 ≤ k) where
  tagged_within : (w : ℤ) (n : ℕ) (cs : List (Slot × ℤ)) → AllBelow b cs → b + 1 < n → IsWithin k w → ((t : Slot) → IsWithin k (coef_at cs t)) → (t : Slot) → IsWithin k (coef_at (tagged_coefs b w n cs) t)
  tagged_within w n cs a h v f t = go (same_slot (tag n) t) refl (same_slot (tag (b + 1)) t) refl (same_slot (tag b) t) refl
    where
      go : (x : Bool) → same_slot (tag n) t ≡ x → (y : Bool) → same_slot (tag (b + 1)) t ≡ y → (z : Bool) → same_slot (tag b) t ≡ z → IsWithin k (coef_at (tagged_coefs b w n cs) t)
      go true i y j z l = subst (λ u. IsWithin k (coef_at (tagged_coefs b w n cs) u)) (same_slot_is (tag n) t i) (subst (IsWithin k) (sym (tagged_at_tag b w n cs a h)) (one_within k some))
      go false i true j z l = subst (λ u. IsWithin k (coef_at (tagged_coefs b w n cs) u)) (same_slot_is (tag (b + 1)) t j) (subst (IsWithin k) (sym (tagged_at_slack b w n cs a h)) v)
      go false i false j true l = subst (λ u. IsWithin k (coef_at (tagged_coefs b w n cs) u)) (same_slot_is (tag b) t l) (subst (IsWithin k) (sym (tagged_at_total b w n cs a h)) (one_within k some))
      go false i false j false l = subst (IsWithin k) (sym (tagged_at_other b w n cs a h t i j l)) (f t)

  turned_within : (cs : List (Slot × ℤ)) (t : Slot) → IsWithin k (coef_at cs t) → IsWithin k (coef_at (turned_coefs cs) t)
  turned_within cs t h = subst (IsWithin k) (sym (back (coef_at (turned_coefs cs) t) (coef_at cs t) (coef_over (negsuc 0) cs t (whole_minus cs)))) (turned_size (coef_at cs t) (2 ^ k) h)
    where
      back : (x y : ℤ) → negsuc 0 *ℤ x ≡ y → x ≡ neg_ℤ y
      back x y e = omega (arith, ints, e)

  abbrev NumbersWithin : LinearConstraint → Type 0
  NumbersWithin y = ((t : Slot) → IsWithin k (coef_at y.coefs t)) × IsWithin k y.constant

  each_within : (n : ℕ) (rs : List LinearConstraint) → AreBelow b rs → b + 1 < n → AllByRecursion IsLinearAtom rs → AreWithin k (conj_lines row_lines rs) → EachTrace NumbersWithin b n rs
  unfolding EachTrace
  each_within n [] a h i w = tt
  each_within n (r ∷ rs) a h i w =
      let of = row_within k r i.0 (λ l j. w l (In-left l (row_lines r) (conj_lines row_lines rs) j)) in (
        (tagged_within (slack_of r.op) n r.coefs a.0 h (slack_within r.op k some) of.coefs, of.constant),
        λ e. (tagged_within (pos 0) (n + 1) (turned_coefs r.coefs) (turned_below b r.coefs a.0) (omega (arith, h)) (zero_within k) (λ t. turned_within r.coefs t (of.coefs t)), turned_size r.constant (2 ^ k) of.constant),
        each_within (n + 2) rs a.1 (omega (arith, h)) i.1 (λ l j. w l (In-right l (row_lines r) (conj_lines row_lines rs) j)),
      )

  -- tagged rows are no longer than the rows
  pub traces_within : (n : ℕ) (rs : List LinearConstraint) → AreBelow b rs → b + 1 < n → AllByRecursion IsLinearAtom rs → AreWithin k (conj_lines row_lines rs) → AreWithin k (conj_lines row_lines (traces b n rs))
  traces_within n rs a h i w = trace_lines NumbersWithin (IsLineWithin k) (λ y o p. line_with-within y.coefs y.constant k p.0 p.1) b n rs (each_within n rs a h i w)

-- ---- lists of distinct slots

without : Slot → List Slot → List Slot
without t [] = []
without t (s ∷ ss) = cond (same_slot s t) (without t ss) (s ∷ without t ss)

without_length : (t : Slot) (ss : List Slot) → length (without t ss) ≤ length ss
unfolding without
without_length t [] = omega arith
without_length t (s ∷ ss) = by (same_slot s t) (without_length t ss)
  where
    by : (b : Bool) → length (without t ss) ≤ length ss → length (cond b (without t ss) (s ∷ without t ss)) ≤ suc (length ss)
    by true h = omega arith
    by false h = omega arith

without_shorter : (t : Slot) (ss : List Slot) → stands_in ss t ≡ true → length (without t ss) < length ss
unfolding without
without_shorter t [] h = absurd (true≢false (sym h))
without_shorter t (s ∷ ss) h = by (same_slot s t) h (without_length t ss) (without_shorter t ss)
  where
    by : (b : Bool) → (b || stands_in ss t) ≡ true → length (without t ss) ≤ length ss → (stands_in ss t ≡ true → length (without t ss) < length ss) → length (cond b (without t ss) (s ∷ without t ss)) < suc (length ss)
    by true h k ih = omega arith
    by false h k ih = let i = ih h in omega arith

without_stands : (t u : Slot) (ss : List Slot) → same_slot u t ≡ false → stands_in ss u ≡ true → stands_in (without t ss) u ≡ true
unfolding without
without_stands t u [] n h = absurd (true≢false (sym h))
without_stands t u (s ∷ ss) n h = by (same_slot s t) refl (or_split (same_slot s u) _ h) (without_stands t u ss n)
  where
    by : (b : Bool) → same_slot s t ≡ b → (same_slot s u ≡ true) ⊎ (stands_in ss u ≡ true) → (stands_in ss u ≡ true → stands_in (without t ss) u ≡ true) → stands_in (cond b (without t ss) (s ∷ without t ss)) u ≡ true
    by true e (inl x) ih = absurd (true≢false (sym e ∙ ap (λ v. same_slot v t) (same_slot_is s u x) ∙ n))
    by true e (inr x) ih = ih x
    by false e (inl x) ih = or_left _ _ x
    by false e (inr x) ih = or_right (same_slot s u) _ (ih x)

-- distinct slots that stand in a list are no more than it has
pub no_more : (ds ss : List Slot) → AreDistinctSlots ds → ((s : Slot) → stands_in ds s ≡ true → stands_in ss s ≡ true) → length ds ≤ length ss
no_more [] ss d h = omega arith
no_more (t ∷ ds) ss d h =
    let shorter = without_shorter t ss (h t (or_left (same_slot t t) _ (same_slot_refl t))) in
    let rest = no_more ds (without t ss) d.1 (λ s k. without_stands t s ss (false_from_ne_true (same_slot s t) (λ e. true≢false (sym (subst (λ u. stands_in ds u ≡ true) (same_slot_is s t e) k) ∙ d.0)))
    (h s (or_right (same_slot t s) _ k))) in
    omega (arith, shorter, rest)

-- ---- wide rows

wide_by : (b j m : ℕ) → 63 < digits_after b j → j ≤ m → 128 < (b + 1) * 2 ^ (m + 1)
wide_by b j m h l =
    let i = digits_law b j in
    let p : 2 ^ (j + 1) ≤ 2 ^ (m + 1) = pow_mono (omega (arith, l)) in
    let q : 2 ^ (j + 1) ≡ 2 ^ j * 2 ^ 1 = pow-add 2 j 1 in
    omega (arith, h, i, mul-le (b + 1) (2 ^ (j + 1)) (b + 1) (2 ^ (m + 1)) (omega arith) p, ap (λ z. (b + 1) * z) q)

module _ (b n : ℕ) (rs : List LinearConstraint) (done : List Slot) (below : AreBelow b rs) (h : b + 1 < n) (linear : AllByRecursion IsLinearAtom rs) (distinct : AreDistinctSlots done)
    (rational : AllByRecursion (λ s. s.sort ≡ Rat) done) (only : AreOf rs done) where
  sort_of : (ss : List Slot) (s : Slot) → AllByRecursion (λ s. s.sort ≡ Rat) ss → stands_in ss s ≡ true → s.sort ≡ Rat
  sort_of [] s a k = absurd (true≢false (sym k))
  sort_of (t ∷ ss) s a k = ⊎_elim (λ (e : same_slot t s ≡ true). subst (λ (u : Slot). u.sort ≡ Rat) (same_slot_is t s e) a.0) (λ e. sort_of ss s a.1 e) (or_split (same_slot t s) _ k)

  fewer : (ss : List Slot) → HasRationals (conj_mentions row_mentions rs) ss → length done ≤ length ss
  fewer ss has = no_more done ss distinct (λ s k. has s (only s k) (sort_of done s rational k))

  power : (n : ℕ) → 7 ≤ n → 128 ≤ 2 ^ n
  power n h = pow_mono {i = 7} h

  -- where there are six slots and more
  pub many_wide : 5 < length done → AreWideRows rs
  many_wide g = record {
    above = λ k some w ss has.
        let f = fewer ss has in
        let p = power (length ss + 1) (omega (arith, f, g)) in
        omega (arith, some, p, mul-le 2 128 (k + 1) (2 ^ (length ss + 1)) (omega (arith, some)) p);
  }

  -- where an elimination is refused
  pub long_wide : GetLong (traces b n rs) (length done) → AreWideRows rs
  long_wide g = record {
    above = λ k some w ss has.
        let l = g.long k (traces_within b k some n rs below h linear w) in
        let f = fewer ss has in
        let s = g.fewer in
        wide_by k g.steps (length ss) l (omega (arith, f, s));
  }

  below_or : (k m : ℕ) → (k < m) ⊎ (m ≤ k)
  below_or k m = grind arith

  far : (x : ℤ) (k : ℕ) → pos (2 ^ 63) ≤ℤ x → k ≤ 63 → unsigned_abs x < 2 ^ k → ⊥
  far x k l e s = let p : 2 ^ k ≤ 2 ^ 63 = pow_mono e in past x (2 ^ 63) (2 ^ k) l p s
    where
      past : (x : ℤ) (m k : ℕ) → pos m ≤ℤ x → k ≤ m → unsigned_abs x < k → ⊥
      past x m k l p s = absurd (omega (arith, ints, l, p, s))

  -- where the total of what is left is long
  pub total_wide : (left : List LinearConstraint) (e : LinearConstraint) (t : Slot) → IsProjected (traces b n rs) done left → In e left → IsLinearAtom e → pos (2 ^ 63) ≤ℤ coef_at e.coefs t → AreWideRows rs
  total_wide left e t j i a l = record {
    above = λ k some w ss has.
        let d = digits_after k (length done) in
        let short = row_within d e a (λ m o. j.within k (traces_within b k some n rs below h linear w) m (in_lines left e m i o)) in
        wide_by k (length done) (length ss)
        (⊎_elim (λ (g : 63 < d). g) (λ g. absurd (far (coef_at e.coefs t) d l g (short.coefs t))) (below_or 63 d)) (fewer ss has);
  }

-- the slots of rows are rational
pub all_rational : (rs : List LinearConstraint) (ss : List Slot) → AllByRecursion IsLinearAtom rs → AreOf rs ss → AllByRecursion (λ s. s.sort ≡ Rat) ss
all_rational rs ss h of = each ss (λ s k. mentioned_rational rs s h (of s k))
  where
    each : (xs : List Slot) → ((s : Slot) → stands_in xs s ≡ true → s.sort ≡ Rat) → AllByRecursion (λ s. s.sort ≡ Rat) xs
    each [] f = tt
    each (x ∷ xs) f = (f x (or_left (same_slot x x) (stands_in xs x) (same_slot_refl x)), each xs (λ s k. f s (or_right (same_slot x s) (stands_in xs s) k)))
