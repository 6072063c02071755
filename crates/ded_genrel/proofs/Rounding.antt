-- The bounds that a theory gives are a box around a conjunction.
--
-- Where no point satisfies the atoms there is nothing to show. Else the value of each point is not outside of either bound,
-- and where a bound isn't attained it is not the bound's value either, so it lies strictly within. Bounds of atoms that aren't
-- wide are exact, unless nothing satisfies the atoms: then the interval is empty.
use Rattle.std.proofs.Common.{◌≡◌, ℕ, ◌+◌, ◌<◌, Bool, true, false, not, List, [], ◌∷◌, ◌++◌, length, take, get_or, arith, refl, sym, ap, ◌∙◌, subst, true≢false, add-one}
use Rattle.std.specs.Prelude.{ℤ, pos, int_lt, ◌*ℤ◌, ◌<ℤ◌}
use Rattle.std.proofs.lemmas.Int.{ints, by_lt_z}
use Rattle.std.proofs.Math.Seq.{take-suc}
use Rattle.ded_model.specs.declared.slot.Slot.{Slot}
use Rattle.ded_model.specs.declared.bound.Bound.{Bound}
use Rattle.ded_model.specs.declared.bound.Bound.TheVariants.{Infinite, Excluded, Included}
use Rattle.ded_model.specs.Point.{slot, Point, IsPoint, number_at}
use Rattle.ded_model.specs.Cell.{conj_holds}
use Rattle.ded_model.specs.Bound.{Fraction, End, lower, upper, is_outside, value_at}
use Rattle.ded_model.specs.Lines.{Line}
use Rattle.ded_model.proofs.Points.{and_left, and_right}
use Rattle.ded_theory.specs.declared.answers.Span.{Span}
use Rattle.ded_theory.specs.declared.answers.Span.TheVariants.{Nothing, Exact, Around}
use Rattle.ded_theory.specs.Conjunctions.{IsWide}
use Rattle.ded_theory.specs.Verdicts.{IsSpan, IsBound}
use Rattle.ded_box.specs.Intervals.{is_inside, is_within}
use Rattle.ded_box.specs.Boxes.{in_box}
use Rattle.ded_box.proofs.Shares.{Interval, Box}
use Rattle.ded_genrel.specs.Rounds.{values_at, IsRound, AreExact, AreSharp, IsBoxOf, interval_of}
use Rattle.ded_theory.proofs.Parted.{exact_bound}
use Rattle.std.proofs.lemmas.Bool.{and_from}

strict : (x y : ℤ) → int_lt x y ≡ false → (x ≡ y → ⊥) → int_lt y x ≡ true
strict x y h n = by_lt_z x y (λ l. absurd (true≢false (sym (less x y l) ∙ h))) (λ g. by_lt_z y x (λ l. less y x l) (λ k. absurd (n (omega (arith, ints)))))
  where
    less : (x y : ℤ) → x <ℤ y → int_lt x y ≡ true
    less x y l = grind (arith, ints)

inside_excluded : (test : Point → Bool) (s : Slot) (e : End) (f : Fraction) (p : Point) → is_outside e (value_at s p) f ≡ false → (number_at p (slot s) *ℤ f.den ≡ f.num *ℤ pos p.den → ⊥) → is_outside e f (value_at s p) ≡ true
inside_excluded test s lower f p h n = strict (number_at p (slot s) *ℤ f.den) (f.num *ℤ pos p.den) h n
inside_excluded test s upper f p h n = strict (f.num *ℤ pos p.den) (number_at p (slot s) *ℤ f.den) h (λ e. n (sym e))

inside_bound : (test : Point → Bool) (s : Slot) (e : End) (b : Bound) (p : Point) → IsBound test s e b → IsPoint p → test p ≡ true → is_inside e b (value_at s p) ≡ true
inside_bound test s e Infinite p h i t = refl
inside_bound test s e (Excluded f) p h i t = inside_excluded test s e f p (h.0 p i t) (λ same. h.1 (p, i, t, same))
inside_bound test s e (Included f) p h i t = ap not (h p i t)

within_span : {A : Type 0} (h : A → Point → Bool) (m : A → Slot → Bool) (l : A → List Line) (atoms : List A) (s : Slot) (span : Span) → IsSpan h m l atoms s span → (p : Point) → IsPoint p → conj_holds h atoms p ≡ true → is_within (interval_of span) (value_at s p) ≡ true
within_span h m l atoms s Nothing k p i t = absurd (true≢false (sym t ∙ k p i))
within_span h m l atoms s (Exact a b) k p i t = and_from (is_inside lower a (value_at s p)) (is_inside upper b (value_at s p))
    (inside_bound (conj_holds h atoms) s lower a p (exact_bound (conj_holds h atoms) s lower a k.0) i t) (inside_bound (conj_holds h atoms) s upper b p (exact_bound (conj_holds h atoms) s upper b k.1) i t)
within_span h m l atoms s (Around a b) k p i t = and_from (is_inside lower a (value_at s p)) (is_inside upper b (value_at s p))
    (inside_bound (conj_holds h atoms) s lower a p k.1 i t) (inside_bound (conj_holds h atoms) s upper b p k.2 i t)

in_box-push : (x : Box) (vs : List Fraction) (i : Interval) (v : Fraction) → in_box x vs ≡ true → is_within i v ≡ true → in_box (x ++ i ∷ []) (vs ++ v ∷ []) ≡ true
in_box-push [] [] i v h k = and_from (is_within i v) true k refl
in_box-push [] (w ∷ vs) i v h k = absurd (true≢false (sym h))
in_box-push (j ∷ js) [] i v h k = absurd (true≢false (sym h))
in_box-push (j ∷ js) (w ∷ vs) i v h k = and_from (is_within j w) (in_box (js ++ i ∷ []) (vs ++ v ∷ [])) (and_left (is_within j w) (in_box js vs) h) (in_box-push js vs i v (and_right (is_within j w) (in_box js vs) h) k)

values_at-push : (ss : List Slot) (s : Slot) (p : Point) → values_at (ss ++ s ∷ []) p ≡ values_at ss p ++ value_at s p ∷ []
values_at-push [] s p = refl
values_at-push (t ∷ ss) s p = ap (λ vs. value_at t p ∷ vs) (values_at-push ss s p)

slots_to : (xs : List Slot) (i : ℕ) (d : Slot) → i < length xs → take (i + 1) xs ≡ take i xs ++ get_or xs i d ∷ []
slots_to xs i d h = ap (λ k. take k xs) (add-one i) ∙ take-suc xs i d h

-- ---- exact bounds

nothing_within : (v : Fraction) → is_within (interval_of Nothing) v ≡ true → ⊥
nothing_within v h = apart (pos 0 *ℤ v.den) (v.num *ℤ pos 1) (and_left (is_outside lower zero_fraction v) (is_outside upper zero_fraction v) h) (and_right (is_outside lower zero_fraction v) (is_outside upper zero_fraction v) h)
  where
    zero_fraction : Fraction
    zero_fraction = record { num = pos 0; den = pos 1 }

    apart : (x y : ℤ) → int_lt x y ≡ true → int_lt y x ≡ true → ⊥
    apart x y a b = grind (arith, ints)

sharp_span : {A : Type 0} (h : A → Point → Bool) (m : A → Slot → Bool) (l : A → List Line) (atoms : List A) (s : Slot) (span : Span) → IsSpan h m l atoms s span → (IsWide m l atoms → ⊥) → (v : Fraction) → is_within (interval_of span) v ≡ true → AreExact (conj_holds h atoms) s (interval_of span)
sharp_span h m l atoms s Nothing k n v i = absurd (nothing_within v i)
sharp_span h m l atoms s (Exact a b) k n v i = k
sharp_span h m l atoms s (Around a b) k n v i = absurd (n k.0)

sharp-push : (test : Point → Bool) (ss : List Slot) (x : Box) (s : Slot) (i : Interval) → AreSharp test ss x → ((v : Fraction) → is_within i v ≡ true → AreExact test s i) → AreSharp test (ss ++ s ∷ []) (x ++ i ∷ [])
sharp-push test [] [] s i h k = (k, tt)
sharp-push test [] (j ∷ js) s i h k = absurd h
sharp-push test (t ∷ ss) [] s i h k = absurd h
sharp-push test (t ∷ ss) (j ∷ js) s i h k = (h.0, sharp-push test ss js s i h.1 k)

-- one slot more
module _ {A : Type 0} (h : A → Point → Bool) (m : A → Slot → Bool) (l : A → List Line) (atoms : List A) (ss : List Slot) (i : ℕ) (d : Slot) (old new : Box) (x : Interval) (span : Span) (lt : i < length ss) (f : x ≡ interval_of span) (n : new ≡ old ++ x ∷ []) where
  longer : new ≡ old ++ interval_of span ∷ []
  longer = n ∙ ap (λ (z : Interval). old ++ z ∷ []) f

  round_more : IsSpan h m l atoms (get_or ss i d) span → IsRound h (take i ss) atoms old → IsRound h (take (i + 1) ss) atoms new
  round_more k r p ip t =
      let s = get_or ss i d in
      subst (λ b. in_box b (values_at (take (i + 1) ss) p) ≡ true) (sym longer)
      (subst (λ vs. in_box (old ++ interval_of span ∷ []) vs ≡ true) (sym (ap (λ zs. values_at zs p) (slots_to ss i d lt) ∙ values_at-push (take i ss) s p))
      (in_box-push old (values_at (take i ss) p) (interval_of span) (value_at s p) (r p ip t) (within_span h m l atoms s span k p ip t)))

  sharp_more : IsSpan h m l atoms (get_or ss i d) span → (IsWide m l atoms → ⊥) → AreSharp (conj_holds h atoms) (take i ss) old → AreSharp (conj_holds h atoms) (take (i + 1) ss) new
  sharp_more k w r =
      subst (λ zs. AreSharp (conj_holds h atoms) zs new) (sym (slots_to ss i d lt))
      (subst (AreSharp (conj_holds h atoms) (take i ss ++ get_or ss i d ∷ [])) (sym longer)
      (sharp-push (conj_holds h atoms) (take i ss) old (get_or ss i d) (interval_of span) r (sharp_span h m l atoms (get_or ss i d) span k w)))

  pub box_more : IsSpan h m l atoms (get_or ss i d) span → IsBoxOf h m l (take i ss) atoms old → IsBoxOf h m l (take (i + 1) ss) atoms new
  box_more k r = record { round = round_more k r.round; sharp = λ w. sharp_more k w (r.sharp w) }

pub box_none : {A : Type 0} (h : A → Point → Bool) (m : A → Slot → Bool) (l : A → List Line) (atoms : List A) → IsBoxOf h m l [] atoms []
box_none h m l atoms = record { round = λ p i t. refl; sharp = λ w. tt }
