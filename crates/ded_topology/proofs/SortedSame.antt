-- Sorted tuples hold alike at points with the same numbers at rational slots and the same texts at slots of texts.
use Rattle.std.proofs.Common.{◌≡◌, ◌*◌, ◌<◌, Bool, true, ◌&&◌, ◌||◌, List, [], ◌∷◌, arith, refl, sym, ap₂, ◌∙◌}
use Rattle.std.specs.Prelude.{ℤ, pos, ◌+ℤ◌, ◌*ℤ◌}
use Rattle.std.specs.List.{list_any}
use Rattle.std.proofs.Math.IntN.{zero-*ℤ}
use Rattle.ded_model.specs.declared.slot.Slot.{Slot}
use Rattle.ded_model.specs.declared.slot.Sort.TheVariants.{Rat, Text}
use Rattle.ded_model.specs.declared.tuple.ThemeAtom.{ThemeAtom}
use Rattle.ded_model.specs.declared.tuple.ThemeAtom.TheVariants.{EqText, NeText, EqSlot, NeSlot}
use Rattle.ded_model.specs.declared.tuple.BothAtom.TheVariants.{First, Second}
use Rattle.ded_model.specs.Constraint.{LinearConstraint}
use Rattle.ded_model.specs.Near.{IsTextTheme, AreSortedAtoms, AreSortedTuples}
use Rattle.ded_model.specs.Point.{slot, Point, number_at, text_at, same_slot}
use Rattle.ded_model.specs.Rational.{AreRationalCoefs}
use Rattle.ded_model.specs.Row.{Atom, sum_at, row_at, row_holds, theme_holds, atom_holds, tuple_holds, tuples_hold, row_mentions, theme_mentions, atom_mentions, tuple_mentions, tuples_mention}
use Rattle.ded_model.proofs.Points.{same_key_refl}
use Rattle.ded_model.proofs.Rows.{sign_meets-same, step_law, or_left, or_right, row_law}

-- the same values at the slots that pass the test, as their sorts say
pub record HaveSameValues (p q : Point) (test : Slot → Bool) : Type 0 where
  pub numbers : (s : Slot) → test s ≡ true → s.sort ≡ Rat → number_at p (slot s) *ℤ pos q.den ≡ number_at q (slot s) *ℤ pos p.den
  pub texts : (s : Slot) → test s ≡ true → s.sort ≡ Text → text_at p (slot s) ≡ text_at q (slot s)

fewer : (p q : Point) (f g : Slot → Bool) → ((s : Slot) → f s ≡ true → g s ≡ true) → HaveSameValues p q g → HaveSameValues p q f
fewer p q f g i h = record { numbers = λ s e. h.numbers s (i s e); texts = λ s e. h.texts s (i s e) }

sum_same : (cs : List (Slot × ℤ)) (p q : Point) → AreRationalCoefs cs → HaveSameValues p q (λ s. list_any (λ c. same_slot c.0 s) cs) → sum_at cs p *ℤ pos q.den ≡ sum_at cs q *ℤ pos p.den
sum_same [] p q r h = zero-*ℤ (pos q.den) ∙ sym (zero-*ℤ (pos p.den))
sum_same (c ∷ cs) p q r h =
    let here = h.numbers c.0 (or_left _ _ (same_key_refl (slot c.0))) r.0 in
    let rest = sum_same cs p q r.1 (fewer p q (λ s. list_any (λ d. same_slot d.0 s) cs) (λ s. list_any (λ d. same_slot d.0 s) (c ∷ cs)) (λ s e. or_right (same_slot c.0 s) _ e) h) in
    step_law c.1 (number_at p (slot c.0)) (sum_at cs p) (pos 0) (pos q.den)
    ∙ ap₂ (λ x y. c.1 *ℤ x +ℤ y) here rest ∙ sym (step_law c.1 (number_at q (slot c.0)) (sum_at cs q) (pos 0) (pos p.den))

row_same : (r : LinearConstraint) (p q : Point) → 0 < p.den → 0 < q.den → AreRationalCoefs r.coefs → HaveSameValues p q (row_mentions r) → row_holds r p ≡ row_holds r q
unfolding row_holds row_mentions
row_same r p q i j k h =
    let swapped : p.den * q.den ≡ q.den * p.den = omega arith in
    sign_meets-same r.op (row_at r p) (row_at r q) p.den q.den i j
    (row_law (sum_at r.coefs p) r.constant p.den q.den
    ∙ ap₂ (λ x n. x +ℤ r.constant *ℤ pos n) (sum_same r.coefs p q k h) swapped ∙ sym (row_law (sum_at r.coefs q) r.constant q.den p.den))

theme_same : (a : ThemeAtom) (p q : Point) → IsTextTheme a → HaveSameValues p q (theme_mentions a) → theme_holds a p ≡ theme_holds a q
unfolding theme_holds theme_mentions
theme_same (EqText s t) p q k h = rw (h.texts s (same_key_refl (slot s)) k) refl
theme_same (NeText s t) p q k h = rw (h.texts s (same_key_refl (slot s)) k) refl
theme_same (EqSlot s t) p q k h = rw (h.texts s (or_left _ _ (same_key_refl (slot s))) k.0, h.texts t (or_right (same_slot s t) _ (same_key_refl (slot t))) k.1) refl
theme_same (NeSlot s t) p q k h = rw (h.texts s (or_left _ _ (same_key_refl (slot s))) k.0, h.texts t (or_right (same_slot s t) _ (same_key_refl (slot t))) k.1) refl

tuple_same : (t : List Atom) (p q : Point) → 0 < p.den → 0 < q.den → AreSortedAtoms t → HaveSameValues p q (tuple_mentions t) → tuple_holds t p ≡ tuple_holds t q
unfolding tuple_holds atom_holds tuple_mentions atom_mentions
tuple_same [] p q i j k h = refl
tuple_same (First r ∷ t) p q i j k h =
    ap₂ (λ a b. a && b) (row_same r p q i j k.0 (fewer p q (row_mentions r) (tuple_mentions (First r ∷ t)) (λ s e. or_left (row_mentions r s) (tuple_mentions t s) e) h))
    (tuple_same t p q i j k.1 (fewer p q (tuple_mentions t) (tuple_mentions (First r ∷ t)) (λ s e. or_right (row_mentions r s) (tuple_mentions t s) e) h))
tuple_same (Second a ∷ t) p q i j k h =
    ap₂ (λ a b. a && b) (theme_same a p q k.0 (fewer p q (theme_mentions a) (tuple_mentions (Second a ∷ t)) (λ s e. or_left (theme_mentions a s) (tuple_mentions t s) e) h))
    (tuple_same t p q i j k.1 (fewer p q (tuple_mentions t) (tuple_mentions (Second a ∷ t)) (λ s e. or_right (theme_mentions a s) (tuple_mentions t s) e) h))

pub tuples_same : (ts : List (List Atom)) (p q : Point) → 0 < p.den → 0 < q.den → AreSortedTuples ts → HaveSameValues p q (tuples_mention ts) → tuples_hold ts p ≡ tuples_hold ts q
unfolding tuples_hold tuples_mention
tuples_same [] p q i j k h = refl
tuples_same (t ∷ ts) p q i j k h =
    ap₂ (λ a b. a || b) (tuple_same t p q i j k.0 (fewer p q (tuple_mentions t) (tuples_mention (t ∷ ts)) (λ s e. or_left (tuple_mentions t s) (tuples_mention ts s) e) h))
    (tuples_same ts p q i j k.1 (fewer p q (tuples_mention ts) (tuples_mention (t ∷ ts)) (λ s e. or_right (tuple_mentions t s) (tuples_mention ts s) e) h))
