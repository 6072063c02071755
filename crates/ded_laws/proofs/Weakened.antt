-- A tuple with its strict rows made weak says what is close to the tuple, if that holds anywhere.
--
-- On the way: where w satisfies a tuple and p satisfies it weakly, so does each point on the way from p to w, w's share
-- however small: a row there is a sum of the row at p, times a number that may be 0, and of the row at w, times a number
-- above 0 (`blend_row`). With a share of one part in more than k times all the differences of p and w, the point is nearer
-- to p than 1 over k.
-- Apart: where a row that is no strict one fails at p, it fails at all points nearer than 1 over p's denominator times one
-- more than the sum of the magnitudes of its coefficients (`row_apart`). For a list the distances are multiplied.
use Rattle.std.proofs.Common.{◌≡◌, ℕ, zero, suc, ◌+◌, ◌*◌, ◌≤◌, ◌<◌, inl, inr, ⊎_elim, Bool, true, false, not, cond, List, [], ◌∷◌, ◌++◌, map, arith, refl, sym, ap, ◌∙◌, subst, true≢false, mul-pos}
use Rattle.std.specs.Prelude.{◌↔◌, ℤ, pos, negsuc, ◌+ℤ◌, ◌-ℤ◌, ◌*ℤ◌, ◌<ℤ◌, unsigned_abs, IsTrue}
use Rattle.std.proofs.lemmas.Int.{ints, by_lt_z, unsigned_abs-mul}
use Rattle.std.proofs.Math.Nat.{mul-lt-mul_of_pos_right, lt_of_mul-lt-mul_right, mul-le-mul_left, mul-le-mul_right, le-mul_of_pos_right}
use Rattle.ded_num.proofs.Ring.{parts, ring, diff-pos, diff_same}
use Rattle.ded_model.specs.declared.slot.Slot.{Slot}
use Rattle.ded_model.specs.declared.slot.Sort.{Sort}
use Rattle.ded_model.specs.declared.slot.Sort.TheVariants.{Rat, Text}
use Rattle.ded_model.specs.declared.row.RowOp.{RowOp}
use Rattle.ded_model.specs.declared.row.RowOp.TheVariants.{Zero, AtMost, Below}
use Rattle.ded_model.specs.declared.tuple.ThemeAtom.{ThemeAtom}
use Rattle.ded_model.specs.declared.tuple.ThemeAtom.TheVariants.{EqText, NeText, EqSlot, NeSlot}
use Rattle.ded_model.specs.declared.tuple.BothAtom.TheVariants.{First, Second}
use Rattle.ded_model.specs.Constraint.{LinearConstraint}
use Rattle.ded_model.specs.Point.{Key, slot, Value, number, text, Point, IsPoint, IsValue, AreValues, same_key, same_slot, stands_in, absent, last_from, as_number, as_text, number_at, text_at, times, all_times}
use Rattle.ded_model.specs.Row.{Atom, sum_at, row_at, row_holds, theme_holds, atom_holds, tuple_holds, tuples_hold}
use Rattle.ded_model.specs.Rational.{AreRationalCoefs}
use Rattle.ded_model.specs.Near.{IsNear, IsNearPoint, IsCloseAt, IsInsideAt, weak_op, weak_row, weak_tuple, weak_tuples, IsTextTheme, AreSortedAtoms, AreSortedTuples, AreInhabited}
use Rattle.ded_model.proofs.Core.{Meets, join, meets_add, meets_scale}
use Rattle.ded_model.proofs.Points.{same_key_refl, same_slot_is, last_from-scaled, as_number-times, as_text-times}
use Rattle.ded_model.proofs.Eliminating.{meets-decides}
use Rattle.ded_model.proofs.Atoms.{and_to, and_from, or_to, or_from}
use Rattle.ded_model.proofs.Nearness.{abs_times}
use Rattle.ded_model.proofs.Bools.{or_false_left, or_false_right}
use Rattle.ded_model.proofs.Given.{row_from}
use Rattle.ded_laws.proofs.Closures.{below_abs, below_abs'}

-- ---- ops
-- what meets an op meets the weak one
weaker : (op : RowOp) (z : ℤ) → Meets op z → Meets (weak_op op) z
weaker Zero z h = h
weaker AtMost z h = h
weaker Below z h = omega (arith, ints)

times_zero : (z : ℤ) → pos 0 *ℤ z ≡ pos 0
times_zero z = rw (parts z) (omega (arith, ints))

weak_scale : (op : RowOp) (k : ℕ) (z : ℤ) → Meets (weak_op op) z → Meets (weak_op op) (pos k *ℤ z)
weak_scale op zero z h = subst (Meets (weak_op op)) (sym (times_zero z)) (zero_meets op)
  where
    zero_meets : (op : RowOp) → Meets (weak_op op) (pos 0)
    zero_meets Zero = refl
    zero_meets AtMost = omega (arith, ints)
    zero_meets Below = omega (arith, ints)
weak_scale op (suc k) z h = meets_scale (weak_op op) (pos (suc k)) z (omega (arith, ints)) h

join_is : (op : RowOp) → join (weak_op op) op ≡ op
join_is Zero = refl
join_is AtMost = refl
join_is Below = refl

blend_meets : (op : RowOp) (j d : ℕ) (x y : ℤ) → 0 < d → Meets (weak_op op) x → Meets op y → Meets op (pos j *ℤ x +ℤ pos d *ℤ y)
blend_meets op j d x y i h k =
    subst (λ o. Meets o (pos j *ℤ x +ℤ pos d *ℤ y)) (join_is op)
    (meets_add (weak_op op) op (pos j *ℤ x) (pos d *ℤ y) (weak_scale op j x h) (meets_scale op (pos d) y (omega (arith, ints)) k))

-- ---- tests of rows
row_to : (r : LinearConstraint) (p : Point) → Meets r.op (row_at r p) → row_holds r p ≡ true
unfolding row_holds
row_to r p h = (meets-decides r.op (row_at r p)).1 h

-- a tuple implies the weak one
pub weak_holds : (t : List Atom) (p : Point) → tuple_holds t p ≡ true → tuple_holds (weak_tuple t) p ≡ true
unfolding tuple_holds atom_holds
weak_holds [] p h = refl
weak_holds (First r ∷ t) p h = let k = and_from _ _ h in and_to _ _ (row_to (weak_row r) p (weaker r.op (row_at r p) (row_from r p k.0)), weak_holds t p k.1)
weak_holds (Second a ∷ t) p h = let k = and_from _ _ h in and_to _ _ (k.0, weak_holds t p k.1)

-- ---- text atoms
theme_same : (a : ThemeAtom) (p q : Point) → IsTextTheme a → ((s : Slot) → s.sort ≡ Text → text_at p (slot s) ≡ text_at q (slot s)) → theme_holds a p ≡ theme_holds a q
unfolding theme_holds
theme_same (EqText s t) p q i h = rw (h s i) refl
theme_same (NeText s t) p q i h = rw (h s i) refl
theme_same (EqSlot s t) p q i h = rw (h s i.0, h t i.1) refl
theme_same (NeSlot s t) p q i h = rw (h s i.0, h t i.1) refl

-- ---- on the way
abbrev row_slots : List Atom → List Slot
row_slots [] = []
row_slots (First r ∷ t) = map (λ c. c.0) r.coefs ++ row_slots t
row_slots (Second a ∷ t) = row_slots t

module _ (p w : Point) where
  -- how far p and w are from one another
  abbrev gap : Slot → ℕ
  gap s = unsigned_abs (number_at p (slot s) *ℤ pos w.den -ℤ number_at w (slot s) *ℤ pos p.den)

  abbrev gaps : List Slot → ℕ
  gaps [] = 0
  gaps (s ∷ ss) = gap s + gaps ss

  gap_in : (ss : List Slot) (s : Slot) → stands_in ss s ≡ true → gap s ≤ gaps ss
  gap_in [] s h = absurd (true≢false (sym h))
  gap_in (u ∷ ss) s h = ⊎_elim
      (λ (e : same_slot u s ≡ true). subst (λ x. gap x ≤ gap u + gaps ss) (same_slot_is u s e) (omega arith))
      (λ e. let k = gap_in ss s e in omega arith)
      (or_from (same_slot u s) (stands_in ss s) h)

-- the point on the way from p to w, with j + 1 parts: j of p's and one of w's, at the slots of a list
module _ (p w : Point) (j : ℕ) where
  abbrev blend : Slot → ℤ
  blend s = number_at p (slot s) *ℤ pos (j * w.den) +ℤ number_at w (slot s) *ℤ pos p.den

  abbrev blends : List Slot → List (Key × Value)
  blends [] = []
  blends (s ∷ ss) = (slot s, number (blend s)) ∷ blends ss

  abbrev between : List Slot → Point
  between ss = record { den = p.den * (w.den * (j + 1)); coords = all_times (w.den * (j + 1)) p.coords ++ blends ss }

  from-append : (v : Value) (cs ds : List (Key × Value)) (k : Key) → last_from v (cs ++ ds) k ≡ last_from (last_from v cs k) ds k
  from-append v [] ds k = refl
  from-append v (c ∷ cs) ds k = from-append (cond (same_key k c.0) c.1 v) cs ds k

  stays : (ss : List Slot) (s : Slot) (v : Value) → v ≡ number (blend s) → last_from v (blends ss) (slot s) ≡ number (blend s)
  stays [] s v e = e
  stays (u ∷ ss) s v e = stays ss s (cond (same_key (slot s) (slot u)) (number (blend u)) v) (chosen (same_key (slot s) (slot u)) refl)
    where
      chosen : (b : Bool) → same_key (slot s) (slot u) ≡ b → cond b (number (blend u)) v ≡ number (blend s)
      chosen true f = ap (λ x. number (blend x)) (sym (same_slot_is s u f))
      chosen false f = e

  -- at a slot of the list
  found : (ss : List Slot) (s : Slot) (v : Value) → stands_in ss s ≡ true → last_from v (blends ss) (slot s) ≡ number (blend s)
  found [] s v h = absurd (true≢false (sym h))
  found (u ∷ ss) s v h = ⊎_elim
      (λ (e : same_slot u s ≡ true). stays ss s (cond (same_key (slot s) (slot u)) (number (blend u)) v)
      (subst (λ x. cond (same_key (slot s) (slot x)) (number (blend x)) v ≡ number (blend s)) (sym (same_slot_is u s e)) (ap (λ b. cond b (number (blend s)) v) (same_key_refl (slot s)))))
      (λ e. found ss s (cond (same_key (slot s) (slot u)) (number (blend u)) v) e)
      (or_from (same_slot u s) (stands_in ss s) h)

  -- at another slot
  others : (ss : List Slot) (s : Slot) (v : Value) → stands_in ss s ≡ false → last_from v (blends ss) (slot s) ≡ v
  others [] s v h = refl
  others (u ∷ ss) s v h = others ss s (cond (same_key (slot s) (slot u)) (number (blend u)) v) (or_false_right (same_slot u s) (stands_in ss s) h) ∙ chosen (same_key (slot s) (slot u)) refl
    where
      chosen : (b : Bool) → same_key (slot s) (slot u) ≡ b → cond b (number (blend u)) v ≡ v
      chosen true f = absurd (true≢false (sym (subst (λ x. same_slot x s ≡ true) (same_slot_is s u f) (same_key_refl (slot s))) ∙ or_false_left (same_slot u s) (stands_in ss s) h))
      chosen false f = refl

  number_found : (ss : List Slot) (s : Slot) → stands_in ss s ≡ true → number_at (between ss) (slot s) ≡ blend s
  unfolding number_at
  number_found ss s h = ap as_number (from-append absent (all_times (w.den * (j + 1)) p.coords) (blends ss) (slot s) ∙ found ss s _ h)

  number_other : (ss : List Slot) (s : Slot) → stands_in ss s ≡ false → number_at (between ss) (slot s) ≡ number_at p (slot s) *ℤ pos (w.den * (j + 1))
  unfolding number_at
  number_other ss s h =
      ap as_number (from-append absent (all_times (w.den * (j + 1)) p.coords) (blends ss) (slot s) ∙ others ss s (last_from absent (all_times (w.den * (j + 1)) p.coords) (slot s)) h ∙ last_from-scaled (w.den * (j + 1)) p.coords (slot s))
      ∙ as_number-times (w.den * (j + 1)) (last_from absent p.coords (slot s))

  text_other : (ss : List Slot) (s : Slot) → stands_in ss s ≡ false → text_at (between ss) (slot s) ≡ text_at p (slot s)
  unfolding text_at
  text_other ss s h =
      ap as_text (from-append absent (all_times (w.den * (j + 1)) p.coords) (blends ss) (slot s) ∙ others ss s (last_from absent (all_times (w.den * (j + 1)) p.coords) (slot s)) h ∙ last_from-scaled (w.den * (j + 1)) p.coords (slot s))
      ∙ as_text-times (w.den * (j + 1)) (last_from absent p.coords (slot s))

  -- it is a point
  values-append : (cs ds : List (Key × Value)) → AreValues cs → AreValues ds → AreValues (cs ++ ds)
  values-append [] ds h k = k
  values-append (c ∷ cs) ds h k = (h.0, values-append cs ds h.1 k)

  value_times : (e : ℕ) (v : Value) → IsValue v → IsValue (times e v)
  value_times e (number n) h = tt
  value_times e (text t) h = h

  values-times : (e : ℕ) (cs : List (Key × Value)) → AreValues cs → AreValues (all_times e cs)
  values-times e [] h = tt
  values-times e (c ∷ cs) h = (value_times e c.1 h.0, values-times e cs h.1)

  blends_values : (ss : List Slot) → AreValues (blends ss)
  blends_values [] = tt
  blends_values (s ∷ ss) = (tt, blends_values ss)

  between_point : (ss : List Slot) → IsPoint p → 0 < w.den → IsPoint (between ss)
  between_point ss h i = record {
    positive = mul-pos h.positive (mul-pos i (omega arith));
    bytes = values-append (all_times (w.den * (j + 1)) p.coords) (blends ss) (values-times (w.den * (j + 1)) p.coords h.bytes) (blends_values ss);
  }

  -- sums and rows
  abbrev AllIn : List Slot → List (Slot × ℤ) → Type 0
  AllIn ss [] = Unit {0}
  AllIn ss (c ∷ cs) = (stands_in ss c.0 ≡ true) × AllIn ss cs

  sum_law : (c x y jb d X Y : ℤ) → c *ℤ (x *ℤ jb +ℤ y *ℤ d) +ℤ (jb *ℤ X +ℤ d *ℤ Y) ≡ jb *ℤ (c *ℤ x +ℤ X) +ℤ d *ℤ (c *ℤ y +ℤ Y)
  sum_law c x y jb d X Y = rw (parts c, parts x, parts y, parts jb, parts d, parts X, parts Y) (simp ring (diff_same _ _ _ _ (omega arith)))

  none_law : (a b z : ℤ) → z ≡ pos 0 → z ≡ a *ℤ z +ℤ b *ℤ z
  none_law a b z e = rw e (rw (parts a, parts b) (omega (arith, ints)))

  sum_between : (ss : List Slot) (cs : List (Slot × ℤ)) → AllIn ss cs → sum_at cs (between ss) ≡ pos (j * w.den) *ℤ sum_at cs p +ℤ pos p.den *ℤ sum_at cs w
  sum_between ss [] h = none_law (pos (j * w.den)) (pos p.den) (pos 0) refl
  sum_between ss (c ∷ cs) h =
      ap (λ z. c.1 *ℤ z +ℤ sum_at cs (between ss)) (number_found ss c.0 h.0)
      ∙ ap (λ z. c.1 *ℤ blend c.0 +ℤ z) (sum_between ss cs h.1)
      ∙ sum_law c.1 (number_at p (slot c.0)) (number_at w (slot c.0)) (pos (j * w.den)) (pos p.den) (sum_at cs p) (sum_at cs w)

  row_law : (X Y c : ℤ) (d b i : ℕ) → (pos (i * b) *ℤ X +ℤ pos d *ℤ Y) +ℤ c *ℤ pos (d * (b * (i + 1))) ≡ pos (i * b) *ℤ (X +ℤ c *ℤ pos d) +ℤ pos d *ℤ (Y +ℤ c *ℤ pos b)
  row_law X Y c d b i = rw (parts X, parts Y, parts c, diff-pos (d * (b * (i + 1))), diff-pos (i * b), diff-pos d, diff-pos b) (simp ring (diff_same _ _ _ _ (omega arith)))

  row_between : (ss : List Slot) (r : LinearConstraint) → AllIn ss r.coefs → row_at r (between ss) ≡ pos (j * w.den) *ℤ row_at r p +ℤ pos p.den *ℤ row_at r w
  row_between ss r h =
      ap (λ z. z +ℤ r.constant *ℤ pos (p.den * (w.den * (j + 1)))) (sum_between ss r.coefs h)
      ∙ row_law (sum_at r.coefs p) (sum_at r.coefs w) r.constant p.den w.den j

  abbrev RowsIn : List Slot → List Atom → Type 0
  RowsIn ss [] = Unit {0}
  RowsIn ss (First r ∷ t) = AllIn ss r.coefs × RowsIn ss t
  RowsIn ss (Second a ∷ t) = RowsIn ss t

  -- the tuple holds on the way
  tuple_between : (ss : List Slot) (t : List Atom) → 0 < p.den → RowsIn ss t → AreSortedAtoms t → ((s : Slot) → s.sort ≡ Text → text_at p (slot s) ≡ text_at (between ss) (slot s))
      → tuple_holds (weak_tuple t) p ≡ true → tuple_holds t w ≡ true → tuple_holds t (between ss) ≡ true
  unfolding tuple_holds atom_holds
  tuple_between ss [] i h sorted texts e f = refl
  tuple_between ss (First r ∷ t) i h sorted texts e f =
      let e' = and_from _ _ e in
      let f' = and_from _ _ f in
      and_to _ _ (
        row_to r (between ss) (subst (Meets r.op) (sym (row_between ss r h.0)) (blend_meets r.op (j * w.den) p.den (row_at r p) (row_at r w) i (row_from (weak_row r) p e'.0) (row_from r w f'.0))),
        tuple_between ss t i h.1 sorted.1 texts e'.1 f'.1,
      )
  tuple_between ss (Second a ∷ t) i h sorted texts e f =
      let e' = and_from _ _ e in
      let f' = and_from _ _ f in
      and_to _ _ (sym (theme_same a p (between ss) sorted.0 texts) ∙ e'.0, tuple_between ss t i h sorted.1 texts e'.1 f'.1)

  near_law : (x y : ℤ) (d b i : ℕ) → x *ℤ pos (d * (b * (i + 1))) -ℤ (x *ℤ pos (i * b) +ℤ y *ℤ pos d) *ℤ pos d ≡ (x *ℤ pos b -ℤ y *ℤ pos d) *ℤ pos d
  near_law x y d b i = rw (parts x, parts y, diff-pos (d * (b * (i + 1))), diff-pos (i * b), diff-pos d, diff-pos b) (simp ring (diff_same _ _ _ _ (omega arith)))

  same_law : (x : ℤ) (d e : ℕ) → x *ℤ pos (d * e) -ℤ (x *ℤ pos e) *ℤ pos d ≡ pos 0
  same_law x d e = rw (parts x, diff-pos (d * e), diff-pos d, diff-pos e) (rw (diff-pos 0) (simp ring (diff_same _ _ _ _ (omega arith))))

  near_products : (n g d b i k m : ℕ) → n ≡ g * d → g * k ≤ i → 0 < d → 0 < b → 0 < m → n * k < m * (d * (d * (b * (i + 1))))
  near_products n g d b i k m e h x y z =
      let part : g * k * d < (i + 1) * d = mul-lt-mul_of_pos_right {k = d} (omega arith) x in
      let more : (i + 1) * d ≤ (i + 1) * d * (m * (d * b)) = le-mul_of_pos_right ((i + 1) * d) (mul-pos z (mul-pos x y)) in
      let f = ap (λ l. l * k) e in
      omega arith

  near_between : (ss : List Slot) (m k : ℕ) → 0 < p.den → 0 < w.den → 0 < m → k * gaps p w ss ≤ j → (s : Slot) (b : Bool) → stands_in ss s ≡ b
      → IsNear m k (number_at p (slot s)) p.den (number_at (between ss) (slot s)) (p.den * (w.den * (j + 1)))
  near_between ss m k x y z h s true e =
      let part : k * gap p w s ≤ k * gaps p w ss = mul-le-mul_left k (gap_in p w ss s e) in
      subst (λ v. IsNear m k (number_at p (slot s)) p.den v (p.den * (w.den * (j + 1)))) (sym (number_found ss s e))
      (near_products (unsigned_abs (number_at p (slot s) *ℤ pos (p.den * (w.den * (j + 1))) -ℤ blend s *ℤ pos p.den)) (gap p w s) p.den w.den j k m
      (ap unsigned_abs (near_law (number_at p (slot s)) (number_at w (slot s)) p.den w.den j) ∙ abs_times (number_at p (slot s) *ℤ pos w.den -ℤ number_at w (slot s) *ℤ pos p.den) p.den)
      (omega arith) x y z)
  near_between ss m k x y z h s false e =
      subst (λ v. IsNear m k (number_at p (slot s)) p.den v (p.den * (w.den * (j + 1)))) (sym (number_other ss s e))
      (subst (λ n. n * k < m * (p.den * (p.den * (w.den * (j + 1))))) (sym (ap unsigned_abs (same_law (number_at p (slot s)) p.den (w.den * (j + 1)))))
      (let l = mul-pos z (mul-pos x (mul-pos x (mul-pos y (omega arith)))) in let o : 0 * k ≡ 0 = omega arith in rw o l))

  -- the slots of a tuple's rows are in the list
  in_left : (xs ys : List Slot) (s : Slot) → stands_in xs s ≡ true → stands_in (xs ++ ys) s ≡ true
  in_left [] ys s h = absurd (true≢false (sym h))
  in_left (x ∷ xs) ys s h = or_to _ _ (⊎_elim (λ (e : same_slot x s ≡ true). inl e) (λ e. inr (in_left xs ys s e)) (or_from (same_slot x s) (stands_in xs s) h))

  in_right : (xs ys : List Slot) (s : Slot) → stands_in ys s ≡ true → stands_in (xs ++ ys) s ≡ true
  in_right [] ys s h = h
  in_right (x ∷ xs) ys s h = or_to (same_slot x s) (stands_in (xs ++ ys) s) (inr (in_right xs ys s h))

  all_in_more : (xs ss : List Slot) (cs : List (Slot × ℤ)) → AllIn ss cs → AllIn (xs ++ ss) cs
  all_in_more xs ss [] h = tt
  all_in_more xs ss (c ∷ cs) h = (in_right xs ss c.0 h.0, all_in_more xs ss cs h.1)

  all_in_own : (ss : List Slot) (cs : List (Slot × ℤ)) → AllIn (map (λ c. c.0) cs ++ ss) cs
  all_in_own ss [] = tt
  all_in_own ss (c ∷ cs) = (or_to (same_slot c.0 c.0) (stands_in (map (λ d. d.0) cs ++ ss) c.0) (inl (same_key_refl (slot c.0))), all_in_more (c.0 ∷ []) (map (λ d. d.0) cs ++ ss) cs (all_in_own ss cs))

  rows_in_more : (xs ss : List Slot) (t : List Atom) → RowsIn ss t → RowsIn (xs ++ ss) t
  rows_in_more xs ss [] h = tt
  rows_in_more xs ss (First r ∷ t) h = (all_in_more xs ss r.coefs h.0, rows_in_more xs ss t h.1)
  rows_in_more xs ss (Second a ∷ t) h = rows_in_more xs ss t h

  rows_in_own : (t : List Atom) → RowsIn (row_slots t) t
  rows_in_own [] = tt
  rows_in_own (First r ∷ t) = (all_in_own (row_slots t) r.coefs, rows_in_more (map (λ c. c.0) r.coefs) (row_slots t) t (rows_in_own t))
  rows_in_own (Second a ∷ t) = rows_in_own t

-- a row's slots are rational, so none is a slot of texts
text_not_rational : (s : Sort) → s ≡ Rat → s ≡ Text → ⊥
text_not_rational Rat e f = true≢false (ap is_rational f)
  where
    is_rational : Sort → Bool
    is_rational Rat = true
    is_rational Text = false
text_not_rational Text e f = true≢false (ap is_text e)
  where
    is_text : Sort → Bool
    is_text Rat = false
    is_text Text = true

coefs_rational : (cs : List (Slot × ℤ)) (ss : List Slot) (s : Slot) → AreRationalCoefs cs → (stands_in ss s ≡ true → s.sort ≡ Rat) → stands_in (map (λ c. c.0) cs ++ ss) s ≡ true → s.sort ≡ Rat
coefs_rational [] ss s h f e = f e
coefs_rational (c ∷ cs) ss s h f e = ⊎_elim
    (λ (i : same_slot c.0 s ≡ true). ap (λ u. u.sort) (sym (same_slot_is c.0 s i)) ∙ h.0)
    (λ i. coefs_rational cs ss s h.1 f i)
    (or_from (same_slot c.0 s) (stands_in (map (λ d. d.0) cs ++ ss) s) e)

slots_rational : (t : List Atom) (s : Slot) → AreSortedAtoms t → stands_in (row_slots t) s ≡ true → s.sort ≡ Rat
slots_rational [] s h e = absurd (true≢false (sym e))
slots_rational (First r ∷ t) s h e = coefs_rational r.coefs (row_slots t) s h.0 (slots_rational t s h.1) e
slots_rational (Second a ∷ t) s h e = slots_rational t s h.1 e

text_apart : (t : List Atom) (s : Slot) → AreSortedAtoms t → s.sort ≡ Text → (b : Bool) → stands_in (row_slots t) s ≡ b → stands_in (row_slots t) s ≡ false
text_apart t s h i true e = absurd (text_not_rational s.sort (slots_rational t s h e) i)
text_apart t s h i false e = e

-- ---- the first law: p satisfies the tuple weakly, and w satisfies it
pub mixes : (t : List Atom) (p w : Point) → IsPoint p → IsPoint w → AreSortedAtoms t → tuple_holds (weak_tuple t) p ≡ true → tuple_holds t w ≡ true → IsCloseAt (tuple_holds t) p
mixes t p w h i sorted e f m k x y =
    let ss : List Slot = row_slots t in
    let j : ℕ = k * gaps p w ss in
    let q : Point = between p w j ss in
    let texts : (s : Slot) → s.sort ≡ Text → text_at p (slot s) ≡ text_at q (slot s) = λ s o. sym (text_other p w j ss s (text_apart t s sorted o (stands_in ss s) refl)) in (
      q,
      between_point p w j ss h i.positive,
      record { numbers = λ s o. near_between p w j ss m k h.positive i.positive x (omega arith) s (stands_in ss s) refl; texts = texts },
      tuple_between p w j ss t h.positive (rows_in_own p w j t) sorted texts e f,
    )

-- ---- apart
-- the sum of the magnitudes of the coefficients
abbrev magnitude : List (Slot × ℤ) → ℕ
magnitude [] = 0
magnitude (c ∷ cs) = unsigned_abs c.1 + magnitude cs

abs_add : (a b : ℤ) → unsigned_abs (a +ℤ b) ≤ unsigned_abs a + unsigned_abs b
abs_add (pos m) (pos n) = omega (arith, ints)
abs_add (pos m) (negsuc n) = omega (arith, ints)
abs_add (negsuc m) (pos n) = omega (arith, ints)
abs_add (negsuc m) (negsuc n) = omega (arith, ints)

step_law : (c x y X Y d e : ℤ) → (c *ℤ x +ℤ X) *ℤ e -ℤ (c *ℤ y +ℤ Y) *ℤ d ≡ c *ℤ (x *ℤ e -ℤ y *ℤ d) +ℤ (X *ℤ e -ℤ Y *ℤ d)
step_law c x y X Y d e = rw (parts c, parts x, parts y, parts X, parts Y, parts d, parts e) (simp ring (diff_same _ _ _ _ (omega arith)))

sum_near : (cs : List (Slot × ℤ)) (p q : Point) (k : ℕ) → AreRationalCoefs cs → IsNearPoint 1 k p q
    → unsigned_abs (sum_at cs p *ℤ pos q.den -ℤ sum_at cs q *ℤ pos p.den) * k ≤ magnitude cs * (p.den * q.den)
sum_near [] p q k h n = subst (λ m. m * k ≤ 0 * (p.den * q.den)) (sym (nothing p.den q.den)) (omega arith)
  where
    nothing : (d e : ℕ) → unsigned_abs (pos 0 *ℤ pos e -ℤ pos 0 *ℤ pos d) ≡ 0
    nothing d e = omega (arith, ints)
sum_near (c ∷ cs) p q k h n =
    let z : ℤ = number_at p (slot c.0) *ℤ pos q.den -ℤ number_at q (slot c.0) *ℤ pos p.den in
    let Z : ℤ = sum_at cs p *ℤ pos q.den -ℤ sum_at cs q *ℤ pos p.den in
    let e = step_law c.1 (number_at p (slot c.0)) (number_at q (slot c.0)) (sum_at cs p) (sum_at cs q) (pos p.den) (pos q.den) in
    subst (λ v. unsigned_abs v * k ≤ magnitude (c ∷ cs) * (p.den * q.den)) (sym e)
    (products (unsigned_abs (c.1 *ℤ z +ℤ Z)) (unsigned_abs (c.1 *ℤ z)) (unsigned_abs c.1) (unsigned_abs z) (unsigned_abs Z) (magnitude cs) (p.den * q.den) k
    (abs_add (c.1 *ℤ z) Z) (unsigned_abs-mul c.1 z) (n.numbers c.0 h.0) (sum_near cs p q k h.1 n))
  where
    products : (t u a b r s m k : ℕ) → t ≤ u + r → u ≡ a * b → b * k < 1 * m → r * k ≤ s * m → t * k ≤ (a + s) * m
    products t u a b r s m k h e n i =
        let first : t * k ≤ (u + r) * k = mul-le-mul_right k h in
        let second = ap (λ x. x * k) e in
        let third : a * (b * k) ≤ a * m = mul-le-mul_left a (omega arith) in
        omega arith

-- a row there and here
row_difference : (X Y c d e : ℤ) → (X +ℤ c *ℤ d) *ℤ e -ℤ (Y +ℤ c *ℤ e) *ℤ d ≡ X *ℤ e -ℤ Y *ℤ d
row_difference X Y c d e = rw (parts X, parts Y, parts c, parts d, parts e) (simp ring (diff_same _ _ _ _ (omega arith)))

-- how near is near enough for a row: nearer than 1 over this
abbrev row_reach : ℕ → LinearConstraint → ℕ
row_reach d r = d * (magnitude r.coefs + 1)

row_near : (r : LinearConstraint) (p q : Point) → 0 < p.den → 0 < q.den → AreRationalCoefs r.coefs → IsNearPoint 1 (row_reach p.den r) p q
    → unsigned_abs (row_at r p *ℤ pos q.den -ℤ row_at r q *ℤ pos p.den) < q.den
row_near r p q i j h n =
    subst (λ v. unsigned_abs v < q.den) (sym (row_difference (sum_at r.coefs p) (sum_at r.coefs q) r.constant (pos p.den) (pos q.den)))
    (below (unsigned_abs (sum_at r.coefs p *ℤ pos q.den -ℤ sum_at r.coefs q *ℤ pos p.den)) p.den q.den (magnitude r.coefs) (mul-pos i j) (sum_near r.coefs p q (row_reach p.den r) h n))
  where
    below : (t d e s : ℕ) → 0 < d * e → t * (d * (s + 1)) ≤ s * (d * e) → t < e
    below t d e s i h = lt_of_mul-lt-mul_right (d * (s + 1)) (omega arith)

stays_above : (z z' : ℤ) (d e : ℕ) → unsigned_abs (z *ℤ pos e -ℤ z' *ℤ pos d) < e → pos 0 <ℤ z → pos 0 <ℤ z'
stays_above z (pos (suc m)) d e h i = omega (arith, ints)
stays_above (pos (suc n)) (pos zero) d e h i = let l = below_abs (pos (suc n) *ℤ pos e -ℤ pos 0 *ℤ pos d) e h in absurd (omega (arith, ints))
stays_above (pos (suc n)) (negsuc m) d e h i = let l = below_abs (pos (suc n) *ℤ pos e -ℤ negsuc m *ℤ pos d) e h in absurd (omega (arith, ints))
stays_above (pos zero) (pos zero) d e h i = absurd (omega (arith, ints))
stays_above (pos zero) (negsuc m) d e h i = absurd (omega (arith, ints))
stays_above (negsuc n) (pos zero) d e h i = absurd (omega (arith, ints))
stays_above (negsuc n) (negsuc m) d e h i = absurd (omega (arith, ints))

stays_below : (z z' : ℤ) (d e : ℕ) → unsigned_abs (z *ℤ pos e -ℤ z' *ℤ pos d) < e → z <ℤ pos 0 → z' <ℤ pos 0
stays_below z (negsuc m) d e h i = omega (arith, ints)
stays_below (negsuc n) (pos m) d e h i = let l = below_abs' (negsuc n *ℤ pos e -ℤ pos m *ℤ pos d) e h in absurd (omega (arith, ints))
stays_below (pos n) (pos m) d e h i = absurd (omega (arith, ints))

-- and where it holds weakly there it holds weakly here
weak_back : (op : RowOp) (z z' : ℤ) → (pos 0 <ℤ z → pos 0 <ℤ z') → (z <ℤ pos 0 → z' <ℤ pos 0) → Meets (weak_op op) z' → Meets (weak_op op) z
weak_back Zero z z' f g h = by_lt_z z (pos 0) (λ i. absurd (let k = g i in omega (arith, ints))) (λ i. by_lt_z (pos 0) z (λ k. absurd (let l = f k in omega (arith, ints))) (λ k. omega (arith, ints)))
weak_back AtMost z z' f g h = by_lt_z (pos 0) z (λ k. absurd (let l = f k in omega (arith, ints))) (λ k. k)
weak_back Below z z' f g h = by_lt_z (pos 0) z (λ k. absurd (let l = f k in omega (arith, ints))) (λ k. k)

row_back : (r : LinearConstraint) (p q : Point) → 0 < p.den → 0 < q.den → AreRationalCoefs r.coefs → IsNearPoint 1 (row_reach p.den r) p q → row_holds (weak_row r) q ≡ true → row_holds (weak_row r) p ≡ true
row_back r p q i j h n e =
    let near = row_near r p q i j h n in
    row_to (weak_row r) p (weak_back r.op (row_at r p) (row_at r q) (stays_above (row_at r p) (row_at r q) p.den q.den near) (stays_below (row_at r p) (row_at r q) p.den q.den near) (row_from (weak_row r) q e))

-- nearer than a product, nearer than a part of it
nearer_left : (a b : ℕ) (p q : Point) → 0 < b → IsNearPoint 1 (a * b) p q → IsNearPoint 1 a p q
nearer_left a b p q i n = record { numbers = λ s o. part (unsigned_abs (number_at p (slot s) *ℤ pos q.den -ℤ number_at q (slot s) *ℤ pos p.den)) a b (p.den * q.den) i (n.numbers s o); texts = n.texts }
  where
    part : (t a b m : ℕ) → 0 < b → t * (a * b) < 1 * m → t * a < 1 * m
    part t a b m i h = let l : t * a ≤ t * a * b = le-mul_of_pos_right (t * a) i in omega arith

nearer_right : (a b : ℕ) (p q : Point) → 0 < a → IsNearPoint 1 (a * b) p q → IsNearPoint 1 b p q
nearer_right a b p q i n = nearer_left b a p q i (subst (λ m. IsNearPoint 1 m p q) (omega arith) n)

abbrev tuple_reach : ℕ → List Atom → ℕ
tuple_reach d [] = 1
tuple_reach d (First r ∷ t) = row_reach d r * tuple_reach d t
tuple_reach d (Second a ∷ t) = tuple_reach d t

row_reach_positive : (d : ℕ) (r : LinearConstraint) → 0 < d → 0 < row_reach d r
row_reach_positive d r i = mul-pos i (omega arith)

tuple_reach_positive : (d : ℕ) (t : List Atom) → 0 < d → 0 < tuple_reach d t
tuple_reach_positive d [] i = omega arith
tuple_reach_positive d (First r ∷ t) i = mul-pos (row_reach_positive d r i) (tuple_reach_positive d t i)
tuple_reach_positive d (Second a ∷ t) i = tuple_reach_positive d t i

tuple_back : (t : List Atom) (p q : Point) → 0 < p.den → 0 < q.den → AreSortedAtoms t → IsNearPoint 1 (tuple_reach p.den t) p q → tuple_holds (weak_tuple t) q ≡ true → tuple_holds (weak_tuple t) p ≡ true
unfolding tuple_holds atom_holds
tuple_back [] p q i j h n e = refl
tuple_back (First r ∷ t) p q i j h n e =
    let k = and_from _ _ e in
    and_to _ _ (
      row_back r p q i j h.0 (nearer_left (row_reach p.den r) (tuple_reach p.den t) p q (tuple_reach_positive p.den t i) n) k.0,
      tuple_back t p q i j h.1 (nearer_right (row_reach p.den r) (tuple_reach p.den t) p q (row_reach_positive p.den r i) n) k.1,
    )
tuple_back (Second a ∷ t) p q i j h n e = let k = and_from _ _ e in and_to _ _ (theme_same a p q h.0 n.texts ∙ k.0, tuple_back t p q i j h.1 n k.1)

-- ---- lists of tuples
abbrev tuples_reach : ℕ → List (List Atom) → ℕ
tuples_reach d [] = 1
tuples_reach d (t ∷ ts) = tuple_reach d t * tuples_reach d ts

tuples_reach_positive : (d : ℕ) (ts : List (List Atom)) → 0 < d → 0 < tuples_reach d ts
tuples_reach_positive d [] i = omega arith
tuples_reach_positive d (t ∷ ts) i = mul-pos (tuple_reach_positive d t i) (tuples_reach_positive d ts i)

tuples_back : (ts : List (List Atom)) (p q : Point) → 0 < p.den → 0 < q.den → AreSortedTuples ts → IsNearPoint 1 (tuples_reach p.den ts) p q
    → tuples_hold (weak_tuples ts) q ≡ true → tuples_hold (weak_tuples ts) p ≡ true
unfolding tuples_hold
tuples_back [] p q i j h n e = absurd (true≢false (sym e))
tuples_back (t ∷ ts) p q i j h n e = or_to _ _ (⊎_elim
    (λ (k : tuple_holds (weak_tuple t) q ≡ true). inl (tuple_back t p q i j h.0 (nearer_left (tuple_reach p.den t) (tuples_reach p.den ts) p q (tuples_reach_positive p.den ts i) n) k))
    (λ k. inr (tuples_back ts p q i j h.1 (nearer_right (tuple_reach p.den t) (tuples_reach p.den ts) p q (tuple_reach_positive p.den t i) n) k))
    (or_from (tuple_holds (weak_tuple t) q) (tuples_hold (weak_tuples ts) q) e))

weak_hold : (ts : List (List Atom)) (p : Point) → tuples_hold ts p ≡ true → tuples_hold (weak_tuples ts) p ≡ true
unfolding tuples_hold
weak_hold [] p e = e
weak_hold (t ∷ ts) p e = or_to _ _ (⊎_elim (λ (k : tuple_holds t p ≡ true). inl (weak_holds t p k)) (λ k. inr (weak_hold ts p k)) (or_from (tuple_holds t p) (tuples_hold ts p) e))

-- ---- the second law: within some distance of p, where the weak tuples hold nowhere at p, they hold nowhere
pub apart : (ts : List (List Atom)) (p : Point) → IsPoint p → AreSortedTuples ts
    → (k : ℕ) × (0 < k) × ((q : Point) → IsPoint q → IsNearPoint 1 k p q → tuples_hold (weak_tuples ts) q ≡ true → tuples_hold (weak_tuples ts) p ≡ true)
apart ts p i h = (tuples_reach p.den ts, tuples_reach_positive p.den ts i.positive, λ q j n e. tuples_back ts p q i.positive j.positive h n e)

-- ---- closures and interiors of lists
close_more : (t : List Atom) (ts : List (List Atom)) (p : Point) → IsCloseAt (tuple_holds t) p → IsCloseAt (tuples_hold (t ∷ ts)) p
unfolding tuples_hold
close_more t ts p h m k i j = let w = h m k i j in (w.0, w.1, w.2, or_to _ _ (inl w.3))

close_rest : (t : List Atom) (ts : List (List Atom)) (p : Point) → IsCloseAt (tuples_hold ts) p → IsCloseAt (tuples_hold (t ∷ ts)) p
unfolding tuples_hold
close_rest t ts p h m k i j = let w = h m k i j in (w.0, w.1, w.2, or_to (tuple_holds t w.0) (tuples_hold ts w.0) (inr w.3))

close_from : (ts : List (List Atom)) (p : Point) → IsPoint p → AreSortedTuples ts → AreInhabited ts → tuples_hold (weak_tuples ts) p ≡ true → IsCloseAt (tuples_hold ts) p
unfolding tuples_hold
close_from [] p i h s e = absurd (true≢false (sym e))
close_from (t ∷ ts) p i h s e = ⊎_elim
    (λ (k : tuple_holds (weak_tuple t) p ≡ true). close_more t ts p (mixes t p s.0.0 i s.0.1 h.0 k s.0.2))
    (λ k. close_rest t ts p (close_from ts p i h.1 s.1 k))
    (or_from (tuple_holds (weak_tuple t) p) (tuples_hold (weak_tuples ts) p) e)

-- what is close to some tuples that each hold somewhere satisfies one of them weakly
pub closure_is : (ts : List (List Atom)) (p : Point) → IsPoint p → AreSortedTuples ts → AreInhabited ts → IsCloseAt (tuples_hold ts) p ↔ IsTrue (tuples_hold (weak_tuples ts) p)
closure_is ts p i h s = (
  λ c. let a = apart ts p i h in let w = c 1 a.0 (omega arith) a.1 in a.2 w.0 w.1 w.2 (weak_hold ts w.0 w.3),
  λ e. close_from ts p i h s e,
)

-- what is inside of some tuples satisfies none of the complement's weakly
pub interior_is : (ts cs : List (List Atom)) (p : Point) → IsPoint p → ((q : Point) → IsPoint q → tuples_hold cs q ≡ not (tuples_hold ts q)) → AreSortedTuples cs → AreInhabited cs
    → IsInsideAt (tuples_hold ts) p ↔ IsTrue (not (tuples_hold (weak_tuples cs) p))
interior_is ts cs p i other h s = (
  λ c. outside (tuples_hold (weak_tuples cs) p) refl c,
  λ e. let a = apart cs p i h in (1, a.0, (omega arith), a.1, λ q j n. within (tuples_hold ts q) (tuples_hold cs q) (tuples_hold (weak_tuples cs) p) (other q j) (λ k. a.2 q j n (weak_hold cs q k)) e),
)
  where
    outside : (b : Bool) → tuples_hold (weak_tuples cs) p ≡ b → IsInsideAt (tuples_hold ts) p → IsTrue (not (tuples_hold (weak_tuples cs) p))
    outside true e c = absurd (let w = close_from cs p i h s e c.0 c.1 c.2 c.3 in true≢false (sym w.3 ∙ other w.0 w.1 ∙ ap not (c.4 w.0 w.1 w.2)))
    outside false e c = ap not e

    within : (a b w : Bool) → b ≡ not a → (b ≡ true → w ≡ true) → not w ≡ true → a ≡ true
    within true b w e f g = refl
    within false b w e f g = absurd (true≢false (sym g ∙ ap not (f e)))
