-- Arguments near others are the columns of points that are near: the point of near arguments is near, and near a point of arguments
-- are points whose values at the columns, over a greater denominator, are near arguments.
use Rattle.std.proofs.Common.{◌≡◌, ℕ, ◌+◌, ◌*◌, ◌<◌, Bool, true, false, cond, List, [], ◌∷◌, length, inl, inr, arith, refl, sym, ap, ap₂, ◌∙◌, subst, true≢false, mul-pos}
use Rattle.std.specs.Prelude.{ℤ, pos, ◌-ℤ◌, ◌*ℤ◌, unsigned_abs}
use Rattle.std.proofs.Math.IntN.{zero-*ℤ}
use Rattle.std.proofs.Math.Nat.{mul-lt-mul_of_pos_right}
use Rattle.ded_num.proofs.Ring.{parts, ring, diff-pos, diff_same}
use Rattle.ded_model.specs.declared.name.Column.{Column}
use Rattle.ded_model.specs.declared.slot.Slot.{Slot}
use Rattle.ded_model.specs.declared.slot.Sort.{Sort}
use Rattle.ded_model.specs.declared.slot.Sort.TheVariants.{Rat, Text}
use Rattle.ded_model.specs.Catalogue.{argument_coordinate, at_slots}
use Rattle.ded_model.specs.Known.{heading_slots}
use Rattle.ded_model.specs.Near.{IsNear, AreNear, IsNearPoint}
use Rattle.ded_model.specs.Point.{Key, slot, Value, AreValues, IsValue, Point, IsPoint, absent, last_from, as_number, as_text, number_at, text_at, same_key, same_slot, stands_in}
use Rattle.ded_model.specs.Value.{Argument}
use Rattle.ded_model.proofs.Members.{or_split}
use Rattle.ded_model.proofs.Nearness.{abs_times}
use Rattle.ded_model.proofs.Points.{same_slot_is, same_slot_refl}
use Rattle.ded_model.proofs.SlotLists.{rational_no_text, passed}
use Rattle.ded_views.specs.Same.{AreByteArguments}

-- ---- distances

near_none : (m k d e : ℕ) (z w : ℤ) → 0 < m → 0 < d → 0 < e → z *ℤ pos e -ℤ w *ℤ pos d ≡ pos 0 → IsNear m k z d w e
near_none m k d e z w a i j h = subst (λ n. n * k < m * (d * e)) (sym (ap unsigned_abs h)) (positive (m * (d * e)) (mul-pos a (mul-pos i j)))
  where
    positive : (n : ℕ) → 0 < n → 0 * k < n
    positive n l = let o : 0 * k ≡ 0 = omega arith in rw o l

near_zero : (m k d e : ℕ) → 0 < m → 0 < d → 0 < e → IsNear m k (pos 0) d (pos 0) e
near_zero m k d e a i j = near_none m k d e (pos 0) (pos 0) a i j (ap₂ (λ x y. x -ℤ y) (zero-*ℤ (pos e)) (zero-*ℤ (pos d)))

-- the same value over a greater denominator
same_law : (x : ℤ) (e d : ℕ) → x *ℤ pos (e * d) -ℤ (x *ℤ pos e) *ℤ pos d ≡ pos 0
same_law x e d = rw (parts x, diff-pos (e * d), diff-pos e, diff-pos d) (rw (diff-pos 0) (simp ring (diff_same _ _ _ _ (omega arith))))

over_law : (z w : ℤ) (d e f : ℕ) → z *ℤ pos (e * f) -ℤ (w *ℤ pos f) *ℤ pos d ≡ (z *ℤ pos e -ℤ w *ℤ pos d) *ℤ pos f
over_law z w d e f = rw (parts z, parts w, diff-pos (e * f), diff-pos d, diff-pos e, diff-pos f) (simp ring (diff_same _ _ _ _ (omega arith)))

near_over : (m k d e f : ℕ) (z w : ℤ) → 0 < f → IsNear m k z d w e → IsNear m k z d (w *ℤ pos f) (e * f)
near_over m k d e f z w i h =
    subst (λ n. n * k < m * (d * (e * f))) (sym (ap unsigned_abs (over_law z w d e f) ∙ abs_times (z *ℤ pos e -ℤ w *ℤ pos d) f))
    (product (unsigned_abs (z *ℤ pos e -ℤ w *ℤ pos d)) h)
  where
    product : (a : ℕ) → a * k < m * (d * e) → a * f * k < m * (d * (e * f))
    product a l = let t = mul-lt-mul_of_pos_right {k = f} l i in omega arith

-- ---- the point of near arguments

record NearValue (m k d e : ℕ) (v w : Value) : Type 0 where
  number : IsNear m k (as_number v) d (as_number w) e
  text : as_text v ≡ as_text w

module _ (m k d e : ℕ) (a : 0 < m) (i : 0 < d) (j : 0 < e) where
  near_absent : NearValue m k d e absent absent
  near_absent = record { number = near_zero m k d e a i j; text = refl }

  near_coordinate : (s : Sort) (x y : Argument) → IsNear m k x.0 d y.0 e → x.1 ≡ y.1 → NearValue m k d e (argument_coordinate s x) (argument_coordinate s y)
  near_coordinate Rat x y n t = record { number = n; text = refl }
  near_coordinate Text x y n t = record { number = near_zero m k d e a i j; text = t }

  either_near : (b : Bool) (v w v' w' : Value) → NearValue m k d e v w → NearValue m k d e v' w' → NearValue m k d e (cond b v v') (cond b w w')
  either_near true v w v' w' g h = g
  either_near false v w v' w' g h = h

  last_near : (n : ℕ) (h : List Column) (xs ys : List Argument) (v w : Value) → AreNear m k d e xs ys → NearValue m k d e v w → (q : Key) → NearValue m k d e (last_from v (at_slots n h xs) q) (last_from w (at_slots n h ys) q)
  last_near n [] xs ys v w near s q = s
  last_near n (c ∷ cs) [] [] v w near s q = s
  last_near n (c ∷ cs) [] (y ∷ ys) v w near s q = absurd near
  last_near n (c ∷ cs) (x ∷ xs) [] v w near s q = absurd near
  last_near n (c ∷ cs) (x ∷ xs) (y ∷ ys) v w near s q =
      last_near (n + 1) cs xs ys _ _ near.2 (either_near (same_key q (slot (record { number = n; sort = c.sort }))) _ _ _ _ (near_coordinate c.sort x y near.0 near.1) s) q

  pub near_point : (h : List Column) (xs ys : List Argument) → AreNear m k d e xs ys → IsNearPoint m k (record { den = d; coords = at_slots 0 h xs }) (record { den = e; coords = at_slots 0 h ys })
  unfolding number_at text_at
  near_point h xs ys near = record {
    numbers = λ s o. (last_near 0 h xs ys absent absent near near_absent (slot s)).number;
    texts = λ s o. (last_near 0 h xs ys absent absent near near_absent (slot s)).text;
  }

-- it is a point
pub values_there : (n : ℕ) (h : List Column) (xs : List Argument) → AreByteArguments xs → AreValues (at_slots n h xs)
values_there n [] xs b = tt
values_there n (c ∷ cs) [] b = tt
values_there n (c ∷ cs) (x ∷ xs) b = (of c.sort, values_there (n + 1) cs xs b.1)
  where
    of : (s : Sort) → IsValue (argument_coordinate s x)
    of Rat = tt
    of Text = b.0

pub arguments_point : (d : ℕ) (h : List Column) (xs : List Argument) → 0 < d → AreByteArguments xs → IsPoint (record { den = d; coords = at_slots 0 h xs })
arguments_point d h xs i b = record { positive = i; bytes = values_there 0 h xs b }

-- ---- what stands at the columns

-- the values at the slots of the columns are those of the arguments
abbrev Stand : (Slot → Value) → ℕ → List Column → List Argument → Type 0
Stand f n [] xs = Unit {0}
Stand f n (c ∷ cs) [] = Unit {0}
Stand f n (c ∷ cs) (x ∷ xs) = (f (record { number = n; sort = c.sort }) ≡ argument_coordinate c.sort x) × Stand f (n + 1) cs xs

stand_there : (n : ℕ) (h : List Column) (xs : List Argument) (v : Slot → Value) → Stand (λ s. last_from (v s) (at_slots n h xs) (slot s)) n h xs
stand_there n [] xs v = tt
stand_there n (c ∷ cs) [] v = tt
stand_there n (c ∷ cs) (x ∷ xs) v =
    let u : Slot = record { number = n; sort = c.sort } in (
      passed (n + 1) cs xs u (cond (same_key (slot u) (slot u)) (argument_coordinate c.sort x) (v u)) (omega arith) ∙ ap (λ b. cond b (argument_coordinate c.sort x) (v u)) (same_slot_refl u),
      stand_there (n + 1) cs xs (λ s. cond (same_key (slot s) (slot (record { number = n; sort = c.sort }))) (argument_coordinate c.sort x) (v s)),
    )

-- ---- the arguments of a point

-- a number as the point has it, and the number of an argument at a column of texts, over the denominators of both
abbrev number_of : Sort → Argument → ℕ → ℕ → Point → ℤ
number_of Rat x n d q = number_at q (slot (record { number = n; sort = Rat })) *ℤ pos d
number_of Text x n d q = x.0 *ℤ pos q.den

abbrev pub arguments_of : ℕ → List Column → List Argument → ℕ → Point → List Argument
arguments_of n [] xs d q = []
arguments_of n (c ∷ cs) [] d q = []
arguments_of n (c ∷ cs) (x ∷ xs) d q = (number_of c.sort x n d q, x.1) ∷ arguments_of (n + 1) cs xs d q

module _ (m k d : ℕ) (q : Point) (a : 0 < m) (i : 0 < d) (j : 0 < q.den) (f : Slot → Value) (near : (s : Slot) → s.sort ≡ Rat → IsNear m k (as_number (f s)) d (number_at q (slot s)) q.den) where
  one_near : (s : Sort) (x : Argument) (n : ℕ) → f (record { number = n; sort = s }) ≡ argument_coordinate s x → IsNear m k x.0 d (number_of s x n d q) (q.den * d)
  one_near Rat x n e =
      near_over m k d q.den d x.0 (number_at q (slot (record { number = n; sort = Rat }))) i
      (subst (λ z. IsNear m k z d (number_at q (slot (record { number = n; sort = Rat }))) q.den) (ap as_number e) (near (record { number = n; sort = Rat }) refl))
  one_near Text x n e = near_none m k d (q.den * d) x.0 (x.0 *ℤ pos q.den) a i (mul-pos j i) (same_law x.0 q.den d)

  all_near : (n : ℕ) (h : List Column) (xs : List Argument) → length xs ≡ length h → Stand f n h xs → AreNear m k d (q.den * d) xs (arguments_of n h xs d q)
  all_near n [] [] l t = tt
  all_near n [] (x ∷ xs) l t = absurd (omega (arith, l))
  all_near n (c ∷ cs) [] l t = absurd (omega (arith, l))
  all_near n (c ∷ cs) (x ∷ xs) l t = (one_near c.sort x n t.0, refl, all_near (n + 1) cs xs (omega (arith, l)) t.1)

-- they are near, where the point is
pub arguments_near : (m k d : ℕ) (h : List Column) (xs : List Argument) (q : Point) → 0 < m → 0 < d → 0 < q.den → length xs ≡ length h → IsNearPoint m k (record { den = d; coords = at_slots 0 h xs }) q
    → AreNear m k d (q.den * d) xs (arguments_of 0 h xs d q)
unfolding number_at
arguments_near m k d h xs q a i j l near = all_near m k d q a i j (λ s. last_from absent (at_slots 0 h xs) (slot s)) (λ s o. near.numbers s o) 0 h xs l (stand_there 0 h xs (λ s. absent))

-- ---- the point of these arguments

record SameThere (d : ℕ) (q : Point) (f g : Slot → Value) (s : Slot) : Type 0 where
  number : s.sort ≡ Rat → as_number (g s) ≡ number_at q (slot s) *ℤ pos d
  text : s.sort ≡ Text → as_text (g s) ≡ as_text (f s)

module _ (d : ℕ) (q : Point) (f g : Slot → Value) where
  one_same : (s : Sort) (x : Argument) (n : ℕ) → f (record { number = n; sort = s }) ≡ argument_coordinate s x → g (record { number = n; sort = s }) ≡ argument_coordinate s (number_of s x n d q, x.1)
      → SameThere d q f g (record { number = n; sort = s })
  one_same Rat x n e h = record { number = λ o. ap as_number h; text = λ o. absurd (rational_no_text o) }
  one_same Text x n e h = record { number = λ o. absurd (rational_no_text (sym o)); text = λ o. ap as_text h ∙ sym (ap as_text e) }

  all_same : (n : ℕ) (h : List Column) (xs : List Argument) → length xs ≡ length h → Stand f n h xs → Stand g n h (arguments_of n h xs d q) → (s : Slot) → stands_in (heading_slots n h) s ≡ true → SameThere d q f g s
  all_same n [] xs l t u s e = absurd (true≢false (sym e))
  all_same n (c ∷ cs) [] l t u s e = absurd (omega (arith, l))
  all_same n (c ∷ cs) (x ∷ xs) l t u s e = elim (or_split (same_slot (record { number = n; sort = c.sort }) s) (stands_in (heading_slots (n + 1) cs) s) e) [
    | inl o ↦ subst (SameThere d q f g) (same_slot_is (record { number = n; sort = c.sort }) s o) (one_same c.sort x n t.0 u.0)
    | inr o ↦ all_same (n + 1) cs xs (omega (arith, l)) t.1 u.1 s o
  ]

pub number_there : (d : ℕ) (h : List Column) (xs : List Argument) (q : Point) → length xs ≡ length h → (s : Slot) → stands_in (heading_slots 0 h) s ≡ true → s.sort ≡ Rat
    → number_at (record { den = q.den * d; coords = at_slots 0 h (arguments_of 0 h xs d q) }) (slot s) ≡ number_at q (slot s) *ℤ pos d
unfolding number_at
number_there d h xs q l s o =
    (all_same d q (λ u. last_from absent (at_slots 0 h xs) (slot u)) (λ u. last_from absent (at_slots 0 h (arguments_of 0 h xs d q)) (slot u)) 0 h xs l
    (stand_there 0 h xs (λ u. absent)) (stand_there 0 h (arguments_of 0 h xs d q) (λ u. absent)) s o).number

pub text_there : (d : ℕ) (h : List Column) (xs : List Argument) (q : Point) → length xs ≡ length h → (s : Slot) → stands_in (heading_slots 0 h) s ≡ true → s.sort ≡ Text
    → text_at (record { den = q.den * d; coords = at_slots 0 h (arguments_of 0 h xs d q) }) (slot s) ≡ text_at (record { den = d; coords = at_slots 0 h xs }) (slot s)
unfolding text_at
text_there d h xs q l s o =
    (all_same d q (λ u. last_from absent (at_slots 0 h xs) (slot u)) (λ u. last_from absent (at_slots 0 h (arguments_of 0 h xs d q)) (slot u)) 0 h xs l
    (stand_there 0 h xs (λ u. absent)) (stand_there 0 h (arguments_of 0 h xs d q) (λ u. absent)) s o).text
