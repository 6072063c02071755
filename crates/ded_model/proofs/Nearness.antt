-- What is near is near over other denominators too, so closures and interiors respect values.
--
-- Values that are the same over d and over d' have the same distance from any other one: times d' the difference over d is
-- d times the difference over d'. So the one is near where the other is (`near-same`), list by list.
use Rattle.std.proofs.Common.{◌≡◌, ℕ, ◌*◌, ◌<◌, List, [], ◌∷◌, arith, sym, ap, ◌∙◌}
use Rattle.std.specs.Prelude.{◌↔◌, ℤ, pos, ◌-ℤ◌, ◌*ℤ◌, unsigned_abs}
use Rattle.std.proofs.Math.Nat.{mul-lt-mul_of_pos_right, lt_of_mul-lt-mul_right}
use Rattle.std.proofs.lemmas.Int.{unsigned_abs-mul}
use Rattle.ded_num.proofs.Ring.{parts, ring, diff_same}
use Rattle.ded_model.specs.Value.{Argument, Meaning}
use Rattle.ded_model.specs.Made.{Reading, itself, closure_of, interior_of, base_by}
use Rattle.ded_model.specs.Near.{IsNear, AreNear, IsClose, IsInside}
use Rattle.ded_model.specs.Catalogue.{read_as}
use Rattle.ded_model.proofs.Values.{AreSameArguments}

-- ---- distances over other denominators

-- a distance a over d' is b over d
pub near-over : (a b k m d d' e : ℕ) → a * d ≡ b * d' → 0 < d' → b * k < m * (d * e) → a * k < m * (d' * e)
near-over a b k m d d' e s j h =
    let t = mul-lt-mul_of_pos_right h j in
    let u = ap (λ n. n * k) s in
    lt_of_mul-lt-mul_right d (omega arith)

-- a difference, multiplied
cross_law : (z w d d' e : ℤ) → (z *ℤ e -ℤ w *ℤ d') *ℤ d ≡ (z *ℤ d) *ℤ e -ℤ (w *ℤ d') *ℤ d
cross_law z w d d' e = rw (parts z, parts w, parts d, parts d', parts e) (simp ring (diff_same _ _ _ _ (omega arith)))

cross_law' : (z w d d' e : ℤ) → (z *ℤ e -ℤ w *ℤ d) *ℤ d' ≡ (z *ℤ d') *ℤ e -ℤ (w *ℤ d') *ℤ d
cross_law' z w d d' e = rw (parts z, parts w, parts d, parts d', parts e) (simp ring (diff_same _ _ _ _ (omega arith)))

-- the magnitude of a number, multiplied
pub abs_times : (z : ℤ) (d : ℕ) → unsigned_abs (z *ℤ pos d) ≡ unsigned_abs z * d
abs_times z d = unsigned_abs-mul z (pos d)

-- near over one denominator, near over the other
pub near-same : (m k : ℕ) (z z' w : ℤ) (d d' e : ℕ) → 0 < d' → z *ℤ pos d' ≡ z' *ℤ pos d → IsNear m k z d w e → IsNear m k z' d' w e
near-same m k z z' w d d' e j h n = near-over _ _ k m d d' e across j n
  where
    across : unsigned_abs (z' *ℤ pos e -ℤ w *ℤ pos d') * d ≡ unsigned_abs (z *ℤ pos e -ℤ w *ℤ pos d) * d'
    across =
        sym (abs_times (z' *ℤ pos e -ℤ w *ℤ pos d') d)
        ∙ ap unsigned_abs (cross_law z' w (pos d) (pos d') (pos e) ∙ ap (λ x. x *ℤ pos e -ℤ (w *ℤ pos d') *ℤ pos d) (sym h) ∙ sym (cross_law' z w (pos d) (pos d') (pos e)))
        ∙ abs_times (z *ℤ pos e -ℤ w *ℤ pos d) d'

-- ---- arguments

pub AreSameArguments-sym : (d d' : ℕ) (xs ys : List Argument) → AreSameArguments d d' xs ys → AreSameArguments d' d ys xs
AreSameArguments-sym d d' [] [] h = tt
AreSameArguments-sym d d' [] (y ∷ ys) h = absurd h
AreSameArguments-sym d d' (x ∷ xs) [] h = absurd h
AreSameArguments-sym d d' (x ∷ xs) (y ∷ ys) h = (sym h.0, sym h.1, AreSameArguments-sym d d' xs ys h.2)

pub AreNear-same : (m k d d' e : ℕ) (xs xs' ys : List Argument) → 0 < d' → AreSameArguments d d' xs xs' → AreNear m k d e xs ys → AreNear m k d' e xs' ys
AreNear-same m k d d' e [] [] ys j h n = nothing ys n
  where
    nothing : (ys : List Argument) → AreNear m k d e [] ys → AreNear m k d' e [] ys
    nothing [] n = tt
    nothing (y ∷ ys) n = absurd n
AreNear-same m k d d' e [] (x' ∷ xs') ys j h n = absurd h
AreNear-same m k d d' e (x ∷ xs) [] ys j h n = absurd h
AreNear-same m k d d' e (x ∷ xs) (x' ∷ xs') [] j h n = absurd n
AreNear-same m k d d' e (x ∷ xs) (x' ∷ xs') (y ∷ ys) j h n = (near-same m k x.0 x'.0 y.0 d d' e j h.0 n.0, sym h.1 ∙ n.1, AreNear-same m k d d' e xs xs' ys j h.2 n.2)

-- ---- closures and interiors

-- what is close to some values is close to the same values
pub IsClose-same : (R : ℕ → List Argument → Type 0) (d d' : ℕ) (xs xs' : List Argument) → 0 < d' → AreSameArguments d d' xs xs' → IsClose R d xs → IsClose R d' xs'
IsClose-same R d d' xs xs' j same h m k a b = let w = h m k a b in (w.0, w.1, w.2, AreNear-same m k d d' w.0 xs xs' w.1 j same w.3, w.4)

-- and inside
pub IsInside-same : (R : ℕ → List Argument → Type 0) (d d' : ℕ) (xs xs' : List Argument) → 0 < d → AreSameArguments d d' xs xs' → IsInside R d xs → IsInside R d' xs'
IsInside-same R d d' xs xs' i same h =
    (h.0, h.1, h.2, h.3, λ e ys p n. h.4 e ys p (AreNear-same h.0 h.1 d' d e xs' xs ys i (AreSameArguments-sym d d' xs xs' same) n))

-- a name reads alike of the same values where the relations and views do
pub read_as-same : (I : Meaning) (n : List ℕ) (r : Reading) (d d' : ℕ) (xs xs' : List Argument) → 0 < d → 0 < d' → AreSameArguments d d' xs xs'
    → (I n d xs → I n d' xs') → read_as I n r d xs → read_as I n r d' xs'
read_as-same I n itself d d' xs xs' i j same f h = f h
read_as-same I n (closure_of m) d d' xs xs' i j same f h = IsClose-same (I m) d d' xs xs' j same h
read_as-same I n (interior_of m) d d' xs xs' i j same f h = IsInside-same (I m) d d' xs xs' i same h

-- ---- what is close to more, and inside of more

pub IsClose-weaker : (R R' : ℕ → List Argument → Type 0) (d : ℕ) (xs : List Argument) → ((e : ℕ) (ys : List Argument) → R e ys → R' e ys) → IsClose R d xs → IsClose R' d xs
IsClose-weaker R R' d xs f h m k a b = let w = h m k a b in (w.0, w.1, w.2, w.3, f w.0 w.1 w.4)

pub IsInside-weaker : (R R' : ℕ → List Argument → Type 0) (d : ℕ) (xs : List Argument) → ((e : ℕ) (ys : List Argument) → R e ys → R' e ys) → IsInside R d xs → IsInside R' d xs
IsInside-weaker R R' d xs f h = (h.0, h.1, h.2, h.3, λ e ys p n. f e ys (h.4 e ys p n))

-- a name reads alike where what it is made of means the same
pub read_as-alike : (I J : Meaning) (n : List ℕ) (r : Reading) (d : ℕ) (xs : List Argument)
    → ((e : ℕ) (ys : List Argument) → I (base_by n r) e ys ↔ J (base_by n r) e ys) → read_as I n r d xs ↔ read_as J n r d xs
read_as-alike I J n itself d xs f = f d xs
read_as-alike I J n (closure_of m) d xs f = (IsClose-weaker (I m) (J m) d xs (λ e ys. (f e ys).0), IsClose-weaker (J m) (I m) d xs (λ e ys. (f e ys).1))
read_as-alike I J n (interior_of m) d xs f = (IsInside-weaker (I m) (J m) d xs (λ e ys. (f e ys).0), IsInside-weaker (J m) (I m) d xs (λ e ys. (f e ys).1))
