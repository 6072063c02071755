-- Values that are equal as rationals or texts, and the arguments that they make.
--
-- A value is a number over the point's denominator times its own. Two values are equal where these fractions are, crosswise, and
-- the texts are the same. Equal values make arguments that are the same over the denominators of the whole lists, so a name
-- that respects the same arguments holds of both.
use Rattle.std.proofs.Common.{◌≡◌, ℕ, ◌*◌, ◌<◌, List, [], ◌∷◌, arith, sym, ap, ◌∙◌, map, mul-pos}
use Rattle.std.specs.Prelude.{ℤ, pos, ◌*ℤ◌}
use Rattle.ded_model.specs.Value.{OperandValue, Argument, argument_times, overs, arguments, Meaning, NameHolds}
use Rattle.ded_num.proofs.Ring.{parts, ring, diff-pos, diff_same}
use Rattle.ded_model.proofs.Values.{IsSameValue, AreSameArguments, swap_law}
use Rattle.ded_model.proofs.Sats.{Respects}
use Rattle.ded_algebra.proofs.SamePoints.{cancelled}

-- equal over the denominators d and d' of two points
pub record IsEqualValue (d d' : ℕ) (v w : OperandValue) : Type 0 where
  pub number : v.number *ℤ pos (d' * w.over) ≡ w.number *ℤ pos (d * v.over)
  pub text : v.text ≡ w.text

product_law : (a : ℤ) (d n : ℕ) → a *ℤ pos (d * n) ≡ (a *ℤ pos d) *ℤ pos n
product_law a d n = rw (parts a, diff-pos (d * n), diff-pos d, diff-pos n) (simp ring (diff_same _ _ _ _ (omega arith)))

-- what is the same value is equal
pub same-equal : (d d' : ℕ) (v w : OperandValue) → IsSameValue d d' v w → IsEqualValue d d' v w
same-equal d d' v w h = record {
  number = product_law v.number d' w.over ∙ ap (λ z. z *ℤ pos w.over) h.number ∙ ap (λ n. (w.number *ℤ pos d) *ℤ pos n) (sym h.over) ∙ sym (product_law w.number d v.over);
  text = h.text;
}

-- equal to one that is equal
pub equal_trans : (a b c : ℕ) (v w x : OperandValue) → 0 < b → 0 < w.over → IsEqualValue a b v w → IsEqualValue b c w x → IsEqualValue a c v x
equal_trans a b c v w x i o h k = record {
  number = cancelled (b * w.over) (v.number *ℤ pos (c * x.over)) (x.number *ℤ pos (a * v.over)) (mul-pos i o)
      (swap_law v.number (pos (c * x.over)) (pos (b * w.over)) ∙ ap (λ z. z *ℤ pos (c * x.over)) h.number ∙ swap_law w.number (pos (a * v.over)) (pos (c * x.over))
      ∙ ap (λ z. z *ℤ pos (a * v.over)) k.number ∙ swap_law x.number (pos (b * w.over)) (pos (a * v.over)));
  text = h.text ∙ k.text;
}

-- ---- arguments

-- value by value
abbrev pub AreEqualValues : ℕ → ℕ → List OperandValue → List OperandValue → Type 0
AreEqualValues d d' [] [] = Unit {0}
AreEqualValues d d' [] (w ∷ ws) = ⊥
AreEqualValues d d' (v ∷ vs) [] = ⊥
AreEqualValues d d' (v ∷ vs) (w ∷ ws) = IsEqualValue d d' v w × AreEqualValues d d' vs ws

head_left : (n : ℤ) (o d v w : ℕ) → (n *ℤ pos o) *ℤ pos (d * (v * w)) ≡ (n *ℤ pos (d * v)) *ℤ pos (o * w)
head_left n o d v w =
    rw (parts n, diff-pos o, diff-pos (d * (v * w)), diff-pos (d * v), diff-pos (o * w)) (simp ring (diff_same _ _ _ _ (omega arith)))

head_right : (n : ℤ) (o d v w : ℕ) → (n *ℤ pos (d * v)) *ℤ pos (o * w) ≡ (n *ℤ pos w) *ℤ pos (d * (v * o))
head_right n o d v w =
    rw (parts n, diff-pos w, diff-pos (d * (v * o)), diff-pos (d * v), diff-pos (o * w)) (simp ring (diff_same _ _ _ _ (omega arith)))

tail_left : (n : ℤ) (x d w o : ℕ) → (n *ℤ pos x) *ℤ pos (d * (w * o)) ≡ (n *ℤ pos (d * o)) *ℤ pos (x * w)
tail_left n x d w o =
    rw (parts n, diff-pos x, diff-pos (d * (w * o)), diff-pos (d * o), diff-pos (x * w)) (simp ring (diff_same _ _ _ _ (omega arith)))

tail_right : (n : ℤ) (x d w o : ℕ) → (n *ℤ pos (d * o)) *ℤ pos (x * w) ≡ (n *ℤ pos w) *ℤ pos (d * (x * o))
tail_right n x d w o =
    rw (parts n, diff-pos w, diff-pos (d * (x * o)), diff-pos (d * o), diff-pos (x * w)) (simp ring (diff_same _ _ _ _ (omega arith)))

-- a factor more of arguments and denominators
more-equal : (d d' o o' v w : ℕ) (xs ys : List Argument) → AreSameArguments (d * o) (d' * o') xs ys
    → AreSameArguments (d * (v * o)) (d' * (w * o')) (map (argument_times v) xs) (map (argument_times w) ys)
more-equal d d' o o' v w [] [] h = tt
more-equal d d' o o' v w [] (y ∷ ys) h = absurd h
more-equal d d' o o' v w (x ∷ xs) [] h = absurd h
more-equal d d' o o' v w (x ∷ xs) (y ∷ ys) h = (
  tail_left x.0 v d' w o' ∙ ap (λ z. z *ℤ pos (v * w)) h.0 ∙ tail_right y.0 v d w o,
  h.1,
  more-equal d d' o o' v w xs ys h.2,
)

-- equal values make the same arguments
pub arguments-equal : (d d' : ℕ) (vs ws : List OperandValue) → AreEqualValues d d' vs ws → AreSameArguments (d * overs vs) (d' * overs ws) (arguments vs) (arguments ws)
arguments-equal d d' [] [] h = tt
arguments-equal d d' [] (w ∷ ws) h = absurd h
arguments-equal d d' (v ∷ vs) [] h = absurd h
arguments-equal d d' (v ∷ vs) (w ∷ ws) h = (
  head_left v.number (overs vs) d' w.over (overs ws) ∙ ap (λ z. z *ℤ pos (overs vs * overs ws)) h.0.number ∙ head_right w.number (overs vs) d v.over (overs ws),
  h.0.text,
  more-equal d d' (overs vs) (overs ws) v.over w.over (arguments vs) (arguments ws) (arguments-equal d d' vs ws h.1),
)

-- so a name holds alike of equal values
pub NameHolds-equal : (I : Meaning) → Respects I → (n : List ℕ) (d d' : ℕ) (vs ws : List OperandValue) → 0 < d → 0 < d' → 0 < overs vs → 0 < overs ws → AreEqualValues d d' vs ws
    → NameHolds I n d vs → NameHolds I n d' ws
NameHolds-equal I R n d d' vs ws i j o u h s =
    R.keeps n (d * overs vs) (d' * overs ws) (arguments vs) (arguments ws) (mul-pos i o) (mul-pos j u) (arguments-equal d d' vs ws h) s

-- and the other way round
pub equal_sym : (d d' : ℕ) (v w : OperandValue) → IsEqualValue d d' v w → IsEqualValue d' d w v
equal_sym d d' v w h = record { number = sym h.number; text = sym h.text }

pub equals_sym : (d d' : ℕ) (vs ws : List OperandValue) → AreEqualValues d d' vs ws → AreEqualValues d' d ws vs
equals_sym d d' [] [] h = tt
equals_sym d d' [] (w ∷ ws) h = absurd h
equals_sym d d' (v ∷ vs) [] h = absurd h
equals_sym d d' (v ∷ vs) (w ∷ ws) h = (equal_sym d d' v w h.0, equals_sym d d' vs ws h.1)
