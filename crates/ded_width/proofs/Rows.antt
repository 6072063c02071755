-- The line of a normal order row has one of the two shapes, and a normal row whose line has one is an order row.
--
-- The line is the row divided by 1 or -1.
use Rattle.std.proofs.Common.{◌≡◌, ◌≢◌, ℕ, ◌<◌, ◌≤◌, ◌^◌, nat_le, max, Bool, true, false, cond, ◌&&◌, List, [], ◌∷◌, map, ◌⊎◌, inl, inr, arith, refl, sym, ap, ap₂, ◌∙◌, subst, true≢false}
use Rattle.std.specs.Prelude.{ℤ, pos, negsuc, ◌*ℤ◌, int_lt, int_div, unsigned_abs}
use lib.IntN.{neg_ℤ}
use Rattle.std.proofs.Math.IntN.{*ℤ-zero}
use Rattle.std.specs.Ordering.{int_eq}
use Rattle.std.proofs.lemmas.Int.{ints}
use Rattle.std.proofs.lemmas.Bool.Decides.{nat_tests, Decides-int_eq}
use Rattle.ded_num.specs.Length.{IsWithin, length_of}
use Rattle.ded_num.proofs.Lengths.{length_of-le, length_of_zero, within_from_length}
use Rattle.ded_num.specs.Gcd.{gcd_all}
use Rattle.ded_num.proofs.Signs.{unsigned_abs-neg}
use Rattle.ded_model.specs.declared.slot.Slot.{Slot}
use Rattle.ded_model.specs.declared.row.RowOp.{RowOp}
use Rattle.ded_model.specs.declared.row.RowOp.TheVariants.{Zero}
use Rattle.ded_model.specs.Constraint.{LinearConstraint}
use Rattle.ded_model.specs.Normal.{coefs_over, divisor_of, row_over, normal_row, DivideWhole}
use Rattle.ded_model.specs.Width.{row_length}
use Rattle.ded_model.specs.Lines.{Line, line_with, row_lines}
use Rattle.ded_model.proofs.Divisors.{divisor-whole, divisor-whole_constant}
use Rattle.ded_model.proofs.LineCoefs.{AllNonzero}
use Rattle.ded_model.proofs.Points.{and_left, and_right}
use Rattle.ded_model.proofs.Members.{or_split}
use Rattle.ded_row.proofs.Pieces.{normal_gcd}
use Rattle.ded_row.proofs.Forms.{normal_row-normal}
use Rattle.ded_width.specs.Reach.{AreAscending}
use Rattle.ded_order.specs.OrderRows.{are_opposite_units, is_order_with}
use Rattle.ded_order.proofs.Units.{neg_neg}
use Rattle.ded_width.specs.Orderly.{points_with, row_reach, is_point, IsOrdered}
use Rattle.ded_width.proofs.Points.{point_here, point_turned}
use Rattle.ded_width.proofs.Shapes.{one_line, two_line, IsPointPair, IsShape, AreShapes, single, line_two}

-- ---- what a normal row is divided by

-- 1 or -1
abbrev IsUnit : ℤ → Type 0
IsUnit d = (d ≡ pos 1) ⊎ (d ≡ negsuc 0)

-- the row has coefficients that are not 0, of ascending rational slots, and is normal
pub record IsGoodRow (op : RowOp) (cs : List (Slot × ℤ)) (constant : ℤ) : Type 0 where
  pub ascending : AreAscending cs
  pub nonzero : AllNonzero cs
  pub normal : normal_row (record { coefs = cs; constant = constant; op = op }) ≡ record { coefs = cs; constant = constant; op = op }

unit_divisor : (op : RowOp) (constant : ℤ) (x : Slot × ℤ) (xs : List (Slot × ℤ)) → x.1 ≢ pos 0
    → normal_row (record { coefs = x ∷ xs; constant = constant; op = op }) ≡ record { coefs = x ∷ xs; constant = constant; op = op } → IsUnit (divisor_of Zero constant (x ∷ xs))
unit_divisor op constant x xs n e = go (int_lt x.1 (pos 0)) (gcd_all (constant ∷ map (λ d. d.1) (x ∷ xs))) (normal_gcd op constant x xs n e)
  where
    go : (b : Bool) (g : ℕ) → g ≡ 1 → IsUnit (cond b (neg_ℤ (pos g)) (pos g))
    go true g f = inr (ap (λ m. neg_ℤ (pos m)) f)
    go false g f = inl (ap pos f)

turned_within : (k : ℕ) (z : ℤ) → IsWithin k z → IsWithin k (neg_ℤ z)
turned_within k z h = subst (λ n. n < 2 ^ k) (sym (unsigned_abs-neg z)) h

-- ---- from rows to lines

-- two quotients by one such divisor
record IsTurned (a c x z : ℤ) : Type 0 where
  is : ((x ≡ a) × (z ≡ c)) ⊎ ((x ≡ neg_ℤ a) × (z ≡ neg_ℤ c))

both_turned : (d a c x z : ℤ) → IsUnit d → d *ℤ x ≡ a → d *ℤ z ≡ c → IsTurned a c x z
both_turned d a c x z (inl e) f g = record { is = inl (plain x a (subst (λ k. k *ℤ x ≡ a) e f), plain z c (subst (λ k. k *ℤ z ≡ c) e g)) }
  where
    plain : (q z : ℤ) → pos 1 *ℤ q ≡ z → q ≡ z
    plain q z e = omega (arith, ints)
both_turned d a c x z (inr e) f g = record { is = inr (plain x a (subst (λ k. k *ℤ x ≡ a) e f), plain z c (subst (λ k. k *ℤ z ≡ c) e g)) }
  where
    plain : (q z : ℤ) → negsuc 0 *ℤ q ≡ z → q ≡ neg_ℤ z
    plain q z e = omega (arith, ints)

-- they are in the list where the numbers are, and back
turned_point : (ps : List (ℤ × ℤ)) (a c x z : ℤ) → IsTurned a c x z → is_point ps a c ≡ true → is_point ps x z ≡ true
turned_point ps a c x z t h = elim t.is [
  | inl e ↦ ap₂ (λ u v. is_point ps u v) e.0 e.1 ∙ h
  | inr e ↦ ap₂ (λ u v. is_point ps u v) e.0 e.1 ∙ point_turned ps a c h
]

turned_of : (a c x z : ℤ) → IsTurned a c x z → IsTurned x z a c
turned_of a c x z t = elim t.is [
  | inl e ↦ record { is = inl (sym e.0, sym e.1) }
  | inr e ↦ record { is = inr (neg_neg a ∙ ap neg_ℤ (sym e.0), neg_neg c ∙ ap neg_ℤ (sym e.1)) }
]

turned_first : (a c x z : ℤ) → IsTurned a c x z → IsWithin 63 a → IsWithin 63 x
turned_first a c x z t h = elim t.is [ inl e ↦ subst (IsWithin 63) (sym e.0) h | inr e ↦ subst (IsWithin 63) (sym e.0) (turned_within 63 a h) ]

turned_last : (a c x z : ℤ) → IsTurned a c x z → IsWithin 63 c → IsWithin 63 z
turned_last a c x z t h = elim t.is [ inl e ↦ subst (IsWithin 63) (sym e.1) h | inr e ↦ subst (IsWithin 63) (sym e.1) (turned_within 63 c h) ]

-- numbers that are not 0 have such quotients
turned_some : (a c x z : ℤ) → IsTurned a c x z → a ≢ pos 0 → x ≢ pos 0
turned_some a c x z t n e = elim t.is [ inl f ↦ n (sym f.0 ∙ e) | inr f ↦ n (neg_neg a ∙ ap neg_ℤ (sym f.0 ∙ e)) ]

-- of one slot
one_row : (op : RowOp) (x : Slot × ℤ) (c : ℤ) → IsGoodRow op (x ∷ []) c → IsWithin 63 x.1 → IsWithin 63 c → AreShapes ((x.1, c) ∷ []) (line_with (x ∷ []) c)
unfolding normal_row
one_row op x c g h k =
    let d = divisor_of Zero c (x ∷ []) in
    let whole = divisor-whole Zero c (x ∷ []) in
    let t : IsTurned x.1 c (int_div x.1 d) (int_div c d) = both_turned d x.1 c (int_div x.1 d) (int_div c d) (unit_divisor op c x [] g.nonzero.0 g.normal) whole.0 (divisor-whole_constant Zero c x []) in
    single ((x.1, c) ∷ []) (one_line x.0 (int_div x.1 d) (int_div c d)) (inl (record {
      slot = x.0;
      a = int_div x.1 d;
      c = int_div c d;
      is = refl;
      rational = g.ascending.0;
      pair = record {
        nonzero = turned_some x.1 c _ _ t g.nonzero.0;
        normal = (normal_row-normal (one_line x.0 x.1 c) g.nonzero.0).normal;
        point = turned_point ((x.1, c) ∷ []) x.1 c _ _ t (point_here x.1 c []);
        first = turned_first x.1 c _ _ t h;
        last = turned_last x.1 c _ _ t k;
      };
    }))

-- of two slots
units : (a b : ℤ) → are_opposite_units a b ≡ true → (k : ℤ) × (k ≢ pos 0) × (a ≡ k *ℤ pos 1) × (b ≡ k *ℤ negsuc 0)
units a b h = elim (or_split (int_eq a (pos 1) && int_eq b (negsuc 0)) _ h) [
  | inl e ↦ (pos 1, (λ z. absurd (omega (arith, ints, z))), (Decides-int_eq a (pos 1)).0 (and_left (int_eq a (pos 1)) _ e), (Decides-int_eq b (negsuc 0)).0 (and_right (int_eq a (pos 1)) _ e))
  | inr e ↦ (negsuc 0, (λ z. absurd (omega (arith, ints, z))), (Decides-int_eq a (negsuc 0)).0 (and_left (int_eq a (negsuc 0)) _ e), (Decides-int_eq b (pos 1)).0 (and_right (int_eq a (negsuc 0)) _ e))
]

two_row : (op : RowOp) (x y : Slot × ℤ) (c : ℤ) → IsGoodRow op (x ∷ y ∷ []) c → is_order_with (x ∷ y ∷ []) c ≡ true → AreShapes [] (line_with (x ∷ y ∷ []) c)
two_row op x y c g h =
    let u = units x.1 y.1 (and_right (int_eq c (pos 0)) _ h) in
    let zero_constant : c ≡ pos 0 = (Decides-int_eq c (pos 0)).0 (and_left (int_eq c (pos 0)) _ h) in
    subst (AreShapes [])
    (sym (numbers x.0 y.0 x.1 y.1 c (u.0 *ℤ pos 1) (u.0 *ℤ negsuc 0) (u.0 *ℤ pos 0) u.2 u.3 (zero_constant ∙ sym (*ℤ-zero u.0)) ∙ line_two x.0 y.0 u.0 u.1))
    (single [] (two_line x.0 y.0) (inr (record { first = x.0; second = y.0; is = refl; rational = g.ascending.0; other = g.ascending.2.0; below = g.ascending.1.0 })))
  where
    numbers : (s t : Slot) (a b c a' b' c' : ℤ) → a ≡ a' → b ≡ b' → c ≡ c' → line_with ((s, a) ∷ (t, b) ∷ []) c ≡ line_with ((s, a') ∷ (t, b') ∷ []) c'
    numbers s t a b c a' b' c' e f g = ap₂ (λ u v. line_with ((s, u) ∷ (t, v) ∷ []) c) e f ∙ ap (λ w. line_with ((s, a') ∷ (t, b') ∷ []) w) g

-- what is at most as long
short_of : (z : ℤ) (k : ℕ) → nat_le (max (length_of z) k) 63 ≡ true → IsWithin 63 z
short_of z k h = within_from_length z 63 (less (length_of z) k h)
  where
    less : (m k : ℕ) → nat_le (max m k) 63 ≡ true → m ≤ 63
    less m k h = let l = below (max m k) h in omega (arith, l)
      where
        below : (n : ℕ) → nat_le n 63 ≡ true → n ≤ 63
        below n h = grind (arith, nat_tests)

short_rest : (m k : ℕ) → nat_le (max m k) 63 ≡ true → nat_le k 63 ≡ true
short_rest m k h = let l = below (max m k) h in back k (omega (arith, l))
  where
    below : (n : ℕ) → nat_le n 63 ≡ true → n ≤ 63
    below n h = grind (arith, nat_tests)

    back : (n : ℕ) → n ≤ 63 → nat_le n 63 ≡ true
    back n h = grind (arith, nat_tests)

-- so the lines of an order row that is short have the shapes
row_with : (op : RowOp) (cs : List (Slot × ℤ)) (c : ℤ) → IsGoodRow op cs c → is_order_with cs c ≡ true → nat_le (row_length (record { coefs = cs; constant = c; op = op })) 63 ≡ true
    → AreShapes (points_with cs c) (line_with cs c)
row_with op [] c g h k = λ l i. absurd i
row_with op (x ∷ []) c g h k = one_row op x c g (short_of x.1 0 (short_rest (length_of c) (max (length_of x.1) 0) k)) (short_of c (max (length_of x.1) 0) k)
row_with op (x ∷ y ∷ []) c g h k = two_row op x y c g h
row_with op (x ∷ y ∷ z ∷ cs) c g h k = absurd (true≢false (sym h))

pub row_shapes : (r : LinearConstraint) → IsGoodRow r.op r.coefs r.constant → (row_reach r).orderly ≡ true → (row_reach r).short ≡ true → AreShapes (row_reach r).points (row_lines r)
row_shapes r g h k = row_with r.op r.coefs r.constant g h k

-- ---- from lines to rows

most : (m n k : ℕ) → m ≤ 63 → n ≤ 63 → k ≤ 63 → max m (max n (max k 0)) ≤ 63
most m n k h i j = omega arith

-- of a line with one slot
from_one : (ps : List (ℤ × ℤ)) (op : RowOp) (x : Slot × ℤ) (xs : List (Slot × ℤ)) (c d : ℤ) (s : Slot) (a b : ℤ) → IsUnit d → DivideWhole d (x ∷ xs) → d *ℤ int_div c d ≡ c
    → coefs_over d (x ∷ xs) ≡ (s, a) ∷ [] → int_div c d ≡ b → IsPointPair ps s a b → IsOrdered ps (record { coefs = x ∷ xs; constant = c; op = op })
from_one ps op x [] c d s a b u w wc e f p =
    let first : int_div x.1 d ≡ a = ap head_number e in
    let t : IsTurned a b x.1 c = turned_of x.1 c a b (both_turned d x.1 c a b u (ap (λ q. d *ℤ q) (sym first) ∙ w.0) (ap (λ q. d *ℤ q) (sym f) ∙ wc)) in
    record {
      order = refl;
      short = most_one (length_of c) (length_of x.1) (length_of-le c 63 (turned_last a b x.1 c t p.last)) (length_of-le x.1 63 (turned_first a b x.1 c t p.first));
      between = λ n. turned_point ps a b x.1 c t p.point;
    }
  where
    head_number : List (Slot × ℤ) → ℤ
    head_number [] = pos 0
    head_number (y ∷ ys) = y.1

    most_one : (m n : ℕ) → m ≤ 63 → n ≤ 63 → max m (max n 0) ≤ 63
    most_one m n h k = omega arith
from_one ps op x (y ∷ ys) c d s a b u w wc e f p = absurd (shorter e)
  where
    tail_some : List (Slot × ℤ) → Bool
    tail_some [] = false
    tail_some (x ∷ []) = false
    tail_some (x ∷ y ∷ ys) = true

    shorter : coefs_over d (x ∷ y ∷ ys) ≡ (s, a) ∷ [] → ⊥
    shorter e = true≢false (ap tail_some e)

-- of a line with two
from_two : (ps : List (ℤ × ℤ)) (op : RowOp) (x : Slot × ℤ) (xs : List (Slot × ℤ)) (c d : ℤ) (s t : Slot) → IsUnit d → DivideWhole d (x ∷ xs) → d *ℤ int_div c d ≡ c
    → coefs_over d (x ∷ xs) ≡ (s, pos 1) ∷ (t, negsuc 0) ∷ [] → int_div c d ≡ pos 0 → IsOrdered ps (record { coefs = x ∷ xs; constant = c; op = op })
from_two ps op x [] c d s t u w wc e f = absurd (true≢false (sym (ap tail_some e)))
  where
    tail_some : List (Slot × ℤ) → Bool
    tail_some [] = false
    tail_some (x ∷ []) = false
    tail_some (x ∷ y ∷ ys) = true
from_two ps op x (y ∷ z ∷ zs) c d s t u w wc e f = absurd (true≢false (ap tail_more e))
  where
    tail_more : List (Slot × ℤ) → Bool
    tail_more [] = false
    tail_more (x ∷ []) = false
    tail_more (x ∷ y ∷ []) = false
    tail_more (x ∷ y ∷ z ∷ zs) = true
from_two ps op x (y ∷ []) c d s t u w wc e f =
    by d x.1 y.1 c u (sym w.0 ∙ ap (λ q. d *ℤ q) (ap first_of e)) (sym w.1.0 ∙ ap (λ q. d *ℤ q) (ap second_of e)) (sym wc ∙ ap (λ q. d *ℤ q) f)
  where
    first_of : List (Slot × ℤ) → ℤ
    first_of [] = pos 0
    first_of (y ∷ ys) = y.1

    second_of : List (Slot × ℤ) → ℤ
    second_of [] = pos 0
    second_of (x ∷ []) = pos 0
    second_of (x ∷ y ∷ ys) = y.1

    is_ordered : (a b k : ℤ) → is_order_with ((x.0, a) ∷ (y.0, b) ∷ []) k ≡ true → IsWithin 63 a → IsWithin 63 b → IsWithin 63 k → IsOrdered ps (record { coefs = (x.0, a) ∷ (y.0, b) ∷ []; constant = k; op = op })
    is_ordered a b k o h i j = record {
      order = o;
      short = most (length_of k) (length_of a) (length_of b) (length_of-le k 63 j) (length_of-le a 63 h) (length_of-le b 63 i);
      between = λ n. tt;
    }

    with_numbers : (a b k a' b' k' : ℤ) → a ≡ a' → b ≡ b' → k ≡ k' → IsOrdered ps (record { coefs = (x.0, a') ∷ (y.0, b') ∷ []; constant = k'; op = op }) → IsOrdered ps (record { coefs = (x.0, a) ∷ (y.0, b) ∷ []; constant = k; op = op })
    with_numbers a b k a' b' k' e f g h =
        subst (λ u. IsOrdered ps (record { coefs = (x.0, u) ∷ (y.0, b) ∷ []; constant = k; op = op })) (sym e)
        (subst (λ u. IsOrdered ps (record { coefs = (x.0, a') ∷ (y.0, u) ∷ []; constant = k; op = op })) (sym f)
        (subst (λ u. IsOrdered ps (record { coefs = (x.0, a') ∷ (y.0, b') ∷ []; constant = u; op = op })) (sym g) h))

    by : (d a b k : ℤ) → IsUnit d → a ≡ d *ℤ pos 1 → b ≡ d *ℤ negsuc 0 → k ≡ d *ℤ pos 0 → IsOrdered ps (record { coefs = (x.0, a) ∷ (y.0, b) ∷ []; constant = k; op = op })
    by d a b k (inl h) i j l =
        with_numbers a b k (pos 1) (negsuc 0) (pos 0) (i ∙ ap (λ q. q *ℤ pos 1) h) (j ∙ ap (λ q. q *ℤ negsuc 0) h) (l ∙ ap (λ q. q *ℤ pos 0) h)
        (is_ordered (pos 1) (negsuc 0) (pos 0) refl (omega arith) (omega arith) (omega arith))
    by d a b k (inr h) i j l =
        with_numbers a b k (negsuc 0) (pos 1) (pos 0) (i ∙ ap (λ q. q *ℤ pos 1) h) (j ∙ ap (λ q. q *ℤ negsuc 0) h) (l ∙ ap (λ q. q *ℤ pos 0) h)
        (is_ordered (negsuc 0) (pos 1) (pos 0) refl (omega arith) (omega arith) (omega arith))

-- of a normal row with its line
row_ordered : (ps : List (ℤ × ℤ)) (op : RowOp) (cs : List (Slot × ℤ)) (c : ℤ) → IsGoodRow op cs c → AreShapes ps (line_with cs c) → IsOrdered ps (record { coefs = cs; constant = c; op = op })
unfolding normal_row
row_ordered ps op [] c g h =
    let none : 0 ≡ length_of c = length_of_zero c (ap (λ (r : LinearConstraint). unsigned_abs r.constant) (sym g.normal)) in
    record { order = refl; short = omega (arith, none); between = λ n. absurd (n refl) }
row_ordered ps op (x ∷ xs) c g h =
    go (h (row_over (divisor_of Zero c (x ∷ xs)) (record { coefs = x ∷ xs; constant = c; op = Zero })) (inl refl))
  where
    go : IsShape ps (row_over (divisor_of Zero c (x ∷ xs)) (record { coefs = x ∷ xs; constant = c; op = Zero })) → IsOrdered ps (record { coefs = x ∷ xs; constant = c; op = op })
    go (inl o) = from_one ps op x xs c (divisor_of Zero c (x ∷ xs)) o.slot o.a o.c (unit_divisor op c x xs g.nonzero.0 g.normal) (divisor-whole Zero c (x ∷ xs)) (divisor-whole_constant Zero c x xs)
        (ap (λ (r : LinearConstraint). r.coefs) o.is) (ap (λ (r : LinearConstraint). r.constant) o.is) o.pair
    go (inr t) = from_two ps op x xs c (divisor_of Zero c (x ∷ xs)) t.first t.second (unit_divisor op c x xs g.nonzero.0 g.normal) (divisor-whole Zero c (x ∷ xs)) (divisor-whole_constant Zero c x xs)
        (ap (λ (r : LinearConstraint). r.coefs) t.is) (ap (λ (r : LinearConstraint). r.constant) t.is)

pub shapes_row : (ps : List (ℤ × ℤ)) (r : LinearConstraint) → IsGoodRow r.op r.coefs r.constant → AreShapes ps (row_lines r) → IsOrdered ps r
shapes_row ps r g h = row_ordered ps r.op r.coefs r.constant g h

-- a line is ordered itself
pub shape_ordered : (ps : List (ℤ × ℤ)) (l : Line) → IsShape ps l → (l.coefs ≢ []) × IsOrdered ps l
shape_ordered ps l (inl o) = subst (λ (m : Line). (m.coefs ≢ []) × IsOrdered ps m) (sym o.is) (
  some,
  record {
    order = refl;
    short = most_one (length_of o.c) (length_of o.a) (length_of-le o.c 63 o.pair.last) (length_of-le o.a 63 o.pair.first);
    between = λ n. o.pair.point;
  },
)
  where
    is_some : List (Slot × ℤ) → Bool
    is_some [] = false
    is_some (x ∷ xs) = true

    some : (one_line o.slot o.a o.c).coefs ≢ []
    some e = true≢false (ap is_some e)

    most_one : (m n : ℕ) → m ≤ 63 → n ≤ 63 → max m (max n 0) ≤ 63
    most_one m n h k = omega arith
shape_ordered ps l (inr t) = subst (λ (m : Line). (m.coefs ≢ []) × IsOrdered ps m) (sym t.is) (
  some,
  record {
    order = refl;
    short = most (length_of (pos 0)) (length_of (pos 1)) (length_of (negsuc 0)) (length_of-le (pos 0) 63 (omega arith)) (length_of-le (pos 1) 63 (omega arith)) (length_of-le (negsuc 0) 63 (omega arith));
    between = λ n. tt;
  },
)
  where
    is_some : List (Slot × ℤ) → Bool
    is_some [] = false
    is_some (x ∷ xs) = true

    some : (two_line t.first t.second).coefs ≢ []
    some e = true≢false (ap is_some e)
