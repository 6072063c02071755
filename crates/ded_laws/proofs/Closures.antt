-- The closure and the interior of what is definable are definable, and so is what every name means.
--
-- A closure says: for every radius above 0 there are new numbers, each nearer to the old one than the radius, of which it
-- holds with the old texts. So it is a formula with quantifiers of its own: one over the radius and one for each number.
-- The arguments stand at slots from 0 on and at names (`number_key`, `text_key`), the new numbers at slots of texts
-- (`new_key`), so no two of these keys are the same. An interior has the opposite quantifiers. Over a denominator of 0
-- nothing is near, and no arguments at all are near to themselves alone; both are treated apart.
use Rattle.std.proofs.Common.{◌≡◌, ℕ, zero, suc, ◌+◌, ◌*◌, ◌≤◌, ◌<◌, ◌==◌, ◌&&◌, ◌⊎◌, inl, inr, ⊎_elim, Bool, true, false, cond, List, [], ◌∷◌, ◌++◌, arith, refl, sym, ap, ◌∙◌, subst, mul-pos}
use Rattle.std.specs.Prelude.{◌↔◌, ℤ, pos, negsuc, ◌+ℤ◌, ◌-ℤ◌, ◌*ℤ◌, ◌<ℤ◌, unsigned_abs}
use lib.IntN.{neg_ℤ}
use Rattle.std.proofs.lemmas.Int.{ints}
use Rattle.std.proofs.lemmas.Bool.Decides.{nat_tests}
use Rattle.std.proofs.Math.Nat.{mul-lt-mul_of_pos_right, lt_of_mul-lt-mul_right}
use Rattle.ded_num.proofs.Ring.{parts, ring, diff-pos, diff_same}
use Rattle.ded_model.specs.declared.slot.Sort.TheVariants.{Rat, Text}
use Rattle.ded_model.specs.declared.row.RowOp.TheVariants.{Below}
use Rattle.ded_model.specs.Point.{Key, slot, name, Value, number, text, Point, IsNumberExtension, IsExtension, same_key, absent, last_from, as_number, as_text, number_at, text_at, all_times}
use Rattle.ded_model.specs.Value.{Argument}
use Rattle.ded_model.specs.Near.{IsNear, AreNear, IsClose, IsInside}
use Rattle.ded_model.proofs.Core.{Meets}
use Rattle.ded_model.proofs.Points.{same_key_refl, number_at-extended, number_at-kept, text_at-number_kept}
use Rattle.ded_model.proofs.Terms.{linear_at, plus, unit, const, linear-plus, linear-unit, linear-const, linear-zero, at, quoted, word_at, LineHolds, Put}
use Rattle.ded_model.proofs.Definable.{Definable, decided, like, always_definable, never_definable, line_definable, not_definable, either_definable, both_definable, implies_definable, exists_definable, forall_definable, put_definable, SomeExtension, EveryExtension}
use Rattle.ded_model.proofs.Atoms.{less_line, linear-difference}
use Rattle.ded_model.proofs.Values.{AreSameArguments}
use Rattle.ded_laws.proofs.ValueForms.{args}
use Rattle.ded_laws.proofs.Saying.{Says, absent_put, absent-says, either_says, puts_numbers, puts_texts}
use Rattle.ded_model.proofs.Nearness.{abs_times, AreSameArguments-sym}
use Rattle.std.proofs.Math.Bool.{and-false}
use Rattle.ded_num.proofs.Signs.{once, times_pos_twice, abs_positive}

-- ---- keys
abbrev pub number_key : ℕ → Key
number_key i = slot (record { number = i; sort = Rat })

abbrev pub text_key : ℕ → Key
text_key i = name (i ∷ [])

abbrev pub new_key : ℕ → Key
new_key i = slot (record { number = i; sort = Text })

abbrev pub radius : Key
radius = name []

other_slot : (i j : ℕ) (b : Bool) → i < j → ((i == j) && b) ≡ false
other_slot i j b h = let e : (i == j) ≡ false = grind (arith, nat_tests) in rw e refl

-- the key is none of the new ones from i on
abbrev Away : ℕ → Key → Type 0
Away i k = (j : ℕ) → i ≤ j → same_key k (new_key j) ≡ false

number_away : (i j : ℕ) → Away i (number_key j)
number_away i j l h = and-false (j == l)

text_away : (i j : ℕ) → Away i (text_key j)
text_away i j l h = refl

radius_away : (i : ℕ) → Away i radius
radius_away i l h = refl

new_away : (i : ℕ) → Away (i + 1) (new_key i)
new_away i l h = other_slot i l true (omega arith)

away_next : (i : ℕ) (k : Key) → Away i k → Away (i + 1) k
away_next i k a j h = a j (omega arith)

-- ---- the arguments at a point: at their keys, and with new numbers
abbrev pub generic : ℕ → List Put → List Put
generic i [] = []
generic i (t ∷ ts) = record { number = unit (number_key i); word = at (text_key i) } ∷ generic (i + 1) ts

abbrev pub moved : ℕ → List Put → List Put
moved i [] = []
moved i (t ∷ ts) = record { number = unit (new_key i); word = at (text_key i) } ∷ moved (i + 1) ts

-- ---- distances
abbrev IsWithin : Key → Key → Point → Type 0
IsWithin a b p = number_at p a <ℤ (number_at p b +ℤ number_at p radius)

pub less_to : (x y : ℤ) → x <ℤ y → (x +ℤ neg_ℤ y) <ℤ pos 0
less_to x y h = omega (arith, ints)

pub less_from : (x y : ℤ) → (x +ℤ neg_ℤ y) <ℤ pos 0 → x <ℤ y
less_from x y h = omega (arith, ints)

unfoldable pub within_definable : (a b : Key) → Definable (λ p. number_at p a <ℤ (number_at p b +ℤ number_at p radius))
within_definable a b = like
    (λ p. LineHolds p (less_line true (unit a) (plus (unit b) (unit radius))))
    (λ p. number_at p a <ℤ (number_at p b +ℤ number_at p radius))
    (λ p. let e = linear-difference (unit a) (plus (unit b) (unit radius)) p ∙ rw (linear-plus (unit b) (unit radius) p, linear-unit a p, linear-unit b p, linear-unit radius p) refl in (
      λ h. less_from (number_at p a) (number_at p b +ℤ number_at p radius) (subst (Meets Below) e h),
      λ h. subst (Meets Below) (sym e) (less_to (number_at p a) (number_at p b +ℤ number_at p radius) h),
    ))
    (line_definable (less_line true (unit a) (plus (unit b) (unit radius))))

unfoldable pub above_definable : (k : Key) → Definable (λ p. pos 0 <ℤ number_at p k)
above_definable k = like
    (λ p. LineHolds p (less_line true (const (pos 0)) (unit k)))
    (λ p. pos 0 <ℤ number_at p k)
    (λ p. let e = linear-difference (const (pos 0)) (unit k) p ∙ rw (linear-zero p, linear-unit k p) refl in (
      λ h. less_from (pos 0) (number_at p k) (subst (Meets Below) e h),
      λ h. subst (Meets Below) (sym e) (less_to (pos 0) (number_at p k) h),
    ))
    (line_definable (less_line true (const (pos 0)) (unit k)))

pub den_law : (d : ℕ) → pos 1 *ℤ pos d ≡ pos d
den_law d = let e : 1 * d ≡ d = omega arith in ap pos e

unfoldable pub den_definable : Definable (λ p. 0 < p.den)
den_definable = like
    (λ p. LineHolds p (less_line true (const (pos 0)) (const (pos 1))))
    (λ p. 0 < p.den)
    (λ p. let e = linear-difference (const (pos 0)) (const (pos 1)) p ∙ rw (linear-zero p, linear-const (pos 1) p, den_law p.den) refl in (
      λ h. let l = less_from (pos 0) (pos p.den) (subst (Meets Below) e h) in omega (arith, ints),
      λ h. subst (Meets Below) (sym e) (less_to (pos 0) (pos p.den) (omega (arith, ints))),
    ))
    (line_definable (less_line true (const (pos 0)) (const (pos 1))))

-- each new number is nearer than the radius
abbrev pub AllWithin : ℕ → List Put → Point → Type 0
AllWithin i [] p = Unit {0}
AllWithin i (t ∷ ts) p =
    ((number_at p (number_key i) <ℤ (number_at p (new_key i) +ℤ number_at p radius)) × (number_at p (new_key i) <ℤ (number_at p (number_key i) +ℤ number_at p radius)))
    × AllWithin (i + 1) ts p

unfoldable pub all_within_definable : (i : ℕ) (ts : List Put) → Definable (AllWithin i ts)
all_within_definable i [] = always_definable
all_within_definable i (t ∷ ts) =
    both_definable (λ p. (number_at p (number_key i) <ℤ (number_at p (new_key i) +ℤ number_at p radius)) × (number_at p (new_key i) <ℤ (number_at p (number_key i) +ℤ number_at p radius)))
    (AllWithin (i + 1) ts)
    (both_definable (λ p. number_at p (number_key i) <ℤ (number_at p (new_key i) +ℤ number_at p radius)) (λ p. number_at p (new_key i) <ℤ (number_at p (number_key i) +ℤ number_at p radius))
    (within_definable (number_key i) (new_key i)) (within_definable (new_key i) (number_key i)))
    (all_within_definable (i + 1) ts)

-- ---- one quantifier for each new number
abbrev pub SomeNew : (Point → Type 0) → ℕ → List Put → Point → Type 0
SomeNew P i [] p = P p
SomeNew P i (t ∷ ts) p = SomeExtension Rat (new_key i) (SomeNew P (i + 1) ts) p

abbrev pub EveryNew : (Point → Type 0) → ℕ → List Put → Point → Type 0
EveryNew P i [] p = P p
EveryNew P i (t ∷ ts) p = EveryExtension Rat (new_key i) (EveryNew P (i + 1) ts) p

unfoldable pub some_new_definable : (P : Point → Type 0) → Definable P → (i : ℕ) (ts : List Put) → Definable (SomeNew P i ts)
some_new_definable P D i [] = D
some_new_definable P D i (t ∷ ts) = exists_definable Rat (new_key i) (SomeNew P (i + 1) ts) (some_new_definable P D (i + 1) ts)

unfoldable pub every_new_definable : (P : Point → Type 0) → Definable P → (i : ℕ) (ts : List Put) → Definable (EveryNew P i ts)
every_new_definable P D i [] = D
every_new_definable P D i (t ∷ ts) = forall_definable Rat (new_key i) (EveryNew P (i + 1) ts) (every_new_definable P D (i + 1) ts)

-- q has the new numbers that p has not
abbrev Grows : ℕ → List Put → Point → Point → Type 0
Grows i [] p q = p ≡ q
Grows i (t ∷ ts) p q = (r : Point) × IsExtension Rat p (new_key i) r × Grows (i + 1) ts r q

some_to : (P : Point → Type 0) (i : ℕ) (ts : List Put) (p : Point) → SomeNew P i ts p → (q : Point) × Grows i ts p q × P q
some_to P i [] p h = (p, refl, h)
some_to P i (t ∷ ts) p h = let w = some_to P (i + 1) ts h.0 h.2 in (w.0, (h.0, h.1, w.1), w.2)

some_from : (P : Point → Type 0) (i : ℕ) (ts : List Put) (p q : Point) → Grows i ts p q → P q → SomeNew P i ts p
some_from P i [] p q g h = subst P (sym g) h
some_from P i (t ∷ ts) p q g h = (g.0, g.1, some_from P (i + 1) ts g.0 q g.2 h)

every_to : (P : Point → Type 0) (i : ℕ) (ts : List Put) (p q : Point) → EveryNew P i ts p → Grows i ts p q → P q
every_to P i [] p q h g = subst P g h
every_to P i (t ∷ ts) p q h g = every_to P (i + 1) ts g.0 q (h g.0 g.1) g.2

every_from : (P : Point → Type 0) (i : ℕ) (ts : List Put) (p : Point) → ((q : Point) → Grows i ts p q → P q) → EveryNew P i ts p
every_from P i [] p h = h p refl
every_from P i (t ∷ ts) p h = λ r x. every_from P (i + 1) ts r (λ q g. h q (r, x, g))

-- ---- what stays: numbers and texts at other keys, over a finer denominator
record Kept (i : ℕ) (p q : Point) : Type 0 where
  factor : ℕ
  positive : 0 < factor
  den : q.den ≡ p.den * factor
  number : (k : Key) → Away i k → number_at q k ≡ number_at p k *ℤ pos factor
  text : (k : Key) → Away i k → text_at q k ≡ text_at p k

grows_kept : (i : ℕ) (ts : List Put) (p q : Point) → Grows i ts p q → Kept i p q
grows_kept i [] p q g = record {
  factor = 1;
  positive = omega arith;
  den = subst (λ r. r.den ≡ p.den * 1) g (omega arith);
  number = λ k a. subst (λ r. number_at r k ≡ number_at p k *ℤ pos 1) g (sym (once (number_at p k)));
  text = λ k a. subst (λ r. text_at r k ≡ text_at p k) g refl;
}
grows_kept i (t ∷ ts) p q g =
    let r = g.0 in
    let x = g.1 in
    let more = grows_kept (i + 1) ts r q g.2 in
    record {
      factor = x.factor * more.factor;
      positive = mul-pos x.positive more.positive;
      den = let e = x.den in let f = ap (λ n. n * more.factor) e in let h = more.den in omega arith;
      number = λ k a. more.number k (away_next i k a) ∙ ap (λ z. z *ℤ pos more.factor) (number_at-kept p (new_key i) r x k (a i (omega arith))) ∙ times_pos_twice (number_at p k) x.factor more.factor;
      text = λ k a. more.text k (away_next i k a) ∙ text_at-number_kept p (new_key i) r x k (a i (omega arith));
    }

-- ---- new numbers that are given: each times c, over the denominator of p
abbrev HasNew : ℕ → ℕ → List Put → List Argument → Point → Type 0
HasNew c i [] [] q = Unit {0}
HasNew c i [] (y ∷ ys) q = ⊥
HasNew c i (t ∷ ts) [] q = ⊥
HasNew c i (t ∷ ts) (y ∷ ys) q = (number_at q (new_key i) ≡ y.0 *ℤ pos c) × HasNew c (i + 1) ts ys q

record Reached (c i : ℕ) (ts : List Put) (ys : List Argument) (p q : Point) : Type 0 where
  grows : Grows i ts p q
  den : q.den ≡ p.den
  number : (k : Key) → Away i k → number_at q k ≡ number_at p k
  text : (k : Key) → Away i k → text_at q k ≡ text_at p k
  has : HasNew c i ts ys q

abbrev extend : ℕ → Point → Key → ℤ → Point
extend f p k v = record { den = p.den * f; coords = all_times f p.coords ++ (k, number v) ∷ [] }

abbrev extend_is : (f : ℕ) (p : Point) (k : Key) (v : ℤ) → 0 < f → IsNumberExtension p k (extend f p k v)
extend_is f p k v h = record { factor = f; positive = h; value = v; den = refl; coords = refl }

one_above : 0 < 1
one_above = omega arith

reach : (m n d e c i : ℕ) (ts : List Put) (ys : List Argument) (o p : Point) → AreNear m n d e (args (generic i ts) o) ys → (q : Point) × Reached c i ts ys p q
reach m n d e c i [] [] o p h = (p, record { grows = refl; den = refl; number = λ k a. refl; text = λ k a. refl; has = tt })
reach m n d e c i [] (y ∷ ys) o p h = absurd h
reach m n d e c i (t ∷ ts) [] o p h = absurd h
reach m n d e c i (t ∷ ts) (y ∷ ys) o p h =
    let v : ℤ = y.0 *ℤ pos c in
    let r : Point = extend 1 p (new_key i) v in
    let x : IsNumberExtension p (new_key i) r = extend_is 1 p (new_key i) v one_above in
    let w = reach m n d e c (i + 1) ts ys o r h.2 in
    let f = w.1 in (
      w.0,
      record {
        grows = (r, x, f.grows);
        den = f.den ∙ (omega arith);
        number = λ k a. f.number k (away_next i k a) ∙ number_at-kept p (new_key i) r x k (a i (omega arith)) ∙ once (number_at p k);
        text = λ k a. f.text k (away_next i k a) ∙ text_at-number_kept p (new_key i) r x k (a i (omega arith));
        has = (f.number (new_key i) (new_away i) ∙ number_at-extended p (new_key i) r x (new_key i) (same_key_refl (new_key i)), f.has);
      },
    )

-- ---- distances on numbers
abs_below : (z : ℤ) (r : ℕ) → z <ℤ pos r → neg_ℤ z <ℤ pos r → unsigned_abs z < r
abs_below (pos n) r h k = omega (arith, ints)
abs_below (negsuc n) r h k = omega (arith, ints)

pub below_abs : (z : ℤ) (r : ℕ) → unsigned_abs z < r → z <ℤ pos r
below_abs (pos n) r h = omega (arith, ints)
below_abs (negsuc n) r h = omega (arith, ints)

pub below_abs' : (z : ℤ) (r : ℕ) → unsigned_abs z < r → neg_ℤ z <ℤ pos r
below_abs' (pos n) r h = omega (arith, ints)
below_abs' (negsuc n) r h = omega (arith, ints)

down_law : (x y : ℤ) (d f g : ℕ) → x *ℤ pos (d * f * g) -ℤ y *ℤ pos d ≡ ((x *ℤ pos f) *ℤ pos g -ℤ y) *ℤ pos d
down_law x y d f g = rw (parts x, parts y, diff-pos (d * f * g), diff-pos d, diff-pos f, diff-pos g) (simp ring (diff_same _ _ _ _ (omega arith)))

pos_times : (n g : ℕ) → pos n *ℤ pos g ≡ pos (n * g)
pos_times n g = refl

-- what is within the radius is near
near_down : (x y a r : ℤ) (d f g n : ℕ) → 0 < d → 0 < f → a ≡ (x *ℤ pos f) *ℤ pos g → r ≡ pos n *ℤ pos g → a <ℤ (y +ℤ r) → y <ℤ (a +ℤ r) → IsNear n (d * f) x d y (d * f * g)
near_down x y a r d f g n i j e h l u =
    let s : unsigned_abs (a -ℤ y) < n * g =
    abs_below (a -ℤ y) (n * g) (let h' : r ≡ pos (n * g) = h in omega (arith, ints)) (let h' : r ≡ pos (n * g) = h in omega (arith, ints)) in
    let t = mul-lt-mul_of_pos_right {k = d * (d * f)} s (mul-pos i (mul-pos i j)) in
    let w : unsigned_abs (x *ℤ pos (d * f * g) -ℤ y *ℤ pos d) ≡ unsigned_abs (a -ℤ y) * d = ap unsigned_abs (down_law x y d f g ∙ ap (λ z. (z -ℤ y) *ℤ pos d) (sym e)) ∙ abs_times (a -ℤ y) d in
    let v = ap (λ z. z * (d * f)) w in
    products (unsigned_abs (x *ℤ pos (d * f * g) -ℤ y *ℤ pos d)) (unsigned_abs (a -ℤ y)) d f g n v t
  where
    products : (p q d f g n : ℕ) → p * (d * f) ≡ q * d * (d * f) → q * (d * (d * f)) < n * g * (d * (d * f)) → p * (d * f) < n * (d * (d * f * g))
    products p q d f g n v t = omega arith

up_law : (x y : ℤ) (d f e : ℕ) → (x *ℤ pos f) *ℤ pos e -ℤ y *ℤ pos (d * f) ≡ (x *ℤ pos e -ℤ y *ℤ pos d) *ℤ pos f
up_law x y d f e = rw (parts x, parts y, diff-pos (d * f), diff-pos d, diff-pos f, diff-pos e) (simp ring (diff_same _ _ _ _ (omega arith)))

-- and what is near is within the radius
near_up : (x y : ℤ) (d f e n : ℕ) → IsNear n (d * f) x d y e → unsigned_abs ((x *ℤ pos f) *ℤ pos e -ℤ y *ℤ pos (d * f)) < n * e
near_up x y d f e n h =
    let w : unsigned_abs ((x *ℤ pos f) *ℤ pos e -ℤ y *ℤ pos (d * f)) ≡ unsigned_abs (x *ℤ pos e -ℤ y *ℤ pos d) * f = ap unsigned_abs (up_law x y d f e) ∙ abs_times (x *ℤ pos e -ℤ y *ℤ pos d) f in
    products (unsigned_abs ((x *ℤ pos f) *ℤ pos e -ℤ y *ℤ pos (d * f))) (unsigned_abs (x *ℤ pos e -ℤ y *ℤ pos d)) d f e n w h
  where
    products : (p q d f e n : ℕ) → p ≡ q * f → q * (d * f) < n * (d * e) → p < n * e
    products p q d f e n w h = lt_of_mul-lt-mul_right d (let v = ap (λ z. z * d) w in omega arith)

up_first : (x y : ℤ) (a b r : ℤ) (m : ℕ) → unsigned_abs (x -ℤ y) < m → a ≡ x → b ≡ y → r ≡ pos m → a <ℤ (b +ℤ r)
up_first x y a b r m h e f g = let l = below_abs (x -ℤ y) m h in omega (arith, ints)

up_second : (x y : ℤ) (a b r : ℤ) (m : ℕ) → unsigned_abs (x -ℤ y) < m → a ≡ x → b ≡ y → r ≡ pos m → b <ℤ (a +ℤ r)
up_second x y a b r m h e f g = let l = below_abs' (x -ℤ y) m h in omega (arith, ints)

-- a common factor of both sides of the distance
near_less : (x y : ℤ) (d k e m : ℕ) → IsNear (m * d) (d * k) x d y e → IsNear m k x d y e
near_less x y d k e m h = products (unsigned_abs (x *ℤ pos e -ℤ y *ℤ pos d)) d k e m h
  where
    products : (p d k e m : ℕ) → p * (d * k) < m * d * (d * e) → p * k < m * (d * e)
    products p d k e m h = lt_of_mul-lt-mul_right d (omega arith)

all_near_less : (d k e m : ℕ) (xs ys : List Argument) → AreNear (m * d) (d * k) d e xs ys → AreNear m k d e xs ys
all_near_less d k e m [] [] h = tt
all_near_less d k e m [] (y ∷ ys) h = absurd h
all_near_less d k e m (x ∷ xs) [] h = absurd h
all_near_less d k e m (x ∷ xs) (y ∷ ys) h = (near_less x.0 y.0 d k e m h.0, h.1, all_near_less d k e m xs ys h.2)

above_is : (z : ℤ) → pos 0 <ℤ z → z ≡ pos (unsigned_abs z)
above_is (pos n) h = refl
above_is (negsuc n) h = absurd (omega (arith, ints))

-- ---- the arguments at p, and the new ones at q, where r is p with a radius n over p's denominator times f
module _ (p r : Point) (x : IsNumberExtension p radius r) (positive : 0 < p.den) (n : ℕ) (size : x.value ≡ pos n) where
  radius_is : number_at r radius ≡ pos n
  radius_is = number_at-extended p radius r x radius refl ∙ size

  number_is : (i : ℕ) → number_at r (number_key i) ≡ number_at p (number_key i) *ℤ pos x.factor
  number_is i = number_at-kept p radius r x (number_key i) refl

  text_is : (i : ℕ) → text_at r (text_key i) ≡ text_at p (text_key i)
  text_is i = text_at-number_kept p radius r x (text_key i) refl

  all_near_down : (q : Point) (far : Kept 0 r q) (i : ℕ) (ts : List Put) → AllWithin i ts q
      → AreNear n (p.den * x.factor) p.den q.den (args (generic i ts) p) (args (moved i ts) q)
  all_near_down q far i [] h = tt
  all_near_down q far i (t ∷ ts) h = (
    subst (λ m. IsNear n (p.den * x.factor) (linear_at (unit (number_key i)) p) p.den (linear_at (unit (new_key i)) q) m) (sym (far.den ∙ ap (λ d. d * far.factor) x.den))
        (subst (λ z. IsNear n (p.den * x.factor) z p.den (linear_at (unit (new_key i)) q) (p.den * x.factor * far.factor)) (sym (linear-unit (number_key i) p))
        (subst (λ z. IsNear n (p.den * x.factor) (number_at p (number_key i)) p.den z (p.den * x.factor * far.factor)) (sym (linear-unit (new_key i) q))
        (near_down (number_at p (number_key i)) (number_at q (new_key i)) (number_at q (number_key i)) (number_at q radius) p.den x.factor far.factor n positive x.positive
        (far.number (number_key i) (number_away 0 i) ∙ ap (λ z. z *ℤ pos far.factor) (number_is i)) (far.number radius (radius_away 0) ∙ ap (λ z. z *ℤ pos far.factor) radius_is) h.0.0 h.0.1))),
    sym (far.text (text_key i) (text_away 0 i) ∙ text_is i),
    all_near_down q far (i + 1) ts h.1,
  )

  -- new numbers over e, of which the first multiplies the denominator of r by e
  module _ (e : ℕ) (above : 0 < e) (first : ℤ) where
    abbrev refined : Point
    refined = extend e r (new_key 0) first

    abbrev refined_is : IsNumberExtension r (new_key 0) refined
    refined_is = extend_is e r (new_key 0) first above

    module _ (q : Point) (den : q.den ≡ refined.den) (number : (k : Key) → Away 1 k → number_at q k ≡ number_at refined k) (text : (k : Key) → Away 1 k → text_at q k ≡ text_at refined k) where
      q_den : q.den ≡ p.den * x.factor * e
      q_den = den ∙ ap (λ d. d * e) x.den

      q_radius : number_at q radius ≡ pos (n * e)
      q_radius = number radius (radius_away 1) ∙ number_at-kept r (new_key 0) refined refined_is radius refl ∙ ap (λ z. z *ℤ pos e) radius_is

      q_number : (i : ℕ) → number_at q (number_key i) ≡ (number_at p (number_key i) *ℤ pos x.factor) *ℤ pos e
      q_number i = number (number_key i) (number_away 1 i) ∙ number_at-kept r (new_key 0) refined refined_is (number_key i) (number_away 0 i 0 (omega arith)) ∙ ap (λ z. z *ℤ pos e) (number_is i)

      q_text : (i : ℕ) → text_at q (text_key i) ≡ text_at p (text_key i)
      q_text i = text (text_key i) (text_away 1 i) ∙ text_at-number_kept r (new_key 0) refined refined_is (text_key i) refl ∙ text_is i

      -- they are within the radius
      all_near_up : (i : ℕ) (ts : List Put) (ys : List Argument) → AreNear n (p.den * x.factor) p.den e (args (generic i ts) p) ys → HasNew (p.den * x.factor) i ts ys q → AllWithin i ts q
      all_near_up i [] [] h k = tt
      all_near_up i [] (y ∷ ys) h k = absurd h
      all_near_up i (t ∷ ts) [] h k = absurd h
      all_near_up i (t ∷ ts) (y ∷ ys) h k =
          let near : IsNear n (p.den * x.factor) (number_at p (number_key i)) p.den y.0 e = subst (λ z. IsNear n (p.den * x.factor) z p.den y.0 e) (linear-unit (number_key i) p) h.0 in
          let below = near_up (number_at p (number_key i)) y.0 p.den x.factor e n near in (
            (
              up_first _ _ (number_at q (number_key i)) (number_at q (new_key i)) (number_at q radius) (n * e) below (q_number i) k.0 q_radius,
              up_second _ _ (number_at q (number_key i)) (number_at q (new_key i)) (number_at q radius) (n * e) below (q_number i) k.0 q_radius,
            ),
            all_near_up (i + 1) ts ys h.2 k.1,
          )

      -- and they are the given ones
      same_new : (i : ℕ) (ts : List Put) (ys : List Argument) → AreNear n (p.den * x.factor) p.den e (args (generic i ts) p) ys → HasNew (p.den * x.factor) i ts ys q
          → AreSameArguments e q.den ys (args (moved i ts) q)
      same_new i [] [] h k = tt
      same_new i [] (y ∷ ys) h k = absurd h
      same_new i (t ∷ ts) [] h k = absurd h
      same_new i (t ∷ ts) (y ∷ ys) h k = (
        ap (λ d. y.0 *ℤ pos d) q_den ∙ sym (times_pos_twice y.0 (p.den * x.factor) e) ∙ ap (λ z. z *ℤ pos e) (sym (linear-unit (new_key i) q ∙ k.0)),
        sym h.1 ∙ sym (q_text i),
        same_new (i + 1) ts ys h.2 k.1,
      )

-- ---- closures and interiors as formulas
module _ (R : ℕ → List Argument → Type 0) (same : (d d' : ℕ) (xs ys : List Argument) → 0 < d → 0 < d' → AreSameArguments d d' xs ys → R d xs → R d' ys) (t : Put) (ts : List Put) where
  -- what is close, and holds
  abbrev Reaches : Point → Type 0
  Reaches p = AllWithin 0 (t ∷ ts) p × R p.den (args (moved 0 (t ∷ ts)) p)

  abbrev Stays : Point → Type 0
  Stays p = AllWithin 0 (t ∷ ts) p → R p.den (args (moved 0 (t ∷ ts)) p)

  abbrev pub CloseFormula : Point → Type 0
  CloseFormula p = (r : Point) → IsExtension Rat p radius r → pos 0 <ℤ number_at r radius → SomeNew (λ q. AllWithin 0 (t ∷ ts) q × R q.den (args (moved 0 (t ∷ ts)) q)) 0 (t ∷ ts) r

  abbrev pub InsideFormula : Point → Type 0
  InsideFormula p = SomeExtension Rat radius (λ r. (pos 0 <ℤ number_at r radius) × EveryNew (λ q. AllWithin 0 (t ∷ ts) q → R q.den (args (moved 0 (t ∷ ts)) q)) 0 (t ∷ ts) r) p

  module _ (p : Point) (positive : 0 < p.den) where
    -- the radius m over k
    abbrev with_radius : ℕ → ℕ → Point
    with_radius m k = extend k p radius (pos (m * p.den))

    radius_above : (m k : ℕ) → 0 < m → 0 < k → pos 0 <ℤ number_at (with_radius m k) radius
    radius_above m k i j =
        let e = number_at-extended p radius (with_radius m k) (extend_is k p radius (pos (m * p.den)) j) radius refl in
        let h = mul-pos i positive in
        subst (λ z. pos 0 <ℤ z) (sym e) (omega (arith, ints))

    -- the new numbers at q are nearer than m over k
    near_with : (m k : ℕ) (j : 0 < k) (q : Point) → Grows 0 (t ∷ ts) (with_radius m k) q → AllWithin 0 (t ∷ ts) q → AreNear m k p.den q.den (args (generic 0 (t ∷ ts)) p) (args (moved 0 (t ∷ ts)) q)
    near_with m k j q g w =
        let r = with_radius m k in
        let x = extend_is k p radius (pos (m * p.den)) j in
        all_near_less p.den k q.den m (args (generic 0 (t ∷ ts)) p) (args (moved 0 (t ∷ ts)) q) (all_near_down p r x positive (m * p.den) refl q (grows_kept 0 (t ∷ ts) r q g) 0 (t ∷ ts) w)

    with_positive : (m k : ℕ) (j : 0 < k) (q : Point) → Grows 0 (t ∷ ts) (with_radius m k) q → 0 < q.den
    with_positive m k j q g = let kept = grows_kept 0 (t ∷ ts) (with_radius m k) q g in subst (λ n. 0 < n) (sym kept.den) (mul-pos (mul-pos positive j) kept.positive)

    close_to : CloseFormula p → IsClose R p.den (args (generic 0 (t ∷ ts)) p)
    close_to h m k i j =
        let v = some_to Reaches 0 (t ∷ ts) (with_radius m k) (h (with_radius m k) (extend_is k p radius (pos (m * p.den)) j) (radius_above m k i j)) in
        (v.0.den, args (moved 0 (t ∷ ts)) v.0, with_positive m k j v.0 v.1, near_with m k j v.0 v.1 v.2.0, v.2.1)

    inside_from : IsInside R p.den (args (generic 0 (t ∷ ts)) p) → InsideFormula p
    inside_from h = (
      with_radius h.0 h.1,
      extend_is h.1 p radius (pos (h.0 * p.den)) h.3,
      (
        radius_above h.0 h.1 h.2 h.3,
        every_from Stays 0 (t ∷ ts) (with_radius h.0 h.1) (λ q g w.
            h.4 q.den (args (moved 0 (t ∷ ts)) q) (with_positive h.0 h.1 h.3 q g) (near_with h.0 h.1 h.3 q g w)),
      ),
    )

    -- the point that has given new numbers, which are nearer than the radius of r
    module _ (r : Point) (x : IsNumberExtension p radius r) (above : pos 0 <ℤ number_at r radius) where
      value_above : pos 0 <ℤ x.value
      value_above = subst (λ z. pos 0 <ℤ z) (number_at-extended p radius r x radius refl) above

      record Found (e : ℕ) (ys : List Argument) : Type 0 where
        point : Point
        grows : Grows 0 (t ∷ ts) r point
        above_zero : 0 < point.den
        within : AllWithin 0 (t ∷ ts) point
        are : AreSameArguments e point.den ys (args (moved 0 (t ∷ ts)) point)

      found : (e : ℕ) (ys : List Argument) → 0 < e → AreNear (unsigned_abs x.value) (p.den * x.factor) p.den e (args (generic 0 (t ∷ ts)) p) ys → Found e ys
      found e [] j near = absurd near
      found e (y ∷ ys) j near =
          let c : ℕ = p.den * x.factor in
          let n : ℕ = unsigned_abs x.value in
          let size : x.value ≡ pos n = above_is x.value value_above in
          let first : ℤ = y.0 *ℤ pos c in
          let s : Point = extend e r (new_key 0) first in
          let step : IsNumberExtension r (new_key 0) s = extend_is e r (new_key 0) first j in
          let w = reach n c p.den e c 1 ts ys p s near.2 in
          let f = w.1 in
          let has : HasNew c 0 (t ∷ ts) (y ∷ ys) w.0 = (f.number (new_key 0) (new_away 0) ∙ number_at-extended r (new_key 0) s step (new_key 0) refl, f.has) in
          record {
            point = w.0;
            grows = (s, step, f.grows);
            above_zero = subst (λ n. 0 < n) (sym (f.den ∙ ap (λ n. n * e) x.den)) (mul-pos (mul-pos positive x.positive) j);
            within = all_near_up p r x positive n size e j first w.0 f.den f.number f.text 0 (t ∷ ts) (y ∷ ys) near has;
            are = same_new p r x positive n size e j first w.0 f.den f.number f.text 0 (t ∷ ts) (y ∷ ys) near has;
          }

    close_from : IsClose R p.den (args (generic 0 (t ∷ ts)) p) → CloseFormula p
    close_from h r x above =
        let w = h (unsigned_abs x.value) (p.den * x.factor) (abs_positive x.value (value_above r x above)) (mul-pos positive x.positive) in
        let q = found r x above w.0 w.1 w.2 w.3 in
        some_from Reaches 0 (t ∷ ts) r q.point q.grows (q.within, same w.0 q.point.den w.1 (args (moved 0 (t ∷ ts)) q.point) w.2 q.above_zero q.are w.4)

    inside_to : InsideFormula p → IsInside R p.den (args (generic 0 (t ∷ ts)) p)
    inside_to h =
        let r = h.0 in
        let x = h.1 in (
          unsigned_abs x.value,
          p.den * x.factor,
          abs_positive x.value (value_above r x h.2.0),
          mul-pos positive x.positive,
          λ e ys j near.
              let q = found r x h.2.0 e ys j near in
              same q.point.den e (args (moved 0 (t ∷ ts)) q.point) ys q.above_zero j (AreSameArguments-sym e q.point.den ys (args (moved 0 (t ∷ ts)) q.point) q.are)
              (every_to Stays 0 (t ∷ ts) r q.point h.2.1 q.grows q.within),
        )

  module _ (D : (m : ℕ) (xs : List Put) → Definable (λ p. R (p.den * m) (args xs p))) where
    pub one_more : (d : ℕ) → d * 1 ≡ d
    one_more d = omega arith

    unfoldable pub new_definable : Definable (λ p. R p.den (args (moved 0 (t ∷ ts)) p))
    new_definable = like (λ p. R (p.den * 1) (args (moved 0 (t ∷ ts)) p)) (λ p. R p.den (args (moved 0 (t ∷ ts)) p))
        (λ p. (subst (λ d. R d (args (moved 0 (t ∷ ts)) p)) (one_more p.den), subst (λ d. R d (args (moved 0 (t ∷ ts)) p)) (sym (one_more p.den)))) (D 1 (moved 0 (t ∷ ts)))

    unfoldable pub close_formula_definable : Definable CloseFormula
    close_formula_definable =
        forall_definable Rat radius (λ r. pos 0 <ℤ number_at r radius → SomeNew (λ q. AllWithin 0 (t ∷ ts) q × R q.den (args (moved 0 (t ∷ ts)) q)) 0 (t ∷ ts) r)
        (implies_definable (λ r. pos 0 <ℤ number_at r radius) (SomeNew (λ q. AllWithin 0 (t ∷ ts) q × R q.den (args (moved 0 (t ∷ ts)) q)) 0 (t ∷ ts)) (above_definable radius)
        (some_new_definable (λ q. AllWithin 0 (t ∷ ts) q × R q.den (args (moved 0 (t ∷ ts)) q))
        (both_definable (AllWithin 0 (t ∷ ts)) (λ q. R q.den (args (moved 0 (t ∷ ts)) q)) (all_within_definable 0 (t ∷ ts)) new_definable) 0 (t ∷ ts)))

    unfoldable pub inside_formula_definable : Definable InsideFormula
    inside_formula_definable =
        exists_definable Rat radius (λ r. (pos 0 <ℤ number_at r radius) × EveryNew (λ q. AllWithin 0 (t ∷ ts) q → R q.den (args (moved 0 (t ∷ ts)) q)) 0 (t ∷ ts) r)
        (both_definable (λ r. pos 0 <ℤ number_at r radius) (EveryNew (λ q. AllWithin 0 (t ∷ ts) q → R q.den (args (moved 0 (t ∷ ts)) q)) 0 (t ∷ ts)) (above_definable radius)
        (every_new_definable (λ q. AllWithin 0 (t ∷ ts) q → R q.den (args (moved 0 (t ∷ ts)) q))
        (implies_definable (AllWithin 0 (t ∷ ts)) (λ q. R q.den (args (moved 0 (t ∷ ts)) q)) (all_within_definable 0 (t ∷ ts)) new_definable) 0 (t ∷ ts)))

-- ---- a denominator of 0
none_near : (m k e : ℕ) (z w : ℤ) → IsNear m k z 0 w e → ⊥
none_near m k e z w h = omega arith

zero_or_above : (d : ℕ) → (d ≡ 0) ⊎ (0 < d)
zero_or_above zero = inl refl
zero_or_above (suc d) = inr (omega arith)

not_close : (R : ℕ → List Argument → Type 0) (x : Argument) (xs : List Argument) → IsClose R 0 (x ∷ xs) → ⊥
not_close R x xs h = let w = h 1 1 one_above one_above in none w.0 w.1 w.3
  where
    none : (e : ℕ) (ys : List Argument) → AreNear 1 1 0 e (x ∷ xs) ys → ⊥
    none e [] n = n
    none e (y ∷ ys) n = none_near 1 1 e x.0 y.0 n.0

all_inside : (R : ℕ → List Argument → Type 0) (x : Argument) (xs : List Argument) → IsInside R 0 (x ∷ xs)
all_inside R x xs = (1, 1, one_above, one_above, all)
  where
    all : (e : ℕ) (ys : List Argument) → 0 < e → AreNear 1 1 0 e (x ∷ xs) ys → R e ys
    all e [] i n = absurd n
    all e (y ∷ ys) i n = absurd (none_near 1 1 e x.0 y.0 n.0)

-- ---- no arguments
module _ (R : ℕ → List Argument → Type 0) (same : (d d' : ℕ) (xs ys : List Argument) → 0 < d → 0 < d' → AreSameArguments d d' xs ys → R d xs → R d' ys) where
  pub close_of_none : (d : ℕ) → R 1 [] ↔ IsClose R d []
  close_of_none d = (λ h m k i j. (1, [], one_above, tt, h), λ h. let w = h 1 1 one_above one_above in one w.0 w.1 w.2 w.3 w.4)
    where
      one : (e : ℕ) (ys : List Argument) → 0 < e → AreNear 1 1 d e [] ys → R e ys → R 1 []
      one e [] i n h = same e 1 [] [] i one_above tt h
      one e (y ∷ ys) i n h = absurd n

  pub inside_of_none : (d : ℕ) → R 1 [] ↔ IsInside R d []
  inside_of_none d = (λ h. (1, 1, one_above, one_above, all h), λ h. h.4 1 [] one_above tt)
    where
      all : R 1 [] → (e : ℕ) (ys : List Argument) → 0 < e → AreNear 1 1 d e [] ys → R e ys
      all h e [] i n = same 1 e [] [] one_above i tt h
      all h e (y ∷ ys) i n = absurd n

unfoldable pub fact_definable : (A : Type 0) → A ⊎ (¬ A) → Definable (λ p. A)
fact_definable A (inl a) = like (λ p. Unit {0}) (λ p. A) (λ p. (λ h. a, λ h. tt)) always_definable
fact_definable A (inr n) = like (λ p. ⊥) (λ p. A) (λ p. (λ h. absurd h, λ a. n a)) never_definable

-- ---- the arguments of any forms, at their keys
abbrev pub column_coords : ℕ → List Argument → List (Key × Value)
column_coords i [] = []
column_coords i (x ∷ xs) = (number_key i, number x.0) ∷ (text_key i, text x.1) ∷ column_coords (i + 1) xs

abbrev pub column_point : ℕ → List Argument → Point
column_point d xs = record { den = d; coords = column_coords 0 xs }

abbrev pub column_puts : Put → ℕ → List Put → Key → Put
column_puts w i [] k = w
column_puts w i (t ∷ ts) k =
    column_puts (cond (same_key k (text_key i)) (record { number = const (pos 0); word = t.word }) (cond (same_key k (number_key i)) (record { number = t.number; word = quoted [] }) w)) (i + 1) ts k

pub columns-say : (p : Point) (i : ℕ) (ts : List Put) (v : Value) (w : Put) → Says p v w → (k : Key) → Says p (last_from v (column_coords i (args ts p)) k) (column_puts w i ts k)
columns-say p i [] v w s k = s
columns-say p i (t ∷ ts) v w s k =
    columns-say p (i + 1) ts _ _
    (either_says p (same_key k (text_key i)) (text (word_at t.word p)) (cond (same_key k (number_key i)) (number (linear_at t.number p)) v) (record { number = const (pos 0); word = t.word })
    (cond (same_key k (number_key i)) (record { number = t.number; word = quoted [] }) w) (record { number = sym (linear-zero p); text = refl })
    (either_says p (same_key k (number_key i)) (number (linear_at t.number p)) v (record { number = t.number; word = quoted [] }) w (record { number = refl; text = refl }) s)) k

-- a later column leaves the keys of the earlier ones
number_below : (i j : ℕ) (xs : List Argument) (v : Value) → j < i → last_from v (column_coords i xs) (number_key j) ≡ v
number_below i j [] v h = refl
number_below i j (x ∷ xs) v h =
    ap (λ b. last_from (cond b (number x.0) v) (column_coords (i + 1) xs) (number_key j)) (other_slot j i true h) ∙ number_below (i + 1) j xs v (omega arith)

text_below : (i j : ℕ) (xs : List Argument) (v : Value) → j < i → last_from v (column_coords i xs) (text_key j) ≡ v
text_below i j [] v h = refl
text_below i j (x ∷ xs) v h =
    ap (λ b. last_from (cond b (text x.1) v) (column_coords (i + 1) xs) (text_key j)) (other_slot j i true h) ∙ text_below (i + 1) j xs v (omega arith)

one_argument : (x y : ℤ) (t u : List ℕ) (xs ys : List Argument) → x ≡ y → t ≡ u → xs ≡ ys → ◌≡◌ {A = List Argument} ((x, t) ∷ xs) ((y, u) ∷ ys)
one_argument x y t u xs ys e f g = rw (e, f, g) refl

column_reads : (f : Key → Value) (i : ℕ) (ts : List Put) (p q : Point) → ((k : Key) → last_from absent q.coords k ≡ last_from (f k) (column_coords i (args ts p)) k) → args (generic i ts) q ≡ args ts p
unfolding number_at text_at
column_reads f i [] p q h = refl
column_reads f i (t ∷ ts) p q h = one_argument _ _ _ _ _ _
    (linear-unit (number_key i) q
    ∙ ap as_number (h (number_key i) ∙ number_below (i + 1) i (args ts p) (cond (same_key (number_key i) (number_key i)) (number (linear_at t.number p)) (f (number_key i))) (omega arith))
    ∙ ap (λ b. as_number (cond b (number (linear_at t.number p)) (f (number_key i)))) (same_key_refl (number_key i)))
    (ap as_text (h (text_key i) ∙ text_below (i + 1) i (args ts p) (cond (same_key (text_key i) (text_key i)) (text (word_at t.word p)) (f (text_key i))) (omega arith))
    ∙ ap (λ b. as_text (cond b (text (word_at t.word p)) (f (text_key i)))) (same_key_refl (text_key i)))
    (column_reads (λ k. cond (same_key k (text_key i)) (text (word_at t.word p)) (cond (same_key k (number_key i)) (number (linear_at t.number p)) (f k))) (i + 1) ts p q h)

pub column_args : (m : ℕ) (ts : List Put) (p : Point) → args (generic 0 ts) (column_point (p.den * m) (args ts p)) ≡ args ts p
column_args m ts p = column_reads (λ k. absent) 0 ts p (column_point (p.den * m) (args ts p)) (λ k. refl)

-- ---- closures and interiors of what is definable
module _ (R : ℕ → List Argument → Type 0) (same : (d d' : ℕ) (xs ys : List Argument) → 0 < d → 0 < d' → AreSameArguments d d' xs ys → R d xs → R d' ys)
    (D : (m : ℕ) (xs : List Put) → Definable (λ p. R (p.den * m) (args xs p))) where
  pub none_decided : R 1 [] ⊎ (¬ R 1 [])
  none_decided = decided (λ p. R (p.den * 1) (args [] p)) (D 1 []) (record { den = 1; coords = [] })

  unfoldable pub at_columns : (C : ℕ → List Argument → Type 0) → (m : ℕ) (ts : List Put) → Definable (λ p. C p.den (args (generic 0 ts) p)) → Definable (λ p. C (p.den * m) (args ts p))
  at_columns C m ts E =
      like (λ p. C (p.den * m) (args (generic 0 ts) (column_point (p.den * m) (args ts p)))) (λ p. C (p.den * m) (args ts p))
      (λ p. (subst (λ xs. C (p.den * m) xs) (column_args m ts p), subst (λ xs. C (p.den * m) xs) (sym (column_args m ts p))))
      (put_definable (λ q. C q.den (args (generic 0 ts) q)) E (column_puts absent_put 0 ts) m (λ p. column_point (p.den * m) (args ts p))
      (λ p. puts_numbers (column_puts absent_put 0 ts) m p (column_point (p.den * m) (args ts p)) refl (columns-say p 0 ts absent absent_put (absent-says p)))
      (λ p. puts_texts (column_puts absent_put 0 ts) p (column_point (p.den * m) (args ts p)) (columns-say p 0 ts absent absent_put (absent-says p))))

  -- at their keys, of some arguments: over a denominator of 0 nothing is close, and all is inside
  pub close_where : (t : Put) (ts : List Put) (p : Point) → ((0 < p.den) × CloseFormula R same t ts p) ↔ IsClose R p.den (args (generic 0 (t ∷ ts)) p)
  close_where t ts p = (
    λ h. close_to R same t ts p h.0 h.1,
    λ h. ⊎_elim
        (λ (z : p.den ≡ 0). absurd (not_close R (linear_at (unit (number_key 0)) p, text_at p (text_key 0)) (args (generic 1 ts) p) (subst (λ d. IsClose R d (args (generic 0 (t ∷ ts)) p)) z h)))
        (λ i. (i, close_from R same t ts p i h)) (zero_or_above p.den),
  )

  pub inside_where : (t : Put) (ts : List Put) (p : Point) → ((¬ (0 < p.den)) ⊎ InsideFormula R same t ts p) ↔ IsInside R p.den (args (generic 0 (t ∷ ts)) p)
  inside_where t ts p = (
    λ h. ⊎_elim
        (λ (z : p.den ≡ 0). subst (λ d. IsInside R d (args (generic 0 (t ∷ ts)) p)) (sym z) (all_inside R (linear_at (unit (number_key 0)) p, text_at p (text_key 0)) (args (generic 1 ts) p)))
        (λ i. ⊎_elim (λ (n : ¬ (0 < p.den)). absurd (n i)) (λ f. inside_to R same t ts p i f) h) (zero_or_above p.den),
    λ h. ⊎_elim (λ (z : p.den ≡ 0). inl (λ i. absurd (let e = z in omega arith))) (λ i. inr (inside_from R same t ts p i h)) (zero_or_above p.den),
  )

  unfoldable pub close_definable : (m : ℕ) (ts : List Put) → Definable (λ p. IsClose R (p.den * m) (args ts p))
  close_definable m [] = like (λ p. R 1 []) (λ p. IsClose R (p.den * m) []) (λ p. close_of_none R same (p.den * m)) (fact_definable (R 1 []) none_decided)
  close_definable m (t ∷ ts) = at_columns (IsClose R) m (t ∷ ts)
      (like (λ p. (0 < p.den) × CloseFormula R same t ts p) (λ p. IsClose R p.den (args (generic 0 (t ∷ ts)) p)) (close_where t ts)
      (both_definable (λ p. 0 < p.den) (CloseFormula R same t ts) den_definable (close_formula_definable R same t ts D)))

  unfoldable pub inside_definable : (m : ℕ) (ts : List Put) → Definable (λ p. IsInside R (p.den * m) (args ts p))
  inside_definable m [] = like (λ p. R 1 []) (λ p. IsInside R (p.den * m) []) (λ p. inside_of_none R same (p.den * m)) (fact_definable (R 1 []) none_decided)
  inside_definable m (t ∷ ts) = at_columns (IsInside R) m (t ∷ ts)
      (like (λ p. (¬ (0 < p.den)) ⊎ InsideFormula R same t ts p) (λ p. IsInside R p.den (args (generic 0 (t ∷ ts)) p)) (inside_where t ts)
      (either_definable (λ p. ¬ (0 < p.den)) (InsideFormula R same t ts) (not_definable (λ p. 0 < p.den) den_definable) (inside_formula_definable R same t ts D)))
