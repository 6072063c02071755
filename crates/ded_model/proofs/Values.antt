-- The values of operands and places at two points that are the same, how they compare, and the arguments that they make.
--
-- A value is a number over the point's denominator times its own. At two points that are the same its number times the
-- other point's denominator is one number, its own denominator is the same and so is its text (`IsSameValue`). What two
-- values compare is the sign of a difference of such numbers, so it is the same. The arguments of a name are the values
-- over one denominator, so they are the same too (`AreSameArguments`), over the two points' denominators times one factor.
use Rattle.std.proofs.Common.{◌≡◌, ℕ, ◌*◌, ◌<◌, Bool, true, not, List, [], ◌∷◌, arith, refl, sym, ap, ◌∙◌, map, mul-pos}
use Rattle.std.specs.Prelude.{ℤ, pos, ◌+ℤ◌, ◌*ℤ◌, ◌-ℤ◌, int_lt, int_le}
use Rattle.std.specs.List.{list_any}
use Rattle.std.specs.Ordering.{int_eq}
use Rattle.std.proofs.Math.IntN.{zero-*ℤ}
use Rattle.std.proofs.lemmas.Int.{ints}
use Rattle.std.proofs.lemmas.Bool.Decides.{same_from_decides, Decides-int_eq}
use Rattle.ded_model.specs.declared.slot.Slot.{Slot}
use Rattle.ded_model.specs.declared.slot.Sort.{Sort}
use Rattle.ded_model.specs.declared.slot.Sort.TheVariants.{Rat, Text}
use Rattle.ded_model.specs.declared.formula.CompareOp.{CompareOp}
use Rattle.ded_model.specs.declared.formula.CompareOp.TheVariants.{Less, LessEq, Equal, NotEqual, GreaterEq, Greater}
use Rattle.ded_model.specs.declared.formula.Operand.{Operand}
use Rattle.ded_model.specs.declared.formula.Operand.TheVariants.{Single, Sum, Quoted}
use Rattle.ded_model.specs.declared.goal.Place.{Place}
use Rattle.ded_model.specs.declared.goal.Place.TheVariants as place
use Rattle.ded_model.specs.declared.row.RowOp.TheVariants.{Zero, AtMost, Below}
use Rattle.ded_model.specs.Form.{compare}
use Rattle.ded_model.specs.Goal.{place_mentions}
use Rattle.ded_model.specs.Catalogue.{in_operand, in_atom}
use Rattle.ded_model.specs.Point.{Key, slot, name, Point, IsSameAt, number_at, text_at, same_key}
use Rattle.ded_model.specs.Sum.{denominator}
use Rattle.ded_model.specs.Value.{OperandValue, parts_at, operand_value, crosswise, is_same_value, values_compare, compare_holds, sorted_value, slot_value, place_value, Argument, argument_times, overs, arguments}
use Rattle.ded_num.proofs.Ring.{parts, ring, diff-pos, diff_same}
use Rattle.ded_model.proofs.Points.{same_key_refl}
use Rattle.ded_model.proofs.Rows.{sign_meets-same, step_law, row_law, sum_at-same, or_left, or_right}

-- ---- the same value at two points, of the denominators d and d'

-- the number over the other denominator, the own denominator and the text are the same
pub record IsSameValue (d d' : ℕ) (v w : OperandValue) : Type 0 where
  pub number : v.number *ℤ pos d' ≡ w.number *ℤ pos d
  pub over : v.over ≡ w.over
  pub text : v.text ≡ w.text

-- 0 is 0 over any denominators
zeros : (d d' : ℕ) → pos 0 *ℤ pos d' ≡ pos 0 *ℤ pos d
zeros d d' = zero-*ℤ (pos d') ∙ sym (zero-*ℤ (pos d))

-- the factors of a product of three may be swapped
pub swap_law : (n x y : ℤ) → (n *ℤ x) *ℤ y ≡ (n *ℤ y) *ℤ x
swap_law n x y = rw (parts n, parts x, parts y) (simp ring (diff_same _ _ _ _ (omega arith)))

-- ---- comparisons

-- tests of two numbers are tests of the sign of their difference
pub lt_by_sign : (a b : ℤ) → int_lt a b ≡ int_lt (a -ℤ b) (pos 0)
lt_by_sign a b = grind (arith, ints)

-- of at most
pub le_by_sign : (a b : ℤ) → int_le a b ≡ int_le (a -ℤ b) (pos 0)
le_by_sign a b = grind (arith, ints)

-- of equality
pub eq_by_sign : (a b : ℤ) → int_eq a b ≡ int_eq (a -ℤ b) (pos 0)
eq_by_sign a b = same_from_decides _ _ (Decides-int_eq a b) (λ e. let z : a -ℤ b ≡ pos 0 = (Decides-int_eq _ _).0 e in omega (arith, ints), λ e. let z : a -ℤ b ≡ pos 0 = omega (arith, ints) in (Decides-int_eq _ _).1 z)

-- a difference, multiplied
sub_law : (a b : ℤ) (d : ℕ) → (a -ℤ b) *ℤ pos d ≡ a *ℤ pos d -ℤ b *ℤ pos d
sub_law a b d = rw (parts a, parts b, diff-pos d) (simp ring (diff_same _ _ _ _ (omega arith)))

-- differences of numbers over one denominator
difference-same : (a b a' b' : ℤ) (d d' : ℕ) → a *ℤ pos d' ≡ a' *ℤ pos d → b *ℤ pos d' ≡ b' *ℤ pos d → (a -ℤ b) *ℤ pos d' ≡ (a' -ℤ b') *ℤ pos d
difference-same a b a' b' d d' e f = sub_law a b d' ∙ rw (e, f) (sym (sub_law a' b' d))

-- so are tests of two numbers over one denominator those of the same two over another
module _ (a b a' b' : ℤ) (d d' : ℕ) (h : 0 < d) (k : 0 < d') (e : a *ℤ pos d' ≡ a' *ℤ pos d) (f : b *ℤ pos d' ≡ b' *ℤ pos d) where
  -- less
  pub int_lt-same : int_lt a b ≡ int_lt a' b'
  int_lt-same = lt_by_sign a b ∙ sign_meets-same Below (a -ℤ b) (a' -ℤ b') d d' h k (difference-same a b a' b' d d' e f) ∙ sym (lt_by_sign a' b')

  -- at most
  int_le-same : int_le a b ≡ int_le a' b'
  int_le-same = le_by_sign a b ∙ sign_meets-same AtMost (a -ℤ b) (a' -ℤ b') d d' h k (difference-same a b a' b' d d' e f) ∙ sym (le_by_sign a' b')

  -- equal
  pub int_eq-same : int_eq a b ≡ int_eq a' b'
  int_eq-same = eq_by_sign a b ∙ sign_meets-same Zero (a -ℤ b) (a' -ℤ b') d d' h k (difference-same a b a' b' d d' e f) ∙ sym (eq_by_sign a' b')

-- the numbers over the denominators of both
crosswise-same : (d d' : ℕ) (v w v' w' : OperandValue) → IsSameValue d d' v v' → IsSameValue d d' w w' → crosswise v w *ℤ pos d' ≡ crosswise v' w' *ℤ pos d
crosswise-same d d' v w v' w' e f =
    swap_law v.number (pos w.over) (pos d') ∙ ap (λ n. n *ℤ pos w.over) e.number ∙ swap_law v'.number (pos d) (pos w.over) ∙ ap (λ m. (v'.number *ℤ pos m) *ℤ pos d) f.over

-- two values compare alike at both points
module _ (d d' : ℕ) (i : 0 < d) (j : 0 < d') (v w v' w' : OperandValue) (e : IsSameValue d d' v v') (f : IsSameValue d d' w w') where
  -- the number of the first
  vw : crosswise v w *ℤ pos d' ≡ crosswise v' w' *ℤ pos d
  vw = crosswise-same d d' v w v' w' e f

  -- of the second
  wv : crosswise w v *ℤ pos d' ≡ crosswise w' v' *ℤ pos d
  wv = crosswise-same d d' w v w' v' f e

  -- they are the same value at both points or at none
  both : is_same_value v w ≡ is_same_value v' w'
  both = rw (int_eq-same (crosswise v w) (crosswise w v) (crosswise v' w') (crosswise w' v') d d' i j vw wv, e.text, f.text)

  -- each comparison
  values_compare-same : (op : CompareOp) → values_compare v op w ≡ values_compare v' op w'
  values_compare-same Less = int_lt-same (crosswise v w) (crosswise w v) (crosswise v' w') (crosswise w' v') d d' i j vw wv
  values_compare-same LessEq = int_le-same (crosswise v w) (crosswise w v) (crosswise v' w') (crosswise w' v') d d' i j vw wv
  values_compare-same Equal = both
  values_compare-same NotEqual = ap not both
  values_compare-same GreaterEq = int_le-same (crosswise w v) (crosswise v w) (crosswise w' v') (crosswise v' w') d d' i j wv vw
  values_compare-same Greater = int_lt-same (crosswise w v) (crosswise v w) (crosswise w' v') (crosswise v' w') d d' i j wv vw

-- ---- operands and places

-- a sum of names
parts_at-same : (cs : List (List ℕ × ℤ)) (p q : Point) → ((k : Key) → list_any (λ c. same_key (name c.0) k) cs ≡ true → IsSameAt p q k)
    → parts_at cs p *ℤ pos q.den ≡ parts_at cs q *ℤ pos p.den
parts_at-same [] p q h = zeros p.den q.den
parts_at-same (c ∷ cs) p q h =
    let here = h (name c.0) (or_left _ _ (same_key_refl (name c.0))) in
    let rest = parts_at-same cs p q (λ k e. h k (or_right (same_key (name c.0) k) _ e)) in
    step_law c.1 (number_at p (name c.0)) (parts_at cs p) (pos 0) (pos q.den)
    ∙ rw (here.number, rest) (sym (step_law c.1 (number_at q (name c.0)) (parts_at cs q) (pos 0) (pos p.den)))

-- a sum with its constant
with_constant : (s t c : ℤ) (p q : Point) → s *ℤ pos q.den ≡ t *ℤ pos p.den → (s +ℤ c *ℤ pos p.den) *ℤ pos q.den ≡ (t +ℤ c *ℤ pos q.den) *ℤ pos p.den
with_constant s t c p q e =
    let swapped : p.den * q.den ≡ q.den * p.den = omega arith in
    row_law s c p.den q.den ∙ rw (e, swapped) (sym (row_law t c q.den p.den))

-- an operand has the same value
pub operand_value-same : (t : Operand) (p q : Point) → ((k : Key) → in_operand t k ≡ true → IsSameAt p q k) → IsSameValue p.den q.den (operand_value t p) (operand_value t q)
operand_value-same (Single x) p q h = let s = h (name x) (same_key_refl (name x)) in record { number = s.number; over = refl; text = s.text }
operand_value-same (Sum t) p q h = record { number = with_constant (parts_at t.parts p) (parts_at t.parts q) t.constant p q (parts_at-same t.parts p q h); over = refl; text = refl }
operand_value-same (Quoted t) p q h = record { number = zeros p.den q.den; over = refl; text = refl }

-- a comparison holds alike
pub compare_holds-same : (l : Operand) (op : CompareOp) (r : Operand) (p q : Point) → 0 < p.den → 0 < q.den
    → ((k : Key) → in_atom (compare l op r) k ≡ true → IsSameAt p q k) → compare_holds l op r p ≡ compare_holds l op r q
unfolding compare_holds
compare_holds-same l op r p q i j h =
    values_compare-same p.den q.den i j (operand_value l p) (operand_value r p) (operand_value l q) (operand_value r q)
    (operand_value-same l p q (λ k e. h k (or_left _ _ e))) (operand_value-same r p q (λ k e. h k (or_right (in_operand l k) _ e))) op

-- the value of a slot, by its sort
sorted_value-same : (s : Sort) (m n : ℤ) (t u : List ℕ) (d d' : ℕ) → m *ℤ pos d' ≡ n *ℤ pos d → t ≡ u → IsSameValue d d' (sorted_value s m t) (sorted_value s n u)
sorted_value-same Rat m n t u d d' e f = record { number = e; over = refl; text = refl }
sorted_value-same Text m n t u d d' e f = record { number = zeros d d'; over = refl; text = f }

-- a slot has the same value
pub slot_value-same : (s : Slot) (p q : Point) → IsSameAt p q (slot s) → IsSameValue p.den q.den (slot_value p s) (slot_value q s)
slot_value-same s p q h = sorted_value-same s.sort _ _ _ _ p.den q.den h.number h.text

-- a place has the same value
pub place_value-same : (t : Place) (p q : Point) → ((s : Slot) → place_mentions t s ≡ true → IsSameAt p q (slot s)) → IsSameValue p.den q.den (place_value t p) (place_value t q)
place_value-same (place.At s) p q h = slot_value-same s p q (h s (same_key_refl (slot s)))
place_value-same (place.Value t) p q h = record { number = with_constant _ _ t.constant p q (sum_at-same t.coefs p q h); over = refl; text = refl }
place_value-same (place.Quoted t) p q h = record { number = zeros p.den q.den; over = refl; text = refl }

-- ---- arguments

-- value by value
abbrev pub AreSameValues : ℕ → ℕ → List OperandValue → List OperandValue → Type 0
AreSameValues d d' [] [] = Unit {0}
AreSameValues d d' [] (w ∷ ws) = ⊥
AreSameValues d d' (v ∷ vs) [] = ⊥
AreSameValues d d' (v ∷ vs) (w ∷ ws) = IsSameValue d d' v w × AreSameValues d d' vs ws

-- arguments over the denominators d and d'
abbrev pub AreSameArguments : ℕ → ℕ → List Argument → List Argument → Type 0
AreSameArguments d d' [] [] = Unit {0}
AreSameArguments d d' [] (b ∷ bs) = ⊥
AreSameArguments d d' (a ∷ xs) [] = ⊥
AreSameArguments d d' (a ∷ xs) (b ∷ bs) = (a.0 *ℤ pos d' ≡ b.0 *ℤ pos d) × (a.1 ≡ b.1) × AreSameArguments d d' xs bs

-- the same values have the same product of denominators
pub overs-same : (d d' : ℕ) (vs ws : List OperandValue) → AreSameValues d d' vs ws → overs vs ≡ overs ws
overs-same d d' [] [] h = refl
overs-same d d' [] (w ∷ ws) h = absurd h
overs-same d d' (v ∷ vs) [] h = absurd h
overs-same d d' (v ∷ vs) (w ∷ ws) h = rw (h.0.over, overs-same d d' vs ws h.1)

-- a factor more of the arguments
times-same : (d d' m n : ℕ) (xs ys : List Argument) → m ≡ n → AreSameArguments d d' xs ys → AreSameArguments d d' (map (argument_times m) xs) (map (argument_times n) ys)
times-same d d' m n [] [] e h = tt
times-same d d' m n [] (y ∷ ys) e h = absurd h
times-same d d' m n (x ∷ xs) [] e h = absurd h
times-same d d' m n (x ∷ xs) (y ∷ ys) e h = (times_number d d' m n x.0 y.0 e h.0, h.1, times-same d d' m n xs ys e h.2)
  where
    times_number : (d d' m n : ℕ) (a b : ℤ) → m ≡ n → a *ℤ pos d' ≡ b *ℤ pos d → (a *ℤ pos m) *ℤ pos d' ≡ (b *ℤ pos n) *ℤ pos d
    times_number d d' m n a b e h = swap_law a (pos m) (pos d') ∙ rw (h, e) (swap_law b (pos d) (pos n))

-- a factor more of the denominators
over-same : (d d' m n : ℕ) (xs ys : List Argument) → m ≡ n → AreSameArguments d d' xs ys → AreSameArguments (d * m) (d' * n) xs ys
over-same d d' m n [] [] e h = tt
over-same d d' m n [] (y ∷ ys) e h = absurd h
over-same d d' m n (x ∷ xs) [] e h = absurd h
over-same d d' m n (x ∷ xs) (y ∷ ys) e h = (over_number x.0 y.0 d d' m n e h.0, h.1, over-same d d' m n xs ys e h.2)
  where
    product_law : (a : ℤ) (d n : ℕ) → a *ℤ pos (d * n) ≡ (a *ℤ pos d) *ℤ pos n
    product_law a d n = rw (parts a, diff-pos (d * n), diff-pos d, diff-pos n) (simp ring (diff_same _ _ _ _ (omega arith)))

    over_number : (a b : ℤ) (d d' m n : ℕ) → m ≡ n → a *ℤ pos d' ≡ b *ℤ pos d → a *ℤ pos (d' * n) ≡ b *ℤ pos (d * m)
    over_number a b d d' m n e h = product_law a d' n ∙ rw (h, e) (sym (product_law b d n))

-- the same values make the same arguments
numbers-same : (d d' : ℕ) (vs ws : List OperandValue) → AreSameValues d d' vs ws → AreSameArguments d d' (arguments vs) (arguments ws)
numbers-same d d' [] [] h = tt
numbers-same d d' [] (w ∷ ws) h = absurd h
numbers-same d d' (v ∷ vs) [] h = absurd h
numbers-same d d' (v ∷ vs) (w ∷ ws) h = (
  swap_law v.number (pos (overs vs)) (pos d') ∙ rw (h.0.number, overs-same d d' vs ws h.1) (swap_law w.number (pos d) (pos (overs ws))),
  h.0.text,
  times-same d d' v.over w.over (arguments vs) (arguments ws) h.0.over (numbers-same d d' vs ws h.1),
)

-- over the denominators times those of the values
pub arguments-same : (d d' : ℕ) (vs ws : List OperandValue) → AreSameValues d d' vs ws → AreSameArguments (d * overs vs) (d' * overs ws) (arguments vs) (arguments ws)
arguments-same d d' vs ws h = over-same d d' (overs vs) (overs ws) (arguments vs) (arguments ws) (overs-same d d' vs ws h) (numbers-same d d' vs ws h)

-- ---- lists of values

-- the values of a list at two points that are the same at the keys which it mentions
pub map-same : {T K : Type 0} (value : T → Point → OperandValue) (key : K → Key) (mention : T → K → Bool) (p q : Point)
    → ((t : T) → ((k : K) → mention t k ≡ true → IsSameAt p q (key k)) → IsSameValue p.den q.den (value t p) (value t q))
    → (ts : List T) → ((k : K) → list_any (λ t. mention t k) ts ≡ true → IsSameAt p q (key k)) → AreSameValues p.den q.den (map (λ t. value t p) ts) (map (λ t. value t q) ts)
map-same value key mention p q each [] h = tt
map-same value key mention p q each (t ∷ ts) h =
    (each t (λ k e. h k (or_left _ _ e)), map-same value key mention p q each ts (λ k e. h k (or_right (mention t k) _ e)))

-- a product of positive denominators is positive
pub overs-positive : {T : Type 0} (value : T → OperandValue) → ((t : T) → 0 < (value t).over) → (ts : List T) → 0 < overs (map value ts)
overs-positive value h [] = omega arith
overs-positive value h (t ∷ ts) = mul-pos (h t) (overs-positive value h ts)

-- the denominator that is read is at least 1
pub denominator-positive : (over : ℤ) → 0 < denominator over
unfolding denominator
denominator-positive over = omega arith

-- of an operand
pub operand_value-positive : (p : Point) (t : Operand) → 0 < (operand_value t p).over
operand_value-positive p (Single x) = omega arith
operand_value-positive p (Sum t) = denominator-positive t.over
operand_value-positive p (Quoted t) = omega arith

-- so is each value's own denominator
pub sorted : (s : Sort) (n : ℤ) (t : List ℕ) → 0 < (sorted_value s n t).over
sorted Rat n t = omega arith
sorted Text n t = omega arith

-- of a slot
pub slot_value-positive : (p : Point) (s : Slot) → 0 < (slot_value p s).over
slot_value-positive p s = sorted s.sort (number_at p (slot s)) (text_at p (slot s))

-- of a place
pub place_value-positive : (p : Point) (t : Place) → 0 < (place_value t p).over
place_value-positive p (place.At s) = slot_value-positive p s
place_value-positive p (place.Value t) = denominator-positive t.over
place_value-positive p (place.Quoted t) = omega arith
