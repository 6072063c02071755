-- The two shapes of order lines: one slot with numbers of a point, or one slot compared with another.
use Rattle.std.proofs.Common.{◌≡◌, ◌≢◌, ℕ, ◌<◌, ◌≤◌, Bool, true, false, cond, List, [], ◌∷◌, ◌++◌, ◌⊎◌, inl, inr, arith, sym, ap, ap₂, ◌∙◌, subst}
use Rattle.std.specs.Prelude.{ℤ, pos, negsuc, ◌+ℤ◌, ◌*ℤ◌}
use lib.IntN.{+ℤ_idr}
use Rattle.std.proofs.lemmas.Int.{ints}
use Rattle.std.proofs.lemmas.Nat.Gcd.{le_of_dvd}
use Rattle.ded_num.specs.Gcd.{gcd_all}
use Rattle.ded_num.specs.Length.{IsWithin}
use Rattle.ded_num.proofs.Gcds.{DividesAll, DividesAll-gcd_all}
use Rattle.ded_model.specs.declared.slot.Slot.{Slot}
use Rattle.ded_model.specs.declared.slot.Sort.TheVariants.{Rat}
use Rattle.ded_model.specs.declared.row.RowOp.TheVariants.{Zero}
use Rattle.ded_model.specs.Constraint.{LinearConstraint}
use Rattle.ded_model.specs.Normal.{normal_row, row_over}
use Rattle.ded_model.specs.Point.{same_slot}
use Rattle.ded_model.specs.Lines.{Line, In, line_with, IsLineWithin, AreWithin}
use Rattle.ded_model.proofs.Divisors.{positive_divisor}
use Rattle.ded_model.proofs.LineLengths.{zero_within}
use Rattle.ded_model.proofs.Members.{In-split}
use Rattle.ded_row.proofs.Scaling.{normal_row-times}
use Rattle.ded_width.specs.Orderly.{is_point}
use Rattle.ded_width.proofs.Points.{point_left, point_right}

-- ---- lines

-- a line of one slot
abbrev pub one_line : Slot → ℤ → ℤ → Line
one_line s a c = record { coefs = (s, a) ∷ []; constant = c; op = Zero }

-- a line that says that two slots are equal
abbrev pub two_line : Slot → Slot → Line
two_line s t = record { coefs = (s, pos 1) ∷ (t, negsuc 0) ∷ []; constant = pos 0; op = Zero }

-- numbers of a normal line with one slot: those of a point up to sign, of at most 63 digits
pub record IsPointPair (ps : List (ℤ × ℤ)) (s : Slot) (a c : ℤ) : Type 0 where
  pub nonzero : a ≢ pos 0
  pub normal : normal_row (one_line s a c) ≡ one_line s a c
  pub point : is_point ps a c ≡ true
  pub first : IsWithin 63 a
  pub last : IsWithin 63 c

pub record IsOneLine (ps : List (ℤ × ℤ)) (l : Line) : Type 0 where
  pub slot : Slot
  pub a : ℤ
  pub c : ℤ
  pub is : l ≡ one_line slot a c
  pub rational : slot.sort ≡ Rat
  pub pair : IsPointPair ps slot a c

pub record IsTwoLine (l : Line) : Type 0 where
  pub first : Slot
  pub second : Slot
  pub is : l ≡ two_line first second
  pub rational : first.sort ≡ Rat
  pub other : second.sort ≡ Rat
  pub below : first.number < second.number

abbrev pub IsShape : List (ℤ × ℤ) → Line → Type 0
IsShape ps l = IsOneLine ps l ⊎ IsTwoLine l

abbrev pub AreShapes : List (ℤ × ℤ) → List Line → Type 0
AreShapes ps ls = (l : Line) → In l ls → IsShape ps l

-- a list of one line
pub single : (ps : List (ℤ × ℤ)) (l : Line) → IsShape ps l → AreShapes ps (l ∷ [])
single ps l h m (inl e) = subst (IsShape ps) (sym e) h
single ps l h m (inr i) = absurd i

-- ---- more points

pub pair_more : (ps qs : List (ℤ × ℤ)) (s : Slot) (a c : ℤ) → (is_point ps a c ≡ true → is_point qs a c ≡ true) → IsPointPair ps s a c → IsPointPair qs s a c
pair_more ps qs s a c h p = record { nonzero = p.nonzero; normal = p.normal; point = h p.point; first = p.first; last = p.last }

pub shape_more : (ps qs : List (ℤ × ℤ)) (l : Line) → ((a c : ℤ) → is_point ps a c ≡ true → is_point qs a c ≡ true) → IsShape ps l → IsShape qs l
shape_more ps qs l h (inl o) = inl (record { slot = o.slot; a = o.a; c = o.c; is = o.is; rational = o.rational; pair = pair_more ps qs o.slot o.a o.c (h o.a o.c) o.pair })
shape_more ps qs l h (inr t) = inr t

pub shapes_both : (ps qs : List (ℤ × ℤ)) (xs ys : List Line) → AreShapes ps xs → AreShapes qs ys → AreShapes (ps ++ qs) (xs ++ ys)
shapes_both ps qs xs ys h k l i = elim (In-split l xs ys i) [
  | inl j ↦ shape_more ps (ps ++ qs) l (point_left ps qs) (h l j)
  | inr j ↦ shape_more qs (ps ++ qs) l (point_right ps qs) (k l j)
]

-- ---- what numbers make

first_number : List (Slot × ℤ) → ℤ
first_number [] = pos 0
first_number (c ∷ cs) = c.1

-- a normal line of one slot is normal at another slot
pub moved : (s t : Slot) (a c : ℤ) → normal_row (one_line s a c) ≡ one_line s a c → normal_row (one_line t a c) ≡ one_line t a c
unfolding normal_row first_number
moved s t a c e = ap₂ (λ (x y : ℤ). one_line t x y) (ap (λ (r : LinearConstraint). first_number r.coefs) e) (ap (λ (r : LinearConstraint). r.constant) e)

pub pair_moved : (ps : List (ℤ × ℤ)) (s t : Slot) (a c : ℤ) → IsPointPair ps s a c → IsPointPair ps t a c
pair_moved ps s t a c p = record { nonzero = p.nonzero; normal = moved s t a c p.normal; point = p.point; first = p.first; last = p.last }

-- a multiple of its numbers makes the line
pub line_one : (ps : List (ℤ × ℤ)) (s t : Slot) (k a c : ℤ) → k ≢ pos 0 → IsPointPair ps s a c → line_with ((t, k *ℤ a) ∷ []) (k *ℤ c) ≡ one_line t a c ∷ []
line_one ps s t k a c n p = ap (λ (l : Line). l ∷ []) (normal_row-times k (one_line t a c) (record { nonzero = n; sign = tt }) p.nonzero ∙ moved s t a c p.normal)

one_divisor : (g : ℕ) → 0 < g → g ≤ 1 → g ≡ 1
one_divisor g h k = omega arith

one_nonzero : pos 1 ≢ pos 0
one_nonzero e = absurd (omega (arith, ints, e))

-- 0, 1 and -1 have the divisor 1
gcd_one : gcd_all (pos 0 ∷ pos 1 ∷ negsuc 0 ∷ []) ≡ 1
gcd_one =
    let g = gcd_all (pos 0 ∷ pos 1 ∷ negsuc 0 ∷ []) in
    let all : DividesAll g (pos 0 ∷ pos 1 ∷ negsuc 0 ∷ []) = DividesAll-gcd_all (pos 0 ∷ pos 1 ∷ negsuc 0 ∷ []) in
    one_divisor g (positive_divisor g (pos 1) all.1.0 one_nonzero) (le_of_dvd (omega arith) all.1.0)

pub two_normal : (s t : Slot) → normal_row (two_line s t) ≡ two_line s t
unfolding normal_row
two_normal s t = ap (λ g. row_over (pos g) (two_line s t)) gcd_one

pub line_two : (s t : Slot) (k : ℤ) → k ≢ pos 0 → line_with ((s, k *ℤ pos 1) ∷ (t, k *ℤ negsuc 0) ∷ []) (k *ℤ pos 0) ≡ two_line s t ∷ []
line_two s t k n = ap (λ (l : Line). l ∷ []) (normal_row-times k (two_line s t) (record { nonzero = n; sign = tt }) one_nonzero ∙ two_normal s t)

-- ---- lengths

either_within : (b : Bool) (k : ℕ) (x y : ℤ) → IsWithin k x → IsWithin k y → IsWithin k (cond b x y)
either_within true k x y h l = h
either_within false k x y h l = l

one_within : (s : Slot) (a c : ℤ) → IsWithin 63 a → IsWithin 63 c → IsLineWithin 63 (one_line s a c)
one_within s a c h k = record {
  coefs = λ t. subst (IsWithin 63) (sym (+ℤ_idr (cond (same_slot s t) a (pos 0)))) (either_within (same_slot s t) 63 a (pos 0) h (zero_within 63));
  constant = k;
}

two_within : (s t : Slot) → IsLineWithin 63 (two_line s t)
two_within s t = record { coefs = λ u. by (same_slot s u) (same_slot t u); constant = zero_within 63 }
  where
    by : (p q : Bool) → IsWithin 63 (cond p (pos 1) (pos 0) +ℤ (cond q (negsuc 0) (pos 0) +ℤ pos 0))
    by true true = omega arith
    by true false = omega arith
    by false true = omega arith
    by false false = omega arith

pub shape_within : (ps : List (ℤ × ℤ)) (l : Line) → IsShape ps l → IsLineWithin 63 l
shape_within ps l (inl o) = subst (IsLineWithin 63) (sym o.is) (one_within o.slot o.a o.c o.pair.first o.pair.last)
shape_within ps l (inr t) = subst (IsLineWithin 63) (sym t.is) (two_within t.first t.second)

pub shapes_within : (ps : List (ℤ × ℤ)) (ls : List Line) → AreShapes ps ls → AreWithin 63 ls
shapes_within ps ls h l i = shape_within ps l (h l i)
