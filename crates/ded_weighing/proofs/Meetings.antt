-- What a row comes to at a point that is given as data, and that rows hold somewhere which hold at such a point.
use Rattle.std.proofs.Common.{◌≡◌, Bool, true, false, ◌&&◌, ◌||◌, Option, Some, None, MatchOption, cond, ◌<◌, List, [], ◌∷◌, map, arith, refl, sym, ap, ◌∙◌}
use Rattle.std.specs.Prelude.{ℤ, pos, ◌+ℤ◌, ◌*ℤ◌, ◌≤ℤ◌, int_lt, unsigned_abs, not}
use Rattle.std.specs.List.{list_all}
use Rattle.std.proofs.lemmas.Int.{ints}
use lib.IntN.{+ℤ_idl, +ℤ_idr}
use Rattle.ded_num.proofs.Tests.{both}
use Rattle.ded_model.specs.declared.slot.Slot.{Slot}
use Rattle.ded_model.specs.Constraint.{LinearConstraint}
use Rattle.ded_model.specs.Point.{slot, number, IsPoint, AreValues, Value, same_slot, last_from, as_number, number_at}
use Rattle.ded_model.specs.Cell.{conj_holds, HoldsSomewhere}
use Rattle.ded_model.specs.Row.{sum_at, row_at, sign_meets, row_holds}
use Rattle.ded_model.proofs.Points.{and_left, and_right}
use Rattle.ded_model.proofs.Rows.{or_right}
use Rattle.ded_weighing.specs.Weighing.{term_is_long}
use Rattle.ded_weighing.specs.Meeting.{point_of, number_from, sum_with, coefs_are_long, row_is_long, meets_row, meets, weakly, leans_row}

-- ---- numbers of slots

-- the number of the slot at the end of coordinates, after a value
abbrev number_behind : Value → List (Slot × ℤ) → Slot → ℤ
number_behind w vs s = as_number (last_from w (map (λ (v : Slot × ℤ). (slot v.0, number v.1)) vs) (slot s))

last_number : (z : ℤ) (vs : List (Slot × ℤ)) (s : Slot) → number_behind (number z) vs s ≡ number_from z vs s
last_number z [] s = refl
last_number z (v ∷ vs) s = go (last_number v.1 vs s) (last_number z vs s) (same_slot s v.0)
  where
    go : number_behind (number v.1) vs s ≡ number_from v.1 vs s → number_behind (number z) vs s ≡ number_from z vs s → (b : Bool) → number_behind (cond b (number v.1) (number z)) vs s ≡ number_from (cond b v.1 z) vs s
    go e f true = e
    go e f false = f

-- the number of a slot is that at the point
pub number_is : (vs : List (Slot × ℤ)) (d : ℤ) (s : Slot) → number_at (point_of vs d) (slot s) ≡ number_from (pos 0) vs s
unfolding number_at
number_is vs d s = last_number (pos 0) vs s

-- ---- sums

move : (x s z : ℤ) → s +ℤ (x +ℤ z) ≡ (x +ℤ s) +ℤ z
move x s z = omega (arith, ints)

sum_with-is : (vs : List (Slot × ℤ)) (d z : ℤ) (cs : List (Slot × ℤ)) → sum_with vs z cs ≡ sum_at cs (point_of vs d) +ℤ z
sum_with-is vs d z [] = sym (+ℤ_idl z)
sum_with-is vs d z (c ∷ cs) =
    sum_with-is vs d (c.1 *ℤ number_from (pos 0) vs c.0 +ℤ z) cs ∙ move (c.1 *ℤ number_from (pos 0) vs c.0) (sum_at cs (point_of vs d)) z
    ∙ ap (λ n. (c.1 *ℤ n +ℤ sum_at cs (point_of vs d)) +ℤ z) (sym (number_is vs d c.0))

pub not_negative_is : (d : ℤ) → pos 0 ≤ℤ d → d ≡ pos (unsigned_abs d)
not_negative_is d h = omega (arith, ints)

-- what a row comes to at the point
pub row_with-is : (vs : List (Slot × ℤ)) (d : ℤ) (r : LinearConstraint) → pos 0 ≤ℤ d → sum_with vs (r.constant *ℤ d +ℤ pos 0) r.coefs ≡ row_at r (point_of vs d)
row_with-is vs d r h =
    sum_with-is vs d (r.constant *ℤ d +ℤ pos 0) r.coefs
    ∙ ap (λ z. sum_at r.coefs (point_of vs d) +ℤ z) (+ℤ_idr (r.constant *ℤ d) ∙ ap (λ z. r.constant *ℤ z) (not_negative_is d h))

-- what the coefficients, put to k, are told to come to
abbrev pub AreTold : List (Slot × ℤ) → ℤ → List (Slot × ℤ) → Option ℤ → Type 0
AreTold vs k cs o = MatchOption o (coefs_are_long vs k cs ≡ true) (λ z. (coefs_are_long vs k cs ≡ false) × (z ≡ sum_with vs k cs))

-- what the constant and the coefficients come to
pub row_told : (vs : List (Slot × ℤ)) (d : ℤ) (r : LinearConstraint) (k : ℤ) (o : Option ℤ)
    → pos 0 ≤ℤ d → (term_is_long r.constant d (pos 0) ≡ false) × (k ≡ r.constant *ℤ d +ℤ pos 0)
    → AreTold vs k r.coefs o
    → MatchOption o (row_is_long vs d r ≡ true) (λ z. (row_is_long vs d r ≡ false) × (z ≡ row_at r (point_of vs d)))
row_told vs d r k None p f h = or_right (term_is_long r.constant d (pos 0)) _ (ap (λ x. coefs_are_long vs x r.coefs) (sym f.1) ∙ h)
row_told vs d r k (Some z) p f h = (
  neither (term_is_long r.constant d (pos 0)) (coefs_are_long vs (r.constant *ℤ d +ℤ pos 0) r.coefs) f.0 (ap (λ x. coefs_are_long vs x r.coefs) (sym f.1) ∙ h.0),
  h.1 ∙ ap (λ x. sum_with vs x r.coefs) f.1 ∙ row_with-is vs d r p,
)
  where
    neither : (a b : Bool) → a ≡ false → b ≡ false → (a || b) ≡ false
    neither a b e f = rw (e, f) refl

-- the row is met as the sum of its numbers tells
pub met_with : (vs : List (Slot × ℤ)) (d : ℤ) (r : LinearConstraint) (z : ℤ) → (row_is_long vs d r ≡ false) × (z ≡ row_at r (point_of vs d)) → sign_meets r.op z ≡ meets_row vs d r
unfolding row_holds
met_with vs d r z e = ap (sign_meets r.op) e.1 ∙ ap (λ b. not b && sign_meets r.op (row_at r (point_of vs d))) (sym e.0)

-- the same where no sum has to be below 0
pub leant_with : (vs : List (Slot × ℤ)) (d : ℤ) (r : LinearConstraint) (z : ℤ) → (row_is_long vs d r ≡ false) × (z ≡ row_at r (point_of vs d)) → sign_meets (weakly r.op) z ≡ leans_row vs d r
leant_with vs d r z e = ap (sign_meets (weakly r.op)) e.1 ∙ ap (λ b. not b && sign_meets (weakly r.op) (row_at r (point_of vs d))) (sym e.0)

pub not_leant : (vs : List (Slot × ℤ)) (d : ℤ) (r : LinearConstraint) → row_is_long vs d r ≡ true → false ≡ leans_row vs d r
not_leant vs d r e = ap (λ b. not b && sign_meets (weakly r.op) (row_at r (point_of vs d))) (sym e)

-- and isn't where a number is too long
pub not_met : (vs : List (Slot × ℤ)) (d : ℤ) (r : LinearConstraint) → row_is_long vs d r ≡ true → false ≡ meets_row vs d r
not_met vs d r e = ap (λ b. not b && row_holds r (point_of vs d)) (sym e)

-- ---- the walk along coefficients

-- the sum of the first coefficients, from which the sum of all goes on, and is too long exactly where that is
pub record IsSummedWith (vs : List (Slot × ℤ)) (before : ℤ) (cs : List (Slot × ℤ)) (sum : ℤ) (rest : List (Slot × ℤ)) : Type 0 where
  pub same : sum_with vs sum rest ≡ sum_with vs before cs
  pub long : coefs_are_long vs sum rest ≡ coefs_are_long vs before cs

-- ---- what is shown

are_values : (vs : List (Slot × ℤ)) → AreValues (map (λ (v : Slot × ℤ). (slot v.0, number v.1)) vs)
are_values [] = tt
are_values (v ∷ vs) = (tt, are_values vs)

is_positive : (d : ℤ) → int_lt (pos 0) d ≡ true → 0 < unsigned_abs d
is_positive d e = grind (arith, ints)

pub is_point : (vs : List (Slot × ℤ)) (d : ℤ) → int_lt (pos 0) d ≡ true → IsPoint (point_of vs d)
is_point vs d h = record { positive = is_positive d h; bytes = are_values vs }

pub all_hold : (vs : List (Slot × ℤ)) (d : ℤ) (rs : List LinearConstraint) → list_all (λ r. meets_row vs d r) rs ≡ true → conj_holds row_holds rs (point_of vs d) ≡ true
all_hold vs d [] h = refl
all_hold vs d (r ∷ rs) h =
    let rest = list_all (λ r. meets_row vs d r) rs in
    both (row_holds r (point_of vs d)) (conj_holds row_holds rs (point_of vs d))
    (and_right (not (row_is_long vs d r)) (row_holds r (point_of vs d)) (and_left (meets_row vs d r) rest h)) (all_hold vs d rs (and_right (meets_row vs d r) rest h))

-- rows that hold at a point which is given as data hold somewhere
pub rows_somewhere : (vs : List (Slot × ℤ)) (d : ℤ) (rs : List LinearConstraint) → meets vs d rs ≡ true → HoldsSomewhere (conj_holds row_holds rs)
rows_somewhere vs d rs h =
    let rest = list_all (λ r. meets_row vs d r) rs in
    (point_of vs d, is_point vs d (and_left (int_lt (pos 0) d) rest h), all_hold vs d rs (and_right (int_lt (pos 0) d) rest h))
