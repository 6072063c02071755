-- A point at which the slots of a scan have the values of another point's columns.
use Rattle.std.proofs.Common.{◌≡◌, ℕ, ◌+◌, ◌*◌, Bool, true, false, cond, inl, inr, List, [], ◌∷◌, arith, refl, sym, ap, ap₂, ◌∙◌, subst, true≢false}
use Rattle.std.specs.Prelude.{ℤ, pos, ◌*ℤ◌}
use Rattle.ded_model.specs.declared.slot.Slot.{Slot}
use Rattle.ded_model.specs.declared.slot.Sort.{Sort}
use Rattle.ded_model.specs.declared.slot.Sort.TheVariants.{Rat, Text}
use Rattle.ded_model.specs.declared.name.Column.{Column}
use Rattle.ded_model.specs.Catalogue.{argument_coordinate}
use Rattle.ded_model.specs.Known.{heading_slots}
use Rattle.ded_model.specs.Point.{Key, slot, Value, Point, IsPoint, AreValues, IsSameAt, absent, last_from, as_number, as_text, number_at, text_at, same_slot, stands_in, AreDistinctSlots}
use Rattle.ded_model.specs.Renaming.{renamed}
use Rattle.ded_model.specs.Value.{slot_value}
use Rattle.ded_model.proofs.Bools.{or_false_left, or_false_right}
use Rattle.ded_model.proofs.Points.{same_slot_is, same_slot_refl}
use Rattle.ded_model.proofs.PointTexts.{point-bytes}
use Rattle.ded_sorts.proofs.Scopes.{IsOnlyOf}
use Rattle.ded_algebra.specs.Evaluation.{HaveSorts}
use Rattle.ded_algebra.specs.Columns.{column_pairs}
use Rattle.ded_algebra.proofs.ColumnPoints.{overs_one, number_there, text_there, same_number, same_text}
use Rattle.ded_algebra.proofs.Columns.{IsRead, read, read_sort}
use Rattle.ded_query.specs.Windows.{column_values}
use Rattle.ded_query.proofs.Closings.{IsOwnAt}
use Rattle.ded_plan.proofs.PlansOfFormulas.{argument_value}

-- ---- columns

-- values of slots, read as columns, are of the columns' sorts
pub columns_own : (q : Point) (h : List Column) (ss : List Slot) → HaveSorts h ss → (s : Slot) → stands_in (heading_slots 0 h) s ≡ true → IsOwnAt (column_values q h ss) s
columns_own q h ss j s e = by s.sort refl
  where
    u : Slot
    u = renamed (column_pairs 0 ss) s

    r : IsRead 0 h ss s u
    r = read 0 h ss s j e

    by : (x : Sort) → s.sort ≡ x → IsOnlyOf x (number_at (column_values q h ss) (slot s)) (text_at (column_values q h ss) (slot s))
    by Rat f = text_there q h ss s u r ∙ ap (λ y. as_text (argument_coordinate y ((slot_value q u).number, (slot_value q u).text))) f
    by Text f = number_there q h ss s u r ∙ ap (λ y. as_number (argument_coordinate y ((slot_value q u).number, (slot_value q u).text))) f

-- ---- the point

-- the value of a slot, as its sort says
abbrev coordinate : Point → Slot → Value
coordinate q s = argument_coordinate s.sort (number_at q (slot s), text_at q (slot s))

-- the slots with the values of the columns from k on
abbrev scan_coords : Point → ℕ → List Slot → List (Key × Value)
scan_coords q k [] = []
scan_coords q k (v ∷ ss) = (slot v, coordinate q (record { number = k; sort = v.sort })) ∷ scan_coords q (k + 1) ss

abbrev pub scan_point : Point → List Slot → Point
scan_point q ss = record { den = q.den; coords = scan_coords q 0 ss }

scan_values : (q : Point) → IsPoint q → (k : ℕ) (ss : List Slot) → AreValues (scan_coords q k ss)
scan_values q i k [] = tt
scan_values q i k (v ∷ ss) =
    let c : Slot = record { number = k; sort = v.sort } in
    (argument_value v.sort (number_at q (slot c), text_at q (slot c)) (point-bytes q (slot c) i), scan_values q i (k + 1) ss)

pub scan_point_is : (q : Point) (ss : List Slot) → IsPoint q → IsPoint (scan_point q ss)
scan_point_is q ss i = record { positive = i.positive; bytes = scan_values q i 0 ss }

-- ---- its values are of the slots' sorts

one_own : (t : Sort) (n : ℤ) (x : List ℕ) → IsOnlyOf t (as_number (argument_coordinate t (n, x))) (as_text (argument_coordinate t (n, x)))
one_own Rat n x = refl
one_own Text n x = refl

none_own : (t : Sort) → IsOnlyOf t (as_number absent) (as_text absent)
none_own Rat = refl
none_own Text = refl

last_own : (q : Point) (k : ℕ) (ss : List Slot) (s : Slot) (w : Value) → IsOnlyOf s.sort (as_number w) (as_text w)
    → IsOnlyOf s.sort (as_number (last_from w (scan_coords q k ss) (slot s))) (as_text (last_from w (scan_coords q k ss) (slot s)))
last_own q k [] s w o = o
last_own q k (v ∷ ss) s w o = last_own q (k + 1) ss s _ (by (same_slot s v) refl)
  where
    x : Value
    x = coordinate q (record { number = k; sort = v.sort })

    by : (b : Bool) → same_slot s v ≡ b → IsOnlyOf s.sort (as_number (cond b (coordinate q (record { number = k; sort = v.sort })) w)) (as_text (cond b (coordinate q (record { number = k; sort = v.sort })) w))
    by true f = subst (λ t. IsOnlyOf t (as_number (coordinate q (record { number = k; sort = v.sort }))) (as_text (coordinate q (record { number = k; sort = v.sort })))) (sym (ap (λ (y : Slot). y.sort) (same_slot_is s v f))) (one_own v.sort _ _)
    by false f = o

pub scan_own : (q : Point) (ss : List Slot) (s : Slot) → IsOwnAt (scan_point q ss) s
unfolding number_at text_at
scan_own q ss s = last_own q 0 ss s absent (none_own s.sort)

-- ---- its values are those of the columns

other_slot : (v u : Slot) (b : Bool) → same_slot u v ≡ b → same_slot v u ≡ false → same_slot u v ≡ false
other_slot v u true e f = absurd (true≢false (sym (ap (λ y. same_slot v y) (same_slot_is u v e) ∙ same_slot_refl v) ∙ f))
other_slot v u false e f = e

passed : (q : Point) (k : ℕ) (ss : List Slot) (u : Slot) (w : Value) → stands_in ss u ≡ false → last_from w (scan_coords q k ss) (slot u) ≡ w
passed q k [] u w e = refl
passed q k (v ∷ ss) u w e =
    ap (λ b. last_from (cond b (coordinate q (record { number = k; sort = v.sort })) w) (scan_coords q (k + 1) ss) (slot u)) (other_slot v u (same_slot u v) refl (or_false_left (same_slot v u) (stands_in ss u) e))
    ∙ passed q (k + 1) ss u w (or_false_right (same_slot v u) (stands_in ss u) e)

there : (q : Point) (k : ℕ) (h : List Column) (ss : List Slot) (s u : Slot) (w : Value) → AreDistinctSlots ss → HaveSorts h ss → IsRead k h ss s u → last_from w (scan_coords q k ss) (slot u) ≡ coordinate q s
there q k [] ss s u w d j r = absurd r
there q k (c ∷ h) [] s u w d j r = absurd r
there q k (c ∷ h) (v ∷ ss) s u w d j (inl r) =
    ap (λ b. last_from (cond b (coordinate q (record { number = k; sort = v.sort })) w) (scan_coords q (k + 1) ss) (slot u)) (ap (λ y. same_slot y v) r.1 ∙ same_slot_refl v)
    ∙ passed q (k + 1) ss u (coordinate q (record { number = k; sort = v.sort })) (ap (stands_in ss) r.1 ∙ d.0)
    ∙ ap (λ (y : Slot). coordinate q y) (ap (λ (t : Sort). record { number = k; sort = t }) (sym j.0) ∙ sym r.0)
there q k (c ∷ h) (v ∷ ss) s u w d j (inr r) = there q (k + 1) h ss s u _ d.1 j.1 r

module _ (q : Point) (h : List Column) (ss : List Slot) (d : AreDistinctSlots ss) (j : HaveSorts h ss) (s u : Slot) (r : IsRead 0 h ss s u) where
  there_number : number_at (scan_point q ss) (slot u) ≡ as_number (coordinate q s)
  unfolding number_at
  there_number = ap as_number (there q 0 h ss s u absent d j r)

  there_text : text_at (scan_point q ss) (slot u) ≡ as_text (coordinate q s)
  unfolding text_at
  there_text = ap as_text (there q 0 h ss s u absent d j r)

-- so, read as columns, they are the point's own, where these are of their sorts
pub scan_same : (q : Point) (h : List Column) (ss : List Slot) → AreDistinctSlots ss → HaveSorts h ss → (s : Slot) → stands_in (heading_slots 0 h) s ≡ true → IsOwnAt q s
    → IsSameAt q (column_values (scan_point q ss) h ss) (slot s)
scan_same q h ss d j s e o = record {
  number = ap₂ (λ (n : ℤ) (m : ℕ). n *ℤ pos m) (sym (numbers s.sort refl)) (ap (λ m. q.den * m) (overs_one t ss) ∙ omega arith);
  text = sym (texts s.sort refl);
}
  where
    t : Point
    t = scan_point q ss

    u : Slot
    u = renamed (column_pairs 0 ss) s

    r : IsRead 0 h ss s u
    r = read 0 h ss s j e

    sorts : u.sort ≡ s.sort
    sorts = read_sort 0 h ss s u j r

    numbers : (x : Sort) → s.sort ≡ x → number_at (column_values t h ss) (slot s) ≡ number_at q (slot s)
    numbers Rat f =
        number_there t h ss s u r
        ∙ ap (λ y. as_number (argument_coordinate y ((slot_value t u).number, (slot_value t u).text))) f
        ∙ same_number t u Rat (sorts ∙ f)
        ∙ there_number q h ss d j s u r
        ∙ ap (λ y. as_number (argument_coordinate y (number_at q (slot s), text_at q (slot s)))) f
    numbers Text f =
        number_there t h ss s u r
        ∙ ap (λ y. as_number (argument_coordinate y ((slot_value t u).number, (slot_value t u).text))) f
        ∙ sym (subst (λ y. IsOnlyOf y (number_at q (slot s)) (text_at q (slot s))) f o)

    texts : (x : Sort) → s.sort ≡ x → text_at (column_values t h ss) (slot s) ≡ text_at q (slot s)
    texts Rat f =
        text_there t h ss s u r
        ∙ ap (λ y. as_text (argument_coordinate y ((slot_value t u).number, (slot_value t u).text))) f
        ∙ sym (subst (λ y. IsOnlyOf y (number_at q (slot s)) (text_at q (slot s))) f o)
    texts Text f =
        text_there t h ss s u r
        ∙ ap (λ y. as_text (argument_coordinate y ((slot_value t u).number, (slot_value t u).text))) f
        ∙ same_text t u Text (sorts ∙ f)
        ∙ there_text q h ss d j s u r
        ∙ ap (λ y. as_text (argument_coordinate y (number_at q (slot s), text_at q (slot s)))) f
