-- Points at which the columns of a relation have the values of the slots that they are read into.
use Rattle.std.proofs.Common.{◌≡◌, ℕ, ◌+◌, ◌*◌, ◌<◌, Bool, true, cond, List, [], ◌∷◌, inl, inr, arith, refl, sym, ap, ap₂, ◌∙◌, subst, map}
use Rattle.std.specs.Prelude.{ℤ, pos, ◌*ℤ◌}
use Rattle.ded_num.proofs.Signs.{once}
use Rattle.ded_model.specs.declared.slot.Slot.{Slot}
use Rattle.ded_model.specs.declared.slot.Sort.{Sort}
use Rattle.ded_model.specs.declared.slot.Sort.TheVariants.{Rat, Text}
use Rattle.ded_model.specs.declared.name.Column.{Column}
use Rattle.ded_model.specs.Point.{slot, Value, Point, IsPoint, AllBytes, IsValue, AreValues, absent, last_from, as_number, as_text, number_at, text_at, same_slot, stands_in}
use Rattle.ded_model.specs.Known.{heading_slots}
use Rattle.ded_model.specs.Value.{sorted_value, slot_value, Argument, overs, argument_times, arguments}
use Rattle.ded_model.specs.Catalogue.{argument_coordinate, at_slots}
use Rattle.ded_model.specs.Renaming.{renamed, HaveOneValue, IsRenamedPoint}
use Rattle.ded_model.proofs.Points.{same_slot_refl}
use Rattle.ded_model.proofs.PointTexts.{point-bytes}
use Rattle.ded_model.proofs.SlotLists.{passed}
use Rattle.ded_algebra.specs.Evaluation.{HaveSorts}
use Rattle.ded_algebra.specs.Columns.{column_pairs}
use Rattle.ded_algebra.proofs.Columns.{IsRead, read, read_sort}

-- ---- the values of slots, as arguments

-- they are over 1
over_one : (q : Point) (s : Slot) → (slot_value q s).over ≡ 1
over_one q s = go s.sort
  where
    go : (t : Sort) → (sorted_value t (number_at q (slot s)) (text_at q (slot s))).over ≡ 1
    go Rat = refl
    go Text = refl

pub overs_one : (q : Point) (ss : List Slot) → overs (map (slot_value q) ss) ≡ 1
overs_one q [] = refl
overs_one q (s ∷ ss) = ap₂ (λ m n. m * n) (over_one q s) (overs_one q ss)

-- so the arguments are their numbers and texts
abbrev slot_argument : Point → Slot → Argument
slot_argument q s = ((slot_value q s).number, (slot_value q s).text)

times_one : (xs : List Argument) → map (argument_times 1) xs ≡ xs
times_one [] = refl
times_one (x ∷ xs) = ap₂ (λ (z : ℤ) (ys : List Argument). (z, x.1) ∷ ys) (once x.0) (times_one xs)

slot_arguments : (q : Point) (ss : List Slot) → arguments (map (slot_value q) ss) ≡ map (slot_argument q) ss
slot_arguments q [] = refl
slot_arguments q (s ∷ ss) =
    ap₂ (λ (z : ℤ) (xs : List Argument). (z, (slot_value q s).text) ∷ xs)
    (ap (λ m. (slot_value q s).number *ℤ pos m) (overs_one q ss) ∙ once (slot_value q s).number)
    (ap (λ m. map (argument_times m) (arguments (map (slot_value q) ss))) (over_one q s) ∙ times_one (arguments (map (slot_value q) ss)) ∙ slot_arguments q ss)

-- ---- what stands at a column

-- at a column's slot stands the value of the slot that it is read into
column_value : (q : Point) (k : ℕ) (h : List Column) (ss : List Slot) (s u : Slot) (v : Value) → IsRead k h ss s u → last_from v (at_slots k h (map (slot_argument q) ss)) (slot s) ≡ argument_coordinate s.sort (slot_argument q u)
column_value q k [] ss s u v r = absurd r
column_value q k (c ∷ h) [] s u v r = absurd r
column_value q k (c ∷ h) (w ∷ ss) s u v (inl r) =
    let n : s.number ≡ k = ap (λ (x : Slot). x.number) r.0 in
    ap (λ b. last_from (cond b (argument_coordinate c.sort (slot_argument q w)) v) (at_slots (k + 1) h (map (slot_argument q) ss)) (slot s)) (ap (λ t. same_slot s t) (sym r.0) ∙ same_slot_refl s)
    ∙ passed (k + 1) h (map (slot_argument q) ss) s (argument_coordinate c.sort (slot_argument q w)) (omega (arith, n))
    ∙ ap₂ (λ t x. argument_coordinate t (slot_argument q x)) (sym (ap (λ (x : Slot). x.sort) r.0)) (sym r.1)
column_value q k (c ∷ h) (w ∷ ss) s u v (inr r) = column_value q (k + 1) h ss s u _ r

-- ---- the point

-- the point of the arguments at the columns
abbrev pub column_point : Point → List Column → List Slot → Point
column_point q h ss = record { den = q.den * overs (map (slot_value q) ss); coords = at_slots 0 h (arguments (map (slot_value q) ss)) }

-- the coordinate of a value, read at the slot's sort
pub same_number : (q : Point) (u : Slot) (t : Sort) → u.sort ≡ t → (as_number (argument_coordinate t (slot_argument q u))) ≡ (sorted_value t (number_at q (slot u)) (text_at q (slot u))).number
same_number q u Rat e = ap (λ x. (sorted_value x (number_at q (slot u)) (text_at q (slot u))).number) e
same_number q u Text e = refl

pub same_text : (q : Point) (u : Slot) (t : Sort) → u.sort ≡ t → (as_text (argument_coordinate t (slot_argument q u))) ≡ (sorted_value t (number_at q (slot u)) (text_at q (slot u))).text
same_text q u Rat e = refl
same_text q u Text e = ap (λ x. (sorted_value x (number_at q (slot u)) (text_at q (slot u))).text) e

pub number_there : (q : Point) (h : List Column) (ss : List Slot) (s u : Slot) → IsRead 0 h ss s u → number_at (column_point q h ss) (slot s) ≡ as_number (argument_coordinate s.sort (slot_argument q u))
unfolding number_at
number_there q h ss s u r = ap (λ xs. as_number (last_from absent (at_slots 0 h xs) (slot s))) (slot_arguments q ss) ∙ ap as_number (column_value q 0 h ss s u absent r)

pub text_there : (q : Point) (h : List Column) (ss : List Slot) (s u : Slot) → IsRead 0 h ss s u → text_at (column_point q h ss) (slot s) ≡ as_text (argument_coordinate s.sort (slot_argument q u))
unfolding text_at
text_there q h ss s u r = ap (λ xs. as_text (last_from absent (at_slots 0 h xs) (slot s))) (slot_arguments q ss) ∙ ap as_text (column_value q 0 h ss s u absent r)

one_value : (q : Point) (h : List Column) (ss : List Slot) (s u : Slot) (t : Sort) → s.sort ≡ t → u.sort ≡ t → IsRead 0 h ss s u → HaveOneValue t (column_point q h ss) (slot s) q (slot u)
one_value q h ss s u Rat e f r = sym (number_there q h ss s u r ∙ ap (λ x. as_number (argument_coordinate x (slot_argument q u))) e ∙ same_number q u Rat f)
one_value q h ss s u Text e f r = sym (text_there q h ss s u r ∙ ap (λ x. as_text (argument_coordinate x (slot_argument q u))) e ∙ same_text q u Text f)

-- the slots have the values of the columns
pub columns_point : (q : Point) (h : List Column) (ss : List Slot) (test : Slot → Bool) → HaveSorts h ss → ((s : Slot) → test s ≡ true → stands_in (heading_slots 0 h) s ≡ true) → IsRenamedPoint (column_pairs 0 ss) test (column_point q h ss) q
columns_point q h ss test j o = record {
  den = sym (ap (λ m. q.den * m) (overs_one q ss) ∙ omega arith);
  value = λ s e. (let r = read 0 h ss s j (o s e) in one_value q h ss s (renamed (column_pairs 0 ss) s) s.sort refl (read_sort 0 h ss s (renamed (column_pairs 0 ss) s) j r) r);
}

-- it is a point
column_values : (q : Point) → IsPoint q → (k : ℕ) (h : List Column) (ss : List Slot) → AreValues (at_slots k h (map (slot_argument q) ss))
column_values q i k [] ss = tt
column_values q i k (c ∷ h) [] = tt
column_values q i k (c ∷ h) (s ∷ ss) = (of c.sort, column_values q i (k + 1) h ss)
  where
    bytes : (t : Sort) → AllBytes (sorted_value t (number_at q (slot s)) (text_at q (slot s))).text
    bytes Rat = tt
    bytes Text = point-bytes q (slot s) i

    of : (t : Sort) → IsValue (argument_coordinate t (slot_argument q s))
    of Rat = tt
    of Text = bytes s.sort

pub column_point_is : (q : Point) (h : List Column) (ss : List Slot) → IsPoint q → IsPoint (column_point q h ss)
column_point_is q h ss i = record {
  positive = subst (λ z. 0 < z) (sym (ap (λ z. q.den * z) (overs_one q ss) ∙ omega arith)) i.positive;
  bytes = subst (λ xs. AreValues (at_slots 0 h xs)) (sym (slot_arguments q ss)) (column_values q i 0 h ss);
}
