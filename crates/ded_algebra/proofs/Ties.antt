-- The atom that ties a new slot to the value of an argument holds exactly where the two are equal.
use Rattle.std.proofs.Common.{◌≡◌, ℕ, ◌*◌, ◌<◌, List, [], arith, refl, sym, ap, subst, ◌∙◌}
use Rattle.std.specs.Prelude.{ℤ, pos, ◌+ℤ◌, ◌-ℤ◌, ◌*ℤ◌, IsTrue, ◌↔◌}
use lib.IntN.{neg_ℤ, +ℤ_idr}
use Rattle.std.specs.Ordering.{int_eq}
use Rattle.std.proofs.lemmas.Bool.Decides.{Decides-int_eq}
use Rattle.std.proofs.lemmas.Slice.Eq.{bytes_eq-Decides}
use Rattle.std.proofs.Math.IntN.{zero-*ℤ}
use Rattle.ded_model.specs.declared.slot.Slot.{Slot}
use Rattle.ded_model.specs.declared.slot.Sort.{Sort}
use Rattle.ded_model.specs.declared.slot.Sort.TheVariants.{Rat, Text}
use Rattle.ded_model.specs.declared.goal.Place.{Place}
use Rattle.ded_model.specs.declared.goal.Place.TheVariants.{At, Value, Quoted}
use Rattle.ded_model.specs.declared.row.RowOp.TheVariants.{Zero}
use Rattle.ded_model.specs.declared.tuple.ThemeAtom.TheVariants.{EqText}
use Rattle.ded_model.specs.declared.tuple.BothAtom.TheVariants.{First, Second}
use Rattle.ded_model.specs.Constraint.{LinearConstraint}
use Rattle.ded_model.specs.Sum.{SlotSum, denominator}
use Rattle.ded_model.specs.Coefs.{put, put_all}
use Rattle.ded_model.specs.Point.{slot, Point, number_at, text_at}
use Rattle.ded_model.specs.Row.{Atom, sum_at, row_at, row_holds, theme_holds, atom_holds}
use Rattle.ded_model.specs.Scanned.{argument_row, of_slot, same_atom}
use Rattle.ded_model.specs.Value.{OperandValue, sorted_value, slot_value, place_value}
use Rattle.ded_num.proofs.Ring.{parts, ring, diff-pos, diff_same}
use Rattle.ded_num.proofs.Signs.{one_times, neg_times_first, no_gap, from_no_gap}
use Rattle.ded_model.proofs.Given.{one}
use Rattle.ded_model.proofs.Points.{scaled_law}
use Rattle.ded_model.proofs.Normals.{normal_row-holds}
use Rattle.ded_model.proofs.Sums.{sum_at-put, sum_at-put_all}
use Rattle.ded_algebra.specs.Compiled.{place_sort}
use Rattle.ded_algebra.proofs.SamePoints.{cancelled}
use Rattle.ded_algebra.proofs.EqualValues.{IsEqualValue}

-- the atom that ties the slot to the argument
abbrev pub tie : Slot → Place → Atom
tie u (At s) = same_atom u.number s.sort s
tie u (Value t) = First (argument_row u t)
tie u (Quoted x) = Second (EqText u x)

-- ---- sums

minus_one : (z : ℤ) → neg_ℤ (pos 1) *ℤ z +ℤ pos 0 ≡ neg_ℤ z
minus_one z = +ℤ_idr (neg_ℤ (pos 1) *ℤ z) ∙ neg_times_first (pos 1) z ∙ ap neg_ℤ (one_times z)

-- the sum of the row is 0 where the slot's number over d is that of the sum over d times m
sums_law : (m d : ℕ) (n s c : ℤ) → (pos m *ℤ n +ℤ neg_ℤ s) +ℤ neg_ℤ c *ℤ pos d ≡ n *ℤ pos m -ℤ (s +ℤ c *ℤ pos d)
sums_law m d n s c = rw (diff-pos m, diff-pos d, parts n, parts s, parts c) (simp ring (diff_same _ _ _ _ (omega arith)))

over_left : (n : ℤ) (d : ℕ) → n *ℤ pos (d * 1) ≡ n *ℤ pos d
over_left n d = rw (parts n, diff-pos (d * 1), diff-pos d) (simp ring (diff_same _ _ _ _ (omega arith)))

-- the row before it is brought into normal form
abbrev untied : Slot → SlotSum → LinearConstraint
untied u t = record { coefs = put u (pos (denominator t.over)) (put_all (neg_ℤ (pos 1)) t.coefs []); constant = neg_ℤ t.constant; op = Zero }

untied_at : (u : Slot) (t : SlotSum) (q : Point) → row_at (untied u t) q ≡ number_at q (slot u) *ℤ pos (denominator t.over) -ℤ (sum_at t.coefs q +ℤ t.constant *ℤ pos q.den)
untied_at u t q =
    ap (λ z. z +ℤ neg_ℤ t.constant *ℤ pos q.den)
    (sum_at-put u (pos (denominator t.over)) (put_all (neg_ℤ (pos 1)) t.coefs []) q ∙ ap (λ z. pos (denominator t.over) *ℤ number_at q (slot u) +ℤ z) (sum_at-put_all (neg_ℤ (pos 1)) t.coefs [] q ∙ minus_one (sum_at t.coefs q)))
    ∙ sums_law (denominator t.over) q.den (number_at q (slot u)) (sum_at t.coefs q) t.constant

-- the row of an argument holds where the slot times the sum's denominator is the sum
argument_row-holds : (u : Slot) (t : SlotSum) (q : Point) → 0 < q.den
    → row_holds (argument_row u t) q ≡ int_eq (number_at q (slot u) *ℤ pos (denominator t.over) -ℤ (sum_at t.coefs q +ℤ t.constant *ℤ pos q.den)) (pos 0)
unfolding row_holds
argument_row-holds u t q i = normal_row-holds (untied u t) q i ∙ ap (λ z. int_eq z (pos 0)) (untied_at u t q)

-- a number n is that of the sum z over m
from_equal : (d m : ℕ) (n z : ℤ) → n *ℤ pos m ≡ z → z *ℤ pos (d * 1) ≡ n *ℤ pos (d * m)
from_equal d m n z h = over_left z d ∙ ap (λ x. x *ℤ pos d) (sym h) ∙ sym (scaled_law n d m)

to_equal : (d m : ℕ) (n z : ℤ) → 0 < d → z *ℤ pos (d * 1) ≡ n *ℤ pos (d * m) → n *ℤ pos m ≡ z
to_equal d m n z i h = cancelled d (n *ℤ pos m) z i (sym (scaled_law n d m) ∙ sym h ∙ over_left z d)

-- ---- slots

-- the value of a slot of the sort
abbrev value_in : Sort → ℕ → Point → OperandValue
value_in x n q = slot_value q (record { number = n; sort = x })

-- a rational, and a text
abbrev pub number_value : ℤ → OperandValue
number_value n = record { number = n; over = 1; text = [] }

abbrev pub text_value : List ℕ → OperandValue
text_value t = record { number = pos 0; over = 1; text = t }

pub rational_slot : (q : Point) (s : Slot) → s.sort ≡ Rat → slot_value q s ≡ number_value (number_at q (slot s))
rational_slot q s e = ap (λ x. sorted_value x (number_at q (slot s)) (text_at q (slot s))) e

pub text_slot : (q : Point) (s : Slot) → s.sort ≡ Text → slot_value q s ≡ text_value (text_at q (slot s))
text_slot q s e = ap (λ x. sorted_value x (number_at q (slot s)) (text_at q (slot s))) e

one_slot : (n : ℤ) (d : ℕ) → (pos 1 *ℤ n +ℤ pos 0) +ℤ pos 0 *ℤ pos d ≡ n
one_slot n d = ap (λ z. (pos 1 *ℤ n +ℤ pos 0) +ℤ z) (zero-*ℤ (pos d)) ∙ +ℤ_idr (pos 1 *ℤ n +ℤ pos 0) ∙ +ℤ_idr (pos 1 *ℤ n) ∙ one_times n

-- two slots of the sort
tie_slot : (n : ℕ) (x : Sort) (s : Slot) → s.sort ≡ x → (q : Point) → 0 < q.den → IsTrue (atom_holds (same_atom n x s) q) ↔ IsEqualValue q.den q.den (slot_value q s) (value_in x n q)
unfolding atom_holds theme_holds
tie_slot n Rat s e q i =
    let u : Slot = record { number = n; sort = Rat } in
    let m = number_at q (slot u) in
    let z = number_at q (slot s) in
    let holds : row_holds (argument_row u (of_slot s)) q ≡ int_eq (m *ℤ pos 1 -ℤ z) (pos 0) =
    argument_row-holds u (of_slot s) q i ∙ rw (one, one_slot z q.den) refl in
    let d = Decides-int_eq (m *ℤ pos 1 -ℤ z) (pos 0) in
    rw (rational_slot q s e) (
      (λ h. record { number = from_equal q.den 1 m z (from_no_gap (m *ℤ pos 1) z (d.0 (sym holds ∙ h))); text = refl }),
      (λ v. holds ∙ d.1 (no_gap (m *ℤ pos 1) z (to_equal q.den 1 m z i v.number))),
    )
tie_slot n Text s e q i =
    let u : Slot = record { number = n; sort = Text } in
    let d = bytes_eq-Decides (text_at q (slot s)) (text_at q (slot u)) in
    rw (text_slot q s e) ((λ h. record { number = refl; text = d.0 h }), (λ v. d.1 v.text))

tie_sum : (u : Slot) (t : SlotSum) → u.sort ≡ Rat → (q : Point) → 0 < q.den → IsTrue (atom_holds (First (argument_row u t)) q) ↔ IsEqualValue q.den q.den (place_value (Value t) q) (slot_value q u)
unfolding atom_holds
tie_sum u t e q i =
    let m = denominator t.over in
    let n = number_at q (slot u) in
    let z = sum_at t.coefs q +ℤ t.constant *ℤ pos q.den in
    let d = Decides-int_eq (n *ℤ pos m -ℤ z) (pos 0) in
    let holds = argument_row-holds u t q i in
    rw (rational_slot q u e) (
      (λ h. record { number = from_equal q.den m n z (from_no_gap (n *ℤ pos m) z (d.0 (sym holds ∙ h))); text = refl }),
      (λ v. holds ∙ d.1 (no_gap (n *ℤ pos m) z (to_equal q.den m n z i v.number))),
    )

tie_text : (u : Slot) (x : List ℕ) → u.sort ≡ Text → (q : Point) → IsTrue (atom_holds (Second (EqText u x)) q) ↔ IsEqualValue q.den q.den (place_value (Quoted x) q) (slot_value q u)
unfolding atom_holds theme_holds
tie_text u x e q =
    let d = bytes_eq-Decides (text_at q (slot u)) x in
    rw (text_slot q u e) ((λ h. record { number = refl; text = sym (d.0 h) }), (λ v. d.1 (sym v.text)))

-- of any argument
pub tie_holds : (u : Slot) (t : Place) → u.sort ≡ place_sort t → (q : Point) → 0 < q.den → IsTrue (atom_holds (tie u t) q) ↔ IsEqualValue q.den q.den (place_value t q) (slot_value q u)
tie_holds u (At s) e q i =
    subst (λ (v : Slot). IsTrue (atom_holds (same_atom u.number s.sort s) q) ↔ IsEqualValue q.den q.den (slot_value q s) (slot_value q v)) (slot_is u s.sort e) (tie_slot u.number s.sort s refl q i)
  where
    slot_is : (u : Slot) (x : Sort) → u.sort ≡ x → ◌≡◌ {A = Slot} (record { number = u.number; sort = x }) u
    slot_is u x e = let at : Sort → Slot = λ y. record { number = u.number; sort = y } in ap at (sym e)
tie_holds u (Value t) e q i = tie_sum u t e q i
tie_holds u (Quoted x) e q i = tie_text u x e q
