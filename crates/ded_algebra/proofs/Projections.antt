-- Projections of several slots: a point that satisfies one has extensions, one after another, that satisfy what is projected, and
-- slots may be given any values.
use Rattle.std.proofs.Common.{◌≡◌, ℕ, ◌*◌, ◌<◌, false, List, [], ◌∷◌, ◌++◌, arith, refl, sym, ap, subst, ◌∙◌, map, mul-pos}
use Rattle.std.specs.Prelude.{ℤ, pos, ◌*ℤ◌}
use Rattle.std.proofs.Math.IntN.{zero-*ℤ}
use Rattle.ded_model.specs.declared.slot.Slot.{Slot}
use Rattle.ded_model.specs.declared.slot.Sort.{Sort}
use Rattle.ded_model.specs.declared.slot.Sort.TheVariants.{Rat, Text}
use Rattle.ded_model.specs.Point.{slot, number, text, AllBytes, Point, IsSameAt, IsExtension, IsNumberExtension, IsTextExtension, same_slot, stands_in, AreDistinctSlots, all_times}
use Rattle.ded_model.specs.Logic.{Sat, exists}
use Rattle.ded_model.specs.PlanForm.{PlanAtom, PlanForm}
use Rattle.ded_model.specs.Value.{OperandValue, slot_value}
use Rattle.ded_num.proofs.Ring.{parts, ring, diff-pos, diff_same}
use Rattle.ded_model.proofs.Points.{same_slot_refl, number_at-extended, text_at-extended, positive-extension}
use Rattle.ded_model.proofs.Unused.{extension_same}
use Rattle.ded_model.proofs.Values.{slot_value-same, slot_value-positive}
use Rattle.ded_algebra.specs.Compile.{projected}
use Rattle.ded_algebra.proofs.SamePoints.{same_trans}
use Rattle.ded_algebra.proofs.EqualValues.{IsEqualValue, same-equal, equal_trans}
use Rattle.ded_algebra.proofs.Ties.{number_value, text_value, rational_slot, text_slot}
use Rattle.ded_model.proofs.Bools.{or_false_left, or_false_right}
use Rattle.ded_model.proofs.SlotLists.{same_slot-turned}
use Rattle.ded_model.proofs.Given.{same_self}

-- ---- slots

-- ---- a value more

-- what a slot of the sort can have
abbrev pub IsValueFor : Sort → OperandValue → Type 0
IsValueFor Rat v = v.text ≡ []
IsValueFor Text v = (v.number ≡ pos 0) × AllBytes v.text

-- an extension by the value
pub record IsPlaced (d : ℕ) (p q : Point) (s : Slot) (v : OperandValue) : Type 0 where
  pub extends : IsExtension s.sort p (slot s) q
  pub value : IsEqualValue d q.den v (slot_value q s)

placed_law : (n : ℤ) (b e : ℕ) → n *ℤ pos ((b * e) * 1) ≡ (n *ℤ pos b) *ℤ pos e
placed_law n b e = rw (parts n, diff-pos ((b * e) * 1), diff-pos b, diff-pos e) (simp ring (diff_same _ _ _ _ (omega arith)))

pub place : (d : ℕ) (p : Point) (s : Slot) (v : OperandValue) → 0 < d → 0 < v.over → IsValueFor s.sort v → (q : Point) × IsPlaced d p q s v
place d p s v i o h = by s.sort refl h
  where
    by : (x : Sort) → s.sort ≡ x → IsValueFor x v → (q : Point) × IsPlaced d p q s v
    by Rat e h =
        let f = d * v.over in
        let m = v.number *ℤ pos p.den in
        let q : Point = record { den = p.den * f; coords = all_times f p.coords ++ (slot s, number m) ∷ [] } in
        let x : IsNumberExtension p (slot s) q = record { factor = f; positive = mul-pos i o; value = m; den = refl; coords = refl } in
        let at : slot_value q s ≡ number_value m = rational_slot q s e ∙ ap number_value (number_at-extended p (slot s) q x (slot s) (same_slot_refl s)) in
        (q, record { extends = subst (λ z. IsExtension z p (slot s) q) (sym e) x; value = subst (IsEqualValue d q.den v) (sym at) (record { number = placed_law v.number p.den f; text = h }) })
    by Text e h =
        let q : Point = record { den = p.den; coords = p.coords ++ (slot s, text v.text) ∷ [] } in
        let x : IsTextExtension p (slot s) q = record { value = v.text; bytes = h.1; den = refl; coords = refl } in
        let at : slot_value q s ≡ text_value v.text = text_slot q s e ∙ ap text_value (text_at-extended p (slot s) q x (slot s) (same_slot_refl s)) in
        let number : v.number *ℤ pos (p.den * 1) ≡ pos 0 *ℤ pos (d * v.over) = ap (λ z. z *ℤ pos (p.den * 1)) h.0 ∙ zero-*ℤ (pos (p.den * 1)) ∙ sym (zero-*ℤ (pos (d * v.over))) in
        (q, record { extends = subst (λ z. IsExtension z p (slot s) q) (sym e) x; value = subst (IsEqualValue d q.den v) (sym at) (record { number = number; text = refl }) })

-- ---- values of several slots

-- slots, each with a value
abbrev pub Values : Type 0
Values = List (Slot × OperandValue)

abbrev pub slots_of : Values → List Slot
slots_of vs = map (λ v. v.0) vs

abbrev pub AreValuesFor : Values → Type 0
AreValuesFor [] = Unit {0}
AreValuesFor (v ∷ vs) = IsValueFor v.0.sort v.1 × (0 < v.1.over) × AreValuesFor vs

-- each slot has its value over the denominator d at the point
abbrev pub HaveValues : ℕ → Point → Values → Type 0
HaveValues d q [] = Unit {0}
HaveValues d q (v ∷ vs) = IsEqualValue d q.den v.1 (slot_value q v.0) × HaveValues d q vs

module _ (H : PlanAtom → Point → Type 0) where
  -- from p a chain of extensions leads to q: what holds at q holds projected at p; other slots have the same values, and these ones theirs
  pub record IsReached (p q : Point) (vs : Values) : Type 0 where
    pub positive : 0 < q.den
    pub chain : (f : PlanForm) → Sat H f q → Sat H (projected (slots_of vs) f) p
    pub same : (t : Slot) → stands_in (slots_of vs) t ≡ false → IsSameAt p q (slot t)
    pub values : HaveValues p.den q vs

  -- an extension at another slot leaves the values
  kept_values : (d : ℕ) (s : Slot) (q r : Point) (vs : Values) → 0 < q.den → IsExtension s.sort q (slot s) r → stands_in (slots_of vs) s ≡ false → HaveValues d q vs → HaveValues d r vs
  kept_values d s q r [] i x n h = tt
  kept_values d s q r (v ∷ vs) i x n h = (
    equal_trans d q.den r.den v.1 (slot_value q v.0) (slot_value r v.0) i (slot_value-positive q v.0) h.0
        (same-equal q.den r.den _ _ (slot_value-same v.0 q r (extension_same s.sort q r (slot s) (slot v.0) x (or_false_left _ _ n)))),
    kept_values d s q r vs i x (or_false_right (same_slot v.0 s) _ n) h.1,
  )

  -- such a point
  pub reached : (vs : Values) → AreDistinctSlots (slots_of vs) → AreValuesFor vs → (p : Point) → 0 < p.den → (q : Point) × IsReached p q vs
  reached [] a g p i = (p, record { positive = i; chain = λ f h. h; same = λ t n. same_self p (slot t); values = tt })
  reached (v ∷ vs) a g p i =
      let r = reached vs a.1 g.2 p i in
      let y = place p.den r.0 v.0 v.1 i g.1 g.0 in
      let j = positive-extension v.0.sort r.0 (slot v.0) y.0 r.1.positive y.1.extends in (
        y.0,
        record {
          positive = j;
          chain = λ f h. r.1.chain (exists v.0.sort (slot v.0) f) (y.0, y.1.extends, h);
          same = λ t n. same_trans p r.0 y.0 (slot t) r.1.positive (r.1.same t (or_false_right (same_slot v.0 t) _ n))
              (extension_same v.0.sort r.0 y.0 (slot v.0) (slot t) y.1.extends (same_slot-turned v.0 t (or_false_left _ _ n)));
          values = (y.1.value, kept_values p.den v.0 r.0 y.0 vs r.1.positive y.1.extends a.0 r.1.values);
        },
      )

  -- a point at which what is projected holds
  pub record IsWitness (p q : Point) (ss : List Slot) (f : PlanForm) : Type 0 where
    pub positive : 0 < q.den
    pub same : (t : Slot) → stands_in ss t ≡ false → IsSameAt p q (slot t)
    pub holds : Sat H f q

  pub witness : (ss : List Slot) (f : PlanForm) (p : Point) → 0 < p.den → Sat H (projected ss f) p → (q : Point) × IsWitness p q ss f
  witness [] f p i h = (p, record { positive = i; same = λ t n. same_self p (slot t); holds = h })
  witness (s ∷ ss) f p i h =
      let r = witness ss (exists s.sort (slot s) f) p i h in
      let x = r.1.holds in (
        x.0,
        record {
          positive = positive-extension s.sort r.0 (slot s) x.0 r.1.positive x.1;
          same = λ t n. same_trans p r.0 x.0 (slot t) r.1.positive (r.1.same t (or_false_right (same_slot s t) _ n))
              (extension_same s.sort r.0 x.0 (slot s) (slot t) x.1 (same_slot-turned s t (or_false_left _ _ n)));
          holds = x.2;
        },
      )
