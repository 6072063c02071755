-- Rows without some slots, and without all but two.
use Rattle.std.proofs.Common.{◌≡◌, ◌<◌, Bool, length, true, false, ◌||◌, List, [], ◌∷◌, Vec, Global, ◌⊎◌, inl, inr, refl, sym, ap, ◌∙◌, subst, true≢false, arith, Result, Ok, Err, IfOk}
use Rattle.std.specs.Prelude.{ℤ, pos, ◌*ℤ◌, ◌<ℤ◌, ◌↔◌, IsTrue}
use Rattle.std.specs.List.{AllByRecursion}
use Rattle.std.proofs.lemmas.Int.{ints}
use Rattle.ded_num.proofs.Ring.{parts, ring, diff_same}
use Rattle.ded_num.proofs.Tests.{or_false_both}
use Rattle.ded_model.specs.declared.memory.Refused.{Refused}
use Rattle.ded_model.specs.declared.slot.Slot.{Slot}
use Rattle.ded_model.specs.declared.slot.Sort.TheVariants.{Rat}
use Rattle.ded_model.specs.Constraint.{LinearConstraint}
use Rattle.ded_model.specs.Point.{Key, slot, Point, IsPoint, IsSameAt, IsExtension, IsNumberExtension, number_at, same_slot, stands_in}
use Rattle.ded_model.specs.Row.{row_holds, row_mentions}
use Rattle.ded_model.specs.Cell.{conj_holds, HoldsSomewhere, HoldsNowhere}
use Rattle.ded_model.specs.Lines.{IsSubset, row_lines, elim_at, clash_at}
use Rattle.ded_model.proofs.Bools.{or_false_left, or_false_right}
use Rattle.ded_model.proofs.Members.{or_split}
use Rattle.ded_model.proofs.Points.{same_slot_is}
use Rattle.ded_model.proofs.Rows.{or_left, or_right, row_holds-same}
use Rattle.ded_model.proofs.Unused.{extension_same}
use Rattle.ded_model.proofs.SlotLists.{same_slot-turned}
use Rattle.ded_model.proofs.Given.{same_self}
use Rattle.ded_theory.specs.declared.answers.Eliminated.{Eliminated}
use Rattle.ded_theory.specs.declared.answers.Eliminated.TheVariants.{Never, Conj}
use Rattle.ded_theory.specs.Conjunctions.{conj_mentions, conj_lines, IsWide}
use Rattle.ded_theory.specs.Eliminations.{SomeExtension, eliminated_atoms, eliminated_holds}
use Rattle.ded_theory.specs.declared.answers.Verdict.{Verdict}
use Rattle.ded_theory.specs.Verdicts.{IsVerdict}
use Rattle.ded_theory.proofs.Conjunctions.{conj_holds-same}
use Rattle.ded_elimination.specs.LinearAtoms.{IsLinearAtom}
use Rattle.ded_linear.proofs.Shadows.{itself, extension_point}
use Rattle.ded_linear.proofs.Steps.{mentioned_rational}
use Rattle.ded_linear.proofs.Wide.{wide_later, wide_now}
use Rattle.ded_polygon.specs.Plane.{In}
use Rattle.ded_polygon.proofs.Signs.{cancel}
use Rattle.ded_shapes.specs.Projections.{AreProjected, IsWithout, with_all_others}
use Rattle.ded_shapes.proofs.Others.{gathers_rows}

-- ---- points with the same values
crossed : (x y z a b c : ℤ) → pos 0 <ℤ b → x *ℤ b ≡ y *ℤ a → y *ℤ c ≡ z *ℤ b → x *ℤ c ≡ z *ℤ a
crossed x y z a b c h e f =
    cancel b (x *ℤ c) (z *ℤ a) h (inwards b x c ∙ ap (λ w. w *ℤ c) e ∙ swapped y a c ∙ ap (λ w. w *ℤ a) f ∙ sym (inwards b z a))
  where
    inwards : (b x c : ℤ) → b *ℤ (x *ℤ c) ≡ (x *ℤ b) *ℤ c
    inwards b x c = rw (parts b, parts x, parts c) (simp ring (diff_same _ _ _ _ (omega arith)))

    swapped : (y a c : ℤ) → (y *ℤ a) *ℤ c ≡ (y *ℤ c) *ℤ a
    swapped y a c = rw (parts y, parts a, parts c) (simp ring (diff_same _ _ _ _ (omega arith)))

pub same_then : (p q r : Point) (k : Key) → 0 < q.den → IsSameAt p q k → IsSameAt q r k → IsSameAt p r k
same_then p q r k h a b = record {
  number = crossed (number_at p k) (number_at q k) (number_at r k) (pos p.den) (pos q.den) (pos r.den) (omega (arith, ints)) a.number b.number;
  text = a.text ∙ b.text;
}

-- rows hold alike where the slots that they mention have the same values
alike : (e : Eliminated LinearConstraint) (p q : Point) → IsPoint p → IsPoint q → ((s : Slot) → conj_mentions row_mentions (eliminated_atoms e) s ≡ true → IsSameAt p q (slot s))
    → eliminated_holds row_holds e p ≡ eliminated_holds row_holds e q
alike Never p q i j h = refl
alike (Conj v) p q i j h = conj_holds-same row_holds row_mentions row_holds-same v.items p q i.positive j.positive h

-- ---- without some slots
pub none_long : (ss : List Slot) → length ss ≡ 0 → ss ≡ []
none_long [] h = refl
none_long (s ∷ ss) h = absurd (omega (arith, h))

-- slots that rows don't mention
pub untouched : (ss : List Slot) (v : Vec LinearConstraint Global) → AllByRecursion IsLinearAtom v.items → ((s : Slot) → conj_mentions row_mentions v.items s ≡ true → stands_in ss s ≡ false)
    → IsWithout ss v.items (Conj v)
untouched ss v n free = record {
  holds = λ p i. (λ h. (p, i, (λ s f. same_self p (slot s)), h), λ w. alike (Conj v) p w.0 i w.1 (λ s m. w.2 s (free s m)) ∙ w.3);
  normal = n;
  slots = λ s m. (free s m, m);
  wide = λ w. w;
}

pub unmentioned : (t : Slot) (v : Vec LinearConstraint Global) → AllByRecursion IsLinearAtom v.items → conj_mentions row_mentions v.items t ≡ false → IsWithout (t ∷ []) v.items (Conj v)
unmentioned t v n h = untouched (t ∷ []) v n (λ s m. by s m (same_slot t s) refl)
  where
    by : (s : Slot) → conj_mentions row_mentions v.items s ≡ true → (b : Bool) → same_slot t s ≡ b → (same_slot t s || false) ≡ false
    by s m true e = absurd (true≢false (sym m ∙ ap (λ u. conj_mentions row_mentions v.items u) (sym (same_slot_is t s e)) ∙ h))
    by s m false e = or_false_both (same_slot t s) false e refl

-- a slot that is eliminated
module _ (t : Slot) (rows : List LinearConstraint) (e : Eliminated LinearConstraint) (rational : t.sort ≡ Rat)
    (holds : (p : Point) → IsPoint p → IsTrue (eliminated_holds row_holds e p) ↔ SomeExtension t (conj_holds row_holds rows) p)
    (slots : (s : Slot) → conj_mentions row_mentions (eliminated_atoms e) s ≡ true → (same_slot s t ≡ false) × (conj_mentions row_mentions rows s ≡ true)) where
  number_extension : (p : Point) → SomeExtension t (conj_holds row_holds rows) p → (q : Point) × IsNumberExtension p (slot t) q × IsTrue (conj_holds row_holds rows q)
  number_extension p h = subst (λ o. (q : Point) × IsExtension o p (slot t) q × IsTrue (conj_holds row_holds rows q)) rational h

  apart : (s : Slot) → stands_in (t ∷ []) s ≡ false → same_slot s t ≡ false
  apart s f = same_slot-turned t s (or_false_left (same_slot t s) false f)

  other : (s : Slot) → conj_mentions row_mentions (eliminated_atoms e) s ≡ true → stands_in (t ∷ []) s ≡ false
  other s m = or_false_both (same_slot t s) false (same_slot-turned s t (slots s m).0) refl

  pub one_less : conj_mentions row_mentions rows t ≡ true → AllByRecursion IsLinearAtom (eliminated_atoms e)
      → IsSubset (conj_lines row_lines (eliminated_atoms e)) (elim_at t (conj_lines row_lines rows)) → IsWithout (t ∷ []) rows e
  one_less mentioned normal lines = record {
    holds = λ p i. (
      λ h. (let w = number_extension p ((holds p i).0 h) in
          (w.0, extension_point (slot t) p w.0 i w.1, (λ s f. extension_same Rat p w.0 (slot t) (slot s) w.1 (apart s f)), w.2)),
      λ w. alike e p w.0 i w.1 (λ s m. w.2 s (other s m)) ∙ (holds w.0 w.1).1 (itself t rows w.0 rational w.3),
    );
    normal = normal;
    slots = λ s m. (other s m, (slots s m).1);
    wide = λ w. wide_later t rows (eliminated_atoms e) rational mentioned slots lines w;
  }

module _ (t : Slot) (rows : List LinearConstraint) (normal : AllByRecursion IsLinearAtom rows) (mentioned : conj_mentions row_mentions rows t ≡ true) where
  pub one_less_if : (r : Result (Eliminated LinearConstraint) Refused)
      → IfOk r (λ e. (p : Point) → IsPoint p → IsTrue (eliminated_holds row_holds e p) ↔ SomeExtension t (conj_holds row_holds rows) p)
      → IfOk r (λ e. AllByRecursion IsLinearAtom (eliminated_atoms e))
      → IfOk r (λ e. (s : Slot) → conj_mentions row_mentions (eliminated_atoms e) s ≡ true → (same_slot s t ≡ false) × (conj_mentions row_mentions rows s ≡ true))
      → IfOk r (λ e. IsSubset (conj_lines row_lines (eliminated_atoms e)) (elim_at t (conj_lines row_lines rows)))
      → IfOk r (λ e. IsWithout (t ∷ []) rows e)
  one_less_if (Ok e) holds is_normal slots lines = one_less t rows e (mentioned_rational rows t normal mentioned) holds slots mentioned is_normal lines
  one_less_if (Err x) holds is_normal slots lines = tt

  pub wide_at : clash_at t (conj_lines row_lines rows) ≡ true → IsWide row_mentions row_lines rows
  wide_at clash = wide_now t rows (mentioned_rational rows t normal mentioned) mentioned clash

module _ (t : Slot) (ss : List Slot) (rows : List LinearConstraint) where
  -- one after another
  pub then_less : (v : Vec LinearConstraint Global) (e : Eliminated LinearConstraint) → IsWithout (t ∷ []) rows (Conj v) → IsWithout ss v.items e → IsWithout (t ∷ ss) rows e
  then_less v e a b = record {
    holds = λ p i. (
      λ h. (let w = (b.holds p i).0 h in
          let u = (a.holds w.0 w.1).0 w.3 in (
            u.0,
            u.1,
            (λ s f. same_then p w.0 u.0 (slot s) w.1.positive (w.2 s (or_false_right (same_slot t s) (stands_in ss s) f))
                (u.2 s (or_false_both (same_slot t s) false (or_false_left (same_slot t s) (stands_in ss s) f) refl))),
            u.3,
          )),
      λ w. (let mid = (a.holds w.0 w.1).1 (w.0, w.1, (λ s f. same_self w.0 (slot s)), w.3) in
          alike e p w.0 i w.1 (λ s m. w.2 s (neither s m)) ∙ (b.holds w.0 w.1).1 (w.0, w.1, (λ s f. same_self w.0 (slot s)), mid)),
    );
    normal = b.normal;
    slots = λ s m. (neither s m, (a.slots s (b.slots s m).1).1);
    wide = λ w. a.wide (b.wide w);
  }
    where
      neither : (s : Slot) → conj_mentions row_mentions (eliminated_atoms e) s ≡ true → stands_in (t ∷ ss) s ≡ false
      neither s m =
          let k = b.slots s m in
          or_false_both (same_slot t s) (stands_in ss s) (or_false_left (same_slot t s) false (a.slots s k.1).0) k.0

  pub then_never : IsWithout (t ∷ []) rows Never → IsWithout (t ∷ ss) rows Never
  then_never a = record {
    holds = λ p i. (λ h. absurd (true≢false (sym h)), λ w. (a.holds w.0 w.1).1 (w.0, w.1, (λ s f. same_self w.0 (slot s)), w.3));
    normal = tt;
    slots = λ s m. absurd (true≢false (sym m));
    wide = a.wide;
  }

-- ---- what the rows were
module _ (ss : List Slot) (rows : List LinearConstraint) where
  still : (e : Eliminated LinearConstraint) → IsWithout ss rows e → (p : Point) → IsPoint p → IsTrue (conj_holds row_holds rows p) → IsTrue (eliminated_holds row_holds e p)
  still e a p i h = (a.holds p i).1 (p, i, (λ s f. same_self p (slot s)), h)

  pub never_nowhere : IsWithout ss rows Never → HoldsNowhere (conj_holds row_holds rows)
  never_nowhere a p i = by (conj_holds row_holds rows p) refl
    where
      by : (b : Bool) → conj_holds row_holds rows p ≡ b → b ≡ false
      by true h = absurd (true≢false (sym (still Never a p i h)))
      by false h = refl

  pub left_nowhere : (v : Vec LinearConstraint Global) → IsWithout ss rows (Conj v) → HoldsNowhere (conj_holds row_holds v.items) → HoldsNowhere (conj_holds row_holds rows)
  left_nowhere v a n p i = by (conj_holds row_holds rows p) refl
    where
      by : (b : Bool) → conj_holds row_holds rows p ≡ b → b ≡ false
      by true h = absurd (true≢false (sym (still (Conj v) a p i h) ∙ n p i))
      by false h = refl

  pub left_somewhere : (v : Vec LinearConstraint Global) → IsWithout ss rows (Conj v) → HoldsSomewhere (conj_holds row_holds v.items) → HoldsSomewhere (conj_holds row_holds rows)
  left_somewhere v a w = let u = (a.holds w.0 w.1).0 w.2 in (u.0, u.1, u.3)

-- a verdict on rows
pub verdict_there : (rows seen : List LinearConstraint) (v w : Verdict) → seen ≡ rows → v ≡ w → IsVerdict row_holds row_mentions row_lines seen v → IsVerdict row_holds row_mentions row_lines rows w
verdict_there rows seen v w e f h = subst (λ (u : Verdict). IsVerdict row_holds row_mentions row_lines rows u) f (subst (λ (rs : List LinearConstraint). IsVerdict row_holds row_mentions row_lines rs v) e h)

-- ---- without all but two
pub mentioned_in : (rows : List LinearConstraint) (r : LinearConstraint) (s : Slot) → In r rows → row_mentions r s ≡ true → conj_mentions row_mentions rows s ≡ true
mentioned_in [] r s i m = absurd i
mentioned_in (q ∷ rows) r s (inl e) m = or_left (row_mentions q s) (conj_mentions row_mentions rows s) (subst (λ z. row_mentions z s ≡ true) e m)
mentioned_in (q ∷ rows) r s (inr i) m = or_right (row_mentions q s) (conj_mentions row_mentions rows s) (mentioned_in rows r s i m)

module _ (x y : Slot) (rows : List LinearConstraint) (v : Vec LinearConstraint Global) (a : IsWithout (with_all_others x y [] rows) rows (Conj v)) where
  one_of : (s : Slot) → conj_mentions row_mentions v.items s ≡ true → (same_slot s x ≡ true) ⊎ (same_slot s y ≡ true)
  one_of s m =
      let k = a.slots s m in
      elim (or_split (same_slot s x || same_slot s y) (stands_in (with_all_others x y [] rows) s) ((gathers_rows x y rows []).has s k.1)) [
        | inl e ↦ or_split (same_slot s x) (same_slot s y) e
        | inr e ↦ absurd (true≢false (sym e ∙ k.0))
      ]

  same_there : (p q : Point) (s : Slot) → IsSameAt p q (slot x) → IsSameAt p q (slot y) → (same_slot s x ≡ true) ⊎ (same_slot s y ≡ true) → IsSameAt p q (slot s)
  same_there p q s at_x at_y (inl e) = subst (λ t. IsSameAt p q (slot t)) (sym (same_slot_is s x e)) at_x
  same_there p q s at_x at_y (inr e) = subst (λ t. IsSameAt p q (slot t)) (sym (same_slot_is s y e)) at_y

  pub projection : AreProjected x y (conj_holds row_holds rows) v.items
  projection =
      let free = (gathers_rows x y rows []).free (refl, refl) in
      record {
        holds = λ p i. (
          λ h. (let w = (a.holds p i).0 h in (w.0, w.1, w.2 x free.0, w.2 y free.1, w.3)),
          λ w. alike (Conj v) p w.0 i w.1 (λ s m. same_there p w.0 s w.2 w.3 (one_of s m)) ∙ (a.holds w.0 w.1).1 (w.0, w.1, (λ s f. same_self w.0 (slot s)), w.4),
        );
        only = λ r i s m. one_of s (mentioned_in v.items r s i m);
      }
