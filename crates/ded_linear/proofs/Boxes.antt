-- Rows of which each mentions one slot or none: they hold somewhere exactly where the constants do and each slot's bounds may
-- meet, and then the values of a slot are those within its bounds.
--
-- From a point whose value at the slot is within its bounds, each other slot is given a value within its own. What a row says
-- of its slot is a part of what all rows say of it.
use Rattle.std.proofs.Common.{take, get_or, ◌+◌, ◌≡◌, ◌≢◌, ℕ, suc, ◌*◌, ◌<◌, Bool, true, false, nat_lt, length, ◌&&◌, ◌||◌, arith, refl, sym, subst, ◌∙◌, ap, ap₂, true≢false, ◌⊎◌, inl, inr, List, [], ◌∷◌}
use Rattle.std.specs.Prelude.{ℤ, pos, ◌-ℤ◌, ◌*ℤ◌, IsTrue}
use Rattle.std.specs.Bool.{Decides}
use Rattle.std.specs.List.{AllByRecursion, list_all, list_any}
use Rattle.std.proofs.lemmas.List.Folds.{list_all_more}
use Rattle.std.proofs.lemmas.Bool.Decides.{Decides-and, nat_tests}
use Rattle.std.proofs.lemmas.Int.{ints}
use Rattle.ded_num.proofs.Ring.{parts, ring_pos, diff_same, diff-pos}
use Rattle.ded_model.specs.declared.slot.Slot.{Slot}
use Rattle.ded_model.specs.declared.row.RowOp.TheVariants.{Zero, AtMost, Below}
use Rattle.ded_model.specs.declared.bound.Bound.{Bound}
use Rattle.ded_model.specs.declared.bound.Bound.TheVariants.{Infinite, Excluded, Included}
use Rattle.ded_model.specs.Constraint.{LinearConstraint}
use Rattle.ded_model.specs.Coefs.{AreCoefs, coef_at}
use Rattle.ded_model.specs.Point.{slot, Point, IsPoint, IsNumberExtension, same_slot, number_at}
use Rattle.ded_model.specs.Row.{row_holds, row_mentions}
use Rattle.ded_model.specs.Cell.{conj_holds, HoldsSomewhere, HoldsNowhere}
use Rattle.ded_model.specs.Bound.{Fraction, End, lower, upper, value_at}
use Rattle.ded_model.specs.Interval.{IsExactBound}
use Rattle.ded_model.proofs.CoefLemmas.{coef_at-here, same_number}
use Rattle.ded_model.proofs.LineSlots.{has_slot}
use Rattle.ded_model.proofs.Members.{or_split}
use Rattle.ded_model.proofs.Points.{and_left, and_right, same_slot_is, same_slot_refl, number_at-extended}
use Rattle.ded_model.proofs.Numbers.{extended, extended_is}
use Rattle.ded_model.proofs.Rows.{or_left, or_right}
use Rattle.ded_model.proofs.SlotLists.{same_slot-turned}
use Rattle.ded_theory.specs.Conjunctions.{conj_mentions}
use Rattle.ded_elimination.specs.LinearAtoms.{IsLinearAtom}
use Rattle.ded_box.specs.Intervals.{HasPositive, IsPositive, OnFraction, is_inside, may_meet, narrower}
use Rattle.ded_linear.specs.Intervals.{row_bound, narrowed, is_single, coefs_fit, row_fits, same_places, same_place}
use Rattle.ded_box.proofs.Gaps.{gap, gap_at, gap_self, chain_at}
use Rattle.ded_box.proofs.Insides.{Inside, narrower-fraction, narrower-is, inside_decides, may_meet_decides, may_meet_turned, inside_meet}
use Rattle.ded_linear.proofs.Exacts.{IsBetween, exact_end}
use Rattle.ded_linear.proofs.Told.{exact_somewhere}
use Rattle.ded_linear.proofs.Shadows.{IsShadow, HaveValue, extension_point, kept_value, exact_before}
use Rattle.ded_linear.proofs.SlotLists.{none_left}
use Rattle.ded_linear.specs.SlotLists.{AreOthers}
use Rattle.ded_linear.proofs.Roots.{Same, Within, IsSingle, AtAlone, IsProper, at_alone, row_proper, proper_positive, proper_lowest, row_within, holds_within, constant_holds}
use Rattle.ded_box.proofs.Exact.{value-positive}

-- ---- a row among others

abbrev pub Rows : Type 0
Rows = List LinearConstraint

abbrev Among : LinearConstraint → Rows → Type 0
Among r [] = ⊥
Among r (x ∷ rows) = (r ≡ x) ⊎ Among r rows

among_all : (P : LinearConstraint → Type 0) (rows : Rows) (r : LinearConstraint) → AllByRecursion P rows → Among r rows → P r
among_all P [] r h a = absurd a
among_all P (x ∷ rows) r h (inl e) = subst P (sym e) h.0
among_all P (x ∷ rows) r h (inr a) = among_all P rows r h.1 a

-- each row passes the test
among_test : (test : LinearConstraint → Bool) (rows : Rows) (r : LinearConstraint) → list_all test rows ≡ true → Among r rows → test r ≡ true
among_test test [] r h a = absurd a
among_test test (x ∷ rows) r h (inl e) = ap test e ∙ and_left (test x) _ h
among_test test (x ∷ rows) r h (inr a) = among_test test rows r (and_right (test x) _ h) a

test_among : (test : LinearConstraint → Bool) (rows : Rows) → ((r : LinearConstraint) → Among r rows → test r ≡ true) → list_all test rows ≡ true
test_among test [] h = refl
test_among test (x ∷ rows) h = and_true (test x) _ (h x (inl refl)) (test_among test rows (λ r a. h r (inr a)))
  where
    and_true : (a b : Bool) → a ≡ true → b ≡ true → (a && b) ≡ true
    and_true a b e f = rw (e, f) refl

-- ---- rows of one slot or none

single_list : (cs : List (Slot × ℤ)) → nat_lt (length cs) 2 ≡ true → IsSingle cs
single_list [] h = tt
single_list (c ∷ []) h = tt
single_list (c ∷ d ∷ cs) h = absurd (long (length cs) h)
  where
    long : (n : ℕ) → nat_lt (suc (suc n)) 2 ≡ true → ⊥
    long n h = grind (arith, nat_tests)

short_list : (cs : List (Slot × ℤ)) → IsSingle cs → nat_lt (length cs) 2 ≡ true
short_list [] h = refl
short_list (c ∷ []) h = refl
short_list (c ∷ d ∷ cs) h = absurd h

-- all of them are linear atoms of one slot or none
pub record AreBox (rows : Rows) : Type 0 where
  pub atoms : AllByRecursion IsLinearAtom rows
  pub single : list_all is_single rows ≡ true

box_rest : (r : LinearConstraint) (rows : Rows) → AreBox (r ∷ rows) → AreBox rows
box_rest r rows h = record { atoms = h.atoms.1; single = and_right (is_single r) _ h.single }

box_first : (r : LinearConstraint) (rows : Rows) → AreBox (r ∷ rows) → IsSingle r.coefs
box_first r rows h = single_list r.coefs (and_left (is_single r) _ h.single)

box_row : (rows : Rows) (r : LinearConstraint) → AreBox rows → Among r rows → IsSingle r.coefs
box_row rows r h a = single_list r.coefs (among_test is_single rows r h.single a)

-- ---- the bounds of one slot

narrowed_proper : (e : End) (s : Slot) (b : Bound) (rows : Rows) → AreBox rows → OnFraction IsProper b → OnFraction IsProper (narrowed e s b rows)
narrowed_proper e s b [] h p = p
narrowed_proper e s b (r ∷ rows) h p =
    narrowed_proper e s (narrower e b (row_bound e s r)) rows (box_rest r rows h)
    (narrower-fraction IsProper e b (row_bound e s r) p (row_proper e s r h.atoms.0 (box_first r rows h)))

-- the value is within the row's bounds
abbrev WithinRow : Slot → Fraction → LinearConstraint → Type 0
WithinRow s v r = Within (row_bound lower s r) (row_bound upper s r) v

-- the narrowed bounds say what the bounds and the rows say
narrowed_is : (s : Slot) (l u : Bound) (rows : Rows) (v : Fraction) → AreBox rows → IsPositive v → OnFraction IsProper l → OnFraction IsProper u
    → Same (Within (narrowed lower s l rows) (narrowed upper s u rows) v) (Within l u v × AllByRecursion (WithinRow s v) rows)
narrowed_is s l u [] v h pv pl pu = (λ w. (w, tt), λ w. w.0)
narrowed_is s l u (r ∷ rows) v h pv pl pu =
    let bl = row_bound lower s r in
    let bu = row_bound upper s r in
    let ql = row_proper lower s r h.atoms.0 (box_first r rows h) in
    let qu = row_proper upper s r h.atoms.0 (box_first r rows h) in
    let nl = narrower-is lower l bl v (proper_positive l pl) (proper_positive bl ql) pv in
    let nu = narrower-is upper u bu v (proper_positive u pu) (proper_positive bu qu) pv in
    let rest = narrowed_is s (narrower lower l bl) (narrower upper u bu) rows v (box_rest r rows h) pv (narrower-fraction IsProper lower l bl pl ql) (narrower-fraction IsProper upper u bu pu qu) in (
      λ w. let x = rest.0 w in
          let a = nl.0 x.0.0 in
          let b = nu.0 x.0.1 in
          ((a.0, b.0), ((a.1, b.1), x.1)),
      λ w. rest.1 ((nl.1 (w.0.0, w.1.0.0), nu.1 (w.0.1, w.1.0.1)), w.1.1),
    )

abbrev low : Slot → Rows → Bound
low s rows = narrowed lower s Infinite rows

abbrev high : Slot → Rows → Bound
high s rows = narrowed upper s Infinite rows

-- where the rows hold, the value is within each one's bounds
each_within : (s : Slot) (rows : Rows) (p : Point) → AreBox rows → IsTrue (conj_holds row_holds rows p) → AllByRecursion (WithinRow s (value_at s p)) rows
each_within s [] p h t = tt
each_within s (r ∷ rows) p h t = (holds_within s r p (box_first r rows h) (and_left (row_holds r p) _ t), each_within s rows p (box_rest r rows h) (and_right (row_holds r p) _ t))

module _ (s : Slot) (rows : Rows) (h : AreBox rows) where
  low_proper : OnFraction IsProper (low s rows)
  low_proper = narrowed_proper lower s Infinite rows h tt

  high_proper : OnFraction IsProper (high s rows)
  high_proper = narrowed_proper upper s Infinite rows h tt

  -- and so within the narrowed bounds
  all_within : (p : Point) → IsPoint p → IsTrue (conj_holds row_holds rows p) → Within (low s rows) (high s rows) (value_at s p)
  all_within p i t = (narrowed_is s Infinite Infinite rows (value_at s p) h (value-positive s p i) tt tt).1 ((tt, tt), each_within s rows p h t)

  -- which therefore may meet
  within_meet : (p : Point) → IsPoint p → IsTrue (conj_holds row_holds rows p) → may_meet (low s rows) (high s rows) ≡ true
  within_meet p i t =
      let w = all_within p i t in
      (may_meet_decides (low s rows) (high s rows)).1 (inside_meet (low s rows) (high s rows) (value_at s p) (proper_positive (low s rows) low_proper) (proper_positive (high s rows) high_proper) (value-positive s p i) w.0 w.1)

  -- the value is within the bounds, as a test
  abbrev is_within : Point → Bool
  is_within p = is_inside lower (low s rows) (value_at s p) && is_inside upper (high s rows) (value_at s p)

  within_decides : (p : Point) → Decides (is_within p) (Within (low s rows) (high s rows) (value_at s p))
  within_decides p = Decides-and _ _ (inside_decides lower (low s rows) (value_at s p)) (inside_decides upper (high s rows) (value_at s p))

  between : IsBetween is_within s lower (low s rows) (high s rows)
  between = record { to = λ p i t. (within_decides p).0 t; from = λ p i a b. (within_decides p).1 (a, b) }

  between_turned : IsBetween is_within s upper (high s rows) (low s rows)
  between_turned = record { to = λ p i t. let w = (within_decides p).0 t in (w.1, w.0); from = λ p i a b. (within_decides p).1 (b, a) }

  low_exact : may_meet (low s rows) (high s rows) ≡ true → IsExactBound is_within s lower (low s rows)
  low_exact e =
      exact_end is_within s lower (low s rows) (high s rows) between (proper_positive (low s rows) low_proper) (proper_positive (high s rows) high_proper) (proper_lowest (low s rows) low_proper)
      ((may_meet_decides (low s rows) (high s rows)).0 e)

  high_exact : may_meet (low s rows) (high s rows) ≡ true → IsExactBound is_within s upper (high s rows)
  high_exact e =
      exact_end is_within s upper (high s rows) (low s rows) between_turned (proper_positive (high s rows) high_proper) (proper_positive (low s rows) low_proper) (proper_lowest (high s rows) high_proper)
      (may_meet_turned (low s rows) (high s rows) ((may_meet_decides (low s rows) (high s rows)).0 e))

  -- some value is within bounds that may meet
  some_within : may_meet (low s rows) (high s rows) ≡ true → HoldsSomewhere is_within
  some_within e = exact_somewhere is_within s (low s rows) (proper_positive (low s rows) low_proper) (low_exact e)

-- ---- a point with another value at one slot

-- no difference, at either end
zero_at : (e : End) (v w : Fraction) → gap w v ≡ pos 0 → gap_at e v w ≡ pos 0
zero_at lower v w h = turned (w.num *ℤ v.den) (v.num *ℤ w.den) h
  where
    turned : (x y : ℤ) → x -ℤ y ≡ pos 0 → y -ℤ x ≡ pos 0
    turned x y h = omega (arith, ints)
zero_at upper v w h = h

-- the bounds let through a value that is the same
same_inside : (e : End) (b : Bound) (v w : Fraction) → HasPositive b → IsPositive v → IsPositive w → gap w v ≡ pos 0 → Inside e b v → Inside e b w
same_inside e Infinite v w pb pv pw g h = tt
same_inside e (Excluded f) v w pb pv pw g h = chain_at e Below Zero f v w pb pv pw h (zero_at e v w g)
same_inside e (Included f) v w pb pv pw g h = chain_at e AtMost Zero f v w pb pv pw h (zero_at e v w g)

new_law : (n : ℤ) (d m : ℕ) → (n *ℤ pos d) *ℤ pos m -ℤ n *ℤ pos (d * m) ≡ pos 0
new_law n d m = rw (parts n, diff-pos d, diff-pos m, diff-pos (d * m)) (simp ring_pos (diff_same _ _ _ _ (omega arith)))

module _ (t : Slot) (q p : Point) (iq : IsPoint q) (ip : IsPoint p) where
  -- q with p's value at the slot t
  abbrev placed : Point
  placed = extended (slot t) p.den (number_at p (slot t) *ℤ pos q.den) q

  placed_is : IsNumberExtension q (slot t) placed
  placed_is = extended_is (slot t) p.den (number_at p (slot t) *ℤ pos q.den) q ip.positive

  placed_point : IsPoint placed
  placed_point = extension_point (slot t) q placed iq placed_is

  placed_there : HaveValue t p placed
  unfolding placed_is
  placed_there = rw (number_at-extended q (slot t) placed placed_is (slot t) (same_slot_refl t)) (new_law (number_at p (slot t)) q.den p.den)

  placed_other : (u : Slot) → same_slot u t ≡ false → HaveValue u q placed
  placed_other u e = kept_value u t q placed e placed_is

-- a value that is the same as one that is the same
value_chain : (s : Slot) (p q r : Point) → IsPoint p → IsPoint q → IsPoint r → HaveValue s p q → HaveValue s q r → HaveValue s p r
value_chain s p q r ip iq ir h k = chain_at lower Zero Zero (value_at s r) (value_at s q) (value_at s p) (value-positive s r ir) (value-positive s q iq) (value-positive s p ip) k h

-- ---- a point that satisfies the rows

module _ (s : Slot) (rows : Rows) (h : AreBox rows) where
  same_within : (t : Slot) (p q : Point) → IsPoint p → IsPoint q → HaveValue t p q → Within (low t rows) (high t rows) (value_at t p) → Within (low t rows) (high t rows) (value_at t q)
  same_within t p q ip iq g w = (
    same_inside lower (low t rows) (value_at t p) (value_at t q) (proper_positive (low t rows) (low_proper t rows h)) (value-positive t p ip) (value-positive t q iq) g w.0,
    same_inside upper (high t rows) (value_at t p) (value_at t q) (proper_positive (high t rows) (high_proper t rows h)) (value-positive t p ip) (value-positive t q iq) g w.1,
  )

  -- the point's value at the row's slot is within the slot's bounds
  abbrev CoefsSeated : Point → List (Slot × ℤ) → Type 0
  CoefsSeated q [] = Unit {0}
  CoefsSeated q (c ∷ cs) = Within (low c.0 rows) (high c.0 rows) (value_at c.0 q)

  abbrev Seated : Point → LinearConstraint → Type 0
  Seated q r = CoefsSeated q r.coefs

  record IsSeated (p q : Point) (todo : Rows) : Type 0 where
    point : IsPoint q
    value : HaveValue s p q
    seated : AllByRecursion (Seated q) todo

  -- a row stays so where the value at another slot, or another value within the bounds of its slot, is placed
  still : (t : Slot) (p q : Point) (ip : IsPoint p) (iq : IsPoint q) → Within (low t rows) (high t rows) (value_at t p) → (cs : List (Slot × ℤ)) → CoefsSeated q cs → CoefsSeated (placed t q p iq ip) cs
  still t p q ip iq w [] k = tt
  still t p q ip iq w (c ∷ cs) k = go (same_slot c.0 t) refl
    where
      go : (b : Bool) → same_slot c.0 t ≡ b → CoefsSeated (placed t q p iq ip) (c ∷ cs)
      go true e =
          subst (λ u. Within (low u rows) (high u rows) (value_at u (placed t q p iq ip))) (sym (same_slot_is c.0 t e))
          (same_within t p (placed t q p iq ip) ip (placed_point t q p iq ip) (placed_there t q p iq ip) w)
      go false e = same_within c.0 q (placed t q p iq ip) iq (placed_point t q p iq ip) (placed_other t q p iq ip c.0 e) k

  all_still : (t : Slot) (p q : Point) (ip : IsPoint p) (iq : IsPoint q) → Within (low t rows) (high t rows) (value_at t p) → (todo : Rows) → AllByRecursion (Seated q) todo → AllByRecursion (Seated (placed t q p iq ip)) todo
  all_still t p q ip iq w [] k = tt
  all_still t p q ip iq w (r ∷ todo) k = (still t p q ip iq w r.coefs k.0, all_still t p q ip iq w todo k.1)

  -- one row more is seated
  abbrev Found : Point → Rows → Type 0
  Found p todo = (q : Point) × IsSeated p q todo

  seat_coefs : (p : Point) → IsPoint p → Within (low s rows) (high s rows) (value_at s p) → (r : LinearConstraint) (todo : Rows) (cs : List (Slot × ℤ)) → r.coefs ≡ cs → coefs_fit rows s r cs ≡ true → Found p todo → Found p (r ∷ todo)
  seat_coefs p ip w r todo [] e f k = (k.0, record { point = k.1.point; value = k.1.value; seated = (subst (CoefsSeated k.0) (sym e) tt, k.1.seated) })
  seat_coefs p ip w r todo (c ∷ cs) e f k = go (same_slot c.0 s) refl (or_split (same_slot c.0 s) _ f)
    where
      go : (b : Bool) → same_slot c.0 s ≡ b → (same_slot c.0 s ≡ true) ⊎ (may_meet (low c.0 rows) (high c.0 rows) ≡ true) → Found p (r ∷ todo)
      go true x y =
          let here : CoefsSeated k.0 (c ∷ cs) = subst (λ u. Within (low u rows) (high u rows) (value_at u k.0)) (sym (same_slot_is c.0 s x)) (same_within s p k.0 ip k.1.point k.1.value w) in
          (k.0, record { point = k.1.point; value = k.1.value; seated = (subst (CoefsSeated k.0) (sym e) here, k.1.seated) })
      go false x (inl y) = absurd (true≢false (sym y ∙ x))
      go false x (inr m) =
          let o = some_within c.0 rows h m in
          let v = (within_decides c.0 rows h o.0).0 o.2 in
          let q = placed c.0 k.0 o.0 k.1.point o.1 in
          let iq = placed_point c.0 k.0 o.0 k.1.point o.1 in
          let here : CoefsSeated q (c ∷ cs) = same_within c.0 o.0 q o.1 iq (placed_there c.0 k.0 o.0 k.1.point o.1) v in (
            q,
            record {
              point = iq;
              value = value_chain s p k.0 q ip k.1.point iq k.1.value (placed_other c.0 k.0 o.0 k.1.point o.1 s (same_slot-turned c.0 s x));
              seated = (subst (CoefsSeated q) (sym e) here, all_still c.0 o.0 k.0 o.1 k.1.point v todo k.1.seated);
            },
          )

  seat : (p : Point) → IsPoint p → Within (low s rows) (high s rows) (value_at s p) → (todo : Rows) → list_all (row_fits rows s) todo ≡ true → Found p todo
  seat p ip w [] f = (p, record { point = ip; value = gap_self lower (value_at s p); seated = tt })
  seat p ip w (r ∷ todo) f = seat_coefs p ip w r todo r.coefs refl (and_left (row_fits rows s r) _ f) (seat p ip w todo (and_right (row_fits rows s r) _ f))

  -- what is seated holds
  seated_holds : (q : Point) → IsPoint q → (r : LinearConstraint) → Among r rows → IsLinearAtom r → (cs : List (Slot × ℤ)) → r.coefs ≡ cs → coefs_fit rows s r cs ≡ true → CoefsSeated q cs → IsTrue (row_holds r q)
  seated_holds q iq r a k [] e f w = (constant_holds r q e iq).1 f
  seated_holds q iq r a k (c ∷ cs) e f w =
      let single = subst IsSingle e (box_row rows r h a) in
      let kept = subst AreCoefs e k.coefs in
      let n : coef_at r.coefs c.0 ≢ pos 0 = λ z. one c cs single kept (sym (ap (λ l. coef_at l c.0) e) ∙ z) in
      (row_within c.0 r q (at_alone c.0 r.coefs (box_row rows r h a) n) n).1
      (among_all (WithinRow c.0 (value_at c.0 q)) rows r ((narrowed_is c.0 Infinite Infinite rows (value_at c.0 q) h (value-positive c.0 q iq) tt tt).0 w).1 a)
    where
      one : (c : Slot × ℤ) (cs : List (Slot × ℤ)) → IsSingle (c ∷ cs) → AreCoefs (c ∷ cs) → coef_at (c ∷ cs) c.0 ≡ pos 0 → ⊥
      one c cs g k z = k.2 (sym (coef_at-here c.0 c cs (same_slot_refl c.0) k.3) ∙ z)

  all_hold : (p q : Point) → IsPoint q → (todo : Rows) → ((r : LinearConstraint) → Among r todo → Among r rows) → list_all (row_fits rows s) todo ≡ true → AllByRecursion (Seated q) todo → conj_holds row_holds todo q ≡ true
  all_hold p q iq [] sub f w = refl
  all_hold p q iq (r ∷ todo) sub f w =
      and_true _ _ (seated_holds q iq r (sub r (inl refl)) (among_all IsLinearAtom rows r h.atoms (sub r (inl refl))) r.coefs refl (and_left (row_fits rows s r) _ f) w.0)
      (all_hold p q iq todo (λ x a. sub x (inr a)) (and_right (row_fits rows s r) _ f) w.1)
    where
      and_true : (a b : Bool) → a ≡ true → b ≡ true → (a && b) ≡ true
      and_true a b e f = rw (e, f) refl

  -- the values within the bounds are those of the rows
  box_shadow : list_all (row_fits rows s) rows ≡ true → IsShadow (is_within s rows h) (conj_holds row_holds rows) s
  box_shadow f = record {
    to = λ p i t. (within_decides s rows h p).1 (all_within s rows h p i t);
    from = λ p i t. let k = seat p i ((within_decides s rows h p).0 t) rows f in (k.0, k.1.point, all_hold p k.0 k.1.point rows (λ r a. a) f k.1.seated, k.1.value);
  }

  -- where the rows hold each of them fits
  holds_fit : (p : Point) → IsPoint p → IsTrue (conj_holds row_holds rows p) → list_all (row_fits rows s) rows ≡ true
  holds_fit p i t = test_among (row_fits rows s) rows (λ r a. go r r.coefs refl (among_test (λ x. row_holds x p) rows r t a))
    where
      go : (r : LinearConstraint) (cs : List (Slot × ℤ)) → r.coefs ≡ cs → IsTrue (row_holds r p) → coefs_fit rows s r cs ≡ true
      go r [] e x = (constant_holds r p e i).0 x
      go r (c ∷ cs) e x = or_right (same_slot c.0 s) _ (within_meet c.0 rows h p i t)

  nowhere : (list_all (row_fits rows s) rows ≡ true → may_meet (low s rows) (high s rows) ≡ true → ⊥) → HoldsNowhere (conj_holds row_holds rows)
  nowhere n p i = go (conj_holds row_holds rows p) refl
    where
      go : (b : Bool) → conj_holds row_holds rows p ≡ b → conj_holds row_holds rows p ≡ false
      go false e = e
      go true e = absurd (n (holds_fit p i e) (within_meet s rows h p i e))

  -- ---- the answers, of the bounds as they are found
  pub box_exact : (l u : Bound) → l ≡ low s rows → u ≡ high s rows → list_all (row_fits rows s) rows ≡ true → may_meet l u ≡ true
      → IsExactBound (conj_holds row_holds rows) s lower l × IsExactBound (conj_holds row_holds rows) s upper u
  box_exact l u e g f m =
      let meet = ap₂ may_meet (sym e) (sym g) ∙ m in
      rw (e, g) (
        exact_before (is_within s rows h) (conj_holds row_holds rows) s (box_shadow f) lower (low s rows) (low_exact s rows h meet),
        exact_before (is_within s rows h) (conj_holds row_holds rows) s (box_shadow f) upper (high s rows) (high_exact s rows h meet),
      )

  pub box_somewhere : (l u : Bound) → l ≡ low s rows → u ≡ high s rows → list_all (row_fits rows s) rows ≡ true → may_meet l u ≡ true → HoldsSomewhere (conj_holds row_holds rows)
  box_somewhere l u e g f m =
      let o = some_within s rows h (ap₂ may_meet (sym e) (sym g) ∙ m) in
      let q = (box_shadow f).from o.0 o.1 o.2 in
      (q.0, q.1, q.2)

  pub box_apart : (l u : Bound) → l ≡ low s rows → u ≡ high s rows → may_meet l u ≡ false → HoldsNowhere (conj_holds row_holds rows)
  box_apart l u e g m = nowhere (λ f x. true≢false (sym x ∙ ap₂ may_meet (sym e) (sym g) ∙ m))

  pub box_misfit : list_all (row_fits rows s) rows ≡ false → HoldsNowhere (conj_holds row_holds rows)
  box_misfit n = nowhere (λ f x. true≢false (sym f ∙ n))

-- ---- each slot is looked at once

same_fit : (rows : Rows) (s : Slot) (q r : LinearConstraint) (cs ds : List (Slot × ℤ)) → same_places cs ds ≡ true → coefs_fit rows s q cs ≡ true → coefs_fit rows s r ds ≡ true
same_fit rows s q r [] ds e f = absurd (true≢false (sym e))
same_fit rows s q r (c ∷ cs) [] e f = absurd (true≢false (sym e))
same_fit rows s q r (c ∷ cs) (d ∷ ds) e f = subst (λ u. (same_slot u s || may_meet (low u rows) (high u rows)) ≡ true) (same_slot_is c.0 d.0 e) f

-- a row over the slot of one that fits does too
pub met_fits : (rows : Rows) (s : Slot) (xs : Rows) (r : LinearConstraint) → list_all (row_fits rows s) xs ≡ true → list_any (λ q. same_place q r) xs ≡ true → row_fits rows s r ≡ true
met_fits rows s [] r h m = absurd (true≢false (sym m))
met_fits rows s (x ∷ xs) r h m = elim (or_split (same_place x r) _ m) [
  | inl e ↦ same_fit rows s x r x.coefs r.coefs e (and_left (row_fits rows s x) _ h)
  | inr e ↦ met_fits rows s xs r (and_right (row_fits rows s x) _ h) e
]

-- one row more fits
pub fit_more : (rows : Rows) (s : Slot) (i : ℕ) (r : LinearConstraint) → i < length rows → r ≡ get_or rows i r → list_all (row_fits rows s) (take i rows) ≡ true → row_fits rows s r ≡ true
    → list_all (row_fits rows s) (take (i + 1) rows) ≡ true
fit_more rows s i r lt is h f = list_all_more (row_fits rows s) rows i r lt ∙ both _ _ h (ap (row_fits rows s) (sym is) ∙ f)
  where
    both : (a b : Bool) → a ≡ true → b ≡ true → (a && b) ≡ true
    both a b e f = rw (e, f) refl

-- ---- rows that mention one slot alone have one slot or none

pub alone_single : (s : Slot) (rows : Rows) → AllByRecursion IsLinearAtom rows → ((t : Slot) → conj_mentions row_mentions rows t ≡ true → same_slot t s ≡ true) → list_all is_single rows ≡ true
unfolding row_mentions
alone_single s [] h k = refl
alone_single s (r ∷ rows) h k = and_true _ _ (short_list r.coefs (one r.coefs h.0.coefs (λ t m. k t (or_left _ _ m)))) (alone_single s rows h.1 (λ t m. k t (or_right (has_slot r.coefs t) _ m)))
  where
    and_true : (a b : Bool) → a ≡ true → b ≡ true → (a && b) ≡ true
    and_true a b e f = rw (e, f) refl

    one : (cs : List (Slot × ℤ)) → AreCoefs cs → AtAlone s cs → IsSingle cs
    one [] k h = tt
    one (c ∷ []) k h = tt
    one (c ∷ d ∷ cs) k h =
        let x = same_number c.0 s (h c.0 (or_left _ _ (same_slot_refl c.0))) in
        let y = same_number d.0 s (h d.0 (or_right (same_slot c.0 d.0) _ (or_left _ _ (same_slot_refl d.0)))) in
        let above = k.3.0 in
        absurd (omega arith)

-- so where some row mentions more, there is another slot
pub some_other : (s : Slot) (ss : List Slot) (rows : Rows) → AllByRecursion IsLinearAtom rows → AreOthers s ss rows → list_all is_single rows ≡ false → 0 < length ss
some_other s [] rows h o n = absurd (true≢false (sym (alone_single s rows h (none_left s [] rows o refl)) ∙ n))
some_other s (t ∷ ss) rows h o n = omega arith
