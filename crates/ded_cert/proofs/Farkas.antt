-- Rows that hold nowhere, and a row that is left of their tagged rows and is false: its tags tell multipliers that refute the rows.
use Rattle.std.proofs.Common.{◌≡◌, ◌≢◌, ℕ, ◌+◌, ◌^◌, ◌<◌, ◌≤◌, ◌==◌, Bool, true, false, not, cond, ◌&&◌, ◌||◌, List, [], ◌∷◌, length, inl, inr, ⊎_elim, arith, refl, sym, ap, ◌∙◌, subst, true≢false}
use Rattle.std.proofs.lemmas.Bool.{false_from_ne_true}
use Rattle.std.specs.Prelude.{ℤ, pos, negsuc, ◌*ℤ◌, ◌<ℤ◌, ◌≤ℤ◌, unsigned_abs, int_lt}
use lib.IntN.{neg_ℤ}
use Rattle.std.specs.List.{AllByRecursion, list_all, list_any}
use Rattle.std.specs.Ordering.{int_eq}
use Rattle.std.proofs.lemmas.Int.{ints}
use Rattle.ded_num.proofs.Ring.{parts, ring_pos, diff_same}
use Rattle.ded_model.specs.declared.slot.Slot.{Slot}
use Rattle.ded_model.specs.Constraint.{LinearConstraint}
use Rattle.ded_model.specs.Point.{slot, Point, same_slot, stands_in, number_at, AreDistinctSlots}
use Rattle.ded_model.specs.Cell.{conj_holds, HoldsSomewhere, HoldsNowhere}
use Rattle.ded_model.specs.Coefs.{AllBelow, AreCoefs, coef_at}
use Rattle.ded_model.specs.Row.{row_holds, row_mentions}
use Rattle.ded_model.specs.Lines.{In}
use Rattle.ded_model.proofs.LineSlots.{has_slot}
use Rattle.ded_model.proofs.Members.{or_split}
use Rattle.ded_model.proofs.Points.{same_slot_is, same_slot_refl, and_left, and_right}
use Rattle.ded_model.proofs.Rows.{or_left, or_right}
use Rattle.ded_model.proofs.SlotLists.{same_slot-turned}
use Rattle.ded_row.proofs.Pieces.{whole_minus}
use Rattle.ded_row.proofs.Targets.{coef_at-absent}
use Rattle.ded_theory.specs.Conjunctions.{conj_mentions}
use Rattle.ded_elimination.specs.LinearAtoms.{IsLinearAtom}
use Rattle.ded_weighing.specs.Columns.{HasAllSlots}
use Rattle.ded_weighing.specs.Gathered.{AreOf}
use Rattle.ded_weighing.specs.Weighing.{weighed_coefs, weighed_constant, signs_fit, is_strict, is_weak, constant_refutes, refutes}
use Rattle.ded_weighing.proofs.Vanishing.{ascend-weighed, zero_coefs, weighed_slots}
use Rattle.ded_cert.specs.Certified.{magnitudes}
use Rattle.ded_cert.specs.Tracing.{tag, turned_coefs, slack_of, traces, AreBelow, multipliers, is_weak_row, is_refuting, AreWideRows}
use Rattle.ded_cert.specs.Projecting.{weigh, IsProjected, KeepsNumbers, GetLong}
use Rattle.ded_cert.proofs.Combined.{coef_over}
use Rattle.ded_cert.proofs.Tagged.{tag_apart, below_apart, tagged_at_other, tagged_at_total, tagged_at_slack}
use Rattle.ded_cert.proofs.TwoNumbers.{two_numbers-is, two_numbers-at}
use Rattle.ded_cert.proofs.Lows.{low, low_point, traces_low, tag_coef, turned_below}
use Rattle.ded_cert.proofs.Nears.{near, near_holds, IsClear, rows_back}
use Rattle.ded_cert.proofs.Identities.{weights, each_right, coef_told, constant_told, zero_told}
use Rattle.ded_cert.proofs.Widths.{all_rational, long_wide, many_wide, total_wide}
use Rattle.ded_cert.proofs.Multiplied.{weak_of, as_many, same_count, column_is, constants_are, signs_are, strict_is, sizes_within}

-- ---- bounds of numbers

-- the sum of what f makes of the rows
size_of : (LinearConstraint → ℕ) → List LinearConstraint → ℕ
size_of f [] = 0
size_of f (r ∷ rs) = f r + size_of f rs

all_less : (f : LinearConstraint → ℕ) (k : ℕ) (rs : List LinearConstraint) → size_of f rs < k → AllByRecursion (λ r. f r < k) rs
unfolding size_of
all_less f k [] h = tt
all_less f k (r ∷ rs) h = (omega (arith, h), all_less f k rs (omega (arith, h)))

bound_of : (LinearConstraint → ℕ) → List LinearConstraint → ℕ
bound_of f rs = size_of f rs + 1

all_bound : (f : LinearConstraint → ℕ) (rs : List LinearConstraint) → AllByRecursion (λ r. f r < bound_of f rs) rs
unfolding bound_of
all_bound f rs = all_less f (size_of f rs + 1) rs (omega arith)

above_zero : (f : LinearConstraint → ℕ) (xs : List LinearConstraint) → 0 < bound_of f xs
unfolding bound_of
above_zero f xs = omega arith

pub coefs_of : (rs : List LinearConstraint) → AllByRecursion IsLinearAtom rs → AllByRecursion (λ r. AreCoefs r.coefs) rs
coefs_of [] h = tt
coefs_of (r ∷ rs) h = (h.0.coefs, coefs_of rs h.1)

-- ---- rows at points

holds_in : (left : List LinearConstraint) (e : LinearConstraint) (p : Point) → In e left → conj_holds row_holds left p ≡ true → row_holds e p ≡ true
holds_in [] e p i h = absurd i
holds_in (x ∷ left) e p (inl i) h = subst (λ r. row_holds r p ≡ true) (sym i) (and_left (row_holds x p) (conj_holds row_holds left p) h)
holds_in (x ∷ left) e p (inr i) h = holds_in left e p i (and_right (row_holds x p) (conj_holds row_holds left p) h)

-- a slot that some row mentions is below
slot_below : (b : ℕ) (cs : List (Slot × ℤ)) (s : Slot) → AllBelow b cs → has_slot cs s ≡ true → s.number < b
slot_below b [] s a h = absurd (true≢false (sym h))
slot_below b (c ∷ cs) s a h = ⊎_elim (λ (e : same_slot c.0 s ≡ true). subst (λ (u : Slot). u.number < b) (same_slot_is c.0 s e) a.0) (λ e. slot_below b cs s a.1 e) (or_split (same_slot c.0 s) _ h)

mentioned_below : (b : ℕ) (rs : List LinearConstraint) (s : Slot) → AreBelow b rs → list_any (λ r. row_mentions r s) rs ≡ true → s.number < b
unfolding row_mentions
mentioned_below b [] s a h = absurd (true≢false (sym h))
mentioned_below b (r ∷ rs) s a h = ⊎_elim (λ (e : has_slot r.coefs s ≡ true). slot_below b r.coefs s a.0 e) (λ e. mentioned_below b rs s a.1 e) (or_split (has_slot r.coefs s) _ h)

mentions_in : (left : List LinearConstraint) (e : LinearConstraint) (s : Slot) → In e left → row_mentions e s ≡ true → conj_mentions row_mentions left s ≡ true
mentions_in [] e s i h = absurd i
mentions_in (x ∷ left) e s (inl i) h = or_left (row_mentions x s) _ (subst (λ r. row_mentions r s ≡ true) i h)
mentions_in (x ∷ left) e s (inr i) h = or_right (row_mentions x s) _ (mentions_in left e s i h)

turned_coef : (cs : List (Slot × ℤ)) (s : Slot) → coef_at (turned_coefs cs) s ≡ neg_ℤ (coef_at cs s)
turned_coef cs s = back (coef_at (turned_coefs cs) s) (coef_at cs s) (coef_over (negsuc 0) cs s (whole_minus cs))
  where
    back : (x y : ℤ) → negsuc 0 *ℤ x ≡ y → x ≡ neg_ℤ y
    back x y e = omega (arith, ints, e)

module _ (b n : ℕ) (rs : List LinearConstraint) (below : AreBelow b rs) (h : b + 1 < n) where
  abbrev size : ℕ
  size = bound_of (λ r. unsigned_abs r.constant) rs

  -- all tagged rows hold at each low point
  all_low : (t m : ℕ) → b + 1 < t → conj_holds row_holds (traces b n rs) (low b size t m) ≡ true
  all_low t m k = traces_low b size t m k n rs below h (all_bound (λ r. unsigned_abs r.constant) rs)

  pub somewhere : HoldsSomewhere (conj_holds row_holds (traces b n rs))
  somewhere = (low b size n 0, low_point b size n 0 h, all_low n 0 h)

  module _ (done : List Slot) (left : List LinearConstraint) (only : AreOf rs done) (projected : IsProjected (traces b n rs) done left) where
    left_low : (t m : ℕ) → b + 1 < t → conj_holds row_holds left (low b size t m) ≡ true
    left_low t m k = projected.holds (low b size t m) (low_point b size t m k) (all_low t m k)

    -- the coefficients of tags aren't negative
    pub tags_positive : (e : LinearConstraint) → In e left → (t : ℕ) → b + 1 < t → pos 0 ≤ℤ coef_at e.coefs (tag t)
    tags_positive e i t k = tag_coef b size t k e (λ m. holds_in left e (low b size t m) i (left_low t m k))

    -- no tag is eliminated
    kept_tag : (m : ℕ) → b ≤ m → stands_in done (tag m) ≡ false
    kept_tag m k = false_from_ne_true (stands_in done (tag m)) (λ e. let l = mentioned_below b rs (tag m) below (only (tag m) e) in absurd (omega (arith, l, k)))

    clear_zero : (x y f : ℤ) → y ≡ x *ℤ f → x ≡ pos 0 → y ≡ pos 0
    clear_zero x y f e z = e ∙ ap (λ u. u *ℤ f) z ∙ law f
      where
        law : (f : ℤ) → pos 0 *ℤ f ≡ pos 0
        law f = rw (parts f) (simp ring_pos (diff_same _ _ _ _ (omega arith)))

    clear_slack : (x y : ℤ) (f : ℕ) → y ≡ x *ℤ pos f → x ≡ pos 1 → 0 < f → pos 0 <ℤ y
    clear_slack x y f e z k = subst (λ u. pos 0 <ℤ u) (sym (e ∙ ap (λ u. u *ℤ pos f) z)) (above f k)
      where
        above : (f : ℕ) → 0 < f → pos 0 <ℤ (pos 1 *ℤ pos f)
        above f k = omega (arith, ints, k)

    chosen : (x y : Bool) → x ≡ false → cond x (pos 1) (cond y (pos 0) (pos 0)) ≡ pos 0
    chosen true y e = absurd (true≢false e)
    chosen false true e = refl
    chosen false false e = refl

    at_near : (d : ℕ) (m : ℕ) → m ≢ b + 1 → number_at (near b d) (slot (tag m)) ≡ pos 0
    at_near d m k = two_numbers-at d (tag b) (pos 0) (tag (b + 1)) (pos 1) (tag m) ∙ chosen (same_slot (tag m) (tag (b + 1))) (same_slot (tag m) (tag b)) (tag_apart m (b + 1) k)

    slack_near : (d : ℕ) → number_at (near b d) (slot (tag (b + 1))) ≡ pos 1
    slack_near d = two_numbers-at d (tag b) (pos 0) (tag (b + 1)) (pos 1) (tag (b + 1)) ∙ here (same_slot (tag (b + 1)) (tag (b + 1))) (same_slot (tag (b + 1)) (tag b)) (same_slot_refl (tag (b + 1)))
      where
        here : (x y : Bool) → x ≡ true → cond x (pos 1) (cond y (pos 0) (pos 0)) ≡ pos 1
        here x y e = rw e refl

    clear : (d : ℕ) (q : Point) → KeepsNumbers done (near b d) q → IsClear b q
    clear d q k = record {
      tags = λ m l. clear_zero (number_at (near b d) (slot (tag m))) (number_at q (slot (tag m))) (pos k.factor) (k.kept (tag m) (kept_tag m (omega (arith, l)))) (at_near d m (λ e. absurd (omega (arith, e, l))));
      total = clear_zero (number_at (near b d) (slot (tag b))) (number_at q (slot (tag b))) (pos k.factor) (k.kept (tag b) (kept_tag b (omega arith))) (at_near d b (λ e. absurd (omega (arith, e))));
      slack = clear_slack (number_at (near b d) (slot (tag (b + 1)))) (number_at q (slot (tag (b + 1)))) k.factor (k.kept (tag (b + 1)) (kept_tag (b + 1) (omega arith))) (slack_near d) k.positive;
    }

    -- some row that is left is false at the points near, where the rows hold nowhere
    pub some_refuting : AllByRecursion IsLinearAtom left → AllByRecursion (λ r. is_weak_row r ≡ true) left → AllByRecursion (λ r. is_refuting b r ≡ false) left → HoldsNowhere (conj_holds row_holds rs) → ⊥
    some_refuting linear weak none nowhere =
        let d = bound_of (λ r. unsigned_abs (coef_at r.coefs (tag (b + 1)))) left in
        let p = near b d in
        let all = near_holds b d left (low b size n 0) linear weak none (all_bound (λ r. unsigned_abs (coef_at r.coefs (tag (b + 1)))) left) (left_low n 0 h) in
        let w = projected.back p (two_numbers-is d (tag b) (pos 0) (tag (b + 1)) (pos 1) (above_zero (λ r. unsigned_abs (coef_at r.coefs (tag (b + 1)))) left)) all in
        true≢false (sym (rows_back b w.0 w.1.positive (clear d w.0 w.3) n rs below h w.2) ∙ nowhere w.0 w.1)

    module _ (e : LinearConstraint) (inside : In e left) (atom : IsLinearAtom e) where
      abbrev ms : List ℤ
      ms = multipliers e n (length rs)

      positive : (m : ℕ) → b + 1 < m → pos 0 ≤ℤ coef_at e.coefs (tag m)
      positive = tags_positive e inside

      -- what the tags tell
      turned_none : weigh (weights (λ r. pos 0) (λ r. weak_of r.op) n rs) e.coefs ≡ pos 0
      turned_none =
          zero_told b n rs done left projected e inside atom (weights (λ r. pos 0) (λ r. weak_of r.op) n rs)
          (each_right (λ r. pos 0) (λ r. weak_of r.op) b (λ y. pos 0) (λ m r k a. refl) (λ m r k a z. ap weak_of (sym z)) n rs h below)

      constant_is : weighed_constant ms rs ≡ e.constant
      constant_is =
          constants_are e n rs
          ∙ constant_told b n rs done left projected e inside atom (weights (λ r. r.constant) (λ r. neg_ℤ r.constant) n rs)
          (each_right (λ r. r.constant) (λ r. neg_ℤ r.constant) b (λ y. y.constant) (λ m r k a. refl) (λ m r k a z. refl) n rs h below)

      slack_is : weigh (weights (λ r. slack_of r.op) (λ r. pos 0) n rs) e.coefs ≡ coef_at e.coefs (tag (b + 1))
      slack_is =
          coef_told b n rs done left projected e inside atom (weights (λ r. slack_of r.op) (λ r. pos 0) n rs) (tag (b + 1))
          (each_right (λ r. slack_of r.op) (λ r. pos 0) b (λ y. coef_at y.coefs (tag (b + 1)))
          (λ m r k a. tagged_at_slack b (slack_of r.op) m r.coefs a k)
          (λ m r k a z. tagged_at_slack b (pos 0) (m + 1) (turned_coefs r.coefs) (turned_below b r.coefs a) (omega (arith, k))) n rs h below)

      total_is : weigh (weights (λ r. pos 1) (λ r. pos 1) n rs) e.coefs ≡ coef_at e.coefs (tag b)
      total_is =
          coef_told b n rs done left projected e inside atom (weights (λ r. pos 1) (λ r. pos 1) n rs) (tag b)
          (each_right (λ r. pos 1) (λ r. pos 1) b (λ y. coef_at y.coefs (tag b))
          (λ m r k a. tagged_at_total b (slack_of r.op) m r.coefs a k)
          (λ m r k a z. tagged_at_total b (pos 0) (m + 1) (turned_coefs r.coefs) (turned_below b r.coefs a) (omega (arith, k))) n rs h below)

      apart : (s : Slot) (m : ℕ) → s.number < b → b ≤ m → same_slot (tag m) s ≡ false
      apart s m k l = same_slot-turned s (tag m) (below_apart s b m k l)

      coefs_are : (s : Slot) → s.number < b → coef_at (weighed_coefs ms rs) s ≡ coef_at e.coefs s
      coefs_are s k =
          column_is e s n rs
          ∙ coef_told b n rs done left projected e inside atom (weights (λ r. coef_at r.coefs s) (λ r. neg_ℤ (coef_at r.coefs s)) n rs) s
          (each_right (λ r. coef_at r.coefs s) (λ r. neg_ℤ (coef_at r.coefs s)) b (λ y. coef_at y.coefs s)
          (λ m r l a. tagged_at_other b (slack_of r.op) m r.coefs a l s (apart s m k (omega (arith, l))) (apart s (b + 1) k (omega arith)) (apart s b k (omega arith)))
          (λ m r l a z. tagged_at_other b (pos 0) (m + 1) (turned_coefs r.coefs) (turned_below b r.coefs a) (omega (arith, l)) s (apart s (m + 1) k (omega (arith, l))) (apart s (b + 1) k (omega arith)) (apart s b k (omega arith))
          ∙ turned_coef r.coefs s) n rs h below)

      -- the slots of the rows are gone
      gone : (s : Slot) → stands_in done s ≡ true → coef_at e.coefs s ≡ pos 0
      unfolding row_mentions
      gone s k = coef_at-absent e.coefs s (false_from_ne_true (has_slot e.coefs s) (λ m. true≢false (sym k ∙ projected.without s (mentions_in left e s inside m))))

      no_coefs : HasAllSlots done rs → AllByRecursion (λ r. AreCoefs r.coefs) rs → list_all (λ c. int_eq c.1 (pos 0)) (weighed_coefs ms rs) ≡ true
      no_coefs all coefs = zero_coefs (weighed_coefs ms rs) (ascend-weighed ms rs coefs)
          (λ s k. let there = weighed_slots done ms rs all s k in coefs_are s (mentioned_below b rs s below (only s there)) ∙ gone s there)

      -- the row tells that the sum is false
      is_above : (z : ℤ) → int_lt (pos 0) z ≡ true → pos 0 <ℤ z
      is_above z e = grind (arith, ints)

      told : (x y : Bool) (t : ℤ) (s w : Bool) → (x || (y && int_lt (pos 0) t)) ≡ true → (pos 0 <ℤ t → s ≡ true) → (x || ((y && s) || (not y && not w))) ≡ true
      told true y t s w r f = refl
      told false true t s w r f = or_left s (not true && not w) (f (is_above t r))
      told false false t s w r f = absurd (true≢false (sym r))

      false_sum : is_refuting b e ≡ true → constant_refutes (is_strict ms rs) (is_weak ms rs) (weighed_constant ms rs) ≡ true
      false_sum r = subst (λ c. constant_refutes (is_strict ms rs) (is_weak ms rs) c ≡ true) (sym constant_is)
          (told (int_lt (pos 0) e.constant) (int_eq e.constant (pos 0)) (coef_at e.coefs (tag (b + 1))) (is_strict ms rs) (is_weak ms rs) r
          (λ l. strict_is e b positive n rs h turned_none (subst (λ z. pos 0 <ℤ z) (sym slack_is) l)))

      four : (w x y z : Bool) → w ≡ true → x ≡ true → y ≡ true → z ≡ true → (w && (x && (y && z))) ≡ true
      four w x y z f g i j = rw (f, g, i, j) refl

      pub multipliers_refute : HasAllSlots done rs → AllByRecursion (λ r. AreCoefs r.coefs) rs → is_refuting b e ≡ true → refutes ms rs ≡ true
      multipliers_refute all coefs r =
          four (length ms == length rs) (signs_fit ms rs) (list_all (λ c. int_eq c.1 (pos 0)) (weighed_coefs ms rs)) (constant_refutes (is_strict ms rs) (is_weak ms rs) (weighed_constant ms rs))
          (same_count (length ms) (length rs) (as_many e n (length rs))) (signs_are e b positive n rs h turned_none) (no_coefs all coefs) (false_sum r)

      pub multipliers_small : coef_at e.coefs (tag b) <ℤ pos (2 ^ 63) → magnitudes ms < 2 ^ 63
      multipliers_small l = fewer (magnitudes ms) (coef_at e.coefs (tag b)) (2 ^ 63) (subst (λ z. pos (magnitudes ms) ≤ℤ z) total_is (sizes_within e b positive n rs h)) l
        where
          fewer : (m : ℕ) (z : ℤ) (k : ℕ) → pos m ≤ℤ z → z <ℤ pos k → m < k
          fewer m z k h l = omega (arith, ints, h, l)

-- ---- a search for multipliers

-- the rows, a number above those of all their slots, the slots, and what is left of the tagged rows after these are eliminated
pub record Search (b : ℕ) (rs : List LinearConstraint) (done : List Slot) (left : List LinearConstraint) : Type 0 where
  pub below : AreBelow b rs
  pub linear : AllByRecursion IsLinearAtom rs
  pub all : HasAllSlots done rs
  pub only : AreOf rs done
  pub distinct : AreDistinctSlots done
  pub projected : IsProjected (traces b (b + 2) rs) done left
  pub normal : AllByRecursion IsLinearAtom left
  pub weak : AllByRecursion (λ r. is_weak_row r ≡ true) left

behind : (b : ℕ) → b + 1 < b + 2
behind b = omega arith

atom_in : (left : List LinearConstraint) (e : LinearConstraint) → AllByRecursion IsLinearAtom left → In e left → IsLinearAtom e
atom_in [] e h i = absurd i
atom_in (x ∷ left) e h (inl i) = subst IsLinearAtom (sym i) h.0
atom_in (x ∷ left) e h (inr i) = atom_in left e h.1 i

module _ (b : ℕ) (rs : List LinearConstraint) (done : List Slot) (left : List LinearConstraint) (s : Search b rs done left) where
  pub search_finds : AllByRecursion (λ r. is_refuting b r ≡ false) left → HoldsNowhere (conj_holds row_holds rs) → ⊥
  search_finds none nowhere = some_refuting b (b + 2) rs s.below (behind b) done left s.only s.projected s.normal s.weak none nowhere

  module _ (e : LinearConstraint) (inside : In e left) where
    pub found_positive : (n : ℕ) → b + 2 ≤ n → pos 0 ≤ℤ coef_at e.coefs (tag n)
    found_positive n h = tags_positive b (b + 2) rs s.below (behind b) done left s.only s.projected e inside n (omega (arith, h))

    pub found_refutes : is_refuting b e ≡ true → refutes (multipliers e (b + 2) (length rs)) rs ≡ true
    found_refutes r = multipliers_refute b (b + 2) rs s.below (behind b) done left s.only s.projected e inside (atom_in left e s.normal inside) s.all (coefs_of rs s.linear) r

    pub found_small : coef_at e.coefs (tag b) <ℤ pos (2 ^ 63) → magnitudes (multipliers e (b + 2) (length rs)) < 2 ^ 63
    found_small l = multipliers_small b (b + 2) rs s.below (behind b) done left s.only s.projected e inside (atom_in left e s.normal inside) l

    pub found_wide : pos (2 ^ 63) ≤ℤ coef_at e.coefs (tag b) → AreWideRows rs
    found_wide l = total_wide b (b + 2) rs done s.below (behind b) s.linear s.distinct (all_rational rs done s.linear s.only) s.only left e (tag b) s.projected inside (atom_in left e s.normal inside) l

pub search_somewhere : (b : ℕ) (rs : List LinearConstraint) → AreBelow b rs → HoldsSomewhere (conj_holds row_holds (traces b (b + 2) rs))
search_somewhere b rs a = somewhere b (b + 2) rs a (behind b)

pub search_wide : (b : ℕ) (rs : List LinearConstraint) (done : List Slot) → AreBelow b rs → AllByRecursion IsLinearAtom rs → AreOf rs done → AreDistinctSlots done → GetLong (traces b (b + 2) rs) (length done) → AreWideRows rs
search_wide b rs done a l of d g = long_wide b (b + 2) rs done a (behind b) l d (all_rational rs done l of) of g

pub search_many : (b : ℕ) (rs : List LinearConstraint) (done : List Slot) → AreBelow b rs → AllByRecursion IsLinearAtom rs → AreOf rs done → AreDistinctSlots done → 5 < length done → AreWideRows rs
search_many b rs done a l of d g = many_wide b (b + 2) rs done a (behind b) l d (all_rational rs done l of) of g
