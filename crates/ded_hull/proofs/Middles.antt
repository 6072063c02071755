-- Middles of segments: in order, and beside the units next to values that meet limits of one term.
use Rattle.std.proofs.Common.{◌≡◌, ℕ, zero, suc, ◌<◌, ◌≤◌, Bool, true, false, cond, List, [], ◌∷◌, ◌++◌, length, get_or, Option, Some, None, ◌⊎◌, inl, inr, arith, refl, sym, ap, ◌∙◌, subst, true≢false}
use Rattle.std.specs.Prelude.{ℤ, pos, ◌+ℤ◌, ◌≤ℤ◌, ◌<ℤ◌, ◌*ℤ◌, int_lt, int_le}
use Rattle.std.specs.Int.{int_div_euclid}
use Rattle.std.specs.Ordering.{int_cmp, is_lt}
use Rattle.std.specs.Cmp.{IsStrictWeakOrder}
use Rattle.std.specs.List.Sorted.{IsPermutation, IsSortedBy}
use Rattle.std.proofs.lemmas.Int.{ints}
use Rattle.std.proofs.lemmas.List.Sorted.{All-permutation, sorted_far}
use Rattle.ded_num.proofs.Tests.{both}
use Rattle.ded_model.specs.declared.row.RowOp.{RowOp}
use Rattle.ded_model.specs.declared.row.RowOp.TheVariants.{Zero, AtMost, Below}
use Rattle.ded_model.proofs.Lists.{Every, Some as SomeOf, every_all, all_every, every-left, every-right}
use Rattle.ded_model.proofs.Points.{and_right, and_left}
use Rattle.ded_ranges.specs.declared.reach.Range.{Range}
use Rattle.ded_ranges.specs.declared.limit.Limit.{Limit}
use Rattle.ded_hull.specs.declared.entry.ReachEntry.{ReachEntry}
use Rattle.ded_ranges.specs.Codes.{fine, is_up_to}
use Rattle.ded_ranges.specs.Reaches.{range_at, everywhere, Lies, NotAbove, NotBelow, IsPart, IsWithin}
use Rattle.ded_ranges.specs.Limits.{Term, kept, plus, times, least_end, turned, least_of, at_most_zero, below_zero, may_stand, may_meet, may_hold}
use Rattle.ded_hull.specs.Entries.{ids_in}
use Rattle.ded_ranges.specs.Scaling.{of_le_true, le_self, commute, quotient_up_to, quotient_next}
use Rattle.ded_hull.specs.Segments.{first_range, IsSegment, AreSegments, middle_between, middle, middle_order, NotLater, InOrder, AreBefore, IsHull}
use Rattle.ded_hull.specs.Trees.{AreAlong}
use Rattle.ded_ranges.proofs.Ends.{part_self}
use Rattle.ded_ranges.proofs.Sums.{may_hold_sound, may_hold_wider}

-- ---- limits of one term: what they let through is told at one end

-- from a number of units to the high end of a range
abbrev from_unit : ℤ → Range → Range
from_unit u r = record { low = Some u; high = r.high }

-- from the low end of a range to the next number of units
abbrev to_unit : ℤ → Range → Range
to_unit u r = record { low = r.low; high = Some (u +ℤ pos 1) }

-- between a number of units and the next one
abbrev unit_alone : ℤ → Range
unit_alone u = record { low = Some u; high = Some (u +ℤ pos 1) }

-- the least sum in a mixed range is that in one of two others
module _ (x m r : Range) (mixed : (a : ℤ) → (least_end a x ≡ least_end a m) ⊎ (least_end a x ≡ least_end a r)) where
  one_of : (s : Option ℤ) (p : ℕ) (a : ℤ) → (plus s (times a (least_end a (range_at (x ∷ []) p))) ≡ plus s (times a (least_end a (range_at (m ∷ []) p)))) ⊎ (plus s (times a (least_end a (range_at (x ∷ []) p))) ≡ plus s (times a (least_end a (range_at (r ∷ []) p))))
  one_of s zero a = elim (mixed a) [ inl e ↦ inl (ap (λ o. plus s (times a o)) e) | inr e ↦ inr (ap (λ o. plus s (times a o)) e) ]
  one_of s (suc p) a = inl refl

  one_sum : (ts : List Term) (c : ℤ) (b : Bool) → length ts ≤ 1 → (least_of (x ∷ []) ts c b ≡ least_of (m ∷ []) ts c b) ⊎ (least_of (x ∷ []) ts c b ≡ least_of (r ∷ []) ts c b)
  one_sum [] c b h = inl refl
  one_sum (t ∷ []) c b h = one_of (kept (turned b c *ℤ pos fine)) t.0 (turned b t.1)
  one_sum (t ∷ (u ∷ us)) c b h = absurd (omega (arith, h))

  told : (P : Option ℤ → Bool) (o a b : Option ℤ) → (o ≡ a) ⊎ (o ≡ b) → P a ≡ true → P b ≡ true → P o ≡ true
  told P o a b (inl e) h k = ap P e ∙ h
  told P o a b (inr e) h k = ap P e ∙ k

  stand : (op : RowOp) (o n a i b j : Option ℤ) → (o ≡ a) ⊎ (o ≡ b) → (n ≡ i) ⊎ (n ≡ j) → may_stand op a i ≡ true → may_stand op b j ≡ true → may_stand op o n ≡ true
  stand Zero o n a i b j e f h k = both (at_most_zero o) (at_most_zero n)
      (told at_most_zero o a b e (and_left (at_most_zero a) (at_most_zero i) h) (and_left (at_most_zero b) (at_most_zero j) k))
      (told at_most_zero n i j f (and_right (at_most_zero a) (at_most_zero i) h) (and_right (at_most_zero b) (at_most_zero j) k))
  stand AtMost o n a i b j e f h k = told at_most_zero o a b e h k
  stand Below o n a i b j e f h k = told below_zero o a b e h k

  one_met : (l : Limit) → length l.terms.items ≤ 1 → may_meet (m ∷ []) l ≡ true → may_meet (r ∷ []) l ≡ true → may_meet (x ∷ []) l ≡ true
  one_met l s h k =
      let ts = l.terms.items in
      let c = l.constant in
      stand l.op (least_of (x ∷ []) ts c false) (least_of (x ∷ []) ts c true) (least_of (m ∷ []) ts c false) (least_of (m ∷ []) ts c true) (least_of (r ∷ []) ts c false) (least_of (r ∷ []) ts c true) (one_sum ts c false s) (one_sum ts c true s) h k

  all_held : (ls : List Limit) → Every (λ l. length l.terms.items ≤ 1) ls → may_hold (m ∷ []) ls ≡ true → may_hold (r ∷ []) ls ≡ true → may_hold (x ∷ []) ls ≡ true
  all_held [] s h k = refl
  all_held (l ∷ ls) s h k = both (may_meet (x ∷ []) l) (may_hold (x ∷ []) ls)
      (one_met l s.0 (and_left (may_meet (m ∷ []) l) (may_hold (m ∷ []) ls) h) (and_left (may_meet (r ∷ []) l) (may_hold (r ∷ []) ls) k))
      (all_held ls s.1 (and_right (may_meet (m ∷ []) l) (may_hold (m ∷ []) ls) h) (and_right (may_meet (r ∷ []) l) (may_hold (r ∷ []) ls) k))

mixed_from : (u : ℤ) (r : Range) (a : ℤ) → (least_end a (from_unit u r) ≡ least_end a (unit_alone u)) ⊎ (least_end a (from_unit u r) ≡ least_end a r)
mixed_from u r a = by (int_lt (pos 0) a)
  where
    by : (b : Bool) → (cond b (Some u) r.high ≡ cond b (Some u) (Some (u +ℤ pos 1))) ⊎ (cond b (Some u) r.high ≡ cond b r.low r.high)
    by true = inl refl
    by false = inr refl

mixed_to : (u : ℤ) (r : Range) (a : ℤ) → (least_end a (to_unit u r) ≡ least_end a (unit_alone u)) ⊎ (least_end a (to_unit u r) ≡ least_end a r)
mixed_to u r a = by (int_lt (pos 0) a)
  where
    by : (b : Bool) → (cond b r.low (Some (u +ℤ pos 1)) ≡ cond b (Some u) (Some (u +ℤ pos 1))) ⊎ (cond b r.low (Some (u +ℤ pos 1)) ≡ cond b r.low r.high)
    by true = inr refl
    by false = inl refl

-- ---- where the limits may hold

-- the units at or below the value of the first column
abbrev pub floor_at : (ls : List Limit) → AreAlong ls → ℤ
floor_at ls along = int_div_euclid (along.values 0 *ℤ pos fine) (pos along.den)

-- all limits may hold between these units and the next ones
unit_held : (ls : List Limit) (along : AreAlong ls) → may_hold (unit_alone (floor_at ls along) ∷ []) ls ≡ true
unit_held ls along = may_hold_sound (unit_alone u ∷ []) along.values along.den ls along.some lies along.met
  where
    n : ℤ
    n = along.values 0 *ℤ pos fine

    u : ℤ
    u = floor_at ls along

    turned_low : (a b n : ℤ) → b ≡ a → a ≤ℤ n → b ≤ℤ n
    turned_low a b n e h = omega (arith, ints)

    turned_high : (a b n : ℤ) → b ≡ a → n <ℤ a → n ≤ℤ b
    turned_high a b n e h = omega (arith, ints)

    lies : Lies (unit_alone u ∷ []) along.values along.den
    lies zero = record { low = turned_low (pos along.den *ℤ u) (u *ℤ pos along.den) n (commute u (pos along.den)) (quotient_up_to n along.den along.some); high = turned_high (pos along.den *ℤ (u +ℤ pos 1)) ((u +ℤ pos 1) *ℤ pos along.den) n (commute (u +ℤ pos 1) (pos along.den)) (quotient_next n along.den along.some) }
    lies (suc p) = record { low = tt; high = tt }

-- ---- before and behind these units

-- the middle of the entry is no later than that of the units and the next ones
abbrev pub IsEarly : ℤ → ReachEntry → Type 0
IsEarly u e = middle (first_range e) ≤ℤ ((u +ℤ u) +ℤ pos 1)

-- the middle of the entry is no earlier than that of the units and the next ones
abbrev pub IsLate : ℤ → ReachEntry → Type 0
IsLate u e = ((u +ℤ u) +ℤ pos 1) ≤ℤ middle (first_range e)

low_early : (l h : Option ℤ) (u : ℤ) → is_up_to l h ≡ true → middle_between l h ≤ℤ ((u +ℤ u) +ℤ pos 1) → NotAbove l (Some u)
low_early None h u i m = tt
low_early (Some l) None u i m = half l u m
  where
    half : (l u : ℤ) → (l +ℤ l) ≤ℤ ((u +ℤ u) +ℤ pos 1) → l ≤ℤ u
    half l u m = omega (arith, ints)
low_early (Some l) (Some h) u i m = half l h u (of_le_true l h i) m
  where
    half : (l h u : ℤ) → l ≤ℤ h → (l +ℤ h) ≤ℤ ((u +ℤ u) +ℤ pos 1) → l ≤ℤ u
    half l h u k m = omega (arith, ints)

high_late : (l h : Option ℤ) (u : ℤ) → is_up_to l h ≡ true → ((u +ℤ u) +ℤ pos 1) ≤ℤ middle_between l h → NotBelow h (Some (u +ℤ pos 1))
high_late l None u i m = tt
high_late None (Some h) u i m = half h u m
  where
    half : (h u : ℤ) → ((u +ℤ u) +ℤ pos 1) ≤ℤ (h +ℤ h) → (u +ℤ pos 1) ≤ℤ h
    half h u m = omega (arith, ints)
high_late (Some l) (Some h) u i m = half l h u (of_le_true l h i) m
  where
    half : (l h u : ℤ) → l ≤ℤ h → ((u +ℤ u) +ℤ pos 1) ≤ℤ (l +ℤ h) → (u +ℤ pos 1) ≤ℤ h
    half l h u k m = omega (arith, ints)

-- a list of one range
one_range : (rs : List Range) → length rs ≡ 1 → rs ≡ range_at rs 0 ∷ []
one_range [] e = absurd (omega (arith, e))
one_range (r ∷ []) e = refl
one_range (r ∷ (s ∷ rs)) e = absurd (omega (arith, e))

alone_within : (x r : Range) → IsPart x r → IsWithin (x ∷ []) (r ∷ [])
alone_within x r h zero = h
alone_within x r h (suc p) = part_self everywhere

not_above_same : (o p : Option ℤ) → o ≡ p → NotAbove o p
not_above_same None p e = tt
not_above_same (Some a) p e = subst (NotAbove (Some a)) e (le_self a)

not_below_same : (o p : Option ℤ) → o ≡ p → NotBelow o p
not_below_same None p e = tt
not_below_same (Some a) p e = subst (NotBelow (Some a)) e (le_self a)

module _ (ls : List Limit) (along : AreAlong ls) (h : List Range) (one : length h ≡ 1) (holds : may_hold h ls ≡ true) where
  in_one : may_hold (range_at h 0 ∷ []) ls ≡ true
  in_one = subst (λ rs. may_hold rs ls ≡ true) (one_range h one) holds

  wider : (x : Range) (e : ReachEntry) → IsSegment e → IsPart x (first_range e) → may_hold (x ∷ []) ls ≡ true → may_hold e.reach ls ≡ true
  wider x e s p k = subst (λ rs. may_hold rs ls ≡ true) (sym (one_range e.reach s.one)) (may_hold_wider (x ∷ []) (first_range e ∷ []) ls (alone_within x (first_range e) p) k)

  -- the entry that reaches furthest
  early_one : (e : ReachEntry) → IsSegment e → IsEarly (floor_at ls along) e → (first_range e).high ≡ (range_at h 0).high → may_hold e.reach ls ≡ true
  early_one e s m is =
      let u = floor_at ls along in
      let x = from_unit u (range_at h 0) in
      wider x e s (record { low = low_early (first_range e).low (first_range e).high u s.ends m; high = not_below_same (first_range e).high (range_at h 0).high is })
      (all_held x (unit_alone u) (range_at h 0) (mixed_from u (range_at h 0)) ls along.single (unit_held ls along) in_one)

  late_one : (e : ReachEntry) → IsSegment e → IsLate (floor_at ls along) e → (first_range e).low ≡ (range_at h 0).low → may_hold e.reach ls ≡ true
  late_one e s m is =
      let u = floor_at ls along in
      let x = to_unit u (range_at h 0) in
      wider x e s (record { low = not_above_same (first_range e).low (range_at h 0).low is; high = high_late (first_range e).low (first_range e).high u s.ends m })
      (all_held x (unit_alone u) (range_at h 0) (mixed_to u (range_at h 0)) ls along.single (unit_held ls along) in_one)

  passing_later : (b : Bool) (i : ℕ) (is : List ℕ) → 1 ≤ length is → 1 ≤ length (cond b (i ∷ is) is)
  passing_later true i is k = omega arith
  passing_later false i is k = k

  passing_first : (b : Bool) (i : ℕ) (is : List ℕ) → b ≡ true → 1 ≤ length (cond b (i ∷ is) is)
  passing_first true i is k = omega arith
  passing_first false i is k = absurd (true≢false (sym k))

  early_found : (es : List ReachEntry) → AreSegments es → Every (IsEarly (floor_at ls along)) es → SomeOf (λ e. (first_range e).high ≡ (range_at h 0).high) es → 1 ≤ length (ids_in ls es)
  early_found [] s m k = absurd k
  early_found (e ∷ es) s m (inl k) = passing_first (may_hold e.reach ls) e.id (ids_in ls es) (early_one e s.0 m.0 k)
  early_found (e ∷ es) s m (inr k) = passing_later (may_hold e.reach ls) e.id (ids_in ls es) (early_found es s.1 m.1 k)

  late_found : (es : List ReachEntry) → AreSegments es → Every (IsLate (floor_at ls along)) es → SomeOf (λ e. (first_range e).low ≡ (range_at h 0).low) es → 1 ≤ length (ids_in ls es)
  late_found [] s m k = absurd k
  late_found (e ∷ es) s m (inl k) = passing_first (may_hold e.reach ls) e.id (ids_in ls es) (late_one e s.0 m.0 k)
  late_found (e ∷ es) s m (inr k) = passing_later (may_hold e.reach ls) e.id (ids_in ls es) (late_found es s.1 m.1 k)

-- all middles lie on one side of the units
abbrev pub IsAside : ℤ → List ReachEntry → Type 0
IsAside v es = Every (IsEarly v) es ⊎ Every (IsLate v) es

-- where the hull passes, some entry is found
pub aside_found : (ls : List Limit) (along : AreAlong ls) (h : List Range) (es : List ReachEntry) → IsHull h es → may_hold h ls ≡ true → AreSegments es → IsAside (floor_at ls along) es → 1 ≤ length (ids_in ls es)
aside_found ls along h es k m s (inl a) = early_found ls along h k.one m es s a k.high
aside_found ls along h es k m s (inr a) = late_found ls along h k.one m es s a k.low

-- of two lists, one before the other, one lies aside
pub one_aside : (v : ℤ) (ds es : List ReachEntry) → AreBefore ds es → Every (IsEarly v) ds ⊎ Every (IsLate v) es
one_aside v [] es b = inl tt
one_aside v (d ∷ ds) es b = by (int_le (middle (first_range d)) ((v +ℤ v) +ℤ pos 1)) refl (one_aside v ds es b.1)
  where
    le_of : (x y : ℤ) → int_le x y ≡ true → x ≤ℤ y
    le_of x y e = of_le_true x y e

    past : (x y z : ℤ) → int_le x y ≡ false → x ≤ℤ z → y ≤ℤ z
    past x y z e h = omega (arith, ints)

    late : (xs : List ReachEntry) → int_le (middle (first_range d)) ((v +ℤ v) +ℤ pos 1) ≡ false → Every (NotLater d) xs → Every (IsLate v) xs
    late [] e h = tt
    late (x ∷ xs) e h = (past (middle (first_range d)) ((v +ℤ v) +ℤ pos 1) (middle (first_range x)) e h.0, late xs e h.1)

    by : (b : Bool) → int_le (middle (first_range d)) ((v +ℤ v) +ℤ pos 1) ≡ b → Every (IsEarly v) ds ⊎ Every (IsLate v) es → Every (IsEarly v) (d ∷ ds) ⊎ Every (IsLate v) es
    by true e (inl k) = inl (le_of (middle (first_range d)) ((v +ℤ v) +ℤ pos 1) e, k)
    by true e (inr k) = inr k
    by false e k = inr (late es e b.0)

pub aside_left : (v : ℤ) (ds es : List ReachEntry) → IsAside v (ds ++ es) → IsAside v ds
aside_left v ds es (inl k) = inl (every-left (IsEarly v) ds es k)
aside_left v ds es (inr k) = inr (every-left (IsLate v) ds es k)

pub aside_right : (v : ℤ) (ds es : List ReachEntry) → IsAside v (ds ++ es) → IsAside v es
aside_right v ds es (inl k) = inl (every-right (IsEarly v) ds es k)
aside_right v ds es (inr k) = inr (every-right (IsLate v) ds es k)

-- ---- in order

pub every_moved : (P : ReachEntry → Type 0) (xs ys : List ReachEntry) → IsPermutation xs ys → Every P xs → Every P ys
every_moved P xs ys p h = all_every P ys (All-permutation P xs ys p (every_all P xs h))

unfoldable pub is_before : ReachEntry → ReachEntry → Bool
is_before d e = is_lt (middle_order 0 d e)

pub entries_ranked : IsStrictWeakOrder is_before
unfolding is_before
entries_ranked = record {
  one_way = λ a b h. one_way (middle (first_range a)) (middle (first_range b)) h;
  chain = λ a b c h k. chain (middle (first_range a)) (middle (first_range b)) (middle (first_range c)) h k;
}
  where
    one_way : (x y : ℤ) → is_lt (int_cmp x y) ≡ true → is_lt (int_cmp y x) ≡ false
    one_way x y h = grind (arith, ints)

    chain : (x y z : ℤ) → is_lt (int_cmp x y) ≡ false → is_lt (int_cmp y z) ≡ false → is_lt (int_cmp x z) ≡ false
    chain x y z h k = grind (arith, ints)

not_later : (x y : ℤ) → is_lt (int_cmp y x) ≡ false → x ≤ℤ y
not_later x y h = grind (arith, ints)

all_later : (e : ReachEntry) (es : List ReachEntry) → ((j : ℕ) (d : ReachEntry) → j < length es → is_before (get_or es j d) e ≡ false) → Every (NotLater e) es
unfolding is_before
all_later e [] h = tt
all_later e (x ∷ es) h = (not_later (middle (first_range e)) (middle (first_range x)) (h zero x (omega arith)), all_later e es (λ j d l. h (suc j) d (omega arith)))

in_order_from : (es : List ReachEntry) → ((i j : ℕ) (d : ReachEntry) → i ≤ j → j < length es → is_before (get_or es j d) (get_or es i d) ≡ false) → InOrder es
in_order_from [] h = tt
in_order_from (e ∷ es) h = (all_later e es (λ j d l. h zero (suc j) d (omega arith) (omega arith)), in_order_from es (λ i j d a l. h (suc i) (suc j) d (omega arith) (omega arith)))

pub in_order : (es : List ReachEntry) → IsSortedBy is_before es → InOrder es
in_order es s = in_order_from es (λ i j d a l. sorted_far is_before entries_ranked es s i j d a l)

pub inorder-left : (ds es : List ReachEntry) → InOrder (ds ++ es) → InOrder ds
inorder-left [] es h = tt
inorder-left (d ∷ ds) es h = (every-left (NotLater d) ds es h.0, inorder-left ds es h.1)

pub inorder-right : (ds es : List ReachEntry) → InOrder (ds ++ es) → InOrder es
inorder-right [] es h = h
inorder-right (d ∷ ds) es h = inorder-right ds es h.1

pub inorder-before : (ds es : List ReachEntry) → InOrder (ds ++ es) → AreBefore ds es
inorder-before [] es h = tt
inorder-before (d ∷ ds) es h = (every-right (NotLater d) ds es h.0, inorder-before ds es h.1)

-- in other orders
each_moved : (xs ys : List ReachEntry) → IsPermutation xs ys → (ds : List ReachEntry) → AreBefore ds xs → AreBefore ds ys
each_moved xs ys p [] h = tt
each_moved xs ys p (d ∷ ds) h = (every_moved (NotLater d) xs ys p h.0, each_moved xs ys p ds h.1)

pub before_moved : (ds es xs ys : List ReachEntry) → IsPermutation ds xs → IsPermutation es ys → AreBefore ds es → AreBefore xs ys
before_moved ds es xs ys p q h = each_moved es ys q xs (every_moved (λ d. Every (NotLater d) es) ds xs p h)
