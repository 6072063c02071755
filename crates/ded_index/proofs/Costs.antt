-- How many steps a visit takes, by induction on the height of the range.
--
-- Say k entries are near and the range has height h. Where all entries begin before the window ends, a visit takes at most
-- 2 k h + 1 steps: with k = 0 the greatest end is before the window, and the visit stops at its first node; else the two halves
-- take 2 k' (h - 1) + 1 and 2 k'' (h - 1) + 1 steps, and k is at least 1. In general it takes at most 2 k h + 2 h: where the node
-- begins before the window ends, all of the left half does, else only the left half is visited.
use Rattle.std.proofs.Common.{◌≡◌, ℕ, zero, suc, ◌+◌, ◌*◌, ◌^◌, ◌<◌, ◌≤◌, ◌/◌, ◌-◌, min, true, cond, List, ◌∷◌, length, take, drop, arith, sym, ap, ◌∙◌, subst}
use Rattle.std.proofs.lemmas.List.{length-take, length-drop}
use Rattle.std.specs.List.{AllByRecursion}
use Rattle.ded_box.specs.Intervals.{may_meet, has_value, intervals_meet}
use Rattle.ded_box.specs.Boxes.{AreIntervals}
use Rattle.ded_index.specs.declared.tree.BoxNode.{BoxNode}
use Rattle.ded_index.specs.Entries.{Box, first_of, near_first}
use Rattle.ded_index.specs.Trees.{entries_of, AreFull}
use Rattle.ded_index.specs.Costs.{Begins, IsCost}
use Rattle.ded_index.proofs.Members.{all-left, all-right, near_first-append, entries_of-length}
use Rattle.ded_index.proofs.Pruning.{IsRound, some_near, left_begins}

-- ---- numbers

nothing_below : (n : ℕ) → 0 < n → n < 2 ^ zero → ⊥
nothing_below n p h = omega arith

half_left : (n h : ℕ) → n < 2 ^ suc h → n / 2 < 2 ^ h
half_left n h l = omega arith

half_right : (n h r : ℕ) → 0 < n → n / 2 + 1 + r ≡ n → n < 2 ^ suc h → r < 2 ^ h
half_right n h r p e l = omega arith

-- with a near entries on the left, b at the node and c on the right
two_any : (a b c h s t u : ℕ) → t ≤ s + 1 + (2 * (a * h) + 1) → u ≤ t + (2 * (c * h) + 2 * h) → u ≤ s + (2 * ((a + (b + c)) * suc h) + 2 * suc h)
two_any a b c h s t u x y = omega arith

two_begun : (a b c h s t u : ℕ) → 1 ≤ a + (b + c) → t ≤ s + 1 + (2 * (a * h) + 1) → u ≤ t + (2 * (c * h) + 1) → u ≤ s + (2 * ((a + (b + c)) * suc h) + 1)
two_begun a b c h s t u k x y = omega arith

one_begun : (a b c h s t : ℕ) → t ≤ s + 1 + (2 * (a * h) + 1) → t ≤ s + (2 * ((a + (b + c)) * suc h) + 2 * suc h)
one_begun a b c h s t x = omega arith

one_any : (a b c h s t : ℕ) → t ≤ s + 1 + (2 * (a * h) + 2 * h) → t ≤ s + (2 * ((a + (b + c)) * suc h) + 2 * suc h)
one_any a b c h s t x = omega arith

one_of_begun : (a b c h s t : ℕ) → 1 ≤ a + (b + c) → t ≤ s + 1 + (2 * (a * h) + 1) → t ≤ s + (2 * ((a + (b + c)) * suc h) + 1)
one_of_begun a b c h s t k x = omega arith

-- ---- visits

-- of nothing
pub cost_none : (w : Box) (ns : List BoxNode) (s : ℕ) → IsCost w (entries_of ns) s s
cost_none w ns s = record { any = λ h l. omega arith; begun = λ a h l. omega arith }

-- of one node
pub cost_dead : (w : Box) (ns : List BoxNode) (s : ℕ) → 0 < length ns → IsCost w (entries_of ns) s (s + 1)
cost_dead w ns s p = record {
  any = λ h l. by_height h (subst (λ k. k < 2 ^ h) (entries_of-length ns) l);
  begun = λ a h l. omega arith;
}
  where
    by_height : (h : ℕ) → length ns < 2 ^ h → s + 1 ≤ s + (2 * (near_first w (entries_of ns) * h) + 2 * h)
    by_height zero l = absurd (nothing_below (length ns) p l)
    by_height (suc h) l = at_least s (2 * (near_first w (entries_of ns) * suc h)) h
      where
        at_least : (s x h : ℕ) → s + 1 ≤ s + (x + 2 * suc h)
        at_least s x h = omega arith

-- the ranges beside the node are of lesser height
pub record AreHalves (ns ls rs : List BoxNode) : Type 0 where
  pub some : 0 < length ns
  pub left : length ls ≡ length ns / 2
  pub right : length ns / 2 + 1 + length rs ≡ length ns

pub halves : (ns : List BoxNode) → 0 < length ns → AreHalves ns (take (length ns / 2) ns) (drop (length ns / 2 + 1) ns)
halves ns p = record { some = p; left = simp length-take (min_half (length ns)); right = simp length-drop (rest (length ns) p) }
  where
    min_half : (k : ℕ) → min (k / 2) k ≡ k / 2
    min_half k = omega arith

    rest : (k : ℕ) → 0 < k → k / 2 + 1 + (k - (k / 2 + 1)) ≡ k
    rest k h = omega arith

module _ (w : Box) (ns : List BoxNode) (n : BoxNode) (ls rs : List BoxNode) (half : AreHalves ns ls rs) (round : IsRound ns n ls rs) (iw : AreIntervals w) where
  -- near entries on the left, at the node and on the right
  near_split : near_first w (entries_of ns) ≡ near_first w (entries_of ls) + (cond (intervals_meet (first_of n.entry.bounds) (first_of w)) 1 0 + near_first w (entries_of rs))
  near_split = ap (near_first w) round.split ∙ near_first-append w (entries_of ls) (n.entry ∷ entries_of rs)

  left_low : (h : ℕ) → length (entries_of ns) < 2 ^ suc h → length (entries_of ls) < 2 ^ h
  left_low h l = subst (λ k. k < 2 ^ h) (sym (entries_of-length ls ∙ half.left)) (half_left (length ns) h (subst (λ k. k < 2 ^ suc h) (entries_of-length ns) l))

  right_low : (h : ℕ) → length (entries_of ns) < 2 ^ suc h → length (entries_of rs) < 2 ^ h
  right_low h l = subst (λ k. k < 2 ^ h) (sym (entries_of-length rs)) (half_right (length ns) h (length rs) half.some half.right (subst (λ k. k < 2 ^ suc h) (entries_of-length ns) l))

  too_low : {A : Type 0} → length (entries_of ns) < 2 ^ zero → A
  too_low l = absurd (nothing_below (length ns) half.some (subst (λ k. k < 2 ^ zero) (entries_of-length ns) l))

  -- all of the left half begin where all do
  all_left : AllByRecursion (Begins w) (entries_of ns) → AllByRecursion (Begins w) (entries_of ls)
  all_left a = all-left (Begins w) (entries_of ls) (n.entry ∷ entries_of rs) (subst (AllByRecursion (Begins w)) round.split a)

  all_right : AllByRecursion (Begins w) (entries_of ns) → AllByRecursion (Begins w) (n.entry ∷ entries_of rs)
  all_right a = all-right (Begins w) (entries_of ls) (n.entry ∷ entries_of rs) (subst (AllByRecursion (Begins w)) round.split a)

  near_some : has_value (first_of w) ≡ true → AreFull (entries_of ns) → may_meet (first_of w).0 n.end ≡ true → AllByRecursion (Begins w) (entries_of ns)
      → 1 ≤ near_first w (entries_of ls) + (cond (intervals_meet (first_of n.entry.bounds) (first_of w)) 1 0 + near_first w (entries_of rs))
  near_some hw full m a = subst (λ k. 1 ≤ k) near_split (some_near w (entries_of ns) n.end hw full a round.greatest.attained m)

  -- the left half, whether or not more is visited
  left_any : (s t : ℕ) → IsCost w (entries_of ls) (s + 1) t → (h : ℕ) → length (entries_of ns) < 2 ^ h → t ≤ s + (2 * (near_first w (entries_of ns) * h) + 2 * h)
  left_any s t c zero l = too_low l
  left_any s t c (suc h) l = subst (λ k. t ≤ s + (2 * (k * suc h) + 2 * suc h)) (sym near_split)
      (one_any (near_first w (entries_of ls)) _ (near_first w (entries_of rs)) h s t (c.any h (left_low h l)))

  left_begun : (s t : ℕ) → IsCost w (entries_of ls) (s + 1) t → has_value (first_of w) ≡ true → AreFull (entries_of ns) → may_meet (first_of w).0 n.end ≡ true → AllByRecursion (Begins w) (entries_of ns)
      → (h : ℕ) → length (entries_of ns) < 2 ^ h → t ≤ s + (2 * (near_first w (entries_of ns) * h) + 1)
  left_begun s t c hw full m a zero l = too_low l
  left_begun s t c hw full m a (suc h) l = subst (λ k. t ≤ s + (2 * (k * suc h) + 1)) (sym near_split)
      (one_of_begun (near_first w (entries_of ls)) _ (near_first w (entries_of rs)) h s t (near_some hw full m a) (c.begun (all_left a) h (left_low h l)))

  pub cost_left : (s t : ℕ) → has_value (first_of w) ≡ true → AreFull (entries_of ns) → may_meet (first_of w).0 n.end ≡ true → IsCost w (entries_of ls) (s + 1) t → IsCost w (entries_of ns) s t
  cost_left s t hw full m c = record { any = left_any s t c; begun = λ a. left_begun s t c hw full m a }

  -- both halves
  both_any : (s t u : ℕ) → Begins w n.entry → IsCost w (entries_of ls) (s + 1) t → IsCost w (entries_of rs) t u → (h : ℕ) → length (entries_of ns) < 2 ^ h → u ≤ s + (2 * (near_first w (entries_of ns) * h) + 2 * h)
  both_any s t u b c d zero l = too_low l
  both_any s t u b c d (suc h) l = subst (λ k. u ≤ s + (2 * (k * suc h) + 2 * suc h)) (sym near_split)
      (two_any (near_first w (entries_of ls)) _ (near_first w (entries_of rs)) h s t u
      (c.begun (left_begins w n.entry (entries_of ls) iw round.sound round.left.sound round.before b) h (left_low h l)) (d.any h (right_low h l)))

  both_begun : (s t u : ℕ) → IsCost w (entries_of ls) (s + 1) t → IsCost w (entries_of rs) t u → has_value (first_of w) ≡ true → AreFull (entries_of ns) → may_meet (first_of w).0 n.end ≡ true → AllByRecursion (Begins w) (entries_of ns)
      → (h : ℕ) → length (entries_of ns) < 2 ^ h → u ≤ s + (2 * (near_first w (entries_of ns) * h) + 1)
  both_begun s t u c d hw full m a zero l = too_low l
  both_begun s t u c d hw full m a (suc h) l = subst (λ k. u ≤ s + (2 * (k * suc h) + 1)) (sym near_split)
      (two_begun (near_first w (entries_of ls)) _ (near_first w (entries_of rs)) h s t u (near_some hw full m a)
      (c.begun (all_left a) h (left_low h l)) (d.begun (all_right a).1 h (right_low h l)))

  pub cost_both : (s t u : ℕ) → has_value (first_of w) ≡ true → AreFull (entries_of ns) → may_meet (first_of w).0 n.end ≡ true → Begins w n.entry → IsCost w (entries_of ls) (s + 1) t → IsCost w (entries_of rs) t u → IsCost w (entries_of ns) s u
  cost_both s t u hw full m b c d = record { any = both_any s t u b c d; begun = λ a. both_begun s t u c d hw full m a }
