-- How many nodes a look-up looks at in a tree of segments, by induction on how often the list is halved.
--
-- Limits that some value meets let few nodes pass in which nothing is found: where all middles lie on one side of the value, the entry
-- that reaches furthest towards it is found in each hull that passes. Of two halves one lies aside, so with k entries found in a
-- list that is halved h times at most 2 k h + 1 nodes are looked at where it lies aside, and 2 (k + 1) h + 1 in general.
use Rattle.std.proofs.Common.{◌≡◌, ℕ, zero, suc, ◌+◌, ◌*◌, ◌/◌, ◌^◌, ◌<◌, ◌≤◌, Bool, true, false, cond, Option, Some, None, List, [], ◌∷◌, ◌++◌, length, take, drop, get_or, ◌⊎◌, inl, inr, arith, refl, sym, ap, ap₂, ◌∙◌, subst, true≢false, append_assoc, append-nil, length-append}
use Rattle.std.specs.Prelude.{ℤ, int_lt, is_some}
use Rattle.std.specs.List.{slice_get}
use Rattle.std.specs.Option.{unwrap_or}
use Rattle.std.proofs.lemmas.List.{drop_at}
use Rattle.std.specs.List.Sorted.{IsPermutation}
use Rattle.std.proofs.lemmas.List.Sorted.{length_permutation, IsPermutation-sym}
use Rattle.ded_model.proofs.Lists.{Some as SomeOf, every-append, every-left, every-right, some-left, some-right}
use Rattle.ded_ranges.specs.declared.reach.Range.{Range}
use Rattle.ded_ranges.specs.declared.limit.Limit.{Limit}
use Rattle.ded_hull.specs.declared.entry.ReachEntry.{ReachEntry}
use Rattle.ded_hull.specs.declared.tree.HullNode.{HullNode}
use Rattle.ded_ranges.specs.Reaches.{range_at, lower_of, higher_of, joined, hull}
use Rattle.ded_ranges.specs.Limits.{may_hold}
use Rattle.ded_hull.specs.Entries.{ids_in}
use Rattle.ded_hull.specs.Segments.{first_range, IsSegment, AreSegments, InOrder, IsHull, IsFirst}
use Rattle.ded_hull.specs.Trees.{IsLeaf, IsFork, IsHalved, IsBalanced, AreNarrow, HullsJoined, looked_at, AreAlong, IsCost}
use Rattle.ded_hull.proofs.Found.{ids_in-append}
use Rattle.ded_ranges.proofs.Taken.{taken_more}
use Rattle.ded_ranges.proofs.Widened.{hull-length}
use Rattle.ded_hull.proofs.Middles.{floor_at, IsAside, aside_found, one_aside, aside_left, aside_right, every_moved, inorder-left, inorder-right, inorder-before, before_moved}

-- ---- nodes that are passed over

pub looked_past : (ls : List Limit) (k : ℕ) (ns : List HullNode) → looked_at ls k ns ≡ looked_at ls 0 (drop k ns)
looked_past ls zero ns = refl
looked_past ls (suc k) [] = refl
looked_past ls (suc k) (n ∷ ns) = looked_past ls k ns

-- a node that doesn't pass
pub looked_over : (ls : List Limit) (n : HullNode) (ns : List HullNode) → may_hold n.hull ls ≡ false → looked_at ls 0 (n ∷ ns) ≡ 1 + looked_at ls 0 (drop n.below ns)
looked_over ls n ns f = ap (λ b. 1 + looked_at ls (cond b 0 n.below) ns) f ∙ ap (λ k. 1 + k) (looked_past ls n.below ns)

-- a node that passes
pub looked_into : (ls : List Limit) (n : HullNode) (ns : List HullNode) → may_hold n.hull ls ≡ true → looked_at ls 0 (n ∷ ns) ≡ 1 + looked_at ls 0 ns
looked_into ls n ns f = ap (λ b. 1 + looked_at ls (cond b 0 n.below) ns) f

-- a node with none below it
pub looked_leaf : (ls : List Limit) (n : HullNode) (ns : List HullNode) → n.below ≡ 0 → looked_at ls 0 (n ∷ ns) ≡ 1 + looked_at ls 0 ns
looked_leaf ls n ns e = ap (λ k. 1 + looked_at ls (cond (may_hold n.hull ls) 0 k) ns) e ∙ ap (λ k. 1 + looked_at ls k ns) (same (may_hold n.hull ls) 0)
  where
    same : (b : Bool) (k : ℕ) → cond b k k ≡ k
    same true k = refl
    same false k = refl

pub narrow_behind : (k : ℕ) (ns : List HullNode) → AreNarrow ns → AreNarrow (drop k ns)
narrow_behind zero ns a = a
narrow_behind (suc k) [] a = a
narrow_behind (suc k) (n ∷ ns) a = narrow_behind k ns a.1

-- ---- a tree before others

module _ (ls : List Limit) where
  add_swap : (a b c : ℕ) → 1 + (a + (b + c)) ≡ 1 + (a + b) + c
  add_swap a b c = omega arith

  module _ (n : HullNode) (first second : List HullNode) (below : n.below ≡ length first + length second) where
    behind_both : (rest : List HullNode) → drop n.below ((first ++ second) ++ rest) ≡ rest
    behind_both rest = drop_at (first ++ second) rest n.below (length-append first second ∙ sym below)

    fork_over : (rest : List HullNode) → may_hold n.hull ls ≡ false → looked_at ls 0 (n ∷ ((first ++ second) ++ rest)) ≡ 1 + looked_at ls 0 rest
    fork_over rest f = looked_over ls n ((first ++ second) ++ rest) f ∙ ap (λ ks. 1 + looked_at ls 0 ks) (behind_both rest)

    fork_alone : may_hold n.hull ls ≡ false → looked_at ls 0 (n ∷ (first ++ second)) ≡ 1
    fork_alone f = ap (λ ks. looked_at ls 0 (n ∷ ks)) (sym (append-nil (first ++ second))) ∙ fork_over [] f

    module _ (front : (rest : List HullNode) → looked_at ls 0 (first ++ rest) ≡ looked_at ls 0 first + looked_at ls 0 rest) (back : (rest : List HullNode) → looked_at ls 0 (second ++ rest) ≡ looked_at ls 0 second + looked_at ls 0 rest) where
      fork_into : may_hold n.hull ls ≡ true → looked_at ls 0 (n ∷ (first ++ second)) ≡ 1 + (looked_at ls 0 first + looked_at ls 0 second)
      fork_into f = looked_into ls n (first ++ second) f ∙ ap (λ k. 1 + k) (front second)

      fork_append : (rest : List HullNode) (b : Bool) → may_hold n.hull ls ≡ b → looked_at ls 0 (n ∷ ((first ++ second) ++ rest)) ≡ looked_at ls 0 (n ∷ (first ++ second)) + looked_at ls 0 rest
      fork_append rest true f =
          looked_into ls n ((first ++ second) ++ rest) f ∙ ap (λ ks. 1 + looked_at ls 0 ks) (append_assoc first second rest) ∙ ap (λ k. 1 + k) (front (second ++ rest) ∙ ap (λ k. looked_at ls 0 first + k) (back rest))
          ∙ add_swap (looked_at ls 0 first) (looked_at ls 0 second) (looked_at ls 0 rest) ∙ ap (λ k. k + looked_at ls 0 rest) (sym (fork_into f))
      fork_append rest false f = fork_over rest f ∙ ap (λ k. k + looked_at ls 0 rest) (sym (fork_alone f))

  leaf_append : (ns : List HullNode) (es : List ReachEntry) → IsLeaf ns es → (rest : List HullNode) → looked_at ls 0 (ns ++ rest) ≡ looked_at ls 0 ns + looked_at ls 0 rest
  leaf_append ns es l rest =
      ap (λ ks. looked_at ls 0 (ks ++ rest)) l.alone ∙ looked_leaf ls l.node rest l.below ∙ ap (λ k. k + looked_at ls 0 rest) (sym (ap (λ ks. looked_at ls 0 ks) l.alone ∙ looked_leaf ls l.node [] l.below))

  looked-append : (h : ℕ) (ns : List HullNode) (es : List ReachEntry) → IsHalved h ns es → (rest : List HullNode) → looked_at ls 0 (ns ++ rest) ≡ looked_at ls 0 ns + looked_at ls 0 rest
  looked-append zero ns es l rest = leaf_append ns es l rest
  looked-append (suc h) ns es (inl l) rest = leaf_append ns es l rest
  looked-append (suc h) ns es (inr f) rest =
      ap (λ ks. looked_at ls 0 (ks ++ rest)) f.nodes
      ∙ fork_append f.node f.first f.second f.below (looked-append h f.first f.left f.front) (looked-append h f.second f.right f.back) rest (may_hold f.node.hull ls) refl
      ∙ ap (λ ks. looked_at ls 0 ks + looked_at ls 0 rest) (sym f.nodes)

  -- ---- costs

  abbrev pub found_in : List ReachEntry → ℕ
  found_in es = length (ids_in ls es)

  found-append : (xs ys : List ReachEntry) → found_in (xs ++ ys) ≡ found_in xs + found_in ys
  found-append xs ys = ap (λ (is : List ℕ). length is) (ids_in-append ls xs ys) ∙ length-append (ids_in ls xs) (ids_in ls ys)

  leaf_cost : (ns : List HullNode) (es : List ReachEntry) → IsLeaf ns es → looked_at ls 0 ns ≡ 1
  leaf_cost ns es l = ap (λ ks. looked_at ls 0 ks) l.alone ∙ looked_leaf ls l.node [] l.below

  at_most_one : (a b : ℕ) → a ≡ 1 → a ≤ 2 * b + 1
  at_most_one a b e = omega arith

  two_aside : (a b c i j h : ℕ) → 1 ≤ i + j → a ≡ 1 + (b + c) → b ≤ 2 * (i * h) + 1 → c ≤ 2 * (j * h) + 1 → a ≤ 2 * ((i + j) * suc h) + 1
  two_aside a b c i j h s e k l = omega arith

  left_aside : (a b c i j h : ℕ) → a ≡ 1 + (b + c) → b ≤ 2 * (i * h) + 1 → c ≤ 2 * ((j + 1) * h) + 1 → a ≤ 2 * ((i + j + 1) * suc h) + 1
  left_aside a b c i j h e k l = omega arith

  right_aside : (a b c i j h : ℕ) → a ≡ 1 + (b + c) → b ≤ 2 * ((i + 1) * h) + 1 → c ≤ 2 * (j * h) + 1 → a ≤ 2 * ((i + j + 1) * suc h) + 1
  right_aside a b c i j h e k l = omega arith

  module _ (along : AreAlong ls) where
    module _ (h : ℕ) (ns : List HullNode) (es : List ReachEntry) (f : IsFork (IsHalved h) ns es) (s : AreSegments es) where
      own : AreSegments (f.left ++ f.right)
      own = subst AreSegments f.entries s

      on_left : AreSegments f.left
      on_left = every-left IsSegment f.left f.right own

      on_right : AreSegments f.right
      on_right = every-right IsSegment f.left f.right own

      split : found_in es ≡ found_in f.left + found_in f.right
      split = ap (λ xs. found_in xs) f.entries ∙ found-append f.left f.right

      passed_over : (k : ℕ) → may_hold f.node.hull ls ≡ false → looked_at ls 0 ns ≤ 2 * k + 1
      passed_over k e = at_most_one (looked_at ls 0 ns) k (ap (λ ks. looked_at ls 0 ks) f.nodes ∙ fork_alone f.node f.first f.second f.below e)

      both : may_hold f.node.hull ls ≡ true → looked_at ls 0 ns ≡ 1 + (looked_at ls 0 f.first + looked_at ls 0 f.second)
      both e = ap (λ ks. looked_at ls 0 ks) f.nodes ∙ fork_into f.node f.first f.second f.below (looked-append h f.first f.left f.front) (looked-append h f.second f.right f.back) e

      fork_aside : IsAside (floor_at ls along) es → looked_at ls 0 f.first ≤ 2 * (found_in f.left * h) + 1 → looked_at ls 0 f.second ≤ 2 * (found_in f.right * h) + 1 → (b : Bool) → may_hold f.node.hull ls ≡ b → looked_at ls 0 ns ≤ 2 * (found_in es * suc h) + 1
      fork_aside a k l false e = passed_over (found_in es * suc h) e
      fork_aside a k l true e =
          subst (λ i. looked_at ls 0 ns ≤ 2 * (i * suc h) + 1) (sym split)
          (two_aside (looked_at ls 0 ns) (looked_at ls 0 f.first) (looked_at ls 0 f.second) (found_in f.left) (found_in f.right) h (subst (λ i. 1 ≤ i) split (aside_found ls along f.node.hull es f.ends e s a)) (both e) k l)

      fork_any : ((e : IsAside (floor_at ls along) f.left) → looked_at ls 0 f.first ≤ 2 * (found_in f.left * h) + 1) → ((e : IsAside (floor_at ls along) f.right) → looked_at ls 0 f.second ≤ 2 * (found_in f.right * h) + 1)
          → looked_at ls 0 f.first ≤ 2 * ((found_in f.left + 1) * h) + 1 → looked_at ls 0 f.second ≤ 2 * ((found_in f.right + 1) * h) + 1 → (b : Bool) → may_hold f.node.hull ls ≡ b → looked_at ls 0 ns ≤ 2 * ((found_in es + 1) * suc h) + 1
      fork_any x y k l false e = passed_over ((found_in es + 1) * suc h) e
      fork_any x y k l true e =
          subst (λ i. looked_at ls 0 ns ≤ 2 * ((i + 1) * suc h) + 1) (sym split)
          (elim (one_aside (floor_at ls along) f.left f.right f.before) [
            | inl m ↦ left_aside (looked_at ls 0 ns) (looked_at ls 0 f.first) (looked_at ls 0 f.second) (found_in f.left) (found_in f.right) h (both e) (x (inl m)) l
            | inr m ↦ right_aside (looked_at ls 0 ns) (looked_at ls 0 f.first) (looked_at ls 0 f.second) (found_in f.left) (found_in f.right) h (both e) k (y (inr m))
          ])

    cost_aside : (h : ℕ) (ns : List HullNode) (es : List ReachEntry) → IsHalved h ns es → AreSegments es → IsAside (floor_at ls along) es → looked_at ls 0 ns ≤ 2 * (found_in es * h) + 1
    cost_aside zero ns es l s a = at_most_one (looked_at ls 0 ns) (found_in es * 0) (leaf_cost ns es l)
    cost_aside (suc h) ns es (inl l) s a = at_most_one (looked_at ls 0 ns) (found_in es * suc h) (leaf_cost ns es l)
    cost_aside (suc h) ns es (inr f) s a =
        let side : IsAside (floor_at ls along) (f.left ++ f.right) = subst (IsAside (floor_at ls along)) f.entries a in
        fork_aside h ns es f s a (cost_aside h f.first f.left f.front (on_left h ns es f s) (aside_left (floor_at ls along) f.left f.right side)) (cost_aside h f.second f.right f.back (on_right h ns es f s) (aside_right (floor_at ls along) f.left f.right side)) (may_hold f.node.hull ls) refl

    pub cost_any : (h : ℕ) (ns : List HullNode) (es : List ReachEntry) → IsHalved h ns es → AreSegments es → looked_at ls 0 ns ≤ 2 * ((found_in es + 1) * h) + 1
    cost_any zero ns es l s = at_most_one (looked_at ls 0 ns) ((found_in es + 1) * 0) (leaf_cost ns es l)
    cost_any (suc h) ns es (inl l) s = at_most_one (looked_at ls 0 ns) ((found_in es + 1) * suc h) (leaf_cost ns es l)
    cost_any (suc h) ns es (inr f) s =
        fork_any h ns es f s (λ a. cost_aside h f.first f.left f.front (on_left h ns es f s) a) (λ a. cost_aside h f.second f.right f.back (on_right h ns es f s) a) (cost_any h f.first f.left f.front (on_left h ns es f s)) (cost_any h f.second f.right f.back (on_right h ns es f s)) (may_hold f.node.hull ls) refl

-- the hulls have one range each
pub halved_narrow : (h : ℕ) (ns : List HullNode) (es : List ReachEntry) → IsHalved h ns es → AreNarrow ns
halved_narrow zero ns es l = subst AreNarrow (sym l.alone) (l.ends.one, tt)
halved_narrow (suc h) ns es (inl l) = subst AreNarrow (sym l.alone) (l.ends.one, tt)
halved_narrow (suc h) ns es (inr f) = subst AreNarrow (sym f.nodes) (f.ends.one, every-append (λ n. length n.hull ≡ 1) f.first f.second (halved_narrow h f.first f.left f.front) (halved_narrow h f.second f.right f.back))

pub tree_cost : (ls : List Limit) (ns : List HullNode) (es : List ReachEntry) (s t : ℕ) → IsBalanced ns es → (AreNarrow ns → t ≤ s + 9 * looked_at ls 0 ns) → IsCost ls es s t
tree_cost ls ns es s t b c along segments some h few =
    let halved = b segments some h few in
    trans t s (looked_at ls 0 ns) (2 * ((length (ids_in ls es) + 1) * h) + 1) (c (halved_narrow h ns es halved)) (cost_any ls along h ns es halved segments)
  where
    trans : (t s a b : ℕ) → t ≤ s + 9 * a → a ≤ b → t ≤ s + 9 * b
    trans t s a b h k = omega arith

-- ---- hulls whose ends are ends of the entries

lower_one : (o p : Option ℤ) → (lower_of o p ≡ o) ⊎ (lower_of o p ≡ p)
lower_one None p = inl refl
lower_one (Some a) None = inr refl
lower_one (Some a) (Some b) = by (int_lt b a)
  where
    by : (c : Bool) → (cond c (Some b) (Some a) ≡ Some a) ⊎ (cond c (Some b) (Some a) ≡ Some b)
    by true = inr refl
    by false = inl refl

higher_one : (o p : Option ℤ) → (higher_of o p ≡ o) ⊎ (higher_of o p ≡ p)
higher_one None p = inl refl
higher_one (Some a) None = inr refl
higher_one (Some a) (Some b) = by (int_lt a b)
  where
    by : (c : Bool) → (cond c (Some b) (Some a) ≡ Some a) ⊎ (cond c (Some b) (Some a) ≡ Some b)
    by true = inr refl
    by false = inl refl

some_weaker : (P Q : ReachEntry → Type 0) (es : List ReachEntry) → ((e : ReachEntry) → P e → Q e) → SomeOf P es → SomeOf Q es
some_weaker P Q [] w h = absurd h
some_weaker P Q (e ∷ es) w (inl h) = inl (w e h)
some_weaker P Q (e ∷ es) w (inr h) = inr (some_weaker P Q es w h)

hull_at : (rs ss : List Range) → length rs ≡ 1 → length ss ≡ 1 → range_at (hull rs ss) 0 ≡ joined (range_at rs 0) (range_at ss 0)
hull_at [] ss e f = absurd (omega (arith, e))
hull_at (r ∷ rs) [] e f = absurd (omega (arith, f))
hull_at (r ∷ rs) (s ∷ ss) e f = refl

pub hulls_joined : (a b : List Range) (xs ys : List ReachEntry) → IsHull a xs → IsHull b ys → IsHull (hull a b) (xs ++ ys)
hulls_joined a b xs ys h k = record {
  one = hull-length a b ∙ h.one;
  low = elim (lower_one (range_at a 0).low (range_at b 0).low) [
    | inl e ↦ some-left (λ x. (first_range x).low ≡ (range_at (hull a b) 0).low) xs ys (some_weaker _ _ xs (λ x g. g ∙ sym (ap (λ (r : Range). r.low) at ∙ e)) h.low)
    | inr e ↦ some-right (λ x. (first_range x).low ≡ (range_at (hull a b) 0).low) xs ys (some_weaker _ _ ys (λ x g. g ∙ sym (ap (λ (r : Range). r.low) at ∙ e)) k.low)
  ];
  high = elim (higher_one (range_at a 0).high (range_at b 0).high) [
    | inl e ↦ some-left (λ x. (first_range x).high ≡ (range_at (hull a b) 0).high) xs ys (some_weaker _ _ xs (λ x g. g ∙ sym (ap (λ (r : Range). r.high) at ∙ e)) h.high)
    | inr e ↦ some-right (λ x. (first_range x).high ≡ (range_at (hull a b) 0).high) xs ys (some_weaker _ _ ys (λ x g. g ∙ sym (ap (λ (r : Range). r.high) at ∙ e)) k.high)
  ];
}
  where
    at : range_at (hull a b) 0 ≡ joined (range_at a 0) (range_at b 0)
    at = hull_at a b h.one k.one

pub hull_alone : (e : ReachEntry) → IsSegment e → IsHull e.reach (e ∷ [])
hull_alone e s = record { one = s.one; low = inl refl; high = inl refl }

-- with one entry more
pub hull_more : (old new : List Range) (xs es : List ReachEntry) (i : ℕ) (e : ReachEntry) → i < length es → get_or es i e ≡ e → new ≡ hull old e.reach → AreSegments (take (i + 1) es) → IsHull old (xs ++ take i es) → IsHull new (xs ++ take (i + 1) es)
hull_more old new xs es i e h is f s k =
    let more : take (i + 1) es ≡ take i es ++ e ∷ [] = taken_more es i e h ∙ ap (λ x. take i es ++ x ∷ []) is in
    let last : IsSegment e = (every-right IsSegment (take i es) (e ∷ []) (subst AreSegments more s)).0 in
    subst (λ ys. IsHull new (xs ++ ys)) (sym more) (subst (IsHull new) (append_assoc xs (take i es) (e ∷ [])) (subst (λ r. IsHull r ((xs ++ take i es) ++ e ∷ [])) (sym f) (hulls_joined old e.reach (xs ++ take i es) (e ∷ []) k (hull_alone e last))))

pub front_segments : (i : ℕ) (es : List ReachEntry) (e : ReachEntry) → i < length es → get_or es i e ≡ e → AreSegments (take (i + 1) es) → AreSegments (take i es)
front_segments i es e h is s = every-left IsSegment (take i es) (e ∷ []) (subst AreSegments (taken_more es i e h ∙ ap (λ x. take i es ++ x ∷ []) is) s)

-- of all, from that of the first
pub hull_whole : (first last : List Range) (es : List ReachEntry) → IsFirst first es → ((xs : List ReachEntry) → IsHull first xs → AreSegments es → IsHull last (xs ++ es)) → AreSegments es → 0 < length es → IsHull last es
hull_whole first last [] f c s h = absurd (omega (arith, h))
hull_whole first last (e ∷ es) f c s h =
    let whole : IsHull last (e ∷ (e ∷ es)) = c (e ∷ []) (subst (λ r. IsHull r (e ∷ [])) (sym f) (hull_alone e s.0)) s in
    record { one = whole.one; low = again (λ x. (first_range x).low ≡ (range_at last 0).low) whole.low; high = again (λ x. (first_range x).high ≡ (range_at last 0).high) whole.high }
  where
    again : (P : ReachEntry → Type 0) → SomeOf P (e ∷ (e ∷ es)) → SomeOf P (e ∷ es)
    again P (inl k) = inl k
    again P (inr k) = k

-- ---- a tree over two halves

first_hull : (h : ℕ) (n : HullNode) (ns : List HullNode) (es : List ReachEntry) → IsHalved h (n ∷ ns) es → IsHull n.hull es
first_hull zero n ns es l = subst (λ (k : HullNode). IsHull k.hull es) (sym (first_same n l.node ns [] l.alone)) l.ends
  where
    first_same : (n m : HullNode) (ns ms : List HullNode) → n ∷ ns ≡ m ∷ ms → n ≡ m
    first_same n m ns ms e = cc
first_hull (suc h) n ns es (inl l) = subst (λ (k : HullNode). IsHull k.hull es) (sym (first_same n l.node ns [] l.alone)) l.ends
  where
    first_same : (n m : HullNode) (ns ms : List HullNode) → n ∷ ns ≡ m ∷ ms → n ≡ m
    first_same n m ns ms e = cc
first_hull (suc h) n ns es (inr f) = subst (λ (k : HullNode). IsHull k.hull es) (sym (first_same n f.node ns (f.first ++ f.second) f.nodes)) f.ends
  where
    first_same : (n m : HullNode) (ns ms : List HullNode) → n ∷ ns ≡ m ∷ ms → n ≡ m
    first_same n m ns ms e = cc

-- the hull of two first nodes
pub joined_first : (ns ms : List HullNode) (a b : HullNode) (r : List Range) → Some a ≡ slice_get ns 0 → Some b ≡ slice_get ms 0 → r ≡ hull a.hull b.hull → HullsJoined ns ms r
joined_first [] ms a b r e f h = tt
joined_first (n ∷ ns) [] a b r e f h = tt
joined_first (n ∷ ns) (m ∷ ms) a b r e f h = h ∙ ap₂ (λ (x y : HullNode). hull x.hull y.hull) (ap (λ (o : Option HullNode). unwrap_or o a) e) (ap (λ (o : Option HullNode). unwrap_or o b) f)

-- there aren't two
pub joined_none : (ns ms : List HullNode) (r : List Range) → (slice_get ns 0 ≡ None) ⊎ (slice_get ms 0 ≡ None) → HullsJoined ns ms r
joined_none [] ms r e = tt
joined_none (n ∷ ns) [] r e = tt
joined_none (n ∷ ns) (m ∷ ms) r (inl e) = absurd (true≢false (ap is_some e))
joined_none (n ∷ ns) (m ∷ ms) r (inr e) = absurd (true≢false (ap is_some e))

-- a tree has a node
no_tree : (h : ℕ) (es : List ReachEntry) → IsHalved h [] es → ⊥
no_tree zero es l = omega (arith, ap (λ (ns : List HullNode). length ns) l.alone)
no_tree (suc h) es (inl l) = omega (arith, ap (λ (ns : List HullNode). length ns) l.alone)
no_tree (suc h) es (inr f) = omega (arith, ap (λ (ns : List HullNode). length ns) f.nodes)

over_halves : (h : ℕ) (ns ms : List HullNode) (xs ys : List ReachEntry) (r : List Range) → IsHalved h ns xs → IsHalved h ms ys → HullsJoined ns ms r → IsHull r (xs ++ ys)
over_halves h [] ms xs ys r t u j = absurd (no_tree h xs t)
over_halves h (n ∷ ns) [] xs ys r t u j = absurd (no_tree h ys u)
over_halves h (n ∷ ns) (m ∷ ms) xs ys r t u j = subst (λ rs. IsHull rs (xs ++ ys)) (sym j) (hulls_joined n.hull m.hull xs ys (first_hull h n ns xs t) (first_hull h m ms ys u))

-- what is promised of the nodes of a list of entries that stood in some order, and was halved from a level on
abbrev pub Promise : ℕ → List ReachEntry → List HullNode → List ReachEntry → Type 0
Promise level old ns new = AreSegments old → (0 < level → InOrder old) → 0 < length old → (h : ℕ) → length old ≤ 2 ^ h → IsHalved h ns new

pub promise_leaf : (level : ℕ) (es : List ReachEntry) (n : HullNode) (ns : List HullNode) → ns ≡ n ∷ [] → n.below ≡ 0 → (AreSegments es → 0 < length es → IsHull n.hull es) → Promise level es ns es
promise_leaf level es n ns e b k s o some h few = by h
  where
    leaf : IsLeaf ns es
    leaf = record { node = n; alone = e; below = b; ends = k s some }

    by : (h : ℕ) → IsHalved h ns es
    by zero = leaf
    by (suc h) = inl leaf

pub promise_fork : (level i j : ℕ) (old moved front back xs ys : List ReachEntry) (n : HullNode) (ns ms all : List HullNode) → 8 < length old → IsPermutation old moved → moved ≡ front ++ back → IsPermutation front xs → IsPermutation back ys → length front ≡ length old / 2
    → (AreSegments old → (0 < level → InOrder old) → InOrder moved) → all ≡ n ∷ (ns ++ ms) → n.below ≡ length ns + length ms → HullsJoined ns ms n.hull → Promise i front ns xs → Promise j back ms ys → Promise level old all (xs ++ ys)
promise_fork level i j old moved front back xs ys n ns ms all many p e q r half sorted f b joins first second s o some zero few = absurd (omega (arith, many, few))
promise_fork level i j old moved front back xs ys n ns ms all many p e q r half sorted f b joins first second s o some (suc h) few = inr (record {
  node = n;
  first = ns;
  second = ms;
  left = xs;
  right = ys;
  nodes = f;
  entries = refl;
  below = b;
  ends = over_halves h ns ms xs ys n.hull under behind joins;
  before = before_moved front back xs ys q r (inorder-before front back order);
  front = under;
  back = behind;
})
  where
    counts : length front + length back ≡ length old
    counts = sym (length-append front back) ∙ sym (ap (λ (es : List ReachEntry). length es) e) ∙ length_permutation old moved p

    segments : AreSegments (front ++ back)
    segments = subst AreSegments e (every_moved IsSegment old moved p s)

    order : InOrder (front ++ back)
    order = subst InOrder e (sorted s o)

    some_front : (a b c : ℕ) → 8 < c → a ≡ c / 2 → 0 < a
    some_front a b c k l = omega arith

    some_back : (a b c : ℕ) → 8 < c → a ≡ c / 2 → a + b ≡ c → 0 < b
    some_back a b c k l m = omega arith

    few_front : (a c h : ℕ) → a ≡ c / 2 → c ≤ 2 ^ suc h → a ≤ 2 ^ h
    few_front a c h l m = omega arith

    few_back : (a b c h : ℕ) → a ≡ c / 2 → a + b ≡ c → c ≤ 2 ^ suc h → b ≤ 2 ^ h
    few_back a b c h l m n = omega arith

    under : IsHalved h ns xs
    under = first (every-left IsSegment front back segments) (λ g. inorder-left front back order) (some_front (length front) (length back) (length old) many half) h (few_front (length front) (length old) h half few)

    behind : IsHalved h ms ys
    behind = second (every-right IsSegment front back segments) (λ g. inorder-right front back order) (some_back (length front) (length back) (length old) many half counts) h (few_back (length front) (length back) (length old) h half counts few)

-- the tree of a list that was in no order
pub balanced : (old new : List ReachEntry) (ns : List HullNode) → IsPermutation old new → Promise 0 old ns new → IsBalanced ns new
balanced old new ns p k s some h few =
    let same : length new ≡ length old = length_permutation old new p in
    k (every_moved IsSegment new old (IsPermutation-sym old new p) s) (λ g. absurd (omega (arith, g))) (subst (λ n. 0 < n) same some) h (subst (λ n. n ≤ 2 ^ h) same few)
