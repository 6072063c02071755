-- What an index keeps when its entries are sorted, added to, or taken out.
use Rattle.std.proofs.Common.{◌≡◌, ℕ, zero, suc, ◌+◌, ◌<◌, ◌≤◌, Bool, true, false, not, nat_eq, cond, List, [], ◌∷◌, ◌++◌, length, take, drop, get_or, ◌||◌, arith, refl, sym, ap, ap₂, ◌∙◌, subst, add-one}
use Rattle.std.proofs.Math.Seq.{take-suc}
use Rattle.std.proofs.lemmas.List.{take_at, length-take-le}
use Rattle.std.proofs.lemmas.List.Elements.{All-from_recursion, recursion_from_All, filter-append}
use Rattle.std.proofs.lemmas.List.Sorted.{IsPermutation-map, All-permutation, sorted_far}
use Rattle.std.specs.List.{AllByRecursion, filter, list_any}
use Rattle.std.specs.List.Sorted.{IsPermutation, IsSortedBy}
use Rattle.std.specs.Cmp.{IsStrictWeakOrder}
use Rattle.std.specs.Ordering.{is_lt}
use Rattle.ded_box.specs.Boxes.{AreIntervals}
use Rattle.ded_box.specs.Intervals.{has_value}
use Rattle.ded_index.specs.declared.entry.BoxEntry.{BoxEntry}
use Rattle.ded_index.specs.declared.tree.BoxNode.{BoxNode}
use Rattle.ded_index.specs.Entries.{Box, first_of, numbered, has_id, without}
use Rattle.ded_index.specs.Orders.{entry_order}
use Rattle.ded_index.specs.Trees.{entries_of, NotAfter, InOrder, AreEnds, AreFull, AreSound, IsIndex}
use Rattle.ded_index.proofs.Orders.{entries_ranked}

-- ---- sorting

pub all_moved : (P : BoxEntry → Type 0) (xs ys : List BoxNode) → IsPermutation xs ys → AllByRecursion P (entries_of xs) → AllByRecursion P (entries_of ys)
all_moved P xs ys p h = recursion_from_All P (entries_of ys) (All-permutation P (entries_of xs) (entries_of ys) (IsPermutation-map (λ n. n.entry) xs ys p) (All-from_recursion P (entries_of xs) h))

unfoldable pub node_before : BoxNode → BoxNode → Bool
node_before a b = is_lt (entry_order a.entry b.entry)

pub nodes_ranked : IsStrictWeakOrder node_before
unfolding node_before
nodes_ranked = record { one_way = λ a b h. entries_ranked.one_way a.entry b.entry h; chain = λ a b c h k. entries_ranked.chain a.entry b.entry c.entry h k }

pub node_before_is : (a b : BoxNode) → node_before a b ≡ is_lt (entry_order a.entry b.entry)
unfolding node_before
node_before_is a b = refl

all_after : (n : BoxNode) (ns : List BoxNode) → ((j : ℕ) (d : BoxNode) → j < length ns → node_before (get_or ns j d) n ≡ false) → AllByRecursion (NotAfter n.entry) (entries_of ns)
unfolding node_before
all_after n [] h = tt
all_after n (x ∷ ns) h = (h zero x (omega arith), all_after n ns (λ j d l. h (suc j) d (omega arith)))

in_order_from : (ns : List BoxNode) → ((i j : ℕ) (d : BoxNode) → i ≤ j → j < length ns → node_before (get_or ns j d) (get_or ns i d) ≡ false) → InOrder (entries_of ns)
in_order_from [] h = tt
in_order_from (n ∷ ns) h = (all_after n ns (λ j d l. h zero (suc j) d (omega arith) (omega arith)), in_order_from ns (λ i j d a l. h (suc i) (suc j) d (omega arith) (omega arith)))

pub in_order : (ns : List BoxNode) → IsSortedBy node_before ns → InOrder (entries_of ns)
in_order ns s = in_order_from ns (λ i j d a l. sorted_far node_before nodes_ranked ns s i j d a l)

-- ---- a list that was written in place

pub written : (xs ys : List BoxNode) (n : ℕ) → length xs ≡ length ys → n ≡ length ys → take n (xs ++ drop (length xs) ys) ≡ xs
written xs ys n e f = take_at xs (drop (length xs) ys) n (e ∙ sym f)

pub same_count : (xs ys : List BoxNode) → entries_of xs ≡ entries_of ys → length xs ≡ length ys
same_count [] [] e = refl
same_count [] (y ∷ ys) e = absurd (omega (arith, ap length e))
same_count (x ∷ xs) [] e = absurd (omega (arith, ap length e))
same_count (x ∷ xs) (y ∷ ys) e = ap suc (same_count xs ys (cc))

-- ---- building

pub numbered-push : (k : ℕ) (bs : List Box) (b : Box) (e : BoxEntry) → e.id ≡ k + length bs → e.bounds ≡ b → numbered k (bs ++ b ∷ []) ≡ numbered k bs ++ e ∷ []
numbered-push k [] b e i h = ap₂ (λ (n : ℕ) (x : Box). entry n x ∷ []) (add_none k ∙ sym i) (sym h)
  where
    entry : ℕ → Box → BoxEntry
    entry n x = record { id = n; bounds = x }

    add_none : (k : ℕ) → k ≡ k + 0
    add_none k = omega arith
numbered-push k (x ∷ bs) b e i h = ap (λ es. record { id = k; bounds = x } ∷ es) (numbered-push (k + 1) bs b e (i ∙ regroup k (length bs)) h)
  where
    regroup : (k n : ℕ) → k + suc n ≡ k + 1 + n
    regroup k n = omega arith

pub numbered_more : (bs : List Box) (i : ℕ) (b : Box) (e : BoxEntry) → i < length bs → b ≡ get_or bs i b → e.id ≡ i → e.bounds ≡ b → numbered 0 (take (i + 1) bs) ≡ numbered 0 (take i bs) ++ e ∷ []
numbered_more bs i b e h is n m =
    ap (numbered 0) (ap (λ k. take k bs) (add-one i) ∙ take-suc bs i b h ∙ ap (λ (y : Box). take i bs ++ y ∷ []) (sym is))
    ∙ numbered-push 0 (take i bs) b e (n ∙ sym (length-take-le i bs (omega (arith, h))) ∙ from_none (length (take i bs))) m
  where
    from_none : (k : ℕ) → k ≡ 0 + k
    from_none k = omega arith

-- ---- taking out

has_id-append : (i : ℕ) (xs ys : List BoxEntry) → has_id i (xs ++ ys) ≡ (has_id i xs || has_id i ys)
has_id-append i [] ys = refl
has_id-append i (x ∷ xs) ys = choose (nat_eq x.id i) (has_id i xs) (has_id i ys) (has_id i (xs ++ ys)) (has_id-append i xs ys)
  where
    choose : (b c d e : Bool) → e ≡ (c || d) → (b || e) ≡ ((b || c) || d)
    choose true c d e h = refl
    choose false c d e h = h

has_id-nodes : (i : ℕ) (ns : List BoxNode) → list_any (λ n. nat_eq n.entry.id i) ns ≡ has_id i (entries_of ns)
has_id-nodes i [] = refl
has_id-nodes i (n ∷ ns) = ap (λ b. nat_eq n.entry.id i || b) (has_id-nodes i ns)

pub has_id-both : (i : ℕ) (ns : List BoxNode) (es : List BoxEntry) → (list_any (λ n. nat_eq n.entry.id i) ns || list_any (λ e. nat_eq e.id i) es) ≡ has_id i (entries_of ns ++ es)
has_id-both i ns es = ap (λ b. b || has_id i es) (has_id-nodes i ns) ∙ sym (has_id-append i (entries_of ns) es)

unfoldable pub other_node : ℕ → BoxNode → Bool
other_node i n = not (nat_eq n.entry.id i)

pub without-nodes : (i : ℕ) (ns : List BoxNode) → entries_of (filter (other_node i) ns) ≡ without i (entries_of ns)
unfolding other_node
without-nodes i [] = refl
without-nodes i (n ∷ ns) = choose (not (nat_eq n.entry.id i)) n (filter (other_node i) ns) (without i (entries_of ns)) (without-nodes i ns)
  where
    choose : (b : Bool) (n : BoxNode) (xs : List BoxNode) (ys : List BoxEntry) → entries_of xs ≡ ys → entries_of (cond b (n ∷ xs) xs) ≡ cond b (n.entry ∷ ys) ys
    choose true n xs ys e = ap (λ zs. n.entry ∷ zs) e
    choose false n xs ys e = e

pub without-all : (P : BoxEntry → Type 0) (i : ℕ) (es : List BoxEntry) → AllByRecursion P es → AllByRecursion P (without i es)
without-all P i [] h = tt
without-all P i (e ∷ es) h = choose (not (nat_eq e.id i)) (without i es) (without-all P i es h.1)
  where
    choose : (b : Bool) (xs : List BoxEntry) → AllByRecursion P xs → AllByRecursion P (cond b (e ∷ xs) xs)
    choose true xs k = (h.0, k)
    choose false xs k = k

pub without-order : (i : ℕ) (es : List BoxEntry) → InOrder es → InOrder (without i es)
without-order i [] h = tt
without-order i (e ∷ es) h = choose (not (nat_eq e.id i)) (without i es) (without-all (NotAfter e) i es h.0) (without-order i es h.1)
  where
    choose : (b : Bool) (xs : List BoxEntry) → AllByRecursion (NotAfter e) xs → InOrder xs → InOrder (cond b (e ∷ xs) xs)
    choose true xs k l = (k, l)
    choose false xs k l = l

-- the index without a number
pub index_without : (i : ℕ) (ns next : List BoxNode) (es : List BoxEntry) → IsIndex ns es → entries_of next ≡ without i (entries_of ns) → ((h : ℕ) → AreEnds h next) → IsIndex next (without i es)
index_without i ns next es x e ends = record {
  tree = record {
    order = subst InOrder (sym e) (without-order i (entries_of ns) x.tree.order);
    full = subst AreFull (sym e) (without-all (λ y. has_value (first_of y.bounds) ≡ true) i (entries_of ns) x.tree.full);
    sound = subst AreSound (sym e) (without-all (λ y. AreIntervals y.bounds) i (entries_of ns) x.tree.sound);
    ends = ends;
  };
  apart = record { empty = without-all (λ y. has_value (first_of y.bounds) ≡ false) i es x.apart.empty; sound = without-all (λ y. AreIntervals y.bounds) i es x.apart.sound };
}

pub without-both : (i : ℕ) (ns next : List BoxNode) (es : List BoxEntry) → entries_of next ≡ without i (entries_of ns) → entries_of next ++ without i es ≡ without i (entries_of ns ++ es)
without-both i ns next es e = ap (λ xs. xs ++ without i es) e ∙ sym (filter-append (λ x. not (nat_eq x.id i)) (entries_of ns) es)
