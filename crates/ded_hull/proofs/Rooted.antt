-- Trees in lists: built of halves, and looked through.
use Rattle.std.proofs.Common.{◌≡◌, ℕ, zero, suc, ◌+◌, ◌-◌, ◌<◌, ◌≤◌, true, false, true≢false, Option, Some, List, [], ◌∷◌, ◌++◌, take, drop, length, min, arith, refl, sym, ap, ap₂, ◌∙◌, subst, append_assoc, length-append}
use Rattle.std.proofs.Math.Seq.{take-length}
use Rattle.std.proofs.lemmas.List.{take-append-le, drop-append-le, take_all, take-append-drop, drop-drop, length-drop, length-take}
use Rattle.std.specs.Prelude.{is_some}
use Rattle.std.specs.List.{slice_get}
use Rattle.std.specs.Option.{unwrap_or}
use Rattle.std.specs.List.Sorted.{IsPermutation}
use Rattle.std.proofs.lemmas.List.Sorted.{IsPermutation-trans, IsPermutation-append_left, IsPermutation-append_right}
use Rattle.ded_model.proofs.Lists.{every-append}
use Rattle.ded_ranges.specs.declared.reach.Range.{Range}
use Rattle.ded_ranges.specs.declared.limit.Limit.{Limit}
use Rattle.ded_hull.specs.declared.entry.ReachEntry.{ReachEntry}
use Rattle.ded_hull.specs.declared.tree.HullNode.{HullNode}
use Rattle.ded_ranges.specs.Reaches.{IsWithin}
use Rattle.ded_ranges.specs.Limits.{may_hold}
use Rattle.ded_hull.specs.Entries.{ids_in, Covers}
use Rattle.ded_hull.specs.Trees.{owns, owned, IsRoot, IsTree, IsOver, AreNarrow, looked_at, IsStep}
use Rattle.ded_hull.proofs.Found.{ids_in-append, covers_wider, nothing_found}
use Rattle.ded_hull.proofs.Halved.{looked_over, looked_into, looked_leaf, narrow_behind}

-- ---- what nodes own

-- no more than its count
owns-most : (b c : ℕ) → owns b c ≤ c
owns-most zero c = omega arith
owns-most (suc b) c = omega arith

own_inside : (n : HullNode) (ns : List HullNode) (es : List ReachEntry) → IsRoot n ns es → owns n.below n.count ≤ length es
own_inside n ns es r = within (owns n.below n.count) n.count (length es) (owns-most n.below n.count) r.inside
  where
    within : (a b c : ℕ) → a ≤ b → b ≤ c → a ≤ c
    within a b c h k = omega arith

-- the nodes of a tree own all its entries
owned_all : (ns : List HullNode) (es : List ReachEntry) → IsTree ns es → owned ns ≡ length es
owned_all [] es t = sym (ap (λ (es : List ReachEntry). length es) t)
owned_all (n ∷ ns) es t = sum (owns n.below n.count) (owned ns) (length es) (own_inside n ns es t.0) (owned_all ns (drop (owns n.below n.count) es) t.1 ∙ length-drop (owns n.below n.count) es)
  where
    sum : (o a b : ℕ) → o ≤ b → a ≡ b - o → o + a ≡ b
    sum o a b h e = omega arith

-- ---- joined

root_longer : (n : HullNode) (ns ms : List HullNode) (xs ys : List ReachEntry) → IsRoot n ns xs → IsRoot n (ns ++ ms) (xs ++ ys)
root_longer n ns ms xs ys r = record {
  fits = longer n.below (length ns) (length ms) (length (ns ++ ms)) r.fits (length-append ns ms);
  inside = longer n.count (length xs) (length ys) (length (xs ++ ys)) r.inside (length-append xs ys);
  few = r.few;
  covers = subst (Covers n.hull) (sym (take-append-le n.count xs ys r.inside)) r.covers;
  whole = ap (λ ks. owns n.below n.count + owned ks) (take-append-le n.below ns ms r.fits) ∙ r.whole;
}
  where
    longer : (a b c d : ℕ) → a ≤ b → d ≡ b + c → a ≤ d
    longer a b c d h e = omega arith

pub tree-append : (ns ms : List HullNode) (xs ys : List ReachEntry) → IsTree ns xs → IsTree ms ys → IsTree (ns ++ ms) (xs ++ ys)
tree-append [] ms xs ys t u = subst (λ zs. IsTree ms (zs ++ ys)) (sym t) u
tree-append (n ∷ ns) ms xs ys t u =
    (root_longer n ns ms xs ys t.0, subst (IsTree (ns ++ ms)) (sym (drop-append-le (owns n.below n.count) xs ys (own_inside n ns xs t.0))) (tree-append ns ms (drop (owns n.below n.count) xs) ys t.1 u))

pub tree_joined : (n : HullNode) (ns ms all : List HullNode) (xs ys es : List ReachEntry) → all ≡ n ∷ (ns ++ ms) → es ≡ xs ++ ys → n.below ≡ length ns + length ms → n.count ≡ length es → IsTree ns xs → IsTree ms ys → Covers n.hull es → IsTree all es
tree_joined n ns ms all xs ys es e f b k t u c = subst (λ zs. IsTree zs es) (sym e) (root, subst (λ j. IsTree (ns ++ ms) (drop j es)) (sym own) both)
  where
    both : IsTree (ns ++ ms) es
    both = subst (IsTree (ns ++ ms)) (sym f) (tree-append ns ms xs ys t u)

    count : n.below ≡ length (ns ++ ms)
    count = b ∙ sym (length-append ns ms)

    whole : owned (ns ++ ms) ≡ n.count
    whole = owned_all (ns ++ ms) es both ∙ sym k

    -- without nodes there are no entries
    none : (ks : List HullNode) (b c : ℕ) → b ≡ length ks → owned ks ≡ c → owns b c ≡ 0
    none ks (suc b) c e h = refl
    none [] zero c e h = sym h
    none (m ∷ ks) zero c e h = absurd (omega (arith, e))

    own : owns n.below n.count ≡ 0
    own = none (ns ++ ms) n.below n.count count whole

    le_of : (a b : ℕ) → a ≡ b → a ≤ b
    le_of a b e = omega arith

    sum : (o a c : ℕ) → o ≡ 0 → a ≡ c → o + a ≡ c
    sum o a c e h = omega arith

    none_few : (o : ℕ) → o ≡ 0 → o ≤ 8
    none_few o e = omega arith

    root : IsRoot n (ns ++ ms) es
    root = record {
      fits = le_of n.below (length (ns ++ ms)) count;
      inside = le_of n.count (length es) k;
      few = none_few (owns n.below n.count) own;
      covers = subst (Covers n.hull) (sym (ap (λ j. take j es) k ∙ take-length es)) c;
      whole = ap (λ j. owns n.below n.count + owned (take j (ns ++ ms))) count ∙ ap (λ ks. owns n.below n.count + owned ks) (take-length (ns ++ ms)) ∙ sum (owns n.below n.count) (owned (ns ++ ms)) n.count own whole;
    }

-- ---- halves

pub halves : (old moved front back xs ys : List ReachEntry) → IsPermutation old moved → moved ≡ front ++ back → IsPermutation front xs → IsPermutation back ys → IsPermutation old (xs ++ ys)
halves old moved front back xs ys p e q r =
    IsPermutation-trans old moved (xs ++ ys) p
    (subst (λ zs. IsPermutation zs (xs ++ ys)) (sym e)
    (IsPermutation-trans (front ++ back) (xs ++ back) (xs ++ ys) (IsPermutation-append_left back front xs q) (IsPermutation-append_right xs back ys r)))

-- ---- looked through

-- all from a place on
pub whole_rest : {A : Type 0} (xs : List A) (n : ℕ) → take (length xs - n) (drop n xs) ≡ drop n xs
whole_rest xs n = take_all (length xs - n) (drop n xs) (le_of (length (drop n xs)) (length xs - n) (length-drop n xs))
  where
    le_of : (a b : ℕ) → a ≡ b → a ≤ b
    le_of a b e = omega arith

-- behind so many nodes
tree_behind : (ns : List HullNode) (k : ℕ) (es : List ReachEntry) → IsTree ns es → IsTree (drop k ns) (drop (owned (take k ns)) es)
tree_behind ns zero es t = t
tree_behind [] (suc k) es t = t
tree_behind (n ∷ ns) (suc k) es t =
    subst (IsTree (drop k ns)) (drop-drop (owned (take k ns)) (owns n.below n.count) es) (tree_behind ns k (drop (owns n.below n.count) es) t.1)

-- behind a node and those below it
pub tree_past : (n : HullNode) (ns : List HullNode) (es : List ReachEntry) → IsTree (n ∷ ns) es → IsTree (drop n.below ns) (drop n.count es)
tree_past n ns es t =
    subst (λ j. IsTree (drop n.below ns) (drop j es)) t.0.whole
    (subst (IsTree (drop n.below ns)) (drop-drop (owned (take n.below ns)) (owns n.below n.count) es) (tree_behind ns n.below (drop (owns n.below n.count) es) t.1))

module _ (ls : List Limit) (n : HullNode) (ns : List HullNode) (es : List ReachEntry) (t : IsTree (n ∷ ns) es) where
  -- the limits can't hold in the hull
  pub step_past : (next : List HullNode) (rest : List ReachEntry) (old : List ℕ) → next ≡ drop n.below ns → rest ≡ drop n.count es → may_hold n.hull ls ≡ false → IsStep ls n ns es next rest old old
  step_past next rest old e f h = record {
    tree = subst (λ zs. IsTree next zs) (sym f) (subst (λ ks. IsTree ks (drop n.count es)) (sym e) (tree_past n ns es t));
    shorter = subst (λ ks. length ks ≤ length ns) (sym e) (fewer n.below);
    found = ap (λ xs. old ++ xs) (ap (ids_in ls) f ∙ sym same);
    narrow = λ a. subst AreNarrow (sym e) (narrow_behind n.below ns a.1);
    looks = λ a. looked_over ls n ns h ∙ ap (λ ks. 1 + looked_at ls 0 ks) (sym e);
  }
    where
      less : (a b c : ℕ) → c ≡ b - a → c ≤ b
      less a b c e = omega arith

      fewer : (k : ℕ) → length (drop k ns) ≤ length ns
      fewer k = less k (length ns) (length (drop k ns)) (length-drop k ns)

      same : ids_in ls es ≡ ids_in ls (drop n.count es)
      same = sym (ap (ids_in ls) (take-append-drop n.count es)) ∙ ids_in-append ls (take n.count es) (drop n.count es)
          ∙ ap (λ xs. xs ++ ids_in ls (drop n.count es)) (nothing_found ls n.hull (take n.count es) h t.0.covers)

  -- all its entries are its own
  pub step_own : (next : List HullNode) (own rest : List ReachEntry) (old new : List ℕ) → next ≡ ns → own ≡ take n.count es → rest ≡ drop n.count es → n.below ≡ 0 → new ≡ old ++ ids_in ls own → IsStep ls n ns es next rest old new
  step_own next own rest old new e f g h k = record {
    tree = subst (λ zs. IsTree next zs) (sym g) (subst (λ ks. IsTree ks (drop n.count es)) (sym e) (subst (λ j. IsTree ns (drop j es)) (all n.below n.count h) t.1));
    shorter = le_of (length next) (length ns) (ap (λ (ks : List HullNode). length ks) e);
    found = ap₂ (λ (xs ys : List ℕ). xs ++ ys) k (ap (ids_in ls) g) ∙ append_assoc old (ids_in ls own) (ids_in ls (drop n.count es))
        ∙ ap (λ xs. old ++ xs) (ap (λ zs. ids_in ls zs ++ ids_in ls (drop n.count es)) f ∙ sym (ids_in-append ls (take n.count es) (drop n.count es)) ∙ ap (ids_in ls) (take-append-drop n.count es));
    narrow = λ a. subst AreNarrow (sym e) a.1;
    looks = λ a. looked_leaf ls n ns h ∙ ap (λ ks. 1 + looked_at ls 0 ks) (sym e);
  }
    where
      le_of : (a b : ℕ) → a ≡ b → a ≤ b
      le_of a b e = omega arith

      all : (b c : ℕ) → b ≡ 0 → owns b c ≡ c
      all zero c e = refl
      all (suc b) c e = absurd (omega (arith, e))

  -- others are below it, and stand next
  pub step_into : (next : List HullNode) (rest : List ReachEntry) (old : List ℕ) → next ≡ ns → rest ≡ es → 0 < n.below → (length n.hull ≡ 1 → may_hold n.hull ls ≡ true) → IsStep ls n ns es next rest old old
  step_into next rest old e f some passes = record {
    tree = subst (λ zs. IsTree next zs) (sym f) (subst (λ ks. IsTree ks es) (sym e) (subst (λ j. IsTree ns (drop j es)) (none n.below n.count some) t.1));
    shorter = le_of (length next) (length ns) (ap (λ (ks : List HullNode). length ks) e);
    found = ap (λ zs. old ++ ids_in ls zs) f;
    narrow = λ a. subst AreNarrow (sym e) a.1;
    looks = λ a. looked_into ls n ns (passes a.0) ∙ ap (λ ks. 1 + looked_at ls 0 ks) (sym e);
  }
    where
      le_of : (a b : ℕ) → a ≡ b → a ≤ b
      le_of a b e = omega arith

      none : (b c : ℕ) → 0 < b → owns b c ≡ 0
      none zero c h = absurd (omega (arith, h))
      none (suc b) c h = refl

-- few entries are the own ones of a node
pub own_few : (n : HullNode) (ns : List HullNode) (es own : List ReachEntry) → IsTree (n ∷ ns) es → n.below ≡ 0 → own ≡ take n.count es → (old new : ℕ) → new ≤ old + length own → new ≤ old + 8
own_few n ns es own t b e old new h = few (length own) (length es) n.count (owns n.below n.count) old new (all n.below n.count b) (ap (λ (xs : List ReachEntry). length xs) e ∙ length-take n.count es) t.0.few h
  where
    all : (b c : ℕ) → b ≡ 0 → owns b c ≡ c
    all zero c e = refl
    all (suc b) c e = absurd (omega (arith, e))

    few : (l m c o old new : ℕ) → o ≡ c → l ≡ min c m → o ≤ 8 → new ≤ old + l → new ≤ old + 8
    few l m c o old new e f h k = omega arith

-- ---- hulls over halves

pub over_first : (ns : List HullNode) (n : HullNode) (xs : List ReachEntry) → Some n ≡ slice_get ns 0 → IsOver ns xs → Covers n.hull xs
over_first [] n xs e h = absurd (true≢false (ap is_some e))
over_first (m ∷ ns) n xs e h = subst (λ (k : HullNode). Covers k.hull xs) (sym (ap (λ (o : Option HullNode). unwrap_or o n) e)) h

pub over_both : (a b : List Range) (xs ys : List ReachEntry) (h : List Range) → IsWithin a h → IsWithin b h → Covers a xs → Covers b ys → Covers h (xs ++ ys)
over_both a b xs ys h k l c d = every-append (λ e. IsWithin e.reach h) xs ys (covers_wider a h xs k c) (covers_wider b h ys l d)

-- the reach of no columns contains all reaches
pub over_none : (xs : List ReachEntry) → Covers [] xs
over_none [] = tt
over_none (x ∷ xs) = ((λ p. record { low = tt; high = tt }), over_none xs)
