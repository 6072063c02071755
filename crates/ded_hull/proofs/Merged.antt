-- The entries of several trees: looked through, copied, and made one tree.
use Rattle.std.proofs.Common.{◌≡◌, ℕ, ◌+◌, ◌<◌, List, [], ◌∷◌, ◌++◌, take, length, get_or, set, min, arith, refl, sym, ap, ap₂, ◌∙◌, subst, append_assoc, append-nil, length-append}
use Rattle.std.proofs.Math.Seq.{take-length}
use Rattle.std.proofs.lemmas.List.{take-set, set-get_or}
use Rattle.std.specs.List.Sorted.{IsPermutation}
use Rattle.std.proofs.lemmas.List.Sorted.{IsPermutation-sym, IsPermutation-append_right, IsPermutation-middle}
use Rattle.ded_ranges.specs.declared.limit.Limit.{Limit}
use Rattle.ded_hull.specs.declared.entry.ReachEntry.{ReachEntry}
use Rattle.ded_hull.specs.Entries.{ids_in}
use Rattle.ded_hull.specs.Trees.{all_of}
use Rattle.ded_hull.proofs.Found.{ids_in-append}
use Rattle.ded_ranges.proofs.Taken.{taken_more}

pub all_of-append : (ts us : List (List ReachEntry)) → all_of (ts ++ us) ≡ all_of ts ++ all_of us
all_of-append [] us = refl
all_of-append (t ∷ ts) us = ap (λ es. t ++ es) (all_of-append ts us) ∙ sym (append_assoc t (all_of ts) (all_of us))

-- ---- one more

pub tree_more : (ts : List (List ReachEntry)) (i : ℕ) (t : List ReachEntry) → i < length ts → t ≡ get_or ts i t → all_of (take (i + 1) ts) ≡ all_of (take i ts) ++ t
tree_more ts i t h is = ap all_of (taken_more ts i t h ∙ ap (λ x. take i ts ++ x ∷ []) (sym is)) ∙ all_of-append (take i ts) (t ∷ []) ∙ ap (λ es. all_of (take i ts) ++ es) (append-nil t)

-- counts, as far as m
pub counted : (m a b c d : ℕ) → c ≡ min a m → d ≡ min (c + b) m → d ≡ min (a + b) m
counted m a b c d e f = omega arith

-- of one more
pub counted_more : (m c b d : ℕ) (xs ys all : List ReachEntry) → all ≡ xs ++ ys → c ≡ min (length xs) m → d ≡ min (c + b) m → b ≡ length ys → d ≡ min (length all) m
counted_more m c b d xs ys all h e f g =
    counted m (length xs) b c d e f ∙ ap (λ k. min k m) (ap (λ k. length xs + k) g ∙ sym (ap (λ (es : List ReachEntry). length es) h ∙ length-append xs ys))

pub counted_tree : (m c b d : ℕ) (ts : List (List ReachEntry)) (i : ℕ) (t : List ReachEntry) → i < length ts → t ≡ get_or ts i t → c ≡ min (length (all_of (take i ts))) m → d ≡ min (c + b) m → b ≡ length t → d ≡ min (length (all_of (take (i + 1) ts))) m
counted_tree m c b d ts i t h is e f g = counted_more m c b d (all_of (take i ts)) t (all_of (take (i + 1) ts)) (tree_more ts i t h is) e f g

pub found_tree : (ls : List Limit) (ts : List (List ReachEntry)) (i : ℕ) (t : List ReachEntry) (old found new : List ℕ) → i < length ts → t ≡ get_or ts i t → found ≡ old ++ ids_in ls (all_of (take i ts)) → new ≡ found ++ ids_in ls t → new ≡ old ++ ids_in ls (all_of (take (i + 1) ts))
found_tree ls ts i t old found new h is f n =
    let more = tree_more ts i t h is in
    n ∙ ap (λ xs. xs ++ ids_in ls t) f ∙ append_assoc old (ids_in ls (all_of (take i ts))) (ids_in ls t) ∙ ap (λ xs. old ++ xs) (sym (ap (ids_in ls) more ∙ ids_in-append ls (all_of (take i ts)) t))

-- ---- the last tree's entries, moved before others

pub given : (ts new : List (List ReachEntry)) (k : ℕ) (t x tail given : List ReachEntry) → k + 1 ≡ length ts → t ≡ get_or ts k t → new ≡ take k (set ts k x) → given ≡ t ++ tail → all_of new ++ given ≡ all_of ts ++ tail
given ts new k t x tail gs e is h g =
    ap₂ (λ (xs ys : List ReachEntry). xs ++ ys) (ap all_of (h ∙ take-set ts k x)) g ∙ sym (append_assoc (all_of (take k ts)) t tail) ∙ ap (λ es. es ++ tail) (sym all)
  where
    below : (k n : ℕ) → k + 1 ≡ n → k < n
    below k n e = omega arith

    all : all_of ts ≡ all_of (take k ts) ++ t
    all = ap all_of (sym (ap (λ j. take j ts) e ∙ take-length ts)) ∙ tree_more ts k t (below k (length ts) e) is

-- nothing is moved
pub not_given : (ts : List (List ReachEntry)) (k : ℕ) (t x tail given : List ReachEntry) → t ≡ get_or ts k t → x ≡ t → given ≡ tail → all_of (set ts k x) ++ given ≡ all_of ts ++ tail
not_given ts k t x tail gs is e g = ap₂ (λ (xs ys : List ReachEntry). xs ++ ys) (ap (λ y. all_of (set ts k y)) (e ∙ is) ∙ ap all_of (set-get_or ts k t)) g

-- ---- the list in another order, or made a further tree

pub reordered : (ts new : List (List ReachEntry)) (tail other : List ReachEntry) → new ≡ ts → IsPermutation tail other → IsPermutation (all_of ts ++ tail) (all_of new ++ other)
reordered ts new tail other e p = subst (λ us. IsPermutation (all_of ts ++ tail) (all_of us ++ other)) (sym e) (IsPermutation-append_right (all_of ts) tail other p)

pub planted : (ts new : List (List ReachEntry)) (t tail none : List ReachEntry) → new ≡ ts ++ t ∷ [] → none ≡ [] → IsPermutation tail t → IsPermutation (all_of ts ++ tail) (all_of new ++ none)
planted ts new t tail none e n p =
    let after : all_of new ++ none ≡ all_of ts ++ t = ap₂ (λ (xs ys : List ReachEntry). xs ++ ys) (ap all_of e ∙ all_of-append ts (t ∷ []) ∙ ap (λ es. all_of ts ++ es) (append-nil t)) n ∙ append-nil (all_of ts ++ t) in
    subst (IsPermutation (all_of ts ++ tail)) (sym after) (IsPermutation-append_right (all_of ts) tail t p)

-- ---- an entry more, at the end

pub added_last : (xs es next : List ReachEntry) (e : ReachEntry) → next ≡ es ++ e ∷ [] → IsPermutation (e ∷ (xs ++ es)) (xs ++ next)
added_last xs es next e h =
    subst (λ ys. IsPermutation (e ∷ (xs ++ es)) ys) (sym (ap (λ ys. xs ++ ys) h ∙ sym (append_assoc xs es (e ∷ [])))) (subst (λ ys. IsPermutation (e ∷ ys) ((xs ++ es) ++ e ∷ [])) (append-nil (xs ++ es)) (IsPermutation-sym _ _ (IsPermutation-middle (xs ++ es) e [])))
