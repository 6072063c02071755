-- Trees of which each has at least twice as many entries as the next one: they stay so, they are few, and what looking through all takes.
use Rattle.std.proofs.Common.{◌≡◌, ℕ, zero, suc, ◌+◌, ◌-◌, ◌*◌, ◌/◌, ◌^◌, ◌<◌, ◌≤◌, min, List, [], ◌∷◌, ◌++◌, length, take, drop, get_or, set, arith, sym, ap, ◌∙◌, subst, length-append}
use Rattle.std.specs.Prelude.{pos}
use Rattle.std.proofs.Math.Seq.{drop-cons}
use Rattle.std.proofs.Math.Nat.{mul-le-mul_right}
use Rattle.std.proofs.lemmas.List.{take-append-drop, take-set, set-get_or, length-take, take-take, drop_all}
use Rattle.ded_num.specs.Length.{length_of}
use Rattle.ded_num.proofs.Lengths.{within_length}
use Rattle.ded_model.proofs.Lists.{Every, every-left, every-right}
use Rattle.ded_ranges.specs.declared.limit.Limit.{Limit}
use Rattle.ded_hull.specs.declared.entry.ReachEntry.{ReachEntry}
use Rattle.ded_hull.specs.Entries.{ids_in, most_nodes, Hulls, most_steps}
use Rattle.ded_hull.specs.Segments.{IsSegment, AreSegments}
use Rattle.ded_hull.specs.Trees.{all_of, AreAlong, IsCost, IsCostOfAll, AreFalling, IsRoomFor}
use Rattle.ded_hull.proofs.Found.{ids_in-append}
use Rattle.ded_ranges.proofs.Taken.{taken_more}
use Rattle.ded_hull.proofs.Merged.{all_of-append, tree_more}

-- ---- the first of them

pub falling_front : (ts us : List (List ReachEntry)) → AreFalling (ts ++ us) → AreFalling ts
falling_front [] us h = tt
falling_front (t ∷ []) [] h = h
falling_front (t ∷ []) (u ∷ us) h = (some (length t) (length u) h.0 (some_first u us h.1), tt)
  where
    some : (a b : ℕ) → 2 * b ≤ a → 0 < b → 0 < a
    some a b h k = omega arith

    some_first : (u : List ReachEntry) (us : List (List ReachEntry)) → AreFalling (u ∷ us) → 0 < length u
    some_first u [] h = h.0
    some_first u (v ∷ vs) h = some (length u) (length v) h.0 (some_first v vs h.1)
falling_front (t ∷ (x ∷ ts)) us h = (h.0, falling_front (x ∷ ts) us h.1)

pub falling_taken : (k : ℕ) (ts new : List (List ReachEntry)) → new ≡ take k ts → AreFalling ts → AreFalling new
falling_taken k ts new e h = subst AreFalling (sym e) (falling_front (take k ts) (drop k ts) (subst AreFalling (sym (take-append-drop k ts)) h))

-- each has some entries
pub all_some : (ts : List (List ReachEntry)) → AreFalling ts → Every (λ t. 0 < length t) ts
all_some [] h = tt
all_some (t ∷ []) h = (h.0, tt)
all_some (t ∷ (u ∷ us)) h =
    let more = all_some (u ∷ us) h.1 in
    (some (length t) (length u) h.0 more.0, more)
  where
    some : (a b : ℕ) → 2 * b ≤ a → 0 < b → 0 < a
    some a b h k = omega arith

-- ---- one more

pub falling_more : (ts new : List (List ReachEntry)) (t : List ReachEntry) (b : ℕ) → new ≡ ts ++ t ∷ [] → length t ≡ b → 0 < b → IsRoomFor b ts → AreFalling ts → AreFalling new
falling_more ts new t b e l s r h = subst AreFalling (sym e) (more ts r h)
  where
    some : 0 < length t
    some = subst (λ n. 0 < n) (sym l) s

    more : (ts : List (List ReachEntry)) → IsRoomFor b ts → AreFalling ts → AreFalling (ts ++ t ∷ [])
    more [] r h = (some, tt)
    more (x ∷ []) r h = (subst (λ n. 2 * n ≤ length x) (sym l) r, (some, tt))
    more (x ∷ (y ∷ ys)) r h = (h.0, more (y ∷ ys) r h.1)

-- ---- where the last ones stay

-- the last of the first lists has room
room_at : (ts : List (List ReachEntry)) (k b : ℕ) (d : List ReachEntry) → k < length ts → 2 * b ≤ length (get_or ts k d) → IsRoomFor b (take (suc k) ts)
room_at [] k b d h r = absurd (omega (arith, h))
room_at (t ∷ ts) zero b d h r = r
room_at (t ∷ []) (suc k) b d h r = absurd (omega (arith, h))
room_at (t ∷ (u ∷ us)) (suc k) b d h r = room_at (u ∷ us) k b d (omega (arith, h)) r

-- a count as far as m, at most half of the last of the first lists
pub room_kept : (ts : List (List ReachEntry)) (keep b c m : ℕ) (d : List ReachEntry) → 0 < keep → keep ≤ length ts → c ≡ min b m → c ≤ length (get_or ts (keep - 1) d) / 2 → length (get_or ts (keep - 1) d) ≤ m → 0 < m → IsRoomFor b (take keep ts)
room_kept ts zero b c m d s i e h l p = absurd (omega (arith, s))
room_kept ts (suc k) b c m d s i e h l p = room_at ts k b d (omega (arith, i)) (twice (length (get_or ts k d)) b c m e (subst (λ n. c ≤ length (get_or ts n d) / 2) (less k) h) (subst (λ n. length (get_or ts n d) ≤ m) (less k) l) p)
  where
    less : (k : ℕ) → suc k - 1 ≡ k
    less k = omega arith

    twice : (a b c m : ℕ) → c ≡ min b m → c ≤ a / 2 → a ≤ m → 0 < m → 2 * b ≤ a
    twice a b c m e h l p = omega arith

-- ---- how many there are

pub doubled : (ts : List (List ReachEntry)) → AreFalling ts → 2 ^ length ts ≤ length (all_of ts) + 1
doubled [] h = omega arith
doubled (t ∷ ts) h = subst (λ n. 2 ^ suc (length ts) ≤ n + 1) (sym (length-append t (all_of ts))) (both (length ts) (length t) (length (all_of ts)) (first t ts h) (doubled ts h.1))
  where
    both : (k a b : ℕ) → 2 ^ k ≤ a → 2 ^ k ≤ b + 1 → 2 ^ suc k ≤ a + b + 1
    both k a b h l = omega arith

    twice : (k a b : ℕ) → 2 ^ k ≤ b → 2 * b ≤ a → 2 ^ suc k ≤ a
    twice k a b h l = omega arith

    first : (t : List ReachEntry) (ts : List (List ReachEntry)) → AreFalling (t ∷ ts) → 2 ^ length ts ≤ length t
    first t [] h = one (length t) h.0
      where
        one : (a : ℕ) → 0 < a → 2 ^ 0 ≤ a
        one a h = omega arith
    first t (u ∷ us) h = twice (length us) (length t) (length u) (first u us h.1) h.0

-- ---- steps

-- of one tree more
pub cost_more : (ls : List Limit) (ts : List (List ReachEntry)) (i : ℕ) (t : List ReachEntry) (old before after : ℕ) → i < length ts → t ≡ get_or ts i t → IsCost ls t before after
    → (AreAlong ls → AreSegments (all_of ts) → Every (λ t. 0 < length t) ts → (h : ℕ) → length (all_of ts) ≤ 2 ^ h → before ≤ old + 9 * (2 * ((length (ids_in ls (all_of (take i ts))) + i) * h) + i))
    → AreAlong ls → AreSegments (all_of ts) → Every (λ t. 0 < length t) ts → (h : ℕ) → length (all_of ts) ≤ 2 ^ h → after ≤ old + 9 * (2 * ((length (ids_in ls (all_of (take (i + 1) ts))) + (i + 1)) * h) + (i + 1))
cost_more ls ts i t old before after inside is one former along segments some h few =
    subst (λ k. after ≤ old + 9 * (2 * ((k + (i + 1)) * h) + (i + 1))) (sym counted) (sum (length (ids_in ls (all_of (take i ts)))) (length (ids_in ls t)) i h old before after (former along segments some h few) (one along own own_some h own_few))
  where
    more : all_of (take (i + 1) ts) ≡ all_of (take i ts) ++ t
    more = tree_more ts i t inside is

    counted : length (ids_in ls (all_of (take (i + 1) ts))) ≡ length (ids_in ls (all_of (take i ts))) + length (ids_in ls t)
    counted = ap (λ es. length (ids_in ls es)) more ∙ ap (λ (ns : List ℕ). length ns) (ids_in-append ls (all_of (take i ts)) t) ∙ length-append (ids_in ls (all_of (take i ts))) (ids_in ls t)

    whole : all_of ts ≡ (all_of (take i ts) ++ t) ++ all_of (drop (i + 1) ts)
    whole = ap all_of (sym (take-append-drop (i + 1) ts)) ∙ all_of-append (take (i + 1) ts) (drop (i + 1) ts) ∙ ap (λ es. es ++ all_of (drop (i + 1) ts)) more

    own : AreSegments t
    own = every-right IsSegment (all_of (take i ts)) t (every-left IsSegment (all_of (take i ts) ++ t) (all_of (drop (i + 1) ts)) (subst AreSegments whole segments))

    own_some : 0 < length t
    own_some = (every-right (λ (u : List ReachEntry). 0 < length u) (take i ts) (t ∷ []) (subst (Every (λ (u : List ReachEntry). 0 < length u)) (taken_more ts i t inside ∙ ap (λ x. take i ts ++ x ∷ []) (sym is)) (every-left (λ (u : List ReachEntry). 0 < length u) (take (i + 1) ts) (drop (i + 1) ts) (subst (Every (λ (u : List ReachEntry). 0 < length u)) (sym (take-append-drop (i + 1) ts)) some)))).0

    part : (a b c n m : ℕ) → n ≡ a + b + c → n ≤ m → b ≤ m
    part a b c n m e f = omega arith

    lengths : length (all_of ts) ≡ length (all_of (take i ts)) + length t + length (all_of (drop (i + 1) ts))
    lengths = ap (λ (es : List ReachEntry). length es) whole ∙ length-append (all_of (take i ts) ++ t) (all_of (drop (i + 1) ts)) ∙ ap (λ n. n + length (all_of (drop (i + 1) ts))) (length-append (all_of (take i ts)) t)

    own_few : length t ≤ 2 ^ h
    own_few = part (length (all_of (take i ts))) (length t) (length (all_of (drop (i + 1) ts))) (length (all_of ts)) (2 ^ h) lengths few

    sum : (a b i h old before after : ℕ) → before ≤ old + 9 * (2 * ((a + i) * h) + i) → after ≤ before + 9 * (2 * ((b + 1) * h) + 1) → after ≤ old + 9 * (2 * ((a + b + (i + 1)) * h) + (i + 1))
    sum a b i h old before after e f = omega arith

-- of the first ones, no more than of all
pub cost_whole : (ls : List Limit) (ts : List (List ReachEntry)) (i old after : ℕ) → i ≤ length ts
    → (AreAlong ls → AreSegments (all_of ts) → Every (λ t. 0 < length t) ts → (h : ℕ) → length (all_of ts) ≤ 2 ^ h → after ≤ old + 9 * (2 * ((length (ids_in ls (all_of (take i ts))) + i) * h) + i))
    → IsCostOfAll ls ts old after
cost_whole ls ts i old after inside c along segments some h few =
    wider (length (ids_in ls (all_of (take i ts)))) (length (ids_in ls (all_of ts))) i (length ts) h old after fewer inside (c along segments some h few)
  where
    at_most : (a b c : ℕ) → c ≡ a + b → a ≤ c
    at_most a b c e = omega arith

    fewer : length (ids_in ls (all_of (take i ts))) ≤ length (ids_in ls (all_of ts))
    fewer = at_most (length (ids_in ls (all_of (take i ts)))) (length (ids_in ls (all_of (drop i ts)))) (length (ids_in ls (all_of ts)))
        (ap (λ us. length (ids_in ls (all_of us))) (sym (take-append-drop i ts)) ∙ ap (λ es. length (ids_in ls es)) (all_of-append (take i ts) (drop i ts)) ∙ ap (λ (ns : List ℕ). length ns) (ids_in-append ls (all_of (take i ts)) (all_of (drop i ts))) ∙ length-append (ids_in ls (all_of (take i ts))) (ids_in ls (all_of (drop i ts))))

    grown : (a b i m : ℕ) → a ≤ b → i ≤ m → (d : ℕ) → (a + i) * d ≤ (b + m) * d
    grown a b i m p q d = mul-le-mul_right d (add (a) b i m p q)
      where
        add : (a b i m : ℕ) → a ≤ b → i ≤ m → a + i ≤ b + m
        add a b i m p q = omega arith

    wider : (a b i m h old after : ℕ) → a ≤ b → i ≤ m → after ≤ old + 9 * (2 * ((a + i) * h) + i) → after ≤ old + 9 * (2 * ((b + m) * h) + m)
    wider a b i m h old after p q r = close ((a + i) * h) ((b + m) * h) i m old after (grown a b i m p q h) q r
      where
        close : (x y i m old after : ℕ) → x ≤ y → i ≤ m → after ≤ old + 9 * (2 * x + i) → after ≤ old + 9 * (2 * y + m)
        close x y i m old after p q r = omega arith

pow_some : (a : ℕ) → 1 ≤ 2 ^ a
pow_some zero = omega arith
pow_some (suc a) = twice a (pow_some a)
  where
    twice : (a : ℕ) → 1 ≤ 2 ^ a → 1 ≤ 2 ^ suc a
    twice a h = omega arith

pow_back : (a b : ℕ) → 2 ^ a ≤ 2 ^ b → a ≤ b
pow_back zero b h = omega arith
pow_back (suc a) zero h = absurd (omega (arith, h, pow_some a))
pow_back (suc a) (suc b) h = more a b (pow_back a b (less a b h))
  where
    less : (a b : ℕ) → 2 ^ suc a ≤ 2 ^ suc b → 2 ^ a ≤ 2 ^ b
    less a b h = omega arith

    more : (a b : ℕ) → a ≤ b → suc a ≤ suc b
    more a b h = omega arith

-- of trees that fall, and a list beside them
pub few_nodes : (ls : List Limit) (ts : List (List ReachEntry)) (tail view : List ReachEntry) (old after : ℕ) → all_of ts ++ tail ≡ view → AreFalling ts → IsCostOfAll ls ts old after → AreAlong ls → AreSegments view → after ≤ old + 9 * most_nodes ls view
few_nodes ls ts tail view old after is falling cost along segments =
    subst (λ es. after ≤ old + 9 * most_nodes ls es) is
    (enough (length (ids_in ls (all_of ts))) (length (ids_in ls (all_of ts ++ tail))) (length ts) d old after fewer few (cost along own (all_some ts falling) d (under (length (all_of ts)) (2 ^ d) here)))
  where
    d : ℕ
    d = length_of (pos (length (all_of ts ++ tail)))

    within : length (all_of ts ++ tail) < 2 ^ d
    within = within_length (pos (length (all_of ts ++ tail)))

    at_most : (a b c : ℕ) → a + b < c → a < c
    at_most a b c h = omega arith

    here : length (all_of ts) < 2 ^ d
    here = at_most (length (all_of ts)) (length tail) (2 ^ d) (subst (λ n. n < 2 ^ d) (length-append (all_of ts) tail) within)

    under : (a b : ℕ) → a < b → a ≤ b
    under a b h = omega arith

    own : AreSegments (all_of ts)
    own = every-left IsSegment (all_of ts) tail (subst AreSegments (sym is) segments)

    part : (a b c : ℕ) → c ≡ a + b → a ≤ c
    part a b c e = omega arith

    fewer : length (ids_in ls (all_of ts)) ≤ length (ids_in ls (all_of ts ++ tail))
    fewer = part (length (ids_in ls (all_of ts))) (length (ids_in ls tail)) (length (ids_in ls (all_of ts ++ tail))) (ap (λ (ns : List ℕ). length ns) (ids_in-append ls (all_of ts) tail) ∙ length-append (ids_in ls (all_of ts)) (ids_in ls tail))

    smaller : (a b n : ℕ) → a ≤ n + 1 → n < b → a ≤ b
    smaller a b n h k = omega arith

    few : length ts ≤ d
    few = pow_back (length ts) d (smaller (2 ^ length ts) (2 ^ d) (length (all_of ts)) (doubled ts falling) here)

    grown : (a b i m : ℕ) → a ≤ b → i ≤ m → (d : ℕ) → (a + i) * d ≤ (b + m) * d
    grown a b i m p q d = mul-le-mul_right d (add a b i m p q)
      where
        add : (a b i m : ℕ) → a ≤ b → i ≤ m → a + i ≤ b + m
        add a b i m p q = omega arith

    enough : (a b m d old after : ℕ) → a ≤ b → m ≤ d → after ≤ old + 9 * (2 * ((a + m) * d) + m) → after ≤ old + 9 * ((2 * b + 2 * d + 1) * d)
    enough a b m d old after p q r = close ((a + m) * d) b m d old after (grown a b m d p q d) q r
      where
        close : (x b m d old after : ℕ) → x ≤ (b + d) * d → m ≤ d → after ≤ old + 9 * (2 * x + m) → after ≤ old + 9 * ((2 * b + 2 * d + 1) * d)
        close x b m d old after p q r = omega arith

-- and of the list beside them
pub few_steps : (ls : List Limit) (ts : List (List ReachEntry)) (tail : List ReachEntry) (x : Hulls) (old middle after : ℕ) → record { entries = all_of ts ++ tail; loose = length tail } ≡ x → AreFalling ts → IsCostOfAll ls ts old middle → after ≤ middle + length tail
    → AreAlong ls → AreSegments x.entries → after ≤ old + most_steps ls x
few_steps ls ts tail x old middle after is falling cost rest along segments =
    subst (λ n. after ≤ old + (9 * most_nodes ls x.entries + n)) (ap (λ (y : Hulls). y.loose) is)
    (sum old middle after (most_nodes ls x.entries) (length tail) (few_nodes ls ts tail x.entries old middle (ap (λ (y : Hulls). y.entries) is) falling cost along segments) rest)
  where
    sum : (old middle after n b : ℕ) → middle ≤ old + 9 * n → after ≤ middle + b → after ≤ old + (9 * n + b)
    sum old middle after n b h k = omega arith

-- ---- how many trees stay

-- none are behind all
pub kept_start : (ts : List (List ReachEntry)) (b : ℕ) → b < 2 ^ 64 → b ≡ min (length (all_of (drop (length ts) ts)) + b) (2 ^ 64 - 1)
kept_start ts b h = same (length (all_of (drop (length ts) ts))) b (ap (λ (us : List (List ReachEntry)). length (all_of us)) (drop_all (length ts) ts (le (length ts)))) h
  where
    le : (n : ℕ) → n ≤ n
    le n = omega arith

    same : (a b : ℕ) → a ≡ 0 → b < 2 ^ 64 → b ≡ min (a + b) (2 ^ 64 - 1)
    same a b e h = omega arith

-- one tree more is behind
pub kept_more : (ts : List (List ReachEntry)) (keep b c d l m : ℕ) (t : List ReachEntry) → 0 < keep → keep ≤ length ts → t ≡ get_or ts (keep - 1) t → c ≡ min (length (all_of (drop keep ts)) + b) m → l ≡ length t → d ≡ min (c + l) m → d ≡ min (length (all_of (drop (keep - 1) ts)) + b) m
kept_more ts zero b c d l m t s i is e f g = absurd (omega (arith, s))
kept_more ts (suc k) b c d l m t s i is e f g =
    sum (length (all_of (drop (suc k) ts))) b c d l (length (all_of (drop (suc k - 1) ts))) m e g (ap (λ j. length (all_of (drop j ts))) (less k) ∙ ap (λ (us : List (List ReachEntry)). length (all_of us)) (drop-cons ts k t (omega (arith, i))) ∙ length-append (get_or ts k t) (all_of (drop (suc k) ts)) ∙ ap (λ n. n + length (all_of (drop (suc k) ts))) (sym (f ∙ ap (λ (u : List ReachEntry). length u) (is ∙ ap (λ j. get_or ts j t) (less k)))))
  where
    less : (k : ℕ) → suc k - 1 ≡ k
    less k = omega arith

    sum : (a b c d l n m : ℕ) → c ≡ min (a + b) m → d ≡ min (c + l) m → n ≡ l + a → d ≡ min (n + b) m
    sum a b c d l n m e f g = omega arith

-- ---- the last ones gathered

pub gathered_more : (ts first new : List (List ReachEntry)) (k keep : ℕ) (x : List ReachEntry) → k + 1 ≡ length ts → new ≡ take k (set ts k x) → keep < length ts → ts ≡ take (length ts) first → (new ≡ take (length new) first) × (min keep (length first) ≤ length new)
gathered_more ts first new k keep x e n s f = (is ∙ ap (λ j. take j first) (sym count), at_least keep (length first) (length ts) k (length new) e s count)
  where
    below : (k n : ℕ) → k + 1 ≡ n → k ≤ n
    below k n e = omega arith

    is : new ≡ take k first
    is = n ∙ take-set ts k x ∙ ap (take k) f ∙ take-take k (length ts) first (below k (length ts) e)

    shorter : (k n m : ℕ) → k + 1 ≡ n → n ≡ min n m → min k m ≡ k
    shorter k n m e f = omega arith

    count : length new ≡ k
    count = ap (λ (us : List (List ReachEntry)). length us) is ∙ length-take k first ∙ shorter k (length ts) (length first) e (ap (λ (us : List (List ReachEntry)). length us) f ∙ length-take (length ts) first)

    at_least : (keep m n k c : ℕ) → k + 1 ≡ n → keep < n → c ≡ k → min keep m ≤ c
    at_least keep m n k c e s f = omega arith

pub gathered_same : (ts first : List (List ReachEntry)) (k : ℕ) (t x : List ReachEntry) → t ≡ get_or ts k t → x ≡ t → ts ≡ take (length ts) first → set ts k x ≡ take (length (set ts k x)) first
gathered_same ts first k t x is e f =
    let same : set ts k x ≡ ts = ap (λ y. set ts k y) (e ∙ is) ∙ set-get_or ts k t in
    same ∙ f ∙ ap (λ (us : List (List ReachEntry)). take (length us) first) (sym same)

pub gathered_all : (ts first : List (List ReachEntry)) (keep : ℕ) → length ts ≤ keep → ts ≡ take (length ts) first → min keep (length first) ≤ length ts → length ts ≡ min keep (length first)
gathered_all ts first keep h f s = between (length ts) keep (length first) h (ap (λ (us : List (List ReachEntry)). length us) f ∙ length-take (length ts) first) s
  where
    between : (n k m : ℕ) → n ≤ k → n ≡ min n m → min k m ≤ n → n ≡ min k m
    between n k m h e s = omega arith

-- there is room for the list that they are gathered in
pub room_settled : (old new : List (List ReachEntry)) (tail gathered : List ReachEntry) (keep b : ℕ) → keep ≤ length old → new ≡ take (length new) old → length new ≡ min keep (length old) → all_of new ++ gathered ≡ all_of old ++ tail → b ≡ length tail → IsRoomFor (length (all_of (drop keep old)) + b) (take keep old) → IsRoomFor (length gathered) new
room_settled old new tail gathered keep b inside first count moved is room = subst (IsRoomFor (length gathered)) (sym own) (subst (λ n. IsRoomFor n (take keep old)) lengths room)
  where
    all : (a b c : ℕ) → c ≡ min a b → a ≤ b → c ≡ a
    all a b c e h = omega arith

    own : new ≡ take keep old
    own = first ∙ ap (λ n. take n old) (all keep (length old) (length new) count inside)

    whole : length (all_of old) ≡ length (all_of new) + length (all_of (drop keep old))
    whole = ap (λ (us : List (List ReachEntry)). length (all_of us)) (sym (take-append-drop keep old)) ∙ ap (λ (es : List ReachEntry). length es) (all_of-append (take keep old) (drop keep old)) ∙ length-append (all_of (take keep old)) (all_of (drop keep old)) ∙ ap (λ (us : List (List ReachEntry)). length (all_of us) + length (all_of (drop keep old))) (sym own)

    both : length (all_of new) + length gathered ≡ length (all_of old) + length tail
    both = sym (length-append (all_of new) gathered) ∙ ap (λ (es : List ReachEntry). length es) moved ∙ length-append (all_of old) tail

    rest : (a b c d e f : ℕ) → a ≡ b + c → b + d ≡ a + e → f ≡ e → c + f ≡ d
    rest a b c d e f p q r = omega arith

    lengths : length (all_of (drop keep old)) + b ≡ length gathered
    lengths = rest (length (all_of old)) (length (all_of new)) (length (all_of (drop keep old))) (length gathered) (length tail) b whole both is
