-- Trees in lists: behind each node stand those below it, and the entries under a node stand side by side.
use Rattle.std.specs.Prelude.{◌≡◌, ◌<◌, ◌≤◌, ◌+◌, ◌*◌, ◌^◌, ◌⊎◌, ℕ, zero, suc, ℤ, true, List, [], ◌∷◌, ◌++◌, take, drop, length, if◌then◌else◌}
use Rattle.ded_model.proofs.Lists.{flat, Every}
use Rattle.ded_ranges.specs.declared.reach.Range.{Range}
use Rattle.ded_ranges.specs.declared.limit.Limit.{Limit}
use Rattle.ded_hull.specs.declared.entry.ReachEntry.{ReachEntry}
use Rattle.ded_hull.specs.declared.tree.HullNode.{HullNode}
use Rattle.ded_hull.specs.Entries.{ids_in, Covers}
use Rattle.ded_ranges.specs.Reaches.{hull}
use Rattle.ded_ranges.specs.Limits.{are_met, may_hold}
use Rattle.ded_hull.specs.Segments.{AreSegments, AreBefore, IsHull}

-- how many entries a node has for its own: all of its count where no nodes are below it, else none
abbrev pub owns : ℕ → ℕ → ℕ
owns zero count = count
owns (suc below) count = 0

-- how many entries the nodes have for their own
abbrev pub owned : List HullNode → ℕ
owned [] = 0
owned (n ∷ ns) = owns n.below n.count + owned ns

-- of a node with the nodes behind it and the entries from its first on: its hull contains the entries of it and of the nodes below
-- it, these are as many as it says, and few are its own
pub record IsRoot (n : HullNode) (ns : List HullNode) (es : List ReachEntry) : Type 0 where
  pub fits : n.below ≤ length ns
  pub inside : n.count ≤ length es
  pub few : owns n.below n.count ≤ 8
  pub covers : Covers n.hull (take n.count es)
  pub whole : owns n.below n.count + owned (take n.below ns) ≡ n.count

-- each node is a root, and each entry is one node's own
abbrev pub IsTree : List HullNode → List ReachEntry → Type 0
IsTree [] es = es ≡ []
IsTree (n ∷ ns) es = IsRoot n ns es × IsTree ns (drop (owns n.below n.count) es)

-- the hull of the first node contains all entries
abbrev pub IsOver : List HullNode → List ReachEntry → Type 0
IsOver [] es = Unit {0}
IsOver (n ∷ ns) es = Covers n.hull es

-- the hull of the first nodes of two lists, if there are both
abbrev pub HullsJoined : List HullNode → List HullNode → List Range → Type 0
HullsJoined [] ms h = Unit {0}
HullsJoined (n ∷ ns) [] h = Unit {0}
HullsJoined (n ∷ ns) (m ∷ ms) h = h ≡ hull n.hull m.hull

-- the entries of all trees in order
abbrev pub all_of : List (List ReachEntry) → List ReachEntry
all_of ts = flat (λ es. es) ts

-- ---- halves

-- a node with none below it
pub record IsLeaf (ns : List HullNode) (es : List ReachEntry) : Type 0 where
  pub node : HullNode
  pub alone : ns ≡ node ∷ []
  pub below : node.below ≡ 0
  pub ends : IsHull node.hull es

-- a node over two parts, of which the first has no later middles than the second
pub record IsFork (Part : List HullNode → List ReachEntry → Type 0) (ns : List HullNode) (es : List ReachEntry) : Type 0 where
  pub node : HullNode
  pub first : List HullNode
  pub second : List HullNode
  pub left : List ReachEntry
  pub right : List ReachEntry
  pub nodes : ns ≡ node ∷ (first ++ second)
  pub entries : es ≡ left ++ right
  pub below : node.below ≡ length first + length second
  pub ends : IsHull node.hull es
  pub before : AreBefore left right
  pub front : Part first left
  pub back : Part second right

-- halved at most so many times
abbrev pub IsHalved : ℕ → List HullNode → List ReachEntry → Type 0
IsHalved zero ns es = IsLeaf ns es
IsHalved (suc h) ns es = IsLeaf ns es ⊎ IsFork (IsHalved h) ns es

-- a list of segments is halved at most so many times, if there are at most as many as the power of 2
abbrev pub IsBalanced : List HullNode → List ReachEntry → Type 0
IsBalanced ns es = AreSegments es → 0 < length es → (h : ℕ) → length es ≤ 2 ^ h → IsHalved h ns es

-- the hulls of the nodes have one range each
abbrev pub AreNarrow : List HullNode → Type 0
AreNarrow ns = Every (λ n. length n.hull ≡ 1) ns

-- ---- look-ups

-- how many of the nodes are looked at, behind so many that are passed over: where the limits can't hold in the hull of one, those below
-- it are passed over
abbrev pub looked_at : List Limit → ℕ → List HullNode → ℕ
looked_at ls skip [] = 0
looked_at ls (suc skip) (n ∷ ns) = looked_at ls skip ns
looked_at ls zero (n ∷ ns) = 1 + looked_at ls (if may_hold n.hull ls then 0 else n.below) ns

-- with what comes next in the tree, what was found is the same in the end, and so is how many nodes are looked at
pub record IsStep (ls : List Limit) (n : HullNode) (behind : List HullNode) (es : List ReachEntry) (next : List HullNode) (rest : List ReachEntry) (old new : List ℕ) : Type 0 where
  pub tree : IsTree next rest
  pub shorter : length next ≤ length behind
  pub found : new ++ ids_in ls rest ≡ old ++ ids_in ls es
  pub narrow : AreNarrow (n ∷ behind) → AreNarrow next
  pub looks : AreNarrow (n ∷ behind) → looked_at ls 0 (n ∷ behind) ≡ 1 + looked_at ls 0 next

-- ---- how many nodes a look-up looks at

-- each limit has at most one term, and some values meet them all
pub record AreAlong (ls : List Limit) : Type 0 where
  pub single : Every (λ l. length l.terms.items ≤ 1) ls
  pub values : ℕ → ℤ
  pub den : ℕ
  pub some : 0 < den
  pub met : are_met values den ls ≡ true

-- with k entries found in a list that is halved h times, at most 2 (k + 1) h + 1 nodes, and 8 entries of each
abbrev pub IsCost : List Limit → List ReachEntry → ℕ → ℕ → Type 0
IsCost ls es before after =
    AreAlong ls → AreSegments es → 0 < length es → (h : ℕ) → length es ≤ 2 ^ h → after ≤ before + 9 * (2 * ((length (ids_in ls es) + 1) * h) + 1)

-- of several lists: 2 (k + m) h + m nodes, with m lists
abbrev pub IsCostOfAll : List Limit → List (List ReachEntry) → ℕ → ℕ → Type 0
IsCostOfAll ls ts before after =
    AreAlong ls → AreSegments (all_of ts) → Every (λ t. 0 < length t) ts → (h : ℕ) → length (all_of ts) ≤ 2 ^ h → after ≤ before + 9 * (2 * ((length (ids_in ls (all_of ts)) + length ts) * h) + length ts)

-- ---- lists of trees

-- at least twice as many entries as the next list has, and some
abbrev pub IsAhead : List ReachEntry → List (List ReachEntry) → Type 0
IsAhead t [] = 0 < length t
IsAhead t (u ∷ us) = 2 * length u ≤ length t

-- each list has at least twice as many entries as the next one, and the last one has some
abbrev pub AreFalling : List (List ReachEntry) → Type 0
AreFalling [] = Unit {0}
AreFalling (t ∷ ts) = IsAhead t ts × AreFalling ts

-- the last list, if there is one, has at least twice so many entries
abbrev pub IsRoomFor : ℕ → List (List ReachEntry) → Type 0
IsRoomFor b [] = Unit {0}
IsRoomFor b (t ∷ []) = 2 * b ≤ length t
IsRoomFor b (t ∷ (u ∷ us)) = IsRoomFor b (u ∷ us)
