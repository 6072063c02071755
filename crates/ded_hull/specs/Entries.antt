-- Entries: reaches under numbers, and in which of them limits may hold.
use Rattle.std.specs.Prelude.{◌≡◌, ◌↔◌, ◌<◌, ◌+◌, ◌*◌, ℕ, ℤ, pos, true, List, [], ◌∷◌, length, if◌then◌else◌, is_some}
use Rattle.std.specs.BTreeMap.{is_at}
use Rattle.std.specs.List.{Contains, filter}
use Rattle.std.specs.List.Sorted.{IsStrictlyIncreasing}
use Rattle.std.specs.Map.{lookup}
use Rattle.std.specs.Ordering.{nat_cmp}
use Rattle.ded_num.specs.Length.{length_of}
use Rattle.ded_model.proofs.Lists.{Every, Some}
use Rattle.ded_ranges.specs.declared.reach.Range.{Range}
use Rattle.ded_ranges.specs.declared.limit.Limit.{Limit}
use Rattle.ded_hull.specs.declared.entry.ReachEntry.{ReachEntry}
use Rattle.ded_ranges.specs.Reaches.{Lies, IsWithin}
use Rattle.ded_ranges.specs.Limits.{are_met, may_hold}

-- the numbers of the entries in whose reaches the limits may hold, in order
abbrev pub ids_in : List Limit → List ReachEntry → List ℕ
ids_in ls [] = []
ids_in ls (e ∷ es) = if may_hold e.reach ls then e.id ∷ ids_in ls es else ids_in ls es

-- the entries whose numbers are keys, in order
abbrev pub of_keys : {V : Type 0} → List (ℕ × V) → List ReachEntry → List ReachEntry
of_keys vs es = filter (λ e. is_some (lookup (is_at (nat_cmp e.id)) vs)) es

-- the entry has the number, and the limits may hold in its reach
abbrev pub IsPassing : List Limit → ℕ → ReachEntry → Type 0
IsPassing ls i e = (e.id ≡ i) × (may_hold e.reach ls ≡ true)

-- the numbers of the entries in whose reaches the limits may hold, ascending
pub record AreFound (ls : List Limit) (es : List ReachEntry) (ids : List ℕ) : Type 0 where
  pub ascending : IsStrictlyIncreasing ids
  pub exact : (i : ℕ) → Contains ids i ↔ Some (IsPassing ls i) es

-- no entry is lost in whose reach lie values that meet all limits
abbrev pub IsComplete : List Limit → List ReachEntry → List ℕ → Type 0
IsComplete ls es ids = (v : ℕ → ℤ) (den : ℕ) → 0 < den → are_met v den ls ≡ true → Every (λ e. Lies e.reach v den → Contains ids e.id) es

-- how many nodes a look-up may look at where entries have one range each, and limits one term at most that some values meet: with k
-- entries found of n, (2 k + 2 d + 1) d, where d is the count of binary digits of n
abbrev pub most_nodes : List Limit → List ReachEntry → ℕ
most_nodes ls es = (2 * length (ids_in ls es) + 2 * length_of (pos (length es)) + 1) * length_of (pos (length es))

-- the entries of an index, and how many of them stand in no tree
pub record Hulls : Type 0 where
  pub entries : List ReachEntry
  pub loose : ℕ

-- how many nodes and entries a look-up may look at then: 9 for each of these nodes, and the entries that stand in no tree
abbrev pub most_steps : List Limit → Hulls → ℕ
most_steps ls x = 9 * most_nodes ls x.entries + x.loose

-- the hull contains the reaches of all entries
abbrev pub Covers : List Range → List ReachEntry → Type 0
Covers h es = Every (λ e. IsWithin e.reach h) es
