-- How many views speak of a name, kept with what stands under it.
use Rattle.std.specs.Prelude.{◌≡◌, ◌+◌, ◌<◌, ◌^◌, ℕ, Bool, true, Option, Some, IfSome, List, [], ◌∷◌, map, cond}
use Rattle.std.specs.List.{list_any, AllZip}
use Rattle.std.specs.Map.{lookup, set_value}
use Rattle.std.specs.Option.{option_map}
use Rattle.std.specs.Str.{bytes_eq}
use Rattle.ded_model.specs.Form.{form}
use Rattle.ded_catalog.specs.declared.entries.NameEntry.{NameEntry}
use Rattle.ded_relation.specs.declared.hashing.NameHashing.{NameHashing}
use Rattle.ded_relation.specs.declared.relation.Relation as declared
use Rattle.ded_catalog.specs.declared.stored.Stored.{Stored}
use Rattle.ded_catalog.specs.declared.stored.Stored.TheVariants.{Relation, View}
use Rattle.ded_catalog.specs.Changed.{AreRelations}
use Rattle.ded_catalog.specs.Copies.{IsCopy}
use Rattle.ded_catalog.specs.Mentions.{AreMentions}
use Rattle.ded_catalog.specs.State.{stored_uses}

-- what stands under each name with its number, in order of definition, and how names are hashed
pub record Counted : Type 0 where
  pub entries : List (List ℕ × NameEntry)
  pub hashing : NameHashing

-- what stands under each name, in order of definition, and how names are hashed
pub record Defined : Type 0 where
  pub entries : List (List ℕ × Stored)
  pub hashing : NameHashing

-- the same without the numbers
abbrev pub without_users : List (List ℕ × NameEntry) → List (List ℕ × Stored)
without_users es = map (λ e. (e.0, e.1.stored)) es

-- ---- the numbers

-- one more, or the same
abbrev pub more : Bool → ℕ → ℕ
more b k = cond b (k + 1) k

-- how many of the entries are views whose formulas speak of the name
abbrev pub users_in : List (List ℕ × Stored) → List ℕ → ℕ
users_in [] n = 0
users_in (e ∷ es) n = more (stored_uses n e.1) (users_in es n)

-- the number that is kept with the name, none where it isn't defined
abbrev pub users_at : List ℕ → List (List ℕ × NameEntry) → Option ℕ
users_at n es = option_map (λ e. e.users) (lookup (bytes_eq n) es)

-- each number is that of the views that speak of its name, and one more where the name passes
pub record AreCounted (test : List ℕ → Bool) (es : List (List ℕ × NameEntry)) : Type 0 where
  pub each : (n : List ℕ) → IfSome (users_at n es) (λ k. k ≡ more (test n) (users_in (without_users es) n))

-- each number has room for one more
pub record HaveRoom (es : List (List ℕ × NameEntry)) : Type 0 where
  pub each : (n : List ℕ) → IfSome (users_at n es) (λ k. k < 2 ^ 63)

-- no number of the names is 0
pub record AreUsed (ns : List (List ℕ)) (es : List (List ℕ × NameEntry)) : Type 0 where
  pub each : (n : List ℕ) → list_any (bytes_eq n) ns ≡ true → IfSome (users_at n es) (λ k. 0 < k)

-- the number of each name that passes is one more, and all else is the same
pub record Raises (test : List ℕ → Bool) (old new : List (List ℕ × NameEntry)) : Type 0 where
  pub stored : without_users new ≡ without_users old
  pub users : (n : List ℕ) → users_at n new ≡ option_map (more (test n)) (users_at n old)

-- a view has the names that its formula speaks of
abbrev pub HasMentions : Stored → Type 0
HasMentions (Relation r) = Unit {0}
HasMentions (View v) = AreMentions v.mentions.items (form v.formula)

-- ---- what is done with them

-- the relation of the name is another one, of which the fact is so
pub record Alters (es fs : List (List ℕ × NameEntry)) (n : List ℕ) (Fact : declared.Relation → declared.Relation → Type 0) : Type 0 where
  pub old : NameEntry
  pub new : NameEntry
  pub was : lookup (bytes_eq n) es ≡ Some old
  pub is : fs ≡ set_value (bytes_eq n) es new
  pub users : new.users ≡ old.users
  pub so : AreRelations old.stored new.stored Fact

-- the second are copies of the first
abbrev pub AreCopied : List (List ℕ × NameEntry) → List (List ℕ × NameEntry) → Type 0
AreCopied es fs = AllZip (λ p q. (q.0 ≡ p.0) × IsCopy p.1.stored q.1.stored × (q.1.users ≡ p.1.users)) es fs
