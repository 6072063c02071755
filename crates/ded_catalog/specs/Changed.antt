-- A relation in the place of another.
use Rattle.std.specs.Prelude.{◌≡◌, ℕ, Some, List}
use Rattle.std.specs.Map.{lookup, set_value}
use Rattle.std.specs.Str.{bytes_eq}
use Rattle.ded_catalog.specs.declared.stored.Stored.{Stored}
use Rattle.ded_catalog.specs.declared.stored.Stored.TheVariants as stored
use Rattle.ded_relation.specs.declared.relation.Relation.{Relation}

-- both are relations, of which the fact is so
pub record AreRelations (s w : Stored) (Fact : Relation → Relation → Type 0) : Type 0 where
  pub old : Relation
  pub new : Relation
  pub was : s ≡ stored.Relation old
  pub is : w ≡ stored.Relation new
  pub so : Fact old new

-- the relation of the name is another one, of which the fact is so
pub record ChangesRelation (es fs : List (List ℕ × Stored)) (n : List ℕ) (Fact : Relation → Relation → Type 0) : Type 0 where
  pub old : Relation
  pub new : Relation
  pub was : lookup (bytes_eq n) es ≡ Some (stored.Relation old)
  pub is : fs ≡ set_value (bytes_eq n) es (stored.Relation new)
  pub so : Fact old new
