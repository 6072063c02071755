-- What a catalogue of the program stands for.
use Rattle.std.specs.Prelude.{ℕ, Bool, true, false, Option, Some, None, List, map}
use Rattle.ded_model.specs.declared.name.Column.{Column}
use Rattle.ded_model.specs.Catalogue.{Entry, Catalogue}
use Rattle.ded_model.specs.Catalogue as entry
use Rattle.std.specs.Map.{lookup}
use Rattle.std.specs.Str.{bytes_eq}
use Rattle.ded_model.specs.Form.{FormAtom, compare, member, form, speaks_of}
use Rattle.ded_model.specs.Made.{base}
use Rattle.ded_model.specs.Known.{Known}
use Rattle.ded_relation.specs.declared.hashing.NameHashing.{NameHashing}
use Rattle.ded_relation.specs.declared.relation.Relation as declared
use Rattle.ded_catalog.specs.declared.stored.View as declared_view
use Rattle.ded_catalog.specs.declared.stored.Stored.{Stored}
use Rattle.ded_catalog.specs.declared.stored.Stored.TheVariants.{Relation, View}

-- how many tuples a relation may have, what stands under each name, in order of definition, and how names are hashed
pub record Table : Type 0 where
  pub limit : ℕ
  pub names : List (List ℕ × Stored)
  pub hashing : NameHashing

-- the entry of a name
abbrev pub entry_form : List ℕ → Stored → Entry
entry_form n (Relation r) = entry.relation n r.heading r.inserts r.tuples.entries
entry_form n (View v) = entry.view n v.heading (form v.formula)

-- the entries of the names, in order
abbrev pub entry_forms : List (List ℕ × Stored) → List Entry
entry_forms es = map (λ e. entry_form e.0 e.1) es

-- the catalogue
abbrev pub catalogue_of : Table → Catalogue
catalogue_of t = record { limit = t.limit; entries = entry_forms t.names }

-- ---- of what stands under a name

-- what is known of it
abbrev pub stored_known : Stored → Known
stored_known (Relation r) = record { is_view = false; columns = r.heading; level = 0 }
stored_known (View v) = record { is_view = true; columns = v.heading; level = v.level }

-- the same, and the other where nothing stands there
abbrev pub known_with : Option Stored → Option Known → Option Known
known_with None k = k
known_with (Some s) k = Some (stored_known s)

-- the relation, if it is one
abbrev pub relation_at : Option Stored → Option declared.Relation
relation_at None = None
relation_at (Some (Relation r)) = Some r
relation_at (Some (View v)) = None

-- the view, if it is one
abbrev pub view_at : Option Stored → Option declared_view.View
view_at None = None
view_at (Some (Relation r)) = None
view_at (Some (View v)) = Some v

-- the columns
abbrev pub heading_at : Option Stored → Option (List Column)
heading_at None = None
heading_at (Some (Relation r)) = Some r.heading
heading_at (Some (View v)) = Some v.heading

-- whether it is a view whose formula speaks of the name
abbrev pub stored_uses : List ℕ → Stored → Bool
stored_uses n (Relation r) = false
stored_uses n (View v) = speaks_of n (form v.formula)

-- the level of a view, and 0 of a relation or of none
abbrev pub level_at : Option Stored → ℕ
level_at None = 0
level_at (Some (Relation r)) = 0
level_at (Some (View v)) = v.level

-- the level of the name that an atom speaks of
abbrev pub atom_level_in : List (List ℕ × Stored) → FormAtom → ℕ
atom_level_in es (compare l op r) = 0
atom_level_in es (member n ts) = level_at (lookup (bytes_eq (base n)) es)
