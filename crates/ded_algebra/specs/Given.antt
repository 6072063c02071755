-- Relations that are given by name.
use Rattle.std.specs.Prelude.{◌≡◌, ◌<◌, ℕ, Bool, false, Option, Some, None, List, [], ◌∷◌, length, map, remove, slice_get, if◌then◌else◌}
use Rattle.std.specs.Str.{bytes_eq}
use Rattle.std.specs.List.{list_any}
use Rattle.ded_model.specs.Row.{Atom}
use Rattle.ded_model.specs.Catalogue.{Entry, relation, Catalogue}
use Rattle.ded_algebra.specs.declared.given.GivenRelation.{GivenRelation}

-- the tuples under numbers that don't count
abbrev pub unnumbered : List (List Atom) → List (ℕ × List Atom)
unnumbered ts = map (λ t. (0, t)) ts

-- the entry of a relation
abbrev pub given_entry : GivenRelation → Entry
given_entry r = relation r.name r.heading 0 (unnumbered r.tuples)

-- the catalogue of the relations, in order
abbrev pub given_catalogue : List GivenRelation → Catalogue
given_catalogue rs = record { limit = 0; entries = map given_entry rs }

-- one of them has the name
abbrev pub has_name : List ℕ → List GivenRelation → Bool
has_name n rs = list_any (λ r. bytes_eq n r.name) rs

-- no two have one name
abbrev pub AreNamedApart : List GivenRelation → Type 0
AreNamedApart [] = Unit {0}
AreNamedApart (r ∷ rs) = (has_name r.name rs ≡ false) × AreNamedApart rs

-- the relation of the name
abbrev pub given_under : List ℕ → List GivenRelation → Option GivenRelation
given_under n [] = None
given_under n (r ∷ rs) = if bytes_eq n r.name then Some r else given_under n rs

-- the relations of other names, in order
abbrev pub without_name : List ℕ → List GivenRelation → List GivenRelation
without_name n [] = []
without_name n (r ∷ rs) = if bytes_eq n r.name then without_name n rs else r ∷ without_name n rs

-- the relation of the name stands at the place, and without this place the others are left; or else none has the name
abbrev pub IsPlace : List ℕ → List GivenRelation → Option ℕ → Type 0
IsPlace n rs None = has_name n rs ≡ false
IsPlace n rs (Some i) = (i < length rs) × (given_under n rs ≡ slice_get rs i) × (without_name n rs ≡ remove rs i)
