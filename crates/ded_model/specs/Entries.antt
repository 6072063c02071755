-- What a catalogue has under a name.
use Rattle.std.specs.Prelude.{ℕ, Bool, false, Option, Some, None, List, [], ◌∷◌, if◌then◌else◌}
use Rattle.std.specs.Str.{bytes_eq}
use Rattle.ded_model.specs.declared.name.Column.{Column}
use Rattle.ded_model.specs.Catalogue.{Entry, Catalogue, entry_name}
use Rattle.ded_model.specs.Catalogue as entry
use Rattle.ded_model.specs.Form.{Form, speaks_of}
use Rattle.ded_model.specs.Known.{KnownNames, known_of, columns_with}
use Rattle.ded_model.specs.Row.{Atom}

-- the first entry of a name; the names of a well formed catalogue are distinct
abbrev pub entry_of : List Entry → List ℕ → Option Entry
entry_of [] n = None
entry_of (e ∷ es) n = if bytes_eq n (entry_name e) then Some e else entry_of es n

-- the tuples of a relation with their numbers; none where the entry is a view, or where there is no entry
abbrev pub stored_in : Option Entry → List (ℕ × List Atom)
stored_in None = []
stored_in (Some (entry.relation n h m ts)) = ts
stored_in (Some (entry.view n h f)) = []

-- the tuples of a relation with their numbers, and None where the entry is no relation
abbrev pub relation_in : Option Entry → Option (List (ℕ × List Atom))
relation_in None = None
relation_in (Some (entry.relation n h m ts)) = Some ts
relation_in (Some (entry.view n h f)) = None

-- the columns and the formula of a view, and None where the entry is no view
abbrev pub view_in : Option Entry → Option (List Column × Form)
view_in None = None
view_in (Some (entry.relation n h m ts)) = None
view_in (Some (entry.view n h f)) = Some (h, f)

-- how many inserts a relation has accepted; 0 where the entry is a view, or where there is no entry
abbrev pub inserts_in : Option Entry → ℕ
inserts_in None = 0
inserts_in (Some (entry.relation n h m ts)) = m
inserts_in (Some (entry.view n h f)) = 0

-- the tuples of the relation of this name with their numbers; none where no relation has the name
abbrev pub tuples_in : Catalogue → List ℕ → List (ℕ × List Atom)
tuples_in c n = stored_in (entry_of c.entries n)

-- what is known of the names of the catalogue
abbrev pub known : Catalogue → KnownNames
known c = known_of c.entries

-- the columns of the relation or view of this name; none where no entry has the name
abbrev pub columns_in : Catalogue → List ℕ → List Column
columns_in c n = columns_with (known c n)

-- the entry is a view whose formula speaks of the name
abbrev pub entry_uses : List ℕ → Entry → Bool
entry_uses n (entry.relation m h i ts) = false
entry_uses n (entry.view m h f) = speaks_of n f
