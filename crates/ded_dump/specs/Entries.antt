-- The lines of a catalogue: a script that makes it again.
use Rattle.std.specs.Prelude.{◌≡◌, ℕ, List, [], ◌∷◌, ◌++◌, codes, Option, Some, None}
use Rattle.ded_model.specs.declared.name.Column.{Column}
use Rattle.ded_model.specs.Entries.{entry_of}
use Rattle.ded_model.specs.Catalogue.{Entry, relation, view, Catalogue}
use Rattle.ded_model.specs.Form.{Form}
use Rattle.ded_model.specs.Row.{Atom}
use Rattle.ded_print.specs.Tuples.{column_names, tuple_text}
use Rattle.ded_dump.specs.Formulas.{formula_text}
use Rattle.ded_dump.specs.Headings.{heading_text}

-- the script is one of version 2
abbrev pub header_line : List ℕ
header_line = codes "dedale 2;"

-- `relation N(x, n text);`
abbrev pub relation_line : List ℕ → List Column → List ℕ
relation_line n h = codes "relation " ++ (n ++ (heading_text h ++ codes ";"))

-- `insert N { .. };`, with the tuple as replies have it
abbrev pub insert_line : List ℕ → List Column → List Atom → List ℕ
insert_line n h t = codes "insert " ++ (n ++ (codes " " ++ (tuple_text (column_names h) t ++ codes ";")))

-- `view N(x, n text) := F;`
abbrev pub view_line : List ℕ → List Column → Form → List ℕ
view_line n h f = codes "view " ++ (n ++ (heading_text h ++ (codes " := " ++ (formula_text h f ++ codes ";"))))

-- one insert for each of the numbered tuples, in order
abbrev pub insert_lines : List ℕ → List Column → List (ℕ × List Atom) → List (List ℕ)
insert_lines n h [] = []
insert_lines n h (t ∷ ts) = insert_line n h t.1 ∷ insert_lines n h ts

-- a relation is defined, and its tuples are inserted in the order of their numbers; a view is defined
abbrev pub entry_lines : Entry → List (List ℕ)
entry_lines (relation n h m ts) = relation_line n h ∷ insert_lines n h ts
entry_lines (view n h f) = view_line n h f ∷ []

-- those of an entry, and none where there is no entry
abbrev pub lines_under : Option Entry → List (List ℕ)
lines_under None = []
lines_under (Some e) = entry_lines e

-- the lines of the entries, in order
abbrev pub entries_lines : List Entry → List (List ℕ)
entries_lines [] = []
entries_lines (e ∷ es) = entry_lines e ++ entries_lines es

-- the header, and the lines of the entries in order of definition
abbrev pub dump_lines : Catalogue → List (List ℕ)
dump_lines c = header_line ∷ entries_lines c.entries

-- the name is that of a view over the heading
pub record IsView (c : Catalogue) (n : List ℕ) (h : List Column) : Type 0 where
  pub form : Form
  pub is : entry_of c.entries n ≡ Some (view n h form)
