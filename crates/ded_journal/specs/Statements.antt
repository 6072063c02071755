-- How a database keeps a list of statements.
use Rattle.std.specs.Prelude.{◌≡◌, ℕ, ◌+◌, ◌<◌, pos, List, [], ◌∷◌, map, take, filter, codes, length, Bool, true, false}
use Rattle.sqlite_value.specs.declared.value.Value.TheVariants.{Null, Int, Text}
use Rattle.sqlite_value.specs.Order.{Row, column, bytes}
use Rattle.sqlite_trees.specs.Tree.{Trees, has_rowid}
use Rattle.sqlite_trees.specs.Objects.{catalog_tree, version_tree, version_rows}

-- the text that defines the table of statements
abbrev pub table_text : List ℕ
table_text = codes "CREATE TABLE statement (number INTEGER PRIMARY KEY, text TEXT NOT NULL) STRICT"

-- a row of the table: the number, which SQLite keeps beside the columns and not in them, and the text
abbrev pub statement_row : ℕ → List ℕ → Row
statement_row number text = Int (pos number) ∷ Null ∷ Text text ∷ []

-- the rows of these statements, numbered from here
abbrev pub statement_rows : ℕ → List (List ℕ) → List Row
statement_rows number [] = []
statement_rows number (text ∷ list) = statement_row number text ∷ statement_rows (number + 1) list

-- the text in a row of the table
abbrev pub text_in : Row → List ℕ
text_in row = bytes (column row 2)

-- the texts in the rows of the table, which is tree 0
abbrev pub statements_in : Trees → List (List ℕ)
statements_in db = map text_in (db 0)

-- the user version of a journal: "DED", and the version of its schema as the last byte
abbrev pub stamp : ℕ → ℕ
stamp version = 0x44454400 + version

-- the table as the list of objects names it
abbrev pub table_listing : Row
table_listing = Int (pos 1) ∷ Text (codes "table") ∷ Text (codes "statement") ∷ Text (codes "statement") ∷ Text table_text ∷ []

-- The database is a journal of the first version with these statements, numbered from 1, and with no other object.
pub record HoldsStatements (db : Trees) (list : List (List ℕ)) : Type 0 where
  pub rows : db 0 ≡ statement_rows 1 list
  pub listed : map (take 5) (db catalog_tree) ≡ table_listing ∷ []
  pub stamped : db version_tree ≡ version_rows (stamp 1)

-- A database with no object, and with the user version that a new one has. A program that set another has made it its own.
pub record IsUnwritten (db : Trees) : Type 0 where
  pub unlisted : db catalog_tree ≡ []
  pub unstamped : db version_tree ≡ version_rows 0

-- the row with this number has this text, or there is none
abbrev pub FindsText : List Row → ℕ → List ℕ → Bool → Type 0
FindsText rows number text true = (row : Row) × (filter (has_rowid (pos number)) rows ≡ row ∷ []) × (text_in row ≡ text)
FindsText rows number text false = filter (has_rowid (pos number)) rows ≡ []

-- longer than SQLite takes a text in such a row
abbrev pub IsTooLong : List ℕ → Type 0
IsTooLong text = 999_999_946 < length text
