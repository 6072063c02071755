-- The lines of a catalogue as statements of a script: each begins with the line feed behind the line before it, and ends before its
-- semicolon.
use Rattle.std.specs.Prelude.{ℕ, List, ◌∷◌, ◌++◌, codes}
use Rattle.ded_lex.specs.Pieces.{IsWhole}
use Rattle.ded_model.specs.declared.command.Language.TheVariants.{Two}
use Rattle.ded_model.specs.declared.name.Column.{Column}
use Rattle.ded_model.specs.Command.{CommandForm}
use Rattle.ded_model.specs.Form.{Form}
use Rattle.ded_model.specs.Row.{Atom}
use Rattle.ded_print.specs.Tuples.{column_names, tuple_text}
use Rattle.ded_syntax.specs.Spelling.{IsRead}
use Rattle.ded_dump.specs.Formulas.{formula_text}
use Rattle.ded_dump.specs.Headings.{heading_text}

-- `dedale 2`: the script is one of version 2
abbrev pub header_text : List ℕ
header_text = codes "dedale 2"

-- `relation N(x, n text)`
abbrev pub relation_text : List ℕ → List Column → List ℕ
relation_text n h = codes "relation " ++ (n ++ heading_text h)

-- `insert N { .. }`, with the tuple as replies have it
abbrev pub insert_text : List ℕ → List Column → List Atom → List ℕ
insert_text n h t = codes "insert " ++ (n ++ (codes " " ++ tuple_text (column_names h) t))

-- `view N(x, n text) := F`
abbrev pub view_text : List ℕ → List Column → Form → List ℕ
view_text n h f = codes "view " ++ (n ++ (heading_text h ++ (codes " := " ++ formula_text h f)))

-- behind a line feed the text is a piece of a script that is read as the command
pub record IsLine (text : List ℕ) (c : CommandForm) : Type 0 where
  pub read : IsRead Two (10 ∷ text) c
  pub whole : (after : List ℕ) → IsWhole (10 ∷ text) (59 ∷ after)
