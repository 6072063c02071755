-- The command that a value of `Command` stands for.
use Rattle.std.specs.Prelude.{ℕ, List}
use Rattle.ded_model.specs.declared.name.Column.{Column}
use Rattle.ded_model.specs.declared.certificate.Entry.{Entry}
use Rattle.ded_model.specs.declared.command.Command.{Command}
use Rattle.ded_model.specs.declared.command.Command.TheVariants.{Header, Relation, Insert, Delete, Drop, View, Keep, Ask, Query, Show, BoxOf, Explain, Dump, Disjoint, Verify}
use Rattle.ded_model.specs.Form.{Form, FormAtom, form, forms}
use Rattle.ded_model.specs.Logic.{Logics}

-- a command: its names, headings, numbers and certificate entries, and its formulas as what they stand for
pub data CommandForm : Type 0 where
  header : CommandForm
  relation : List ℕ → List Column → CommandForm
  insert : List ℕ → Logics FormAtom → CommandForm
  delete : List ℕ → ℕ → CommandForm
  drop : List ℕ → CommandForm
  view : List ℕ → List Column → Form → CommandForm
  keep : List ℕ → CommandForm
  ask : Form → CommandForm
  query : List Column → Form → CommandForm
  show : List ℕ → CommandForm
  box_of : List ℕ → CommandForm
  explain : List Column → Form → CommandForm
  dump : CommandForm
  disjoint : List ℕ → List ℕ → CommandForm
  verify : List ℕ → List ℕ → List Entry → CommandForm

-- the command that a value of `Command` stands for
abbrev pub command_form : Command → CommandForm
command_form Header = header
command_form (Relation n h) = relation n h
command_form (Insert n fs) = insert n (forms fs.items)
command_form (Delete n k) = delete n k
command_form (Drop n) = drop n
command_form (View n h f) = view n h (form f)
command_form (Keep n) = keep n
command_form (Ask f) = ask (form f)
command_form (Query h f) = query h (form f)
command_form (Show n) = show n
command_form (BoxOf n) = box_of n
command_form (Explain h f) = explain h (form f)
command_form Dump = dump
command_form (Disjoint n m) = disjoint n m
command_form (Verify n m es) = verify n m es.items
