-- Which bytes spell an answer.
use Rattle.std.specs.Prelude.{◌≡◌, ◌≤◌, ℕ, List}
use Rattle.std.specs.List.{AllByRecursion}
use Rattle.ded_model.specs.declared.name.Column.{Column}
use Rattle.ded_model.specs.Row.{Atom}
use Rattle.ded_model.specs.Known.{IsTupleOver}
use Rattle.ded_model.specs.Width.{tuple_length}
use Rattle.ded_print.specs.Tuples.{answer_text}

-- a tuple in normal form over the heading, with numbers of at most 127 digits
abbrev pub IsShortTuple : List Column → List Atom → Type 0
IsShortTuple h t = IsTupleOver h t × (tuple_length t ≤ 127)

-- the tuples are such, and the bytes are the text of the answer that they make
pub record SpellsAnswer (bytes : List ℕ) (h : List Column) (tuples : List (List Atom)) : Type 0 where
  pub each : AllByRecursion (IsShortTuple h) tuples
  pub text : bytes ≡ answer_text h tuples
