-- What is told of a command before the tree of its formula is built: whether there is one, and whether something in it is long.
use Rattle.std.specs.Prelude.{◌≡◌, Bool, true, false, List, Some}
use Rattle.std.specs.List.{list_any}
use Rattle.ded_grammar.specs.Trees.{terminal_atom}
use Rattle.ded_model.specs.Form.{FormAtom}
use Rattle.ded_model.specs.LongRows.{is_long_atom}
use Rattle.ded_terminals.specs.Symbols.{Symbol}
use Rattle.ded_terminals.specs.Items.{is_long_name, is_long_literal}
use Rattle.ded_terminals.specs.Literals.{Reader}
use Rattle.ded_syntax.specs.Marks.{is_marked_atom, some_in}
use Rattle.ded_syntax.specs.CommandReading.{Draft, plain, formed, draft_at, scans}

-- the symbols are read as a draft, whose terminals spell a formula
abbrev pub HasDraft : Reader → List Symbol → Type 0
HasDraft value ts = (d : Draft) × (draft_at value ts ≡ Some d) × (scans d ≡ true)

-- whether some atom of the draft's formula passes the test
abbrev pub some_in_draft : (FormAtom → Bool) → Draft → Bool
some_in_draft test (plain c) = some_in test c
some_in_draft test (formed h ps) = list_any (terminal_atom test) ps

-- no name, no number, no literal over the common denominator and no row is long
pub record IsShort (ts : List Symbol) (d : Draft) : Type 0 where
  pub names : list_any is_long_name ts ≡ false
  pub literals : list_any is_long_literal ts ≡ false
  pub marks : some_in_draft is_marked_atom d ≡ false
  pub rows : some_in_draft is_long_atom d ≡ false
