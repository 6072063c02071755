-- The terminal that a value of the program stands for.
use Rattle.std.specs.Prelude.{List, map}
use Rattle.ded_model.specs.Form.{form}
use Rattle.ded_grammar.specs.declared.terminal.Terminal.{Terminal}
use Rattle.ded_grammar.specs.declared.terminal.Terminal.TheVariants.{Not, And, Or, Implies, Open, Close, Bind, Atom}
use Rattle.ded_grammar.specs.Trees.{TerminalForm, nay, conjunct, disjunct, arrow, opening, closing, binder, leaf}

-- the terminal that one value stands for
abbrev pub terminal_form : Terminal → TerminalForm
terminal_form Not = nay
terminal_form And = conjunct
terminal_form Or = disjunct
terminal_form Implies = arrow
terminal_form Open = opening
terminal_form Close = closing
terminal_form (Bind q c) = binder q c
terminal_form (Atom f) = leaf (form f)

-- the terminals that a list of values stands for, in order
abbrev pub terminal_forms : List Terminal → List TerminalForm
terminal_forms items = map terminal_form items
