-- What reading gives, as a function on terminals says it.
use Rattle.std.specs.Prelude.{◌≡◌, List, Option, Some, None, Result, Ok, Err}
use Rattle.ded_grammar.specs.declared.terminal.Terminal.{Terminal}
use Rattle.ded_model.specs.declared.fault.ParseFault.{ParseFault}
use Rattle.ded_model.specs.declared.fault.ParseFault.TheVariants as faults
use Rattle.ded_grammar.specs.Forms.{terminal_forms}
use Rattle.ded_grammar.specs.Trees.{TerminalForm}

-- the fault fits what the function gives: where nothing is read that gives none, and where memory is out it may give
-- anything
abbrev pub Fails : {Y : Type 0} → ParseFault → Option Y → Type 0
Fails faults.Memory read = Unit {0}
Fails faults.NotRead read = read ≡ None

-- the result fits what the function gives: a value is seen as what that gives, and a fault is as `Fails` tells
abbrev pub Gives : {X Y : Type 0} → (X → Y) → Result X ParseFault → Option Y → Type 0
Gives view (Ok x) read = read ≡ Some (view x)
Gives view (Err e) read = Fails e read

-- the terminals that are left, as they are seen, are those that the function gives, and there are none where it gives
-- none
abbrev pub GivesAfter : {X : Type 0} → (X → List Terminal) → Option X → Option (List TerminalForm) → Type 0
GivesAfter view (Some x) read = read ≡ Some (terminal_forms (view x))
GivesAfter view None read = read ≡ None
