-- What a command and the names tell at once of all causes of refusals.
use Rattle.std.specs.Prelude.{◌≡◌, Bool, true, false, ◌||◌, Option, None, List, []}
use Rattle.ded_model.specs.declared.name.Column.{Column}
use Rattle.ded_model.specs.Catalogue.{Catalogue}
use Rattle.ded_model.specs.Command.{CommandForm, relation, insert, delete, drop, view, keep, query, show, box_of, explain, disjoint, verify}
use Rattle.ded_model.specs.Entries.{known}
use Rattle.ded_model.specs.Form.{FormAtom}
use Rattle.ded_model.specs.Known.{Known, KnownNames, is_unknown_atom, is_arity_atom, is_unbound_atom, is_missorted_atom, uses_unknown, has_other_arity, has_missorted}
use Rattle.ded_model.specs.Logic.{Scope}
use Rattle.ded_sorts.specs.Causes.{formula_in, heading_in, passes_with, has_unbound_name}
use Rattle.ded_sorts.specs.Checks.{known_form}
use Rattle.ded_sorts.specs.declared.facts.Facts.{Facts}

-- what is known of the name that a command gives outside of its formula, or of the first of two
abbrev pub first_known : Catalogue → CommandForm → Option Known
first_known c (relation n h) = known c n
first_known c (insert n fs) = known c n
first_known c (delete n k) = known c n
first_known c (drop n) = known c n
first_known c (view n h f) = known c n
first_known c (keep n) = known c n
first_known c (show n) = known c n
first_known c (box_of n) = known c n
first_known c (disjoint n m) = known c n
first_known c (verify n m es) = known c n
first_known c _ = None

-- and of the second
abbrev pub second_known : Catalogue → CommandForm → Option Known
second_known c (disjoint n m) = known c m
second_known c (verify n m es) = known c m
second_known c _ = None

-- the columns whose names the formula of a command may mention, where these are the columns of the name that it gives
abbrev pub heading_with : List Column → CommandForm → List Column
heading_with h (insert n fs) = h
heading_with h (view n k f) = k
heading_with h (query k f) = k
heading_with h (explain k f) = k
heading_with h _ = []

-- an atom uses a name that isn't defined or has another number of columns, or a variable that nothing binds, or a text in the
-- place of a number, or a number in the place of a text
abbrev pub is_faulty_atom : KnownNames → Scope → FormAtom → Bool
is_faulty_atom K scope a = (is_unknown_atom K a || is_arity_atom K a) || (is_unbound_atom scope a || is_missorted_atom K scope a)

-- no atom of the command's formula does
pub record IsSound (c : Catalogue) (command : CommandForm) : Type 0 where
  pub defined : passes_with (formula_in command) (uses_unknown (known c)) ≡ false
  pub arity : passes_with (formula_in command) (has_other_arity (known c)) ≡ false
  pub bound : has_unbound_name c command ≡ false
  pub sorted : passes_with (formula_in command) (has_missorted (known c) (heading_in c command)) ≡ false

-- the facts about a command over a catalogue
pub record AreFacts (c : Catalogue) (command : CommandForm) (f : Facts) : Type 0 where
  pub first : known_form f.first ≡ first_known c command
  pub second : known_form f.second ≡ second_known c command
  pub sound : f.is_sound ≡ true → IsSound c command
