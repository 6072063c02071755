-- Which refusals a command and the names decide, and when none of them applies.
use Rattle.std.specs.Prelude.{ℕ, ◌≡◌, ◌<◌, Bool, true, false, Option, Some, None, List, [], ◌∷◌}
use Rattle.ded_model.specs.declared.command.Refusal.{Refusal}
use Rattle.ded_model.specs.declared.command.Refusal.TheVariants.{Many, Twice, Unknown, Taken, Kind, Arity, Unbound, WrongSort, Used, NoTuple, Level}
use Rattle.ded_model.specs.Catalogue.{Catalogue}
use Rattle.ded_model.specs.Command.{CommandForm}
use Rattle.ded_model.specs.Form.{Form, FormAtom}
use Rattle.ded_model.specs.Known as model
use Rattle.ded_model.specs.Logic.{Logics}
use Rattle.ded_model.specs.Logic as logic
use Rattle.ded_model.specs.Refusals.{refusal_number}
use Rattle.ded_sorts.specs.declared.names.Known.{Known}
use Rattle.ded_sorts.specs.declared.names.Known.TheVariants.{Relation, View}
use Rattle.ded_sorts.specs.Causes.{has_cause}

-- ---- what is known of a name

-- what an answer of the program says of a name; a relation has level 0
abbrev pub known_form : Option Known → Option model.Known
known_form None = None
known_form (Some (Relation h)) = Some (record { is_view = false; columns = h.now; level = 0 })
known_form (Some (View h n)) = Some (record { is_view = true; columns = h.now; level = n })

-- ---- refusals

-- those that are decided by a command and the names: all of 7 to 19 but that a relation is full or spent
abbrev pub is_checked : Refusal → Bool
is_checked Many = true
is_checked Twice = true
is_checked Unknown = true
is_checked Taken = true
is_checked Kind = true
is_checked Arity = true
is_checked Unbound = true
is_checked WrongSort = true
is_checked Used = true
is_checked NoTuple = true
is_checked Level = true
is_checked _ = false

-- the refusal applies to the command, and none of a lesser number does
pub record IsLeastCause (r : Refusal) (c : Catalogue) (command : CommandForm) : Type 0 where
  pub checked : is_checked r ≡ true
  pub applies : has_cause r c command ≡ true
  pub least : (q : Refusal) → is_checked q ≡ true → refusal_number q < refusal_number r → has_cause q c command ≡ false

-- none of a number below n applies
pub record HasNoneBelow (n : ℕ) (c : Catalogue) (command : CommandForm) : Type 0 where
  pub none : (q : Refusal) → is_checked q ≡ true → refusal_number q < n → has_cause q c command ≡ false

-- none applies
abbrev pub HasNoCause : Catalogue → CommandForm → Type 0
HasNoCause c command = (q : Refusal) → is_checked q ≡ true → has_cause q c command ≡ false

-- ---- comparisons

-- the comparisons of an insert, one for each
abbrev pub forms_of : Logics FormAtom → List Form
forms_of logic.none = []
forms_of (logic.also f fs) = f ∷ forms_of fs
