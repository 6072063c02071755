-- When a statement is refused, and with which number.
use Rattle.std.specs.Prelude.{◌≡◌, ◌<◌, ℕ, true, List, length}
use Rattle.ded_lex.specs.Pieces.{Statement, Whole, statement_bytes}
use Rattle.ded_lex.specs.Pieces as pieces
use Rattle.ded_model.specs.declared.command.Language.{Language}
use Rattle.ded_model.specs.declared.command.Refusal.{Refusal}
use Rattle.ded_model.specs.declared.command.Refusal.TheVariants.{LongStatement, Unfinished, Syntax, LongName, LongNumber, Deep}
use Rattle.ded_model.specs.Catalogue.{Catalogue}
use Rattle.ded_model.specs.Command.{CommandForm}
use Rattle.ded_model.specs.Refusals.{refusal_number}
use Rattle.ded_sorts.specs.Causes.{has_cause}
use Rattle.ded_syntax.specs.Spelling.{Spells, AppliesIn}

-- the bytes spell a command with this cause
pub record Commands (language : Language) (bytes : List ℕ) (r : Refusal) (c : Catalogue) : Type 0 where
  pub command : CommandForm
  pub depth : ℕ
  pub spells : Spells language bytes command depth
  pub cause : has_cause r c command ≡ true

-- by bytes alone, or by the command over the catalogue
abbrev pub AppliesWhole : Refusal → Language → List ℕ → Catalogue → Type 0
AppliesWhole Syntax language bytes c = AppliesIn Syntax language bytes
AppliesWhole LongName language bytes c = AppliesIn LongName language bytes
AppliesWhole LongNumber language bytes c = AppliesIn LongNumber language bytes
AppliesWhole Deep language bytes c = AppliesIn Deep language bytes
AppliesWhole r language bytes c = Commands language bytes r c

-- the causes of the refusals 1 to 19, of a statement over a catalogue. Each is read only where no lesser one applies.
abbrev pub Applies : Refusal → Language → Statement → Catalogue → Type 0
Applies LongStatement language s c = 65536 < length (statement_bytes s)
Applies Unfinished language (Whole piece) c = ⊥
Applies Unfinished language (pieces.Unfinished rest) c = Unit {0}
Applies r language (Whole piece) c = AppliesWhole r language piece c
Applies r language (pieces.Unfinished rest) c = ⊥

-- the refusal applies, and none of a lesser number does
pub record IsLeast (r : Refusal) (language : Language) (s : Statement) (c : Catalogue) : Type 0 where
  pub applies : Applies r language s c
  pub least : (q : Refusal) → refusal_number q < refusal_number r → Applies q language s c → ⊥

-- none applies
abbrev pub NoneApplies : Language → Statement → Catalogue → Type 0
NoneApplies language s c = (q : Refusal) → Applies q language s c → ⊥
