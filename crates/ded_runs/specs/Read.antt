-- Catalogues whose entries were read as commands.
use Rattle.std.specs.Prelude.{◌≡◌, ℕ, nat_lt, false, List, length}
use Rattle.std.specs.List.{AllByRecursion}
use Rattle.ded_model.specs.declared.command.Language.{Language}
use Rattle.ded_model.specs.Catalogue.{Entry, Catalogue}
use Rattle.ded_model.specs.Catalogue as entry
use Rattle.ded_model.specs.Command.{CommandForm, relation, view}
use Rattle.ded_model.specs.Known.{has_twice}
use Rattle.ded_syntax.specs.Spelling.{IsRead}
use Rattle.ded_reread.specs.Words.{TupleHasTexts}
use Rattle.ded_reread.specs.ScriptWords.{IsText}

-- some bytes were read as the command
pub record WasRead (c : CommandForm) : Type 0 where
  pub language : Language
  pub bytes : List ℕ
  pub read : IsRead language bytes c

-- a relation was read with its heading, which has at most 16 columns and no name twice, and its tuples have texts that can be
-- written; a view was read with its formula
abbrev pub WasEntryRead : Entry → Type 0
WasEntryRead (entry.relation n h m ts) = WasRead (relation n h) × (has_twice h ≡ false) × (nat_lt 16 (length h) ≡ false) × AllByRecursion (λ t. TupleHasTexts IsText t.1) ts
WasEntryRead (entry.view n h f) = WasRead (view n h f)

-- each entry of the catalogue was so read
abbrev pub WasCatalogueRead : Catalogue → Type 0
WasCatalogueRead c = AllByRecursion WasEntryRead c.entries
