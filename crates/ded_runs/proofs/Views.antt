-- Views that were read, over a well formed catalogue, hold and measure as what is read back of them.
use Rattle.std.proofs.Common.{◌≡◌, ◌<◌, ℕ, List, [], ◌∷◌}
use Rattle.std.specs.Prelude.{◌↔◌}
use Rattle.std.specs.List.{AllByRecursion}
use Rattle.ded_model.specs.declared.name.Column.{Column}
use Rattle.ded_model.specs.Command as command
use Rattle.ded_model.specs.Form.{Form}
use Rattle.ded_model.specs.Known.{KnownNames, IsAccepted, AreEntriesOver, IsWellFormed, with_known}
use Rattle.ded_model.specs.Catalogue.{Entry, relation, view, Catalogue, at_names, Holds}
use Rattle.ded_model.specs.Value.{Argument}
use Rattle.ded_model.specs.Measure.{goal_b, goal_rank, measures}
use Rattle.ded_model.specs.Plain.{IsPlain}
use Rattle.ded_model.specs.Slotted.{goal_of}
use Rattle.ded_syntax.proofs.PlainSums.{spelled_plain}
use Rattle.ded_reread.specs.Formulas.{restored}
use Rattle.ded_runs.specs.Read.{WasRead, WasEntryRead, WasCatalogueRead}
use Rattle.ded_runs.proofs.Remaking.{IsAlikeView, IsAlikeEntry}

pub read_plain : (n : List ℕ) (h : List Column) (f : Form) → WasRead (command.view n h f) → IsPlain f
read_plain n h f r = spelled_plain r.language r.bytes (command.view n h f) r.read.depth r.read.spells

-- what the laws of formulas that are read back say
pub record Laws : Type 0 where
  pub holds : (c : Catalogue) (K : KnownNames) (h : List Column) (f : Form) → IsAccepted K h f → IsPlain f → (d : ℕ) (xs : List Argument) → 0 < d
      → Holds c (restored h f) (record { den = d; coords = at_names h xs }) ↔ Holds c f (record { den = d; coords = at_names h xs })
  pub b : (c : Catalogue) (K : KnownNames) (h : List Column) (f : Form) → IsAccepted K h f → IsPlain f → goal_b (measures c) (goal_of h (restored h f)) ≡ goal_b (measures c) (goal_of h f)
  pub rank : (c : Catalogue) (K : KnownNames) (h : List Column) (f : Form) → IsAccepted K h f → IsPlain f → goal_rank (measures c) (goal_of h (restored h f)) ≡ goal_rank (measures c) (goal_of h f)

module _ (laws : Laws) where
  alike : (K : KnownNames) (h : List Column) (f : Form) → IsAccepted K h f → IsPlain f → IsAlikeView h f
  alike K h f a p = record { holds = λ c. laws.holds c K h f a p; b = λ c. laws.b c K h f a p; rank = λ c. laws.rank c K h f a p }

  alike_entries : (limit : ℕ) (K : KnownNames) (es : List Entry) → AreEntriesOver limit K es → AllByRecursion WasEntryRead es → AllByRecursion IsAlikeEntry es
  alike_entries limit K [] w r = tt
  alike_entries limit K (relation n h m ts ∷ es) w r = (tt, alike_entries limit (with_known K (relation n h m ts)) es w.2 r.1)
  alike_entries limit K (view n h f ∷ es) w r = (alike K h f w.1.0 (read_plain n h f r.0), alike_entries limit (with_known K (view n h f)) es w.2 r.1)

  pub alike_catalogue : (c : Catalogue) → IsWellFormed c → WasCatalogueRead c → AllByRecursion IsAlikeEntry c.entries
  alike_catalogue c w r = alike_entries c.limit _ c.entries w r
