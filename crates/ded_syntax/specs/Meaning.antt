-- The command for which a draft stands.
use Rattle.std.specs.Prelude.{◌≡◌, ◌<◌, ℕ}
use Rattle.ded_model.specs.Command.{CommandForm}
use Rattle.ded_model.specs.Form.{Form}
use Rattle.ded_grammar.specs.Spelling.{Spells}
use Rattle.ded_syntax.specs.CommandReading.{head_form, Draft, plain, formed}

-- the draft stands for the command, with this nesting
abbrev pub Means : Draft → CommandForm → ℕ → Type 0
Means (plain k) c depth = (c ≡ k) × (depth ≡ 0)
Means (formed h ps) c depth = (f : Form) × Spells ps f depth × (c ≡ head_form h f)

-- the draft stands for a command whose nesting is above 64
abbrev pub MeansDeep : Draft → Type 0
MeansDeep d = (c : CommandForm) × (depth : ℕ) × Means d c depth × (64 < depth)
