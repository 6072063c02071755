-- What terminals spell.
use Rattle.std.specs.Prelude.{◌≡◌, ◌<◌, ℕ, List}
use Rattle.ded_model.specs.Form.{Form}
use Rattle.ded_grammar.specs.Trees.{TerminalForm, Whole, spell, meaning, nesting}

-- the terminals spell the formula, with this nesting
pub record Spells (ps : List TerminalForm) (f : Form) (depth : ℕ) : Type 0 where
  pub tree : Whole
  pub is : spell tree ≡ ps
  pub means : meaning tree ≡ f
  pub nests : nesting tree ≡ depth

-- the terminals spell a formula whose nesting is above 64
pub record SpellsDeep (ps : List TerminalForm) : Type 0 where
  pub formula : Form
  pub depth : ℕ
  pub spells : Spells ps formula depth
  pub above : 64 < depth
