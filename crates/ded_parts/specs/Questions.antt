-- Closed formulas that quantify over many variables.
use Rattle.std.specs.Prelude.{List, [], ◌∷◌}
use Rattle.ded_model.specs.declared.slot.Sort.{Sort}
use Rattle.ded_model.specs.Form.{Form}
use Rattle.ded_model.specs.Logic.{negation, every_of, exists, forall, none, also}
use Rattle.ded_model.specs.Point.{Key}

-- the formula holds of all values of the variables, the first one outermost
abbrev pub for_all : List (Sort × Key) → Form → Form
for_all [] f = f
for_all (v ∷ vs) f = forall v.0 v.1 (for_all vs f)

-- the formula holds of some values of the variables, the first one outermost
abbrev pub for_some : List (Sort × Key) → Form → Form
for_some [] f = f
for_some (v ∷ vs) f = exists v.0 v.1 (for_some vs f)

-- the first formula holds, and the second one doesn't
abbrev pub without : Form → Form → Form
without f g = every_of (also f (also (negation g) none))
