-- The scope that a value of the program's scopes stands for.
use Rattle.std.specs.Prelude.{◌∷◌}
use Rattle.ded_model.specs.Known.{scope_of}
use Rattle.ded_model.specs.Logic as logic
use Rattle.ded_model.specs.Point.{name}
use Rattle.ded_sorts.specs.declared.scope.SortScope.{SortScope, fold-SortScope}
use Rattle.ded_sorts.specs.declared.scope.SortScope.TheOpen.{SortScope-F}

-- one level, with the scope round it already seen as what it stands for
abbrev pub scope_step : SortScope-F logic.Scope → logic.Scope
scope_step (SortScope-F.Heading cs) = scope_of cs.now
scope_step (SortScope-F.Within c s) = (name c.now.name, c.now.sort) ∷ s.now

-- the quantifiers from within, and then the columns of the heading
abbrev pub scope_form : SortScope → logic.Scope
scope_form = fold-SortScope logic.Scope scope_step
