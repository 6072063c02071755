-- Which formulas have sums without text variables.
use Rattle.std.specs.Prelude.{Bool, ◌||◌}
use Rattle.std.specs.List.{list_any}
use Rattle.ded_model.specs.Logic.{Scope}
use Rattle.ded_model.specs.Form.{FormAtom, compare, member}
use Rattle.ded_model.specs.Known.{is_text_sum}

-- a sum with a text variable
abbrev pub has_text_sum : Scope → FormAtom → Bool
has_text_sum scope (compare l op r) = is_text_sum scope l || is_text_sum scope r
has_text_sum scope (member n ts) = list_any (is_text_sum scope) ts
