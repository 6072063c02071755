use Rattle.std.proofs.Common.{rules, ◌≡◌, ◌∙◌, true, List, sym, subst}
use Rattle.ded_model.specs.Row.{Atom, tuple_holds}
use Rattle.ded_ranges.specs.declared.reach.Range.{Range}
use Rattle.ded_ranges.specs.Reaches.{Lies, all_values}
use Rattle.ded_ranges.specs.Windows.{column_value}
use Rattle.ded_ranges.proofs.Terms.{lies_all_values}
use Rattle.ded_ranges.proofs.tuple.reach_of.Goals as goal

pub returns : goal.returns
returns c =
    let all : c.in_ok-reach.reach ≡ all_values c.args.width = search rules in
    let atoms : c.deref.result.now ≡ c.args.tuple.now = c.deref.ensures.value ∙ c.tuple.view_is in
    λ p is h. c.narrow_to.ensures p (subst (λ (rs : List Range). Lies rs (column_value p) p.den) (sym all) (lies_all_values c.args.width (column_value p) p.den)) (subst (λ (xs : List Atom). tuple_holds xs p ≡ true) (sym atoms) h)
