use Rattle.std.proofs.Common.{rules, ◌≡◌, List, sym, subst}
use Rattle.ded_ranges.specs.declared.reach.Range.{Range}
use Rattle.ded_ranges.specs.Reaches.{Lies, all_values}
use Rattle.ded_ranges.proofs.Around.{is_around}
use Rattle.ded_ranges.proofs.Terms.{lies_all_values}
use Rattle.ded_ranges.proofs.window.box_of.Goals as goal

pub returns-clause-lies : goal.returns-clause-lies
returns-clause-lies c =
    let all : c.in_ok-reach.reach ≡ all_values c.width_of.result = search rules in
    λ v d h. c.narrow_by.ensures.lies v d (subst (λ (rs : List Range). Lies rs v d) (sym all) (lies_all_values c.width_of.result v d)) h

pub returns-clause-around : goal.returns-clause-around
returns-clause-around c =
    let all : c.in_ok-reach.reach ≡ all_values c.width_of.result = search rules in
    is_around c.width_of.result c.in_ok-reach.reach c.narrow_by.new.reach c.args.limits.now all c.narrow_by.ensures.around
