use Rattle.std.proofs.Common.{rules, ◌≡◌, ◌∙◌, SFits}
use Rattle.std.specs.Int.{w64, w128}
use Rattle.std.proofs.lemmas.Int.{to_z-of_z}
use Rattle.ded_ranges.proofs.Ends.{down_is}
use Rattle.ded_ranges.proofs.end.rounded_down.Goals as goal

pub returns-in-Ok : goal.returns-in-Ok
returns-in-Ok c =
    let units : SFits w128 c.args.units = c.ranges.units in
    let wide : SFits w128 c.code_of.result = search rules in
    let code : SFits w64 c.in-Ok.code = search rules in
    let is : c.in-Ok.code ≡ c.code_of.result = search rules in
    rw (to_z-of_z w64 c.in-Ok.code code) (down_is c.in-Ok.code c.args.units (is ∙ simp to_z-of_z at c.code_of.ensures))
