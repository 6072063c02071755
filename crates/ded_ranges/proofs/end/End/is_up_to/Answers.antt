use Rattle.std.proofs.Common.{rules, ◌≡◌, false, SFits}
use Rattle.std.specs.Int.{w64}
use Rattle.std.specs.Ordering.{int_eq}
use Rattle.std.proofs.lemmas.Int.{to_z-of_z}
use Rattle.ded_ranges.specs.Codes.{lowest}
use Rattle.ded_ranges.specs.Coding.{fits_low, up_to_is}
use Rattle.ded_ranges.proofs.end.End.is_up_to.Goals as goal

pub returns-else-high : goal.returns-else-high
returns-else-high c =
    let a : SFits w64 c.self.inside.code = search rules in
    let b : SFits w64 c.high.inside.code = search rules in
    let some : int_eq c.high.inside.code lowest ≡ false = search rules in
    rw (to_z-of_z w64 c.self.inside.code a, to_z-of_z w64 c.high.inside.code b)
    (up_to_is c.self.inside.code c.high.inside.code c.args.self c.args.high (fits_low c.self.inside.code a) (fits_low c.high.inside.code b) some c.self.view_is c.high.view_is)
