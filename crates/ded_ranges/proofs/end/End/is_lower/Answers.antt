use Rattle.std.proofs.Common.{rules, ◌∙◌, ap₂, SFits}
use Rattle.std.specs.Int.{w64}
use Rattle.std.proofs.lemmas.Int.{to_z-of_z}
use Rattle.ded_ranges.specs.Codes.{is_lower}
use Rattle.ded_ranges.specs.Coding.{fits_low, lower_is}
use Rattle.ded_ranges.proofs.end.End.is_lower.Goals as goal

pub returns : goal.returns
returns c =
    let a : SFits w64 c.self.inside.code = search rules in
    let b : SFits w64 c.other.inside.code = search rules in
    rw (to_z-of_z w64 c.self.inside.code a, to_z-of_z w64 c.other.inside.code b)
    (lower_is c.self.inside.code c.other.inside.code (fits_low c.self.inside.code a) (fits_low c.other.inside.code b) ∙ ap₂ is_lower c.self.view_is c.other.view_is)
