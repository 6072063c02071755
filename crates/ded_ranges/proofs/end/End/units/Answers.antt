use Rattle.std.proofs.Common.{rules, SFits, ◌∙◌, ap, sym, subst}
use Rattle.std.specs.Int.{w64, w128}
use Rattle.std.proofs.lemmas.Int.{to_z-of_z}
use Rattle.ded_ranges.specs.Codes.{units_of, IsShortEnd}
use Rattle.ded_ranges.specs.Coding.{fits_low, fits_high}
use Rattle.ded_ranges.proofs.Ends.{units_short}
use Rattle.ded_ranges.proofs.end.End.units.Goals as goal

pub returns-else-self-clause-short : goal.returns-else-self-clause-short
returns-else-self-clause-short c =
    let k = c.self.inside.code in
    let a : SFits w64 k = search rules in
    let units : SFits w128 c.units_of.result = search rules in
    rw (to_z-of_z w128 c.units_of.result units) (subst IsShortEnd (sym (c.units_of.ensures ∙ ap units_of (to_z-of_z w64 k a))) (units_short k (fits_low k a) (fits_high k a)))
