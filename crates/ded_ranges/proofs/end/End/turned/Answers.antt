use Rattle.std.proofs.Common.{rules, ◌≡◌, false, SFits}
use Rattle.std.specs.Prelude.{pos, ◌-ℤ◌}
use Rattle.std.specs.Int.{w64}
use Rattle.std.specs.Ordering.{int_eq}
use Rattle.std.proofs.lemmas.Int.{to_z-of_z}
use Rattle.ded_ranges.specs.Codes.{lowest}
use Rattle.ded_ranges.specs.Coding.{fits_high, from_zero, turned_some}
use Rattle.ded_ranges.proofs.end.End.turned.Goals as goal

pub returns-else-self : goal.returns-else-self
returns-else-self c =
    let own : SFits w64 c.self.inside.code = search rules in
    let new : SFits w64 (pos 0 -ℤ c.self.inside.code) = search rules in
    let some : int_eq c.self.inside.code lowest ≡ false = search rules in
    rw (to_z-of_z w64 c.self.inside.code own, to_z-of_z w64 (pos 0 -ℤ c.self.inside.code) new)
    (turned_some c.self.inside.code (pos 0 -ℤ c.self.inside.code) c.args.self some (fits_high c.self.inside.code own) (from_zero c.self.inside.code) c.self.view_is)
