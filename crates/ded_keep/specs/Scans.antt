-- How often a plan scans a name: never, once or more often.
use Rattle.std.specs.Prelude.{ℕ, suc}
use Rattle.std.proofs.Common.{zero}
use Rattle.ded_keep.specs.declared.additive.Scans.{Scans}
use Rattle.ded_keep.specs.declared.additive.Scans.TheVariants.{Never, Once, Often}

-- how often that many scans are: never, once or more often
abbrev pub scans_of : ℕ → Scans
scans_of zero = Never
scans_of (suc zero) = Once
scans_of (suc (suc k)) = Often

-- how often two plans together scan a name
abbrev pub both : Scans → Scans → Scans
both Never b = b
both Once Never = Once
both Once Once = Often
both Once Often = Often
both Often b = Often
