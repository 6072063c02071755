use Rattle.std.proofs.Common.{arith}
use Rattle.ded_packed.proofs.Numbers.{half_even, half_odd}
use Rattle.ded_packed.proofs.reader.whole_at.Goals as goal

pub returns-then-place-eq0 : goal.returns-then-place-eq0
returns-then-place-eq0 c = half_even c.args.place (omega (arith, c.ranges.place.fits)) c.if-place-eq0.true

pub returns-else-place-eq0 : goal.returns-else-place-eq0
returns-else-place-eq0 c = half_odd c.args.place (omega (arith, c.ranges.place.fits)) c.if-place-eq0.false
