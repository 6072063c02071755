use Rattle.std.proofs.Common.{◌<◌, ◌^◌, subst}
use Rattle.ded_catalog.proofs.Counting.{room}
use Rattle.ded_catalog.proofs.users.count.Goals as goal

pub raise_all-requires-clause-room : goal.raise_all-requires-clause-room
raise_all-requires-clause-room c = room c.args.entries.now.entries (subst (λ k. k < 2 ^ 63) c.len.ensures.len c.len.ensures.fits) c.requires.counted
