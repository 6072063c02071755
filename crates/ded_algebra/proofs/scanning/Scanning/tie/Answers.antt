use Rattle.std.proofs.Common.{◌+◌, sym, subst}
use Rattle.ded_algebra.specs.Gathering.{IsApart}
use Rattle.ded_algebra.proofs.Apart.{apart_new}
use Rattle.ded_algebra.proofs.scanning.Scanning.tie.Goals as goal

pub returns-clause-apart : goal.returns-clause-apart
returns-clause-apart c =
    subst (IsApart (c.args.self.now.next + 1)) (sym c.in_ok-push.ensures.items)
    (apart_new c.args.self.now.next c.args.self.now.slots.items c.args.fresh c.requires.apart c.requires.next)
