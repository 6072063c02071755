use Rattle.std.proofs.Common.{arith, ℕ, ◌≡◌, ◌-◌, ◌≤◌}
use Rattle.ded_hull.proofs.entry.widest.Goals as goal

pub returns : goal.returns
returns c = λ s. first c.loop-place.best c.loop-place.place c.width-place-end.result c.loop-place.invariant c.loop-place.auto.place-end (c.width-place-end.ensures s)
  where
    first : (b p w : ℕ) → b ≤ p - 1 → p ≤ w → w ≤ 1 → b ≡ 0
    first b p w h k l = omega arith
