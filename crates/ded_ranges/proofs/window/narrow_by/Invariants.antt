use Rattle.std.proofs.Common.{◌≡◌, ℕ, true, take}
use Rattle.std.specs.Prelude.{ℤ}
use Rattle.ded_ranges.specs.Boxes.{StaysAround}
use Rattle.ded_ranges.specs.Reaches.{Lies}
use Rattle.ded_ranges.specs.Limits.{are_met, may_hold}
use Rattle.ded_ranges.proofs.window.narrow_by.Given as goal

abbrev pub invariant-loop-i : goal.invariant-loop-i
invariant-loop-i l =
    ((v : ℕ → ℤ) (den : ℕ) → Lies l.initial.reach v den → are_met v den (take l.i l.limits) ≡ true → Lies l.reach v den)
    × StaysAround (λ rs. may_hold rs (take l.i l.limits)) l.initial.reach l.reach
