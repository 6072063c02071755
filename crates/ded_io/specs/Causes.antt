-- When a device's call may answer that it failed.
use Rattle.std.specs.Prelude.{◌≡◌, ℕ, ◌+◌, ◌-◌, ◌^◌, ◌≤◌, min, Result, OnOk, OnErr}

-- what a u64 counter holds after one more: it stays at its last value
abbrev pub next_count : ℕ → ℕ
next_count count = min (count + 1) (2 ^ 64 - 1)

-- a count of faults rose, or stands at its last value
abbrev pub Rose : ℕ → ℕ → Type 0
Rose before now = next_count before ≤ now

-- the count never falls, stays as it was where the call is done, and rose where it failed
pub record HasCause {T E : Type 0} (before now : ℕ) (result : Result T E) : Type 0 where
  pub later : before ≤ now
  pub done : OnOk result (now ≡ before)
  pub failed : OnErr result (Rose before now)
