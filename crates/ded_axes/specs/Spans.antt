-- Numbers between two ends.
use Rattle.std.specs.Prelude.{ℤ, ◌≤ℤ◌}
use Rattle.ded_num.specs.Length.{IsWithin}

-- the numbers from `low` to `high`
pub record Span : Type 0 where
  pub low : ℤ
  pub high : ℤ

-- what the program keeps of them
pub record IsSpan (s : Span) : Type 0 where
  pub low : IsWithin 61 s.low
  pub high : IsWithin 61 s.high
  pub order : s.low ≤ℤ s.high
