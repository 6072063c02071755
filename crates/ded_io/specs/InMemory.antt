-- What the devices in memory are made of, and what each of their calls does.
use Rattle.std.specs.Prelude.{ℕ, ◌+◌, ◌-◌, ◌^◌, min, Bool, ◌&&◌, ◌||◌, ◌==◌, nat_lt, if◌then◌else◌, List, [], ◌++◌, length, take, drop, Result}
use Rattle.std.specs.List.{list_any}
use Rattle.std.specs.Result.{result_unwrap_or}
use Rattle.ded_io.specs.Causes.{next_count}

-- the numbers of the calls that fail, from 1; how many calls were made; and how many of them failed
pub record Schedule : Type 0 where
  pub fails : List ℕ
  pub made : ℕ
  pub faults : ℕ

-- the schedule before the first call
abbrev pub new_schedule : List ℕ → Schedule
new_schedule fails = record { fails = fails; made = 0; faults = 0 }

-- whether the next call's number is one of those that fail; a call after that of number 2^64-1 has none
abbrev pub next_fails : Schedule → Bool
next_fails s = nat_lt s.made (2 ^ 64 - 1) && list_any (λ n. n == s.made + 1) s.fails

-- the schedule after one more call, which failed or didn't
abbrev pub after_call : Schedule → Bool → Schedule
after_call s failed = record {
  fails = s.fails;
  made = next_count s.made;
  faults = if failed then next_count s.faults else s.faults;
}

-- the bytes that are left, and those that the last read gave
pub record Supply : Type 0 where
  pub left : List ℕ
  pub last : List ℕ

-- the supply before the first read
abbrev pub new_supply : List ℕ → Supply
new_supply bytes = record { left = bytes; last = [] }

-- the bytes that are left and those that the last read gave, the most that a call gives, and which calls fail
pub record SourceState : Type 0 where
  pub left : List ℕ
  pub last : List ℕ
  pub piece : ℕ
  pub schedule : Schedule

-- how many bytes a call that doesn't fail gives into so much room
abbrev pub given_count : SourceState → ℕ → ℕ
given_count s room = min (min room s.piece) (length s.left)

-- the contents, room for how many more, the most that a call takes, and which calls fail
pub record SinkState : Type 0 where
  pub contents : List ℕ
  pub room : ℕ
  pub piece : ℕ
  pub schedule : Schedule

-- whether the next write of a piece that isn't empty fails: by its number, or for want of room
abbrev pub write_fails : SinkState → Bool
write_fails s = next_fails s.schedule || s.room == 0

-- how many bytes a write that doesn't fail takes of a piece of this length
abbrev pub taken_count : SinkState → ℕ → ℕ
taken_count s len = min (min len s.piece) s.room

-- how many bytes a call moved: none where it failed
abbrev pub moved : {E : Type 0} → Result ℕ E → ℕ
moved r = result_unwrap_or r 0

-- a buffer after the first n of these bytes were copied to its front
abbrev pub filled : List ℕ → List ℕ → ℕ → List ℕ
filled into bytes n = take n bytes ++ drop n into
