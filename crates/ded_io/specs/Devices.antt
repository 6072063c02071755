-- What a call of a source tells of the bytes that it gave, and what one of a sink does to the bytes that it holds, where those are told.
use Rattle.std.specs.Prelude.{◌≡◌, ℕ, ◌<◌, ◌≤◌, List, ◌++◌, length, take, Result, IfOk, IfSome, MatchResult}
use Rattle.std.specs.Io.KnownBytes.{Appends}
use Rattle.std.specs.declared.option.Option.{Option}

-- behind a read the source tells the bytes that this gave, and behind one that failed what it told before
abbrev pub TellsLast : {E : Type 0} → Option (List ℕ) → Option (List ℕ) → Result ℕ E → List ℕ → Type 0
TellsLast before now r into = MatchResult r (λ n. IfSome now (λ bytes. bytes ≡ take n into)) (λ _. now ≡ before)

-- a write takes at most all of a piece, and of one that isn't empty at least one byte
abbrev pub TakesSome : {E : Type 0} → Result ℕ E → List ℕ → Type 0
TakesSome r piece = IfOk r (λ n. (n ≤ length piece) × (0 < length piece → 0 < n))

-- of these bytes the sink took a front, and the rest is left to write
pub record Sent (old now : Option (List ℕ)) (bytes rest : List ℕ) : Type 0 where
  pub front : List ℕ
  pub is : front ++ rest ≡ bytes
  pub adds : Appends old now front

-- all bytes were added, or where the call failed only a front of them
abbrev pub AddsAll : {T E : Type 0} → Option (List ℕ) → Option (List ℕ) → Result T E → List ℕ → Type 0
AddsAll old new r bytes = MatchResult r (λ _. Appends old new bytes) (λ _. (rest : List ℕ) × Sent old new bytes rest)
