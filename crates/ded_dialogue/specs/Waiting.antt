-- Texts that wait for a sink.
use Rattle.std.specs.Prelude.{ℕ, List, ◌++◌, Option, Result, MatchResult}
use Rattle.ded_io.specs.Devices.{Sent}

-- a text was put behind bytes that waited: a front of them all was sent and the rest waits, or the sink failed and took a front
pub record WritesBehind {T E : Type 0} (contents : Option (List ℕ)) (waiting : List ℕ) (now : Option (List ℕ)) (waits : List ℕ) (result : Result T E) (text : List ℕ) : Type 0 where
  pub bytes : MatchResult result (λ _. Sent contents now (waiting ++ text) waits) (λ _. (rest : List ℕ) × Sent contents now (waiting ++ text) rest)
