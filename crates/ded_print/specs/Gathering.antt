-- What becomes of pieces that are gathered before they are sent to a sink.
use Rattle.std.specs.Prelude.{◌≡◌, ℕ, List, ◌++◌, Result, Err, MatchResult}
use Rattle.std.specs.declared.option.Option.{Option}
use Rattle.ded_io.specs.declared.device.Failed.{Failed}
use Rattle.ded_io.specs.Causes.{HasCause}
use Rattle.ded_io.specs.Devices.{Sent, AddsAll}
use Rattle.ded_print.specs.declared.gathered.Gathered.{Gathered}

-- a sink's bytes and its count of faults, the bytes gathered for it, and whether all that was sent went well
pub record Output : Type 0 where
  pub contents : Option (List ℕ)
  pub faults : ℕ
  pub pending : List ℕ
  pub sent : Result (Unit {0}) Failed

-- a sink's bytes and its count of faults, with what is gathered for it and whether all that was sent went well
abbrev pub output : Option (List ℕ) → ℕ → Gathered → Output
output contents faults g = record { contents = contents; faults = faults; pending = g.pending.items; sent = g.sent }

-- since the sink held these bytes and had counted these faults, the text was put: what isn't pending was added, or where
-- a send failed a front of the text was, and the count of faults rose then
pub record Printed (contents : Option (List ℕ)) (faults : ℕ) (text : List ℕ) (now : Output) : Type 0 where
  pub bytes : MatchResult now.sent (λ _. Sent contents now.contents text now.pending) (λ _. (rest : List ℕ) × Sent contents now.contents text rest)
  pub cause : HasCause faults now.faults now.sent

-- the bytes are put after all that was put before
pub record Puts (before after : Output) (bytes : List ℕ) : Type 0 where
  pub goes : (contents : Option (List ℕ)) (faults : ℕ) (text : List ℕ) → Printed contents faults text before → Printed contents faults (text ++ bytes) after

-- where nothing failed so far the bytes are sent, and else nothing is
abbrev pub SendsAfter : Result (Unit {0}) Failed → Option (List ℕ) → ℕ → Option (List ℕ) → ℕ → Result (Unit {0}) Failed → List ℕ → Type 0
SendsAfter so_far contents faults held_now faults_now result bytes =
    MatchResult so_far
    (λ _. AddsAll contents held_now result bytes × HasCause faults faults_now result)
    (λ e. (result ≡ Err e) × (held_now ≡ contents) × (faults_now ≡ faults))

-- nothing is pending at the end: all that was put is added, or where a send failed a front of it
pub record Finishes (before : Output) (held_now : Option (List ℕ)) (faults_now : ℕ) (result : Result (Unit {0}) Failed) : Type 0 where
  pub ends : (contents : Option (List ℕ)) (faults : ℕ) (text : List ℕ) → Printed contents faults text before → AddsAll contents held_now result text × HasCause faults faults_now result
