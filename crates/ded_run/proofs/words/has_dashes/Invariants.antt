use Rattle.std.proofs.Common.{◌≡◌, drop, map}
use Rattle.std.specs.String.{string_bytes}
use Rattle.ded_run.specs.CommandLine.{has_dashes}
use Rattle.ded_run.proofs.words.has_dashes.Given as goal

-- it is so of all words where it is so of those that are left
abbrev pub invariant-loop-word : goal.invariant-loop-word
invariant-loop-word l = has_dashes (map string_bytes (drop l.word-index l.words)) ≡ has_dashes (map string_bytes l.words)
