use Rattle.std.proofs.Common.{◌≡◌, ◌+◌, drop}
use Rattle.ded_lex.specs.Fronts.{word_rest}
use Rattle.ded_readback.proofs.bytes.word_length.Given as goal

abbrev pub invariant-loop-i : goal.invariant-loop-i
invariant-loop-i l = word_rest l.bytes ≡ l.i + word_rest (drop l.i l.bytes)
