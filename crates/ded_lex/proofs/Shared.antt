-- Lemmas that several crates cite.
use Rattle.std.proofs.Common.{◌≡◌, ℕ, ◌+◌, ◌<◌, arith, true}
use Rattle.std.proofs.lemmas.Bool.Decides.{nat_tests}
use Rattle.ded_lex.specs.Lexemes.{digit_byte}

pub is_digit : (d : ℕ) → d < 10 → digit_byte (48 + d) ≡ true
is_digit d h = grind (arith, nat_tests)
