-- Tokens of a part of some bytes, which were cut with the others.
use Rattle.std.specs.Prelude.{◌≤◌, ℕ, List, length, map}
use Rattle.std.specs.List.{AllByRecursion}
use Rattle.ded_lex.specs.declared.token.Token.{Token}
use Rattle.ded_lex.specs.Tokens.{AreLexemes, lexeme}

-- each token stands among the bytes
abbrev pub AreTokensIn : List ℕ → List Token → Type 0
AreTokensIn bytes tokens = AllByRecursion (λ (t : Token). (t.start ≤ t.end) × (t.end ≤ length bytes)) tokens

-- the tokens, which stand among all bytes, say what this part of them says, and are at most 65,536
pub record AreTokensOf (part bytes : List ℕ) (tokens : List Token) : Type 0 where
  pub inside : AreTokensIn bytes tokens
  pub say : AreLexemes part (map (lexeme bytes) tokens)
  pub few : length tokens ≤ 65536
