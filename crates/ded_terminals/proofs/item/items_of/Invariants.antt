use Rattle.std.proofs.Common.{◌≡◌, take}
use Rattle.std.specs.Prelude.{map}
use Rattle.ded_lex.specs.Tokens.{lexeme}
use Rattle.ded_terminals.specs.Symbols.{symbol}
use Rattle.ded_terminals.specs.Items.{symbols}
use Rattle.ded_terminals.proofs.item.items_of.Given as goal

abbrev pub invariant-loop-token : goal.invariant-loop-token
invariant-loop-token l = symbols l.bytes l.items.items ≡ map (symbol l.language) (map (lexeme l.bytes) (take l.token-index l.tokens))
