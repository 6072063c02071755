-- The symbol of a sign is that of its text in the language.
use Rattle.std.proofs.Common.{sym, ap, ◌∙◌}
use Rattle.ded_lex.specs.declared.token.TokenKind.{TokenKind}
use Rattle.ded_lex.specs.Tokens.{token_text, lexeme_of}
use Rattle.ded_terminals.specs.Symbols.{sign_symbol, symbol}
use Rattle.ded_terminals.proofs.item.item_of.Goals as goal

pub returns-in-Sign : goal.returns-in-Sign
returns-in-Sign c =
    c.sign_item.ensures c.args.bytes.now
    ∙ ap (sign_symbol c.args.language) c.text.ensures
    ∙ ap (λ (k : TokenKind). symbol c.args.language (lexeme_of k (token_text c.args.bytes.now c.args.token))) (sym c.in-Sign.is)
