use Rattle.std.proofs.Common.{◌≡◌, false, sym, ap, ◌∙◌}
use Rattle.ded_lex.specs.Tokens.{token_text}
use Rattle.ded_terminals.specs.Reserved.{may_be_reserved}
use Rattle.ded_terminals.proofs.Reserved.{is_name}
use Rattle.ded_terminals.proofs.word.word_item.Goals as goal

pub returns-then-not-may_be_reserved : goal.returns-then-not-may_be_reserved
returns-then-not-may_be_reserved c =
    let e : may_be_reserved (token_text c.args.bytes.now c.args.token) ≡ false = ap may_be_reserved (sym c.text-text.ensures) ∙ sym c.may_be_reserved.ensures ∙ c.if-not-may_be_reserved.true in
    sym (is_name (token_text c.args.bytes.now c.args.token) e c.args.language)
