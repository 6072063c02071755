use Rattle.ded_lex.specs.declared.token.TokenKind.TheVariants as kind
use Rattle.ded_shared.proofs.Verbing.{alone, not_alone, only_order, only_within}
use Rattle.ded_shared.proofs.tag.verb_of.Goals as goal

pub returns-then-tokens-ne1 : goal.returns-then-tokens-ne1
returns-then-tokens-ne1 c = λ rest of. not_alone rest c.args.bytes.now c.args.tokens.now of c.if-tokens-ne1.true

pub verb_at-requires-clause-order : goal.verb_at-requires-clause-order
verb_at-requires-clause-order c = only_order c.args.bytes.now c.args.tokens.now (record { kind = kind.Word; start = 0; end = 0 }) c.if-tokens-ne1.false c.requires

pub verb_at-requires-clause-within : goal.verb_at-requires-clause-within
verb_at-requires-clause-within c = only_within c.args.bytes.now c.args.tokens.now (record { kind = kind.Word; start = 0; end = 0 }) c.if-tokens-ne1.false c.requires

pub returns : goal.returns
returns c = λ rest of. alone c.args.bytes.now c.args.tokens.now (record { kind = kind.Word; start = 0; end = 0 }) c.if-tokens-ne1.false rest of c.verb_at.result c.verb_at.ensures
