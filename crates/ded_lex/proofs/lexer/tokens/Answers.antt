use Rattle.std.proofs.Common.{List, arith, sym, ◌∙◌, subst}
use Rattle.std.proofs.lemmas.List.{length-drop}
use Rattle.ded_lex.specs.declared.token.Token.{Token}
use Rattle.ded_lex.specs.Tokens.{AreTokens}
use Rattle.ded_lex.proofs.TokenLists.{IsReadTo, front_at, read_none, read_more, read_all, read_nothing}
use Rattle.ded_lex.proofs.Spans.{within}
use Rattle.ded_lex.proofs.lexer.tokens.Goals as goal

pub loop-at-init : goal.loop-at-init
loop-at-init c = record {
  within = omega arith;
  read = subst (λ (l : List Token). IsReadTo c.args.bytes.now 0 l) (sym c.new-list.ensures.items) (read_none c.args.bytes.now);
}

pub returns-in_default-clause-no_token : goal.returns-in_default-clause-no_token
returns-in_default-clause-no_token c = λ is list t.
    read_nothing c.args.bytes.now c.loop-at.at c.loop-at.list.items c.loop-at-test.true (front_at c.args.bytes.now c.loop-at.at _ (sym c.in_default.is ∙ c.front_of.ensures.value)) c.loop-at.invariant.read list t

pub loop-at-preserved : goal.loop-at-preserved
loop-at-preserved c = record {
  within = omega (arith, c.loop-at.invariant.within, c.in-Some.ensures.within.1, length-drop c.loop-at.at c.args.bytes.now);
  read = read_more c.args.bytes.now c.loop-at.at c.loop-at.list.items c.add.new.tokens.items c.in-Some.front (front_at c.args.bytes.now c.loop-at.at _ c.in-Some.ensures.value) c.in_ok-add.ensures c.loop-at.invariant.read;
}

pub returns-clause-tokens : goal.returns-clause-tokens
returns-clause-tokens c = subst (λ (l : List Token). AreTokens c.args.bytes.now l) (sym c.of.ensures) (read_all _ _ _ c.loop-at-test.false c.loop-at.invariant.read)

pub returns-clause-spans : goal.returns-clause-spans
returns-clause-spans c = within _ _ (subst (λ (l : List Token). AreTokens c.args.bytes.now l) (sym c.of.ensures) (read_all _ _ _ c.loop-at-test.false c.loop-at.invariant.read))
