use Rattle.std.proofs.Common.{arith, sym, ◌∙◌}
use Rattle.ded_lex.proofs.Feeding.{none_ended}
use Rattle.ded_lex.proofs.Blanks.{blank_tells, cut_tells}
use Rattle.ded_lex.specs.Splits.{Since}
use Rattle.ded_lex.proofs.splitter.Splitter.finish.Goals as goal

pub returns-then-is_blank-clause-rest : goal.returns-then-is_blank-clause-rest
unfolding Since
returns-then-is_blank-clause-rest c = λ bytes f. none_ended _ _ _ _ _ f

pub returns-then-is_blank-clause-blank : goal.returns-then-is_blank-clause-blank
unfolding Since
returns-then-is_blank-clause-blank c = λ is bytes f.
    blank_tells _ _ _ f.walks f.blanks (sym c.is_blank.ensures ∙ c.if-is_blank.true)

pub returns-then-self-gt-STATEMENT_BYTES-clause-rest : goal.returns-then-self-gt-STATEMENT_BYTES-clause-rest
unfolding Since
returns-then-self-gt-STATEMENT_BYTES-clause-rest c = λ bytes f. none_ended _ _ _ _ _ f

pub returns-then-self-gt-STATEMENT_BYTES-clause-cut_long : goal.returns-then-self-gt-STATEMENT_BYTES-clause-cut_long
unfolding Since
returns-then-self-gt-STATEMENT_BYTES-clause-cut_long c = λ is bytes f.
    (cut_tells _ _ _ f.walks f.blanks (sym c.is_blank.ensures ∙ c.if-is_blank.false), omega (arith, f.counts, c.if-self-gt-STATEMENT_BYTES.true))

pub returns-clause-rest : goal.returns-clause-rest
unfolding Since
returns-clause-rest c = λ bytes f. none_ended _ _ _ _ _ f

pub returns-clause-cut : goal.returns-clause-cut
unfolding Since
returns-clause-cut c = λ is bytes f.
    (cut_tells _ _ _ f.walks f.blanks (sym c.is_blank.ensures ∙ c.if-is_blank.false), omega (arith, f.counts, c.if-self-gt-STATEMENT_BYTES.false))
