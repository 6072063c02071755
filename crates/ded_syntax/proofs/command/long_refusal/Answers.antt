use Rattle.std.proofs.Common.{sym, ◌∙◌}
use Rattle.std.proofs.lemmas.Bool.{or_parts}
use Rattle.ded_terminals.specs.Items.{left}
use Rattle.ded_syntax.specs.DraftViews.{seen_draft}
use Rattle.ded_syntax.proofs.Refused.{long_name, has_literal, is_unfit}
use Rattle.ded_syntax.proofs.Unfit.{unfit_draft}
use Rattle.ded_syntax.proofs.command.long_refusal.Goals as goal

pub returns-then-has_long_name-clause-some : goal.returns-then-has_long_name-clause-some
returns-then-has_long_name-clause-some c = λ language bytes are.
    long_name language bytes (left c.args.items) are (seen_draft c.args.draft.now) c.requires.read c.requires.scanned
    (sym c.has_long_name.ensures ∙ c.if-has_long_name.true)

pub returns-then-has_long_literal-clause-some : goal.returns-then-has_long_literal-clause-some
returns-then-has_long_literal-clause-some c = λ language bytes are.
    has_literal language bytes (left c.args.items) are (seen_draft c.args.draft.now) c.requires.read c.requires.scanned
    (sym c.has_long_name.ensures ∙ c.if-has_long_name.false)
    (sym c.has_long_literal.ensures ∙ c.if-has_long_literal.true)

pub returns-then-is_unfit-clause-some : goal.returns-then-is_unfit-clause-some
returns-then-is_unfit-clause-some c = λ language bytes are.
    is_unfit language bytes (left c.args.items) are (seen_draft c.args.draft.now) c.requires.read c.requires.scanned
    (sym c.has_long_name.ensures ∙ c.if-has_long_name.false)
    (sym c.has_long_literal.ensures ∙ c.if-has_long_literal.false)
    (sym c.is_unfit.ensures ∙ c.if-is_unfit.true)

-- neither marks nor long rows
pub returns-else-is_unfit-clause-none : goal.returns-else-is_unfit-clause-none
returns-else-is_unfit-clause-none c =
    let both = or_parts _ _ (sym (unfit_draft (seen_draft c.args.draft.now)) ∙ sym c.is_unfit.ensures ∙ c.if-is_unfit.false) in
    record {
      names = sym c.has_long_name.ensures ∙ c.if-has_long_name.false;
      literals = sym c.has_long_literal.ensures ∙ c.if-has_long_literal.false;
      marks = both.0;
      rows = both.1;
    }
