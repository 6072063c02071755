use Rattle.std.proofs.Common.{sym, ◌∙◌, true≢false}
use Rattle.ded_shared.specs.Deciding.{untagged_few, untagged_number, untagged_colon}
use Rattle.ded_shared.proofs.TagsRead.{none_at_0, none_at_1, two_there, two_first, first_order, first_within, second_order, second_within, tag_read}
use Rattle.ded_shared.proofs.tag.tag_of.Goals as goal

pub returns-in_err-number : goal.returns-in_err-number
returns-in_err-number c = rw c.from_residual.ensures (untagged_few c.args.bytes.now c.args.list.now c.requires.tokens (none_at_0 _ c.in_err-number.ensures.lookup.0))

pub returns-in_err-colon : goal.returns-in_err-colon
returns-in_err-colon c = rw c.from_residual-in_err-colon.ensures (untagged_few c.args.bytes.now c.args.list.now c.requires.tokens (none_at_1 _ c.in_err-colon.ensures.lookup.0))

pub session_of-requires-clause-order : goal.session_of-requires-clause-order
session_of-requires-clause-order c = first_order c.args.bytes.now _ _ _ (two_first c.args.bytes.now c.args.list.now c.in_ok-number.field-0.now c.in_ok-colon.field-0.now _ _ c.requires.tokens c.in_ok-number.ensures.lookup.1 c.in_ok-colon.ensures.lookup.1 c.in_ok-colon.ensures.lookup.0)

pub session_of-requires-clause-within : goal.session_of-requires-clause-within
session_of-requires-clause-within c = first_within c.args.bytes.now _ _ _ (two_first c.args.bytes.now c.args.list.now c.in_ok-number.field-0.now c.in_ok-colon.field-0.now _ _ c.requires.tokens c.in_ok-number.ensures.lookup.1 c.in_ok-colon.ensures.lookup.1 c.in_ok-colon.ensures.lookup.0)

pub returns-in_err-session : goal.returns-in_err-session
returns-in_err-session c = rw c.from_residual-in_err-session.ensures (untagged_number c.args.bytes.now _ _ _ (two_first c.args.bytes.now c.args.list.now c.in_ok-number.field-0.now c.in_ok-colon.field-0.now _ _ c.requires.tokens c.in_ok-number.ensures.lookup.1 c.in_ok-colon.ensures.lookup.1 c.in_ok-colon.ensures.lookup.0) c.in_err-session.ensures)

pub is_colon-requires-clause-order : goal.is_colon-requires-clause-order
is_colon-requires-clause-order c = second_order c.args.bytes.now _ _ _ (two_first c.args.bytes.now c.args.list.now c.in_ok-number.field-0.now c.in_ok-colon.field-0.now _ _ c.requires.tokens c.in_ok-number.ensures.lookup.1 c.in_ok-colon.ensures.lookup.1 c.in_ok-colon.ensures.lookup.0)

pub is_colon-requires-clause-within : goal.is_colon-requires-clause-within
is_colon-requires-clause-within c = second_within c.args.bytes.now _ _ _ (two_first c.args.bytes.now c.args.list.now c.in_ok-number.field-0.now c.in_ok-colon.field-0.now _ _ c.requires.tokens c.in_ok-number.ensures.lookup.1 c.in_ok-colon.ensures.lookup.1 c.in_ok-colon.ensures.lookup.0)

pub returns-then-not-is_colon : goal.returns-then-not-is_colon
returns-then-not-is_colon c = untagged_colon c.args.bytes.now _ _ _ (two_first c.args.bytes.now c.args.list.now c.in_ok-number.field-0.now c.in_ok-colon.field-0.now _ _ c.requires.tokens c.in_ok-number.ensures.lookup.1 c.in_ok-colon.ensures.lookup.1 c.in_ok-colon.ensures.lookup.0) (λ e. true≢false (sym (c.is_colon.ensures.1 e) ∙ c.if-not-is_colon.true))

pub behind-requires : goal.behind-requires
behind-requires c = second_within c.args.bytes.now _ _ _ (two_first c.args.bytes.now c.args.list.now c.in_ok-number.field-0.now c.in_ok-colon.field-0.now _ _ c.requires.tokens c.in_ok-number.ensures.lookup.1 c.in_ok-colon.ensures.lookup.1 c.in_ok-colon.ensures.lookup.0)

pub behind_tag-requires : goal.behind_tag-requires
behind_tag-requires c = two_there c.args.list.now c.in_ok-colon.ensures.lookup.0

pub returns : goal.returns
returns c = tag_read c.args.bytes.now _ _ _ (two_first c.args.bytes.now c.args.list.now c.in_ok-number.field-0.now c.in_ok-colon.field-0.now _ _ c.requires.tokens c.in_ok-number.ensures.lookup.1 c.in_ok-colon.ensures.lookup.1 c.in_ok-colon.ensures.lookup.0) _ _ _ c.requires.short c.in_ok-session.ensures (c.is_colon.ensures.0 c.if-not-is_colon.false) c.behind.ensures c.behind_tag.ensures
