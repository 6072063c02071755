use Rattle.std.proofs.Common.{sym, ◌∙◌, true≢false}
use Rattle.ded_journal.proofs.Found.{same_stamp}
use Rattle.ded_journal.proofs.Kept.{open_of}
use Rattle.ded_journal.proofs.inspecting.inspect.Goals as goal

pub returns-in-None-clause-cause : goal.returns-in-None-clause-cause
returns-in-None-clause-cause g c clean =
    let store = c.args.store.now in
    let v = g.S.Store.view store in
    let is_open = open_of v.is_open v.is_broken (g.met.S.Store.broken_if_shut store) (c.requires.fresh clean).sound in (
      λ nothing. true≢false (sym ((c.in_ok-has_nothing.ensures clean).1 nothing) ∙ c.if-branch.false),
      λ version low high is. c.in-None.ensures version low high (same_stamp _ _ (sym (c.version.ensures clean is_open) ∙ is)),
    )
