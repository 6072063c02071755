use Rattle.ded_kept.proofs.Resumed.{unsaved_leaves, saved_leaves, saved_resumes}
use Rattle.ded_kept.proofs.resuming.resume.Goals as goal

pub returns-in_err-keep_header-clause-crash : goal.returns-in_err-keep_header-clause-crash
returns-in_err-keep_header-clause-crash g c =
    unsaved_leaves g.S.Store.recovers g.S.Store.is_shielded c.args.journal.now c.keep_header.new.journal _ c.requires.settled c.len.ensures c.if-len-eq0.true _ c.in_err-keep_header.ensures.unsaved

pub returns-then-len-eq0-clause-resumed : goal.returns-then-len-eq0-clause-resumed
returns-then-len-eq0-clause-resumed g c =
    saved_resumes g.S.Store.recovers g.S.Store.is_shielded c.args.journal.now c.keep_header.new.journal _ c.requires.settled c.len.ensures c.if-len-eq0.true c.in_ok-keep_header.ensures.saved c.args.limit c.in-Some.session c.in-Some.ensures.defines c.in-Some.ensures.unlisted c.in-Some.ensures.first

pub returns-then-len-eq0-clause-crash : goal.returns-then-len-eq0-clause-crash
returns-then-len-eq0-clause-crash g c =
    saved_leaves g.S.Store.recovers g.S.Store.is_shielded c.args.journal.now c.keep_header.new.journal _ c.requires.settled c.len.ensures c.if-len-eq0.true c.in_ok-keep_header.ensures.saved
