use Rattle.std.proofs.Common.{arith}
use Rattle.std.proofs.lemmas.Result.{on_ok_weaker}
use Rattle.sqlite_trees.specs.View.{IsClean}
use Rattle.ded_journal.specs.Journals.{IsLaid}
use Rattle.ded_journal.proofs.Found.{kept_as_made}
use Rattle.ded_journal.proofs.inspecting.make.Goals as goal

pub returns-clause-kept : goal.returns-clause-kept
returns-clause-kept g c =
    let mid = g.S.Store.view c.lay_down.new.store in
    let store = c.commit.new.self in
    let new = g.S.Store.view store in
    let laid : IsClean new → IsLaid mid = λ h. c.in_default.ensures.ok (omega (arith, c.commit.ensures.clean)) in
    on_ok_weaker c.commit.result (kept_as_made new (g.S.Store.recovers store) (g.met.S.Store.shut_if_dirty store) (g.met.S.Store.settled store) mid laid) c.commit.ensures.ok
