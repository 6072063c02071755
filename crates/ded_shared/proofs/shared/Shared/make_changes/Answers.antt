use Rattle.std.proofs.Common.{◌≡◌, ◌-◌, ℕ, List, ◌++◌, Some, None, IfSome, get_or, length, sym, ap, ◌∙◌, subst, rules}
use Rattle.ded_catalog.specs.State.{Table, catalogue_of}
use Rattle.ded_session.specs.Replies.{done}
use Rattle.ded_shared.specs.Conflicts.{NoneInBoth}
use Rattle.ded_shared.specs.Forms.{plain}
use Rattle.ded_shared.specs.Parts.{Parts, state_of, AreKept}
use Rattle.ded_shared.specs.Rules.{Replays, Commits}
use Rattle.ded_shared.specs.State.{transaction_of}
use Rattle.ded_shared.proofs.Changing.{read_at}
use Rattle.ded_shared.proofs.Current.{IsCurrent, current_at, grown_by, takes_over}
use Rattle.ded_shared.proofs.Ending.{commit_done}
use Rattle.ded_shared.proofs.shared.Shared.make_changes.Goals as goal

pub take_over-requires-clause-current : goal.take_over-requires-clause-current
take_over-requires-clause-current c =
    let s : Parts = record { table = c.self.inside.catalogue; transactions = c.self.inside.transactions.items; log = c.self.inside.log.items } in
    let at : get_or c.self.inside.transactions.items (c.args.session - 1) None ≡ Some c.in-Some.transaction =
    read_at c.self.inside.transactions.items c.args.session c.place_of.result c.index.result.now c.index.ensures c.place_of.ensures c.requires.low c.requires.high c.self.invariant.places ∙ c.in-Some.is in
    let all : c.len.result ≡ length c.self.inside.log.items = c.len.ensures ∙ c.self.inside.log.ok.0 in
    subst (λ (z : Parts). IsCurrent z (c.args.session - 1)) c.self.view_is (current_at s (c.args.session - 1) c.in-Some.transaction at (c.if-transaction-len.true ∙ all))

pub invariant_of-self-2 : goal.invariant_of-self-2
invariant_of-self-2 c =
    let s : Parts = record { table = c.self.inside.catalogue; transactions = c.self.inside.transactions.items; log = c.self.inside.log.items } in
    let at : get_or c.self.inside.transactions.items (c.args.session - 1) None ≡ Some c.in-Some.transaction =
    read_at c.self.inside.transactions.items c.args.session c.place_of.result c.index.result.now c.index.ensures c.place_of.ensures c.requires.low c.requires.high c.self.invariant.places ∙ c.in-Some.is in
    let grown : c.add_all.new.names.items ≡ c.self.inside.log.items ++ c.in-Some.transaction.changed.items = search rules in
    subst (λ (l : List (List ℕ)). AreKept (record { table = c.in-Ok.catalogue; transactions = c.self.inside.transactions.items; log = l })) (sym grown)
    (grown_by s c.in-Ok.catalogue (c.args.session - 1) c.in-Some.transaction c.self.invariant at
    (subst (λ (l : List (List ℕ)). Replays l (catalogue_of s.table) (catalogue_of c.in-Ok.catalogue)) c.deref.ensures.value c.in-Ok.ensures))

pub returns-clause-answered : goal.returns-clause-answered
returns-clause-answered c =
    let k : ℕ = c.args.session in
    let s : Parts = record { table = c.self.inside.catalogue; transactions = c.self.inside.transactions.items; log = c.self.inside.log.items } in
    let u : Parts = c.put.new.self in
    let at : get_or c.self.inside.transactions.items (c.args.session - 1) None ≡ Some c.in-Some.transaction =
    read_at c.self.inside.transactions.items c.args.session c.place_of.result c.index.result.now c.index.ensures c.place_of.ensures c.requires.low c.requires.high c.self.invariant.places ∙ c.in-Some.is in
    let grown : c.add_all.new.names.items ≡ c.self.inside.log.items ++ c.in-Some.transaction.changed.items = search rules in
    let replays : Replays c.in-Some.transaction.accepted.items (catalogue_of s.table) (catalogue_of u.table) =
    subst (λ (t : Table). Replays c.in-Some.transaction.accepted.items (catalogue_of s.table) (catalogue_of t)) (sym c.put.ensures.table)
    (subst (λ (l : List (List ℕ)). Replays l (catalogue_of s.table) (catalogue_of c.in-Ok.catalogue)) c.deref.ensures.value c.in-Ok.ensures) in
    subst (λ (z : Parts). Commits k (transaction_of (state_of z) k) (state_of z) (plain done) (state_of u)) c.self.view_is
    (commit_done s k c.in-Some.transaction at (subst (λ (z : Parts). IfSome (transaction_of (state_of z) k) (λ y. NoneInBoth y.touched y.stale)) (sym c.self.view_is) c.requires.free) c.self.invariant
    u replays c.put.ensures.transactions (c.put.ensures.log ∙ grown))

pub returns-clause-taken : goal.returns-clause-taken
returns-clause-taken c =
    let at : get_or c.self.inside.transactions.items (c.args.session - 1) None ≡ Some c.in-Some.transaction =
    read_at c.self.inside.transactions.items c.args.session c.place_of.result c.index.result.now c.index.ensures c.place_of.ensures c.requires.low c.requires.high c.self.invariant.places ∙ c.in-Some.is in
    let all : c.len.result ≡ length c.self.inside.log.items = c.len.ensures ∙ c.self.inside.log.ok.0 in
    takes_over c.args.self.now c.put.new.self c.args.session c.in-Some.transaction (ap (λ (z : Parts). get_or z.transactions (c.args.session - 1) None) (sym c.self.view_is) ∙ at)
    (λ since. absurd (c.if-transaction-len.false (since ∙ ap (λ (z : Parts). length z.log) (sym c.self.view_is) ∙ sym all))) _
