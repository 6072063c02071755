use Rattle.std.proofs.Common.{◌≡◌, ◌-◌, ℕ, List, ◌++◌, Some, None, IfSome, get_or, slice_set, refl, ap, sym, ◌∙◌, subst, rules}
use Rattle.ded_catalog.specs.State.{Table, catalogue_of}
use Rattle.ded_model.specs.declared.command.Refusal.TheVariants.{Memory}
use Rattle.ded_session.specs.Replies.{done, refused}
use Rattle.ded_shared.specs.Answered.{shared_form}
use Rattle.ded_shared.specs.Conflicts.{NoneInBoth}
use Rattle.ded_shared.specs.Forms.{plain, not_begun}
use Rattle.ded_shared.specs.Parts.{Parts, state_of}
use Rattle.ded_shared.specs.Rules.{Replays, Commits}
use Rattle.ded_shared.specs.State.{transaction_of}
use Rattle.ded_shared.proofs.Changing.{Places, read_at, put_same}
use Rattle.ded_shared.proofs.Current.{IsCurrent, own_replays, taken_kept, takes_over, takes_none}
use Rattle.ded_shared.proofs.Ending.{commit_none, commit_want, commit_done}
use Rattle.ded_shared.proofs.shared.Shared.take_over.Goals as goal

pub returns-in_default-clause-answered : goal.returns-in_default-clause-answered
returns-in_default-clause-answered c =
    let k : ℕ = c.args.session in
    let s : Parts = record { table = c.self.inside.catalogue; transactions = c.self.inside.transactions.items; log = c.self.inside.log.items } in
    let at : get_or c.self.inside.transactions.items (c.args.session - 1) None ≡ None =
    read_at c.self.inside.transactions.items c.args.session c.place_of.result c.index_mut-place.result.now c.index_mut-place.ensures.value c.place_of.ensures c.requires.low c.requires.high c.self.invariant.places ∙ c.in_default.is in
    subst (λ (xs : Places). Commits k (transaction_of (state_of c.args.self.now) k) (state_of c.args.self.now) not_begun (state_of (record { table = s.table; transactions = xs; log = s.log })))
    (sym (put_same s.transactions c.place_of.result c.index_mut-place.result.now _ c.index_mut-place.ensures.value refl))
    (subst (λ (z : Parts). Commits k (transaction_of (state_of z) k) (state_of z) not_begun (state_of s)) c.self.view_is (commit_none s k at))

pub returns-then-is_err-clause-answered : goal.returns-then-is_err-clause-answered
returns-then-is_err-clause-answered c =
    let s : Parts = record { table = c.self.inside.catalogue; transactions = c.self.inside.transactions.items; log = c.self.inside.log.items } in
    let same : c.add_all.new.names.items ≡ c.self.inside.log.items = search rules in
    commit_want c.args.self.now c.args.session (shared_form c.refused.result)
    (state_of (record { table = s.table; transactions = slice_set s.transactions c.place_of.result (Some c.in-Some.transaction); log = c.add_all.new.names.items })) c.refused.ensures
    (ap (λ (xs : Places). state_of (record { table = s.table; transactions = xs; log = c.add_all.new.names.items }))
    (put_same s.transactions c.place_of.result c.index_mut-place.result.now (Some c.in-Some.transaction) c.index_mut-place.ensures.value c.in-Some.is)
    ∙ ap (λ (l : List (List ℕ)). state_of (record { table = s.table; transactions = s.transactions; log = l })) same ∙ ap state_of c.self.view_is)

pub invariant_of-self-2 : goal.invariant_of-self-2
invariant_of-self-2 c =
    let s : Parts = record { table = c.self.inside.catalogue; transactions = c.self.inside.transactions.items; log = c.self.inside.log.items } in
    let at : get_or c.self.inside.transactions.items (c.args.session - 1) None ≡ Some c.in-Some.transaction =
    read_at c.self.inside.transactions.items c.args.session c.place_of.result c.index_mut-place.result.now c.index_mut-place.ensures.value c.place_of.ensures c.requires.low c.requires.high c.self.invariant.places ∙ c.in-Some.is in
    let grown : c.add_all.new.names.items ≡ c.self.inside.log.items ++ c.in-Some.transaction.changed.items = search rules in
    taken_kept s (c.args.session - 1) c.in-Some.transaction c.self.invariant at (subst (λ (z : Parts). IsCurrent z (c.args.session - 1)) (sym c.self.view_is) c.requires.current)
    (record { table = c.swap.new.x; transactions = slice_set s.transactions c.place_of.result None; log = c.add_all.new.names.items })
    c.swap.ensures.x_after (ap (λ (i : ℕ). slice_set s.transactions i None) c.place_of.ensures) grown

pub returns-clause-answered : goal.returns-clause-answered
returns-clause-answered c =
    let k : ℕ = c.args.session in
    let s : Parts = record { table = c.self.inside.catalogue; transactions = c.self.inside.transactions.items; log = c.self.inside.log.items } in
    let u : Parts = record { table = c.swap.new.x; transactions = slice_set s.transactions c.place_of.result None; log = c.add_all.new.names.items } in
    let at : get_or c.self.inside.transactions.items (c.args.session - 1) None ≡ Some c.in-Some.transaction =
    read_at c.self.inside.transactions.items c.args.session c.place_of.result c.index_mut-place.result.now c.index_mut-place.ensures.value c.place_of.ensures c.requires.low c.requires.high c.self.invariant.places ∙ c.in-Some.is in
    let grown : c.add_all.new.names.items ≡ c.self.inside.log.items ++ c.in-Some.transaction.changed.items = search rules in
    let replays : Replays c.in-Some.transaction.accepted.items (catalogue_of s.table) (catalogue_of u.table) =
    subst (λ (t : Table). Replays c.in-Some.transaction.accepted.items (catalogue_of s.table) (catalogue_of t)) (sym c.swap.ensures.x_after)
    (own_replays s (k - 1) c.in-Some.transaction c.self.invariant at (subst (λ (z : Parts). IsCurrent z (k - 1)) (sym c.self.view_is) c.requires.current)) in
    subst (λ (z : Parts). Commits k (transaction_of (state_of z) k) (state_of z) (plain done) (state_of u)) c.self.view_is
    (commit_done s k c.in-Some.transaction at (subst (λ (z : Parts). IfSome (transaction_of (state_of z) k) (λ y. NoneInBoth y.touched y.stale)) (sym c.self.view_is) c.requires.free) c.self.invariant
    u replays (ap (λ (i : ℕ). slice_set s.transactions i None) c.place_of.ensures) grown)

pub returns-clause-taken : goal.returns-clause-taken
returns-clause-taken c =
    let s : Parts = record { table = c.self.inside.catalogue; transactions = c.self.inside.transactions.items; log = c.self.inside.log.items } in
    let u : Parts = record { table = c.swap.new.x; transactions = slice_set s.transactions c.place_of.result None; log = c.add_all.new.names.items } in
    let at : get_or c.self.inside.transactions.items (c.args.session - 1) None ≡ Some c.in-Some.transaction =
    read_at c.self.inside.transactions.items c.args.session c.place_of.result c.index_mut-place.result.now c.index_mut-place.ensures.value c.place_of.ensures c.requires.low c.requires.high c.self.invariant.places ∙ c.in-Some.is in
    takes_over c.args.self.now u c.args.session c.in-Some.transaction (ap (λ (z : Parts). get_or z.transactions (c.args.session - 1) None) (sym c.self.view_is) ∙ at) (λ since. c.swap.ensures.x_after) _

pub returns-then-is_err-clause-taken : goal.returns-then-is_err-clause-taken
returns-then-is_err-clause-taken c =
    let u : Parts = record { table = c.self.inside.catalogue; transactions = slice_set c.self.inside.transactions.items c.place_of.result (Some c.in-Some.transaction); log = c.add_all.new.names.items } in
    takes_none c.args.self.now u c.args.session (shared_form c.refused.result) (plain (refused Memory)) c.refused.ensures (λ e. cc)
