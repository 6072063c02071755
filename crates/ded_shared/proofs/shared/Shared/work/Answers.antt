use Rattle.std.proofs.Common.{◌≡◌, ◌-◌, ℕ, List, Some, None, get_or, slice_set, length, refl, sym, ◌∙◌, subst}
use Rattle.ded_model.specs.Catalogue.{Catalogue}
use Rattle.ded_model.specs.Command.{command_form}
use Rattle.ded_catalog.specs.State.{catalogue_of}
use Rattle.ded_session.specs.Answered.{reply_form}
use Rattle.ded_shared.specs.Parts.{Parts, state_of}
use Rattle.ded_shared.specs.Rules.{Works, WorksOutside}
use Rattle.ded_shared.specs.State.{State, transaction_of}
use Rattle.ded_shared.proofs.Changing.{Places, within_at, kept_set, read_at, put_back}
use Rattle.ded_shared.proofs.Current.{within_more}
use Rattle.ded_shared.proofs.Noting.{works_inside, works_alone}
use Rattle.ded_shared.proofs.shared.Shared.work.Goals as goal

pub invariant_of-self : goal.invariant_of-self
invariant_of-self c =
    let xs : Places = c.self.inside.transactions.items in
    let log : List (List ℕ) = c.self.inside.log.items in
    let shared : Catalogue = catalogue_of c.self.inside.catalogue in
    let at : get_or xs (c.args.tag.session - 1) None ≡ Some c.in-Some.transaction =
    read_at xs c.args.tag.session c.place_of.result c.index_mut.result.now c.index_mut.ensures.value c.place_of.ensures c.requires.low c.requires.high c.self.invariant.places ∙ c.in-Some.is in
    kept_set c.self.inside.catalogue xs log c.place_of.result (Some c.work.new.self) c.self.invariant
    (within_more c.args.tag.rest.now (command_form c.args.command) c.requires.read (reply_form c.work.result) log c.in-Some.transaction c.work.new.self
    c.work.ensures.step (c.work.ensures.remembers log) shared (length log) c.work.ensures.since c.work.ensures.pieces
    (within_at shared (length log) xs (c.args.tag.session - 1) c.in-Some.transaction c.self.invariant.within at))

pub returns-in-Some : goal.returns-in-Some
returns-in-Some c =
    let k : ℕ = c.args.tag.session in
    let at : get_or c.self.inside.transactions.items (c.args.tag.session - 1) None ≡ Some c.in-Some.transaction =
    read_at c.self.inside.transactions.items c.args.tag.session c.place_of.result c.index_mut.result.now c.index_mut.ensures.value c.place_of.ensures c.requires.low c.requires.high c.self.invariant.places ∙ c.in-Some.is in
    let s : Parts = record { table = c.self.inside.catalogue; transactions = c.self.inside.transactions.items; log = c.self.inside.log.items } in
    subst (λ (z : Parts). Works k c.args.tag.rest.now (transaction_of (state_of z) k) (state_of z) (reply_form c.work.result)
    (state_of (record { table = s.table; transactions = slice_set s.transactions c.place_of.result (Some c.work.new.self); log = s.log }))) c.self.view_is
    (subst (λ (i : ℕ). Works k c.args.tag.rest.now (transaction_of (state_of s) k) (state_of s) (reply_form c.work.result)
    (state_of (record { table = s.table; transactions = slice_set s.transactions i (Some c.work.new.self); log = s.log }))) (sym c.place_of.ensures)
    (works_inside k c.args.tag.rest.now (command_form c.args.command) (reply_form c.work.result) s.table s.table s.transactions s.log c.in-Some.transaction c.work.new.self at refl c.requires.read
    c.work.ensures.step (c.work.ensures.remembers s.log)))

pub returns-in-None : goal.returns-in-None
returns-in-None c =
    let k : ℕ = c.args.tag.session in
    let reply = reply_form c.work_outside.result in
    let t : State = state_of c.work_outside.new.self in
    let at : get_or c.self.inside.transactions.items (c.args.tag.session - 1) None ≡ None =
    read_at c.self.inside.transactions.items c.args.tag.session c.place_of.result c.index_mut.result.now c.index_mut.ensures.value c.place_of.ensures c.requires.low c.requires.high c.self.invariant.places ∙ c.in-None.is in
    subst (λ (z : Parts). Works k c.args.tag.rest.now (transaction_of (state_of z) k) (state_of z) reply t) c.self.view_is
    (works_alone (record { table = c.self.inside.catalogue; transactions = c.self.inside.transactions.items; log = c.self.inside.log.items }) k c.args.tag.rest.now reply t at
    (subst (λ (xs : Places). WorksOutside c.args.tag.rest.now (state_of (record { table = c.self.inside.catalogue; transactions = xs; log = c.self.inside.log.items })) reply t)
    (put_back c.self.inside.transactions.items c.place_of.result c.index_mut.result.now c.index_mut.ensures.value) c.work_outside.ensures))
