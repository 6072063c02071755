use Rattle.std.proofs.Common.{ℕ, List, OnOk, ap, ◌∙◌, subst}
use Rattle.ded_model.specs.Command.{command_form}
use Rattle.ded_shared.specs.Parts.{Parts, Notes}
use Rattle.ded_shared.specs.State.{is_among}
use Rattle.ded_shared.proofs.Noting.{noted, added_kept}
use Rattle.ded_shared.proofs.shared.Shared.note.Goals as goal

pub invariant_of-self : goal.invariant_of-self
invariant_of-self c =
    added_kept c.add_all.result c.self.inside.catalogue c.self.inside.transactions.items c.self.inside.log.items c.deref.result.now c.add_all.new.names.items c.add_all.ensures.ok c.add_all.ensures.err c.self.invariant

pub returns-clause-ok : goal.returns-clause-ok
returns-clause-ok c =
    let s : Parts = record { table = c.self.inside.catalogue; transactions = c.self.inside.transactions.items; log = c.self.inside.log.items } in
    let u : Parts = record { table = c.self.inside.catalogue; transactions = c.self.inside.transactions.items; log = c.add_all.new.names.items } in
    subst (λ (z : Parts). OnOk c.add_all.result (Notes (command_form c.args.command.now) z u)) c.self.view_is
    (noted c.add_all.result (command_form c.args.command.now) s c.add_all.new.names.items c.deref.result.now c.add_all.ensures.ok
    (λ n. ap (λ (l : List (List ℕ)). is_among l n) c.deref.ensures.value ∙ c.in_ok-names.ensures n))
