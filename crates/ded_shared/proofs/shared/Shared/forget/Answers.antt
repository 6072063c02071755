use Rattle.std.proofs.Common.{◌≡◌, true, is_none, length, ap, ◌∙◌, rules}
use Rattle.std.specs.List.{list_all}
use Rattle.ded_catalog.specs.State.{catalogue_of}
use Rattle.ded_shared.specs.Parts.{state_of}
use Rattle.ded_shared.proofs.Changing.{idle_within, idle_seen, with_places}
use Rattle.ded_shared.proofs.shared.Shared.forget.Goals as goal

pub invariant_of-self : goal.invariant_of-self
invariant_of-self c =
    let idle : list_all is_none c.self.inside.transactions.items ≡ true = search rules in
    record { places = c.self.invariant.places; within = idle_within (catalogue_of c.self.inside.catalogue) (length c.truncate.new.self.items) c.self.inside.transactions.items idle }

pub returns-clause-state : goal.returns-clause-state
returns-clause-state c =
    let idle : list_all is_none c.self.inside.transactions.items ≡ true = search rules in
    ap (with_places c.self.inside.catalogue) (idle_seen c.truncate.new.self.items c.self.inside.log.items c.self.inside.transactions.items idle) ∙ ap state_of c.self.view_is
