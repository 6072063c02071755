use Rattle.std.proofs.Common.{◌≡◌, true, false, is_some, sym, subst}
use Rattle.std.specs.List.{list_any}
use Rattle.ded_sorts.specs.Changes.{DropsEntry}
use Rattle.ded_model.specs.Entries.{known, entry_uses}
use Rattle.ded_catalog.specs.State.{catalogue_of}
use Rattle.ded_catalog.proofs.Calls.{name_there, kept-taken, drops-taken}
use Rattle.ded_catalog.proofs.Unused.{mentions_there}
use Rattle.ded_catalog.proofs.catalogue.Catalogue.drop_name.Goals as goal

pub take_out-requires : goal.take_out-requires
take_out-requires c = mentions_there c.self.inside.limit c.self.inside.names.entries c.args.name.now c.self.invariant

pub invariant_of-self : goal.invariant_of-self
invariant_of-self c =
    let s = name_there c.self.inside.limit c.self.inside.names.entries c.args.name.now c.self.invariant (subst (λ t. is_some (known (catalogue_of t) c.args.name.now) ≡ true) (sym c.self.view_is) c.requires.defined) in
    kept-taken c.self.inside.limit c.self.inside.names.entries c.args.name.now c.self.invariant s.0 s.1 _ c.take_out.ensures.entries
    (subst (λ t. list_any (entry_uses c.args.name.now) (catalogue_of t).entries ≡ false) (sym c.self.view_is) c.requires.unused)

pub returns-clause-dropped : goal.returns-clause-dropped
returns-clause-dropped c =
    let s = name_there c.self.inside.limit c.self.inside.names.entries c.args.name.now c.self.invariant (subst (λ t. is_some (known (catalogue_of t) c.args.name.now) ≡ true) (sym c.self.view_is) c.requires.defined) in
    subst (λ t. DropsEntry (catalogue_of t) (catalogue_of (record { limit = c.self.inside.limit; names = c.take_out.new.table.entries; hashing = c.take_out.new.table.hashing })) c.args.name.now) c.self.view_is
    (drops-taken c.self.inside.limit c.self.inside.names.entries c.args.name.now c.self.invariant s.0 s.1 _ c.take_out.ensures.entries)
