use Rattle.std.proofs.Common.{refl, sym, subst, ◌∙◌}
use Rattle.ded_catalog.specs.Mentions.{AreOnce}
use Rattle.ded_catalog.proofs.Counting.{has_room, raises_more, raises_none, raises_all}
use Rattle.ded_catalog.proofs.users.raise_all.Goals as goal

pub raise-requires : goal.raise-requires
raise-requires c =
    has_room c.deref-name-items.result.now c.loop-name.name-index c.name-item.result (subst AreOnce (sym c.deref-name-items.ensures.value) c.requires.once) c.loop-name-test.true c.name-item.is c.args.entries.now.entries c.loop-name.entries.entries c.requires.room c.loop-name.invariant.0

pub loop-name-init : goal.loop-name-init
loop-name-init c = (raises_none c.args.entries.now.entries, refl)

pub loop-name-preserved : goal.loop-name-preserved
loop-name-preserved c = (
  raises_more c.deref-name-items.result.now c.loop-name.name-index c.name-item.result (subst AreOnce (sym c.deref-name-items.ensures.value) c.requires.once) c.loop-name-test.true c.name-item.is c.args.entries.now.entries c.loop-name.entries.entries c.raise.new.self.entries c.loop-name.invariant.0 c.raise.ensures.raised,
  c.raise.ensures.hashed ∙ c.loop-name.invariant.1,
)

pub returns-clause-raised : goal.returns-clause-raised
returns-clause-raised c = raises_all c.args.names.now.items c.deref-name-items.result.now c.loop-name.name-index c.args.entries.now.entries c.loop-name.entries.entries c.deref-name-items.ensures.value c.loop-name-test.false c.loop-name.invariant.0
