use Rattle.std.proofs.Common.{refl, sym, subst, ◌∙◌}
use Rattle.ded_catalog.specs.Mentions.{AreOnce}
use Rattle.ded_catalog.specs.Users.{AreUsed}
use Rattle.ded_catalog.proofs.Counting.{is_used, lowers_more, raises_none, raises_all}
use Rattle.ded_catalog.proofs.users.lower_all.Goals as goal

pub lower-requires : goal.lower-requires
lower-requires c =
    is_used c.deref-name-items.result.now c.loop-name.name-index c.name-item.result (subst AreOnce (sym c.deref-name-items.ensures.value) c.requires.once) c.loop-name-test.true c.name-item.is c.args.entries.now.entries c.loop-name.entries.entries (subst (λ l. AreUsed l c.args.entries.now.entries) (sym c.deref-name-items.ensures.value) c.requires.used) c.loop-name.invariant.0

pub loop-name-init : goal.loop-name-init
loop-name-init c = (raises_none c.args.entries.now.entries, refl)

pub loop-name-preserved : goal.loop-name-preserved
loop-name-preserved c = (
  lowers_more c.deref-name-items.result.now c.loop-name.name-index c.name-item.result (subst AreOnce (sym c.deref-name-items.ensures.value) c.requires.once) c.loop-name-test.true c.name-item.is c.args.entries.now.entries c.loop-name.entries.entries c.lower.new.self.entries c.loop-name.invariant.0 c.lower.ensures.lowered,
  c.lower.ensures.hashed ∙ c.loop-name.invariant.1,
)

pub returns-clause-lowered : goal.returns-clause-lowered
returns-clause-lowered c = raises_all c.args.names.now.items c.deref-name-items.result.now c.loop-name.name-index c.loop-name.entries.entries c.args.entries.now.entries c.deref-name-items.ensures.value c.loop-name-test.false c.loop-name.invariant.0
