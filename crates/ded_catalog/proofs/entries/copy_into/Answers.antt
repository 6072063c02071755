use Rattle.std.proofs.Common.{refl, ◌∙◌}
use Rattle.ded_catalog.proofs.CopiedEntries.{copy_none, copy_more, copy_all, copy_new}
use Rattle.ded_catalog.proofs.entries.copy_into.Goals as goal

pub push_copy-requires : goal.push_copy-requires
push_copy-requires c =
    copy_new c.args.linked.now.entries c.loop-name.name-iterator c.next.new.self c.loop-name.copies.entries c.in-Some.name.now c.in_ok-key.key c.in-Some.entry.now c.in-Some.ensures.steps c.in_ok-key.ensures c.len.ensures.valid.0 c.loop-name.invariant.0

pub loop-name-init : goal.loop-name-init
loop-name-init c = (copy_none c.args.linked.now.entries c.into_iter-name-iterator.result c.args.copies.now.entries c.into_iter-name-iterator.ensures.into_iter_gives.0 c.requires, refl)

pub loop-name-preserved : goal.loop-name-preserved
loop-name-preserved c = (
  copy_more c.args.linked.now.entries c.loop-name.name-iterator c.next.new.self c.loop-name.copies.entries c.push_copy.new.copies.entries (c.in-Some.name.now, c.in-Some.entry.now)
      (c.in_ok-key.key, record { stored = c.in_ok-clone.field-0; users = c.in-Some.entry.now.users }) c.in-Some.ensures.steps c.in_ok-push_copy.ensures.pushed (c.in_ok-key.ensures, c.in_ok-clone.ensures.cases, refl) c.loop-name.invariant.0,
  c.push_copy.ensures.hashed ∙ c.loop-name.invariant.1,
)

pub returns-clause-copied : goal.returns-clause-copied
returns-clause-copied c = copy_all c.args.linked.now.entries c.loop-name.name-iterator c.loop-name.copies.entries c.in-None.ensures.steps.0 c.loop-name.invariant.0
