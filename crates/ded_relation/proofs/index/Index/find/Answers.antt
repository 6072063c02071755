use Rattle.std.proofs.Common.{List, subst}
use Rattle.ded_ranges.specs.declared.limit.Limit.{Limit}
use Rattle.ded_hull.specs.Entries.{IsComplete}
use Rattle.ded_relation.proofs.Indexing.{finds_reaches}
use Rattle.ded_relation.proofs.index.Index.find.Goals as goal

pub returns-clause-found : goal.returns-clause-found
returns-clause-found g c =
    let index = c.args.self.now in
    let ids = c.in_ok-look_up.field-0.items in
    finds_reaches c.args.window.now c.args.heading.now index ids c.in_ok-look_up.ensures.found.ascending (subst (λ (ls : List Limit). IsComplete ls index.hulls.entries ids) c.deref-2.ensures.value c.in_ok-look_up.ensures.complete)
