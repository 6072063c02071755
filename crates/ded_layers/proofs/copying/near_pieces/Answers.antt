use Rattle.std.proofs.Common.{List, subst, ◌^◌}
use Rattle.ded_ranges.specs.declared.limit.Limit.{Limit}
use Rattle.ded_hull.specs.Entries.{IsComplete}
use Rattle.ded_layers.specs.Layers.{pieces_of}
use Rattle.ded_layers.proofs.Near.{added, enough_of}
use Rattle.ded_layers.proofs.copying.near_pieces.Goals as goal

pub returns : goal.returns
returns c = λ w within index.
    (let es = c.args.index.now.entries in
    let ids = c.in_ok-ids.ids.items in
    let ls = c.in_ok-limits.limits.items in
    enough_of (2 ^ 32) w c.args.parts.now es index c.args.corners.now within ls c.in_ok-limits.ensures ids (subst (λ (bs : List Limit). IsComplete bs es ids) c.deref.ensures.value c.in_ok-ids.ensures) c.add_from.new.near.items
    (added (2 ^ 32) (pieces_of c.args.parts.now) ids c.deref-2.result.now c.new-near.result.items c.add_found.new.near.items c.add_from.new.near.items c.new-near.ensures.items c.deref-2.ensures.value c.in_ok-add_found.ensures c.in_ok-add_from.ensures))
