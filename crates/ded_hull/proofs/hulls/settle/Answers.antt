use Rattle.std.proofs.Common.{rules, ◌≡◌, ◌+◌, ◌≤◌, length, take, drop, subst}
use Rattle.ded_hull.specs.Trees.{all_of, IsRoomFor}
use Rattle.ded_hull.proofs.Falling.{falling_taken, room_settled}
use Rattle.ded_hull.proofs.hulls.settle.Goals as goal

pub returns-in_err-gather-clause-falling : goal.returns-in_err-gather-clause-falling
returns-in_err-gather-clause-falling c = λ h. falling_taken (length c.gather.new.trees.items) c.args.trees.now.items c.gather.new.trees.items c.gather.ensures.first h

pub returns-clause-falling : goal.returns-clause-falling
returns-clause-falling c = λ h.
    let old = c.args.trees.now.items in
    let new = c.gather.new.trees.items in
    let keep = c.kept-keep.result in
    let count : c.len-2.result ≡ length c.args.tail.now.items = search rules in
    let inside : keep ≤ length old = subst (λ ts. keep ≤ length ts) c.deref.ensures.value c.kept-keep.ensures.inside in
    let room : IsRoomFor (length (all_of (drop keep old)) + c.len-2.result) (take keep old) = subst (λ ts. IsRoomFor (length (all_of (drop keep ts)) + c.len-2.result) (take keep ts)) c.deref.ensures.value c.kept-keep.ensures.room in
    c.plant.ensures.falling (falling_taken (length new) old new c.gather.ensures.first h)
    (room_settled old new c.args.tail.now.items c.gather.new.tail.items keep c.len-2.result inside c.gather.ensures.first c.in_ok-gather.ensures.gathered c.gather.ensures.moved count room)
