use Rattle.std.proofs.Common.{◌∙◌, ap₂, subst, sym}
use Rattle.std.specs.Prelude.{◌↔◌, IsTrue}
use Rattle.ded_box.specs.Boxes.{Shared, boxes_meet}
use Rattle.ded_box.proofs.Shares.{boxes_meet-is}
use Rattle.ded_box.proofs.bound_box.meets.Goals as goal

pub returns-clause-shared : goal.returns-clause-shared
returns-clause-shared c =
    let is = c.all_meet.ensures ∙ ap₂ boxes_meet c.spans.ensures.spans c.spans-2.ensures.spans in
    subst (λ t. IsTrue t ↔ Shared c.args.a.now c.args.b.now) (sym is) (boxes_meet-is c.args.a.now c.args.b.now c.spans.ensures.intervals c.spans-2.ensures.intervals)
