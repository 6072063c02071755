use Rattle.std.proofs.Common.{◌∙◌, ◌++◌, ◌∷◌, [], ap, subst, sym, take}
use Rattle.ded_box.specs.Boxes.{AreIntervals}
use Rattle.ded_box.proofs.Places.{done_to, intervals-push}
use Rattle.ded_box.proofs.bound_box.BoundBox.new.Goals as goal

pub loop-span-preserved : goal.loop-span-preserved
loop-span-preserved c = record {
  items = c.in_ok-push.ensures.items ∙ ap (λ xs. xs ++ c.checked.result ∷ []) c.loop-span.invariant.items ∙ ap (λ x. take c.loop-span.span-index c.args.spans.now ++ x ∷ []) c.checked.ensures.same
      ∙ sym (done_to c.args.spans.now c.loop-span.span-index c.span-item.result c.loop-span-test.true c.span-item.is);
  intervals = subst AreIntervals (sym c.in_ok-push.ensures.items) (intervals-push c.loop-span.list.items c.checked.result c.loop-span.invariant.intervals c.checked.ensures.intervals);
}
