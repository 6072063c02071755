use Rattle.std.proofs.Common.{List, ◌≡◌, ◌∙◌}
use Rattle.std.specs.Prelude.{unsigned_abs}
use Rattle.ded_strokes.specs.Bounds.{PlaneLimit}
use Rattle.ded_layers.specs.Indexed.{LiesInAll}
use Rattle.ded_layers.proofs.Closed.{lies_read}
use Rattle.ded_layers.proofs.Convex.{two_pushed}
use Rattle.ded_layers.proofs.index.reach_of.Goals as goal

pub returns : goal.returns
returns c = λ m hm within e.
    (let lies : (ps : List PlaneLimit) → ps ≡ c.in_ok-planes.planes.items → LiesInAll ps m = λ ps same. lies_read c.args.part.now.piece c.args.window m within e ps (same ∙ c.in_ok-planes.ensures) in
    two_pushed (record { low = c.least_x.result; high = c.greatest_x.result }) (record { low = c.least_y.result; high = c.greatest_y.result }) m (unsigned_abs m.den) c.new-reach.result c.push.new.self c.push-2.new.self
    c.new-reach.ensures c.in_ok-push.ensures.added c.in_ok-push-2.ensures.added
    (record { low = c.least_x.ensures m hm (lies c.deref.result.now c.deref.ensures.value); high = c.greatest_x.ensures m hm (lies c.deref-3.result.now c.deref-3.ensures.value) })
    (record { low = c.least_y.ensures m hm (lies c.deref-5.result.now c.deref-5.ensures.value); high = c.greatest_y.ensures m hm (lies c.deref-7.result.now c.deref-7.ensures.value) }))
