use Rattle.std.proofs.Common.{subst}
use Rattle.ded_strokes.specs.Near.{Direction}
use Rattle.ded_strokes.specs.Strokes.{HaveStroke}
use Rattle.ded_strokes.proofs.Stretched.{adds_one}
use Rattle.ded_strokes.proofs.parting.add_whole.Goals as goal

pub returns : goal.returns
returns c =
    adds_one c.args.pieces.now _ c.args.from c.args.to c.told-stroke.result c.args.out.now.items c.push.new.self.items
    (subst (λ (w : Direction). HaveStroke c.args.pieces.now w c.args.from c.args.to c.told-stroke.result) c.outward.ensures c.told-stroke.ensures)
    c.in_ok-push.ensures.items
