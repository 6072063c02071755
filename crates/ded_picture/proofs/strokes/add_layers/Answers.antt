use Rattle.std.proofs.Common.{List, ◌++◌, ap, ◌∙◌, arith}
use Rattle.ded_strokes.specs.declared.parting.Stretch.{Stretch}
use Rattle.ded_picture.specs.Sheets.{strokes_of}
use Rattle.ded_picture.proofs.Stroked.{goes_next, goes_last, layer_within}
use Rattle.ded_picture.proofs.strokes.add_layers.Goals as goal

pub lines-requires : goal.lines-requires
lines-requires c =
    layer_within c.args.sheet.now.window c.args.layers.now c.loop-layer.layer-index c.layer-item.result c.requires c.loop-layer-test.true c.layer-item.is

pub loop-layer-preserved : goal.loop-layer-preserved
loop-layer-preserved c =
    goes_next c.args.sheet.now c.args.colour c.args.layers.now c.args.strokes.now.items c.args.layers.now c.loop-layer.layer-index c.layer-item.result _ _ _ _ _ c.loop-layer-test.true c.layer-item.is c.loop-layer.invariant c.in_ok-stretches.ensures
    (c.in_ok-add_strokes.ensures ∙ ap (λ (ss : List Stretch). c.loop-layer.strokes.items ++ strokes_of c.args.sheet.now c.loop-layer.colour ss) c.deref.ensures.value) c.in_ok-colour.ensures

pub returns : goal.returns
returns c =
    goes_last c.args.sheet.now c.args.colour c.args.layers.now c.args.strokes.now.items c.args.layers.now c.loop-layer.layer-index _ _ (omega (arith, c.loop-layer-test.false)) c.loop-layer.invariant
