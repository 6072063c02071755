use Rattle.std.proofs.Common.{List, sym, subst, ◌∙◌}
use Rattle.ded_svg.specs.declared.picture.ColouredLine.{ColouredLine}
use Rattle.ded_picture.specs.Layers.{AddStrokes, AreLayersWithin}
use Rattle.ded_picture.proofs.Stroked.{all_strokes}
use Rattle.ded_picture.proofs.Within.{layers_within}
use Rattle.ded_picture.proofs.strokes.strokes_of.Goals as goal

pub add_layers-requires : goal.add_layers-requires
add_layers-requires c =
    subst (AreLayersWithin c.args.sheet.now.window) (sym (c.deref.ensures.value ∙ c.in_ok-layers.ensures)) (layers_within c.args.sheet.now.window c.args.colours c.args.list.items c.requires)

pub returns : goal.returns
returns c =
    all_strokes c.args.sheet.now c.deref.result.now _ _ (c.deref.ensures.value ∙ c.in_ok-layers.ensures) (subst (λ (old : List ColouredLine). AddStrokes c.args.sheet.now 0 c.deref.result.now old c.add_layers.new.strokes.items) c.new-strokes.ensures.items c.in_ok-add_layers.ensures)
