use Rattle.std.proofs.Common.{List, [], ◌∷◌, ◌++◌, set, ap, ◌∙◌, arith}
use Rattle.ded_layers.specs.declared.part.Part.{Part}
use Rattle.ded_picture.proofs.Layered.{put_inside, put_outside}
use Rattle.ded_picture.proofs.layers.put_in.Goals as goal

pub returns-in_ok-add : goal.returns-in_ok-add
returns-in_ok-add c = ap (λ (r : List Part). set c.args.layers.now.items c.args.colour r) c.in_ok-add.ensures ∙ ap (λ (r : List Part). set c.args.layers.now.items c.args.colour (r ++ c.args.part ∷ [])) (c.index_mut.ensures.value) ∙ put_inside c.args.layers.now.items c.args.colour c.args.part c.index_mut.result.now (omega (arith, c.if-colour-len.true, c.len.ensures))

pub returns-else-colour-len : goal.returns-else-colour-len
returns-else-colour-len c = put_outside c.args.layers.now.items c.args.colour c.args.part (omega (arith, c.if-colour-len.false, c.len.ensures))
