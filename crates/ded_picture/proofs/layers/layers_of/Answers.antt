use Rattle.std.proofs.Common.{◌∙◌, [], ap, sym}
use Rattle.std.specs.Prelude.{replicate}
use Rattle.std.proofs.lemmas.List.{map-id}
use Rattle.std.proofs.lemmas.Iterator.Adapters.{YieldsList-from_vec}
use Rattle.std.proofs.lemmas.Iterator.Consumers.{YieldsList-end}
use Rattle.ded_picture.specs.Layers.{put_all}
use Rattle.ded_picture.proofs.Layered.{next_layer}
use Rattle.ded_picture.proofs.layers.layers_of.Goals as goal

pub loop-shown-preserved : goal.loop-shown-preserved
loop-shown-preserved c = next_layer _ c.loop-shown.layers.items _ c.loop-shown.yielded c.in-Some.shown c.loop-shown.invariant c.in_ok-put_in.ensures

pub returns : goal.returns
returns c =
    let gives = c.into_iter-shown-iterator.ensures.into_iter_gives in
    let all = YieldsList-end (YieldsList-from_vec c.args.list.items gives.0 (gives.1 ∙ c.args.list.ok.0)) c.loop-shown.yielded c.loop-shown.shown-iterator c.loop-shown.yielded_by c.next.result c.next.new.self c.in-None.is c.next.ensures.steps in
    c.loop-shown.invariant ∙ ap (λ xs. put_all (replicate c.args.colours []) xs) (sym (map-id c.loop-shown.yielded) ∙ all.0)
