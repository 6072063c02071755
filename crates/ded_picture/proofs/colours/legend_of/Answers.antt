use Rattle.ded_picture.specs.Colours.{entries_of}
use Rattle.ded_picture.proofs.Coloured.{label_at, next_entry}
use Rattle.ded_picture.proofs.colours.legend_of.Goals as goal

pub loop-place-preserved : goal.loop-place-preserved
loop-place-preserved c = next_entry (entries_of 0 c.args.labels.now.keys) c.loop-place.legend.items c.push.new.self.items c.args.labels.now.keys c.loop-place.place c.loop-place.colour c.in_ok-colour.colour c.in-Some.label.now _ (label_at c.args.labels.now.keys c.loop-place.place _ c.get_index.result c.in-Some.is c.get_index.ensures.key) c.loop-place.invariant c.in_ok-words_of.ensures c.in_ok-push.ensures.items c.in_ok-colour.ensures
