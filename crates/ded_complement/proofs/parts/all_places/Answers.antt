use Rattle.std.proofs.Common.{rules, ◌<◌, length, sym, subst}
use Rattle.ded_genrel.proofs.Items.{all-push}
use Rattle.ded_complement.specs.Parts.{ArePlaces}
use Rattle.ded_complement.proofs.Halved.{places_more}
use Rattle.ded_complement.proofs.parts.all_places.Goals as goal

pub loop-place-preserved : goal.loop-place-preserved
loop-place-preserved g c =
    let inside : c.loop-place.place < length c.args.taken.now = search rules in
    record {
      places = subst (ArePlaces c.args.taken.now) (sym c.in_ok-push.ensures.items) (all-push (λ i. i < length c.args.taken.now) c.loop-place.places.items c.loop-place.place c.loop-place.invariant.places inside);
      all = places_more c.args.taken.now c.loop-place.place c.loop-place.places.items c.push.new.self.items inside c.in_ok-push.ensures.items c.loop-place.invariant.all;
    }
