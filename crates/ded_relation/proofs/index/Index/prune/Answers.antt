use Rattle.std.proofs.Common.{◌≡◌, List, refl, subst, sym}
use Rattle.std.specs.List.Sorted.{IsPermutation}
use Rattle.ded_hull.specs.declared.entry.ReachEntry.{ReachEntry}
use Rattle.ded_hull.specs.Entries.{of_keys}
use Rattle.ded_hull.specs.Segments.{IsSegment, AreSegments}
use Rattle.ded_hull.proofs.Middles.{every_moved}
use Rattle.ded_relation.specs.Relations.{IsIndex}
use Rattle.ded_relation.proofs.Indexed.{every_of, pruned}
use Rattle.ded_relation.proofs.Results.{either_way}
use Rattle.ded_relation.proofs.index.Index.prune.Goals as goal

pub returns-then-count-saturating_add : goal.returns-then-count-saturating_add
returns-then-count-saturating_add c =
    let ts = c.args.tuples.now.entries in
    let old = c.args.self.now.hulls.entries in
    let new = c.retain.new.self.entries in
    record {
      reaches = λ h. either_way c.retain.result (IsPermutation (of_keys ts old) new) (new ≡ old) c.retain.ensures.kept c.retain.ensures.unchanged (λ p. pruned old new ts p h) (λ e. subst (λ (es : List ReachEntry). IsIndex es ts) (sym e) h);
      segments = λ h. either_way c.retain.result (IsPermutation (of_keys ts old) new) (new ≡ old) c.retain.ensures.kept c.retain.ensures.unchanged (λ p. every_moved IsSegment (of_keys ts old) new p (every_of IsSegment ts old h)) (λ e. subst AreSegments (sym e) h);
      texts = refl;
    }
