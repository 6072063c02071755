use Rattle.std.proofs.Common.{rules, ◌≡◌, ◌∙◌, ◌++◌, ◌<◌, length, take, ap, sym, subst}
use Rattle.std.proofs.lemmas.List.{take_all}
use Rattle.ded_hull.specs.declared.entry.ReachEntry.{ReachEntry}
use Rattle.ded_ranges.specs.Reaches.{IsWithin, hull}
use Rattle.ded_hull.specs.Segments.{AreSegments, IsHull}
use Rattle.ded_hull.proofs.Found.{covers_more}
use Rattle.ded_hull.proofs.Halved.{hull_more, front_segments}
use Rattle.ded_hull.proofs.entry.cover.Goals as goal

pub loop-i-preserved : goal.loop-i-preserved
loop-i-preserved c =
    let inside : c.loop-i.i < length c.args.entries.now = search rules in
    let es = c.args.entries.now in
    let i = c.loop-i.i in
    let e = c.index-entries-i.result in
    let value : c.widen.new.self ≡ hull c.loop-i.hull e.reach = c.widen.ensures.value ∙ ap (λ (e : ReachEntry). hull c.loop-i.hull e.reach) (sym c.index-entries-i.is) in (
      covers_more c.loop-i.hull c.widen.new.self es i e inside (sym c.index-entries-i.is) c.widen.ensures.own (subst (λ (e : ReachEntry). IsWithin e.reach c.widen.new.self) (sym c.index-entries-i.is) c.widen.ensures.other) c.loop-i.invariant.0,
      λ xs h s. hull_more c.loop-i.hull c.widen.new.self xs es i e inside (sym c.index-entries-i.is) value s (c.loop-i.invariant.1 xs h (front_segments i es e inside (sym c.index-entries-i.is) s)),
    )

pub returns-clause-hull : goal.returns-clause-hull
returns-clause-hull c = λ xs h s.
    let es = c.args.entries.now in
    let all : take c.loop-i.i es ≡ es = take_all c.loop-i.i es c.loop-i-test.false in
    subst (λ ys. IsHull c.loop-i.hull (xs ++ ys)) all (c.loop-i.invariant.1 xs h (subst AreSegments (sym all) s))
