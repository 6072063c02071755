use Rattle.std.proofs.Common.{length, subst}
use Rattle.std.proofs.lemmas.Result.{IfOk-weaker}
use Rattle.ded_elimination.specs.Adding.{HoldExtended, Adds, OfFirst}
use Rattle.ded_elimination.specs.Pairs.{LevelHolds, UpperHolds}
use Rattle.ded_elimination.proofs.Additions.{adds_then}
use Rattle.ded_elimination.proofs.Exactness.{pairs_exact}
use Rattle.ded_elimination.proofs.pairs.by_pairs.Goals as goal

pub returns-then-branch-clause-adds : goal.returns-then-branch-clause-adds
returns-then-branch-clause-adds g c =
    let s = c.args.slot in
    let rows = c.args.rows.now in
    let first = subst (λ b. Adds g.M.Mixing.rows s rows (OfFirst (LevelHolds s) rows (length rows)) c.args.out.now.rows.items b c.keep_level.new.out.rows.items) c.if-branch.true c.in_ok-keep_level.ensures in
    IfOk-weaker _ (λ more. Adds g.M.Mixing.rows s rows (OfFirst (UpperHolds s rows) rows (length rows)) c.keep_level.new.out.rows.items more c.mix_uppers.new.out.rows.items) _
    (λ more k. adds_then g.M.Mixing.rows s rows (OfFirst (LevelHolds s) rows (length rows)) (OfFirst (UpperHolds s rows) rows (length rows)) (HoldExtended s rows)
    c.args.out.now.rows.items c.keep_level.new.out.rows.items more c.mix_uppers.new.out.rows.items first k (λ p h f g. pairs_exact s rows c.requires.normal p h c.requires.none f g))
    c.mix_uppers.ensures.adds
