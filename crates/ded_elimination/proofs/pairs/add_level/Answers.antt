use Rattle.std.proofs.Common.{◌≡◌, pos, sym, ap, ◌∙◌, subst}
use Rattle.std.proofs.lemmas.Result.{IfOk-weaker}
use Rattle.ded_model.specs.Constraint.{LinearConstraint}
use Rattle.ded_model.specs.Coefs.{coef_at}
use Rattle.ded_model.specs.Row.{row_holds}
use Rattle.ded_elimination.specs.Keeping.{Keeps}
use Rattle.ded_elimination.specs.Adding.{IsRemaining}
use Rattle.ded_elimination.specs.Pairs.{LevelHolds}
use Rattle.ded_elimination.proofs.Additions.{adds_kept}
use Rattle.ded_elimination.proofs.Passed.{is_zero}
use Rattle.ded_elimination.proofs.Remains.{level_remains}
use Rattle.ded_elimination.proofs.pairs.add_level.Goals as goal

pub returns-in_ok-copy : goal.returns-in_ok-copy
returns-in_ok-copy g c =
    let s = c.args.slot in
    let r = c.args.row.now in
    let x = c.in_ok-copy.field-0 in
    let same : x ≡ r = c.in_ok-copy.ensures in
    let zero : coef_at r.coefs s ≡ pos 0 =
    is_zero c.at.result (coef_at r.coefs s) c.at.ensures.short (c.at.ensures.value ∙ ap (λ (y : LinearConstraint). coef_at y.coefs s) c.row.view_is) c.if-at-eq0.true in
    IfOk-weaker _ (λ more. Keeps x c.args.out.now.rows.items more c.keep.new.out.rows.items) _
    (λ more k. λ rows linear inside. adds_kept g.M.Mixing.rows s rows (LevelHolds s r) x c.args.out.now.rows.items more c.keep.new.out.rows.items k
    (subst (IsRemaining g.M.Mixing.rows s rows) (sym same) (level_remains g.M.Mixing.rows s rows linear r c.requires.rows inside zero)) (λ p d h z. ap (λ (y : LinearConstraint). row_holds y p) (sym same) ∙ h))
    c.keep.ensures.keeps
