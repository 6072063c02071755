use Rattle.std.proofs.Common.{◌≡◌, pos, false, sym, ap, ◌∙◌, subst, Err}
use Rattle.std.specs.Prelude.{◌<ℤ◌}
use Rattle.std.proofs.lemmas.Result.{err_from_is_err_and}
use Rattle.ded_model.specs.declared.memory.Refused.TheVariants.{Wide}
use Rattle.ded_model.specs.Constraint.{LinearConstraint}
use Rattle.ded_model.specs.Coefs.{coef_at}
use Rattle.ded_model.specs.Row.{row_holds}
use Rattle.ded_model.specs.Lines.{Line, In, row_lines, lines_clash}
use Rattle.ded_row.specs.Mixing.{mix_of}
use Rattle.ded_elimination.specs.Adding.{IsRemaining}
use Rattle.ded_elimination.specs.LinearAtoms.{IsLinearAtom}
use Rattle.ded_elimination.specs.Pairs.{PairHolds}
use Rattle.ded_elimination.proofs.Additions.{adds_kept}
use Rattle.ded_elimination.proofs.Passed.{is_below}
use Rattle.ded_elimination.proofs.Remains.{above_by, below_by, mixed_remains, mixed_clash}
use Rattle.ded_elimination.proofs.pairs.add_pair.Goals as goal

pub returns-in_err-row-clause-never_wide : goal.returns-in_err-row-clause-never_wide
returns-in_err-row-clause-never_wide g c = λ d e.
    let p = err_from_is_err_and c.from_residual.result c.from_residual.ensures.1 in
    let is : c.in_err-row.field-0.0 ≡ Wide = cc (p.1, p.2, e) in
    c.in_err-row.ensures.never_wide d (ap Err is)

pub returns-in_err-row-clause-wide : goal.returns-in_err-row-clause-wide
returns-in_err-row-clause-wide g c = λ e rows linear iu il.
    let p = err_from_is_err_and c.from_residual.result c.from_residual.ensures.1 in
    let is : c.in_err-row.field-0.0 ≡ Wide = cc (p.1, p.2, e) in
    let u = c.args.upper.now in
    let l = c.args.lower.now in
    let s = c.args.slot in
    let low : coef_at l.coefs s <ℤ pos 0 =
    is_below c.at.result (coef_at l.coefs s) c.at.ensures.short (c.at.ensures.value ∙ ap (λ (y : LinearConstraint). coef_at y.coefs s) c.lower.view_is) c.if-at-lt0.true in
    mixed_clash g.M.Mixing.rows s rows linear u l iu il (above_by u.op (coef_at u.coefs s) c.requires.above) (below_by l.op (coef_at l.coefs s) low) (c.in_err-row.ensures.wide (ap Err is))

pub returns-in_ok-keep-clause-adds : goal.returns-in_ok-keep-clause-adds
returns-in_ok-keep-clause-adds g c = λ rows linear iu il.
    let u = c.args.upper.now in
    let l = c.args.lower.now in
    let s = c.args.slot in
    let x = c.in_ok-row.row in
    let same : x ≡ mix_of s u l = c.in_ok-row.ensures.value in
    let low : coef_at l.coefs s <ℤ pos 0 =
    is_below c.at.result (coef_at l.coefs s) c.at.ensures.short (c.at.ensures.value ∙ ap (λ (y : LinearConstraint). coef_at y.coefs s) c.lower.view_is) c.if-at-lt0.true in
    let normal : IsLinearAtom x = record { coefs = c.keep.ensures.coefs; row = c.in_ok-row.ensures.normal } in
    let short : (k : Line) → In k (row_lines x) → lines_clash s u l ≡ false = c.in_ok-row.ensures.short in
    adds_kept g.M.Mixing.rows s rows (PairHolds s u l) x c.args.out.now.rows.items c.in_ok-keep.field-0 c.keep.new.out.rows.items c.in_ok-keep.ensures.keeps
    (subst (IsRemaining g.M.Mixing.rows s rows) (sym same) (mixed_remains g.M.Mixing.rows s rows linear u l iu il (above_by u.op (coef_at u.coefs s) c.requires.above) (below_by l.op (coef_at l.coefs s) low)
    (subst (λ y. (k : Line) → In k (row_lines y) → lines_clash s u l ≡ false) same short) (subst IsLinearAtom same normal) (subst g.M.Mixing.rows same c.in_ok-row.ensures.rows)))
    (λ p d h z. ap (λ (y : LinearConstraint). row_holds y p) (sym same) ∙ h)
