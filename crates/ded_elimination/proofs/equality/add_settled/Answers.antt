use Rattle.std.proofs.Common.{◌≡◌, false, sym, ap, ◌∙◌, subst, inr, Err}
use Rattle.std.proofs.lemmas.Result.{err_from_is_err_and}
use Rattle.ded_model.specs.declared.memory.Refused.TheVariants.{Wide}
use Rattle.ded_model.specs.Constraint.{LinearConstraint}
use Rattle.ded_model.specs.Row.{row_holds}
use Rattle.ded_model.specs.Lines.{Line, In, row_lines}
use Rattle.ded_elimination.specs.LinearAtoms.{IsLinearAtom}
use Rattle.ded_elimination.specs.Adding.{IsRemaining}
use Rattle.ded_elimination.specs.Equalities.{settled_row, settled_clash, SettledHolds}
use Rattle.ded_elimination.proofs.Additions.{adds_kept}
use Rattle.ded_elimination.proofs.Remains.{settled_remains, settled_clashes}
use Rattle.ded_elimination.proofs.equality.add_settled.Goals as goal

pub returns-in_err-row-clause-never_wide : goal.returns-in_err-row-clause-never_wide
returns-in_err-row-clause-never_wide g c = λ d i.
    let p = err_from_is_err_and c.from_residual.result c.from_residual.ensures.1 in
    let is : c.in_err-row.field-0.0 ≡ Wide = cc (p.1, p.2, i) in
    c.in_err-row.ensures.never_wide d (ap Err is)

pub returns-in_err-row-clause-wide : goal.returns-in_err-row-clause-wide
returns-in_err-row-clause-wide g c = λ i rows linear ie ir.
    let p = err_from_is_err_and c.from_residual.result c.from_residual.ensures.1 in
    let is : c.in_err-row.field-0.0 ≡ Wide = cc (p.1, p.2, i) in
    settled_clashes g.M.Mixing.rows c.args.slot rows linear c.args.equal.now c.args.row.now ie ir c.requires.equality c.requires.mentions (c.in_err-row.ensures.wide (ap Err is))

pub returns-clause-adds : goal.returns-clause-adds
returns-clause-adds g c = λ rows linear ie ir.
    let s = c.args.slot in
    let e = c.args.equal.now in
    let r = c.args.row.now in
    let x = c.in_ok-row.row in
    let same : x ≡ settled_row s e r = c.in_ok-row.ensures.value in
    let normal : IsLinearAtom x = record { coefs = c.keep.ensures.coefs; row = c.in_ok-row.ensures.normal } in
    let short : (k : Line) → In k (row_lines x) → settled_clash s e r ≡ false = c.in_ok-row.ensures.short in
    adds_kept g.M.Mixing.rows s rows (SettledHolds s e r) x c.args.out.now.rows.items c.in_ok-keep.field-0 c.keep.new.out.rows.items c.in_ok-keep.ensures.keeps
    (subst (IsRemaining g.M.Mixing.rows s rows) (sym same) (settled_remains g.M.Mixing.rows s rows linear e r ie ir c.requires.equality c.requires.mentions
    (subst (λ y. (k : Line) → In k (row_lines y) → settled_clash s e r ≡ false) same short) (subst IsLinearAtom same normal) (subst g.M.Mixing.rows same c.in_ok-row.ensures.rows)))
    (λ p d h. inr (ap (λ (y : LinearConstraint). row_holds y p) (sym same) ∙ h))
