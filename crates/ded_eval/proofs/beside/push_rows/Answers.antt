use Rattle.std.proofs.Common.{◌++◌, ◌∷◌, [], ◌≡◌, false, rules, sym, subst}
use Rattle.ded_model.specs.declared.plan.Plan.TheFolds.{fold-roll-Plan, fold_out-Plan}
use Rattle.ded_model.specs.declared.plan.Plan.TheViews.{the_lemmas}
use Rattle.ded_model.specs.Logic.{atom}
use Rattle.ded_model.specs.PlanForm.{rows, plan_form}
use Rattle.ded_eval.specs.Within.{is_rows, AreRowsOf}
use Rattle.ded_eval.proofs.RowsBeside.{rows_more, rows_other}
use Rattle.ded_eval.proofs.beside.push_rows.Goals as goal

pub returns-in_ok-append-in-Rows-clause-rows : goal.returns-in_ok-append-in-Rows-clause-rows
returns-in_ok-append-in-Rows-clause-rows g c fs r =
    let e : plan_form c.args.plan.now ≡ atom (rows c.in-Rows.tuple) = search (rules, the_lemmas, fold-roll-Plan, fold_out-Plan) in
    subst (λ f. AreRowsOf g.T.Theory.holds g.T.Theory.mentions g.T.Theory.lines (fs ++ f ∷ []) c.append.new.self.items) (sym e)
    (subst (AreRowsOf g.T.Theory.holds g.T.Theory.mentions g.T.Theory.lines (fs ++ atom (rows c.in-Rows.tuple) ∷ [])) (sym c.in_ok-append-in-Rows.ensures.items)
    (rows_more g.T.Theory.holds g.T.Theory.mentions g.T.Theory.lines fs c.in-Rows.tuple c.args.atoms.now.items c.in_ok-more-in-Rows.more.items c.in_ok-more-in-Rows.ensures.stands r))

pub returns-in-Scan-clause-rows : goal.returns-in-Scan-clause-rows
returns-in-Scan-clause-rows g c fs r =
    let e : is_rows (plan_form c.args.plan.now) ≡ false = search (rules, the_lemmas, fold-roll-Plan, fold_out-Plan) in
    rows_other g.T.Theory.holds g.T.Theory.mentions g.T.Theory.lines fs (plan_form c.args.plan.now) c.args.atoms.now.items e r

pub returns-in-Scan-2-clause-rows : goal.returns-in-Scan-2-clause-rows
returns-in-Scan-2-clause-rows g c fs r =
    let e : is_rows (plan_form c.args.plan.now) ≡ false = search (rules, the_lemmas, fold-roll-Plan, fold_out-Plan) in
    rows_other g.T.Theory.holds g.T.Theory.mentions g.T.Theory.lines fs (plan_form c.args.plan.now) c.args.atoms.now.items e r

pub returns-in-Scan-3-clause-rows : goal.returns-in-Scan-3-clause-rows
returns-in-Scan-3-clause-rows g c fs r =
    let e : is_rows (plan_form c.args.plan.now) ≡ false = search (rules, the_lemmas, fold-roll-Plan, fold_out-Plan) in
    rows_other g.T.Theory.holds g.T.Theory.mentions g.T.Theory.lines fs (plan_form c.args.plan.now) c.args.atoms.now.items e r

pub returns-in-Scan-4-clause-rows : goal.returns-in-Scan-4-clause-rows
returns-in-Scan-4-clause-rows g c fs r =
    let e : is_rows (plan_form c.args.plan.now) ≡ false = search (rules, the_lemmas, fold-roll-Plan, fold_out-Plan) in
    rows_other g.T.Theory.holds g.T.Theory.mentions g.T.Theory.lines fs (plan_form c.args.plan.now) c.args.atoms.now.items e r

pub returns-in-Scan-5-clause-rows : goal.returns-in-Scan-5-clause-rows
returns-in-Scan-5-clause-rows g c fs r =
    let e : is_rows (plan_form c.args.plan.now) ≡ false = search (rules, the_lemmas, fold-roll-Plan, fold_out-Plan) in
    rows_other g.T.Theory.holds g.T.Theory.mentions g.T.Theory.lines fs (plan_form c.args.plan.now) c.args.atoms.now.items e r

pub returns-in-Scan-6-clause-rows : goal.returns-in-Scan-6-clause-rows
returns-in-Scan-6-clause-rows g c fs r =
    let e : is_rows (plan_form c.args.plan.now) ≡ false = search (rules, the_lemmas, fold-roll-Plan, fold_out-Plan) in
    rows_other g.T.Theory.holds g.T.Theory.mentions g.T.Theory.lines fs (plan_form c.args.plan.now) c.args.atoms.now.items e r
