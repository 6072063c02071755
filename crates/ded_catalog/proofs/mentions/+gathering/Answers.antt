use Rattle.std.proofs.Common.{rules, ◌≡◌}
use Rattle.ded_model.specs.declared.formula.Formula.TheFolds.{fold-roll-Formula, fold_out-Formula}
use Rattle.ded_model.specs.declared.formula.Formula.TheViews.{the_lemmas}
use Rattle.ded_model.specs.Form.{form}
use Rattle.ded_model.specs.Logic.{implies}
use Rattle.ded_catalog.proofs.Gathering.{gathers_both}
use Rattle.ded_relation.proofs.Results.{on_ok}
use Rattle.ded_catalog.proofs.mentions.+gathering.Goals as goal

pub gather-returns-in_ok-gather-in-Implies : goal.gather-returns-in_ok-gather-in-Implies
gather-returns-in_ok-gather-in-Implies t c =
    let formed : form c.args.formula.now ≡ implies (form c.deref.result.now) (form c.deref-in-Implies.result.now) = search (rules, the_lemmas, fold-roll-Formula, fold_out-Formula) in
    on_ok c.gather-in-Implies.result _ _
    (gathers_both (form c.deref.result.now) (form c.deref-in-Implies.result.now) (form c.args.formula.now) c.args.names.now.keys c.gather.new.names.keys c.gather-in-Implies.new.names.keys formed c.in_ok-gather-in-Implies.ensures)
    c.gather-in-Implies.ensures
