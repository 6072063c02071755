use Rattle.std.proofs.Common.{◌≡◌, ◌∙◌, true, length, replicate, sym, ap, subst}
use Rattle.std.proofs.lemmas.List.{length-replicate}
use Rattle.ded_model.specs.Cell.{conj_holds, HoldsNowhere}
use Rattle.ded_model.specs.Row.{row_holds}
use Rattle.ded_weighing.specs.Columns.{lent}
use Rattle.ded_cert.specs.Choosing.{chosen}
use Rattle.ded_cert.proofs.Chosen.{all_chosen, lent_length}
use Rattle.ded_cert.proofs.choosing.needed.Goals as goal

pub loop-i-init : goal.loop-i-init
loop-i-init c =
    let all : c.in_ok-flags.flags.items ≡ replicate (length c.args.rows.now) true = c.in_ok-flags.ensures.items_if_clones_equal (λ y e. e) in
    let same : chosen c.in_ok-flags.flags.items (lent c.args.rows.now) ≡ lent c.args.rows.now =
    ap (λ fs. chosen fs (lent c.args.rows.now)) (all ∙ ap (λ n. replicate n true) (sym (lent_length c.args.rows.now))) ∙ all_chosen (lent c.args.rows.now) in
    record {
      nowhere = subst (λ rs. HoldsNowhere (conj_holds row_holds rs)) (sym same) c.requires.nowhere;
      count = ap length all ∙ length-replicate (length c.args.rows.now) true;
    }
