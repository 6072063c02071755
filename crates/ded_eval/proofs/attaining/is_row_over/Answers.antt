use Rattle.std.proofs.Common.{◌≡◌, true, rules}
use Rattle.std.specs.List.{list_all}
use Rattle.ded_model.specs.Coefs.{AreCoefs}
use Rattle.ded_model.specs.Point.{stands_in}
use Rattle.ded_eval.proofs.Attained.{row_same}
use Rattle.ded_eval.proofs.attaining.is_row_over.Goals as goal

pub returns : goal.returns
returns c = λ e p q i j h.
    let coefs : AreCoefs c.args.row.now.coefs = search rules in
    let over : list_all (λ c'. stands_in c.args.slots.now c'.0) c.args.row.now.coefs ≡ true = search rules in
    row_same c.args.slots.now p q c.args.row.now i j h coefs over
