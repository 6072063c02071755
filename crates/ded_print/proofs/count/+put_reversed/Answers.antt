-- The rest, and then the first byte.
use Rattle.std.proofs.Common.{ap, sym, ◌∙◌, reverse, ◌∷◌, []}
use Rattle.std.proofs.lemmas.List.{reverse-append}
use Rattle.ded_print.proofs.Gathering.{puts_both, puts_as}
use Rattle.ded_print.proofs.count.+put_reversed.Goals as goal

pub returns-in-Some : goal.returns-in-Some
returns-in-Some g t c = puts_as _ _ _ _ (sym (ap reverse c.in-Some.ensures.cases.0 ∙ reverse-append (c.in-Some.first.now ∷ []) c.in-Some.rest.now)) (puts_both _ _ _ _ _ c.put_reversed.ensures c.put.ensures)
