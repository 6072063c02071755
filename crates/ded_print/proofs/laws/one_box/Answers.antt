use Rattle.ded_print.proofs.QuotedTexts.{one_box}
use Rattle.ded_print.proofs.laws.one_box.Goals as goal

pub returns : goal.returns
returns c = one_box
