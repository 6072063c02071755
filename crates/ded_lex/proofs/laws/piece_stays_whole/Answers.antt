use Rattle.ded_lex.proofs.Cuts.{whole_stays}
use Rattle.ded_lex.proofs.laws.piece_stays_whole.Goals as goal

pub returns : goal.returns
returns c = whole_stays
