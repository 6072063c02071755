use Rattle.ded_reread.proofs.WordsRead.{relations_good, inserts_good, views_good}
use Rattle.ded_reread.proofs.laws.read_words.Goals as goal

pub returns-clause-relations : goal.returns-clause-relations
returns-clause-relations c = relations_good

pub returns-clause-inserts : goal.returns-clause-inserts
returns-clause-inserts c = inserts_good

pub returns-clause-views : goal.returns-clause-views
returns-clause-views c = views_good
