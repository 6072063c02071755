use Rattle.ded_shared.proofs.TextsApart.{texts_tell}
use Rattle.ded_shared.proofs.laws.one_text.Goals as goal

pub returns : goal.returns
returns c = λ s t u x reply other xs ys names a b. texts_tell s t u names x reply other xs ys a b
