use Rattle.ded_kept.proofs.Running.{run_defines}
use Rattle.ded_kept.proofs.laws.defined_catalogues.Goals as goal

pub returns : goal.returns
returns c = λ limit m n statements replies defined steps. run_defines limit m n statements replies defined steps
