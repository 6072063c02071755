use Rattle.std.proofs.Common.{rules, not, bytes_eq}
use Rattle.std.proofs.lemmas.Fn.{filter_same}
use Rattle.ded_database.specs.declared.mark.Mark.{Mark}
use Rattle.ded_database.proofs.keeping.drop_kept.Goals as goal

pub returns-clause-marks : goal.returns-clause-marks
returns-clause-marks c = filter_same _ (λ (m : Mark). not (bytes_eq m.name c.args.name.now)) _ (λ x b q h. search rules) _ _ c.retain.ensures.filtered
