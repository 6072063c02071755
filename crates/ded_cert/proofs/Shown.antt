-- What certificates show: a tuple of which a proof checks holds nowhere.
use Rattle.std.proofs.Common.{List, ◌++◌}
use Rattle.ded_model.specs.declared.certificate.Proof.{Proof}
use Rattle.ded_model.specs.declared.certificate.Proof.TheVariants.{Text, Multipliers}
use Rattle.ded_model.specs.Row.{Atom, tuple_holds}
use Rattle.ded_theory.specs.Both.{firsts}
use Rattle.ded_model.specs.Cell.{HoldsNowhere}
use Rattle.ded_weighing.proofs.Shown.{rows_nowhere}
use Rattle.ded_cert.specs.Checks.{Checks}
use Rattle.ded_cert.proofs.Halves.{no_rows, no_texts}

-- two tuples of which a proof checks have no common point
pub tuples_nowhere : (t u : List Atom) (proof : Proof) → Checks t u proof → HoldsNowhere (tuple_holds (t ++ u))
tuples_nowhere t u Text h = no_texts (t ++ u) h
tuples_nowhere t u (Multipliers ms) h = no_rows (t ++ u) (rows_nowhere ms (firsts (t ++ u)) h)
