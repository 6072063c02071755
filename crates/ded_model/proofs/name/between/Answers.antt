use Rattle.std.proofs.Common.{◌∷◌, [], Some, None}
use Rattle.std.proofs.lemmas.Slice.Eq.{strip_prefix_is, strip_suffix_is}
use Rattle.std.proofs.lemmas.Bool.Decides.{Decides-eqb}
use Rattle.ded_model.proofs.Made.{behind_none, between_none, between_by}
use Rattle.ded_model.proofs.name.between.Goals as goal

pub returns-in-Some : goal.returns-in-Some
returns-in-Some c =
    between_by c.args.front.now c.args.bytes.now c.in-Some.rest.now c.strip_suffix.result
    (strip_prefix_is Decides-eqb c.args.bytes.now c.args.front.now (Some c.in-Some.rest) c.in-Some.ensures.cases)
    (strip_suffix_is Decides-eqb c.in-Some.rest.now (41 ∷ []) c.strip_suffix.result c.strip_suffix.ensures.cases)

pub returns-in-None : goal.returns-in-None
returns-in-None c =
    between_none c.args.front.now c.args.bytes.now
    (behind_none c.args.front.now c.args.bytes.now (strip_prefix_is Decides-eqb c.args.bytes.now c.args.front.now None c.in-None.ensures.cases))
