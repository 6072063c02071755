use Rattle.std.proofs.Common.{◌≡◌, ◌∙◌, sym, drop}
use Rattle.std.specs.Prelude.{codes}
use Rattle.std.proofs.lemmas.Bool.Decides.{Decides-eqb}
use Rattle.std.proofs.lemmas.Slice.Eq.{starts_is}
use Rattle.ded_query.proofs.MadeNames.{reads_as}
use Rattle.ded_query.proofs.made.is_closure.Goals as goal

pub returns : goal.returns
returns c =
    let s = c.as_slice.result.now in
    let same : s ≡ c.args.name.now = c.as_slice.ensures.value ∙ c.name.view_is in
    let k = starts_is Decides-eqb s (codes "closure(") c.starts_with.result c.starts_with.ensures.value in
    reads_as c.args.name.now c.starts_with.result (drop 8 s) (λ t. sym same ∙ k.0 t) (λ rest i. k.1 rest (same ∙ i)) c.requires
