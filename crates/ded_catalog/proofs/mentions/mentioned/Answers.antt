use Rattle.std.proofs.Common.{◌∙◌}
use Rattle.std.proofs.lemmas.Result.{IfOk-weaker}
use Rattle.indexmap.proofs.CallerLemmas.{Drains-YieldsInOrder}
use Rattle.ded_model.specs.Form.{form}
use Rattle.ded_catalog.proofs.Gathering.{all_mentions}
use Rattle.ded_catalog.proofs.mentions.mentioned.Goals as goal

pub returns : goal.returns
returns c =
    IfOk-weaker c.from_iter.result _ _
    (λ ns h.
    let last = h.3.2 tt in
    all_mentions (form c.args.formula.now) c.with_hasher-names.result.keys c.gather.new.names.keys ns.items c.with_hasher-names.ensures.empty c.in_ok-gather.ensures
    (h.4.0 ∙ Drains-YieldsInOrder _ (λ s. s) h.0 h.1 h.2.2 (last.0, (h.3.0, h.3.1, last.1)) ∙ h.2.0))
    c.from_iter.ensures.ran
