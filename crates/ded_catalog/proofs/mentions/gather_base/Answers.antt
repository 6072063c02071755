use Rattle.std.proofs.Common.{◌∙◌, ap, bytes_eq}
use Rattle.indexmap.specs.IndexSet.{insert_key}
use Rattle.ded_catalog.proofs.Gathering.{gathers_name}
use Rattle.ded_catalog.proofs.mentions.gather_base.Goals as goal

pub returns : goal.returns
returns c = gathers_name c.args.names.now.keys _ _ (c.in_ok-insert.ensures.keys ∙ ap (insert_key bytes_eq c.args.names.now.keys) c.in_ok-base.ensures)
