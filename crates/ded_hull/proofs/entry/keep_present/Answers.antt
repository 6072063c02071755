use Rattle.std.proofs.Common.{rules, is_some}
use Rattle.std.specs.BTreeMap.{is_at}
use Rattle.std.specs.Map.{lookup}
use Rattle.std.specs.Ordering.{nat_cmp}
use Rattle.std.proofs.lemmas.Fn.{filter_same}
use Rattle.ded_hull.proofs.entry.keep_present.Goals as goal

pub returns : goal.returns
returns g c = filter_same _ (λ e. is_some (lookup (is_at (nat_cmp e.id)) c.args.present.now.entries)) _ (λ x b q h. search rules) _ _ c.retain.ensures.filtered
