use Rattle.std.proofs.Common.{◌≡◌, sym, ap, ◌∙◌, is_some, true≢false}
use Rattle.std.specs.BTreeMap.{is_at}
use Rattle.std.specs.Map.{lookup}
use Rattle.std.specs.Option.{option_copied}
use Rattle.std.specs.Ordering.{nat_cmp}
use Rattle.ded_relation.specs.Relations.{Relation}
use Rattle.ded_relation.specs.declared.relation.Relation.TheInside.{Inside}
use Rattle.ded_relation.proofs.Numbers.{found_numbered}
use Rattle.ded_relation.proofs.relation.Relation.told.Goals as goal

pub unreachable-requires : goal.unreachable-requires
unreachable-requires c =
    let same : c.self.inside.tuples.entries ≡ c.args.self.now.tuples.entries = ap (λ (r : Relation). r.tuples.entries) c.self.view_is in
    true≢false (sym c.requires ∙ sym (found_numbered c.args.number c.args.self.now.tuples.entries) ∙ ap (λ ts. is_some (lookup (is_at (nat_cmp c.args.number)) ts)) (sym same)
    ∙ ap (λ (r : Inside). is_some (lookup (is_at (nat_cmp c.args.number)) r.tuples.entries)) (sym c.self-inside.view_is) ∙ ap is_some (sym c.get.ensures.value ∙ ap option_copied c.in_default.is))
