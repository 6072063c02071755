use Rattle.std.proofs.Common.{◌≡◌, ◌==◌, ◌∙◌, ap, sym, arith}
use Rattle.std.specs.List.{list_any}
use Rattle.std.proofs.lemmas.Bool.Decides.{nat_tests}
use Rattle.ded_relation.specs.Relations.{Relation}
use Rattle.ded_relation.proofs.Numbers.{found_numbered, above_none}
use Rattle.ded_relation.proofs.relation.Relation.has.Goals as goal

pub returns-then-number-from : goal.returns-then-number-from
returns-then-number-from c =
    c.contains_key.ensures ∙ found_numbered c.args.number c.self.inside.tuples.entries ∙ ap (λ (r : Relation). list_any (λ t. t.0 == c.args.number) r.tuples.entries) c.self.view_is

pub returns-else-number-from : goal.returns-else-number-from
returns-else-number-from c =
    let inserts : c.self.inside.inserts ≡ c.args.self.now.inserts = ap (λ (r : Relation). r.inserts) c.self.view_is in
    grind (arith, nat_tests, c.if-number-from.false) ∙ sym (above_none c.args.self.now.inserts c.args.number c.args.self.now.tuples.entries (grind (arith, nat_tests)) c.requires)
