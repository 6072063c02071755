use Rattle.std.proofs.Common.{◌≡◌, length, ap, ◌∙◌}
use Rattle.ded_relation.specs.declared.index.Index.{Index}
use Rattle.ded_relation.specs.Relations.{IsIndexed}
use Rattle.ded_relation.proofs.Indexing.{indexed}
use Rattle.ded_relation.proofs.Results.{if_ok, on_answer}
use Rattle.ded_relation.proofs.index.Index.add.Goals as goal

pub returns-clause-indexed : goal.returns-clause-indexed
returns-clause-indexed c =
    let cs = c.args.heading.now in
    let reach = c.in_ok-reach.reach in
    let new : Index = record { hulls = c.insert-2.new.self; texts = c.insert.new.self } in
    let wide : length reach ≡ length cs = c.in_ok-reach.ensures.width ∙ c.len.ensures ∙ c.heading.inside.columns.ok.0 ∙ ap length c.heading.view_is in
    on_answer c.insert-2.result _ _ (λ x (h : IsIndexed cs (c.args.number, c.args.tuple.now) c.args.self.now new). h)
    (if_ok c.insert-2.result _ _ (λ x. IsIndexed cs (c.args.number, c.args.tuple.now) c.args.self.now new)
    (λ x p s. indexed cs c.args.number c.args.tuple.now c.args.self.now new reach c.in_ok-reach.ensures.values wide c.in_ok-reach.ensures.ends p s c.insert.ensures.hashing c.in_ok-insert.ensures.there c.insert.ensures.grows)
    c.insert-2.ensures.inserted c.insert-2.ensures.settled)
