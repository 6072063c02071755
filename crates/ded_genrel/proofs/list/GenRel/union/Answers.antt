use Rattle.std.proofs.Common.{◌++◌, ◌∙◌, ap}
use Rattle.ded_genrel.specs.Lists.{conjs_of}
use Rattle.ded_genrel.proofs.Laws.{union_is}
use Rattle.ded_genrel.proofs.list.GenRel.union.Goals as goal

pub returns-clause-is : goal.returns-clause-is
returns-clause-is g c =
    union_is g.T.Theory.holds g.T.Theory.mentions g.T.Theory.lines c.args.self.now c.args.other.now c.push_copies.new.self
    (c.in_ok-push_copies.ensures ∙ ap (λ xs. xs ++ conjs_of c.list.result.now) c.in_ok-out.ensures ∙ ap (λ ys. c.args.self.now ++ ys) c.list.ensures.list)
