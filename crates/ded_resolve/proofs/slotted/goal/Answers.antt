use Rattle.std.proofs.Common.{◌≡◌, length, ◌∙◌, rules}
use Rattle.std.proofs.lemmas.Result.{IfOk-weaker}
use Rattle.ded_model.specs.Form.{form}
use Rattle.ded_resolve.proofs.Reading.{heading_readable, heading_goal}
use Rattle.ded_resolve.proofs.slotted.goal.Goals as goal

pub read-requires : goal.read-requires
read-requires c =
    let count : c.len.result ≡ length c.args.heading.now = search rules in
    heading_readable c.args.heading.now (form c.args.formula.now) c.in_ok-scope.scope c.len.result c.in_ok-scope.ensures count c.requires.plain c.requires.bound c.requires.sorted c.requires.few

pub returns : goal.returns
returns c =
    let count : c.len.result ≡ length c.args.heading.now = search rules in
    IfOk-weaker c.read.result _ _ (λ g e. e ∙ heading_goal c.args.heading.now (form c.args.formula.now) c.in_ok-scope.scope c.len.result c.in_ok-scope.ensures count) c.read.ensures.goal
