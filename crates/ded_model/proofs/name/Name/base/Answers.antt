use Rattle.std.proofs.Common.{rules, ◌≡◌, ◌∙◌, ap}
use Rattle.ded_model.specs.Made.{base}
use Rattle.ded_model.proofs.Made.{base_of_closure, base_of_interior, base_of_none}
use Rattle.ded_model.proofs.name.Name.base.Goals as goal

pub returns-in-Some : goal.returns-in-Some
returns-in-Some c =
    let e : c.as_slice-bytes.result.now ≡ c.args.self.now = search rules in
    base_of_closure c.as_slice-bytes.result.now c.in-Some.inner.now c.in-Some.ensures ∙ ap base e

pub returns-in-Some-between : goal.returns-in-Some-between
returns-in-Some-between c =
    let e : c.as_slice-bytes.result.now ≡ c.args.self.now = search rules in
    base_of_interior c.as_slice-bytes.result.now c.in-Some-between.inner.now c.in-None.ensures c.in-Some-between.ensures ∙ ap base e

pub returns-in-None-between : goal.returns-in-None-between
returns-in-None-between c =
    let e : c.as_slice-bytes.result.now ≡ c.args.self.now = search rules in
    base_of_none c.as_slice-bytes.result.now c.in-None.ensures c.in-None-between.ensures ∙ ap base e
