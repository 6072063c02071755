use Rattle.std.proofs.Common.{◌<◌, ◌≤◌, length, get_or, ap, ◌∙◌, subst}
use Rattle.std.proofs.lemmas.List.{take_all}
use Rattle.ded_model.specs.Lines.{atoms_lines}
use Rattle.ded_database.specs.Lost.{AreApartLines}
use Rattle.ded_database.proofs.RowLines.{apart_atom}
use Rattle.ded_database.proofs.lines.has_any.Goals as goal

pub loop-atom-init : goal.loop-atom-init
loop-atom-init c = λ l i. absurd i

pub loop-atom-preserved : goal.loop-atom-preserved
loop-atom-preserved c =
    let same = c.deref-atom-items.ensures.value ∙ c.tuple.view_is in
    let i = c.loop-atom.atom-index in
    apart_atom c.args.tuple.now i c.atom-item.result c.args.lines.now (subst (λ t. i < length t) same c.loop-atom-test.true) (c.atom-item.is ∙ ap (λ t. get_or t i c.atom-item.result) same) (c.in_ok-is_of_any.ensures c.if-branch.false)
    c.loop-atom.invariant

pub returns : goal.returns
returns c =
    let same = c.deref-atom-items.ensures.value ∙ c.tuple.view_is in
    let i = c.loop-atom.atom-index in
    λ e. subst (λ t. AreApartLines (atoms_lines t) c.args.lines.now) (take_all i c.args.tuple.now (subst (λ t. length t ≤ i) same c.loop-atom-test.false)) c.loop-atom.invariant
