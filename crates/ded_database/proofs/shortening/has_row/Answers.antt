use Rattle.std.proofs.Common.{◌<◌, ◌≤◌, [], length, get_or, ap, ◌∙◌, subst}
use Rattle.std.proofs.lemmas.List.{take_all}
use Rattle.ded_model.specs.Lines.{IsSubset, atoms_lines}
use Rattle.ded_database.proofs.Rowless.{rowless_atom}
use Rattle.ded_database.proofs.shortening.has_row.Goals as goal

pub loop-atom-preserved : goal.loop-atom-preserved
loop-atom-preserved c =
    let same = c.deref-atom-items.ensures.value ∙ c.tuple.view_is in
    let i = c.loop-atom.atom-index in
    rowless_atom c.args.tuple.now i c.atom-item.result c.in-Second.field-0 (subst (λ t. i < length t) same c.loop-atom-test.true) (c.atom-item.is ∙ ap (λ t. get_or t i c.atom-item.result) same) c.in-Second.is
    c.loop-atom.invariant

pub returns : goal.returns
returns c =
    let same = c.deref-atom-items.ensures.value ∙ c.tuple.view_is in
    let i = c.loop-atom.atom-index in
    λ is. subst (λ t. IsSubset (atoms_lines t) []) (take_all i c.args.tuple.now (subst (λ t. length t ≤ i) same c.loop-atom-test.false)) c.loop-atom.invariant
