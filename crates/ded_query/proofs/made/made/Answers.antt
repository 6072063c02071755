use Rattle.std.proofs.Common.{◌≡◌, ◌∙◌, Err, refl, sym, ap, subst}
use Rattle.std.proofs.lemmas.Result.{err_from_is_err_and}
use Rattle.ded_model.specs.declared.memory.Refused.TheVariants.{Wide}
use Rattle.ded_model.specs.Entries.{columns_in}
use Rattle.ded_model.specs.Made.{reading}
use Rattle.ded_catalog.specs.Snapshots.{snapshot_of}
use Rattle.ded_query.specs.Made.{IsStanding}
use Rattle.ded_query.proofs.Entries.{given_as, named_columns}
use Rattle.ded_query.proofs.MadeNames.{made_given, made_clash}
use Rattle.ded_query.proofs.made.made.Goals as goal

pub returns-in_err-near-clause-wide : goal.returns-in_err-near-clause-wide
returns-in_err-near-clause-wide c = λ i.
    let cat = snapshot_of c.args.snapshot.now in
    let p = err_from_is_err_and c.from_residual-in_err-near.result c.from_residual-in_err-near.ensures.1 in
    let is : c.in_err-near.field-0.0 ≡ Wide = cc (p.1, p.2, i) in
    let ts = c.deref.result.now in
    let stands = subst (IsStanding cat c.args.inner.now) (sym (c.deref.ensures.value ∙ c.tuples.view_is)) c.in_ok-tuples.ensures in
    made_clash (record { closure = c.names.ensures.closure; interior = c.names.ensures.interior; each = c.wide_names.ensures.each; together = c.wide_names.ensures.together })
    cat c.formed.ensures c.args.name.now c.args.inner.now c.requires.made c.requires.inner ts stands (reading c.args.name.now) refl (c.in_err-near.ensures.wide (ap Err is))

pub returns-clause-is : goal.returns-clause-is
returns-clause-is c =
    let cat = snapshot_of c.args.snapshot.now in
    let n = c.args.inner.now in
    let ts = c.deref.result.now in
    let stands = subst (IsStanding cat n) (sym (c.deref.ensures.value ∙ c.tuples.view_is)) c.in_ok-tuples.ensures in
    given_as cat c.args.name.now c.in_ok-copy.field-0 c.in_ok-copy-2.field-0 c.in_ok-near.near (columns_in cat n) c.in_ok-copy.ensures (c.in_ok-copy-2.ensures ∙ sym (named_columns cat n c.in-Some.heading.now c.in-Some.ensures))
    (made_given (record { closure = c.names.ensures.closure; interior = c.names.ensures.interior; each = c.wide_names.ensures.each; together = c.wide_names.ensures.together })
    cat c.formed.ensures c.args.name.now n c.requires.made c.requires.inner ts stands c.in_ok-near.near c.in_ok-near.ensures.is)
