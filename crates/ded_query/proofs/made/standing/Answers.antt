use Rattle.std.proofs.Common.{◌∙◌, None, sym, ap, subst}
use Rattle.std.specs.Option.{option_map}
use Rattle.std.proofs.lemmas.Result.{IfOk-weaker}
use Rattle.ded_algebra.specs.Evaluation.{given_tuples}
use Rattle.ded_catalog.specs.Snapshots.{snapshot_of}
use Rattle.ded_algebra.specs.Given.{given_catalogue}
use Rattle.ded_ranges.specs.Windows.{AreLent}
use Rattle.ded_packed.specs.Lent.{lent}
use Rattle.ded_query.specs.Made.{IsStanding}
use Rattle.ded_query.specs.Over.{over_relations}
use Rattle.ded_query.proofs.MadeNames.{known_plain, stands_found, never_none}
use Rattle.ded_query.proofs.Standing.{over_right}
use Rattle.ded_query.proofs.made.standing.Goals as goal

pub unreachable-requires : goal.unreachable-requires
unreachable-requires c =
    let cat = snapshot_of c.args.snapshot.now in
    let rs = over_relations cat None c.args.given.now in
    let n = c.args.name.now in
    let w = c.everything-window.result in
    never_none cat rs n w c.everything-window.ensures.limits c.everything-window.ensures.texts (known_plain cat n c.formed.ensures c.requires.known)
    (over_right cat None c.args.given.now c.formed.ensures c.requires.given) c.requires.there
    (subst (λ o. AreLent w (option_map (λ ts. lent ts.items) o) (given_tuples (given_catalogue rs) n)) c.in_default.is c.in_ok-tuples.ensures)

pub returns : goal.returns
returns c =
    let cat = snapshot_of c.args.snapshot.now in
    let rs = over_relations cat None c.args.given.now in
    let n = c.args.name.now in
    let w = c.everything-window.result in
    let stands = stands_found cat rs n w c.everything-window.ensures.limits c.everything-window.ensures.texts (known_plain cat n c.formed.ensures c.requires.known)
    (over_right cat None c.args.given.now c.formed.ensures c.requires.given) c.requires.there (lent c.in-Some.tuples.items)
    (subst (λ o. AreLent w (option_map (λ ts. lent ts.items) o) (given_tuples (given_catalogue rs) n)) c.in-Some.is c.in_ok-tuples.ensures) in
    IfOk-weaker c.copied.result _ _ (λ ts e. subst (IsStanding cat n) (sym (e ∙ ap lent c.deref.ensures.value)) stands) c.copied.ensures
