use Rattle.std.proofs.Common.{List, Some, None, sym, ap, ◌∙◌, subst}
use Rattle.std.specs.Str.{bytes_eq}
use Rattle.std.specs.List.{list_any}
use Rattle.ded_model.specs.Lines.{Line}
use Rattle.ded_model.specs.PlanForm.{plan_form}
use Rattle.ded_genrel.proofs.Items.{all_weaker}
use Rattle.ded_relation.proofs.Results.{if_ok}
use Rattle.ded_algebra.specs.Given.{given_catalogue}
use Rattle.ded_keep.specs.Adding.{with_alone}
use Rattle.ded_keep.specs.Remaining.{IsRemaining}
use Rattle.ded_query.specs.Gathering.{IsGivenOf, IsFront}
use Rattle.ded_query.specs.Over.{over_relations}
use Rattle.ded_query.proofs.GivenNames.{no_entry}
use Rattle.ded_database.specs.Changes.{before, after}
use Rattle.ded_database.specs.Held.{IsHeld}
use Rattle.ded_database.specs.Lasting.{HasLinesBut, IsViewBut}
use Rattle.ded_database.proofs.Beside.{IsGivenBeside, given_beside, names_known, heading_there, held_other, front_without, evaluable_alone, adds_beside}
use Rattle.ded_database.proofs.Losing.{others, tuple_over, removal, evaluable_after, read_after, view_left}
use Rattle.ded_database.proofs.shortening.shortened_over.Goals as goal

pub give_names-requires-clause-defined : goal.give_names-requires-clause-defined
give_names-requires-clause-defined g c =
    let b = before c.args.renewal.now.change.now in
    let d = after c.args.renewal.now.change.now in
    let n = c.args.renewal.now.change.now.name.now in
    let m = c.args.renewal.now.mark.now in
    let k = c.requires.mark in
    let o = others b d n c.args.gone.now c.requires.delete in
    names_known b d n o m.name k.own k.columns k.formula (plan_form m.plan) k.entry k.planned c.deref.result.now (λ x i. c.in_ok-names.ensures.all x ∙ sym (ap (list_any (bytes_eq x)) c.deref.ensures.value) ∙ i)

pub give_names-requires-clause-held : goal.give_names-requires-clause-held
give_names-requires-clause-held g c = all_weaker (IsHeld (after c.args.renewal.now.change.now)) (IsGivenOf (after c.args.renewal.now.change.now)) c.args.held.now (λ r k. k.given) c.requires.held

pub unreachable-requires : goal.unreachable-requires
unreachable-requires g c =
    let b = before c.args.renewal.now.change.now in
    let d = after c.args.renewal.now.change.now in
    let n = c.args.renewal.now.change.now.name.now in
    heading_there b d n (others b d n c.args.gone.now c.requires.delete) c.in_default.ensures

pub remove_tuple-requires-clause-apart : goal.remove_tuple-requires-clause-apart
remove_tuple-requires-clause-apart g c =
    let d = after c.args.renewal.now.change.now in
    let n = c.args.renewal.now.change.now.name.now in
    let m = c.args.renewal.now.mark.now in
    let rs = over_relations d (Some n) c.take.new.self in
    let y : IsGivenBeside d n (plan_form m.plan) rs =
    given_beside d n (plan_form m.plan) c.deref.result.now c.give_names.new.held c.take.new.self c.requires.delete.formed_after
    (λ x u i. ap (list_any (bytes_eq x)) c.deref.ensures.value ∙ sym (c.in_ok-names.ensures.all x) ∙ u) c.in_ok-give_names.ensures.gathered.of c.in_ok-give_names.ensures.all c.take.ensures.left in
    no_entry n rs y.apart

pub remove_tuple-requires-clause-evaluable : goal.remove_tuple-requires-clause-evaluable
remove_tuple-requires-clause-evaluable g c =
    let b = before c.args.renewal.now.change.now in
    let d = after c.args.renewal.now.change.now in
    let n = c.args.renewal.now.change.now.name.now in
    let m = c.args.renewal.now.mark.now in
    let k = c.requires.mark in
    let o = others b d n c.args.gone.now c.requires.delete in
    let rs = over_relations d (Some n) c.take.new.self in
    let y : IsGivenBeside d n (plan_form m.plan) rs =
    given_beside d n (plan_form m.plan) c.deref.result.now c.give_names.new.held c.take.new.self c.requires.delete.formed_after
    (λ x u i. ap (list_any (bytes_eq x)) c.deref.ensures.value ∙ sym (c.in_ok-names.ensures.all x) ∙ u) c.in_ok-give_names.ensures.gathered.of c.in_ok-give_names.ensures.all c.take.ensures.left in
    evaluable_alone b d n o m.name k.own k.columns k.formula (plan_form m.plan) k.entry k.planned c.in-Some.heading.now c.in-Some.ensures rs y c.args.gone.now (tuple_over b d n c.args.gone.now c.requires.delete)

pub remove_tuple-requires-clause-after : goal.remove_tuple-requires-clause-after
remove_tuple-requires-clause-after g c =
    let b = before c.args.renewal.now.change.now in
    let d = after c.args.renewal.now.change.now in
    let n = c.args.renewal.now.change.now.name.now in
    let m = c.args.renewal.now.mark.now in
    let k = c.requires.mark in
    evaluable_after b d n c.args.gone.now c.requires.delete m.name k.own k.columns k.formula (plan_form m.plan) k.entry k.planned c.deref.result.now (λ x. ap (list_any (bytes_eq x)) c.deref.ensures.value ∙ sym (c.in_ok-names.ensures.all x))
    c.give_names.new.held c.take.new.self c.in_ok-give_names.ensures.gathered.of c.in_ok-give_names.ensures.all c.take.ensures.left

pub returns-clause-is : goal.returns-clause-is
returns-clause-is g c =
    let b = before c.args.renewal.now.change.now in
    let d = after c.args.renewal.now.change.now in
    let n = c.args.renewal.now.change.now.name.now in
    let m = c.args.renewal.now.mark.now in
    let k = c.requires.mark in
    let o = others b d n c.args.gone.now c.requires.delete in
    let rs = over_relations d (Some n) c.take.new.self in
    let y : IsGivenBeside d n (plan_form m.plan) rs =
    given_beside d n (plan_form m.plan) c.deref.result.now c.give_names.new.held c.take.new.self c.requires.delete.formed_after
    (λ x u i. ap (list_any (bytes_eq x)) c.deref.ensures.value ∙ sym (c.in_ok-names.ensures.all x) ∙ u) c.in_ok-give_names.ensures.gathered.of c.in_ok-give_names.ensures.all c.take.ensures.left in
    let alone = with_alone (given_catalogue rs) n c.in-Some.heading.now c.args.gone.now in
    let gone = removal b d n c.args.gone.now c.requires.delete m.name k.own k.columns k.formula (plan_form m.plan) k.entry k.planned (adds_beside m n _ (c.nothing_beside.ensures b m n k) c.requires.adds) c.in-Some.heading.now c.in-Some.ensures rs y in
    let read = read_after b d n c.args.gone.now c.requires.delete m.name k.own k.columns k.formula (plan_form m.plan) k.entry k.planned c.deref.result.now (λ x. ap (list_any (bytes_eq x)) c.deref.ensures.value ∙ sym (c.in_ok-names.ensures.all x))
    c.give_names.new.held c.take.new.self c.in_ok-give_names.ensures.gathered.of c.in_ok-give_names.ensures.all c.take.ensures.left in
    if_ok c.remove_tuple.result (IsRemaining alone (given_catalogue (over_relations d None c.take.new.self)) (plan_form m.plan) c.args.list) _ (λ ts. (more : List Line) → HasLinesBut b d m.name more c.args.list → IsViewBut d m.name more ts)
    (λ ts r law.
    view_left b d n c.args.gone.now c.requires.delete m.name k.own k.columns k.formula (plan_form m.plan) k.entry k.planned c.deref.result.now (λ x. ap (list_any (bytes_eq x)) c.deref.ensures.value ∙ sym (c.in_ok-names.ensures.all x))
    c.give_names.new.held c.take.new.self c.in_ok-give_names.ensures.gathered.of c.in_ok-give_names.ensures.all c.take.ensures.left alone c.args.list ts c.requires.list r
    (λ was. law b d gone read was)) c.remove_tuple.ensures.is c.remove_tuple.ensures.removes

pub returns-clause-front : goal.returns-clause-front
returns-clause-front g c =
    let b = before c.args.renewal.now.change.now in
    let d = after c.args.renewal.now.change.now in
    let n = c.args.renewal.now.change.now.name.now in
    let o = others b d n c.args.gone.now c.requires.delete in
    subst (IsFront c.args.held.now) (sym c.take.ensures.left) (front_without n c.args.held.now c.give_names.new.held (held_other b d n o c.args.held.now c.requires.held) c.give_names.ensures.front)
