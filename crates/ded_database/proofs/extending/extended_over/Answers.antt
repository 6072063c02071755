use Rattle.std.proofs.Common.{◌≡◌, Some, Err, sym, ap, ◌∙◌, subst}
use Rattle.std.specs.Str.{bytes_eq}
use Rattle.std.specs.List.{list_any}
use Rattle.std.proofs.lemmas.Result.{err_from_is_err_and}
use Rattle.ded_model.specs.declared.memory.Refused.TheVariants.{Wide}
use Rattle.ded_model.specs.PlanForm.{plan_form}
use Rattle.ded_genrel.proofs.Items.{all_weaker}
use Rattle.ded_algebra.specs.Given.{given_catalogue}
use Rattle.ded_keep.specs.Adding.{with_alone, IsExtended}
use Rattle.ded_keep.specs.Behind.{IsPutBehind}
use Rattle.ded_query.specs.Gathering.{IsGivenOf, IsFront}
use Rattle.ded_query.specs.Over.{over_relations}
use Rattle.ded_query.proofs.GivenNames.{no_entry}
use Rattle.ded_database.specs.Changes.{before, after}
use Rattle.ded_database.specs.Held.{IsHeld}
use Rattle.ded_database.proofs.Adding.{others, tuple_over, clash_of_view, view_extended, evaluated_alone}
use Rattle.ded_database.proofs.Beside.{IsGivenBeside, given_beside, others_used, others_named, names_known, names_clash, heading_there, held_other, front_without, evaluable_alone, adds_beside, adds_additive}
use Rattle.ded_database.proofs.extending.extended_over.Goals as goal

pub give_names-requires-clause-defined : goal.give_names-requires-clause-defined
give_names-requires-clause-defined g c =
    let b = before c.args.renewal.now.change.now in
    let n = c.args.renewal.now.change.now.name.now in
    let m = c.args.renewal.now.mark.now in
    let k = c.requires.mark in
    names_known b (after c.args.renewal.now.change.now) n (others b (after c.args.renewal.now.change.now) n c.args.tuple.now c.requires.insert) m.name k.own k.columns k.formula (plan_form m.plan) k.entry k.planned
    c.deref.result.now (others_used n (plan_form m.plan) c.deref.result.now (λ o. ap (list_any (bytes_eq o)) c.deref.ensures.value ∙ c.in_ok-names.ensures o))

pub give_names-requires-clause-held : goal.give_names-requires-clause-held
give_names-requires-clause-held g c = all_weaker (IsHeld (after c.args.renewal.now.change.now)) (IsGivenOf (after c.args.renewal.now.change.now)) c.args.held.now (λ r k. k.given) c.requires.held

pub returns-in_err-give_names-clause-wide : goal.returns-in_err-give_names-clause-wide
returns-in_err-give_names-clause-wide g c = λ i.
    let p = err_from_is_err_and c.from_residual-in_err-give_names.result c.from_residual-in_err-give_names.ensures.1 in
    let is : c.in_err-give_names.field-0.0 ≡ Wide = cc (p.1, p.2, i) in
    let b = before c.args.renewal.now.change.now in
    let n = c.args.renewal.now.change.now.name.now in
    let m = c.args.renewal.now.mark.now in
    let k = c.requires.mark in
    names_clash b (after c.args.renewal.now.change.now) n (others b (after c.args.renewal.now.change.now) n c.args.tuple.now c.requires.insert) m.name k.own k.columns k.formula (plan_form m.plan) k.entry k.planned
    c.deref.result.now (others_used n (plan_form m.plan) c.deref.result.now (λ o. ap (list_any (bytes_eq o)) c.deref.ensures.value ∙ c.in_ok-names.ensures o))
    (c.in_err-give_names.ensures.wide (ap Err is))

pub unreachable-requires : goal.unreachable-requires
unreachable-requires g c =
    let b = before c.args.renewal.now.change.now in
    let n = c.args.renewal.now.change.now.name.now in
    heading_there b (after c.args.renewal.now.change.now) n (others b (after c.args.renewal.now.change.now) n c.args.tuple.now c.requires.insert) c.in_default.ensures

pub add_tuple-requires-clause-apart : goal.add_tuple-requires-clause-apart
add_tuple-requires-clause-apart g c =
    let n = c.args.renewal.now.change.now.name.now in
    let y : IsGivenBeside (after c.args.renewal.now.change.now) n (plan_form c.args.renewal.now.mark.now.plan) (over_relations (after c.args.renewal.now.change.now) (Some n) c.take.new.self) =
    given_beside (after c.args.renewal.now.change.now) n (plan_form c.args.renewal.now.mark.now.plan) c.deref.result.now c.give_names.new.held c.take.new.self c.requires.insert.formed_after
    (others_named n (plan_form c.args.renewal.now.mark.now.plan) c.deref.result.now (λ o. ap (list_any (bytes_eq o)) c.deref.ensures.value ∙ c.in_ok-names.ensures o)) c.in_ok-give_names.ensures.gathered.of c.in_ok-give_names.ensures.all c.take.ensures.left in
    no_entry n (over_relations (after c.args.renewal.now.change.now) (Some n) c.take.new.self) y.apart

pub add_tuple-requires-clause-evaluable : goal.add_tuple-requires-clause-evaluable
add_tuple-requires-clause-evaluable g c =
    let b = before c.args.renewal.now.change.now in
    let n = c.args.renewal.now.change.now.name.now in
    let m = c.args.renewal.now.mark.now in
    let k = c.requires.mark in
    let rs = over_relations (after c.args.renewal.now.change.now) (Some n) c.take.new.self in
    let y : IsGivenBeside (after c.args.renewal.now.change.now) n (plan_form m.plan) rs =
    given_beside (after c.args.renewal.now.change.now) n (plan_form m.plan) c.deref.result.now c.give_names.new.held c.take.new.self c.requires.insert.formed_after
    (others_named n (plan_form c.args.renewal.now.mark.now.plan) c.deref.result.now (λ o. ap (list_any (bytes_eq o)) c.deref.ensures.value ∙ c.in_ok-names.ensures o)) c.in_ok-give_names.ensures.gathered.of c.in_ok-give_names.ensures.all c.take.ensures.left in
    evaluable_alone b (after c.args.renewal.now.change.now) n (others b (after c.args.renewal.now.change.now) n c.args.tuple.now c.requires.insert) m.name k.own k.columns k.formula (plan_form m.plan) k.entry k.planned
    c.in-Some.heading.now c.in-Some.ensures rs y c.args.tuple.now (tuple_over b (after c.args.renewal.now.change.now) n c.args.tuple.now c.requires.insert)

pub returns-in_err-added-clause-front : goal.returns-in_err-added-clause-front
returns-in_err-added-clause-front g c =
    let n = c.args.renewal.now.change.now.name.now in
    subst (IsFront c.args.held.now) (sym c.take.ensures.left)
    (front_without n c.args.held.now c.give_names.new.held
    (held_other (before c.args.renewal.now.change.now) (after c.args.renewal.now.change.now) n (others (before c.args.renewal.now.change.now) (after c.args.renewal.now.change.now) n c.args.tuple.now c.requires.insert) c.args.held.now c.requires.held) c.give_names.ensures.front)

pub returns-in_err-added-clause-wide : goal.returns-in_err-added-clause-wide
returns-in_err-added-clause-wide g c = λ i.
    let p = err_from_is_err_and c.from_residual-in_err-added.result c.from_residual-in_err-added.ensures.1 in
    let is : c.in_err-added.field-0.0 ≡ Wide = cc (p.1, p.2, i) in
    let b = before c.args.renewal.now.change.now in
    let n = c.args.renewal.now.change.now.name.now in
    let m = c.args.renewal.now.mark.now in
    let k = c.requires.mark in
    let rs = over_relations (after c.args.renewal.now.change.now) (Some n) c.take.new.self in
    let y : IsGivenBeside (after c.args.renewal.now.change.now) n (plan_form m.plan) rs =
    given_beside (after c.args.renewal.now.change.now) n (plan_form m.plan) c.deref.result.now c.give_names.new.held c.take.new.self c.requires.insert.formed_after
    (others_named n (plan_form c.args.renewal.now.mark.now.plan) c.deref.result.now (λ o. ap (list_any (bytes_eq o)) c.deref.ensures.value ∙ c.in_ok-names.ensures o)) c.in_ok-give_names.ensures.gathered.of c.in_ok-give_names.ensures.all c.take.ensures.left in
    clash_of_view b (after c.args.renewal.now.change.now) n c.args.tuple.now c.requires.insert m.name k.own k.columns k.formula (plan_form m.plan) k.entry k.planned
    (adds_beside m n _ (c.nothing_beside.ensures b m n k) c.requires.adds) c.in-Some.heading.now c.in-Some.ensures rs y
    (c.in_err-added.ensures.wide (ap Err is))

pub returns-in_err-more-clause-front : goal.returns-in_err-more-clause-front
returns-in_err-more-clause-front g c =
    let n = c.args.renewal.now.change.now.name.now in
    subst (IsFront c.args.held.now) (sym c.take.ensures.left)
    (front_without n c.args.held.now c.give_names.new.held
    (held_other (before c.args.renewal.now.change.now) (after c.args.renewal.now.change.now) n (others (before c.args.renewal.now.change.now) (after c.args.renewal.now.change.now) n c.args.tuple.now c.requires.insert) c.args.held.now c.requires.held) c.give_names.ensures.front)

pub returns-in_err-put_behind-clause-front : goal.returns-in_err-put_behind-clause-front
returns-in_err-put_behind-clause-front g c =
    let n = c.args.renewal.now.change.now.name.now in
    subst (IsFront c.args.held.now) (sym c.take.ensures.left)
    (front_without n c.args.held.now c.give_names.new.held
    (held_other (before c.args.renewal.now.change.now) (after c.args.renewal.now.change.now) n (others (before c.args.renewal.now.change.now) (after c.args.renewal.now.change.now) n c.args.tuple.now c.requires.insert) c.args.held.now c.requires.held) c.give_names.ensures.front)

pub returns-clause-is : goal.returns-clause-is
returns-clause-is g c =
    let b = before c.args.renewal.now.change.now in
    let n = c.args.renewal.now.change.now.name.now in
    let m = c.args.renewal.now.mark.now in
    let k = c.requires.mark in
    let rs = over_relations (after c.args.renewal.now.change.now) (Some n) c.take.new.self in
    let y : IsGivenBeside (after c.args.renewal.now.change.now) n (plan_form m.plan) rs =
    given_beside (after c.args.renewal.now.change.now) n (plan_form m.plan) c.deref.result.now c.give_names.new.held c.take.new.self c.requires.insert.formed_after
    (others_named n (plan_form c.args.renewal.now.mark.now.plan) c.deref.result.now (λ o. ap (list_any (bytes_eq o)) c.deref.ensures.value ∙ c.in_ok-names.ensures o)) c.in_ok-give_names.ensures.gathered.of c.in_ok-give_names.ensures.all c.take.ensures.left in
    let all = with_alone (given_catalogue rs) n c.in-Some.heading.now c.args.tuple.now in
    let r = c.in_ok-more.ensures in
    view_extended b (after c.args.renewal.now.change.now) n c.args.tuple.now c.requires.insert m.name k.own k.columns k.formula (plan_form m.plan) k.entry k.planned
    (adds_beside m n _ (c.nothing_beside.ensures b m n k) c.requires.adds) c.in-Some.heading.now c.in-Some.ensures rs y c.formed.ensures (adds_additive m n c.requires.adds)
    c.args.list c.in_ok-more.more c.put_behind.new.list.items c.requires.list
    (evaluated_alone all (plan_form m.plan) c.in_ok-added.added c.in_ok-more.more (subst (λ ks. IsExtended all (plan_form m.plan) ks c.in_ok-added.added) c.new.ensures.items c.in_ok-added.ensures.is) r.holds r.slots r.lines)
    r.normal (subst (λ ks. IsPutBehind ks c.in_ok-more.more c.put_behind.new.list.items) c.list.view_is c.in_ok-put_behind.ensures)

pub returns-clause-front : goal.returns-clause-front
returns-clause-front g c =
    let n = c.args.renewal.now.change.now.name.now in
    subst (IsFront c.args.held.now) (sym c.take.ensures.left)
    (front_without n c.args.held.now c.give_names.new.held
    (held_other (before c.args.renewal.now.change.now) (after c.args.renewal.now.change.now) n (others (before c.args.renewal.now.change.now) (after c.args.renewal.now.change.now) n c.args.tuple.now c.requires.insert) c.args.held.now c.requires.held) c.give_names.ensures.front)

pub returns-clause-longer : goal.returns-clause-longer
returns-clause-longer g c =
    let b = subst (λ ks. IsPutBehind ks c.in_ok-more.more c.put_behind.new.list.items) c.list.view_is c.in_ok-put_behind.ensures in
    record { more = b.rest; is = b.is }
