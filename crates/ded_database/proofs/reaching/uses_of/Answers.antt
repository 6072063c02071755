use Rattle.std.proofs.Common.{arith, ◌≡◌, ◌<◌, sym, ◌∙◌, subst, true, is_some, length}
use Rattle.std.proofs.lemmas.Iterator.Adapters.{YieldsList-from_vec}
use Rattle.std.proofs.lemmas.Iterator.Consumers.{YieldsList-turn, YieldsList-end}
use Rattle.std.proofs.lemmas.List.{map-id}
use Rattle.ded_model.specs.Entries.{known}
use Rattle.ded_model.specs.Goal.{goal_form}
use Rattle.ded_model.specs.Known.{level_with}
use Rattle.ded_model.specs.Made.{base}
use Rattle.ded_catalog.specs.State.{catalogue_of}
use Rattle.ded_database.proofs.ReachedNames.{named_there}
use Rattle.ded_database.proofs.UsedNames.{AreUses, reached_alone, uses_none, uses_more, uses_all}
use Rattle.ded_database.proofs.reaching.uses_of.Goals as goal

pub loop-name-init : goal.loop-name-init
loop-name-init c = uses_none (catalogue_of c.args.catalogue.now) c.new-uses.result.items c.new-uses.ensures.items

-- the name is one of the goal
item_below : (c : goal.After-reached-1) → (is_some (known (catalogue_of c.args.catalogue.now) (base c.in-Some.name)) ≡ true) × (level_with (known (catalogue_of c.args.catalogue.now) (base c.in-Some.name)) < 17)
item_below c =
    let names = c.in_ok-name-items.name-items in
    let gives = c.into_iter-name-iterator.ensures.into_iter_gives in
    let turn = YieldsList-turn (YieldsList-from_vec names.items gives.0 (gives.1 ∙ names.ok.0)) c.loop-name.yielded c.loop-name.name-iterator c.loop-name.yielded_by c.next.result c.next.new.self c.in-Some.name c.in-Some.is c.next.ensures.steps in
    c.requires.below c.in-Some.name (c.in_ok-name-items.ensures.all c.in-Some.name ∙ named_there names.items (length c.loop-name.yielded) c.in-Some.name turn.0 turn.1)

pub add_reached-requires-clause-defined : goal.add_reached-requires-clause-defined
add_reached-requires-clause-defined c = (item_below c).0

pub add_reached-requires-clause-level : goal.add_reached-requires-clause-level
add_reached-requires-clause-level c = let below = (item_below c).1 in omega arith

pub loop-name-preserved : goal.loop-name-preserved
loop-name-preserved c =
    let cat = catalogue_of c.args.catalogue.now in
    uses_more cat c.loop-name.yielded c.loop-name.uses.items c.push.new.self.items (record { name = c.in-Some.name; reached = c.add_reached.new.reached }) c.in_ok-push.ensures.items c.loop-name.invariant
    (reached_alone cat (base c.in-Some.name) c.new-reached.result.items c.add_reached.new.reached.items c.new-reached.ensures.items c.in_ok-add_reached.ensures)

pub returns-clause-used : goal.returns-clause-used
returns-clause-used c =
    let cat = catalogue_of c.args.catalogue.now in
    let names = c.in_ok-name-items.name-items in
    let gives = c.into_iter-name-iterator.ensures.into_iter_gives in
    let all = YieldsList-end (YieldsList-from_vec names.items gives.0 (gives.1 ∙ names.ok.0)) c.loop-name.yielded c.loop-name.name-iterator c.loop-name.yielded_by c.next.result c.next.new.self c.in-None.is c.next.ensures.steps in
    uses_all cat (goal_form c.args.goal.now) names.items c.loop-name.uses.items c.in_ok-name-items.ensures.all
    (subst (λ ns. AreUses cat ns c.loop-name.uses.items) (sym (map-id c.loop-name.yielded) ∙ all.0) c.loop-name.invariant)

pub returns-clause-reached : goal.returns-clause-reached
returns-clause-reached c = c.loop-name.invariant.reached
