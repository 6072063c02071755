use Rattle.std.proofs.Common.{rules, arith, ◌≡◌, ◌++◌, ◌<◌, ◌≤◌, [], ◌∷◌, sym, ap, ◌∙◌, subst, true, is_some, bytes_eq, List, ℕ}
use Rattle.std.specs.List.{list_any}
use Rattle.std.proofs.lemmas.List.{take_all}
use Rattle.ded_model.specs.Entries.{known}
use Rattle.ded_model.specs.Goal.{goal_form}
use Rattle.ded_model.specs.Known.{level_with}
use Rattle.ded_model.specs.Made.{base}
use Rattle.ded_model.specs.Uses.{goal_uses}
use Rattle.ded_catalog.specs.State.{catalogue_of}
use Rattle.ded_views.proofs.ViewGoals.{view_goal}
use Rattle.ded_database.specs.Closed.{IsReachedAfter}
use Rattle.ded_database.proofs.Closing.{reached_view, reached_relation}
use Rattle.ded_database.proofs.ReachedNames.{AreReachedFrom, used_below, named_there, reached_all}
use Rattle.ded_database.proofs.reaching.+reached.Goals.{add_reached-in-Some+in_ok-add_used, add_reached-in_default}
use Rattle.ded_database.proofs.reaching.+reached.Goals as goal

-- ---- add_reached

pub add_reached-add_used-requires : goal.add_reached-add_used-requires
add_reached-add_used-requires t c =
    let cat = catalogue_of c.args.catalogue.now in
    let n = c.in_ok-base.base in
    let g = goal_form c.in-Some.goal.now in
    let level = subst (λ m. level_with (known cat m) ≤ c.args.level) (sym c.in_ok-base.ensures) c.requires.level in
    (search rules, (used_below cat c.formed.ensures n g c.args.level (view_goal cat n g c.in-Some.ensures) level, c.requires.closed))

pub add_reached-returns : goal.add_reached-returns
add_reached-returns t c =
    let cat = catalogue_of c.args.catalogue.now in
    let n = c.in_ok-base.base in
    let old = c.args.reached.now.items in
    subst (λ m. IsReachedAfter cat m old c.push.new.self.items) c.in_ok-base.ensures
    (elim c.match-goal.branch [
      | add_reached-in-Some+in_ok-add_used w ↦
          let g = goal_form w.in-Some.goal.now in
          let is : c.push.new.self.items ≡ w.add_used.new.reached.items ++ n ∷ [] = cc (c.in_ok-push.ensures.items, w.reached-is) in
          subst (IsReachedAfter cat n old) (sym is) (reached_view cat c.formed.ensures n g old w.add_used.new.reached.items (view_goal cat n g w.in-Some.ensures) w.in_ok-add_used.ensures)
      | add_reached-in_default w ↦
          let is : c.push.new.self.items ≡ old ++ n ∷ [] = cc (c.in_ok-push.ensures.items, w.reached-is) in
          let defined = subst (λ m. is_some (known cat m) ≡ true) (sym c.in_ok-base.ensures) c.requires.defined in
          subst (IsReachedAfter cat n old) (sym is) (reached_relation cat c.formed.ensures n old c.requires.closed defined w.in_default.ensures)
    ])

-- ---- add_used

-- the name is one of the goal
item_below : (t : ℕ) (c : goal.add_used-After-name-item t)
    → (is_some (known (catalogue_of c.args.catalogue.now) (base c.name-item.result)) ≡ true) × (level_with (known (catalogue_of c.args.catalogue.now) (base c.name-item.result)) < c.args.level)
item_below t c =
    let n = c.name-item.result in
    c.requires.below n
    (c.in_ok-names.ensures.all n
    ∙ ap (list_any (bytes_eq n)) (sym c.deref-name-items.ensures.value)
    ∙ named_there c.deref-name-items.result.now c.loop-name.name-index n c.loop-name-test.true c.name-item.is)

pub add_used-overflow_sub-level : goal.add_used-overflow_sub-level
add_used-overflow_sub-level t c = let below = (item_below t c).1 in omega arith

pub add_used-add_reached-requires : goal.add_used-add_reached-requires
add_used-add_reached-requires t c =
    let n = c.name-item.result in
    let below = c.requires.below n
    (c.in_ok-names.ensures.all n
    ∙ ap (list_any (bytes_eq n)) (sym c.deref-name-items.ensures.value)
    ∙ named_there c.deref-name-items.result.now c.loop-name.name-index n c.loop-name-test.true c.name-item.is) in
    let less = below.1 in
    (search rules, (below.0, (omega arith, c.loop-name.invariant.closed)))

pub add_used-returns : goal.add_used-returns
add_used-returns t c =
    let cat = catalogue_of c.args.catalogue.now in
    let g = goal_form c.args.goal.now in
    let names = c.deref-name-items.result.now in
    let all : (n : List ℕ) → goal_uses n g ≡ list_any (bytes_eq n) names = λ n. c.in_ok-names.ensures.all n ∙ ap (list_any (bytes_eq n)) (sym c.deref-name-items.ensures.value) in
    reached_all cat g names c.args.reached.now.items c.loop-name.reached.items all
    (subst (λ ns. AreReachedFrom cat ns c.args.reached.now.items c.loop-name.reached.items) (take_all c.loop-name.name-index names c.loop-name-test.false) c.loop-name.invariant)
