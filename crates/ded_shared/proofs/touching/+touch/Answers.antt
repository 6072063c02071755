use Rattle.std.proofs.Common.{rules, arith, ◌≡◌, ◌++◌, [], ◌∷◌, sym, subst}
use Rattle.std.proofs.lemmas.List.{take_all}
use Rattle.ded_catalog.specs.State.{catalogue_of}
use Rattle.ded_shared.specs.Gathering.{Touches, TouchesAll}
use Rattle.ded_shared.proofs.ClosedNames.{view_of, mentions_below, stands_there, touches_none, touches_more, touched_view, touched_other}
use Rattle.ded_shared.proofs.touching.+touch.Goals.{touch-in-Some+in_ok-touch_all, touch-in_default}
use Rattle.ded_shared.proofs.touching.+touch.Goals as goal

-- ---- touch

pub touch-touch_all-requires : goal.touch-touch_all-requires
touch-touch_all-requires t c =
    let cat = catalogue_of c.args.catalogue.now in
    let n = c.args.name.now in
    let ms = c.in-Some.mentions.now in
    (search rules, (mentions_below cat c.formed.ensures n ms c.args.level (view_of cat n ms (sym c.in-Some.ensures.none) c.in-Some.ensures.mentions) c.requires.level, c.requires.closed))

pub touch-returns : goal.touch-returns
touch-returns t c =
    let cat = catalogue_of c.args.catalogue.now in
    let n = c.args.name.now in
    let old = c.args.names.now.items in
    elim c.match-mentions.branch [
      | touch-in-Some+in_ok-touch_all w ↦
          let ms = w.in-Some.mentions.now in
          let is : c.push.new.self.items ≡ w.touch_all.new.names.items ++ n ∷ [] = search rules in
          subst (Touches cat n old) (sym is) (touched_view cat c.formed.ensures n ms old w.touch_all.new.names.items (view_of cat n ms (sym w.in-Some.ensures.none) w.in-Some.ensures.mentions) w.in_ok-touch_all.ensures)
      | touch-in_default w ↦
          let is : c.push.new.self.items ≡ old ++ n ∷ [] = search rules in
          subst (Touches cat n old) (sym is) (touched_other cat c.formed.ensures n old (sym w.in_default.ensures.none) c.requires.closed)
    ]

-- ---- touch_all

pub touch_all-loop-name-init : goal.touch_all-loop-name-init
touch_all-loop-name-init t c = touches_none (catalogue_of c.args.catalogue.now) c.args.names.now.items c.requires.closed

pub touch_all-overflow_sub-level : goal.touch_all-overflow_sub-level
touch_all-overflow_sub-level t c =
    let n = c.name-item.result in
    let below = c.requires.below n (stands_there c.args.these.now c.loop-name.name-index n c.loop-name-test.true c.name-item.is) in
    omega arith

pub touch_all-touch-requires : goal.touch_all-touch-requires
touch_all-touch-requires t c =
    let n = c.name-item.result in
    let below = c.requires.below n (stands_there c.args.these.now c.loop-name.name-index n c.loop-name-test.true c.name-item.is) in
    (search rules, (omega arith, c.loop-name.invariant.closed))

pub touch_all-loop-name-preserved : goal.touch_all-loop-name-preserved
touch_all-loop-name-preserved t c =
    touches_more (catalogue_of c.args.catalogue.now) c.args.these.now c.loop-name.name-index c.name-item.result c.args.names.now.items c.loop-name.names.items c.touch.new.names.items
    c.loop-name-test.true c.name-item.is c.loop-name.invariant c.in_ok-touch.ensures

pub touch_all-returns : goal.touch_all-returns
touch_all-returns t c =
    let cat = catalogue_of c.args.catalogue.now in
    let ns = c.args.these.now in
    subst (λ l. TouchesAll cat l c.args.names.now.items c.loop-name.names.items) (take_all c.loop-name.name-index ns c.loop-name-test.false) c.loop-name.invariant
