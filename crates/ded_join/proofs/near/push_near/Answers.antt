use Rattle.std.proofs.Common.{◌∙◌, ◌++◌, ◌∷◌, [], ◌<◌, ℕ, get_or, ap, sym, subst, length}
use Rattle.std.specs.List.{AllByRecursion}
use Rattle.ded_join.proofs.Joined.{normal_of, items_at, place_at, conjs_count}
use Rattle.ded_join.proofs.Taken.{taken_at}
use Rattle.ded_join.proofs.near.push_near.Goals as goal

pub push_both-requires-clause-second : goal.push_both-requires-clause-second
push_both-requires-clause-second g c =
    let j : ℕ = get_or c.args.places.now c.loop-place.place-index 0 in
    let inside : j < length c.list-conjs.result.now = subst (λ n. j < n) (ap length (sym c.list-conjs.ensures.list) ∙ conjs_count c.list-conjs.result.now) (place_at (length c.args.list.now) c.args.places.now c.loop-place.place-index 0 c.loop-place-test.true c.requires.places) in
    subst (AllByRecursion g.T.Theory.normal) (sym c.deref.ensures.value) (normal_of g.T.Theory.normal c.list-conjs.result.now c.index-conjs-place.result c.index-conjs-place.is inside c.list-conjs.ensures.normal)

pub loop-place-preserved : goal.loop-place-preserved
loop-place-preserved g c =
    let j : ℕ = get_or c.args.places.now c.loop-place.place-index 0 in
    let inside : j < length c.list-conjs.result.now = subst (λ n. j < n) (ap length (sym c.list-conjs.ensures.list) ∙ conjs_count c.list-conjs.result.now) (place_at (length c.args.list.now) c.args.places.now c.loop-place.place-index 0 c.loop-place-test.true c.requires.places) in
    taken_at g.T.Theory.holds g.T.Theory.mentions g.T.Theory.lines c.args.taken c.args.conj.now c.args.list.now c.args.places.now c.loop-place.place-index 0 ((c.args.conj.now ++ c.deref.result.now) ∷ []) c.args.out.now c.loop-place.out c.push_both.new.out
    c.loop-place-test.true (ap (λ ys. (c.args.conj.now ++ ys) ∷ []) (c.deref.ensures.value ∙ items_at c.list-conjs.result.now j c.index-conjs-place.result c.index-conjs-place.is inside ∙ ap (λ cs. get_or cs j []) c.list-conjs.ensures.list))
    c.loop-place.invariant c.in_ok-push_both.ensures
