use Rattle.std.proofs.Common.{rules, ℕ, subst, ◌≡◌, ◌+◌, ◌<◌, [], ◌∷◌, ◌++◌, length, refl, sym}
use Rattle.std.proofs.lemmas.Result.{IfOk-weaker}
use Rattle.std.specs.List.Sorted.{IsPermutation}
use Rattle.std.proofs.lemmas.List.Sorted.{IsPermutation-refl, length_permutation}
use Rattle.ded_hull.specs.declared.tree.HullNode.{HullNode}
use Rattle.ded_hull.specs.Entries.{Covers}
use Rattle.ded_hull.specs.Trees.{IsOver, HullsJoined}
use Rattle.ded_hull.proofs.Halved.{promise_leaf, promise_fork}
use Rattle.ded_hull.proofs.Rooted.{halves, tree_joined}
use Rattle.ded_hull.proofs.tree.+build.Goals as goal
use Rattle.ded_hull.proofs.tree.+build.Goals.{After-joined}

pub returns-in_err-first-clause-entries : goal.returns-in_err-first-clause-entries
returns-in_err-first-clause-entries t c =
    halves c.args.entries.now c.arrange.new.entries c.split_at_mut-front.result.0.now c.split_at_mut-front.result.1.now c.build.new.entries c.split_at_mut-front.result.1.now c.arrange.ensures.entries c.split_at_mut-front.ensures.value c.build.ensures.entries (IsPermutation-refl _)

pub returns-in_err-second-clause-entries : goal.returns-in_err-second-clause-entries
returns-in_err-second-clause-entries t c =
    halves c.args.entries.now c.arrange.new.entries c.split_at_mut-front.result.0.now c.split_at_mut-front.result.1.now c.build.new.entries c.build-2.new.entries c.arrange.ensures.entries c.split_at_mut-front.ensures.value c.build.ensures.entries c.build-2.ensures.entries

covered : (t : ℕ) (c : After-joined t) → Covers c.in_ok-hull-2.hull (c.build.new.entries ++ c.build-2.new.entries)
covered t c =
    let first : c.deref.result.now ≡ c.in_ok-first.first.items = search rules in
    let second : c.deref-2.result.now ≡ c.in_ok-second.second.items = search rules in
    c.in_ok-hull-2.ensures.covers c.build.new.entries c.build-2.new.entries
    (subst (λ ns. IsOver ns c.build.new.entries) (sym first) c.in_ok-first.ensures.over)
    (subst (λ ns. IsOver ns c.build-2.new.entries) (sym second) c.in_ok-second.ensures.over)

pub returns-clause-over : goal.returns-clause-over
returns-clause-over t c =
    IfOk-weaker c.joined.result _ _ (λ ks e. subst (λ ns. IsOver ns (c.build.new.entries ++ c.build-2.new.entries)) (sym e) (covered t c)) c.joined.ensures

pub returns-in_err-hull-2-clause-entries : goal.returns-in_err-hull-2-clause-entries
returns-in_err-hull-2-clause-entries t c =
    halves c.args.entries.now c.arrange.new.entries c.split_at_mut-front.result.0.now c.split_at_mut-front.result.1.now c.build.new.entries c.build-2.new.entries c.arrange.ensures.entries c.split_at_mut-front.ensures.value c.build.ensures.entries c.build-2.ensures.entries

pub returns-clause-tree : goal.returns-clause-tree
returns-clause-tree t c =
    let xs = c.build.new.entries in
    let ys = c.build-2.new.entries in
    let ns = c.in_ok-first.first.items in
    let ms = c.in_ok-second.second.items in
    let n : HullNode = record { hull = c.in_ok-hull-2.hull; below = length ns + length ms; count = length c.args.entries.now } in
    let all : IsPermutation c.args.entries.now (xs ++ ys) = halves c.args.entries.now c.arrange.new.entries c.split_at_mut-front.result.0.now c.split_at_mut-front.result.1.now xs ys c.arrange.ensures.entries c.split_at_mut-front.ensures.value c.build.ensures.entries c.build-2.ensures.entries in
    let count : length c.args.entries.now ≡ length (xs ++ ys) = sym (length_permutation _ _ all) in
    let covers : Covers n.hull (xs ++ ys) = covered t c in
    IfOk-weaker c.joined.result (λ ks. ks.items ≡ n ∷ (ns ++ ms)) _ (λ ks e. tree_joined n ns ms ks.items xs ys (xs ++ ys) e refl refl count c.in_ok-first.ensures.tree c.in_ok-second.ensures.tree covers) c.joined.ensures

pub returns-clause-entries : goal.returns-clause-entries
returns-clause-entries t c =
    halves c.args.entries.now c.arrange.new.entries c.split_at_mut-front.result.0.now c.split_at_mut-front.result.1.now c.build.new.entries c.build-2.new.entries c.arrange.ensures.entries c.split_at_mut-front.ensures.value c.build.ensures.entries c.build-2.ensures.entries

pub returns-then-count-le-LEAF-clause-halved : goal.returns-then-count-le-LEAF-clause-halved
returns-then-count-le-LEAF-clause-halved t c =
    let es = c.args.entries.now in
    let n : HullNode = record { hull = c.in_ok-hull.hull; below = 0; count = length es } in
    IfOk-weaker c.one.result (λ ns. ns.items ≡ n ∷ []) _ (λ ns e. promise_leaf _ es n ns.items e refl c.in_ok-hull.ensures.hull) c.one.ensures

pub returns-clause-halved : goal.returns-clause-halved
returns-clause-halved t c =
    let old = c.args.entries.now in
    let front = c.split_at_mut-front.result.0.now in
    let back = c.split_at_mut-front.result.1.now in
    let xs = c.build.new.entries in
    let ys = c.build-2.new.entries in
    let ns = c.in_ok-first.first.items in
    let ms = c.in_ok-second.second.items in
    let n : HullNode = record { hull = c.in_ok-hull-2.hull; below = length ns + length ms; count = length old } in
    let many : 8 < length old = search rules in
    let first : c.deref.result.now ≡ ns = search rules in
    let second : c.deref-2.result.now ≡ ms = search rules in
    let joins : HullsJoined ns ms n.hull = subst (λ ks. HullsJoined ks ms n.hull) first (subst (λ ks. HullsJoined c.deref.result.now ks n.hull) second c.in_ok-hull-2.ensures.value) in
    IfOk-weaker c.joined.result (λ ks. ks.items ≡ n ∷ (ns ++ ms)) _
    (λ ks e. promise_fork _ _ _ old c.arrange.new.entries front back xs ys n ns ms ks.items many c.arrange.ensures.entries c.split_at_mut-front.ensures.value c.build.ensures.entries c.build-2.ensures.entries
    c.split_at_mut-front.ensures.front_len c.arrange.ensures.order e refl joins c.in_ok-first.ensures.halved c.in_ok-second.ensures.halved) c.joined.ensures
