use Rattle.std.proofs.Common.{rules, ◌≡◌, ◌∙◌, ◌/◌, ◌+◌, ◌-◌, ◌<◌, ◌++◌, List, ℕ, arith, refl, ap, sym, subst, length, length-append, drop}
use Rattle.std.proofs.lemmas.List.{length-take, length-drop}
use Rattle.std.specs.Option.{MatchOption}
use Rattle.std.specs.Prelude.{slice_set}
use borrow.Rule.Slice.PartMut.{put_mid}
use Rattle.ded_index.specs.declared.tree.BoxNode.{BoxNode}
use Rattle.ded_model.specs.Bound.{upper}
use Rattle.ded_box.specs.Intervals.{wider}
use Rattle.ded_index.specs.declared.entry.BoxEntry.{BoxEntry}
use Rattle.ded_index.specs.Entries.{high}
use Rattle.ded_index.specs.Trees.{entries_of, IsGreatest}
use Rattle.ded_index.proofs.Filled.{IsFilled, filled, filled_entries, filled_greatest, filled_ends, no_ends, sound_take, sound_right_any, right_part, place_of, half_below}
use Rattle.ded_index.proofs.tree.+fill.Goals as goal
use Rattle.ded_index.proofs.tree.+fill.Goals.{After-close}

pub returns-then-is_empty-clause-ends : goal.returns-then-is_empty-clause-ends
returns-then-is_empty-clause-ends t c = no_ends c.args.nodes.now (search rules)

pub fill-left-requires : goal.fill-left-requires
fill-left-requires t c = let p : 0 < length c.args.nodes.now = search rules in (omega (arith, length-take (length c.args.nodes.now / 2) c.args.nodes.now), sound_take c.args.nodes.now (length c.args.nodes.now / 2) c.requires.sound)

pub fill-right-requires : goal.fill-right-requires
fill-right-requires t c =
    let ns = c.args.nodes.now in
    let m : ℕ = length ns / 2 in
    let p : 0 < length ns = search rules in
    let inside = half_below (length ns) p in
    let nodes = c.fill-left.new.nodes ++ drop m ns in (
      omega (arith, length-take (length nodes - (m + 1)) (drop (m + 1) nodes), length-drop m ns, length-append c.fill-left.new.nodes (drop m ns), place_of ns c.fill-left.new.nodes m inside c.fill-left.ensures.entries),
      sound_right_any ns c.fill-left.new.nodes m inside c.fill-left.ensures.entries c.requires.sound,
    )

-- the list with both halves put back and the node closed
abbrev out : (t : ℕ) → After-close t → List BoxNode
out t c =
    let ns = c.args.nodes.now in
    let m : ℕ = length ns / 2 in
    let nodes = c.fill-left.new.nodes ++ drop m ns in
    slice_set (put_mid (m + 1) (length nodes - (m + 1)) nodes c.fill-right.new.nodes) m c.close.new.node

done : (t : ℕ) (c : After-close t) → IsFilled c.args.nodes.now (out t c) (length c.args.nodes.now / 2) c.fill-left.new.nodes c.close.new.node c.fill-right.new.nodes
done t c = filled c.args.nodes.now c.fill-left.new.nodes c.fill-right.new.nodes (length c.args.nodes.now / 2) c.index-nodes-middle.result c.close.new.node (half_below (length c.args.nodes.now) (search rules)) c.fill-left.ensures.entries c.fill-right.ensures.entries c.index-nodes-middle.is (c.close.ensures.entry ∙ ap (λ (n : BoxNode). n.entry) (sym c.index-nodes-middle.is))

greatest : (t : ℕ) (c : After-close t) → IsGreatest (entries_of c.args.nodes.now) c.close.result
greatest t c =
    let ns = c.args.nodes.now in
    let m : ℕ = length ns / 2 in
    let inside : m < length ns = half_below (length ns) (search rules) in
    let place = place_of ns c.fill-left.new.nodes m inside c.fill-left.ensures.entries in
    let l = c.close.ensures.latest in
    filled_greatest ns (out t c) m c.fill-left.new.nodes c.close.new.node c.fill-right.new.nodes (done t c) l.0 c.close.result c.fill-left.result c.fill-right.result c.requires.sound
    c.fill-left.ensures.greatest
    (subst (λ xs. MatchOption c.fill-right.result (length (entries_of xs) ≡ 0) (λ b. IsGreatest (entries_of xs) b)) (right_part ns c.fill-left.new.nodes m c.index-nodes-middle.result inside place) c.fill-right.ensures.greatest)
    (subst (λ (e : BoxEntry). MatchOption c.fill-left.result (l.0 ≡ high e) (λ b. l.0 ≡ wider upper (high e) b)) (sym c.close.ensures.entry) l.1) l.2

pub returns-clause-entries : goal.returns-clause-entries
returns-clause-entries t c = filled_entries c.args.nodes.now (out t c) (length c.args.nodes.now / 2) c.fill-left.new.nodes c.close.new.node c.fill-right.new.nodes (done t c)

pub returns-clause-ends : goal.returns-clause-ends
returns-clause-ends t c =
    filled_ends c.args.nodes.now (out t c) (length c.args.nodes.now / 2) c.fill-left.new.nodes c.close.new.node c.fill-right.new.nodes (done t c) refl
    (subst (IsGreatest (entries_of c.args.nodes.now)) (sym c.close.ensures.end) (greatest t c)) c.fill-left.ensures.ends c.fill-right.ensures.ends

pub returns-clause-greatest : goal.returns-clause-greatest
returns-clause-greatest t c = greatest t c
