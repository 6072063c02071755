use Rattle.std.proofs.Common.{◌∙◌, ◌++◌, ap, ap₂}
use Rattle.std.specs.Prelude.{map, filter}
use Rattle.std.proofs.lemmas.List.Filters.{dedup_is}
use Rattle.ded_complement.specs.Keys.{places_with}
use Rattle.ded_complement.proofs.Cutting.{taken_all}
use Rattle.ded_complement.proofs.SameText.{has_text, in_order}
use Rattle.ded_complement.proofs.keys.Keys.places.Goals as goal

pub returns : goal.returns
returns g c =
    in_order (places_with c.args.text.now c.args.self.now) c.extend_from_slice.new.self.items c.sort_unstable.new.self.items c.dedup.new.self.items
    (c.in_ok-extend_from_slice.ensures.items ∙ ap₂ (λ xs ys. xs ++ ys) (c.loop-keyed.invariant ∙ ap (map (λ e. e.place)) (taken_all c.of_text-keyed-items.result.now c.loop-keyed.keyed-index c.loop-keyed-test.false ∙ c.of_text-keyed-items.ensures ∙ ap (filter (has_text c.args.text.now)) c.deref.ensures.value)) c.deref-2.ensures.value)
    c.sort_unstable.ensures.permutation c.sort_unstable.ensures.sorted (dedup_is _ _ _ c.dedup.ensures.filtered)
