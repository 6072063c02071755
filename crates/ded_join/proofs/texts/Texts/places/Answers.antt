use Rattle.std.proofs.Common.{◌∙◌, ◌++◌, ap, ap₂}
use Rattle.std.specs.Prelude.{filter}
use Rattle.std.proofs.lemmas.List.Filters.{dedup_is}
use Rattle.ded_complement.proofs.Cutting.{taken_all}
use Rattle.ded_complement.proofs.SameText.{in_order}
use Rattle.ded_join.specs.Texts.{places_with}
use Rattle.ded_join.proofs.OtherTexts.{is_of, places_in}
use Rattle.ded_join.proofs.texts.Texts.places.Goals as goal

pub returns : goal.returns
returns c =
    in_order (places_with c.args.text.now c.args.self.now) c.extend_from_slice.new.self.items c.sort_unstable.new.self.items c.dedup.new.self.items
    (c.in_ok-extend_from_slice.ensures.items ∙ ap₂ (λ xs ys. xs ++ ys) (c.loop-entry.invariant ∙ ap places_in (taken_all c.of_text-entry-items.result.now c.loop-entry.entry-index c.loop-entry-test.false ∙ c.of_text-entry-items.ensures ∙ ap (filter (is_of c.args.text.now)) c.deref.ensures.value)) c.deref-2.ensures.value)
    c.sort_unstable.ensures.permutation c.sort_unstable.ensures.sorted (dedup_is _ _ _ c.dedup.ensures.filtered)
