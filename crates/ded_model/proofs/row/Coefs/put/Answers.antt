use Rattle.std.proofs.Common.{◌≡◌, ◌≢◌, ◌<◌, ap, sym, ◌∙◌, subst, length, true, SFits, slice_set, of_z, to_z, lit<}
use Rattle.std.specs.Prelude.{pos, remove}
use Rattle.std.specs.Int.{w128}
use Rattle.std.proofs.lemmas.Int.{to_z-of_z}
use Rattle.std.proofs.lemmas.Bool.{not-false}
use Rattle.std.proofs.lemmas.List.{take_at}
use Rattle.std.proofs.Math.ListN.{length-set}
use Rattle.ded_model.specs.Coefs.{AreCoefs, place_of, is_taken}
use Rattle.ded_model.proofs.CoefLemmas.{set-place, remove-place, place-below, AreCoefs-with_coef}
use Rattle.ded_model.proofs.row.Coefs.put.Goals as goal

pub remove-requires : goal.remove-requires
remove-requires c =
    let at : c.find-place.result.at ≡ place_of c.args.slot c.args.self.now = c.find-place.ensures.at ∙ ap (place_of c.args.slot) c.list.ensures.value in
    let taken : is_taken c.args.slot c.args.self.now ≡ true = ap (is_taken c.args.slot) (sym c.list.ensures.value) ∙ sym c.find-place.ensures.taken ∙ not-false _ c.if-not-place.false in (
      lit< tt,
      subst (λ cs. c.find-place.result.at < length cs) (sym c.self.view_is)
          (subst (λ n. n < length c.args.self.now) (sym at) (place-below c.args.slot c.requires.rational c.args.self.now taken)),
    )

pub returns-then-a-eq0-clause-ok : goal.returns-then-a-eq0-clause-ok
returns-then-a-eq0-clause-ok c =
    let fits : SFits w128 c.args.a = c.ranges.a in
    let at : c.find-place.result.at ≡ place_of c.args.slot c.args.self.now = c.find-place.ensures.at ∙ ap (place_of c.args.slot) c.list.ensures.value in
    let taken : is_taken c.args.slot c.args.self.now ≡ true = ap (is_taken c.args.slot) (sym c.list.ensures.value) ∙ sym c.find-place.ensures.taken ∙ not-false _ c.if-not-place.false in
    let zero : c.args.a ≡ pos 0 = sym (to_z-of_z w128 c.args.a fits) ∙ ap (to_z w128) c.if-a-eq0.true in
    c.remove.ensures.items
    ∙ ap (λ cs. remove cs c.find-place.result.at) c.self.view_is
    ∙ ap (λ p. remove c.args.self.now p) at
    ∙ remove-place c.args.slot c.requires.rational c.args.a zero c.args.self.now c.list.ensures.coefs taken

pub invariant_of-self : goal.invariant_of-self
invariant_of-self c =
    subst AreCoefs (sym (returns-then-a-eq0-clause-ok c))
    (AreCoefs-with_coef c.args.slot c.requires.rational c.args.a c.requires.short c.args.self.now c.list.ensures.coefs)

pub set_entry-requires : goal.set_entry-requires
set_entry-requires c =
    let at : c.find-place.result.at ≡ place_of c.args.slot c.args.self.now = c.find-place.ensures.at ∙ ap (place_of c.args.slot) c.list.ensures.value in
    let taken : is_taken c.args.slot c.args.self.now ≡ true = ap (is_taken c.args.slot) (sym c.list.ensures.value) ∙ sym c.find-place.ensures.taken ∙ not-false _ c.if-not-place.false in
    subst (λ cs. c.find-place.result.at < length cs) (sym (c.as_mut_slice.ensures.value ∙ c.self.view_is))
    (subst (λ n. n < length c.args.self.now) (sym at) (place-below c.args.slot c.requires.rational c.args.self.now taken))

pub returns-else-a-eq0-clause-ok : goal.returns-else-a-eq0-clause-ok
returns-else-a-eq0-clause-ok c =
    let fits : SFits w128 c.args.a = c.ranges.a in
    let at : c.find-place.result.at ≡ place_of c.args.slot c.args.self.now = c.find-place.ensures.at ∙ ap (place_of c.args.slot) c.list.ensures.value in
    let taken : is_taken c.args.slot c.args.self.now ≡ true = ap (is_taken c.args.slot) (sym c.list.ensures.value) ∙ sym c.find-place.ensures.taken ∙ not-false _ c.if-not-place.false in
    let nonzero : c.args.a ≢ pos 0 = λ e. c.if-a-eq0.false (ap (of_z w128) e) in
    let set : c.set_entry.new.list ≡ slice_set c.self.inside.list.items c.find-place.result.at (c.args.slot, c.args.a) =
    c.set_entry.ensures ∙ ap (λ z. slice_set c.as_mut_slice.result.now c.find-place.result.at (c.args.slot, z)) (to_z-of_z w128 c.args.a fits)
    ∙ ap (λ cs. slice_set cs c.find-place.result.at (c.args.slot, c.args.a)) c.as_mut_slice.ensures.value in
    let long : length c.set_entry.new.list ≡ length c.self.inside.list.items = ap length set ∙ length-set c.self.inside.list.items c.find-place.result.at (c.args.slot, c.args.a) in
    take_at c.set_entry.new.list _ (length c.self.inside.list.items) long
    ∙ set
    ∙ ap (λ cs. slice_set cs c.find-place.result.at (c.args.slot, c.args.a)) c.self.view_is
    ∙ ap (λ p. slice_set c.args.self.now p (c.args.slot, c.args.a)) at
    ∙ set-place c.args.slot c.requires.rational c.args.a nonzero c.args.self.now c.list.ensures.coefs taken

pub invariant_of-self-else-a-eq0 : goal.invariant_of-self-else-a-eq0
invariant_of-self-else-a-eq0 c =
    subst AreCoefs (sym (returns-else-a-eq0-clause-ok c))
    (AreCoefs-with_coef c.args.slot c.requires.rational c.args.a c.requires.short c.args.self.now c.list.ensures.coefs)
