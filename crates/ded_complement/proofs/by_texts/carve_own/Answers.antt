use Rattle.std.proofs.Common.{◌∷◌, [], ◌∙◌, ◌++◌, ap₂, sym, subst}
use Rattle.std.proofs.lemmas.Result.{IfOk-weaker}
use Rattle.ded_complement.specs.Keys.{places_with, AreInOrder}
use Rattle.ded_complement.specs.Parts.{conjs_at, ArePlaces}
use Rattle.ded_complement.specs.Pieces.{IsAlike}
use Rattle.ded_complement.proofs.SameText.{text_places}
use Rattle.ded_complement.proofs.TextCuts.{own_part, own_carved, keyed_among, keyed_normal}
use Rattle.ded_complement.proofs.by_texts.carve_own.Goals as goal

pub shortened-requires-clause-normal_last : goal.shortened-requires-clause-normal_last
shortened-requires-clause-normal_last g c =
    let near = c.args.near.now in
    let e = c.args.keyed.now in
    subst g.T.Theory.normal (sym c.in_ok-copy.ensures) (keyed_normal g.T.Theory.holds g.T.Theory.normal near.slots.now near.taken.now e.atom.now c.requires.near.boxed (keyed_among near.taken.now e.place e.atom.now c.requires.keyed.among))

pub part_of-requires-clause-places : goal.part_of-requires-clause-places
part_of-requires-clause-places g c =
    let near = c.args.near.now in
    subst (ArePlaces near.taken.now) (sym c.deref-2.ensures.value)
    (text_places g.T.Theory.holds near.taken.now (conjs_at near.taken.now near.part.now.near.items) near.keys.now c.requires.near.keys c.args.keyed.now.text.now c.in_ok-places.places.items c.in_ok-places.ensures)

pub carve-requires-clause-part : goal.carve-requires-clause-part
carve-requires-clause-part g c =
    let near = c.args.near.now in
    let own = c.in_ok-own.own.items in
    let same = ap₂ (λ xs a. xs ++ a ∷ []) (c.in_ok-piece.ensures ∙ c.deref.ensures.value) c.in_ok-copy.ensures in
    own_part g.T.Theory.holds g.T.Theory.mentions g.T.Theory.lines g.T.Theory.cell g.T.Theory.normal near c.args.keyed.now c.requires.keyed c.requires.near c.deref-2.result.now own c.in_ok-part.part
    (subst (AreInOrder (places_with c.args.keyed.now.text.now near.keys.now)) (sym c.deref-2.ensures.value) c.in_ok-places.ensures)
    (subst (λ xs. IsAlike g.T.Theory.holds xs own) same c.in_ok-own.ensures.alike) c.in_ok-part.ensures.same c.in_ok-part.ensures.boxed c.in_ok-part.ensures.places c.in_ok-part.ensures.near

pub returns : goal.returns
returns g c =
    let near = c.args.near.now in
    let e = c.args.keyed.now in
    let own = c.in_ok-own.own.items in
    let same = ap₂ (λ xs a. xs ++ a ∷ []) (c.in_ok-piece.ensures ∙ c.deref.ensures.value) c.in_ok-copy.ensures in
    IfOk-weaker c.carve.result _ _ (λ x k. own_carved g.T.Theory.holds g.T.Theory.mentions g.T.Theory.lines g.T.Theory.cell g.T.Theory.normal near e c.requires.keyed c.args.out.now c.carve.new.out own c.in_ok-part.part.piece.conj.items
    (keyed_among near.taken.now e.place e.atom.now c.requires.keyed.among) (subst (λ xs. IsAlike g.T.Theory.holds xs own) same c.in_ok-own.ensures.alike) c.in_ok-part.ensures.same k) c.carve.ensures
