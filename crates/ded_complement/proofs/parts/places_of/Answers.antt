use Rattle.std.proofs.Common.{IfSome, refl, subst}
use Rattle.std.proofs.lemmas.Result.{IfOk-weaker}
use Rattle.ded_complement.specs.Boxed.{conjs_in}
use Rattle.ded_complement.specs.Keys.{AreKeys}
use Rattle.ded_complement.specs.Pieces.{IsAmong}
use Rattle.ded_complement.proofs.SameText.{text_places, text_outside, piece_text}
use Rattle.ded_complement.proofs.parts.places_of.Goals as goal

pub returns-in-Some-fixing-clause-places : goal.returns-in-Some-fixing-clause-places
returns-in-Some-fixing-clause-places g c =
    let h = g.T.Theory.holds in
    let taken = c.args.taken.now in
    let are = subst (λ o. IfSome o (λ k. AreKeys h taken (conjs_in taken) k)) c.in-Some.is c.requires.keys in
    IfOk-weaker c.places.result _ _ (λ v k. text_places h taken (conjs_in taken) c.in-Some.keys are c.in-Some-fixing.text.now v.items k) c.places.ensures

pub returns-in-Some-fixing-clause-near : goal.returns-in-Some-fixing-clause-near
returns-in-Some-fixing-clause-near g c =
    let h = g.T.Theory.holds in
    let taken = c.args.taken.now in
    let piece = c.args.piece.now.items in
    let t = c.in-Some-fixing.text.now in
    let are = subst (λ o. IfSome o (λ k. AreKeys h taken (conjs_in taken) k)) c.in-Some.is c.requires.keys in
    IfOk-weaker c.places.result _ _ (λ v k. text_outside h taken (conjs_in taken) c.in-Some.keys are t v.items k piece (conjs_in taken) (λ p i. refl)
    (piece_text h taken c.in-Some.keys.slot piece c.in-Some-fixing.field-0-0.now t (subst (λ xs. IsAmong xs c.in-Some-fixing.field-0-0.now) c.deref.ensures.value c.in-Some-fixing.ensures.0) c.in-Some-fixing.ensures.1)) c.places.ensures
