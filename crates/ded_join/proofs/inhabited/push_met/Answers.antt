use Rattle.std.proofs.Common.{IfSome, ◌<◌, ℕ, List, [], sym, subst, length}
use Rattle.std.specs.List.{AllByRecursion}
use Rattle.std.proofs.lemmas.Result.{IfOk-weaker}
use Rattle.ded_complement.proofs.SameText.{piece_text}
use Rattle.ded_join.specs.Picks.{picked}
use Rattle.ded_join.specs.Taken.{AreTakenAfter}
use Rattle.ded_join.specs.Texts.{AreTexts}
use Rattle.ded_join.specs.declared.near.Taken.TheVariants.{Inhabited}
use Rattle.ded_join.proofs.OtherTexts.{text_places, text_taken}
use Rattle.ded_join.proofs.inhabited.push_met.Goals as goal

pub push_near-requires-clause-places : goal.push_near-requires-clause-places
push_near-requires-clause-places g c =
    let h = g.T.Theory.holds in
    let k = c.in-Some.texts in
    let are = subst (λ o. IfSome o (λ x. AreTexts h c.args.list.now x)) c.in-Some.is c.requires.texts in
    let own = piece_text h [] k.slot c.args.conj.now c.in-Some-fixing.field-0-0.now c.in-Some-fixing.text.now c.in-Some-fixing.ensures.0 c.in-Some-fixing.ensures.1 in
    subst (AllByRecursion (λ j. j < length c.args.list.now)) (sym c.deref.ensures.value)
    (text_places h g.T.Theory.mentions g.T.Theory.lines c.args.conj.now c.args.list.now k are c.in-Some-fixing.text.now own c.in_ok-places.places.items c.in_ok-places.ensures)

pub returns-in-Some-fixing : goal.returns-in-Some-fixing
returns-in-Some-fixing g c =
    let h = g.T.Theory.holds in
    let m = g.T.Theory.mentions in
    let l = g.T.Theory.lines in
    let k = c.in-Some.texts in
    let conj = c.args.conj.now in
    let all = c.args.list.now in
    let are = subst (λ o. IfSome o (λ x. AreTexts h all x)) c.in-Some.is c.requires.texts in
    let own = piece_text h [] k.slot conj c.in-Some-fixing.field-0-0.now c.in-Some-fixing.text.now c.in-Some-fixing.ensures.0 c.in-Some-fixing.ensures.1 in
    IfOk-weaker c.push_near.result _ _ (λ _ r. text_taken h m l conj all k are c.in-Some-fixing.text.now own c.in_ok-places.places.items c.in_ok-places.ensures c.args.out.now c.push_near.new.out
    (subst (λ (js : List ℕ). AreTakenAfter Inhabited h m l (picked conj all js) c.args.out.now c.push_near.new.out) c.deref.ensures.value r)) c.push_near.ensures
