use Rattle.std.proofs.Common.{[], ◌∷◌, ◌∙◌, ap, subst}
use Rattle.std.proofs.lemmas.Result.{IfOk-weaker}
use Rattle.ded_complement.specs.Boxed.{conjs_in}
use Rattle.ded_complement.proofs.Boxes.{conjs_in-append}
use Rattle.ded_complement.proofs.Cutting.{apart_more, more_moved, IsMoreOutside}
use Rattle.ded_complement.proofs.lessening.push_without.Goals as goal

pub returns-then-branch-clause-is : goal.returns-then-branch-clause-is
returns-then-branch-clause-is g c =
    apart_more g.T.Theory.holds g.T.Theory.mentions g.T.Theory.lines g.T.Theory.cell c.args.piece.conj.items c.args.conj.now.conj.items (conjs_in c.args.out.now.items) (conjs_in c.push.new.self.items)
    (ap conjs_in c.in_ok-push.ensures.items ∙ conjs_in-append c.args.out.now.items (c.args.piece ∷ []))
    (c.in_ok-are_apart.ensures c.if-branch.true c.args.slots.now c.requires.boxed_piece.round c.requires.boxed_conj.round)

pub returns-clause-is : goal.returns-clause-is
returns-clause-is g c =
    let h = g.T.Theory.holds in
    let m = g.T.Theory.mentions in
    let l = g.T.Theory.lines in
    let cell = g.T.Theory.cell in
    let more = subst (λ xs. IsMoreOutside h m l cell c.args.piece.conj.items xs c.new-parts.result c.push_outside.new.out) c.deref.ensures.value c.in_ok-push_outside.ensures in
    IfOk-weaker c.push_boxed.result _ _ (λ x e. more_moved h m l cell c.args.piece.conj.items c.args.conj.now.conj.items c.new-parts.result c.push_outside.new.out (conjs_in c.args.out.now.items) (conjs_in c.push_boxed.new.out.items) c.new-parts.ensures e more) c.push_boxed.ensures.same
