use Rattle.std.proofs.Common.{refl, sym, subst, true≢false}
use Rattle.ded_polygon.proofs.Finding.{IsOnBoth, on_both_has, grows_by}
use Rattle.ded_polygon.proofs.vertices.add_crossing.Goals as goal

pub returns-then-has_on_both-clause-has : goal.returns-then-has_on_both-clause-has
returns-then-has_on_both-clause-has c = λ above lies. on_both_has c.args.found.now.items c.args.side c.args.other above
    (subst (λ ps. IsOnBoth ps c.args.side c.args.other) c.deref.ensures.value (c.if-has_on_both.ensures.0 refl))

pub returns-clause-grows : goal.returns-clause-grows
returns-clause-grows c =
    grows_by c.args.sides.now c.args.found.now.items c.push.new.self.items c.args.side c.args.other c.in-Some.corner c.requires.inside c.requires.other_inside c.in-Some.ensures.0 c.in-Some.ensures.1
    (c.if-not-lies_in.ensures.0 refl) (λ h. true≢false (sym (c.if-has_on_both.ensures.1 (subst (λ ps. IsOnBoth ps c.args.side c.args.other) (sym c.deref.ensures.value) h)))) c.requires.vertices c.in_ok-push.ensures.items
