use Rattle.std.proofs.Common.{rules, refl, ◌≡◌, Some, None}
use Rattle.ded_relation.specs.Texts.{atom_text}
use Rattle.ded_relation.proofs.Coded.{text_more, text_found, text_none}
use Rattle.ded_relation.proofs.fixed.text_in.Goals as goal

pub loop-i-init : goal.loop-i-init
loop-i-init c = refl

pub returns-in-Some : goal.returns-in-Some
returns-in-Some c =
    let found : Some c.in-Some.text.now ≡ atom_text c.args.place c.index-atoms-i.result = search rules in
    text_found c.args.place c.args.atoms.now c.loop-i.i c.index-atoms-i.result c.loop-i-test.true c.index-atoms-i.is c.loop-i.invariant c.in-Some.text.now found

pub loop-i-preserved : goal.loop-i-preserved
loop-i-preserved c =
    let none : None ≡ atom_text c.args.place c.index-atoms-i.result = search rules in
    text_more c.args.place c.args.atoms.now c.loop-i.i c.index-atoms-i.result c.loop-i-test.true c.index-atoms-i.is c.loop-i.invariant none

pub returns : goal.returns
returns c = text_none c.args.place c.args.atoms.now c.loop-i.i c.loop-i-test.false c.loop-i.invariant
