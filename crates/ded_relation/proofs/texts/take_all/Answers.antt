use Rattle.std.proofs.Common.{rules, ◌<◌, length, ap, ◌∙◌}
use Rattle.ded_model.specs.declared.name.Column.{Column}
use Rattle.ded_relation.specs.Texts.{is_text}
use Rattle.ded_relation.proofs.Coded.{take_none, take_more, take_all}
use Rattle.ded_relation.proofs.texts.take_all.Goals as goal

pub loop-i-init : goal.loop-i-init
loop-i-init c = take_none c.args.hashing c.args.columns.now (c.args.number, c.args.atoms.now) c.args.set.now

pub loop-i-preserved : goal.loop-i-preserved
loop-i-preserved c =
    let inside : c.loop-i.i < length c.args.columns.now = search rules in
    take_more c.args.hashing c.args.columns.now (c.args.number, c.args.atoms.now) c.args.set.now c.loop-i.set c.take_at.new.set c.loop-i.i c.index-columns-i.result inside c.loop-i.invariant c.take_at.ensures.fewer c.take_at.ensures.keeps
    (λ is. c.take_at.ensures.gone (ap (λ (x : Column). is_text x.sort) c.index-columns-i.is ∙ is))

pub returns-clause-keeps : goal.returns-clause-keeps
returns-clause-keeps c = c.loop-i.invariant.keeps

pub returns-clause-gone : goal.returns-clause-gone
returns-clause-gone c = take_all c.args.hashing c.args.columns.now (c.args.number, c.args.atoms.now) c.args.set.now c.loop-i.set c.loop-i.i c.loop-i-test.false c.loop-i.invariant
