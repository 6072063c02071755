use Rattle.ded_packed.proofs.Taking.{coef_short, coef_nonzero, coef_last, coef_pushed}
use Rattle.ded_packed.proofs.reader.Reader.coefs.Goals as goal

pub push-requires-clause-short : goal.push-requires-clause-short
push-requires-clause-short c =
    coef_short c.args.self.now c.args.count c.loop.counter c.loop.coefs c.loop.self c.loop-test.true c.loop.invariant c.requires.coefs c.coef-a.result c.coef-a.ensures.value

pub push-requires-clause-nonzero : goal.push-requires-clause-nonzero
push-requires-clause-nonzero c =
    coef_nonzero c.args.self.now c.args.count c.loop.counter c.loop.coefs c.loop.self c.loop-test.true c.loop.invariant c.requires.coefs c.coef-a.result c.coef-a.ensures.value

pub push-requires-clause-last : goal.push-requires-clause-last
push-requires-clause-last c =
    coef_last c.args.self.now c.args.count c.loop.counter c.loop.coefs c.loop.self c.loop-test.true c.loop.invariant c.requires.coefs c.coef-a.result c.coef-a.ensures.value

pub loop-preserved : goal.loop-preserved
loop-preserved c =
    coef_pushed c.args.self.now c.args.count c.loop.counter c.loop.coefs c.loop.self c.loop-test.true c.loop.invariant c.requires.coefs c.coef-a.result c.coef-a.ensures.value
    c.push.new.self c.coef-a.new.self c.in_ok-push.ensures.ok c.coef-a.ensures.left
