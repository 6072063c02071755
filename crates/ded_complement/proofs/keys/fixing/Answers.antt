use Rattle.std.proofs.Common.{◌∙◌, sym, ap, option_map}
use Rattle.ded_num.proofs.Tests.{all-at}
use Rattle.ded_complement.specs.Pieces.{IsAmong}
use Rattle.ded_complement.proofs.PieceLaws.{among_self}
use Rattle.ded_complement.proofs.SameText.{fixed_to}
use Rattle.ded_complement.proofs.keys.fixing.Goals as goal

pub returns-then-is_same : goal.returns-then-is_same
returns-then-is_same g c = (
  all-at (IsAmong c.args.conj.now) c.args.conj.now c.loop-atom.atom-index c.atom-item.result c.loop-atom-test.true c.atom-item.is (among_self c.args.conj.now),
  fixed_to g.T.Theory.holds g.T.Theory.fixed g.met.T.Theory.fixed_holds c.atom-item.result c.args.slot c.in-Some.other c.in-Some.text.now (sym c.fixes.ensures ∙ ap (option_map (λ f. (f.0, f.1.now))) c.in-Some.is) (sym c.is_same.ensures ∙ c.if-is_same.true),
)
