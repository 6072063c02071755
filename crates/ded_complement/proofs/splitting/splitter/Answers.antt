use Rattle.std.proofs.Common.{◌∙◌, sym, ap, subst}
use Rattle.ded_num.proofs.Tests.{all-at}
use Rattle.ded_complement.specs.declared.boxed.Boxed.{Boxed}
use Rattle.ded_complement.specs.Boxed.{conjs_in}
use Rattle.ded_complement.specs.Pieces.{all_atoms, IsAmong, AreAmong}
use Rattle.ded_complement.proofs.Halved.{among_in}
use Rattle.ded_complement.proofs.splitting.splitter.Goals as goal

pub returns-then-branch-clause-among : goal.returns-then-branch-clause-among
returns-then-branch-clause-among g c =
    let atoms = all_atoms (conjs_in c.args.taken.now) in
    let own = among_in c.args.taken.now c.in_ok-place.place c.index-taken-place.result c.in_ok-place.ensures c.index-taken-place.is in
    subst (IsAmong atoms) (sym c.in_ok-copy.ensures)
    (all-at (λ a. IsAmong atoms a) c.deref-atom-items.result.now c.loop-atom.atom-index c.atom-item.result c.loop-atom-test.true c.atom-item.is
    (subst (AreAmong atoms) (ap (λ (z : Boxed g.row.T-Atom.Denot). z.conj.items) c.index-taken-place.is ∙ sym c.deref-atom-items.ensures.value) own))
