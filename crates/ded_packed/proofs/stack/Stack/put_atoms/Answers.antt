use Rattle.std.proofs.Common.{◌≡◌, ◌<◌, ◌+◌, ◌-◌, length, arith, subst}
use Rattle.ded_packed.specs.Putting.{AtomsPut, IsPut}
use Rattle.ded_packed.proofs.Putting.{atom_at_place, one_more_atom}
use Rattle.ded_packed.proofs.stack.Stack.put_atoms.Goals as goal

pub put_atom-requires : goal.put_atom-requires
put_atom-requires c =
    let inside : c.loop-at.at - 1 < length c.args.atoms.now = omega (arith, c.loop-at.invariant.bound, c.loop-at-test.true) in
    atom_at_place c.args.atoms.now (c.loop-at.at - 1) c.index-atoms-at.result inside c.index-atoms-at.is c.requires

pub loop-at-preserved : goal.loop-at-preserved
loop-at-preserved c =
    let atoms = c.args.atoms.now in
    let inside : c.loop-at.at - 1 < length atoms = omega (arith, c.loop-at.invariant.bound, c.loop-at-test.true) in
    let next : c.loop-at.at ≡ c.loop-at.at - 1 + 1 = omega (arith, c.loop-at-test.true) in
    record {
      bound = omega (arith, c.loop-at.invariant.bound);
      put = one_more_atom atoms (c.loop-at.at - 1) c.index-atoms-at.result c.loop-at.self c.put_atom.new.self inside
          (subst (λ k. AtomsPut atoms k c.loop-at.self) next c.loop-at.invariant.put)
          (subst (λ a. IsPut a c.loop-at.self c.put_atom.new.self) c.index-atoms-at.is c.in_ok-put_atom.ensures);
    }
