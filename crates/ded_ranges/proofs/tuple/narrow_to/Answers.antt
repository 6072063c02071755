use Rattle.std.proofs.Common.{rules, ◌<◌, length, sym}
use Rattle.ded_model.specs.Row.{Atom, atom_holds, tuple_holds}
use Rattle.ded_ranges.proofs.Columns.{all_before}
use Rattle.ded_ranges.proofs.tuple.narrow_to.Goals as goal

pub loop-i-preserved : goal.loop-i-preserved
unfolding tuple_holds
loop-i-preserved c =
    let inside : c.loop-i.i < length c.args.atoms.now = search rules in
    λ p l h.
    let k = all_before (λ (a : Atom). atom_holds a p) c.args.atoms.now c.loop-i.i c.index-atoms-i.result inside (sym c.index-atoms-i.is) h in
    c.narrow_to_atom.ensures p (c.loop-i.invariant p l k.0) k.1
