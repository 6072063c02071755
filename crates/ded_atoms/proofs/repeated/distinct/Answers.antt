use Rattle.std.proofs.Common.{subst}
use Rattle.ded_genrel.specs.Lists.{AreNormal, conjs_of}
use Rattle.ded_atoms.proofs.DistinctLists.{IsDistinctPart, distinct_part}
use Rattle.ded_atoms.proofs.repeated.distinct.Goals as goal
use Rattle.ded_atoms.proofs.repeated.distinct.Goals.{In_ok-conjs}
use Rattle.ded_atoms.proofs.repeated.distinct.Given.{Over}

part : (g : Over) (c : In_ok-conjs g) → IsDistinctPart g.T.Theory.holds g.T.Theory.mentions g.T.Theory.lines g.T.Theory.normal c.args.list (conjs_of c.in_ok-conjs.conjs.items)
part g c =
    subst (λ xs. IsDistinctPart g.T.Theory.holds g.T.Theory.mentions g.T.Theory.lines g.T.Theory.normal xs (conjs_of c.in_ok-conjs.conjs.items)) c.list.view_is
    (distinct_part g.T.Theory.holds g.T.Theory.mentions g.T.Theory.lines g.T.Theory.normal g.T.Atom.PartialEq.eq g.met.T.Atom.Eq.laws c.equal_atoms.ensures c.list.inside.conjs.items c.in_ok-conjs.conjs.items
    c.in_ok-conjs.ensures.kept c.in_ok-conjs.ensures.once)

pub invariant_of-result : goal.invariant_of-result
invariant_of-result g c = (part g c).normal_ones (subst (AreNormal g.T.Theory.normal) c.list.view_is c.list.invariant)

pub returns : goal.returns
returns g c = let p = part g c in record { holds = p.holds; once = p.once; slots = p.slots; lines = p.lines }
