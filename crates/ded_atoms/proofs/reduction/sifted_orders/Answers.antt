use Rattle.std.proofs.Common.{◌≡◌, Some, refl, sym, subst}
use Rattle.ded_model.specs.Point.{Point, IsPoint}
use Rattle.ded_model.specs.Row.{row_holds, theme_holds}
use Rattle.ded_model.specs.Cell.{conj_holds, IsReduced, HoldsNowhere}
use Rattle.ded_model.specs.Normal.{IsNormalTuple}
use Rattle.ded_model.specs.Sublists.{IsSublist}
use Rattle.ded_theory.specs.Both.{by_kind}
use Rattle.ded_reduce.specs.Reductions.{IfGone, IfKept}
use Rattle.ded_atoms.specs.Kept.{IsReducedPart}
use Rattle.ded_atoms.proofs.OrderTuples.{order_normal, orders_kept}
use Rattle.ded_atoms.proofs.Sifted.{sifted_gone}
use Rattle.ded_atoms.proofs.TupleParts.{normal_part}
use Rattle.ded_atoms.proofs.reduction.sifted_orders.Goals as goal

pub reduce-requires : goal.reduce-requires
reduce-requires c = record { normal = order_normal c.args.atoms.now c.requires.normal c.requires.orders }

pub invariant_of-result : goal.invariant_of-result
invariant_of-result c =
    subst IsNormalTuple (sym c.in_ok-tuple_atoms-in-Kept.ensures)
    (normal_part c.in-Kept.atoms.items c.args.atoms.now (subst (λ r. IfKept (λ atoms. IsSublist atoms c.args.atoms.now) r) c.in-Kept.is c.in_ok-reduce.ensures.kept) c.requires.normal)

pub returns-in-Gone : goal.returns-in-Gone
returns-in-Gone c =
    sifted_gone c.args.atoms.now c.args.atoms.now refl (subst (λ r. IfGone (HoldsNowhere (conj_holds (by_kind row_holds theme_holds) c.args.atoms.now)) r) c.in-Gone.is c.in_ok-reduce.ensures.gone)

pub returns-in_ok-tuple_atoms-in-Kept : goal.returns-in_ok-tuple_atoms-in-Kept
returns-in_ok-tuple_atoms-in-Kept c =
    subst (λ xs. IsReducedPart c.args.atoms.now (Some xs)) (sym c.in_ok-tuple_atoms-in-Kept.ensures)
    (orders_kept c.args.atoms.now c.in-Kept.atoms.items c.requires.normal
    (subst (λ r. IfKept (λ atoms. (p : Point) → IsPoint p → conj_holds (by_kind row_holds theme_holds) atoms p ≡ conj_holds (by_kind row_holds theme_holds) c.args.atoms.now p) r) c.in-Kept.is c.in_ok-reduce.ensures.holds)
    (subst (λ r. IfKept (λ atoms. IsSublist atoms c.args.atoms.now) r) c.in-Kept.is c.in_ok-reduce.ensures.kept)
    (subst (λ r. IfKept (λ atoms. IsReduced (by_kind row_holds theme_holds) atoms) r) c.in-Kept.is (c.in_ok-reduce.ensures.decided (tt, tt))))
