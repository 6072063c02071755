-- Tuples of order rows, as conjunctions of the theory of order rows and text atoms.
use Rattle.std.proofs.Common.{◌≡◌, true, false, Option, None, Some, MatchOption, List, [], ◌∷◌, refl, sym, ◌∙◌, true≢false}
use Rattle.std.specs.List.{AllByRecursion}
use Rattle.ded_model.specs.declared.slot.Slot.{Slot}
use Rattle.ded_model.specs.declared.tuple.BothAtom.TheVariants.{First, Second}
use Rattle.ded_model.specs.Point.{Point, IsPoint}
use Rattle.ded_model.specs.Row.{Atom, row_holds, theme_holds, tuple_mentions}
use Rattle.ded_model.specs.Cell.{conj_holds, IsReduced}
use Rattle.ded_model.specs.Lines.{IsSubset, atoms_lines}
use Rattle.ded_model.specs.Normal.{IsNormalTheme, IsNormalTuple}
use Rattle.ded_model.specs.Sublists.{IsSublist}
use Rattle.ded_model.proofs.Points.{and_left, and_right}
use Rattle.ded_model.proofs.Sublists.{sublist_refl, sublist_trans}
use Rattle.ded_theory.specs.Both.{by_kind, IsByKind}
use Rattle.ded_theory.proofs.Shared.{holds_alike}
use Rattle.ded_order.specs.OrderRows.{is_order_row, IsOrderAtom}
use Rattle.ded_atoms.specs.Kept.{IsReducedTuple, IsSiftedPart, IsReducedPart}
use Rattle.ded_atoms.specs.Orders.{are_orders, AreOrderAtoms}
use Rattle.ded_atoms.proofs.Sifted.{reduced_is}
use Rattle.ded_atoms.proofs.TupleParts.{normal_part, part_slots, part_lines}

-- the atoms of a normal tuple of order rows are in the normal form that the theory asks for
pub order_normal : (t : List Atom) → IsNormalTuple t → AreOrderAtoms t → AllByRecursion (IsByKind IsOrderAtom IsNormalTheme) t
order_normal [] n o = tt
order_normal (First r ∷ t) n o = (record { linear = record { coefs = n.0.0; row = n.0.1 }; order = and_left (is_order_row r) (are_orders t) o }, order_normal t n.2 (and_right (is_order_row r) (are_orders t) o))
order_normal (Second a ∷ t) n o = (n.0, order_normal t n.2 o)

-- ---- sifted

-- what is kept of the atoms of a normal tuple of order rows
pub orders_kept : (t kept : List Atom) → IsNormalTuple t → ((p : Point) → IsPoint p → conj_holds (by_kind row_holds theme_holds) kept p ≡ conj_holds (by_kind row_holds theme_holds) t p) → IsSublist kept t → IsReduced (by_kind row_holds theme_holds) kept
    → IsReducedPart t (Some kept)
orders_kept t kept n h s k = (
  λ p i. sym (holds_alike kept p) ∙ h p i ∙ holds_alike t p,
  s,
  normal_part kept t s n,
  λ narrow. reduced_is kept k,
  λ orders. reduced_is kept k,
)

-- what a tuple has of which some row is no order row
pub no_orders : (t : List Atom) → IsNormalTuple t → IsReducedTuple t → are_orders t ≡ false → IsReducedPart t (Some t)
no_orders t n r e = (λ p i. refl, sublist_refl _ t, n, r, λ o. absurd (true≢false (sym o ∙ e)))

-- one after another
pub sifted_then : (u t : List Atom) (r : Option (List Atom)) → IsSiftedPart u (Some t) → IsReducedPart t r → IsReducedPart u r
sifted_then u t None h k = λ p i. sym (h.0 p i) ∙ k p i
sifted_then u t (Some v) h k = (λ p i. k.0 p i ∙ h.0 p i, sublist_trans _ v t u k.1 h.1, k.2, k.3, k.4)

-- ---- what is left has no new slots and lines

pub left_slots : (u : List Atom) (r : Option (List Atom)) → IsReducedPart u r → MatchOption r (Unit {0}) (λ t. (s : Slot) → tuple_mentions t s ≡ true → tuple_mentions u s ≡ true)
left_slots u None k = tt
left_slots u (Some t) k = part_slots t u k.1

pub left_lines : (u : List Atom) (r : Option (List Atom)) → IsReducedPart u r → MatchOption r (Unit {0}) (λ t. IsSubset (atoms_lines t) (atoms_lines u))
left_lines u None k = tt
left_lines u (Some t) k = part_lines t u k.1
