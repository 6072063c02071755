-- Lists of order atoms, negations of order rows, and order rows over other slots.
use Rattle.std.proofs.Common.{◌≡◌, ◌≢◌, ℕ, zero, suc, ◌+◌, ◌<◌, Bool, true, false, cond, List, [], ◌∷◌, ◌++◌, map, take, length, get_or, arith, refl, sym, ap, ◌∙◌, subst}
use Rattle.std.specs.Prelude.{ℤ, pos}
use Rattle.std.specs.List.{AllByRecursion}
use lib.IntN.{neg_ℤ}
use Rattle.ded_model.specs.declared.slot.Slot.{Slot}
use Rattle.ded_model.specs.declared.row.RowOp.{RowOp}
use Rattle.ded_model.specs.declared.row.RowOp.TheVariants.{Zero, AtMost, Below}
use Rattle.ded_model.specs.declared.tuple.Negated.{Negated}
use Rattle.ded_model.specs.Constraint.{LinearConstraint}
use Rattle.ded_model.specs.Point.{same_slot}
use Rattle.ded_model.specs.Coefs.{put, nonzero, cut, with_coef}
use Rattle.ded_model.specs.Normal.{normal_row}
use Rattle.ded_model.specs.Negation.{EachPiece}
use Rattle.ded_model.specs.Renaming.{renamed, renamed_onto}
use Rattle.ded_row.specs.Multiples.{turned}
use Rattle.ded_row.specs.Negation.{negated_by, negated_with, negated_row}
use Rattle.ded_row.specs.Renaming.{renamed_row}
use Rattle.ded_elimination.specs.LinearAtoms.{IsLinearAtom}
use Rattle.ded_order.specs.OrderRows.{is_order_row, IsOrderAtom}
use Rattle.ded_model.proofs.CoefLemmas.{not_zero}
use Rattle.ded_order.proofs.Units.{AreOpposite, swapped, turned_units}
use Rattle.ded_order.proofs.Rests.{IsOrderly, nothing, single, double, orderly_from, orderly_test, orderly_put, orderly_single, not_zero_unit, normal_order}

-- ---- lists

-- one more of the first elements
pub take_more : {A : Type 0} (xs : List A) (i : ℕ) (x : A) → i < length xs → x ≡ get_or xs i x → take i xs ++ x ∷ [] ≡ take (i + 1) xs
take_more [] i x h e = absurd (omega (arith, h))
take_more (y ∷ xs) zero x h e = ap (λ z. z ∷ []) e
take_more (y ∷ xs) (suc i) x h e =
    let f : suc (i + 1) ≡ suc i + 1 = omega arith in
    ap (λ zs. y ∷ zs) (take_more xs i x (omega (arith, h)) e) ∙ ap (λ n. take n (y ∷ xs)) f

-- from what both say of all rows
pub all_atoms : (rows : List LinearConstraint) → AllByRecursion IsLinearAtom rows → AllByRecursion (λ r. is_order_row r ≡ true) rows → AllByRecursion IsOrderAtom rows
all_atoms [] h l = tt
all_atoms (r ∷ rows) h l = (record { linear = h.0; order = l.0 }, all_atoms rows h.1 l.1)

pub all_linear : (rows : List LinearConstraint) → AllByRecursion IsOrderAtom rows → AllByRecursion IsLinearAtom rows
all_linear [] h = tt
all_linear (r ∷ rows) h = (h.0.linear, all_linear rows h.1)

pub all_order : (rows : List LinearConstraint) → AllByRecursion IsOrderAtom rows → AllByRecursion (λ r. is_order_row r ≡ true) rows
all_order [] h = tt
all_order (r ∷ rows) h = (h.0.order, all_order rows h.1)

-- ---- negations

turned_orderly : (cs : List (Slot × ℤ)) (m : ℤ) → IsOrderly cs m → IsOrderly (map (λ c. (c.0, neg_ℤ c.1)) cs) (neg_ℤ m)
turned_orderly cs m (nothing e) = nothing (ap (map (λ c. (c.0, neg_ℤ c.1))) e)
turned_orderly cs m (single c e) = single (c.0, neg_ℤ c.1) (ap (map (λ c. (c.0, neg_ℤ c.1))) e)
turned_orderly cs m (double c d e h f) = double (c.0, neg_ℤ c.1) (d.0, neg_ℤ d.1) (ap (map (λ c. (c.0, neg_ℤ c.1))) e) (turned_units c.1 d.1 h) (ap neg_ℤ f)

turned_order : (r : LinearConstraint) → is_order_row r ≡ true → is_order_row (turned r) ≡ true
turned_order r h = orderly_test _ _ (turned_orderly r.coefs r.constant (orderly_from r.coefs r.constant h))

by_order : (op : RowOp) (r : LinearConstraint) → is_order_row r ≡ true → EachPiece (λ q. is_order_row q ≡ true) (negated_by op r)
by_order Zero r h = (h, turned_order r h)
by_order AtMost r h = turned_order r h
by_order Below r h = turned_order r h

with_order : (cs : List (Slot × ℤ)) (r : LinearConstraint) → is_order_row r ≡ true → EachPiece (λ q. is_order_row q ≡ true) (negated_with cs r)
with_order [] r h = refl
with_order (c ∷ cs) r h = by_order r.op r h

-- the pieces of the negation of an order row are order rows
pub pieces_order : (r : LinearConstraint) (n : Negated LinearConstraint) → n ≡ negated_row r → is_order_row r ≡ true → EachPiece (λ q. is_order_row q ≡ true) n
pieces_order r n e h = subst (EachPiece (λ q. is_order_row q ≡ true)) (sym e) (with_order r.coefs r h)

-- ---- over other slots

-- a second coefficient put to a first one
put_second : (s t : Slot) (a b m : ℤ) → AreOpposite a b → m ≡ pos 0 → IsOrderly (nonzero (put s b (cut s ((t, a) ∷ [])))) m
put_second s t a b m h e = go (same_slot t s)
  where
    go : (x : Bool) → IsOrderly (nonzero (put s b (cond x [] ((t, a) ∷ [])))) m
    go true = orderly_single (s, b) m
    go false = orderly_put s t b a m (swapped a b h) e

first_put : (t : Slot) (a : ℤ) → a ≢ pos 0 → with_coef t a [] ≡ (t, a) ∷ []
first_put t a n = ap (λ x. cond x [] ((t, a) ∷ [])) (not_zero a n)

renamed_orderly : (map : List (Slot × Slot)) (cs : List (Slot × ℤ)) (m : ℤ) → IsOrderly cs m → IsOrderly (renamed_onto map [] cs) m
renamed_orderly map cs m (nothing e) = nothing (ap (renamed_onto map []) e)
renamed_orderly map cs m (single c e) = subst (λ xs. IsOrderly (renamed_onto map [] xs) m) (sym e) (orderly_single (renamed map c.0, c.1) m)
renamed_orderly map cs m (double c d e h f) =
    subst (λ xs. IsOrderly (renamed_onto map [] xs) m) (sym e)
    (subst (λ xs. IsOrderly (with_coef (renamed map d.0) d.1 xs) m) (sym (first_put (renamed map c.0) c.1 (not_zero_unit c.1 d.1 h)))
    (put_second (renamed map d.0) (renamed map c.0) c.1 d.1 m h f))

-- an order row over other slots is one, in normal form too
pub renamed_order : (map : List (Slot × Slot)) (r q : LinearConstraint) → q ≡ normal_row (renamed_row map r) → is_order_row r ≡ true → is_order_row q ≡ true
renamed_order map r q e h = ap is_order_row e ∙ normal_order (renamed_row map r) (renamed_orderly map r.coefs r.constant (orderly_from r.coefs r.constant h))
