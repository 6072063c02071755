-- The row of an argument as it is made: signs turned, and the slot behind those of the sum.
use Rattle.std.proofs.Common.{◌≡◌, ℕ, ◌≤◌, ◌<◌, Bool, true, false, cond, List, [], ◌∷◌, ◌++◌, arith, refl, sym, ap, ap₂, subst, ◌∙◌, map}
use Rattle.std.specs.Prelude.{ℤ, pos, negsuc, ◌+ℤ◌, ◌*ℤ◌, ◌<ℤ◌, nat_lt}
use lib.IntN.{neg_ℤ}
use Rattle.ded_model.specs.declared.slot.Slot.{Slot}
use Rattle.ded_model.specs.declared.row.RowOp.{RowOp}
use Rattle.ded_model.specs.declared.row.RowOp.TheVariants.{Zero}
use Rattle.ded_model.specs.Constraint.{LinearConstraint}
use Rattle.ded_model.specs.Sum.{denominator}
use Rattle.ded_model.specs.Coefs.{AllAbove, AllBelow, AreCoefs, put, put_all}
use Rattle.ded_model.specs.Point.{same_slot}
use Rattle.ded_model.specs.Normal.{coefs_over, normal_with, normal_row, is_true_with, is_true_row}
use Rattle.ded_model.specs.Scanned.{above_coefs}
use Rattle.ded_model.proofs.CoefLemmas.{put-above, lesser_slot}
use Rattle.ded_model.proofs.Given.{denominator_is}
use Rattle.ded_row.proofs.Pieces.{neg_is, coefs_over_minus}
use Rattle.ded_row.proofs.Walks.{not_less}

-- ---- signs

abbrev pub turned : List (Slot × ℤ) → List (Slot × ℤ)
turned cs = map (λ c. (c.0, neg_ℤ c.1)) cs

turned_above : (n : ℕ) (cs : List (Slot × ℤ)) → AllAbove n cs → AllAbove n (turned cs)
turned_above n [] h = tt
turned_above n (c ∷ cs) h = (h.0, turned_above n cs h.1)

turned_put : (cs : List (Slot × ℤ)) → AreCoefs cs → put_all (negsuc 0) cs [] ≡ turned cs
turned_put [] h = refl
turned_put (c ∷ cs) h =
    ap (λ ds. put c.0 (negsuc 0 *ℤ c.1) ds) (turned_put cs h.4) ∙ put-above c.0 (negsuc 0 *ℤ c.1) (turned cs) (turned_above c.0.number cs h.3)
    ∙ ap (λ z. (c.0, z) ∷ turned cs) (sym (neg_is c.1))

-- ---- the slot behind the others

put_last_step : (u : Slot) (a : ℤ) (c : Slot × ℤ) (cs ds : List (Slot × ℤ)) (b b' : Bool) → b ≡ false → b' ≡ false → put u a cs ≡ ds → cond b ((c.0, a +ℤ c.1) ∷ cs) (cond b' ((u, a) ∷ c ∷ cs) (c ∷ put u a cs)) ≡ c ∷ ds
put_last_step u a c cs ds b b' e f h = rw (e, f) (ap (λ xs. c ∷ xs) h)

put_last : (u : Slot) (a : ℤ) (cs : List (Slot × ℤ)) → AllBelow u.number cs → put u a cs ≡ cs ++ (u, a) ∷ []
put_last u a [] h = refl
put_last u a (c ∷ cs) h =
    put_last_step u a c cs (cs ++ (u, a) ∷ []) (same_slot c.0 u) (nat_lt u.number c.0.number) (lesser_slot c.0 u h.0) (not_less u.number c.0.number h.0) (put_last u a cs h.1)

below_turned : (n : ℕ) (cs : List (Slot × ℤ)) → above_coefs cs ≤ n → AllBelow n (turned cs)
below_turned n [] h = tt
below_turned n (c ∷ cs) h = (omega (arith, h), below_turned n cs (omega (arith, h)))

below_made : (n : ℕ) (cs : List (Slot × ℤ)) → above_coefs cs ≤ n → AllBelow n (coefs_over (negsuc 0) cs)
below_made n cs h = subst (AllBelow n) (sym (coefs_over_minus cs)) (below_turned n cs h)

-- a list that was copied and divided by -1
pub made_below : (n : ℕ) (cs ds es : List (Slot × ℤ)) → above_coefs cs ≤ n → ds ≡ cs → es ≡ coefs_over (negsuc 0) ds → AllBelow n es
made_below n cs ds es h e f = subst (AllBelow n) (sym (f ∙ ap (coefs_over (negsuc 0)) e)) (below_made n cs h)

-- and then the slot
pub made_is : (u : Slot) (m over : ℤ) (cs ds es fs : List (Slot × ℤ)) → AreCoefs cs → above_coefs cs ≤ u.number → pos 0 <ℤ over → m ≡ over → ds ≡ cs → es ≡ coefs_over (negsuc 0) ds
    → fs ≡ es ++ (u, m) ∷ [] → fs ≡ put u (pos (denominator over)) (put_all (negsuc 0) cs [])
made_is u m over cs ds es fs k h i n e f g =
    g ∙ ap₂ (λ xs z. xs ++ (u, z) ∷ []) (f ∙ ap (coefs_over (negsuc 0)) e ∙ coefs_over_minus cs) (n ∙ sym (denominator_is over i))
    ∙ sym (put_last u (pos (denominator over)) (turned cs) (below_turned u.number cs h)) ∙ ap (put u (pos (denominator over))) (sym (turned_put cs k))

-- ---- the row is no true one

put_some : (u : Slot) (a : ℤ) (cs : List (Slot × ℤ)) → (c : Slot × ℤ) × (ds : List (Slot × ℤ)) × (put u a cs ≡ c ∷ ds)
put_some u a [] = ((u, a), [], refl)
put_some u a (c ∷ cs) = some (same_slot c.0 u) (nat_lt u.number c.0.number)
  where
    some : (b b' : Bool) → (d : Slot × ℤ) × (ds : List (Slot × ℤ)) × (cond b ((c.0, a +ℤ c.1) ∷ cs) (cond b' ((u, a) ∷ c ∷ cs) (c ∷ put u a cs)) ≡ d ∷ ds)
    some true b' = ((c.0, a +ℤ c.1), cs, refl)
    some false true = ((u, a), c ∷ cs, refl)
    some false false = (c, put u a cs, refl)

not_true : (r : LinearConstraint) (c : Slot × ℤ) (ds : List (Slot × ℤ)) → r.coefs ≡ c ∷ ds → is_true_row (normal_row r) ≡ false
unfolding normal_row
not_true r c ds e = ap (λ cs. is_true_row (normal_with r cs)) e ∙ over r.op _ e
  where
    over : (op : RowOp) (k : ℤ) → r.coefs ≡ c ∷ ds → is_true_with op (coefs_over k r.coefs) ≡ false
    over op k e = ap (λ cs. is_true_with op (coefs_over k cs)) e

pub argument_not_true : (u : Slot) (a constant : ℤ) (cs ds : List (Slot × ℤ)) (r : LinearConstraint) → ds ≡ put u a cs → r ≡ normal_row (record { coefs = ds; constant = constant; op = Zero })
    → is_true_row r ≡ false
argument_not_true u a constant cs ds r e f =
    let p = put_some u a cs in
    ap (λ (q : LinearConstraint). is_true_row q) f ∙ not_true (record { coefs = ds; constant = constant; op = Zero }) p.0 p.1 (e ∙ p.2)
