-- Where what an elimination asks is so, some extension satisfies the rows.
use Rattle.std.proofs.Common.{◌≡◌, ◌≢◌, ℕ, ◌<◌, Bool, true, false, List, [], ◌∷◌, ◌++◌, length, get_or, arith, refl, sym, ap, ◌∙◌, subst, true≢false, inl, inr, map}
use Rattle.std.specs.Prelude.{ℤ, pos, ◌<ℤ◌, unsigned_abs}
use Rattle.std.specs.List.{All}
use lib.IntN.{neg_ℤ}
use Rattle.std.proofs.lemmas.Int.{ints}
use Rattle.ded_model.specs.declared.slot.Slot.{Slot}
use Rattle.ded_model.specs.declared.slot.Sort.{Sort}
use Rattle.ded_model.specs.declared.slot.Sort.TheVariants.{Rat, Text}
use Rattle.ded_model.specs.declared.row.RowOp.{RowOp}
use Rattle.ded_model.specs.declared.row.RowOp.TheVariants.{Zero, AtMost, Below}
use Rattle.ded_model.specs.Constraint.{LinearConstraint}
use Rattle.ded_model.specs.Point.{Point, slot, text, same_slot, same_sort, IsExtension, IsTextExtension}
use Rattle.ded_model.specs.Coefs.{AreCoefs, coef_at}
use Rattle.ded_model.specs.Lines.{In}
use Rattle.ded_model.proofs.Core.{Meets, join, Strictable, IsUpper, IsLower, mixed, AllMixed}
use Rattle.ded_model.proofs.Eliminating.{coef_of, rest_of, row_cut, SomeExtensionHolds, rows_exact, EqualHolds, equal_exact}
use Rattle.ded_model.proofs.Lists.{every_all, every-map}
use Rattle.ded_model.proofs.LineSlots.{has_slot}
use Rattle.ded_model.proofs.Members.{or_split}
use Rattle.ded_model.proofs.Points.{same_slot_is}
use Rattle.ded_row.proofs.Targets.{coef_at-absent}
use Rattle.ded_elimination.specs.LinearAtoms.{IsLinearAtom}
use Rattle.ded_elimination.specs.Adding.{AreLinear, HoldExtended, OfFirst}
use Rattle.ded_elimination.specs.Equalities.{equal_size_with, equal_size, NoEquality, IsEqualityAt, SettledHolds}
use Rattle.ded_elimination.specs.Pairs.{LevelHolds, PairHolds, UpperHolds}
use Rattle.ded_elimination.proofs.Bridge.{coef-is, level_meets, pair_meets, settled_meets, itself_meets}
use Rattle.ded_elimination.proofs.Conjunctions.{Rows, all-In, In-places, every-In, In-conj, conj-every}
use Rattle.ded_elimination.proofs.Remains.{unmentioned, level_alike}

-- ---- slots of texts

-- a slot of texts has no coefficient
no_text : (cs : List (Slot × ℤ)) (s : Slot) → AreCoefs cs → s.sort ≡ Text → has_slot cs s ≡ true → ⊥
no_text [] s h e m = true≢false (sym m)
no_text (c ∷ cs) s h e m = elim (or_split (same_slot c.0 s) (has_slot cs s) m) [
  | inl i ↦ true≢false (ap (same_sort Rat) (sym h.0 ∙ ap (λ (t : Slot). t.sort) (same_slot_is c.0 s i) ∙ e))
  | inr j ↦ no_text cs s h.4 e j
]

text_level : (cs : List (Slot × ℤ)) (s : Slot) → AreCoefs cs → s.sort ≡ Text → coef_at cs s ≡ pos 0
text_level cs s h e = go (has_slot cs s) refl
  where
    go : (b : Bool) → has_slot cs s ≡ b → coef_at cs s ≡ pos 0
    go true m = absurd (no_text cs s h e m)
    go false m = coef_at-absent cs s m

-- some extension by a text
by_text : (p : Point) (s : Slot) → s.sort ≡ Text → (q : Point) × IsExtension s.sort p (slot s) q
by_text p s e =
    let q : Point = record { den = p.den; coords = p.coords ++ (slot s, text []) ∷ [] } in
    let x : IsTextExtension p (slot s) q = record { value = []; bytes = tt; den = refl; coords = refl } in
    (q, subst (λ k. IsExtension k p (slot s) q) (sym e) x)

-- ---- the sort of a slot

by_sort : (A : Type 0) (s : Slot) → (s.sort ≡ Rat → A) → (s.sort ≡ Text → A) → A
by_sort A s f g = go s.sort refl
  where
    go : (k : Sort) → s.sort ≡ k → A
    go Rat e = f e
    go Text e = g e

-- an extension of a rational slot
extended_by : (s : Slot) (rows : Rows) (p : Point) → s.sort ≡ Rat → SomeExtensionHolds s p rows → HoldExtended s rows p
extended_by s rows p e w = (w.0, subst (λ k. IsExtension k p (slot s) w.0) (sym e) w.1, conj-every rows w.0 w.2)

-- ---- pairs

-- an op that is no equality
strict_by : (o : RowOp) (a : ℤ) → a ≢ pos 0 → equal_size_with o a ≡ 0 → Strictable o
strict_by Zero a n z = n (omega (arith, ints))
strict_by AtMost a n z = tt
strict_by Below a n z = tt

module _ (s : Slot) (rows : Rows) (linear : AreLinear rows) (p : Point) (h : 0 < p.den) where
  -- what is asked of each place is asked of each member
  of_each : (asked : LinearConstraint → Point → Type 0) → OfFirst asked rows (length rows) p → (r : LinearConstraint) → In r rows → asked r p
  of_each asked f = In-places (λ r. asked r p) rows f

  module _ (none : NoEquality s rows (length rows)) (levels : OfFirst (LevelHolds s) rows (length rows) p) (uppers : OfFirst (UpperHolds s rows) rows (length rows) p) where
    all_mixed : AllMixed (map (row_cut s p) rows)
    all_mixed = record {
      level = every_all (λ c. c.a ≡ pos 0 → Meets c.op c.r) (map (row_cut s p) rows)
          (every-map (row_cut s p) (λ c. c.a ≡ pos 0 → Meets c.op c.r) rows
          (every-In (λ r. coef_of s r ≡ pos 0 → Meets r.op (rest_of s p r)) rows
          (λ r i z. let e = sym (coef-is r.coefs s) ∙ z in level_meets s r p e (of_each (LevelHolds s) levels r i e))));
      strictable = every_all (λ c. ¬ (c.a ≡ pos 0) → Strictable c.op) (map (row_cut s p) rows)
          (every-map (row_cut s p) (λ c. ¬ (c.a ≡ pos 0) → Strictable c.op) rows
          (every-In (λ r. ¬ (coef_of s r ≡ pos 0) → Strictable r.op) rows
          (λ r i n. strict_by r.op (coef_at r.coefs s) (λ z. n (coef-is r.coefs s ∙ z)) (In-places (λ x. equal_size s x ≡ 0) rows none r i))));
      pairs = every_all (λ u. IsUpper u → All (λ l. IsLower l → Meets (join u.op l.op) (mixed u l)) (map (row_cut s p) rows)) (map (row_cut s p) rows)
          (every-map (row_cut s p) (λ u. IsUpper u → All (λ l. IsLower l → Meets (join u.op l.op) (mixed u l)) (map (row_cut s p) rows)) rows
          (every-In (λ u. IsUpper (row_cut s p u) → All (λ l. IsLower l → Meets (join u.op l.op) (mixed (row_cut s p u) l)) (map (row_cut s p) rows)) rows
          (λ u iu up. every_all (λ l. IsLower l → Meets (join u.op l.op) (mixed (row_cut s p u) l)) (map (row_cut s p) rows)
          (every-map (row_cut s p) (λ l. IsLower l → Meets (join u.op l.op) (mixed (row_cut s p u) l)) rows
          (every-In (λ l. IsLower (row_cut s p l) → Meets (join u.op l.op) (mixed (row_cut s p u) (row_cut s p l))) rows
          (λ l il lo.
          let above : pos 0 <ℤ coef_at u.coefs s = subst (λ z. pos 0 <ℤ z) (coef-is u.coefs s) up in
          let below : coef_at l.coefs s <ℤ pos 0 = under (coef_at l.coefs s) (subst (λ z. pos 0 <ℤ neg_ℤ z) (coef-is l.coefs s) lo) in
          pair_meets s u l p h above below (of_each (PairHolds s u) (of_each (UpperHolds s rows) uppers u iu above) l il below)))))));
    }
      where
        under : (a : ℤ) → pos 0 <ℤ neg_ℤ a → a <ℤ pos 0
        under a l = omega (arith, ints)

    -- the rows hold at an extension, since none of them mentions the slot
    at_text : s.sort ≡ Text → HoldExtended s rows p
    at_text e =
        let x = by_text p s e in (
          x.0,
          x.1,
          In-conj rows x.0 (λ r i.
              let normal = all-In IsLinearAtom rows r linear i in
              let z = text_level r.coefs s normal.coefs e in
              sym (level_alike s r p x.0 h x.1 (unmentioned r s normal.coefs z)) ∙ of_each (LevelHolds s) levels r i z),
        )

    pub pairs_exact : HoldExtended s rows p
    pairs_exact = by_sort (HoldExtended s rows p) s (λ e. extended_by s rows p e (rows_exact s p rows all_mixed)) at_text

  -- ---- equalities
  module _ (e : LinearConstraint) (ie : In e rows) (op : e.op ≡ Zero) (some : coef_at e.coefs s ≢ pos 0) where
    rational : s.sort ≡ Rat
    rational = by_sort (s.sort ≡ Rat) s (λ k. k) (λ k. absurd (some (text_level e.coefs s (all-In IsLinearAtom rows e linear ie).coefs k)))

    pub equality_exact : OfFirst (SettledHolds s e) rows (length rows) p → HoldExtended s rows p
    equality_exact asked = extended_by s rows p rational
        (equal_exact s p rows e (λ z. some (sym (coef-is e.coefs s) ∙ z))
        (every-In (EqualHolds s p e) rows (λ r i. elim (of_each (SettledHolds s e) asked r i) [
          | inl k ↦ subst (EqualHolds s p e) (sym k) (itself_meets s e p h op some)
          | inr m ↦ settled_meets s e p h op some r m
        ])))

-- a row of some size is an equality, and has a coefficient
size_equality : (o : RowOp) (a : ℤ) (n : ℕ) → n ≢ 0 → equal_size_with o a ≡ n → (o ≡ Zero) × (a ≢ pos 0)
size_equality Zero a n k e = (refl, λ z. k (sym e ∙ ap unsigned_abs z))
size_equality AtMost a n k e = absurd (k (sym e))
size_equality Below a n k e = absurd (k (sym e))

-- so the row at the place of an equality is one, and has a coefficient
pub equality_at : (s : Slot) (rows : Rows) (i : ℕ) (e : LinearConstraint) → (n : ℕ) × IsEqualityAt s rows n i → e ≡ get_or rows i e → (e.op ≡ Zero) × (coef_at e.coefs s ≢ pos 0)
equality_at s rows i e at is = size_equality e.op (coef_at e.coefs s) at.0 at.1.mentions (ap (equal_size s) is ∙ at.1.size e)
