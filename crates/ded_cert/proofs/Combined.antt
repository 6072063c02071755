-- Sums of numbers that are 0 in each of some lines are so in each combination of these lines.
--
-- The line of a combination is a sum of multiples of the two lines, divided by a number that isn't 0.
use Rattle.std.proofs.Common.{◌≡◌, ◌≢◌, Bool, true, false, not, ◌&&◌, List, [], ◌∷◌, inl, inr, arith, refl, sym, ap, ap₂, ◌∙◌, subst}
use Rattle.std.specs.Prelude.{ℤ, pos, ◌+ℤ◌, ◌-ℤ◌, ◌*ℤ◌}
use lib.IntN.{neg_ℤ}
use Rattle.std.proofs.lemmas.Int.{ints}
use Rattle.ded_num.proofs.Ring.{parts, ring, ring_pos, diff_same}
use Rattle.ded_model.specs.declared.slot.Slot.{Slot}
use Rattle.ded_model.specs.declared.row.RowOp.TheVariants.{Zero}
use Rattle.ded_model.specs.Constraint.{LinearConstraint}
use Rattle.ded_model.specs.Point.{same_slot}
use Rattle.ded_model.specs.Coefs.{coef_at, mixed, nonzero, cut}
use Rattle.ded_model.specs.Normal.{divisor_of, coefs_over, normal_row, DivideWhole}
use Rattle.ded_model.specs.Lines.{Line, In, line_with, row_lines, combination, both_mention, lines_clash, elim_at}
use Rattle.ded_model.proofs.Divisors.{divisor-whole, divisor-whole_constant, divisor-nonzero_first}
use Rattle.ded_model.proofs.LineCoefs.{coef_at-mixed, coef_at-cut, coef_at-cut_here, coef_at-nonzero, nonzero-nonzero}
use Rattle.ded_model.proofs.LineLengths.{sum_is_difference, choice, over_part}
use Rattle.ded_model.proofs.Members.{elim-In}
use Rattle.ded_model.proofs.Points.{same_slot_is}
use Rattle.ded_row.proofs.MixedLines.{nonzero_begins}
use Rattle.ded_row.proofs.Scaling.{BeginsNonzero, cancel_factor}
use Rattle.ded_elimination.proofs.Bridge.{swapped}
use Rattle.ded_cert.specs.Projecting.{weigh, value_of}

-- ---- multiples and sums

-- g times x is a times y and b times z, in each number
pub record IsCombined (g : ℤ) (x : LinearConstraint) (a : ℤ) (y : LinearConstraint) (b : ℤ) (z : LinearConstraint) : Type 0 where
  pub some : g ≢ pos 0
  pub coefs : (t : Slot) → g *ℤ coef_at x.coefs t ≡ a *ℤ coef_at y.coefs t +ℤ b *ℤ coef_at z.coefs t
  pub constant : g *ℤ x.constant ≡ a *ℤ y.constant +ℤ b *ℤ z.constant

none_law : (g a b : ℤ) → g *ℤ pos 0 ≡ a *ℤ pos 0 +ℤ b *ℤ pos 0
none_law g a b = rw (parts g, parts a, parts b) (simp ring_pos (diff_same _ _ _ _ (omega arith)))

apart_law : (g w c x : ℤ) → g *ℤ (w *ℤ c +ℤ x) ≡ w *ℤ (g *ℤ c) +ℤ g *ℤ x
apart_law g w c x = rw (parts g, parts w, parts c, parts x) (simp ring (diff_same _ _ _ _ (omega arith)))

together_law : (w a c x b d y : ℤ) → w *ℤ (a *ℤ c +ℤ b *ℤ d) +ℤ (a *ℤ x +ℤ b *ℤ y) ≡ a *ℤ (w *ℤ c +ℤ x) +ℤ b *ℤ (w *ℤ d +ℤ y)
together_law w a c x b d y = rw (parts w, parts a, parts c, parts x, parts b, parts d, parts y) (simp ring (diff_same _ _ _ _ (omega arith)))

weigh-combined : (ws : List (Slot × ℤ)) (g : ℤ) (x : LinearConstraint) (a : ℤ) (y : LinearConstraint) (b : ℤ) (z : LinearConstraint) → IsCombined g x a y b z
    → g *ℤ weigh ws x.coefs ≡ a *ℤ weigh ws y.coefs +ℤ b *ℤ weigh ws z.coefs
weigh-combined [] g x a y b z i = none_law g a b
weigh-combined (w ∷ ws) g x a y b z i =
    apart_law g w.1 (coef_at x.coefs w.0) (weigh ws x.coefs)
    ∙ ap₂ (λ c s. w.1 *ℤ c +ℤ s) (i.coefs w.0) (weigh-combined ws g x a y b z i)
    ∙ together_law w.1 a (coef_at y.coefs w.0) (weigh ws y.coefs) b (coef_at z.coefs w.0) (weigh ws z.coefs)

value-combined : (ws : List (Slot × ℤ)) (k g : ℤ) (x : LinearConstraint) (a : ℤ) (y : LinearConstraint) (b : ℤ) (z : LinearConstraint) → IsCombined g x a y b z
    → g *ℤ value_of ws k x ≡ a *ℤ value_of ws k y +ℤ b *ℤ value_of ws k z
value-combined ws k g x a y b z i =
    ap (λ s. g *ℤ s) (swapped (weigh ws x.coefs) (k *ℤ x.constant))
    ∙ apart_law g k x.constant (weigh ws x.coefs)
    ∙ ap₂ (λ c s. k *ℤ c +ℤ s) i.constant (weigh-combined ws g x a y b z i)
    ∙ together_law k a y.constant (weigh ws y.coefs) b z.constant (weigh ws z.coefs)
    ∙ ap₂ (λ s t. a *ℤ s +ℤ b *ℤ t) (swapped (k *ℤ y.constant) (weigh ws y.coefs)) (swapped (k *ℤ z.constant) (weigh ws z.coefs))

nothing_law : (g a b x y : ℤ) → x ≡ pos 0 → y ≡ pos 0 → a *ℤ x +ℤ b *ℤ y ≡ g *ℤ pos 0
nothing_law g a b x y e f = rw (e, f) (sym (none_law g a b))

-- what is 0 in both is so in the sum
pub combined_vanishes : (ws : List (Slot × ℤ)) (k g : ℤ) (x : LinearConstraint) (a : ℤ) (y : LinearConstraint) (b : ℤ) (z : LinearConstraint) → IsCombined g x a y b z
    → value_of ws k y ≡ pos 0 → value_of ws k z ≡ pos 0 → value_of ws k x ≡ pos 0
combined_vanishes ws k g x a y b z i h j =
    cancel_factor g (value_of ws k x) (pos 0) i.some (value-combined ws k g x a y b z i ∙ nothing_law g a b (value_of ws k y) (value_of ws k z) h j)

-- ---- lines

-- the line of these numbers, times what they are divided by, has these numbers
pub record IsLineOf (d : ℤ) (l : Line) (cs : List (Slot × ℤ)) (c : ℤ) : Type 0 where
  pub some : d ≢ pos 0
  pub coefs : (t : Slot) → d *ℤ coef_at l.coefs t ≡ coef_at cs t
  pub constant : d *ℤ l.constant ≡ c

pub coef_over : (k : ℤ) (cs : List (Slot × ℤ)) (t : Slot) → DivideWhole k cs → k *ℤ coef_at (coefs_over k cs) t ≡ coef_at cs t
coef_over k [] t h = law k
  where
    law : (k : ℤ) → k *ℤ pos 0 ≡ pos 0
    law k = rw (parts k) (simp ring_pos (diff_same _ _ _ _ (omega arith)))
coef_over k (c ∷ cs) t h = over_part (same_slot c.0 t) k c.1 _ _ _ h.0 (coef_over k cs t h.1)

pub line_of : (cs : List (Slot × ℤ)) (c : ℤ) (l : Line) → BeginsNonzero cs → In l (line_with cs c) → IsLineOf (divisor_of Zero c cs) l cs c
unfolding normal_row
line_of [] c l h i = absurd i
line_of (x ∷ cs) c l h (inr i) = absurd i
line_of (x ∷ cs) c l h (inl e) =
    let d = divisor_of Zero c (x ∷ cs) in
    subst (λ m. IsLineOf d m (x ∷ cs) c) (sym e) (record {
      some = divisor-nonzero_first Zero c x cs h;
      coefs = λ t. coef_over d (x ∷ cs) t (divisor-whole Zero c (x ∷ cs));
      constant = divisor-whole_constant Zero c x cs;
    })

alone_law : (z : ℤ) → z ≡ pos 1 *ℤ z +ℤ pos 0 *ℤ z
alone_law z = rw (parts z) (simp ring_pos (diff_same _ _ _ _ (omega arith)))

-- so a sum of numbers is 0 in the line where it is 0 in them
pub line_vanishes : (ws : List (Slot × ℤ)) (k : ℤ) (r : LinearConstraint) (l : Line) → BeginsNonzero r.coefs → In l (row_lines r) → value_of ws k r ≡ pos 0 → value_of ws k l ≡ pos 0
line_vanishes ws k r l h i z =
    let o = line_of r.coefs r.constant l h i in
    combined_vanishes ws k (divisor_of Zero r.constant r.coefs) l (pos 1) r (pos 0) r
    (record { some = o.some; coefs = λ t. o.coefs t ∙ alone_law (coef_at r.coefs t); constant = o.constant ∙ alone_law r.constant }) z z

one_not : pos 1 ≢ pos 0
one_not e = absurd (omega (arith, ints, e))

back_law : (d x y : ℤ) → d *ℤ x ≡ y → pos 1 *ℤ y ≡ d *ℤ x +ℤ pos 0 *ℤ x
back_law d x y e = rw (sym e) (rw (parts d, parts x) (simp ring_pos (diff_same _ _ _ _ (omega arith))))

-- and back
pub row_vanishes : (ws : List (Slot × ℤ)) (k : ℤ) (r : LinearConstraint) (l : Line) → BeginsNonzero r.coefs → In l (row_lines r) → value_of ws k l ≡ pos 0 → value_of ws k r ≡ pos 0
row_vanishes ws k r l h i z =
    let d = divisor_of Zero r.constant r.coefs in
    let o = line_of r.coefs r.constant l h i in
    combined_vanishes ws k (pos 1) r d l (pos 0) l
    (record { some = one_not; coefs = λ t. back_law d (coef_at l.coefs t) (coef_at r.coefs t) (o.coefs t); constant = back_law d l.constant r.constant o.constant }) z z

-- ---- combinations

cancel_law : (a b : ℤ) → pos 0 ≡ b *ℤ a +ℤ neg_ℤ a *ℤ b
cancel_law a b = rw (parts a, parts b) (simp ring_pos (diff_same _ _ _ _ (omega arith)))

-- the coefficients of a combination, that of the slot too
mixed_at : (s : Slot) (m n : Line) (t : Slot) → coef_at (nonzero (cut s (mixed (coef_at n.coefs s) m.coefs (neg_ℤ (coef_at m.coefs s)) n.coefs))) t ≡ coef_at n.coefs s *ℤ coef_at m.coefs t +ℤ neg_ℤ (coef_at m.coefs s) *ℤ coef_at n.coefs t
mixed_at s m n t =
    let cs = mixed (coef_at n.coefs s) m.coefs (neg_ℤ (coef_at m.coefs s)) n.coefs in
    coef_at-nonzero (cut s cs) t ∙ go (same_slot s t) refl
  where
    go : (b : Bool) → same_slot s t ≡ b → coef_at (cut s (mixed (coef_at n.coefs s) m.coefs (neg_ℤ (coef_at m.coefs s)) n.coefs)) t ≡ coef_at n.coefs s *ℤ coef_at m.coefs t +ℤ neg_ℤ (coef_at m.coefs s) *ℤ coef_at n.coefs t
    go true e =
        coef_at-cut_here s (mixed (coef_at n.coefs s) m.coefs (neg_ℤ (coef_at m.coefs s)) n.coefs) t e
        ∙ cancel_law (coef_at m.coefs s) (coef_at n.coefs s)
        ∙ ap (λ u. coef_at n.coefs s *ℤ coef_at m.coefs u +ℤ neg_ℤ (coef_at m.coefs s) *ℤ coef_at n.coefs u) (same_slot_is s t e)
    go false e =
        coef_at-cut s (mixed (coef_at n.coefs s) m.coefs (neg_ℤ (coef_at m.coefs s)) n.coefs) t e
        ∙ coef_at-mixed (coef_at n.coefs s) m.coefs (neg_ℤ (coef_at m.coefs s)) n.coefs t

combination_vanishes : (ws : List (Slot × ℤ)) (k : ℤ) (s : Slot) (m n l : Line) → In l (combination s m n) → value_of ws k m ≡ pos 0 → value_of ws k n ≡ pos 0 → value_of ws k l ≡ pos 0
combination_vanishes ws k s m n l i h j =
    let a = coef_at m.coefs s in
    let b = coef_at n.coefs s in
    let cs = nonzero (cut s (mixed b m.coefs (neg_ℤ a) n.coefs)) in
    let c = b *ℤ m.constant -ℤ a *ℤ n.constant in
    let o = line_of cs c l (nonzero_begins cs (nonzero-nonzero (cut s (mixed b m.coefs (neg_ℤ a) n.coefs)))) i in
    combined_vanishes ws k (divisor_of Zero c cs) l b m (neg_ℤ a) n
    (record { some = o.some; coefs = λ t. o.coefs t ∙ mixed_at s m n t; constant = o.constant ∙ sym (sum_is_difference b m.constant a n.constant) }) h j

-- so it goes over to the lines that an elimination makes
pub elim_vanishes : (ws : List (Slot × ℤ)) (k : ℤ) (s : Slot) (ls : List Line) → ((l : Line) → In l ls → value_of ws k l ≡ pos 0) → (l : Line) → In l (elim_at s ls) → value_of ws k l ≡ pos 0
elim_vanishes ws k s ls h l i = elim (elim-In s ls l i) [
  | inl a ↦ h l a.0
  | inr p ↦ combination_vanishes ws k s p.first p.second l (choice (both_mention s p.first p.second && not (lines_clash s p.first p.second)) (combination s p.first p.second) l p.combined) (h p.first p.in_first) (h p.second p.in_second)
]
