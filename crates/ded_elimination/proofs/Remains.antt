-- The rows that an elimination may leave: rows without the slot, and combinations of two rows, which don't clash where a slot is
-- left.
use Rattle.std.proofs.Common.{◌≡◌, ◌≢◌, ◌<◌, Bool, true, false, not, ◌&&◌, cond, List, [], ◌∷◌, arith, refl, sym, ap, ◌∙◌, subst, true≢false, inl, inr}
use Rattle.std.specs.Prelude.{ℤ, pos, ◌<ℤ◌, int_lt}
use Rattle.std.specs.Ordering.{int_eq}
use Rattle.std.proofs.lemmas.Int.{ints, by_lt_z}
use Rattle.std.proofs.lemmas.Bool.Decides.{Decides-int_eq}
use Rattle.ded_model.specs.declared.slot.Slot.{Slot}
use Rattle.ded_model.specs.declared.row.RowOp.{RowOp}
use Rattle.ded_model.specs.declared.row.RowOp.TheVariants.{Zero, AtMost, Below}
use Rattle.ded_model.specs.Constraint.{LinearConstraint}
use Rattle.ded_model.specs.Point.{slot, same_slot, Point, IsExtension}
use Rattle.ded_model.specs.Coefs.{AreCoefs, coef_at}
use Rattle.ded_model.specs.Row.{row_holds, row_mentions}
use Rattle.ded_model.specs.Normal.{normal_row}
use Rattle.ded_model.specs.Lines.{Line, In, line_with, row_lines, combination, both_mention, lines_clash, elim_at, clash_at}
use Rattle.ded_model.proofs.LineSlots.{has_slot}
use Rattle.ded_model.proofs.Members.{In-elim-kept, In-elim-pair, In-clash_of, Clash}
use Rattle.ded_model.proofs.Points.{same_slot_is, positive-extension}
use Rattle.ded_model.proofs.Rows.{row_holds-same}
use Rattle.ded_model.proofs.Unused.{extension_same}
use Rattle.ded_row.specs.Mixing.{BoundsAbove, BoundsBelow, mix_of}
use Rattle.ded_row.proofs.Forms.{begins, row_mentions-normal}
use Rattle.ded_row.proofs.MixedLines.{mix-line, lines_combination, lines_clash_alike}
use Rattle.ded_row.proofs.Mixes.{bound_nonzero, below_nonzero, mix-holds, mix_without, mix_over}
use Rattle.ded_row.proofs.Targets.{coef_at-mentioned, coef_at-absent}
use Rattle.ded_theory.specs.Conjunctions.{conj_lines}
use Rattle.ded_elimination.specs.LinearAtoms.{IsLinearAtom}
use Rattle.ded_elimination.specs.Adding.{AreLinear, IsRemaining}
use Rattle.ded_elimination.specs.Equalities.{settled_row, settled_clash}
use Rattle.ded_elimination.proofs.Conjunctions.{Rows, all-In, conj-In, In-mentions, In-lines}
use Rattle.std.proofs.lemmas.Bool.{and_from}
use Rattle.ded_num.proofs.Signs.{above_test, is_positive}

-- ---- mentioned slots

-- a slot with a coefficient is mentioned
pub mentioned : (r : LinearConstraint) (s : Slot) → coef_at r.coefs s ≢ pos 0 → row_mentions r s ≡ true
unfolding row_mentions
mentioned r s n = go (has_slot r.coefs s) refl
  where
    go : (b : Bool) → has_slot r.coefs s ≡ b → b ≡ true
    go true e = refl
    go false e = absurd (n (coef_at-absent r.coefs s e))

-- and one without isn't
pub unmentioned : (r : LinearConstraint) (s : Slot) → AreCoefs r.coefs → coef_at r.coefs s ≡ pos 0 → row_mentions r s ≡ false
unfolding row_mentions
unmentioned r s h z = go (has_slot r.coefs s) refl
  where
    go : (b : Bool) → has_slot r.coefs s ≡ b → b ≡ false
    go true e = absurd (coef_at-mentioned r.coefs s h e z)
    go false e = refl

-- a slot that is mentioned is another one than one that isn't
other_slot : (r : LinearConstraint) (s t : Slot) → row_mentions r s ≡ false → row_mentions r t ≡ true → same_slot t s ≡ false
other_slot r s t n m = go (same_slot t s) refl
  where
    go : (b : Bool) → same_slot t s ≡ b → b ≡ false
    go true e = absurd (true≢false (sym m ∙ ap (row_mentions r) (same_slot_is t s e) ∙ n))
    go false e = refl

-- a row without the slot holds alike at an extension
pub level_alike : (s : Slot) (r : LinearConstraint) (p q : Point) → 0 < p.den → IsExtension s.sort p (slot s) q → row_mentions r s ≡ false → row_holds r p ≡ row_holds r q
level_alike s r p q h x n =
    row_holds-same r p q h (positive-extension s.sort p (slot s) q h x) (λ t m. extension_same s.sort p q (slot s) (slot t) x (other_slot r s t n m))

-- ---- signs

-- a coefficient above 0 bounds the slot from above, whatever the op
pub above_by : (op : RowOp) (a : ℤ) → pos 0 <ℤ a → BoundsAbove op a
above_by Zero a h = λ e. absurd (omega (arith, ints))
above_by AtMost a h = h
above_by Below a h = h

-- and one below 0 from below
pub below_by : (op : RowOp) (a : ℤ) → a <ℤ pos 0 → BoundsBelow op a
below_by Zero a h = λ e. absurd (omega (arith, ints))
below_by AtMost a h = h
below_by Below a h = h

-- a number that isn't 0 nor above it
pub under_0 : (a : ℤ) → int_eq a (pos 0) ≡ false → int_lt (pos 0) a ≡ false → a <ℤ pos 0
under_0 a n h = by_lt_z a (pos 0) (λ l. l) (λ g. by_lt_z (pos 0) a (λ l. absurd (true≢false (sym (above_test a l) ∙ h)))
    (λ k. absurd (true≢false (sym ((Decides-int_eq a (pos 0)).1 (omega (arith, ints))) ∙ n))))

-- ---- lines

-- a row that mentions the slot has a line that does
record IsLineAt (s : Slot) (r : LinearConstraint) : Type 0 where
  line : Line
  inside : In line (row_lines r)
  mentions : row_mentions line s ≡ true

line_at : (s : Slot) (r : LinearConstraint) → coef_at r.coefs s ≢ pos 0 → IsLineAt s r
line_at s r n = go r.op r.constant r.coefs n
  where
    go : (op : RowOp) (m : ℤ) (cs : List (Slot × ℤ)) → coef_at cs s ≢ pos 0 → IsLineAt s (record { coefs = cs; constant = m; op = op })
    go op m [] n = absurd (n refl)
    go op m (c ∷ cs) n =
        let row : LinearConstraint = record { coefs = c ∷ cs; constant = m; op = Zero } in
        record { line = normal_row row; inside = inl refl; mentions = row_mentions-normal row s ∙ mentioned row s n }

-- the lines of a row without the slot don't mention it
line_without : (s : Slot) (r : LinearConstraint) (l : Line) → row_mentions r s ≡ false → In l (row_lines r) → row_mentions l s ≡ false
unfolding row_mentions
line_without s r l n i = go r.op r.constant r.coefs n i
  where
    go : (op : RowOp) (m : ℤ) (cs : List (Slot × ℤ)) → has_slot cs s ≡ false → In l (line_with cs m) → has_slot l.coefs s ≡ false
    go op m [] n i = absurd i
    go op m (c ∷ cs) n (inr i) = absurd i
    go op m (c ∷ cs) n (inl e) = ap (λ (x : Line). has_slot x.coefs s) e ∙ row_mentions-normal (record { coefs = c ∷ cs; constant = m; op = Zero }) s ∙ n

module _ (Kind : LinearConstraint → Type 0) (s : Slot) (rows : Rows) (linear : AreLinear rows) where
  -- ---- rows without the slot
  pub level_remains : (r : LinearConstraint) → Kind r → In r rows → coef_at r.coefs s ≡ pos 0 → IsRemaining Kind s rows r
  level_remains r kind i z =
      let normal = all-In IsLinearAtom rows r linear i in
      let n = unmentioned r s normal.coefs z in
      record {
        normal = normal;
        kind = kind;
        slots = λ t m. (other_slot r s t n m, In-mentions rows r t i m);
        lines = λ l h. In-elim-kept s (conj_lines row_lines rows) l (In-lines rows r l i h) (line_without s r l n h);
        follows = λ p h w. level_alike s r p w.0 h w.1 n ∙ conj-In rows w.0 r w.2 i;
      }

  -- ---- combinations
  module _ (q r : LinearConstraint) (iq : In q rows) (ir : In r rows) (above : BoundsAbove q.op (coef_at q.coefs s)) (below : BoundsBelow r.op (coef_at r.coefs s)) where
    some_q : coef_at q.coefs s ≢ pos 0
    some_q = bound_nonzero q.op (coef_at q.coefs s) above

    some_r : coef_at r.coefs s ≢ pos 0
    some_r = below_nonzero r.op (coef_at r.coefs s) below

    linear_q : IsLinearAtom q
    linear_q = all-In IsLinearAtom rows q linear iq

    linear_r : IsLinearAtom r
    linear_r = all-In IsLinearAtom rows r linear ir

    -- they clash where their lines do
    clash_alike : (l : IsLineAt s q) (m : IsLineAt s r) → lines_clash s q r ≡ lines_clash s l.line m.line
    clash_alike l m = lines_clash_alike s q r l.line m.line (begins q.coefs linear_q.coefs) (begins r.coefs linear_r.coefs) linear_q.row linear_r.row l.inside m.inside

    -- a choice that is taken
    taken : (l m k : Line) (b : Bool) → b ≡ true → In k (combination s l m) → In k (cond b (combination s l m) [])
    taken l m k true e i = i
    taken l m k false e i = absurd (true≢false (sym e))

    mixed_lines : ((k : Line) → In k (row_lines (mix_of s q r)) → lines_clash s q r ≡ false) → (k : Line) → In k (row_lines (mix_of s q r)) → In k (elim_at s (conj_lines row_lines rows))
    mixed_lines short k i =
        let l = line_at s q some_q in
        let m = line_at s r some_r in
        let is = mix-line s q r some_q some_r ∙ lines_combination s q r l.line m.line (begins q.coefs linear_q.coefs) (begins r.coefs linear_r.coefs) l.inside m.inside in
        let apart : not (lines_clash s l.line m.line) ≡ true = ap not (sym (clash_alike l m) ∙ short k i) in
        let mention = and_from (row_mentions l.line s) (row_mentions m.line s) l.mentions m.mentions in
        In-elim-pair s (conj_lines row_lines rows) k (record {
          first = l.line;
          second = m.line;
          in_first = In-lines rows q l.line iq l.inside;
          in_second = In-lines rows r m.line ir m.inside;
          combined = taken l.line m.line k (both_mention s l.line m.line && not (lines_clash s l.line m.line)) (and_from (both_mention s l.line m.line) (not (lines_clash s l.line m.line)) mention apart) (subst (In k) is i);
        })

    pub mixed_remains : ((k : Line) → In k (row_lines (mix_of s q r)) → lines_clash s q r ≡ false) → IsLinearAtom (mix_of s q r) → Kind (mix_of s q r) → IsRemaining Kind s rows (mix_of s q r)
    mixed_remains short normal kind = record {
      normal = normal;
      kind = kind;
      slots = λ t m. (other_slot (mix_of s q r) s t (mix_without s q r) m, elim (mix_over s q r t m) [ inl a ↦ In-mentions rows q t iq a | inr b ↦ In-mentions rows r t ir b ]);
      lines = λ k i. mixed_lines short k i;
      follows = λ p h w.
          level_alike s (mix_of s q r) p w.0 h w.1 (mix_without s q r)
          ∙ mix-holds s q r w.0 above below (positive-extension s.sort p (slot s) w.0 h w.1) (conj-In rows w.0 q w.2 iq) (conj-In rows w.0 r w.2 ir);
    }

    -- rows that clash
    pub mixed_clash : lines_clash s q r ≡ true → clash_at s (conj_lines row_lines rows) ≡ true
    unfolding clash_at Clash
    mixed_clash long =
        let l = line_at s q some_q in
        let m = line_at s r some_r in
        let mention = and_from (row_mentions l.line s) (row_mentions m.line s) l.mentions m.mentions in
        In-clash_of s l.line m.line (conj_lines row_lines rows) (conj_lines row_lines rows) (In-lines rows q l.line iq l.inside) (In-lines rows r m.line ir m.inside)
        (and_from (both_mention s l.line m.line) (lines_clash s l.line m.line) mention (sym (clash_alike l m) ∙ long))

  -- ---- a row from which an equality has taken the slot
  module _ (e r : LinearConstraint) (ie : In e rows) (ir : In r rows) (op : e.op ≡ Zero) (some : coef_at e.coefs s ≢ pos 0) where
    equal_above : BoundsAbove e.op (coef_at e.coefs s)
    equal_above = subst (λ o. BoundsAbove o (coef_at e.coefs s)) (sym op) some

    equal_below : BoundsBelow e.op (coef_at e.coefs s)
    equal_below = subst (λ o. BoundsBelow o (coef_at e.coefs s)) (sym op) some

    upper : int_lt (pos 0) (coef_at r.coefs s) ≡ true → BoundsAbove r.op (coef_at r.coefs s)
    upper h = above_by r.op (coef_at r.coefs s) (is_positive (coef_at r.coefs s) h)

    lower : int_eq (coef_at r.coefs s) (pos 0) ≡ false → int_lt (pos 0) (coef_at r.coefs s) ≡ false → BoundsBelow r.op (coef_at r.coefs s)
    lower n h = below_by r.op (coef_at r.coefs s) (under_0 (coef_at r.coefs s) n h)

    remains_by : (b d : Bool) → int_eq (coef_at r.coefs s) (pos 0) ≡ b → int_lt (pos 0) (coef_at r.coefs s) ≡ d
        → ((k : Line) → In k (row_lines (cond b r (cond d (mix_of s r e) (mix_of s e r)))) → cond b false (cond d (lines_clash s r e) (lines_clash s e r)) ≡ false)
        → IsLinearAtom (cond b r (cond d (mix_of s r e) (mix_of s e r))) → Kind (cond b r (cond d (mix_of s r e) (mix_of s e r))) → IsRemaining Kind s rows (cond b r (cond d (mix_of s r e) (mix_of s e r)))
    remains_by true d z h short normal kind = level_remains r kind ir ((Decides-int_eq (coef_at r.coefs s) (pos 0)).0 z)
    remains_by false true z h short normal kind = mixed_remains r e ir ie (upper h) equal_below short normal kind
    remains_by false false z h short normal kind = mixed_remains e r ie ir equal_above (lower z h) short normal kind

    pub settled_remains : ((k : Line) → In k (row_lines (settled_row s e r)) → settled_clash s e r ≡ false) → IsLinearAtom (settled_row s e r) → Kind (settled_row s e r) → IsRemaining Kind s rows (settled_row s e r)
    settled_remains short normal kind = remains_by (int_eq (coef_at r.coefs s) (pos 0)) (int_lt (pos 0) (coef_at r.coefs s)) refl refl short normal kind

    clash_by : (b d : Bool) → int_eq (coef_at r.coefs s) (pos 0) ≡ b → int_lt (pos 0) (coef_at r.coefs s) ≡ d
        → cond b false (cond d (lines_clash s r e) (lines_clash s e r)) ≡ true → clash_at s (conj_lines row_lines rows) ≡ true
    clash_by true d z h long = absurd (true≢false (sym long))
    clash_by false true z h long = mixed_clash r e ir ie (upper h) equal_below long
    clash_by false false z h long = mixed_clash e r ie ir equal_above (lower z h) long

    pub settled_clashes : settled_clash s e r ≡ true → clash_at s (conj_lines row_lines rows) ≡ true
    settled_clashes long = clash_by (int_eq (coef_at r.coefs s) (pos 0)) (int_lt (pos 0) (coef_at r.coefs s)) refl refl long
