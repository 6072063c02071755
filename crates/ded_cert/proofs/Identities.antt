-- What the tags tell of a sum of tagged rows: the coefficients of its tags are the numbers by which the rows were multiplied.
--
-- A sum of numbers over the tags that is right for each tagged row is so for each row that is left of them.
use Rattle.std.proofs.Common.{◌≡◌, ℕ, ◌+◌, ◌<◌, ◌≤◌, List, [], ◌∷◌, ◌++◌, inl, inr, ◌⊎◌, ⊎_elim, arith, refl, sym, ◌∙◌, subst}
use Rattle.std.specs.Prelude.{ℤ, pos, negsuc, ◌+ℤ◌, ◌*ℤ◌}
use Rattle.std.proofs.lemmas.Int.{ints}
use Rattle.ded_num.proofs.Ring.{parts, ring_pos, diff_same}
use Rattle.ded_model.specs.declared.slot.Slot.{Slot}
use Rattle.ded_model.specs.declared.row.RowOp.{RowOp}
use Rattle.ded_model.specs.declared.row.RowOp.TheVariants.{Zero, AtMost, Below}
use Rattle.ded_model.specs.Constraint.{LinearConstraint}
use Rattle.ded_model.specs.Coefs.{AllBelow, coef_at, put, cut, nonzero, with_coef}
use Rattle.ded_model.specs.Normal.{normal_row}
use Rattle.ded_model.specs.Lines.{Line, In, row_lines}
use Rattle.ded_model.proofs.LineCoefs.{nonzero-nonzero}
use Rattle.ded_model.proofs.Members.{In-left, In-right, In-split}
use Rattle.ded_row.proofs.Forms.{begins, row_lines-normal}
use Rattle.ded_row.proofs.MixedLines.{nonzero_begins}
use Rattle.ded_row.proofs.Scaling.{BeginsNonzero}
use Rattle.ded_theory.specs.Conjunctions.{conj_lines}
use Rattle.ded_elimination.specs.LinearAtoms.{IsLinearAtom}
use Rattle.ded_cert.specs.Tracing.{tag, tagged_coefs, forward, backward, turned_coefs, slack_of, traces_by, traces, AreBelow}
use Rattle.ded_cert.specs.Projecting.{weigh, value_of, IsProjected}
use Rattle.ded_cert.proofs.Combined.{line_vanishes, row_vanishes}
use Rattle.ded_cert.proofs.Tagged.{tagged_at_tag, tagged_at_no_tag}
use Rattle.ded_cert.proofs.Lows.{turned_below}
use Rattle.ded_cert.proofs.Nears.{none_constant}

-- ---- the tagged rows one by one

-- what holds of each of them, before it is brought into normal form
unfoldable pub EachTrace : (LinearConstraint → Type 0) → ℕ → ℕ → List LinearConstraint → Type 0
EachTrace P b n [] = Unit {0}
EachTrace P b n (r ∷ rs) = P (forward b n r) × (r.op ≡ Zero → P (backward b n r)) × EachTrace P b (n + 2) rs

pub each_weaker : (P Q : LinearConstraint → Type 0) (b n : ℕ) (rs : List LinearConstraint) → ((y : LinearConstraint) → P y → Q y) → EachTrace P b n rs → EachTrace Q b n rs
unfolding EachTrace
each_weaker P Q b n [] f h = tt
each_weaker P Q b n (r ∷ rs) f h = (f (forward b n r) h.0, λ e. f (backward b n r) (h.1 e), each_weaker P Q b (n + 2) rs f h.2)

-- their lines
tagged_begins : (b : ℕ) (w : ℤ) (n : ℕ) (cs : List (Slot × ℤ)) → BeginsNonzero (tagged_coefs b w n cs)
tagged_begins b w n cs =
    let ds = put (tag n) (pos 1) (cut (tag n) (with_coef (tag (b + 1)) w (with_coef (tag b) (pos 1) cs))) in
    nonzero_begins (nonzero ds) (nonzero-nonzero ds)

module _ (P : LinearConstraint → Type 0) (Q : Line → Type 0) (to : (y : LinearConstraint) → BeginsNonzero y.coefs → P y → (l : Line) → In l (row_lines y) → Q l) where
  of_forward : (b n : ℕ) (r : LinearConstraint) → P (forward b n r) → (l : Line) → In l (row_lines (normal_row (forward b n r))) → Q l
  of_forward b n r h l i =
      let o = tagged_begins b (slack_of r.op) n r.coefs in
      to (forward b n r) o h l (subst (In l) (row_lines-normal (forward b n r) o) i)

  of_backward : (b n : ℕ) (r : LinearConstraint) → P (backward b n r) → (l : Line) → In l (row_lines (normal_row (backward b n r))) → Q l
  of_backward b n r h l i =
      let o = tagged_begins b (pos 0) (n + 1) (turned_coefs r.coefs) in
      to (backward b n r) o h l (subst (In l) (row_lines-normal (backward b n r) o) i)

  only_left : (l : Line) (xs : List Line) → In l (xs ++ []) → In l xs
  only_left l xs i = ⊎_elim (λ (h : In l xs). h) (λ h. absurd h) (In-split l xs [] i)

  by_op : (op : RowOp) (b n : ℕ) (r : LinearConstraint) → r.op ≡ op → P (forward b n r) → (r.op ≡ Zero → P (backward b n r)) → (l : Line) → In l (conj_lines row_lines (traces_by op b n r)) → Q l
  by_op Zero b n r e h k l i = ⊎_elim
      (λ (j : In l (row_lines (normal_row (forward b n r)))). of_forward b n r h l j)
      (λ j. of_backward b n r (k e) l (only_left l (row_lines (normal_row (backward b n r))) j))
      (In-split l (row_lines (normal_row (forward b n r))) (row_lines (normal_row (backward b n r)) ++ []) i)
  by_op AtMost b n r e h k l i = of_forward b n r h l (only_left l (row_lines (normal_row (forward b n r))) i)
  by_op Below b n r e h k l i = of_forward b n r h l (only_left l (row_lines (normal_row (forward b n r))) i)

  lines_append : (xs ys : List LinearConstraint) (l : Line) → In l (conj_lines row_lines (xs ++ ys)) → In l (conj_lines row_lines xs) ⊎ In l (conj_lines row_lines ys)
  lines_append [] ys l i = inr i
  lines_append (x ∷ xs) ys l i = ⊎_elim
      (λ (j : In l (row_lines x)). inl (In-left l (row_lines x) (conj_lines row_lines xs) j))
      (λ j. ⊎_elim (λ (k : In l (conj_lines row_lines xs)). inl (In-right l (row_lines x) (conj_lines row_lines xs) k)) (λ k. inr k) (lines_append xs ys l j))
      (In-split l (row_lines x) (conj_lines row_lines (xs ++ ys)) i)

  -- what each tagged row brings about holds of all lines
  pub trace_lines : (b n : ℕ) (rs : List LinearConstraint) → EachTrace P b n rs → (l : Line) → In l (conj_lines row_lines (traces b n rs)) → Q l
  unfolding EachTrace
  trace_lines b n [] h l i = absurd i
  trace_lines b n (r ∷ rs) h l i = ⊎_elim
      (λ (j : In l (conj_lines row_lines (traces_by r.op b n r))). by_op r.op b n r refl h.0 h.1 l j)
      (λ j. trace_lines b (n + 2) rs h.2 l j)
      (lines_append (traces_by r.op b n r) (traces b (n + 2) rs) l i)

-- ---- sums over the tags

-- g of each row at its tag, and g' of it at the next one
unfoldable pub weights : (LinearConstraint → ℤ) → (LinearConstraint → ℤ) → ℕ → List LinearConstraint → List (Slot × ℤ)
weights g g' n [] = []
weights g g' n (r ∷ rs) = (tag n, g r) ∷ (tag (n + 1), g' r) ∷ weights g g' (n + 2) rs

times_none : (x c z : ℤ) → c ≡ pos 0 → x *ℤ c +ℤ z ≡ z
times_none x c z e = subst (λ c. x *ℤ c +ℤ z ≡ z) (sym e) (law x z)
  where
    law : (x z : ℤ) → x *ℤ pos 0 +ℤ z ≡ z
    law x z = rw (parts x, parts z) (simp ring_pos (diff_same _ _ _ _ (omega arith)))

times_once : (x c z : ℤ) → c ≡ pos 1 → z ≡ pos 0 → x *ℤ c +ℤ z ≡ x
times_once x c z e f = rw (e, f) (rw (parts x) (simp ring_pos (diff_same _ _ _ _ (omega arith))))

module _ (g g' : LinearConstraint → ℤ) where
  silent : (n : ℕ) (rs : List LinearConstraint) (cs : List (Slot × ℤ)) → ((m : ℕ) → n ≤ m → coef_at cs (tag m) ≡ pos 0) → weigh (weights g g' n rs) cs ≡ pos 0
  unfolding weights
  silent n [] cs h = refl
  silent n (r ∷ rs) cs h =
      times_none (g r) (coef_at cs (tag n)) _ (h n (omega arith))
      ∙ times_none (g' r) (coef_at cs (tag (n + 1))) _ (h (n + 1) (omega arith))
      ∙ silent (n + 2) rs cs (λ m l. h m (omega (arith, l)))

  module _ (b : ℕ) (value : LinearConstraint → ℤ)
      (of_forward : (n : ℕ) (r : LinearConstraint) → b + 1 < n → AllBelow b r.coefs → value (forward b n r) ≡ g r)
      (of_backward : (n : ℕ) (r : LinearConstraint) → b + 1 < n → AllBelow b r.coefs → r.op ≡ Zero → value (backward b n r) ≡ g' r) where
    abbrev Spoken : ℕ → List LinearConstraint → LinearConstraint → Type 0
    Spoken n rs y = (weigh (weights g g' n rs) y.coefs ≡ value y) × ((m : ℕ) → b + 1 < m → m < n → coef_at y.coefs (tag m) ≡ pos 0)

    forward_spoken : (n : ℕ) (r : LinearConstraint) (rs : List LinearConstraint) → b + 1 < n → AllBelow b r.coefs → Spoken n (r ∷ rs) (forward b n r)
    unfolding weights
    forward_spoken n r rs h a =
        let cs = tagged_coefs b (slack_of r.op) n r.coefs in (
          times_once (g r) (coef_at cs (tag n)) _ (tagged_at_tag b (slack_of r.op) n r.coefs a h)
              (times_none (g' r) (coef_at cs (tag (n + 1))) _ (tagged_at_no_tag b (slack_of r.op) n r.coefs a h (n + 1) (omega (arith, h)) (λ e. absurd (omega (arith, e))))
              ∙ silent (n + 2) rs cs (λ m l. tagged_at_no_tag b (slack_of r.op) n r.coefs a h m (omega (arith, h, l)) (λ e. absurd (omega (arith, e, l)))))
              ∙ sym (of_forward n r h a),
          λ m k l. tagged_at_no_tag b (slack_of r.op) n r.coefs a h m k (λ e. absurd (omega (arith, e, l))),
        )

    backward_spoken : (n : ℕ) (r : LinearConstraint) (rs : List LinearConstraint) → b + 1 < n → AllBelow b r.coefs → r.op ≡ Zero → Spoken n (r ∷ rs) (backward b n r)
    unfolding weights
    backward_spoken n r rs h a z =
        let ts = turned_coefs r.coefs in
        let cs = tagged_coefs b (pos 0) (n + 1) ts in
        let d = turned_below b r.coefs a in
        let k : b + 1 < n + 1 = omega (arith, h) in (
          times_none (g r) (coef_at cs (tag n)) _ (tagged_at_no_tag b (pos 0) (n + 1) ts d k n h (λ e. absurd (omega (arith, e))))
              ∙ times_once (g' r) (coef_at cs (tag (n + 1))) _ (tagged_at_tag b (pos 0) (n + 1) ts d k)
              (silent (n + 2) rs cs (λ m l. tagged_at_no_tag b (pos 0) (n + 1) ts d k m (omega (arith, h, l)) (λ e. absurd (omega (arith, e, l)))))
              ∙ sym (of_backward n r h a z),
          λ m j l. tagged_at_no_tag b (pos 0) (n + 1) ts d k m j (λ e. absurd (omega (arith, e, l))),
        )

    later : (n : ℕ) (r : LinearConstraint) (rs : List LinearConstraint) → b + 1 < n → (y : LinearConstraint) → Spoken (n + 2) rs y → Spoken n (r ∷ rs) y
    unfolding weights
    later n r rs h y s = (
      times_none (g r) (coef_at y.coefs (tag n)) _ (s.1 n h (omega arith))
          ∙ times_none (g' r) (coef_at y.coefs (tag (n + 1))) _ (s.1 (n + 1) (omega (arith, h)) (omega arith)) ∙ s.0,
      λ m k l. s.1 m k (omega (arith, l)),
    )

    spoken : (n : ℕ) (rs : List LinearConstraint) → b + 1 < n → AreBelow b rs → EachTrace (Spoken n rs) b n rs
    unfolding EachTrace
    spoken n [] h a = tt
    spoken n (r ∷ rs) h a = (
      forward_spoken n r rs h a.0,
      backward_spoken n r rs h a.0,
      each_weaker (Spoken (n + 2) rs) (Spoken n (r ∷ rs)) b (n + 2) rs (later n r rs h) (spoken (n + 2) rs (omega (arith, h)) a.1),
    )

    -- the sum over the tags is right of each tagged row
    pub each_right : (n : ℕ) (rs : List LinearConstraint) → b + 1 < n → AreBelow b rs → EachTrace (λ y. weigh (weights g g' n rs) y.coefs ≡ value y) b n rs
    each_right n rs h a = each_weaker (Spoken n rs) (λ y. weigh (weights g g' n rs) y.coefs ≡ value y) b n rs (λ y s. s.0) (spoken n rs h a)

-- ---- what is left

pub in_lines : (left : List LinearConstraint) (e : LinearConstraint) (l : Line) → In e left → In l (row_lines e) → In l (conj_lines row_lines left)
in_lines [] e l h i = absurd h
in_lines (x ∷ left) e l (inl h) i = In-left l (row_lines x) (conj_lines row_lines left) (subst (λ y. In l (row_lines y)) h i)
in_lines (x ∷ left) e l (inr h) i = In-right l (row_lines x) (conj_lines row_lines left) (in_lines left e l h i)

weigh_none : (ws : List (Slot × ℤ)) → weigh ws [] ≡ pos 0
weigh_none [] = refl
weigh_none (w ∷ ws) = times_none w.1 (pos 0) (weigh ws []) refl ∙ weigh_none ws

nothing_law : (x k c : ℤ) → x ≡ pos 0 → pos 0 ≡ c → x +ℤ k *ℤ c ≡ pos 0
nothing_law x k c e f = rw (e, sym f) (rw (parts k) (simp ring_pos (diff_same _ _ _ _ (omega arith))))

-- a row vanishes where its lines do
pub atom_vanishes : (ws : List (Slot × ℤ)) (k : ℤ) (e : LinearConstraint) → IsLinearAtom e → ((l : Line) → In l (row_lines e) → value_of ws k l ≡ pos 0) → value_of ws k e ≡ pos 0
atom_vanishes ws k e n f = go e.coefs e.op e.constant (begins e.coefs n.coefs) n.row.normal f
  where
    go : (cs : List (Slot × ℤ)) (op : RowOp) (c : ℤ) → BeginsNonzero cs → normal_row (record { coefs = cs; constant = c; op = op }) ≡ record { coefs = cs; constant = c; op = op }
        → ((l : Line) → In l (row_lines (record { coefs = cs; constant = c; op = op })) → value_of ws k l ≡ pos 0) → weigh ws cs +ℤ k *ℤ c ≡ pos 0
    go [] op c o i f = nothing_law (weigh ws []) k c (weigh_none ws) (none_constant op c i)
    go (x ∷ cs) op c o i f =
        let l = normal_row (record { coefs = x ∷ cs; constant = c; op = Zero }) in
        row_vanishes ws k (record { coefs = x ∷ cs; constant = c; op = op }) l o (inl refl) (f l (inl refl))

module _ (b n : ℕ) (rs : List LinearConstraint) (done : List Slot) (left : List LinearConstraint) (projected : IsProjected (traces b n rs) done left) (e : LinearConstraint) (inside : In e left) (linear : IsLinearAtom e) where
  -- what vanishes in each tagged row vanishes in what is left
  pub left_vanishes : (ws : List (Slot × ℤ)) (k : ℤ) → EachTrace (λ y. value_of ws k y ≡ pos 0) b n rs → value_of ws k e ≡ pos 0
  left_vanishes ws k h =
      atom_vanishes ws k e linear
      (λ l i. projected.vanish ws k (trace_lines (λ y. value_of ws k y ≡ pos 0) (λ m. value_of ws k m ≡ pos 0) (λ y o z m j. line_vanishes ws k y m o j z) b n rs h) l (in_lines left e l inside i))

  to_coef : (x c k : ℤ) → x ≡ c → (negsuc 0 *ℤ c +ℤ x) +ℤ pos 0 *ℤ k ≡ pos 0
  to_coef x c k h = rw h (law c k)
    where
      law : (c k : ℤ) → (negsuc 0 *ℤ c +ℤ c) +ℤ pos 0 *ℤ k ≡ pos 0
      law c k = omega (arith, ints)

  from_coef : (x c k : ℤ) → (negsuc 0 *ℤ c +ℤ x) +ℤ pos 0 *ℤ k ≡ pos 0 → x ≡ c
  from_coef x c k h = omega (arith, ints, h)

  -- a sum over the tags that is the coefficient of a slot
  pub coef_told : (ws : List (Slot × ℤ)) (s : Slot) → EachTrace (λ y. weigh ws y.coefs ≡ coef_at y.coefs s) b n rs → weigh ws e.coefs ≡ coef_at e.coefs s
  coef_told ws s h =
      from_coef (weigh ws e.coefs) (coef_at e.coefs s) e.constant
      (left_vanishes ((s, negsuc 0) ∷ ws) (pos 0)
      (each_weaker (λ y. weigh ws y.coefs ≡ coef_at y.coefs s) (λ y. value_of ((s, negsuc 0) ∷ ws) (pos 0) y ≡ pos 0) b n rs (λ y z. to_coef (weigh ws y.coefs) (coef_at y.coefs s) y.constant z) h))

  to_constant : (x c : ℤ) → x ≡ c → x +ℤ negsuc 0 *ℤ c ≡ pos 0
  to_constant x c h = omega (arith, ints, h)

  from_constant : (x c : ℤ) → x +ℤ negsuc 0 *ℤ c ≡ pos 0 → x ≡ c
  from_constant x c h = omega (arith, ints, h)

  -- one that is the constant
  pub constant_told : (ws : List (Slot × ℤ)) → EachTrace (λ y. weigh ws y.coefs ≡ y.constant) b n rs → weigh ws e.coefs ≡ e.constant
  constant_told ws h =
      from_constant (weigh ws e.coefs) e.constant
      (left_vanishes ws (negsuc 0) (each_weaker (λ y. weigh ws y.coefs ≡ y.constant) (λ y. value_of ws (negsuc 0) y ≡ pos 0) b n rs (λ y z. to_constant (weigh ws y.coefs) y.constant z) h))

  to_zero : (x k : ℤ) → x ≡ pos 0 → x +ℤ pos 0 *ℤ k ≡ pos 0
  to_zero x k h = omega (arith, ints, h)

  from_zero : (x k : ℤ) → x +ℤ pos 0 *ℤ k ≡ pos 0 → x ≡ pos 0
  from_zero x k h = omega (arith, ints, h)

  -- and one that is 0
  pub zero_told : (ws : List (Slot × ℤ)) → EachTrace (λ y. weigh ws y.coefs ≡ pos 0) b n rs → weigh ws e.coefs ≡ pos 0
  zero_told ws h =
      from_zero (weigh ws e.coefs) e.constant
      (left_vanishes ws (pos 0) (each_weaker (λ y. weigh ws y.coefs ≡ pos 0) (λ y. value_of ws (pos 0) y ≡ pos 0) b n rs (λ y z. to_zero (weigh ws y.coefs) y.constant z) h))
