-- Rows from which slots are eliminated: what is left, where no two of their lines clash.
use Rattle.std.proofs.Common.{◌≡◌, ◌≢◌, ◌⊎◌, inl, inr, ℕ, zero, suc, ◌<◌, Bool, true, false, cond, List, [], ◌∷◌, ◌++◌, map, length, get_or, arith, refl, sym, ap, ◌∙◌, subst, true≢false}
use Rattle.std.specs.Prelude.{ℤ, pos, ◌<ℤ◌, int_lt, unsigned_abs}
use Rattle.std.specs.List.{AllByRecursion}
use Rattle.std.specs.Ordering.{int_eq}
use Rattle.std.proofs.lemmas.Int.{ints}
use Rattle.std.proofs.lemmas.List.{append-nil, append_assoc}
use Rattle.std.proofs.lemmas.Bool.{false_from_ne_true}
use Rattle.std.proofs.lemmas.Bool.Decides.{Decides-int_eq}
use Rattle.ded_num.proofs.Signs.{above_test, is_positive}
use Rattle.ded_model.specs.declared.row.RowOp.{RowOp}
use Rattle.ded_model.specs.declared.row.RowOp.TheVariants.{Zero, AtMost, Below}
use Rattle.ded_model.specs.declared.slot.Slot.{Slot}
use Rattle.ded_model.specs.declared.slot.Sort.TheVariants.{Rat}
use Rattle.ded_model.specs.Cell.{conj_holds}
use Rattle.ded_model.specs.Coefs.{coef_at}
use Rattle.ded_model.specs.Constraint.{LinearConstraint}
use Rattle.ded_model.specs.Lines.{In, row_lines, lines_clash, clash_at}
use Rattle.ded_model.specs.Point.{Point}
use Rattle.ded_model.specs.Row.{row_holds}
use Rattle.ded_model.proofs.Members.{In-left, In-right, In-split}
use Rattle.ded_row.specs.Mixing.{BoundsAbove, BoundsBelow, mix_of}
use Rattle.ded_theory.specs.Conjunctions.{conj_lines}
use Rattle.ded_elimination.specs.LinearAtoms.{IsLinearAtom}
use Rattle.ded_elimination.specs.Adding.{AreLinear, HoldExtended, IsRemaining, Adds}
use Rattle.ded_elimination.specs.Equalities.{equal_size_with, equal_size, settled_row, settled_clash, SettledHolds}
use Rattle.ded_elimination.specs.Pairs.{LevelHolds, PairHolds, UpperHolds}
use Rattle.ded_elimination.proofs.Conjunctions.{Rows, all-In, In-all, conj-In}
use Rattle.ded_elimination.proofs.Exactness.{pairs_exact, equality_exact}
use Rattle.ded_elimination.proofs.Outcomes.{outcome_holds, outcome_normal, outcome_kind, outcome_slots, outcome_lines}
use Rattle.ded_elimination.proofs.Remains.{above_by, below_by, level_remains, mixed_remains, mixed_clash, settled_remains, settled_clashes}
use Rattle.ded_cert.specs.Projecting.{IsStep, IsProjected, GetLong}
use Rattle.ded_cert.specs.Tracing.{is_weak_with, is_weak_row}
use Rattle.ded_cert.proofs.Projections.{projected_none, projected_more, clash_long}
use Rattle.ded_cert.proofs.WeakRows.{mix_weak}
use Rattle.ded_progress.proofs.Combining.{mix_linear}

-- a row by `<=`, or one without coefficients
abbrev pub IsWeak : LinearConstraint → Type 0
IsWeak r = is_weak_row r ≡ true

-- what holds of each holds at each place
places : (P : LinearConstraint → Type 0) (rows : Rows) → AllByRecursion P rows → (k : ℕ) → k < length rows → (d : LinearConstraint) → P (get_or rows k d)
places P [] h k l d = absurd (omega arith)
places P (r ∷ rows) h zero l d = h.0
places P (r ∷ rows) h (suc k) l d = places P rows h.1 k (omega arith) d

below_test : (a : ℤ) → a <ℤ pos 0 → int_lt a (pos 0) ≡ true
below_test a h = grind (arith, ints)

is_negative : (a : ℤ) → int_lt a (pos 0) ≡ true → a <ℤ pos 0
is_negative a h = grind (arith, ints)

above_some : (a : ℤ) → pos 0 <ℤ a → a ≢ pos 0
above_some a h e = omega (arith, ints)

below_some : (a : ℤ) → a <ℤ pos 0 → a ≢ pos 0
below_some a h e = omega (arith, ints)

-- any row
abbrev pub IsAny : LinearConstraint → Type 0
IsAny r = Unit {0}

-- rows that the elimination of the slot leaves, of a kind
pub record IsReduced (Kind : LinearConstraint → Type 0) (s : Slot) (rows : Rows) : Type 0 where
  pub left : Rows
  pub step : IsStep rows s left
  pub linear : AllByRecursion IsLinearAtom left
  pub kinds : AllByRecursion Kind left

-- rows that each may remain, and that hold only where some extension satisfies the others
reduced : (Kind : LinearConstraint → Type 0) (s : Slot) (rows out : Rows) → ((p : Point) → 0 < p.den → conj_holds row_holds out p ≡ true → HoldExtended s rows p) → ((r : LinearConstraint) → In r out → IsRemaining Kind s rows r) → IsReduced Kind s rows
reduced Kind s rows out exact each =
    let added : Adds Kind s rows (HoldExtended s rows) [] true out = record {
      holds = λ p h m c. (refl, exact p h c);
      remaining = λ r i. inr (each r i);
      never = λ m. absurd (true≢false m);
    } in
    record {
      left = out;
      step = record {
        holds = λ p i. outcome_holds Kind s rows out added p i.positive;
        slots = outcome_slots Kind s rows out added;
        lines = outcome_lines Kind s rows out added;
      };
      linear = outcome_normal Kind s rows out added;
      kinds = outcome_kind Kind s rows out added;
    }

module _ (s : Slot) where
  level_rows : Rows → Rows
  level_rows [] = []
  level_rows (r ∷ rows) = cond (int_eq (coef_at r.coefs s) (pos 0)) (r ∷ level_rows rows) (level_rows rows)

  mixes_with : LinearConstraint → Rows → Rows
  mixes_with u [] = []
  mixes_with u (l ∷ rows) = cond (int_lt (coef_at l.coefs s) (pos 0)) (mix_of s u l ∷ mixes_with u rows) (mixes_with u rows)

  mixes : Rows → Rows → Rows
  mixes [] all = []
  mixes (u ∷ rows) all = cond (int_lt (pos 0) (coef_at u.coefs s)) (mixes_with u all ++ mixes rows all) (mixes rows all)

  -- ---- what stands in them

  level_in : (rows : Rows) (r : LinearConstraint) → In r rows → coef_at r.coefs s ≡ pos 0 → In r (level_rows rows)
  unfolding level_rows
  level_in [] r i z = absurd i
  level_in (x ∷ rows) r (inl e) z = by (int_eq (coef_at x.coefs s) (pos 0)) ((Decides-int_eq (coef_at x.coefs s) (pos 0)).1 (ap (λ (y : LinearConstraint). coef_at y.coefs s) (sym e) ∙ z))
    where
      by : (b : Bool) → b ≡ true → In r (cond b (x ∷ level_rows rows) (level_rows rows))
      by true k = inl e
      by false k = absurd (true≢false (sym k))
  level_in (x ∷ rows) r (inr i) z = by (int_eq (coef_at x.coefs s) (pos 0)) (level_in rows r i z)
    where
      by : (b : Bool) → In r (level_rows rows) → In r (cond b (x ∷ level_rows rows) (level_rows rows))
      by true j = inr j
      by false j = j

  in_level : (rows : Rows) (r : LinearConstraint) → In r (level_rows rows) → In r rows × (coef_at r.coefs s ≡ pos 0)
  unfolding level_rows
  in_level [] r i = absurd i
  in_level (x ∷ rows) r i = by (int_eq (coef_at x.coefs s) (pos 0)) refl i (in_level rows r)
    where
      by : (b : Bool) → int_eq (coef_at x.coefs s) (pos 0) ≡ b → In r (cond b (x ∷ level_rows rows) (level_rows rows)) → (In r (level_rows rows) → In r rows × (coef_at r.coefs s ≡ pos 0)) → In r (x ∷ rows) × (coef_at r.coefs s ≡ pos 0)
      by true e (inl k) next = (inl k, ap (λ (y : LinearConstraint). coef_at y.coefs s) k ∙ (Decides-int_eq (coef_at x.coefs s) (pos 0)).0 e)
      by true e (inr k) next = let j = next k in (inr j.0, j.1)
      by false e k next = let j = next k in (inr j.0, j.1)

  with_in : (u : LinearConstraint) (rows : Rows) (l : LinearConstraint) → In l rows → int_lt (coef_at l.coefs s) (pos 0) ≡ true → In (mix_of s u l) (mixes_with u rows)
  unfolding mixes_with
  with_in u [] l i z = absurd i
  with_in u (x ∷ rows) l (inl e) z = by (int_lt (coef_at x.coefs s) (pos 0)) (ap (λ (y : LinearConstraint). int_lt (coef_at y.coefs s) (pos 0)) (sym e) ∙ z)
    where
      by : (b : Bool) → b ≡ true → In (mix_of s u l) (cond b (mix_of s u x ∷ mixes_with u rows) (mixes_with u rows))
      by true k = inl (ap (mix_of s u) e)
      by false k = absurd (true≢false (sym k))
  with_in u (x ∷ rows) l (inr i) z = by (int_lt (coef_at x.coefs s) (pos 0)) (with_in u rows l i z)
    where
      by : (b : Bool) → In (mix_of s u l) (mixes_with u rows) → In (mix_of s u l) (cond b (mix_of s u x ∷ mixes_with u rows) (mixes_with u rows))
      by true j = inr j
      by false j = j

  pairs_in : (rows all : Rows) (u l : LinearConstraint) → In u rows → int_lt (pos 0) (coef_at u.coefs s) ≡ true → In l all → int_lt (coef_at l.coefs s) (pos 0) ≡ true → In (mix_of s u l) (mixes rows all)
  unfolding mixes
  pairs_in [] all u l i z j y = absurd i
  pairs_in (x ∷ rows) all u l (inl e) z j y =
      by (int_lt (pos 0) (coef_at x.coefs s)) (ap (λ (v : LinearConstraint). int_lt (pos 0) (coef_at v.coefs s)) (sym e) ∙ z) (subst (λ (v : LinearConstraint). In (mix_of s u l) (mixes_with v all)) e (with_in u all l j y))
    where
      by : (b : Bool) → b ≡ true → In (mix_of s u l) (mixes_with x all) → In (mix_of s u l) (cond b (mixes_with x all ++ mixes rows all) (mixes rows all))
      by true k h = In-left (mix_of s u l) (mixes_with x all) (mixes rows all) h
      by false k h = absurd (true≢false (sym k))
  pairs_in (x ∷ rows) all u l (inr i) z j y = by (int_lt (pos 0) (coef_at x.coefs s)) (pairs_in rows all u l i z j y)
    where
      by : (b : Bool) → In (mix_of s u l) (mixes rows all) → In (mix_of s u l) (cond b (mixes_with x all ++ mixes rows all) (mixes rows all))
      by true h = In-right (mix_of s u l) (mixes_with x all) (mixes rows all) h
      by false h = h

  -- the two rows of a combination
  record IsMix (us ls : Rows) (r : LinearConstraint) : Type 0 where
    upper : LinearConstraint
    lower : LinearConstraint
    in_upper : In upper us
    in_lower : In lower ls
    above : int_lt (pos 0) (coef_at upper.coefs s) ≡ true
    below : int_lt (coef_at lower.coefs s) (pos 0) ≡ true
    is : r ≡ mix_of s upper lower

  in_with : (u : LinearConstraint) (rows : Rows) (r : LinearConstraint) → In r (mixes_with u rows) → (l : LinearConstraint) × In l rows × (int_lt (coef_at l.coefs s) (pos 0) ≡ true) × (r ≡ mix_of s u l)
  unfolding mixes_with
  in_with u [] r i = absurd i
  in_with u (x ∷ rows) r i = by (int_lt (coef_at x.coefs s) (pos 0)) refl i (in_with u rows r)
    where
      by : (b : Bool) → int_lt (coef_at x.coefs s) (pos 0) ≡ b → In r (cond b (mix_of s u x ∷ mixes_with u rows) (mixes_with u rows))
          → (In r (mixes_with u rows) → (l : LinearConstraint) × In l rows × (int_lt (coef_at l.coefs s) (pos 0) ≡ true) × (r ≡ mix_of s u l))
          → (l : LinearConstraint) × In l (x ∷ rows) × (int_lt (coef_at l.coefs s) (pos 0) ≡ true) × (r ≡ mix_of s u l)
      by true e (inl k) next = (x, inl refl, e, k)
      by true e (inr k) next = let j = next k in (j.0, inr j.1, j.2, j.3)
      by false e k next = let j = next k in (j.0, inr j.1, j.2, j.3)

  in_pairs : (rows all : Rows) (r : LinearConstraint) → In r (mixes rows all) → IsMix rows all r
  unfolding mixes
  in_pairs [] all r i = absurd i
  in_pairs (x ∷ rows) all r i = by (int_lt (pos 0) (coef_at x.coefs s)) refl i (in_pairs rows all r)
    where
      more : IsMix rows all r → IsMix (x ∷ rows) all r
      more j = record { upper = j.upper; lower = j.lower; in_upper = inr j.in_upper; in_lower = j.in_lower; above = j.above; below = j.below; is = j.is }

      by : (b : Bool) → int_lt (pos 0) (coef_at x.coefs s) ≡ b → In r (cond b (mixes_with x all ++ mixes rows all) (mixes rows all)) → (In r (mixes rows all) → IsMix rows all r) → IsMix (x ∷ rows) all r
      by true e k next = elim (In-split r (mixes_with x all) (mixes rows all) k) [
        | inl h ↦ (let j = in_with x all r h in record { upper = x; lower = j.0; in_upper = inl refl; in_lower = j.1; above = e; below = j.2; is = j.3 })
        | inr h ↦ more (next h)
      ]
      by false e k next = more (next k)

  -- ---- what is left where no equality mentions the slot

  module _ (Kind : LinearConstraint → Type 0) (mix_kind : (q r : LinearConstraint) → coef_at q.coefs s ≢ pos 0 → coef_at r.coefs s ≢ pos 0 → Kind q → Kind r → Kind (mix_of s q r)) (rows : Rows) (linear : AreLinear rows) (kinds : AllByRecursion Kind rows) (flat : AllByRecursion (λ r. equal_size s r ≡ 0) rows) (tight : clash_at s (conj_lines row_lines rows) ≡ false) where
    remains : Rows
    remains = level_rows rows ++ mixes rows rows

    level : (r : LinearConstraint) → In r rows → coef_at r.coefs s ≡ pos 0 → In r remains
    unfolding remains
    level r i z = In-left r (level_rows rows) (mixes rows rows) (level_in rows r i z)

    pair : (u l : LinearConstraint) → In u rows → pos 0 <ℤ coef_at u.coefs s → In l rows → coef_at l.coefs s <ℤ pos 0 → In (mix_of s u l) remains
    unfolding remains
    pair u l i a j b = In-right (mix_of s u l) (level_rows rows) (mixes rows rows) (pairs_in rows rows u l i (above_test (coef_at u.coefs s) a) j (below_test (coef_at l.coefs s) b))

    exact : (p : Point) → 0 < p.den → conj_holds row_holds remains p ≡ true → HoldExtended s rows p
    exact p h c = pairs_exact s rows linear p h
        (places (λ r. equal_size s r ≡ 0) rows flat)
        (places (λ r. LevelHolds s r p) rows (In-all (λ r. LevelHolds s r p) rows (λ r i z. conj-In remains p r c (level r i z))))
        (places (λ u. UpperHolds s rows u p) rows (In-all (λ u. UpperHolds s rows u p) rows (λ u i a.
        places (λ l. PairHolds s u l p) rows (In-all (λ l. PairHolds s u l p) rows (λ l j b. conj-In remains p (mix_of s u l) c (pair u l i a j b))))))

    mix_remains : (r : LinearConstraint) → IsMix rows rows r → IsRemaining Kind s rows r
    mix_remains r m =
        let q = m.upper in
        let l = m.lower in
        let a = is_positive (coef_at q.coefs s) m.above in
        let b = is_negative (coef_at l.coefs s) m.below in
        let up : BoundsAbove q.op (coef_at q.coefs s) = above_by q.op (coef_at q.coefs s) a in
        let down : BoundsBelow l.op (coef_at l.coefs s) = below_by l.op (coef_at l.coefs s) b in
        let some = above_some (coef_at q.coefs s) a in
        let other = below_some (coef_at l.coefs s) b in
        let apart : lines_clash s q l ≡ false = false_from_ne_true (lines_clash s q l) (λ e. true≢false (sym (mixed_clash Kind s rows linear q l m.in_upper m.in_lower up down e) ∙ tight)) in
        subst (IsRemaining Kind s rows) (sym m.is)
        (mixed_remains Kind s rows linear q l m.in_upper m.in_lower up down (λ k i. apart)
        (mix_linear s q l (all-In IsLinearAtom rows q linear m.in_upper) (all-In IsLinearAtom rows l linear m.in_lower) some other apart)
        (mix_kind q l some other (all-In Kind rows q kinds m.in_upper) (all-In Kind rows l kinds m.in_lower)))

    each_remains : (r : LinearConstraint) → In r remains → IsRemaining Kind s rows r
    unfolding remains
    each_remains r i = elim (In-split r (level_rows rows) (mixes rows rows) i) [
      | inl j ↦ (let k = in_level rows r j in level_remains Kind s rows linear r (all-In Kind rows r kinds k.0) k.0 k.1)
      | inr j ↦ mix_remains r (in_pairs rows rows r j)
    ]

    by_pairs : IsReduced Kind s rows
    by_pairs = reduced Kind s rows remains exact each_remains

  -- ---- what is left where an equality mentions it

  module _ (rows : Rows) (linear : AreLinear rows) (tight : clash_at s (conj_lines row_lines rows) ≡ false) (e : LinearConstraint) (ie : In e rows) (op : e.op ≡ Zero) (some : coef_at e.coefs s ≢ pos 0) where
    settled : Rows
    settled = map (settled_row s e) rows

    settled_in : (us : Rows) (r : LinearConstraint) → In r us → In (settled_row s e r) (map (settled_row s e) us)
    settled_in [] r i = absurd i
    settled_in (x ∷ us) r (inl k) = inl (ap (settled_row s e) k)
    settled_in (x ∷ us) r (inr k) = inr (settled_in us r k)

    in_settled : (us : Rows) (r : LinearConstraint) → In r (map (settled_row s e) us) → (x : LinearConstraint) × In x us × (r ≡ settled_row s e x)
    in_settled [] r i = absurd i
    in_settled (x ∷ us) r (inl k) = (x, inl refl, k)
    in_settled (x ∷ us) r (inr k) = let j = in_settled us r k in (j.0, inr j.1, j.2)

    settles : (p : Point) → 0 < p.den → conj_holds row_holds settled p ≡ true → HoldExtended s rows p
    unfolding settled
    settles p h c = equality_exact s rows linear p h e ie op some
        (places (λ r. SettledHolds s e r p) rows (In-all (λ r. SettledHolds s e r p) rows (λ r i. inr (conj-In (map (settled_row s e) rows) p (settled_row s e r) c (settled_in rows r i)))))

    apart : (r : LinearConstraint) → In r rows → settled_clash s e r ≡ false
    apart r i = false_from_ne_true (settled_clash s e r) (λ k. true≢false (sym (settled_clashes IsAny s rows linear e r ie i op some k) ∙ tight))

    settled_linear : (r : LinearConstraint) → In r rows → IsLinearAtom (settled_row s e r)
    settled_linear r i = by (int_eq (coef_at r.coefs s) (pos 0)) refl (int_lt (pos 0) (coef_at r.coefs s)) (apart r i)
      where
        le : IsLinearAtom e
        le = all-In IsLinearAtom rows e linear ie

        lr : IsLinearAtom r
        lr = all-In IsLinearAtom rows r linear i

        other : int_eq (coef_at r.coefs s) (pos 0) ≡ false → coef_at r.coefs s ≢ pos 0
        other k z = true≢false (sym ((Decides-int_eq (coef_at r.coefs s) (pos 0)).1 z) ∙ k)

        by : (b : Bool) → int_eq (coef_at r.coefs s) (pos 0) ≡ b → (d : Bool) → cond b false (cond d (lines_clash s r e) (lines_clash s e r)) ≡ false → IsLinearAtom (cond b r (cond d (mix_of s r e) (mix_of s e r)))
        by true k d c = lr
        by false k true c = mix_linear s r e lr le (other k) some c
        by false k false c = mix_linear s e r le lr some (other k) c

    any_linear : (r : LinearConstraint) → In r settled → IsRemaining IsAny s rows r
    unfolding settled
    any_linear r i =
        let x = in_settled rows r i in
        subst (IsRemaining IsAny s rows) (sym x.2) (settled_remains IsAny s rows linear e x.0 ie x.1 op some (λ k j. apart x.0 x.1) (settled_linear x.0 x.1) tt)

    by_equality : IsReduced IsAny s rows
    by_equality = reduced IsAny s rows settled settles any_linear

-- ---- weak rows

weak_size : (s : Slot) (r : LinearConstraint) → IsWeak r → equal_size s r ≡ 0
weak_size s r h = by r.coefs r.op h
  where
    by : (cs : List (Slot × ℤ)) (op : RowOp) → is_weak_with cs op ≡ true → equal_size_with op (coef_at cs s) ≡ 0
    by [] Zero k = refl
    by [] AtMost k = refl
    by [] Below k = refl
    by (c ∷ cs) Zero k = absurd (true≢false (sym k))
    by (c ∷ cs) AtMost k = refl
    by (c ∷ cs) Below k = refl

pub weak_reduced : (s : Slot) (rows : Rows) → AreLinear rows → AllByRecursion IsWeak rows → clash_at s (conj_lines row_lines rows) ≡ false → IsReduced IsWeak s rows
weak_reduced s rows linear weak tight =
    by_pairs s IsWeak (λ q r some other h k. mix_weak s q r some other h k) rows linear weak
    (In-all (λ r. equal_size s r ≡ 0) rows (λ r i. weak_size s r (all-In IsWeak rows r weak i))) tight

-- ---- any rows

-- an equality that mentions the slot
record HasEquality (s : Slot) (rows : Rows) : Type 0 where
  row : LinearConstraint
  inside : In row rows
  op : row.op ≡ Zero
  some : coef_at row.coefs s ≢ pos 0

sized : (o : RowOp) (a : ℤ) → (equal_size_with o a ≡ 0) ⊎ ((o ≡ Zero) × (a ≢ pos 0))
sized Zero a = by (int_eq a (pos 0)) refl
  where
    by : (b : Bool) → int_eq a (pos 0) ≡ b → (unsigned_abs a ≡ 0) ⊎ ((Zero ≡ Zero) × (a ≢ pos 0))
    by true k = inl (ap unsigned_abs ((Decides-int_eq a (pos 0)).0 k))
    by false k = inr (refl, λ z. true≢false (sym ((Decides-int_eq a (pos 0)).1 z) ∙ k))
sized AtMost a = inl refl
sized Below a = inl refl

equality : (s : Slot) (rows : Rows) → HasEquality s rows ⊎ AllByRecursion (λ r. equal_size s r ≡ 0) rows
equality s [] = inr tt
equality s (r ∷ rows) = by (sized r.op (coef_at r.coefs s)) (equality s rows)
  where
    by : (equal_size s r ≡ 0) ⊎ ((r.op ≡ Zero) × (coef_at r.coefs s ≢ pos 0)) → HasEquality s rows ⊎ AllByRecursion (λ x. equal_size s x ≡ 0) rows → HasEquality s (r ∷ rows) ⊎ AllByRecursion (λ x. equal_size s x ≡ 0) (r ∷ rows)
    by (inr k) rest = inl (record { row = r; inside = inl refl; op = k.0; some = k.1 })
    by (inl k) (inl e) = inl (record { row = e.row; inside = inr e.inside; op = e.op; some = e.some })
    by (inl k) (inr rest) = inr (k, rest)

all_any : (rows : Rows) → AllByRecursion IsAny rows
all_any [] = tt
all_any (r ∷ rows) = (tt, all_any rows)

pub any_reduced : (s : Slot) (rows : Rows) → AreLinear rows → clash_at s (conj_lines row_lines rows) ≡ false → IsReduced IsAny s rows
any_reduced s rows linear tight = elim (equality s rows) [
  | inl e ↦ by_equality s rows linear tight e.row e.inside e.op e.some
  | inr flat ↦ by_pairs s IsAny (λ q r some other h k. tt) rows linear (all_any rows) flat tight
]

-- ---- slots one after another

fewer : (ss : List Slot) (s : Slot) (us : List Slot) → length ss < length (ss ++ s ∷ us)
fewer [] s us = omega arith
fewer (t ∷ ss) s us = let k = fewer ss s us in omega (arith, k)

-- what is left after the slots are eliminated
pub record IsLeft (Kind : LinearConstraint → Type 0) (rows : Rows) (done : List Slot) : Type 0 where
  pub left : Rows
  pub projected : IsProjected rows done left
  pub linear : AllByRecursion IsLinearAtom left
  pub kinds : AllByRecursion Kind left

module _ (Kind : LinearConstraint → Type 0) (step : (s : Slot) (rows : Rows) → AreLinear rows → AllByRecursion Kind rows → clash_at s (conj_lines row_lines rows) ≡ false → IsReduced Kind s rows) where
  module _ (rows : Rows) where
    -- the slots are eliminated after those that are done, or lines get long
    eliminated : (ss done : List Slot) → AllByRecursion (λ s. s.sort ≡ Rat) ss → IsLeft Kind rows done → IsLeft Kind rows (done ++ ss) ⊎ GetLong rows (length (done ++ ss))
    eliminated [] done r l = inl (subst (IsLeft Kind rows) (sym (append-nil done)) l)
    eliminated (s ∷ ss) done r l = by (clash_at s (conj_lines row_lines l.left)) refl (eliminated ss (done ++ s ∷ []) r.1)
      where
        more : IsReduced Kind s l.left → IsLeft Kind rows (done ++ s ∷ [])
        more x = record { left = x.left; projected = projected_more rows done l.left s x.left r.0 l.projected x.step; linear = x.linear; kinds = x.kinds }

        by : (b : Bool) → clash_at s (conj_lines row_lines l.left) ≡ b
            → (IsLeft Kind rows (done ++ s ∷ []) → IsLeft Kind rows ((done ++ s ∷ []) ++ ss) ⊎ GetLong rows (length ((done ++ s ∷ []) ++ ss)))
            → IsLeft Kind rows (done ++ s ∷ ss) ⊎ GetLong rows (length (done ++ s ∷ ss))
        by true e next = inr (clash_long rows done l.left s [] (length (done ++ s ∷ ss)) (fewer done s ss) l.projected e)
        by false e next = subst (λ (us : List Slot). IsLeft Kind rows us ⊎ GetLong rows (length us)) (append_assoc done (s ∷ []) ss) (next (more (step s l.left l.linear l.kinds e)))

    pub all_eliminated : (ss : List Slot) → AllByRecursion (λ s. s.sort ≡ Rat) ss → AllByRecursion IsLinearAtom rows → AllByRecursion Kind rows → IsLeft Kind rows ss ⊎ GetLong rows (length ss)
    all_eliminated ss r linear kinds = eliminated ss [] r (record { left = rows; projected = projected_none rows; linear = linear; kinds = kinds })
