-- Lists of conjunctions one after another, and pairs of conjunctions.
--
-- A list holds where one of its conjunctions does, so two lists one after another hold where one of them does. The pairs of two
-- lists hold where both do, since a conjunction of two holds where both hold. Slots and lines of either are those of the two.
use Rattle.std.proofs.Common.{◌≡◌, ◌<◌, Bool, true, false, ◌&&◌, ◌||◌, List, [], ◌∷◌, ◌++◌, ◌⊎◌, inl, inr, refl, sym, ap, ap₂, ◌∙◌, subst, true≢false, append_assoc}
use Rattle.std.proofs.Math.Bool.{or_assoc, and-false}
use Rattle.ded_model.specs.declared.slot.Slot.{Slot}
use Rattle.ded_model.specs.Point.{slot, Point, IsSameAt, IsExtension}
use Rattle.ded_model.specs.Cell.{conj_holds}
use Rattle.ded_model.specs.Lines.{Line, In, IsSubset, elim_at, clash_at}
use Rattle.ded_model.specs.Row.{row_mentions}
use Rattle.ded_model.proofs.Rows.{or_left, or_right}
use Rattle.ded_model.proofs.Members.{In-left, In-right, In-split, or_split, elim-grows, clash-grows}
use Rattle.ded_theory.specs.Conjunctions.{conj_mentions, conj_lines}
use Rattle.ded_theory.proofs.Conjunctions.{conj_holds-append, conj_mentions-append, conj_holds-same, conj_holds-extended, conj_slots, conj_line_slots}
use Rattle.ded_genrel.specs.Lists.{AreNormal, conjs_hold, conjs_mention, conjs_lines, conjs_elim, conjs_clash, pairs_with, pairs}
use Rattle.ded_genrel.specs.Operations.{IsUnion, IsMeet}

-- ---- tests

-- a with b, or a with c
and_over_or : (a b c : Bool) → (a && (b || c)) ≡ ((a && b) || (a && c))
and_over_or true b c = refl
and_over_or false b c = refl

-- a with c, or b with c
or_over_and : (a b c : Bool) → ((a || b) && c) ≡ ((a && c) || (b && c))
or_over_and true true true = refl
or_over_and true true false = refl
or_over_and true false true = refl
or_over_and true false false = refl
or_over_and false b c = refl

module _ {A : Type 0} (holds : A → Point → Bool) where
  -- two lists one after another hold where one of them does
  pub conjs_hold-append : (xs ys : List (List A)) (p : Point) → conjs_hold holds (xs ++ ys) p ≡ (conjs_hold holds xs p || conjs_hold holds ys p)
  conjs_hold-append [] ys p = refl
  conjs_hold-append (x ∷ xs) ys p = ap (λ b. conj_holds holds x p || b) (conjs_hold-append xs ys p) ∙ sym (or_assoc (conj_holds holds x p) _ _)

  -- the pairs with one conjunction hold where it and the list do
  pub pairs_with-hold : (c : List A) (ys : List (List A)) (p : Point) → conjs_hold holds (pairs_with c ys) p ≡ (conj_holds holds c p && conjs_hold holds ys p)
  pairs_with-hold c [] p = sym (and-false (conj_holds holds c p))
  pairs_with-hold c (y ∷ ys) p =
      ap₂ (λ a b. a || b) (conj_holds-append holds c y p) (pairs_with-hold c ys p) ∙ sym (and_over_or (conj_holds holds c p) (conj_holds holds y p) (conjs_hold holds ys p))

  -- all pairs hold where both lists do
  pub pairs-hold : (xs ys : List (List A)) (p : Point) → conjs_hold holds (pairs xs ys) p ≡ (conjs_hold holds xs p && conjs_hold holds ys p)
  pairs-hold [] ys p = refl
  pairs-hold (x ∷ xs) ys p =
      conjs_hold-append (pairs_with x ys) (pairs xs ys) p ∙ ap₂ (λ a b. a || b) (pairs_with-hold x ys p) (pairs-hold xs ys p) ∙ sym (or_over_and (conj_holds holds x p) (conjs_hold holds xs p) (conjs_hold holds ys p))

module _ {A : Type 0} (mentions : A → Slot → Bool) where
  -- two lists one after another mention what one of them does
  pub conjs_mention-append : (xs ys : List (List A)) (s : Slot) → conjs_mention mentions (xs ++ ys) s ≡ (conjs_mention mentions xs s || conjs_mention mentions ys s)
  conjs_mention-append [] ys s = refl
  conjs_mention-append (x ∷ xs) ys s = ap (λ b. conj_mentions mentions x s || b) (conjs_mention-append xs ys s) ∙ sym (or_assoc (conj_mentions mentions x s) _ _)

  -- the pairs with one conjunction mention only what it or the list does
  pub pairs_with-mention : (c : List A) (ys : List (List A)) (s : Slot) → conjs_mention mentions (pairs_with c ys) s ≡ true → (conj_mentions mentions c s ≡ true) ⊎ (conjs_mention mentions ys s ≡ true)
  pairs_with-mention c [] s h = inr h
  pairs_with-mention c (y ∷ ys) s h = elim (or_split (conj_mentions mentions (c ++ y) s) (conjs_mention mentions (pairs_with c ys) s) h) [
    | inl a ↦ elim (or_split (conj_mentions mentions c s) (conj_mentions mentions y s) (sym (conj_mentions-append mentions c y s) ∙ a)) [
      | inl i ↦ inl i
      | inr j ↦ inr (or_left (conj_mentions mentions y s) (conjs_mention mentions ys s) j)
    ]
    | inr b ↦ elim (pairs_with-mention c ys s b) [ inl i ↦ inl i | inr j ↦ inr (or_right (conj_mentions mentions y s) (conjs_mention mentions ys s) j) ]
  ]

  -- all pairs mention only what one of the lists does
  pub pairs-mention : (xs ys : List (List A)) (s : Slot) → conjs_mention mentions (pairs xs ys) s ≡ true → (conjs_mention mentions xs s || conjs_mention mentions ys s) ≡ true
  pairs-mention [] ys s h = absurd (true≢false (sym h))
  pairs-mention (x ∷ xs) ys s h = elim (or_split (conjs_mention mentions (pairs_with x ys) s) (conjs_mention mentions (pairs xs ys) s) (sym (conjs_mention-append (pairs_with x ys) (pairs xs ys) s) ∙ h)) [
    | inl a ↦ elim (pairs_with-mention x ys s a) [
      | inl i ↦ or_left (conj_mentions mentions x s || conjs_mention mentions xs s) (conjs_mention mentions ys s) (or_left (conj_mentions mentions x s) (conjs_mention mentions xs s) i)
      | inr j ↦ or_right (conj_mentions mentions x s || conjs_mention mentions xs s) (conjs_mention mentions ys s) j
    ]
    | inr b ↦ elim (or_split (conjs_mention mentions xs s) (conjs_mention mentions ys s) (pairs-mention xs ys s b)) [
      | inl i ↦ or_left (conj_mentions mentions x s || conjs_mention mentions xs s) (conjs_mention mentions ys s) (or_right (conj_mentions mentions x s) (conjs_mention mentions xs s) i)
      | inr j ↦ or_right (conj_mentions mentions x s || conjs_mention mentions xs s) (conjs_mention mentions ys s) j
    ]
  ]

module _ {A : Type 0} (lines : A → List Line) where
  -- the lines of two conjunctions one after another
  pub conj_lines-append : (xs ys : List A) → conj_lines lines (xs ++ ys) ≡ conj_lines lines xs ++ conj_lines lines ys
  conj_lines-append [] ys = refl
  conj_lines-append (x ∷ xs) ys = ap (λ ls. lines x ++ ls) (conj_lines-append xs ys) ∙ sym (append_assoc (lines x) (conj_lines lines xs) (conj_lines lines ys))

  -- and of two lists
  pub conjs_lines-append : (xs ys : List (List A)) → conjs_lines lines (xs ++ ys) ≡ conjs_lines lines xs ++ conjs_lines lines ys
  conjs_lines-append [] ys = refl
  conjs_lines-append (x ∷ xs) ys = ap (λ ls. conj_lines lines x ++ ls) (conjs_lines-append xs ys) ∙ sym (append_assoc (conj_lines lines x) (conjs_lines lines xs) (conjs_lines lines ys))

  -- the lines of the pairs with one conjunction are its or the list's
  pub pairs_with-lines : (c : List A) (ys : List (List A)) (l : Line) → In l (conjs_lines lines (pairs_with c ys)) → In l (conj_lines lines c) ⊎ In l (conjs_lines lines ys)
  pairs_with-lines c [] l h = absurd h
  pairs_with-lines c (y ∷ ys) l h = elim (In-split l (conj_lines lines (c ++ y)) (conjs_lines lines (pairs_with c ys)) h) [
    | inl a ↦ elim (In-split l (conj_lines lines c) (conj_lines lines y) (subst (In l) (conj_lines-append c y) a)) [
      | inl i ↦ inl i
      | inr j ↦ inr (In-left l (conj_lines lines y) (conjs_lines lines ys) j)
    ]
    | inr b ↦ elim (pairs_with-lines c ys l b) [ inl i ↦ inl i | inr j ↦ inr (In-right l (conj_lines lines y) (conjs_lines lines ys) j) ]
  ]

  -- the lines of all pairs are those of the lists
  pub pairs-lines : (xs ys : List (List A)) → IsSubset (conjs_lines lines (pairs xs ys)) (conjs_lines lines xs ++ conjs_lines lines ys)
  pairs-lines [] ys l h = absurd h
  pairs-lines (x ∷ xs) ys l h = elim (In-split l (conjs_lines lines (pairs_with x ys)) (conjs_lines lines (pairs xs ys)) (subst (In l) (conjs_lines-append (pairs_with x ys) (pairs xs ys)) h)) [
    | inl a ↦ elim (pairs_with-lines x ys l a) [
      | inl i ↦ In-left l (conj_lines lines x ++ conjs_lines lines xs) (conjs_lines lines ys) (In-left l (conj_lines lines x) (conjs_lines lines xs) i)
      | inr j ↦ In-right l (conj_lines lines x ++ conjs_lines lines xs) (conjs_lines lines ys) j
    ]
    | inr b ↦ elim (In-split l (conjs_lines lines xs) (conjs_lines lines ys) (pairs-lines xs ys l b)) [
      | inl i ↦ In-left l (conj_lines lines x ++ conjs_lines lines xs) (conjs_lines lines ys) (In-right l (conj_lines lines x) (conjs_lines lines xs) i)
      | inr j ↦ In-right l (conj_lines lines x ++ conjs_lines lines xs) (conjs_lines lines ys) j
    ]
  ]

module _ {A : Type 0} (h : A → Point → Bool) (m : A → Slot → Bool) (l : A → List Line) where
  -- one after another they are a union
  pub union_is : (xs ys out : List (List A)) → out ≡ xs ++ ys → IsUnion h m l xs ys out
  union_is xs ys out e = subst (IsUnion h m l xs ys) (sym e) (record {
    holds = λ p i. conjs_hold-append h xs ys p;
    slots = λ s k. sym (conjs_mention-append m xs ys s) ∙ k;
    lines = λ x k. subst (In x) (conjs_lines-append l xs ys) k;
  })

  -- the pairs are a meet
  pub meet_is : (xs ys out : List (List A)) → out ≡ pairs xs ys → IsMeet h m l xs ys out
  meet_is xs ys out e = subst (IsMeet h m l xs ys) (sym e) (record {
    holds = λ p i. pairs-hold h xs ys p;
    slots = λ s k. pairs-mention m xs ys s k;
    lines = pairs-lines l xs ys;
  })

-- ---- at points with the same values, and what is true of each conjunction

module _ {A : Type 0} (holds : A → Point → Bool) (mentions : A → Slot → Bool)
    (respects : (a : A) (p q : Point) → 0 < p.den → 0 < q.den → ((s : Slot) → mentions a s ≡ true → IsSameAt p q (slot s)) → holds a p ≡ holds a q) where
  -- a list holds alike at two points that have the same values at the slots that it mentions
  pub conjs_hold-same : (conjs : List (List A)) (p q : Point) → 0 < p.den → 0 < q.den → ((s : Slot) → conjs_mention mentions conjs s ≡ true → IsSameAt p q (slot s)) → conjs_hold holds conjs p ≡ conjs_hold holds conjs q
  conjs_hold-same [] p q i j h = refl
  conjs_hold-same (c ∷ conjs) p q i j h =
      ap₂ (λ a b. a || b) (conj_holds-same holds mentions respects c p q i j (λ s k. h s (or_left (conj_mentions mentions c s) (conjs_mention mentions conjs s) k)))
      (conjs_hold-same conjs p q i j (λ s k. h s (or_right (conj_mentions mentions c s) (conjs_mention mentions conjs s) k)))

  -- so at a point and its extension at a slot that it doesn't mention
  pub conjs_hold-extended : (conjs : List (List A)) (t : Slot) (p q : Point) → 0 < p.den → conjs_mention mentions conjs t ≡ false → IsExtension t.sort p (slot t) q → conjs_hold holds conjs p ≡ conjs_hold holds conjs q
  conjs_hold-extended [] t p q i free x = refl
  conjs_hold-extended (c ∷ conjs) t p q i free x =
      ap₂ (λ a b. a || b) (conj_holds-extended holds mentions respects c t p q i (none_left (conj_mentions mentions c t) (conjs_mention mentions conjs t) free) x)
      (conjs_hold-extended conjs t p q i (none_right (conj_mentions mentions c t) (conjs_mention mentions conjs t) free) x)
    where
      none_left : (a b : Bool) → (a || b) ≡ false → a ≡ false
      none_left true b e = e
      none_left false b e = refl

      none_right : (a b : Bool) → (a || b) ≡ false → b ≡ false
      none_right true b e = absurd (true≢false e)
      none_right false b e = e

module _ {A : Type 0} (normal : A → Type 0) (mentions : A → Slot → Bool) (P : Slot → Type 0) (each : (a : A) (s : Slot) → normal a → mentions a s ≡ true → P s) where
  -- a slot that is mentioned has what the slots of normal atoms have
  pub conjs_slots : (conjs : List (List A)) (s : Slot) → AreNormal normal conjs → conjs_mention mentions conjs s ≡ true → P s
  conjs_slots [] s n m = absurd (true≢false (sym m))
  conjs_slots (c ∷ conjs) s n m = elim (or_split (conj_mentions mentions c s) (conjs_mention mentions conjs s) m) [
    | inl a ↦ conj_slots normal mentions P each c s n.0 a
    | inr b ↦ conjs_slots conjs s n.1 b
  ]

module _ {A : Type 0} (lines : A → List Line) (mentions : A → Slot → Bool) (each : (a : A) (l : Line) (s : Slot) → In l (lines a) → row_mentions l s ≡ true → mentions a s ≡ true) where
  -- the lines mention only slots that the conjunctions mention
  pub conjs_line_slots : (conjs : List (List A)) (l : Line) (s : Slot) → In l (conjs_lines lines conjs) → row_mentions l s ≡ true → conjs_mention mentions conjs s ≡ true
  conjs_line_slots [] l s i m = absurd i
  conjs_line_slots (c ∷ conjs) l s i m = elim (In-split l (conj_lines lines c) (conjs_lines lines conjs) i) [
    | inl a ↦ or_left (conj_mentions mentions c s) (conjs_mention mentions conjs s) (conj_line_slots lines mentions each c l s a m)
    | inr b ↦ or_right (conj_mentions mentions c s) (conjs_mention mentions conjs s) (conjs_line_slots conjs l s b m)
  ]

-- ---- eliminations

module _ {A : Type 0} (lines : A → List Line) (s : Slot) where
  -- what is made conjunction by conjunction is made of all lines together
  pub conjs_elim-within : (conjs : List (List A)) → IsSubset (conjs_elim lines s conjs) (elim_at s (conjs_lines lines conjs))
  conjs_elim-within [] l h = absurd h
  conjs_elim-within (c ∷ conjs) l h = elim (In-split l (elim_at s (conj_lines lines c)) (conjs_elim lines s conjs) h) [
    | inl a ↦ elim-grows s (conj_lines lines c) (conj_lines lines c ++ conjs_lines lines conjs) (λ k i. In-left k (conj_lines lines c) (conjs_lines lines conjs) i) l a
    | inr b ↦ elim-grows s (conjs_lines lines conjs) (conj_lines lines c ++ conjs_lines lines conjs) (λ k i. In-right k (conj_lines lines c) (conjs_lines lines conjs) i) l (conjs_elim-within conjs l b)
  ]

  -- what clashes in one conjunction clashes among all lines
  pub conjs_clash-within : (conjs : List (List A)) → conjs_clash lines s conjs ≡ true → clash_at s (conjs_lines lines conjs) ≡ true
  conjs_clash-within [] h = absurd (true≢false (sym h))
  conjs_clash-within (c ∷ conjs) h = elim (or_split (clash_at s (conj_lines lines c)) (conjs_clash lines s conjs) h) [
    | inl a ↦ clash-grows s (conj_lines lines c) (conj_lines lines c ++ conjs_lines lines conjs) (λ l i. In-left l (conj_lines lines c) (conjs_lines lines conjs) i) a
    | inr b ↦ clash-grows s (conjs_lines lines conjs) (conj_lines lines c ++ conjs_lines lines conjs) (λ l i. In-right l (conj_lines lines c) (conjs_lines lines conjs) i) (conjs_clash-within conjs b)
  ]
