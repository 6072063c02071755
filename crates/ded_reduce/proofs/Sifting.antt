-- Removing atoms that the others imply.
--
-- An atom is implied by others where they hold nowhere together with any piece of its negation; then they hold at the same points
-- without it. Where some point satisfies the others and a piece, the atom is needed. With the exact bounds on the lengths of
-- numbers this is decided for each atom of a conjunction that isn't wide, and by a theory that decides for each of any conjunction, so
-- what is left is irredundant.
use Rattle.std.proofs.Common.{◌≡◌, ◌⊎◌, Result, Ok, Err, IfOk, ℕ, zero, suc, ◌+◌, ◌<◌, ◌≤◌, length, take, drop, get_or, arith, Bool, true, false, not, ◌&&◌, ◌||◌, List, [], ◌∷◌, ◌++◌, inl, inr, refl, sym, ap, ap₂, ◌∙◌, subst, true≢false, below_more}
use Rattle.std.specs.List.{AllByRecursion}
use Rattle.ded_model.specs.declared.slot.Slot.{Slot}
use Rattle.ded_model.specs.declared.tuple.Negated.{Negated}
use Rattle.ded_model.specs.declared.tuple.Negated.TheVariants.{One, Two}
use Rattle.ded_model.specs.Point.{Point, IsPoint}
use Rattle.ded_model.specs.Cell.{conj_holds, HoldsSomewhere, IsReduced, HoldsNowhere}
use Rattle.ded_model.specs.Lines.{Line, In, IsSubset}
use Rattle.ded_model.specs.Sublists.{IsSublist}
use Rattle.ded_model.specs.Negation.{EachPiece, some_piece_holds}
use Rattle.ded_model.proofs.Points.{and_left, and_right}
use Rattle.ded_model.proofs.Rows.{or_left, or_right}
use Rattle.ded_model.proofs.Members.{In-split, In-left, In-right, or_split}
use Rattle.ded_model.proofs.Sublists.{sublist_refl, sublist_trans, sublist_all}
use Rattle.ded_theory.specs.declared.answers.Verdict.{Verdict}
use Rattle.ded_theory.specs.declared.answers.Verdict.TheVariants.{Empty, Inhabited, Unknown}
use Rattle.ded_theory.specs.Conjunctions.{conj_mentions, conj_lines, IsWide}
use Rattle.ded_theory.specs.Verdicts.{IsVerdict}
use Rattle.ded_theory.proofs.Conjunctions.{conj_holds-append, conj_mentions-append}
use Rattle.ded_theory.proofs.Parted.{wide_more}
use Rattle.ded_genrel.proofs.Laws.{conj_lines-append}
use Rattle.ded_reduce.specs.Reductions.{MayBeOpen, IsNeeded, IsImplied, IsSifted}
use Rattle.ded_reduce.proofs.Sublists.{sublist_without, length_without, parted_at, parted_others, parted_length}
use Rattle.std.proofs.lemmas.Bool.{not-true}
use Rattle.ded_model.proofs.Bools.{and_swap}
use Rattle.std.proofs.Math.Bool.{or-false, and-true}
use Rattle.ded_num.proofs.Tests.{both, implied, and_over_or}

-- ---- tests

module _ {A : Type 0} (D : Type 0) (h : A → Point → Bool) (m : A → Slot → Bool) (l : A → List Line) where
  push_holds : (xs : List A) (a : A) (p : Point) → conj_holds h (xs ++ a ∷ []) p ≡ (conj_holds h xs p && h a p)
  push_holds xs a p = conj_holds-append h xs (a ∷ []) p ∙ ap (λ b. conj_holds h xs p && b) (and-true (h a p))

  -- ---- others and one more atom

  pub with_nowhere : (others all : List A) (a : A) (v : Verdict) → all ≡ others ++ a ∷ [] → v ≡ Empty → IsVerdict h m l all v → HoldsNowhere (λ p. conj_holds h others p && h a p)
  with_nowhere others all a v e f k = λ p i. sym (ap (λ xs. conj_holds h xs p) e ∙ push_holds others a p) ∙ subst (IsVerdict h m l all) f k p i

  pub with_somewhere : (others all : List A) (a : A) (v : Verdict) → all ≡ others ++ a ∷ [] → v ≡ Inhabited → IsVerdict h m l all v → HoldsSomewhere (λ p. conj_holds h others p && h a p)
  with_somewhere others all a v e f k = let s = subst (IsVerdict h m l all) f k in (s.0, s.1, sym (ap (λ xs. conj_holds h xs s.0) e ∙ push_holds others a s.0) ∙ s.2)

  with_open : (others all : List A) (a : A) (v : Verdict) → all ≡ others ++ a ∷ [] → v ≡ Unknown → IsVerdict h m l all v → (D → v ≡ Unknown → ⊥) → MayBeOpen D m l (others ++ a ∷ [])
  with_open others all a v e f k d = (λ x. d x f, subst (IsWide m l) e (subst (IsVerdict h m l all) f k))

  pub result_open : {E : Type 0} (others all : List A) (a : A) (r : Result Verdict E) → all ≡ others ++ a ∷ [] → IfOk r (IsVerdict h m l all) → (D → IfOk r (λ v. v ≡ Unknown → ⊥)) → IfOk r (λ v. v ≡ Unknown → MayBeOpen D m l (others ++ a ∷ []))
  result_open others all a (Ok v) e k d = λ f. with_open others all a v e f k d
  result_open others all a (Err x) e k d = tt

  -- ---- the negation of an atom

  pub record IsNegation (a : A) (n : Negated A) : Type 0 where
    pub holds : (p : Point) → 0 < p.den → some_piece_holds h n p ≡ not (h a p)
    pub slots : EachPiece (λ b. (s : Slot) → m b s ≡ true → m a s ≡ true) n
    pub lines : EachPiece (λ b. l b ≡ l a) n

  -- others may be left open with an atom where they may with a piece of its negation
  pub open_piece : (others : List A) (a b : A) → ((s : Slot) → m b s ≡ true → m a s ≡ true) → l b ≡ l a → MayBeOpen D m l (others ++ b ∷ []) → MayBeOpen D m l (others ++ a ∷ [])
  open_piece others a b slots same w = (
    w.0,
    wide_more m l m l (others ++ b ∷ []) (others ++ a ∷ [])
        (λ x i. subst (In x) (conj_lines-append l others (b ∷ []) ∙ ap (λ ls. conj_lines l others ++ (ls ++ [])) same ∙ sym (conj_lines-append l others (a ∷ []))) i)
        (λ s e. conj_mentions-append m others (a ∷ []) s ∙ (elim (or_split (conj_mentions m others s) (m b s || false) (sym (conj_mentions-append m others (b ∷ []) s) ∙ e)) [
          | inl i ↦ or_left (conj_mentions m others s) (m a s || false) i
          | inr j ↦ or_right (conj_mentions m others s) (m a s || false) (or_left (m a s) false (slots s (sym (or-false (m b s)) ∙ j)))
        ])) w.1,
  )

  pub one_nowhere : (others : List A) (a b : A) (n : Negated A) → n ≡ One b → IsNegation a n → HoldsNowhere (λ p. conj_holds h others p && h b p) → HoldsNowhere (λ p. conj_holds h others p && not (h a p))
  one_nowhere others a b n e k z = let i = subst (IsNegation a) e k in λ p j. ap (λ x. conj_holds h others p && x) (sym (i.holds p j.positive)) ∙ z p j

  pub one_somewhere : (others : List A) (a b : A) (n : Negated A) → n ≡ One b → IsNegation a n → HoldsSomewhere (λ p. conj_holds h others p && h b p) → HoldsSomewhere (λ p. conj_holds h others p && not (h a p))
  one_somewhere others a b n e k v = let i = subst (IsNegation a) e k in (v.0, v.1, ap (λ x. conj_holds h others v.0 && x) (sym (i.holds v.0 v.1.positive)) ∙ v.2)

  pub one_open : (others : List A) (a b : A) (n : Negated A) → n ≡ One b → IsNegation a n → MayBeOpen D m l (others ++ b ∷ []) → MayBeOpen D m l (others ++ a ∷ [])
  one_open others a b n e k w = let i = subst (IsNegation a) e k in open_piece others a b i.slots i.lines w

  pub two_nowhere : (others copies : List A) (a b c : A) (n : Negated A) → n ≡ Two b c → copies ≡ others → IsNegation a n → HoldsNowhere (λ p. conj_holds h copies p && h b p) → HoldsNowhere (λ p. conj_holds h others p && h c p)
      → HoldsNowhere (λ p. conj_holds h others p && not (h a p))
  two_nowhere others copies a b c n e f k y z =
      let i = subst (IsNegation a) e k in
      λ p j. and_over_or (conj_holds h others p) (h b p) (h c p) (not (h a p)) (i.holds p j.positive) ∙ ap₂ (λ u v. u || v) (ap (λ xs. conj_holds h xs p && h b p) (sym f) ∙ y p j) (z p j)

  pub first_somewhere : (others copies : List A) (a b c : A) (n : Negated A) → n ≡ Two b c → copies ≡ others → IsNegation a n → HoldsSomewhere (λ p. conj_holds h copies p && h b p) → HoldsSomewhere (λ p. conj_holds h others p && not (h a p))
  first_somewhere others copies a b c n e f k v =
      let i = subst (IsNegation a) e k in (
        v.0,
        v.1,
        and_over_or (conj_holds h others v.0) (h b v.0) (h c v.0) (not (h a v.0)) (i.holds v.0 v.1.positive)
            ∙ or_left (conj_holds h others v.0 && h b v.0) (conj_holds h others v.0 && h c v.0) (ap (λ xs. conj_holds h xs v.0 && h b v.0) (sym f) ∙ v.2),
      )

  pub first_open : (others copies : List A) (a b c : A) (n : Negated A) → n ≡ Two b c → copies ≡ others → IsNegation a n → MayBeOpen D m l (copies ++ b ∷ []) → MayBeOpen D m l (others ++ a ∷ [])
  first_open others copies a b c n e f k w =
      let i = subst (IsNegation a) e k in
      open_piece others a b i.slots.0 i.lines.0 (subst (λ xs. MayBeOpen D m l (xs ++ b ∷ [])) f w)

  pub second_somewhere : (others : List A) (a b c : A) (n : Negated A) → n ≡ Two b c → IsNegation a n → HoldsSomewhere (λ p. conj_holds h others p && h c p) → HoldsSomewhere (λ p. conj_holds h others p && not (h a p))
  second_somewhere others a b c n e k v =
      let i = subst (IsNegation a) e k in (
        v.0,
        v.1,
        and_over_or (conj_holds h others v.0) (h b v.0) (h c v.0) (not (h a v.0)) (i.holds v.0 v.1.positive)
            ∙ or_right (conj_holds h others v.0 && h b v.0) (conj_holds h others v.0 && h c v.0) v.2,
      )

  pub second_open : (others : List A) (a b c : A) (n : Negated A) → n ≡ Two b c → IsNegation a n → MayBeOpen D m l (others ++ c ∷ []) → MayBeOpen D m l (others ++ a ∷ [])
  second_open others a b c n e k w = let i = subst (IsNegation a) e k in open_piece others a c i.slots.1 i.lines.1 w

  -- ---- the atom at an index

  -- the conjunction holds where the others and the atom do
  others_hold : (xs : List A) (k : ℕ) (a : A) (p : Point) → k < length xs → a ≡ get_or xs k a → conj_holds h xs p ≡ (conj_holds h (take k xs ++ drop (suc k) xs) p && h a p)
  others_hold [] k a p lt e = absurd (omega (arith, lt))
  others_hold (x ∷ xs) zero a p lt e = ap (λ y. h y p && conj_holds h xs p) (sym e) ∙ and_swap (h a p) (conj_holds h xs p)
  others_hold (x ∷ xs) (suc k) a p lt e = ap (λ b. h x p && b) (others_hold xs k a p (omega (arith, lt)) e) ∙ and_assoc (h x p) (conj_holds h (take k xs ++ drop (suc k) xs) p) (h a p)
    where
      and_assoc : (a b c : Bool) → (a && (b && c)) ≡ ((a && b) && c)
      and_assoc true b c = refl
      and_assoc false b c = refl

  -- the others and the atom mention what the conjunction does, and have its lines
  others_mention : (xs : List A) (k : ℕ) (a : A) (s : Slot) → k < length xs → a ≡ get_or xs k a → conj_mentions m ((take k xs ++ drop (suc k) xs) ++ a ∷ []) s ≡ true → conj_mentions m xs s ≡ true
  others_mention [] k a s lt e i = absurd (omega (arith, lt))
  others_mention (x ∷ xs) zero a s lt e i = elim (or_split (conj_mentions m xs s) (m a s || false) (sym (conj_mentions-append m xs (a ∷ []) s) ∙ i)) [
    | inl j ↦ or_right (m x s) (conj_mentions m xs s) j
    | inr j ↦ or_left (m x s) (conj_mentions m xs s) (ap (λ y. m y s) (sym e) ∙ (sym (or-false (m a s)) ∙ j))
  ]
  others_mention (x ∷ xs) (suc k) a s lt e i = elim (or_split (m x s) (conj_mentions m ((take k xs ++ drop (suc k) xs) ++ a ∷ []) s) i) [
    | inl j ↦ or_left (m x s) (conj_mentions m xs s) j
    | inr j ↦ or_right (m x s) (conj_mentions m xs s) (others_mention xs k a s (omega (arith, lt)) e j)
  ]

  others_lines : (xs : List A) (k : ℕ) (a : A) → k < length xs → a ≡ get_or xs k a → IsSubset (conj_lines l ((take k xs ++ drop (suc k) xs) ++ a ∷ [])) (conj_lines l xs)
  others_lines [] k a lt e x i = absurd (omega (arith, lt))
  others_lines (y ∷ xs) zero a lt e x i = elim (In-split x (conj_lines l xs) (l a ++ []) (subst (In x) (conj_lines-append l xs (a ∷ [])) i)) [
    | inl j ↦ In-right x (l y) (conj_lines l xs) j
    | inr j ↦ In-left x (l y) (conj_lines l xs) (subst (λ z. In x (l z)) e (elim (In-split x (l a) [] j) [ inl u ↦ u | inr u ↦ absurd u ]))
  ]
  others_lines (y ∷ xs) (suc k) a lt e x i = elim (In-split x (l y) (conj_lines l ((take k xs ++ drop (suc k) xs) ++ a ∷ [])) i) [
    | inl j ↦ In-left x (l y) (conj_lines l xs) j
    | inr j ↦ In-right x (l y) (conj_lines l xs) (others_lines xs k a (omega (arith, lt)) e x j)
  ]

  -- any other name of the atom at the index is it
  at_index : (xs : List A) (k : ℕ) (a b : A) → k < length xs → a ≡ get_or xs k a → b ≡ get_or xs k b → b ≡ a
  at_index [] k a b lt e f = absurd (omega (arith, lt))
  at_index (x ∷ xs) zero a b lt e f = f ∙ sym e
  at_index (x ∷ xs) (suc k) a b lt e f = at_index xs k a b (omega (arith, lt)) e f

  pub implied_at : (xs others : List A) (k : ℕ) (a : A) → k < length xs → a ≡ get_or xs k a → others ≡ take k xs ++ drop (suc k) xs → HoldsNowhere (λ p. conj_holds h others p && not (h a p)) → IsImplied h xs k
  implied_at xs others k a lt e f z b i =
      subst (λ y. HoldsNowhere (λ p. conj_holds h (take k xs ++ drop (suc k) xs) p && not (h y p))) (sym (at_index xs k a b lt e i))
      (subst (λ ys. HoldsNowhere (λ p. conj_holds h ys p && not (h a p))) f z)

  pub needed_at : (xs others : List A) (k : ℕ) (a : A) → k < length xs → a ≡ get_or xs k a → others ≡ take k xs ++ drop (suc k) xs → HoldsSomewhere (λ p. conj_holds h others p && not (h a p)) → IsNeeded h xs k
  needed_at xs others k a lt e f v b i = (
    v.0,
    v.1,
    ap (λ ys. conj_holds h ys v.0) (sym f) ∙ and_left (conj_holds h others v.0) (not (h a v.0)) v.2,
    ap (λ y. h y v.0) (at_index xs k a b lt e i) ∙ not-true (h a v.0) (and_right (conj_holds h others v.0) (not (h a v.0)) v.2),
  )

  pub open_at : (xs others : List A) (k : ℕ) (a : A) → k < length xs → a ≡ get_or xs k a → others ≡ take k xs ++ drop (suc k) xs → MayBeOpen D m l (others ++ a ∷ []) → MayBeOpen D m l xs
  open_at xs others k a lt e f w = (
    w.0,
    wide_more m l m l ((take k xs ++ drop (suc k) xs) ++ a ∷ []) xs (others_lines xs k a lt e) (λ s j. others_mention xs k a s lt e j) (subst (λ ys. IsWide m l (ys ++ a ∷ [])) f w.1),
  )

  -- ---- without an atom behind it

  -- what stands before it stays where it is
  before_gone : (xs : List A) (k n : ℕ) (a : A) → k < n → n < length xs → get_or (take n xs ++ drop (suc n) xs) k a ≡ get_or xs k a
  before_gone [] k n a lt within = absurd (omega (arith, within))
  before_gone (x ∷ xs) k zero a lt within = absurd (omega (arith, lt))
  before_gone (x ∷ xs) zero (suc n) a lt within = refl
  before_gone (x ∷ xs) (suc k) (suc n) a lt within = before_gone xs k n a (omega (arith, lt)) (omega (arith, within))

  -- fewer atoms hold where all do
  holds_without : (xs : List A) (n : ℕ) (p : Point) → n < length xs → conj_holds h xs p ≡ true → conj_holds h (take n xs ++ drop (suc n) xs) p ≡ true
  holds_without [] n p within e = absurd (omega (arith, within))
  holds_without (x ∷ xs) zero p within e = and_right (h x p) (conj_holds h xs p) e
  holds_without (x ∷ xs) (suc n) p within e = both (h x p) (conj_holds h (take n xs ++ drop (suc n) xs) p) (and_left (h x p) (conj_holds h xs p) e) (holds_without xs n p (omega (arith, within)) (and_right (h x p) (conj_holds h xs p) e))

  others_left : (xs : List A) (k n : ℕ) (p : Point) → k < n → n < length xs → conj_holds h (take k xs ++ drop (suc k) xs) p ≡ true → conj_holds h (take k (take n xs ++ drop (suc n) xs) ++ drop (suc k) (take n xs ++ drop (suc n) xs)) p ≡ true
  others_left [] k n p lt within e = absurd (omega (arith, within))
  others_left (x ∷ xs) zero zero p lt within e = absurd (omega (arith, lt))
  others_left (x ∷ xs) zero (suc n) p lt within e = holds_without xs n p (omega (arith, within)) e
  others_left (x ∷ xs) (suc k) zero p lt within e = absurd (omega (arith, lt))
  others_left (x ∷ xs) (suc k) (suc n) p lt within e =
      both (h x p) (conj_holds h (take k (take n xs ++ drop (suc n) xs) ++ drop (suc k) (take n xs ++ drop (suc n) xs)) p) (and_left (h x p) (conj_holds h (take k xs ++ drop (suc k) xs) p) e)
      (others_left xs k n p (omega (arith, lt)) (omega (arith, within)) (and_right (h x p) (conj_holds h (take k xs ++ drop (suc k) xs) p) e))

  -- an atom that was needed still is
  needed_without : (xs : List A) (k n : ℕ) → k < n → n < length xs → IsNeeded h xs k → IsNeeded h (take n xs ++ drop (suc n) xs) k
  needed_without xs k n lt within needed a i =
      let v = needed a (i ∙ before_gone xs k n a lt within) in
      (v.0, v.1, others_left xs k n v.0 lt within v.2, v.3)

  -- ---- atom after atom

  -- what is left while atoms are tried; those before the index are needed where none was removed, and in any case where nothing
  -- was left open
  pub record Sifting (normal : A → Type 0) (before : Bool) (old left : List A) (index : ℕ) (removed unsure : Bool) : Type 0 where
    pub kept : IsSublist left old
    pub holds : (p : Point) → IsPoint p → conj_holds h left p ≡ conj_holds h old p
    pub all_normal : AllByRecursion normal left
    pub shorter : removed ≡ true → length left < length old
    pub same : removed ≡ false → left ≡ old
    pub since : unsure ≡ false → before ≡ false
    pub needed : removed ≡ false → (MayBeOpen D m l left → ⊥) → (k : ℕ) → k < index → IsNeeded h left k
    pub sure : unsure ≡ false → (k : ℕ) → k < index → IsNeeded h left k

  pub sifting_none : (normal : A → Type 0) (before : Bool) (old : List A) → AllByRecursion normal old → Sifting normal before old old 0 false before
  sifting_none normal before old n = record {
    kept = sublist_refl _ old;
    holds = λ p i. refl;
    all_normal = n;
    shorter = λ e. absurd (true≢false (sym e));
    same = λ e. refl;
    since = λ e. e;
    needed = λ e w k lt. absurd (omega (arith, lt));
    sure = λ e k lt. absurd (omega (arith, lt));
  }

  pub sifting_removed : (normal : A → Type 0) (before : Bool) (old left new : List A) (index : ℕ) (removed unsure : Bool) (d : A) → index < length left → d ≡ get_or left index d → new ≡ take index left ++ drop (suc index) left → IsImplied h left index
      → Sifting normal before old left index removed unsure → Sifting normal before old new index true unsure
  sifting_removed normal before old left new index removed unsure d lt at e z s = subst (λ xs. Sifting normal before old xs index true unsure) (sym e) (record {
    kept = sublist_trans _ (take index left ++ drop (suc index) left) left old (sublist_without left index lt) s.kept;
    holds = λ p i. implied (conj_holds h (take index left ++ drop (suc index) left) p) (h d p) (z d at p i) ∙ sym (others_hold left index d p lt at) ∙ s.holds p i;
    all_normal = sublist_all _ normal (take index left ++ drop (suc index) left) left (sublist_without left index lt) s.all_normal;
    shorter = λ _. shorter removed refl;
    same = λ f. absurd (true≢false f);
    since = s.since;
    needed = λ f. absurd (true≢false f);
    sure = λ f k below. needed_without left k index below lt (s.sure f k below);
  })
    where
      shorter : (b : Bool) → removed ≡ b → length (take index left ++ drop (suc index) left) < length old
      shorter true f = let r = length_without left index lt in let t = s.shorter f in omega (arith, r, t)
      shorter false f = subst (λ xs. length (take index left ++ drop (suc index) left) < length xs) (s.same f) (length_without left index lt)

  pub sifting_kept : (normal : A → Type 0) (before : Bool) (old left : List A) (index : ℕ) (removed unsure : Bool) → IsNeeded h left index → Sifting normal before old left index removed unsure → Sifting normal before old left (index + 1) removed unsure
  sifting_kept normal before old left index removed unsure z s = record {
    kept = s.kept;
    holds = s.holds;
    all_normal = s.all_normal;
    shorter = s.shorter;
    same = s.same;
    since = s.since;
    needed = λ f w. below_more (IsNeeded h left) index (s.needed f w) z;
    sure = λ f. below_more (IsNeeded h left) index (s.sure f) z;
  }

  pub sifting_open : (normal : A → Type 0) (before : Bool) (old left : List A) (index : ℕ) (removed unsure : Bool) → MayBeOpen D m l left → Sifting normal before old left index removed unsure → Sifting normal before old left (index + 1) removed true
  sifting_open normal before old left index removed unsure o s = record {
    kept = s.kept;
    holds = s.holds;
    all_normal = s.all_normal;
    shorter = s.shorter;
    same = s.same;
    since = λ f. absurd (true≢false f);
    needed = λ f w. absurd (w o);
    sure = λ f. absurd (true≢false f);
  }

  pub sifting_all : (normal : A → Type 0) (before : Bool) (old left : List A) (index : ℕ) (removed unsure : Bool) → length left ≤ index → Sifting normal before old left index removed unsure → IsSifted D h m l normal before old left (removed && unsure)
  sifting_all normal before old left index true unsure le s = record {
    kept = s.kept;
    holds = s.holds;
    all_normal = s.all_normal;
    shorter = λ e. s.shorter refl;
    settled = λ e. inr (s.since e);
    needed = λ e w k lt. s.sure e k (omega (arith, lt, le));
  }
  sifting_all normal before old left index false unsure le s = record {
    kept = s.kept;
    holds = s.holds;
    all_normal = s.all_normal;
    shorter = λ e. absurd (true≢false (sym e));
    settled = λ e. inl (s.same refl);
    needed = λ e w k lt. s.needed refl w k (omega (arith, lt, le));
  }

  -- ---- pass after pass

  pub record Reducing (normal : A → Type 0) (conj left : List A) : Type 0 where
    pub kept : IsSublist left conj
    pub holds : (p : Point) → IsPoint p → conj_holds h left p ≡ conj_holds h conj p
    pub all_normal : AllByRecursion normal left

  pub reducing_none : (normal : A → Type 0) (conj left : List A) → left ≡ conj → AllByRecursion normal conj → Reducing normal conj left
  reducing_none normal conj left e n = subst (Reducing normal conj) (sym e) (record { kept = sublist_refl _ conj; holds = λ p i. refl; all_normal = n })

  pub reducing_more : (normal : A → Type 0) (conj left new : List A) (unsure again : Bool) → Reducing normal conj left → IsSifted D h m l normal unsure left new again → Reducing normal conj new
  reducing_more normal conj left new unsure again r s = record { kept = sublist_trans _ new left conj s.kept r.kept; holds = λ p i. s.holds p i ∙ r.holds p i; all_normal = s.all_normal }

  -- each atom is needed, and they hold somewhere
  pub reduced_is : (normal : A → Type 0) (copy left new : List A) (v : Verdict) (unsure again : Bool) → copy ≡ left → (v ≡ Inhabited) ⊎ ((v ≡ Unknown) × (unsure ≡ true)) → IsVerdict h m l copy v → (D → v ≡ Unknown → ⊥) → again ≡ false → IsSifted D h m l normal unsure left new again
      → (MayBeOpen D m l new → ⊥) → IsReduced h new
  reduced_is normal copy left new v unsure again e f k d g s n = record {
    inhabited = somewhere f (s.settled g) (subst (λ xs. IsVerdict h m l xs v) e k);
    needed = λ before a after i.
        let lt : length before < length new = subst (λ xs. length before < length xs) (sym i) (parted_length before a after) in
        let w = s.needed g n (length before) lt a (subst (λ xs. a ≡ get_or xs (length before) a) (sym i) (parted_at before a after)) in
        (w.0, w.1, ap (λ xs. conj_holds h xs w.0) (sym (ap (λ xs. take (length before) xs ++ drop (suc (length before)) xs) i ∙ parted_others before a after)) ∙ w.2, w.3);
  }
    where
      somewhere : (v ≡ Inhabited) ⊎ ((v ≡ Unknown) × (unsure ≡ true)) → (new ≡ left) ⊎ (unsure ≡ false) → IsVerdict h m l left v → HoldsSomewhere (conj_holds h new)
      somewhere (inl i) t k = let w = subst (IsVerdict h m l left) i k in (w.0, w.1, s.holds w.0 w.1 ∙ w.2)
      somewhere (inr u) (inl same) k = absurd (n ((λ x. d x u.0), subst (IsWide m l) (sym same) (subst (IsVerdict h m l left) u.0 k)))
      somewhere (inr u) (inr not) k = absurd (true≢false (sym u.1 ∙ not))
