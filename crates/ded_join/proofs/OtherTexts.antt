-- Pairs of conjunctions that fix a slot to different texts hold nowhere, so they may be left out.
--
-- Each place of the list is one of the conjunction's own text, one without a text, or one of another text. Going up through the
-- places, one that isn't visited is of another text.
use Rattle.std.proofs.Common.{◌≡◌, ℕ, zero, suc, ◌+◌, ◌<◌, ◌≤◌, Bool, true, false, ◌&&◌, cond, List, [], ◌∷◌, ◌++◌, length, get_or, ◌⊎◌, inl, inr, arith, refl, sym, ap, ◌∙◌, subst, true≢false}
use Rattle.std.specs.Prelude.{map, filter, nat_eq}
use Rattle.std.specs.List.{AllByRecursion, AllPairs, Contains}
use Rattle.std.specs.List.Sorted.{IsPermutation, IsNonDecreasingBy}
use Rattle.std.proofs.lemmas.Bool.{cases_eq, false_from_ne_true}
use Rattle.std.proofs.lemmas.Cmp.{nat_list_cmp_total}
use Rattle.std.proofs.lemmas.List.{map_push}
use Rattle.std.proofs.lemmas.List.Elements.{All-contains, All-from_recursion, recursion_from_All, Contains-append_left, Contains-append_right, Contains-get_or, Contains-push}
use Rattle.std.proofs.lemmas.List.Kept.{AllPairs-from_increasing}
use Rattle.std.proofs.lemmas.List.Sorted.{All-permutation, Contains-permutation, IsPermutation-map, searchable_from_sorted}
use Rattle.ded_model.specs.declared.slot.Slot.{Slot}
use Rattle.ded_model.specs.Point.{Point}
use Rattle.ded_model.specs.Cell.{conj_holds, HoldsSomewhere, HoldsNowhere}
use Rattle.ded_model.specs.Lines.{Line}
use Rattle.ded_model.proofs.Points.{and_left, and_right}
use Rattle.ded_theory.specs.Conjunctions.{IsWide}
use Rattle.ded_theory.proofs.Conjunctions.{conj_holds-append}
use Rattle.ded_genrel.specs.Lists.{pairs_with}
use Rattle.ded_genrel.proofs.Items.{all-append, all-push, all_weaker}
use Rattle.ded_complement.specs.Keys.{rank, IsFixedBy, AreInOrder}
use Rattle.ded_complement.specs.Pieces.{IsAmong}
use Rattle.ded_complement.proofs.SameText.{rank_self, piece_text}
use Rattle.ded_join.specs.declared.near.Taken.TheVariants.{Inhabited}
use Rattle.ded_join.specs.declared.texts.TextPlace.{TextPlace}
use Rattle.ded_join.specs.declared.texts.Texts.{Texts}
use Rattle.ded_join.specs.Kept.{AreKept}
use Rattle.ded_join.specs.Picks.{picked}
use Rattle.ded_join.specs.Taken.{AreTakenAfter}
use Rattle.ded_join.specs.Texts.{HasText, IsPlaced, AreSorted, AreTexts, places_with}
use Rattle.ded_join.proofs.Kept.{ascending_tail, ascending_head}

-- how its text compares with the text, and whether it is of it
abbrev pub rank_of : List ℕ → TextPlace → ℕ
rank_of t e = rank e.text.now t

abbrev pub is_of : List ℕ → TextPlace → Bool
is_of t e = nat_eq (rank_of t e) 1

-- the places
abbrev pub places_in : List TextPlace → List ℕ
places_in es = map (λ e. e.place) es

pub by_rank : (t : List ℕ) (es : List TextPlace) → AreSorted es → IsNonDecreasingBy (rank_of t) es
by_rank t es s = searchable_from_sorted nat_list_cmp_total (λ (e : TextPlace). e.text.now) es t s

-- ---- the texts of a list

module _ {A : Type 0} (h : A → Point → Bool) (s : Slot) (cs : List (List A)) where
  -- each of the first places is one with a text or one of the others
  pub record SoFar (i : ℕ) (es : List TextPlace) (os : List ℕ) : Type 0 where
    pub placed : AllByRecursion (IsPlaced h s cs) es
    pub others : AllByRecursion (λ j. j < length cs) os
    pub all : (j : ℕ) → j < i → Contains (places_in es) j ⊎ Contains os j

  pub so_far_none : (es : List TextPlace) (os : List ℕ) → es ≡ [] → os ≡ [] → SoFar 0 es os
  so_far_none es os e f = record { placed = subst (AllByRecursion (IsPlaced h s cs)) (sym e) tt; others = subst (AllByRecursion (λ j. j < length cs)) (sym f) tt; all = λ j lt. absurd (omega (arith, lt)) }

  -- a place whose conjunction has an atom that fixes the slot
  pub placed_at : (i : ℕ) (e : TextPlace) (c : List A) (a : A) → i < length cs → e.place ≡ i → c ≡ get_or cs i [] → IsAmong c a → IsFixedBy h s a e.text.now → IsPlaced h s cs e
  placed_at i e c a lt g q w f = record {
    inside = subst (λ n. n < length cs) (sym g) lt;
    text = λ p v b. piece_text h [] s c a e.text.now w f p v (subst (λ d. conj_holds h d p ≡ true) (sym q) (subst (λ n. conj_holds h (get_or cs n []) p ≡ true) g b));
  }

  -- one more that fixes the slot
  pub so_far_placed : (i : ℕ) (es fs : List TextPlace) (os : List ℕ) (e : TextPlace) → fs ≡ es ++ e ∷ [] → e.place ≡ i → IsPlaced h s cs e → SoFar i es os → SoFar (i + 1) fs os
  so_far_placed i es fs os e f g w x =
      let more : places_in fs ≡ places_in es ++ e.place ∷ [] = ap places_in f ∙ map_push (λ (z : TextPlace). z.place) es e in record {
        placed = subst (AllByRecursion (IsPlaced h s cs)) (sym f) (all-push (IsPlaced h s cs) es e x.placed w);
        others = x.others;
        all = λ j lt. elim (cases_eq j i) [
          | inl same ↦ inl (subst (λ js. Contains js j) (sym more) (subst (Contains (places_in es ++ e.place ∷ [])) (g ∙ sym same) (Contains-push (places_in es) e.place)))
          | inr other ↦ elim (x.all j (omega (arith, lt, other))) [
            | inl c ↦ inl (subst (λ js. Contains js j) (sym more) (Contains-append_left (places_in es) (e.place ∷ []) j c))
            | inr c ↦ inr c
          ]
        ];
      }

  -- one more that isn't seen to fix it
  pub so_far_other : (i : ℕ) (es : List TextPlace) (os ns : List ℕ) (j : ℕ) → ns ≡ os ++ j ∷ [] → j ≡ i → i < length cs → SoFar i es os → SoFar (i + 1) es ns
  so_far_other i es os ns k f g w x = record {
    placed = x.placed;
    others = subst (AllByRecursion (λ j. j < length cs)) (sym f) (all-push (λ j. j < length cs) os k x.others (subst (λ n. n < length cs) (sym g) w));
    all = λ j lt. elim (cases_eq j i) [
      | inl same ↦ inr (subst (λ js. Contains js j) (sym f) (subst (Contains (os ++ k ∷ [])) (g ∙ sym same) (Contains-push os k)))
      | inr other ↦ elim (x.all j (omega (arith, lt, other))) [
        | inl c ↦ inl c
        | inr c ↦ inr (subst (λ js. Contains js j) (sym f) (Contains-append_left os (k ∷ []) j c))
      ]
    ];
  }

-- in the order of the texts they are the list's
pub texts_are : {A : Type 0} (h : A → Point → Bool) (cs : List (List A)) (es : List TextPlace) (k : Texts) → SoFar h k.slot cs (length cs) es k.others.items → IsPermutation es k.placed.items → AreSorted k.placed.items → AreTexts h cs k
texts_are h cs es k x p s = record {
  placed = recursion_from_All (IsPlaced h k.slot cs) k.placed.items (All-permutation (IsPlaced h k.slot cs) es k.placed.items p (All-from_recursion (IsPlaced h k.slot cs) es x.placed));
  others = x.others;
  all = λ j lt. elim (x.all j lt) [
    | inl c ↦ inl (Contains-permutation (places_in es) (places_in k.placed.items) j (IsPermutation-map (λ (e : TextPlace). e.place) es k.placed.items p) c)
    | inr c ↦ inr c
  ];
  sorted = s;
}

-- ---- places that aren't visited

module _ {A : Type 0} (h : A → Point → Bool) (m : A → Slot → Bool) (l : A → List Line) (c : List A) (cs : List (List A)) where
  -- the conjunction holds nowhere together with the one at the place
  abbrev IsApart : ℕ → Type 0
  IsApart j = HoldsNowhere (conj_holds h (c ++ get_or cs j []))

  -- the places are those, from one on, of the rest of the list that aren't apart
  record AreLeftFrom (k : ℕ) (rest : List (List A)) (js : List ℕ) : Type 0 where
    from : (j : ℕ) → get_or cs (k + j) [] ≡ get_or rest j []
    ascending : AllPairs (λ a b. a < b) js
    above : AllByRecursion (λ j. k ≤ j) js
    below : AllByRecursion (λ j. j < k + length rest) js
    each : (j : ℕ) → k ≤ j → j < k + length rest → Contains js j ⊎ IsApart j

  first_is : (k : ℕ) (d : List A) (rest : List (List A)) (js : List ℕ) → AreLeftFrom k (d ∷ rest) js → get_or cs k [] ≡ d
  first_is k d rest js x = ap (λ n. get_or cs n []) (none k) ∙ x.from zero
    where
      none : (k : ℕ) → k ≡ k + 0
      none k = omega arith

  from_next : (k : ℕ) (d : List A) (rest : List (List A)) → ((j : ℕ) → get_or cs (k + j) [] ≡ get_or (d ∷ rest) j []) → (j : ℕ) → get_or cs (k + 1 + j) [] ≡ get_or rest j []
  from_next k d rest f j = ap (λ n. get_or cs n []) (next k j) ∙ f (suc j)
    where
      next : (k j : ℕ) → k + 1 + j ≡ k + suc j
      next k j = omega arith

  below_next : (k n : ℕ) (js : List ℕ) → AllByRecursion (λ j. j < k + suc n) js → AllByRecursion (λ j. j < k + 1 + n) js
  below_next k n js b = all_weaker (λ j. j < k + suc n) (λ j. j < k + 1 + n) js (λ j lt. omega (arith, lt)) b

  above_next : (k j : ℕ) (js : List ℕ) → k ≤ j → AllByRecursion (λ b. j < b) js → AllByRecursion (λ b. k + 1 ≤ b) js
  above_next k j js le a = all_weaker (λ b. j < b) (λ b. k + 1 ≤ b) js (λ b lt. omega (arith, le, lt)) a

  -- the first place is visited
  visited_next : (k : ℕ) (d : List A) (rest : List (List A)) (j : ℕ) (js : List ℕ) → j ≡ k → AreLeftFrom k (d ∷ rest) (j ∷ js) → AreLeftFrom (k + 1) rest js
  visited_next k d rest j js e x = record {
    from = from_next k d rest x.from;
    ascending = ascending_tail j js x.ascending;
    above = above_next k j js x.above.0 (ascending_head j js x.ascending);
    below = below_next k (length rest) js x.below.1;
    each = λ i le lt. elim (x.each i (omega (arith, le)) (omega (arith, lt))) [ inl y ↦ inl (behind i le y) | inr n ↦ inr n ];
  }
    where
      behind : (i : ℕ) → k + 1 ≤ i → Contains (j ∷ js) i → Contains js i
      behind i le (zero, lt, same) = absurd (omega (arith, le, same, e))
      behind i le (suc n, lt, same) = (n, omega (arith, lt), same)

  -- it isn't
  passed_next : (k : ℕ) (d : List A) (rest : List (List A)) (js : List ℕ) → AllByRecursion (λ j. k + 1 ≤ j) js → AreLeftFrom k (d ∷ rest) js → AreLeftFrom (k + 1) rest js
  passed_next k d rest js a x = record {
    from = from_next k d rest x.from;
    ascending = x.ascending;
    above = a;
    below = below_next k (length rest) js x.below;
    each = λ i le lt. x.each i (omega (arith, le)) (omega (arith, lt));
  }

  passed_apart : (k : ℕ) (d : List A) (rest : List (List A)) (js : List ℕ) → AllByRecursion (λ j. k + 1 ≤ j) js → AreLeftFrom k (d ∷ rest) js → HoldsNowhere (conj_holds h (c ++ d))
  passed_apart k d rest js a x = subst (λ y. HoldsNowhere (conj_holds h (c ++ y))) (first_is k d rest js x) (elim (x.each k (omega arith) (omega arith)) [
    | inl y ↦ absurd (past (All-contains (λ j. k + 1 ≤ j) js k (All-from_recursion (λ j. k + 1 ≤ j) js a) y))
    | inr n ↦ n
  ])
    where
      past : k + 1 ≤ k → ⊥
      past le = omega (arith, le)

  -- what is kept of a list with the first conjunction
  kept_first : (x y : List A) (xs ys out : List (List A)) → x ≡ y → ((o : List (List A)) → AreKept h m l xs o → AreKept h m l ys o) → AreKept h m l (x ∷ xs) out → AreKept h m l (y ∷ ys) out
  kept_first x y xs ys out e f (inl (n, r)) = inl (subst (λ z. HoldsNowhere (conj_holds h z)) e n, f out r)
  kept_first x y xs ys out e f (inr (rest, q, w, r)) = inr (rest, q ∙ ap (λ z. z ∷ rest) e, subst (λ z. (IsWide m l z → ⊥) → HoldsSomewhere (conj_holds h z)) e w, f rest r)

  left_kept : (k : ℕ) (rest : List (List A)) (js : List ℕ) (out : List (List A)) → AreLeftFrom k rest js → AreKept h m l (picked c cs js) out → AreKept h m l (pairs_with c rest) out
  left_kept k [] [] out x e = e
  left_kept k [] (j ∷ js) out x e = absurd (no_place j x.above.0 x.below.0)
    where
      no_place : (j : ℕ) → k ≤ j → j < k + 0 → ⊥
      no_place j le lt = omega (arith, le, lt)
  left_kept k (d ∷ rest) [] out x e = inl (passed_apart k d rest [] tt x, left_kept (k + 1) rest [] out (passed_next k d rest [] tt x) e)
  left_kept k (d ∷ rest) (j ∷ js) out x e = elim (cases_eq j k) [
    | inl same ↦ kept_first (c ++ get_or cs j []) (c ++ d) (picked c cs js) (pairs_with c rest) out (ap (λ z. c ++ z) (ap (λ n. get_or cs n []) same ∙ first_is k d rest (j ∷ js) x))
        (λ o r. left_kept (k + 1) rest js o (visited_next k d rest j js same x) r) e
    | inr other ↦ (let le = x.above.0 in
        let above : AllByRecursion (λ b. k + 1 ≤ b) (j ∷ js) = (omega (arith, le, other), above_next k j js le (ascending_head j js x.ascending)) in
        inl (passed_apart k d rest (j ∷ js) above x, left_kept (k + 1) rest (j ∷ js) out (passed_next k d rest (j ∷ js) above x) e))
  ]

  -- ---- with the places of a text

  module _ (k : Texts) (are : AreTexts h cs k) (t : List ℕ) (own : HasText h k.slot c t) where
    other_apart : (d : List A) (u : List ℕ) → HasText h k.slot d u → nat_eq (rank u t) 1 ≡ false → HoldsNowhere (conj_holds h (c ++ d))
    other_apart d u w f p i = false_from_ne_true (conj_holds h (c ++ d) p) (λ b.
        let both : (conj_holds h c p && conj_holds h d p) ≡ true = sym (conj_holds-append h c d p) ∙ b in
        let first = own p i (and_left (conj_holds h c p) (conj_holds h d p) both) in
        let second = w p i (and_right (conj_holds h c p) (conj_holds h d p) both) in
        true≢false (sym (ap (λ x. nat_eq x 1) (ap (λ v. rank v t) (sym second ∙ first) ∙ rank_self t)) ∙ f))

    -- a place with a text is of the text, or its conjunction is apart
    of_or_apart : (es : List TextPlace) (j : ℕ) → AllByRecursion (IsPlaced h k.slot cs) es → Contains (places_in es) j → Contains (places_in (filter (is_of t) es)) j ⊎ IsApart j
    of_or_apart [] j p x = absurd (omega (arith, x.1))
    of_or_apart (e ∷ es) j p (zero, lt, x) = by (is_of t e) refl
      where
        by : (b : Bool) → is_of t e ≡ b → Contains (places_in (cond b (e ∷ filter (is_of t) es) (filter (is_of t) es))) j ⊎ IsApart j
        by true f = inl (zero, omega arith, x)
        by false f = inr (subst IsApart x (other_apart (get_or cs e.place []) e.text.now p.0.text f))
    of_or_apart (e ∷ es) j p (suc n, lt, x) = by (is_of t e) (of_or_apart es j p.1 (n, omega (arith, lt), x))
      where
        by : (b : Bool) → Contains (places_in (filter (is_of t) es)) j ⊎ IsApart j → Contains (places_in (cond b (e ∷ filter (is_of t) es) (filter (is_of t) es))) j ⊎ IsApart j
        by true (inl y) = inl (suc y.0, omega (arith, y.1), y.2)
        by true (inr a) = inr a
        by false r = r

    -- the places of the text are places of the list
    of_inside : (es : List TextPlace) → AllByRecursion (IsPlaced h k.slot cs) es → AllByRecursion (λ j. j < length cs) (places_in (filter (is_of t) es))
    of_inside [] p = tt
    of_inside (e ∷ es) p = by (is_of t e) (of_inside es p.1)
      where
        by : (b : Bool) → AllByRecursion (λ j. j < length cs) (places_in (filter (is_of t) es)) → AllByRecursion (λ j. j < length cs) (places_in (cond b (e ∷ filter (is_of t) es) (filter (is_of t) es)))
        by true r = (p.0.inside, r)
        by false r = r

    module _ (js : List ℕ) (visited : AreInOrder (places_with t k) js) where
      pub text_places : AllByRecursion (λ j. j < length cs) js
      text_places = recursion_from_All (λ j. j < length cs) js (λ i d lt. All-contains (λ j. j < length cs) (places_with t k) (get_or js i d)
          (All-from_recursion (λ j. j < length cs) (places_with t k) (all-append (λ j. j < length cs) (places_in (filter (is_of t) k.placed.items)) k.others.items (of_inside k.placed.items are.placed) are.others))
          (visited.taken (get_or js i d) (Contains-get_or js i d lt)))

      text_each : (j : ℕ) → j < length cs → Contains js j ⊎ IsApart j
      text_each j lt = elim (are.all j lt) [
        | inl x ↦ elim (of_or_apart k.placed.items j are.placed x) [
          | inl y ↦ inl (visited.given j (Contains-append_left (places_in (filter (is_of t) k.placed.items)) k.others.items j y))
          | inr a ↦ inr a
        ]
        | inr x ↦ inl (visited.given j (Contains-append_right (places_in (filter (is_of t) k.placed.items)) k.others.items j x))
      ]

      text_left : AreLeftFrom 0 cs js
      text_left = record {
        from = λ j. ap (λ n. get_or cs n []) (none j);
        ascending = AllPairs-from_increasing js visited.ascending;
        above = all_weaker (λ j. j < length cs) (λ j. 0 ≤ j) js (λ j lt. omega arith) text_places;
        below = subst (λ n. AllByRecursion (λ j. j < n) js) (sym (none (length cs))) text_places;
        each = λ j le lt. text_each j (subst (λ n. j < n) (none (length cs)) lt);
      }
        where
          none : (j : ℕ) → 0 + j ≡ j
          none j = omega arith

      -- what is kept of the pairs at the places of the text is kept of all pairs
      pub text_taken : (old new : List (List A)) → AreTakenAfter Inhabited h m l (picked c cs js) old new → AreTakenAfter Inhabited h m l (pairs_with c cs) old new
      text_taken old new r = record { added = r.added; are = left_kept 0 cs js r.added text_left r.are; list = r.list }
