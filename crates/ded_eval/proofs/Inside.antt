-- Lists without conjunctions that hold nowhere inside of a window, one conjunction after another.
use Rattle.std.proofs.Common.{◌≡◌, Bool, true, ◌||◌, List, [], ◌∷◌, ◌++◌, ◌⊎◌, ⊎_elim, inl, inr, sym, ◌∙◌, subst, true≢false}
use Rattle.std.proofs.Math.Bool.{or-false}
use Rattle.std.proofs.lemmas.Bool.{and_from, and_parts}
use Rattle.ded_model.specs.declared.slot.Slot.{Slot}
use Rattle.ded_model.specs.Cell.{conj_holds, HoldsNowhere}
use Rattle.ded_model.specs.Point.{Point}
use Rattle.ded_model.specs.Lines.{Line, In, IsSubset}
use Rattle.ded_model.proofs.Members.{subset_append, subset_none, In-left, In-right, In-split, or_split}
use Rattle.ded_model.proofs.Rows.{or_left, or_right}
use Rattle.ded_theory.proofs.Conjunctions.{conj_holds-append}
use Rattle.ded_genrel.specs.Lists.{conjs_hold, conjs_mention, conjs_lines}
use Rattle.ded_genrel.specs.Operations.{IsMeet}
use Rattle.ded_genrel.proofs.Laws.{conjs_hold-append, conjs_mention-append, conjs_lines-append}
use Rattle.ded_eval.specs.Inside.{IsInsidePart, IsMeetInside}

module _ {A : Type 0} (h : A → Point → Bool) (m : A → Slot → Bool) (l : A → List Line) where
  module _ (inside : Point → Bool) where
    pub inside_none : IsInsidePart h m l inside [] []
    inside_none = record { within = λ p i x. x; holds = λ p i w x. x; slots = λ s u. u; lines = λ x i. i }

    -- one conjunction more, which is kept
    pub inside_kept : (conjs out : List (List A)) (c : List A) → IsInsidePart h m l inside conjs out → IsInsidePart h m l inside (conjs ++ c ∷ []) (out ++ c ∷ [])
    inside_kept conjs out c r = record {
      within = λ p i x. conjs_hold-append h conjs (c ∷ []) p ∙ ⊎_elim (λ (a : conjs_hold h out p ≡ true). or_left _ _ (r.within p i a)) (λ b. or_right (conjs_hold h conjs p) _ b) (or_split _ _ (sym (conjs_hold-append h out (c ∷ []) p) ∙ x));
      holds = λ p i w x. conjs_hold-append h out (c ∷ []) p ∙ ⊎_elim (λ (a : conjs_hold h conjs p ≡ true). or_left _ _ (r.holds p i w a)) (λ b. or_right (conjs_hold h out p) _ b) (or_split _ _ (sym (conjs_hold-append h conjs (c ∷ []) p) ∙ x));
      slots = λ s u. conjs_mention-append m conjs (c ∷ []) s ∙ ⊎_elim (λ (a : conjs_mention m out s ≡ true). or_left _ _ (r.slots s a)) (λ b. or_right (conjs_mention m conjs s) _ b) (or_split _ _ (sym (conjs_mention-append m out (c ∷ []) s) ∙ u));
      lines = subst (λ ls. IsSubset ls (conjs_lines l (conjs ++ c ∷ []))) (sym (conjs_lines-append l out (c ∷ [])))
          (subst (IsSubset (conjs_lines l out ++ conjs_lines l (c ∷ []))) (sym (conjs_lines-append l conjs (c ∷ [])))
          (subset_append (conjs_lines l out) (conjs_lines l (c ∷ [])) (conjs_lines l conjs) (conjs_lines l (c ∷ [])) r.lines (λ x i. i)));
    }

    -- ---- meets

    pub meet_inside : (xs ys out : List (List A)) → IsMeet h m l xs ys out → IsMeetInside h m l inside xs ys out
    meet_inside xs ys out o = record {
      within = λ p i x. and_parts _ _ (sym (o.holds p i) ∙ x);
      holds = λ p i w a b. o.holds p i ∙ and_from _ _ a b;
      slots = o.slots;
      lines = o.lines;
    }

    pub meet_inside_none : (ys : List (List A)) → IsMeetInside h m l inside [] ys []
    meet_inside_none ys = record { within = λ p i x. absurd (true≢false (sym x)); holds = λ p i w a b. a; slots = λ s u. absurd (true≢false (sym u)); lines = subset_none _ }

    -- some conjunctions more, of whose meet a part is kept
    pub meet_inside_more : (xs more ys pairs out kept : List (List A)) → IsMeetInside h m l inside xs ys out → IsMeet h m l more ys pairs → IsInsidePart h m l inside pairs kept → IsMeetInside h m l inside (xs ++ more) ys (out ++ kept)
    meet_inside_more xs more ys pairs out kept r o k = record {
      within = λ p i x. ⊎_elim
          (λ (a : conjs_hold h out p ≡ true). (let b = r.within p i a in (conjs_hold-append h xs more p ∙ or_left _ _ b.0, b.1)))
          (λ a. (let b = and_parts _ _ (sym (o.holds p i) ∙ k.within p i a) in (conjs_hold-append h xs more p ∙ or_right (conjs_hold h xs p) _ b.0, b.1)))
          (or_split _ _ (sym (conjs_hold-append h out kept p) ∙ x));
      holds = λ p i w a b. conjs_hold-append h out kept p ∙ ⊎_elim
          (λ (x : conjs_hold h xs p ≡ true). or_left _ _ (r.holds p i w x b))
          (λ x. or_right (conjs_hold h out p) _ (k.holds p i w (o.holds p i ∙ and_from _ _ x b)))
          (or_split _ _ (sym (conjs_hold-append h xs more p) ∙ a));
      slots = λ s u. ⊎_elim (λ (x : conjs_mention m out s ≡ true). first s (r.slots s x)) (λ x. second s (o.slots s (k.slots s x))) (or_split _ _ (sym (conjs_mention-append m out kept s) ∙ u));
      lines = λ x i. ⊎_elim
          (λ j. left x (In-split x (conjs_lines l xs) (conjs_lines l ys) (r.lines x j)))
          (λ j. right x (In-split x (conjs_lines l more) (conjs_lines l ys) (o.lines x (k.lines x j))))
          (In-split x (conjs_lines l out) (conjs_lines l kept) (subst (In x) (conjs_lines-append l out kept) i));
    }
      where
        some : (s : Slot) → Bool
        some s = conjs_mention m (xs ++ more) s || conjs_mention m ys s

        first : (s : Slot) → (conjs_mention m xs s || conjs_mention m ys s) ≡ true → some s ≡ true
        first s e = ⊎_elim (λ (x : conjs_mention m xs s ≡ true). or_left _ _ (conjs_mention-append m xs more s ∙ or_left _ _ x)) (λ x. or_right (conjs_mention m (xs ++ more) s) _ x) (or_split _ _ e)

        second : (s : Slot) → (conjs_mention m more s || conjs_mention m ys s) ≡ true → some s ≡ true
        second s e = ⊎_elim (λ (x : conjs_mention m more s ≡ true). or_left _ _ (conjs_mention-append m xs more s ∙ or_right (conjs_mention m xs s) _ x)) (λ x. or_right (conjs_mention m (xs ++ more) s) _ x) (or_split _ _ e)

        left : (x : Line) → In x (conjs_lines l xs) ⊎ In x (conjs_lines l ys) → In x (conjs_lines l (xs ++ more) ++ conjs_lines l ys)
        left x (inl j) = In-left x (conjs_lines l (xs ++ more)) _ (subst (In x) (sym (conjs_lines-append l xs more)) (In-left x (conjs_lines l xs) (conjs_lines l more) j))
        left x (inr j) = In-right x (conjs_lines l (xs ++ more)) (conjs_lines l ys) j

        right : (x : Line) → In x (conjs_lines l more) ⊎ In x (conjs_lines l ys) → In x (conjs_lines l (xs ++ more) ++ conjs_lines l ys)
        right x (inl j) = In-left x (conjs_lines l (xs ++ more)) _ (subst (In x) (sym (conjs_lines-append l xs more)) (In-right x (conjs_lines l xs) (conjs_lines l more) j))
        right x (inr j) = In-right x (conjs_lines l (xs ++ more)) (conjs_lines l ys) j

  -- one conjunction more, which holds nowhere inside
  pub inside_dropped : (atoms : List A) (conjs out : List (List A)) (c : List A) → HoldsNowhere (conj_holds h (c ++ atoms)) → IsInsidePart h m l (conj_holds h atoms) conjs out → IsInsidePart h m l (conj_holds h atoms) (conjs ++ c ∷ []) out
  inside_dropped atoms conjs out c n r = record {
    within = λ p i x. conjs_hold-append h conjs (c ∷ []) p ∙ or_left _ _ (r.within p i x);
    holds = λ p i w x. ⊎_elim
        (λ (a : conjs_hold h conjs p ≡ true). r.holds p i w a)
        (λ b. absurd (true≢false (sym (conj_holds-append h c atoms p ∙ and_from _ _ (sym (or-false (conj_holds h c p)) ∙ b) w) ∙ n p i)))
        (or_split _ _ (sym (conjs_hold-append h conjs (c ∷ []) p) ∙ x));
    slots = λ s u. conjs_mention-append m conjs (c ∷ []) s ∙ or_left _ _ (r.slots s u);
    lines = subst (IsSubset (conjs_lines l out)) (sym (conjs_lines-append l conjs (c ∷ []))) (λ x i. In-left x (conjs_lines l conjs) (conjs_lines l (c ∷ [])) (r.lines x i));
  }
