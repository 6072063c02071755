-- The projection of a list, one conjunction after another.
use Rattle.std.proofs.Common.{◌≡◌, Bool, ◌||◌, List, [], ◌∷◌, ◌++◌, Vec, Global, ◌⊎◌, inl, inr, sym, ap, ◌∙◌, subst, true≢false}
use Rattle.std.specs.List.{AllByRecursion}
use Rattle.ded_model.specs.declared.slot.Slot.{Slot}
use Rattle.ded_model.specs.Point.{Point}
use Rattle.ded_model.specs.Cell.{conj_holds}
use Rattle.ded_model.specs.Lines.{Line, In, IsSubset, elim_at}
use Rattle.ded_model.proofs.Rows.{or_left, or_right}
use Rattle.ded_model.proofs.Members.{In-left, In-right, In-split, or_split}
use Rattle.ded_theory.specs.declared.answers.Eliminated.{Eliminated}
use Rattle.ded_theory.specs.declared.answers.Eliminated.TheVariants.{Never, Conj}
use Rattle.ded_theory.specs.Conjunctions.{conj_mentions, conj_lines}
use Rattle.ded_theory.specs.Eliminations.{SomeExtension, IsElimination}
use Rattle.ded_genrel.specs.Lists.{conjs_hold, conjs_mention, conjs_lines, conjs_elim, SomeConj}
use Rattle.ded_genrel.specs.Operations.{IsProjection}
use Rattle.ded_genrel.proofs.Items.{all-push, all_weaker}
use Rattle.ded_genrel.proofs.Laws.{conjs_hold-append, conjs_mention-append, conjs_lines-append}
use Rattle.std.proofs.Math.Bool.{or-false}

module _ {A : Type 0} where
  -- what is so of some conjunction is so of some of more
  pub some-left : (P : List A → Type 0) (xs ys : List (List A)) → SomeConj P xs → SomeConj P (xs ++ ys)
  some-left P [] ys h = absurd h
  some-left P (x ∷ xs) ys (inl h) = inl h
  some-left P (x ∷ xs) ys (inr h) = inr (some-left P xs ys h)

  pub some-right : (P : List A → Type 0) (xs ys : List (List A)) → SomeConj P ys → SomeConj P (xs ++ ys)
  some-right P [] ys h = h
  some-right P (x ∷ xs) ys h = inr (some-right P xs ys h)

  conjs_elim-append : (l : A → List Line) (s : Slot) (xs ys : List (List A)) (x : Line) → In x (conjs_elim l s xs) ⊎ In x (conjs_elim l s ys) → In x (conjs_elim l s (xs ++ ys))
  conjs_elim-append l s [] ys x (inl h) = absurd h
  conjs_elim-append l s [] ys x (inr h) = h
  conjs_elim-append l s (c ∷ xs) ys x (inl h) = elim (In-split x (elim_at s (conj_lines l c)) (conjs_elim l s xs) h) [
    | inl a ↦ In-left x (elim_at s (conj_lines l c)) (conjs_elim l s (xs ++ ys)) a
    | inr b ↦ In-right x (elim_at s (conj_lines l c)) (conjs_elim l s (xs ++ ys)) (conjs_elim-append l s xs ys x (inl b))
  ]
  conjs_elim-append l s (c ∷ xs) ys x (inr h) = In-right x (elim_at s (conj_lines l c)) (conjs_elim l s (xs ++ ys)) (conjs_elim-append l s xs ys x (inr h))

module _ {A : Type 0} (h : A → Point → Bool) (m : A → Slot → Bool) (l : A → List Line) (n : A → Type 0) where
  holds_push : (xs : List (List A)) (c : List A) (p : Point) → conjs_hold h (xs ++ c ∷ []) p ≡ (conjs_hold h xs p || conj_holds h c p)
  holds_push xs c p = conjs_hold-append h xs (c ∷ []) p ∙ ap (λ b. conjs_hold h xs p || b) (or-false (conj_holds h c p))

  mention_push : (xs : List (List A)) (c : List A) (s : Slot) → conjs_mention m (xs ++ c ∷ []) s ≡ (conjs_mention m xs s || conj_mentions m c s)
  mention_push xs c s = conjs_mention-append m xs (c ∷ []) s ∙ ap (λ b. conjs_mention m xs s || b) (or-false (conj_mentions m c s))

  in_push : (xs : List (List A)) (c : List A) (x : Line) → In x (conjs_lines l (xs ++ c ∷ [])) → In x (conjs_lines l xs) ⊎ In x (conj_lines l c)
  in_push xs c x i = elim (In-split x (conjs_lines l xs) (conjs_lines l (c ∷ [])) (subst (In x) (conjs_lines-append l xs (c ∷ [])) i)) [
    | inl a ↦ inl a
    | inr b ↦ elim (In-split x (conj_lines l c) [] b) [ inl j ↦ inr j | inr k ↦ absurd k ]
  ]

  elim_here : (xs : List (List A)) (c : List A) (s : Slot) → IsSubset (elim_at s (conj_lines l c)) (conjs_elim l s (xs ++ c ∷ []))
  elim_here xs c s x i = conjs_elim-append l s xs (c ∷ []) x (inr (In-left x (elim_at s (conj_lines l c)) [] i))

  -- some extension of a list with one more
  some_more : (xs : List (List A)) (c : List A) (s : Slot) (p : Point) → SomeExtension s (conjs_hold h (xs ++ c ∷ [])) p → SomeExtension s (conjs_hold h xs) p ⊎ SomeExtension s (conj_holds h c) p
  some_more xs c s p e = elim (or_split (conjs_hold h xs e.0) (conj_holds h c e.0) (sym (holds_push xs c e.0) ∙ e.2)) [
    | inl a ↦ inl (e.0, e.1, a)
    | inr b ↦ inr (e.0, e.1, b)
  ]

  more_some : (xs : List (List A)) (c : List A) (s : Slot) (p : Point) → SomeExtension s (conjs_hold h xs) p ⊎ SomeExtension s (conj_holds h c) p → SomeExtension s (conjs_hold h (xs ++ c ∷ [])) p
  more_some xs c s p (inl e) = (e.0, e.1, holds_push xs c e.0 ∙ or_left (conjs_hold h xs e.0) (conj_holds h c e.0) e.2)
  more_some xs c s p (inr e) = (e.0, e.1, holds_push xs c e.0 ∙ or_right (conjs_hold h xs e.0) (conj_holds h c e.0) e.2)

  -- what is known of a list is known of it with one more
  each_more : (conjs : List (List A)) (c : List A) (s : Slot) (out : List (List A)) → AllByRecursion (λ d. SomeConj (λ e. IsSubset (conj_lines l d) (elim_at s (conj_lines l e))) conjs) out
      → AllByRecursion (λ d. SomeConj (λ e. IsSubset (conj_lines l d) (elim_at s (conj_lines l e))) (conjs ++ c ∷ [])) out
  each_more conjs c s out k = all_weaker _ _ out (λ d i. some-left (λ e. IsSubset (conj_lines l d) (elim_at s (conj_lines l e))) conjs (c ∷ []) i) k

  pub projection_none : (s : Slot) → IsProjection h m l [] s []
  projection_none s = record {
    holds = λ p i. (λ k. absurd (true≢false (sym k)), λ e. e.2);
    slots = λ t k. absurd (true≢false (sym k));
    lines = λ x k. absurd k;
    each = tt;
  }

  -- a conjunction of which nothing is left
  pub projection_dropped : (conjs : List (List A)) (c : List A) (s : Slot) (out : List (List A)) → IsProjection h m l conjs s out → IsElimination h m l n c s Never → IsProjection h m l (conjs ++ c ∷ []) s out
  projection_dropped conjs c s out r e = record {
    holds = λ p i. (
      λ k. more_some conjs c s p (inl ((r.holds p i).0 k)),
      λ k. elim (some_more conjs c s p k) [ inl a ↦ (r.holds p i).1 a | inr b ↦ absurd (true≢false (sym ((e.holds p i).1 b))) ],
    );
    slots = λ t k. let u = r.slots t k in (u.0, mention_push conjs c t ∙ or_left (conjs_mention m conjs t) (conj_mentions m c t) u.1);
    lines = λ x k. conjs_elim-append l s conjs (c ∷ []) x (inl (r.lines x k));
    each = each_more conjs c s out r.each;
  }

  -- and one of which atoms are left
  pub projection_kept : (conjs : List (List A)) (c : List A) (s : Slot) (out : List (List A)) (atoms : Vec A Global) → IsProjection h m l conjs s out → IsElimination h m l n c s (Conj atoms) → IsProjection h m l (conjs ++ c ∷ []) s (out ++ atoms.items ∷ [])
  projection_kept conjs c s out atoms r e = record {
    holds = λ p i. (
      λ k. elim (or_split (conjs_hold h out p) (conj_holds h atoms.items p) (sym (holds_push out atoms.items p) ∙ k)) [
        | inl a ↦ more_some conjs c s p (inl ((r.holds p i).0 a))
        | inr b ↦ more_some conjs c s p (inr ((e.holds p i).0 b))
      ],
      λ k. holds_push out atoms.items p ∙ elim (some_more conjs c s p k) [
        | inl a ↦ or_left (conjs_hold h out p) (conj_holds h atoms.items p) ((r.holds p i).1 a)
        | inr b ↦ or_right (conjs_hold h out p) (conj_holds h atoms.items p) ((e.holds p i).1 b)
      ],
    );
    slots = λ t k. elim (or_split (conjs_mention m out t) (conj_mentions m atoms.items t) (sym (mention_push out atoms.items t) ∙ k)) [
      | inl a ↦ (let u = r.slots t a in (u.0, mention_push conjs c t ∙ or_left (conjs_mention m conjs t) (conj_mentions m c t) u.1))
      | inr b ↦ (let u = e.slots t b in (u.0, mention_push conjs c t ∙ or_right (conjs_mention m conjs t) (conj_mentions m c t) u.1))
    ];
    lines = λ x k. elim (in_push out atoms.items x k) [
      | inl a ↦ conjs_elim-append l s conjs (c ∷ []) x (inl (r.lines x a))
      | inr b ↦ elim_here conjs c s x (e.lines x b)
    ];
    each = all-push _ out atoms.items (each_more conjs c s out r.each) (some-right (λ d. IsSubset (conj_lines l atoms.items) (elim_at s (conj_lines l d))) conjs (c ∷ []) (inl e.lines));
  }

  -- a step of the loop that drops a conjunction
  pub projection_dropped_more : (conjs next : List (List A)) (c copy : List A) (s : Slot) (out new : List (List A)) (e : Eliminated A) → next ≡ conjs ++ c ∷ [] → copy ≡ c → new ≡ out → e ≡ Never
      → IsProjection h m l conjs s out → IsElimination h m l n copy s e → IsProjection h m l next s new
  projection_dropped_more conjs next c copy s out new e i j k is r t =
      subst (λ xs. IsProjection h m l xs s new) (sym i) (subst (λ ys. IsProjection h m l (conjs ++ c ∷ []) s ys) (sym k)
      (projection_dropped conjs c s out r (subst (λ xs. IsElimination h m l n xs s Never) j (subst (λ x. IsElimination h m l n copy s x) is t))))

  -- and one that keeps what is left of it
  pub projection_kept_more : (conjs next : List (List A)) (c copy : List A) (s : Slot) (out new : List (List A)) (atoms : Vec A Global) (e : Eliminated A) → next ≡ conjs ++ c ∷ [] → copy ≡ c → new ≡ out ++ atoms.items ∷ [] → e ≡ Conj atoms
      → IsProjection h m l conjs s out → IsElimination h m l n copy s e → IsProjection h m l next s new
  projection_kept_more conjs next c copy s out new atoms e i j k is r t =
      subst (λ xs. IsProjection h m l xs s new) (sym i) (subst (λ ys. IsProjection h m l (conjs ++ c ∷ []) s ys) (sym k)
      (projection_kept conjs c s out atoms r (subst (λ xs. IsElimination h m l n xs s (Conj atoms)) j (subst (λ x. IsElimination h m l n copy s x) is t))))
