-- A list without the conjunctions that no point satisfies.
use Rattle.std.proofs.Common.{◌≡◌, ◌≢◌, Bool, false, ◌||◌, List, [], ◌∷◌, ◌++◌, inl, inr, refl, sym, ap, ◌∙◌, subst}
use Rattle.ded_model.specs.declared.slot.Slot.{Slot}
use Rattle.ded_model.specs.Point.{Point}
use Rattle.ded_model.specs.Cell.{conj_holds, HoldsSomewhere, HoldsNowhere}
use Rattle.ded_model.specs.Lines.{Line, IsSubset}
use Rattle.ded_model.proofs.Rows.{or_left, or_right}
use Rattle.ded_model.proofs.Members.{subset_append, subset_refl, In-left, or_split}
use Rattle.ded_theory.specs.declared.answers.Verdict.{Verdict}
use Rattle.ded_theory.specs.declared.answers.Verdict.TheVariants.{Empty, Inhabited, Unknown}
use Rattle.ded_theory.specs.Conjunctions.{IsWide}
use Rattle.ded_theory.specs.Verdicts.{IsVerdict}
use Rattle.ded_genrel.specs.Lists.{conjs_hold, conjs_mention, conjs_lines}
use Rattle.ded_genrel.specs.Operations.{IsInhabitedPart}
use Rattle.ded_genrel.proofs.Items.{all-push}
use Rattle.ded_genrel.proofs.Laws.{conjs_hold-append, conjs_mention-append, conjs_lines-append}
use Rattle.std.proofs.Math.Bool.{or-false}

module _ {A : Type 0} (h : A → Point → Bool) (m : A → Slot → Bool) (l : A → List Line) where
  -- the empty list
  pub inhabited_none : IsInhabitedPart h m l [] []
  inhabited_none = record {
    is = record { holds = λ p i. refl; slots = λ s u. u; lines = subset_refl [] };
    kept = tt;
  }

  -- one more conjunction, which is kept
  pub inhabited_kept : (conjs out : List (List A)) (c : List A) → ((IsWide m l c → ⊥) → HoldsSomewhere (conj_holds h c)) → IsInhabitedPart h m l conjs out → IsInhabitedPart h m l (conjs ++ c ∷ []) (out ++ c ∷ [])
  inhabited_kept conjs out c k r = record {
    is = record {
      holds = λ p i. conjs_hold-append h out (c ∷ []) p ∙ ap (λ b. b || conjs_hold h (c ∷ []) p) (r.is.holds p i) ∙ sym (conjs_hold-append h conjs (c ∷ []) p);
      slots = λ s u. elim (or_split (conjs_mention m out s) (conjs_mention m (c ∷ []) s) (sym (conjs_mention-append m out (c ∷ []) s) ∙ u)) [
        | inl a ↦ conjs_mention-append m conjs (c ∷ []) s ∙ or_left (conjs_mention m conjs s) (conjs_mention m (c ∷ []) s) (r.is.slots s a)
        | inr b ↦ conjs_mention-append m conjs (c ∷ []) s ∙ or_right (conjs_mention m conjs s) (conjs_mention m (c ∷ []) s) b
      ];
      lines = subst (λ ls. IsSubset ls (conjs_lines l (conjs ++ c ∷ []))) (sym (conjs_lines-append l out (c ∷ [])))
          (subst (IsSubset (conjs_lines l out ++ conjs_lines l (c ∷ []))) (sym (conjs_lines-append l conjs (c ∷ [])))
          (subset_append (conjs_lines l out) (conjs_lines l (c ∷ [])) (conjs_lines l conjs) (conjs_lines l (c ∷ [])) r.is.lines (subset_refl _)));
    };
    kept = all-push (λ d. (IsWide m l d → ⊥) → HoldsSomewhere (conj_holds h d)) out c r.kept k;
  }

  -- one more conjunction, which no point satisfies
  pub inhabited_dropped : (conjs out : List (List A)) (c : List A) → HoldsNowhere (conj_holds h c) → IsInhabitedPart h m l conjs out → IsInhabitedPart h m l (conjs ++ c ∷ []) out
  inhabited_dropped conjs out c n r = record {
    is = record {
      holds = λ p i. r.is.holds p i ∙ sym (or_neither conjs c p (n p i));
      slots = λ s u. conjs_mention-append m conjs (c ∷ []) s ∙ or_left (conjs_mention m conjs s) (conjs_mention m (c ∷ []) s) (r.is.slots s u);
      lines = subst (IsSubset (conjs_lines l out)) (sym (conjs_lines-append l conjs (c ∷ [])))
          (λ x i. In-left x (conjs_lines l conjs) (conjs_lines l (c ∷ [])) (r.is.lines x i));
    };
    kept = r.kept;
  }
    where
      or_neither : (conjs : List (List A)) (c : List A) (p : Point) → conj_holds h c p ≡ false → conjs_hold h (conjs ++ c ∷ []) p ≡ conjs_hold h conjs p
      or_neither conjs c p e = conjs_hold-append h conjs (c ∷ []) p ∙ ap (λ b. conjs_hold h conjs p || (b || false)) e ∙ or-false (conjs_hold h conjs p)

  -- what is known of a conjunction whose verdict isn't `Empty`
  pub not_empty : (c : List A) (v : Verdict) → v ≢ Empty → IsVerdict h m l c v → (IsWide m l c → ⊥) → HoldsSomewhere (conj_holds h c)
  not_empty c Empty n r k = absurd (n refl)
  not_empty c Inhabited n r k = r
  not_empty c Unknown n r k = absurd (k r)
