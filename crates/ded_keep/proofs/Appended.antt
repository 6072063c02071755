-- Lists of tuples one behind another.
use Rattle.std.proofs.Common.{◌≡◌, ◌||◌, ◌⊎◌, inl, inr, List, [], ◌∷◌, ◌++◌, refl, sym, ap, ◌∙◌, subst}
use Rattle.std.specs.Prelude.{◌↔◌}
use Rattle.std.proofs.lemmas.List.{append_assoc}
use Rattle.std.proofs.lemmas.List.Folds.{list_any-append}
use Rattle.ded_model.specs.declared.slot.Slot.{Slot}
use Rattle.ded_model.specs.Catalogue.{Catalogue}
use Rattle.ded_model.specs.Lines.{IsSubset, atoms_lines, tuples_lines}
use Rattle.ded_model.specs.Measure.{stored_measures, plan_lines}
use Rattle.ded_model.specs.PlanForm.{PlanForm}
use Rattle.ded_model.specs.Point.{Point}
use Rattle.ded_model.specs.Row.{Atom, tuple_holds, tuple_mentions, tuples_hold, tuples_mention}
use Rattle.ded_model.proofs.Members.{or_split, subset_append, subset_refl, subset_trans}
use Rattle.ded_model.proofs.Rows.{or_left, or_right}
use Rattle.ded_algebra.specs.Evaluation.{IsEvaluation}
use Rattle.ded_keep.specs.Adding.{IsExtended}
use Rattle.ded_keep.specs.Behind.{IsPutBehind}

pub tuples_hold-append : (ts us : List (List Atom)) (p : Point) → tuples_hold (ts ++ us) p ≡ (tuples_hold ts p || tuples_hold us p)
unfolding tuples_hold
tuples_hold-append ts us p = list_any-append (λ t. tuple_holds t p) ts us

pub tuples_mention-append : (ts us : List (List Atom)) (s : Slot) → tuples_mention (ts ++ us) s ≡ (tuples_mention ts s || tuples_mention us s)
unfolding tuples_mention
tuples_mention-append ts us s = list_any-append (λ t. tuple_mentions t s) ts us

pub tuples_lines-append : (ts us : List (List Atom)) → tuples_lines (ts ++ us) ≡ tuples_lines ts ++ tuples_lines us
tuples_lines-append [] us = refl
tuples_lines-append (t ∷ ts) us = ap (λ ls. atoms_lines t ++ ls) (tuples_lines-append ts us) ∙ sym (append_assoc (atoms_lines t) (tuples_lines ts) (tuples_lines us))

-- kept tuples, and put behind them what a plan is evaluated to
pub extended_behind : (c : Catalogue) (f : PlanForm) (kept more ts : List (List Atom)) → IsPutBehind kept more ts → IsEvaluation c f (tuples_hold more) (tuples_mention more) (tuples_lines more) → IsExtended c f kept ts
extended_behind c f kept more ts b v = record {
  more = b.rest;
  is = b.is;
  holds = λ p i. (
    λ h. elim (or_split _ _ (sym (b.holds p i) ∙ h)) [ inl x ↦ inl x | inr x ↦ inr ((v.holds p i refl).0 x) ],
    λ h. b.holds p i ∙ elim h [ inl x ↦ or_left _ _ x | inr x ↦ or_right (tuples_hold kept p) _ ((v.holds p i refl).1 x) ],
  );
  slots = λ s h. elim (or_split _ _ (sym (ap (λ us. tuples_mention us s) b.is ∙ tuples_mention-append kept b.rest s) ∙ h)) [ inl x ↦ inl x | inr x ↦ inr (v.slots s (b.slots s x)) ];
  lines = subst (λ ls. IsSubset ls (tuples_lines kept ++ plan_lines (stored_measures c) f)) (sym (ap tuples_lines b.is ∙ tuples_lines-append kept b.rest))
      (subset_append _ _ _ _ (subset_refl (tuples_lines kept)) (subset_trans _ _ _ b.lines v.lines));
}

-- the same where all of it stands behind them
pub extended : (c : Catalogue) (f : PlanForm) (kept more ts : List (List Atom)) → ts ≡ kept ++ more → IsEvaluation c f (tuples_hold more) (tuples_mention more) (tuples_lines more) → IsExtended c f kept ts
extended c f kept more ts e v = extended_behind c f kept more ts (record {
  rest = more;
  is = e;
  holds = λ p i. ap (λ us. tuples_hold us p) e ∙ tuples_hold-append kept more p;
  slots = λ s u. u;
  lines = subset_refl (tuples_lines more);
  normal = λ h. h;
}) v

-- what was kept of a plan before, and holds where it does or where another one does, is what the plan gives after
pub kept_after : (A B C D : Type 0) → A ↔ (B ⊎ C) → (before : Type 0) → B ↔ before → D ↔ (before ⊎ C) → A ↔ D
kept_after A B C D e before f g = (
  λ a. g.1 (elim (e.0 a) [ inl b ↦ inl (f.0 b) | inr c ↦ inr c ]),
  λ d. e.1 (elim (g.0 d) [ inl x ↦ inl (f.1 x) | inr c ↦ inr c ]),
)
