-- The rows and text atoms that stand beside the other parts of a join.
use Rattle.std.proofs.Common.{◌≡◌, Bool, true, false, ◌&&◌, List, [], ◌∷◌, ◌++◌, ⊎_elim, refl, sym, ap, ap₂, ◌∙◌, subst, true≢false}
use Rattle.std.proofs.Math.Bool.{and_assoc, and-true}
use Rattle.ded_model.specs.declared.slot.Slot.{Slot}
use Rattle.ded_model.specs.Lines.{Line, IsSubset, all_lines, lines, atoms_lines}
use Rattle.ded_model.specs.Logic.{atom, always, never, negation, every_of, some_of, implies, minus, exists, forall, logics, any_mentions}
use Rattle.ded_model.specs.Measure.{plan_atom_lines}
use Rattle.ded_model.specs.PlanForm.{scan, rows, PlanForm, in_plan_atom}
use Rattle.ded_model.specs.Point.{slot, Point}
use Rattle.ded_model.specs.Row.{Atom}
use Rattle.ded_model.proofs.Rows.{or_left, or_right}
use Rattle.ded_model.proofs.Members.{subset_append, or_split, In-left}
use Rattle.ded_theory.specs.Conjunctions.{conj_mentions, conj_lines}
use Rattle.ded_theory.proofs.Conjunctions.{conj_holds-append, conj_mentions-append}
use Rattle.ded_genrel.proofs.Laws.{conj_lines-append}
use Rattle.ded_atoms.specs.Reading.{IsConjunctionOf}
use Rattle.ded_eval.specs.Within.{is_rows, rows_hold, all_rows_hold, AreRowsOf}
use Rattle.ded_eval.proofs.Evaluated.{mentions-push, lines-push}

-- one plan more
all_rows-push : (fs : List PlanForm) (f : PlanForm) (p : Point) → all_rows_hold (fs ++ f ∷ []) p ≡ (all_rows_hold fs p && rows_hold f p)
all_rows-push [] f p = and-true (rows_hold f p)
all_rows-push (g ∷ fs) f p = ap (λ b. rows_hold g p && b) (all_rows-push fs f p) ∙ sym (and_assoc (rows_hold g p) (all_rows_hold fs p) (rows_hold f p))

-- other plans have none
others_hold : (f : PlanForm) (p : Point) → is_rows f ≡ false → rows_hold f p ≡ true
others_hold (atom (scan n ss)) p e = refl
others_hold (atom (rows t)) p e = absurd (true≢false e)
others_hold always p e = refl
others_hold never p e = refl
others_hold (negation f) p e = refl
others_hold (every_of fs) p e = refl
others_hold (some_of fs) p e = refl
others_hold (implies f g) p e = refl
others_hold (minus f g) p e = refl
others_hold (exists s k f) p e = refl
others_hold (forall s k f) p e = refl

module _ {A : Type 0} (h : A → Point → Bool) (m : A → Slot → Bool) (l : A → List Line) where
  -- the atoms of one plan more
  pub rows_more : (fs : List PlanForm) (t : List Atom) (atoms c : List A) → IsConjunctionOf h m l c t → AreRowsOf h m l fs atoms → AreRowsOf h m l (fs ++ atom (rows t) ∷ []) (atoms ++ c)
  rows_more fs t atoms c k r = record {
    holds = λ p. conj_holds-append h atoms c p ∙ ap₂ (λ x y. x && y) (r.holds p) (k.holds p) ∙ sym (all_rows-push fs (atom (rows t)) p);
    slots = λ s u. mentions-push in_plan_atom fs (atom (rows t)) (slot s)
        ∙ ⊎_elim (λ (e : conj_mentions m atoms s ≡ true). or_left _ _ (r.slots s e)) (λ e. or_right (any_mentions in_plan_atom (logics fs) (slot s)) _ (sym (k.slots s) ∙ e)) (or_split _ _ (sym (conj_mentions-append m atoms c s) ∙ u));
    lines = λ M. subst (λ ls. IsSubset ls (all_lines (plan_atom_lines M) (logics (fs ++ atom (rows t) ∷ [])))) (sym (conj_lines-append l atoms c))
        (subst (IsSubset (conj_lines l atoms ++ conj_lines l c)) (sym (lines-push (plan_atom_lines M) fs (atom (rows t))))
        (subset_append (conj_lines l atoms) (conj_lines l c) (all_lines (plan_atom_lines M) (logics fs)) (atoms_lines t) (r.lines M) k.lines));
  }

  -- another plan adds none
  pub rows_other : (fs : List PlanForm) (f : PlanForm) (atoms : List A) → is_rows f ≡ false → AreRowsOf h m l fs atoms → AreRowsOf h m l (fs ++ f ∷ []) atoms
  rows_other fs f atoms e r = record {
    holds = λ p. r.holds p ∙ sym (all_rows-push fs f p ∙ ap (λ b. all_rows_hold fs p && b) (others_hold f p e) ∙ and-true (all_rows_hold fs p));
    slots = λ s u. mentions-push in_plan_atom fs f (slot s) ∙ or_left _ _ (r.slots s u);
    lines = λ M. subst (IsSubset (conj_lines l atoms)) (sym (lines-push (plan_atom_lines M) fs f)) (λ x i. In-left x (all_lines (plan_atom_lines M) (logics fs)) (lines (plan_atom_lines M) f) (r.lines M x i));
  }
