-- Evaluations put together: what is done with the lists of the parts of a plan gives the list of the plan, at points inside of a window.
use Rattle.std.proofs.Common.{◌≡◌, ℕ, suc, Vec, Global, Bool, true, false, not, ◌&&◌, ◌||◌, List, [], ◌∷◌, ◌++◌, ◌⊎◌, ⊎_elim, inl, inr, length, arith, refl, sym, ap, ◌∙◌, subst, true≢false, append_assoc, append-nil}
use Rattle.std.specs.Prelude.{◌↔◌, ◌==◌}
use Rattle.std.proofs.Math.Bool.{or_assoc, or-false}
use Rattle.std.proofs.lemmas.Bool.{and_from, and_parts, not-true, not_from_false, false_from_ne_true}
use Rattle.std.proofs.lemmas.Bool.Decides.{nat_tests}
use Rattle.ded_model.specs.declared.slot.Slot.{Slot}
use Rattle.ded_model.specs.Point.{Key, slot, Point, IsPoint}
use Rattle.ded_model.specs.Row.{Atom}
use Rattle.ded_model.specs.Logic.{Logic, atom, negation, some_of, minus, none, logics, Sat, SatEvery, SatSome, mentions, any_mentions}
use Rattle.ded_model.specs.Catalogue.{Catalogue, stored}
use Rattle.ded_model.specs.Measure.{stored_measures, plan_atom_lines, plan_lines}
use Rattle.ded_model.specs.PlanForm.{PlanForm, rows, PlanAtomHolds, in_plan_atom, plan_mentions}
use Rattle.ded_model.specs.Lines.{Line, IsSubset, atoms_lines, lines, all_lines}
use Rattle.ded_model.proofs.Rows.{or_left, or_right}
use Rattle.ded_model.proofs.Members.{subset_trans, subset_append, subset_none, or_split}
use Rattle.ded_theory.specs.Conjunctions.{conj_lines}
use Rattle.ded_algebra.specs.Evaluation.{IsEvaluation, IsEvaluationWithin}
use Rattle.ded_genrel.specs.Lists.{conjs_of, conjs_hold, conjs_mention, conjs_lines}
use Rattle.ded_genrel.specs.Operations.{IsOperation, IsInhabitedPart}
use Rattle.ded_genrel.proofs.Laws.{conjs_hold-append, conjs_mention-append, conjs_lines-append}
use Rattle.ded_atoms.specs.Reading.{IsConjunctionOf}
use Rattle.ded_eval.specs.Within.{IsBegun}

-- ---- one part more

module _ {L : Type 0} (H : L → Point → Type 0) where
  pub every-push : (fs : List (Logic L)) (f : Logic L) (p : Point) → SatEvery H (logics (fs ++ f ∷ [])) p ↔ (SatEvery H (logics fs) p × Sat H f p)
  every-push [] f p = (λ h. (tt, h.0), λ h. (h.1, tt))
  every-push (g ∷ fs) f p = let ih = every-push fs f p in (λ h. (let r = ih.0 h.1 in ((h.0, r.0), r.1)), λ h. (h.0.0, ih.1 (h.0.1, h.1)))

  some-push : (fs : List (Logic L)) (f : Logic L) (p : Point) → SatSome H (logics (fs ++ f ∷ [])) p ↔ (SatSome H (logics fs) p ⊎ Sat H f p)
  some-push [] f p = (λ h. ⊎_elim (λ (x : Sat H f p). inr x) (λ x. absurd x) h, λ h. ⊎_elim (λ (x : ⊥). absurd x) (λ x. inl x) h)
  some-push (g ∷ fs) f p = (λ h. ⊎_elim (λ (x : Sat H g p). inl (inl x)) (λ x. rest ((some-push fs f p).0 x)) h, λ h. ⊎_elim (λ x. first ((some-push fs f p).1) x) (λ x. inr ((some-push fs f p).1 (inr x))) h)
    where
      rest : SatSome H (logics fs) p ⊎ Sat H f p → (Sat H g p ⊎ SatSome H (logics fs) p) ⊎ Sat H f p
      rest (inl x) = inl (inr x)
      rest (inr x) = inr x

      first : (SatSome H (logics fs) p ⊎ Sat H f p → SatSome H (logics (fs ++ f ∷ [])) p) → Sat H g p ⊎ SatSome H (logics fs) p → Sat H g p ⊎ SatSome H (logics (fs ++ f ∷ [])) p
      first k (inl x) = inl x
      first k (inr x) = inr (k (inl x))

  -- all of more are all of the first ones
  pub every-left : (fs gs : List (Logic L)) (p : Point) → SatEvery H (logics (fs ++ gs)) p → SatEvery H (logics fs) p
  every-left [] gs p h = tt
  every-left (f ∷ fs) gs p h = (h.0, every-left fs gs p h.1)

pub mentions-push : {L : Type 0} (test : L → Key → Bool) (fs : List (Logic L)) (f : Logic L) (k : Key) → any_mentions test (logics (fs ++ f ∷ [])) k ≡ (any_mentions test (logics fs) k || mentions test f k)
mentions-push test [] f k = or-false (mentions test f k)
mentions-push test (g ∷ fs) f k = ap (λ b. mentions test g k || b) (mentions-push test fs f k) ∙ sym (or_assoc (mentions test g k) _ _)

pub lines-push : {L : Type 0} (of : L → List Line) (fs : List (Logic L)) (f : Logic L) → all_lines of (logics (fs ++ f ∷ [])) ≡ all_lines of (logics fs) ++ lines of f
lines-push of [] f = append-nil (lines of f)
lines-push of (g ∷ fs) f = ap (λ ls. lines of g ++ ls) (lines-push of fs f) ∙ sym (append_assoc (lines of g) (all_lines of (logics fs)) (lines of f))

module _ {A : Type 0} (h : A → Point → Bool) (m : A → Slot → Bool) (l : A → List Line) where
  -- a join begins with one conjunction
  pub begun_some : (atoms : List A) (list out : List (List A)) → list ≡ atoms ∷ [] → IsInhabitedPart h m l list out → IsBegun h m l atoms out
  begun_some atoms list out e r = record {
    holds = λ p i. r.is.holds p i ∙ ap (λ xs. conjs_hold h xs p) e ∙ or-false _;
    slots = λ s u. sym (ap (λ xs. conjs_mention m xs s) e ∙ or-false _) ∙ r.is.slots s u;
    lines = subset_trans (conjs_lines l out) (conjs_lines l list) (conj_lines l atoms) r.is.lines (subst (λ ls. IsSubset (conjs_lines l list) ls) (ap (conjs_lines l) e ∙ append-nil (conj_lines l atoms)) (λ x i. i));
  }

  -- rows hold where they do
  pub rows_for : (c : Catalogue) (t : List Atom) (atoms : List A) (list out : List (List A)) → list ≡ atoms ∷ [] → IsConjunctionOf h m l atoms t → IsInhabitedPart h m l list out → IsEvaluation c (atom (rows t)) (conjs_hold h out) (conjs_mention m out) (conjs_lines l out)
  rows_for c t atoms list out e k r =
      let begun = begun_some atoms list out e r in
      record {
        holds = λ p i w. (let same = begun.holds p i ∙ k.holds p in (λ x. sym same ∙ x, λ x. same ∙ x));
        slots = λ s u. sym (k.slots s) ∙ begun.slots s u;
        lines = subset_trans (conjs_lines l out) (conj_lines l atoms) (atoms_lines t) begun.lines k.lines;
      }

module _ {A : Type 0} (h : A → Point → Bool) (m : A → Slot → Bool) (l : A → List Line) (inside : Point → Bool) where
  -- the list is what the plan stands for, at points inside
  abbrev pub IsListFor : Catalogue → PlanForm → List (List A) → Type 0
  IsListFor c f xs = IsEvaluationWithin c f inside (conjs_hold h xs) (conjs_mention m xs) (conjs_lines l xs)

  -- what is so everywhere is so inside
  pub everywhere_for : (c : Catalogue) (f : PlanForm) (xs : List (List A)) → IsEvaluation c f (conjs_hold h xs) (conjs_mention m xs) (conjs_lines l xs) → IsListFor c f xs
  everywhere_for c f xs a = record { holds = λ p i w. a.holds p i refl; slots = a.slots; lines = a.lines }

  -- so is a list that holds alike and has nothing new
  pub distinct_for : (c : Catalogue) (f : PlanForm) (xs out : List (List A)) → ((p : Point) → conjs_hold h out p ≡ conjs_hold h xs p)
      → ((s : Slot) → conjs_mention m out s ≡ true → conjs_mention m xs s ≡ true) → IsSubset (conjs_lines l out) (conjs_lines l xs) → IsListFor c f xs → IsListFor c f out
  distinct_for c f xs out e u z a = record {
    holds = λ p i w. (λ x. (a.holds p i w).0 (sym (e p) ∙ x), λ x. e p ∙ (a.holds p i w).1 x);
    slots = λ s x. a.slots s (u s x);
    lines = subset_trans (conjs_lines l out) (conjs_lines l xs) (plan_lines (stored_measures c) f) z a.lines;
  }

  -- ---- unions

  pub united_none : (c : Catalogue) → IsListFor c (some_of none) []
  united_none c = record { holds = λ p i w. (λ x. true≢false (sym x), λ x. absurd x); slots = λ s u. u; lines = subset_none [] }

  pub united_more : (c : Catalogue) (fs : List PlanForm) (f : PlanForm) (xs ys : List (List A)) → IsListFor c (some_of (logics fs)) xs → IsListFor c f ys → IsListFor c (some_of (logics (fs ++ f ∷ []))) (xs ++ ys)
  united_more c fs f xs ys a b = record {
    holds = λ p i w. (
      λ x. (some-push (PlanAtomHolds (stored c)) fs f p).1 (⊎_elim (λ (e : conjs_hold h xs p ≡ true). inl ((a.holds p i w).0 e)) (λ e. inr ((b.holds p i w).0 e)) (or_split _ _ (sym (conjs_hold-append h xs ys p) ∙ x))),
      λ x. conjs_hold-append h xs ys p ∙ ⊎_elim (λ (e : SatSome (PlanAtomHolds (stored c)) (logics fs) p). or_left _ _ ((a.holds p i w).1 e)) (λ e. or_right (conjs_hold h xs p) _ ((b.holds p i w).1 e)) ((some-push (PlanAtomHolds (stored c)) fs f p).0 x),
    );
    slots = λ s u. mentions-push in_plan_atom fs f (slot s)
        ∙ ⊎_elim (λ (e : conjs_mention m xs s ≡ true). or_left _ _ (a.slots s e)) (λ e. or_right (any_mentions in_plan_atom (logics fs) (slot s)) _ (b.slots s e)) (or_split _ _ (sym (conjs_mention-append m xs ys s) ∙ u));
    lines = subst (λ ls. IsSubset ls (all_lines (plan_atom_lines (stored_measures c)) (logics (fs ++ f ∷ [])))) (sym (conjs_lines-append l xs ys))
        (subst (IsSubset (conjs_lines l xs ++ conjs_lines l ys)) (sym (lines-push (plan_atom_lines (stored_measures c)) fs f))
        (subset_append (conjs_lines l xs) (conjs_lines l ys) (all_lines (plan_atom_lines (stored_measures c)) (logics fs)) (plan_lines (stored_measures c) f) a.lines b.lines));
  }

  -- ---- differences and complements

  pub complement_for : (c : Catalogue) (f : PlanForm) (xs out : List (List A)) → IsListFor c f xs → IsOperation h m l (λ p. not (conjs_hold h xs p)) (conjs_mention m xs) (conjs_lines l xs) out → IsListFor c (negation f) out
  complement_for c f xs out a o = record {
    holds = λ p i w. (λ x y. true≢false (sym ((a.holds p i w).1 y) ∙ not-true _ (sym (o.holds p i) ∙ x)), λ x. o.holds p i ∙ not_from_false _ (false_from_ne_true _ (λ e. x ((a.holds p i w).0 e))));
    slots = λ s u. a.slots s (o.slots s u);
    lines = subset_trans (conjs_lines l out) (conjs_lines l xs) (plan_lines (stored_measures c) f) o.lines a.lines;
  }

  -- the complement of a complement or another plan
  pub implied_for : (c : Catalogue) (f g : PlanForm) (xs : List (List A)) → IsListFor c (minus f g) xs → IsListFor c (negation (some_of (logics (negation f ∷ g ∷ [])))) xs
  implied_for c f g xs a = record {
    holds = λ p i w. (
      λ x y. (let both = (a.holds p i w).0 x in ⊎_elim (λ n. n both.0) (λ z. ⊎_elim (λ s. both.1 s) (λ n. absurd n) z) y),
      λ y. by p i w y (conjs_hold h xs p) refl,
    );
    slots = λ s u. ap (λ b. plan_mentions f (slot s) || b) (or-false (plan_mentions g (slot s))) ∙ a.slots s u;
    lines = subst (λ ls. IsSubset (conjs_lines l xs) (plan_lines (stored_measures c) f ++ ls)) (sym (append-nil (plan_lines (stored_measures c) g))) a.lines;
  }
    where
      by : (p : Point) → IsPoint p → inside p ≡ true → Sat (PlanAtomHolds (stored c)) (negation (some_of (logics (negation f ∷ g ∷ [])))) p → (b : Bool) → conjs_hold h xs p ≡ b → conjs_hold h xs p ≡ true
      by p i w y true e = e
      by p i w y false e = absurd (y (inl (λ s. true≢false (sym ((a.holds p i w).1 (s, λ z. y (inr (inl z)))) ∙ e))))

-- what an empty list of conjunctions stands for
pub no_conjunction : {A : Type 0} (xs : List (Vec A Global)) (conjs : List (List A)) (b : Bool) → conjs_of xs ≡ conjs → b ≡ (length xs == 0) → b ≡ true → length conjs ≡ 0
no_conjunction [] conjs b e f g = ap length (sym e)
no_conjunction (x ∷ xs) conjs b e f g = absurd (more (length xs) (sym f ∙ g))
  where
    more : (n : ℕ) → (suc n == 0) ≡ true → ⊥
    more n e = grind (arith, nat_tests)
