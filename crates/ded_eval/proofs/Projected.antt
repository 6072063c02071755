-- Projections of the list of a plan.
--
-- At a rational slot lines go over to what the elimination makes of them. At a text slot nothing is made: lines have rational slots
-- alone, so none mentions the slot, and none clash.
use Rattle.std.proofs.Common.{◌≡◌, Bool, true, false, cond, not, ◌&&◌, List, [], ⊎_elim, refl, sym, ap, ◌∙◌, true≢false}
use Rattle.std.proofs.lemmas.Bool.{and_from}
use Rattle.ded_model.specs.declared.slot.Slot.{Slot}
use Rattle.ded_model.specs.declared.slot.Sort.{Sort}
use Rattle.ded_model.specs.declared.slot.Sort.TheVariants.{Rat, Text}
use Rattle.ded_model.specs.Point.{slot, same_slot, same_sort, Point, IsPoint, IsExtension}
use Rattle.ded_model.specs.Row.{row_mentions}
use Rattle.ded_model.specs.Coefs.{AreCoefs}
use Rattle.ded_model.specs.Logic.{exists}
use Rattle.ded_model.specs.Catalogue.{Catalogue}
use Rattle.ded_model.specs.Measure.{stored_measures, plan_lines}
use Rattle.ded_model.specs.PlanForm.{PlanForm, plan_mentions}
use Rattle.ded_model.specs.Lines.{Line, In, IsSubset, both_mention, lines_clash, combination, clash_at, elim_at, combined, elim_past, clash_past}
use Rattle.ded_model.proofs.Points.{and_left}
use Rattle.ded_model.proofs.Members.{subset_trans, elim-In, IsPair, elim-grows, clash-grows, Clash, clash_of-In}
use Rattle.ded_row.proofs.Targets.{is_rational}
use Rattle.ded_model.proofs.PointTexts.{extension-point}
use Rattle.ded_genrel.specs.Lists.{conjs_lines, conjs_elim, conjs_clash}
use Rattle.ded_genrel.specs.Operations.{IsProjection}
use Rattle.ded_genrel.proofs.Laws.{conjs_elim-within, conjs_clash-within}
use Rattle.ded_eval.proofs.Evaluated.{IsListFor}

-- the lines have their coefficients in order
abbrev pub AreInOrder : List Line → Type 0
AreInOrder ls = (x : Line) → In x ls → AreCoefs x.coefs

-- ---- at a text slot

-- no line in order mentions it
no_mention : (s : Slot) (x : Line) → s.sort ≡ Text → AreCoefs x.coefs → row_mentions x s ≡ true → ⊥
unfolding row_mentions
no_mention s x e k i = true≢false (ap (λ t. same_sort t Rat) (sym (is_rational s x.coefs k i) ∙ e))

-- so no two of them are combined
no_pair : (s : Slot) (x y z : Line) → s.sort ≡ Text → AreCoefs x.coefs → In z (combined s x y) → ⊥
no_pair s x y z e k i = go (row_mentions x s) refl i
  where
    go : (b : Bool) → row_mentions x s ≡ b → In z (cond ((b && row_mentions y s) && not (lines_clash s x y)) (combination s x y) []) → ⊥
    go true f j = no_mention s x e k f
    go false f j = j

-- an elimination keeps the lines
kept_lines : (s : Slot) (ls : List Line) → s.sort ≡ Text → AreInOrder ls → IsSubset (elim_at s ls) ls
kept_lines s ls e k x i = ⊎_elim (λ (j : In x ls × (row_mentions x s ≡ false)). j.0) (λ (j : IsPair s ls x). absurd (no_pair s j.first j.second x e (k j.first j.in_first) j.combined)) (elim-In s ls x i)

-- and no two of them clash
no_clash : (s : Slot) (ls : List Line) → s.sort ≡ Text → AreInOrder ls → clash_at s ls ≡ true → ⊥
unfolding clash_at Clash
no_clash s ls e k c = let r = clash_of-In s ls ls c in no_mention s r.0 e (k r.0 r.2) (and_left _ _ (and_left (both_mention s r.0 r.1) (lines_clash s r.0 r.1) r.4))

-- ---- at any slot

past : (s : Slot) (xs ys : List Line) → AreInOrder xs → IsSubset xs ys → IsSubset (elim_at s xs) (elim_past s.sort (slot s) ys)
past s xs ys k f = go s.sort refl
  where
    go : (t : Sort) → s.sort ≡ t → IsSubset (elim_at s xs) (elim_past t (slot s) ys)
    go Rat e = elim-grows s xs ys f
    go Text e = subset_trans (elim_at s xs) xs ys (kept_lines s xs e k) f

clash_at_past : (s : Slot) (xs ys : List Line) → AreInOrder xs → IsSubset xs ys → clash_at s xs ≡ true → clash_past s.sort (slot s) ys ≡ true
clash_at_past s xs ys k f c = go s.sort refl
  where
    go : (t : Sort) → s.sort ≡ t → clash_past t (slot s) ys ≡ true
    go Rat e = clash-grows s xs ys f c
    go Text e = absurd (no_clash s xs e k c)

module _ {A : Type 0} (h : A → Point → Bool) (m : A → Slot → Bool) (l : A → List Line) (inside outside : Point → Bool) where
  -- a projection of the list of a plan, whose window says nothing of the slot
  pub projection_for : (c : Catalogue) (f : PlanForm) (s : Slot) (xs out : List (List A)) → AreInOrder (conjs_lines l xs) → ((p q : Point) → IsPoint p → IsExtension s.sort p (slot s) q → inside p ≡ true → outside q ≡ true) → IsListFor h m l outside c f xs → IsProjection h m l xs s out → IsListFor h m l inside c (exists s.sort (slot s) f) out
  projection_for c f s xs out k stays a o = record {
    holds = λ p i w. (
      λ x. (let q = (o.holds p i).0 x in (q.0, q.1, (a.holds q.0 (extension-point s.sort p q.0 (slot s) i q.1) (stays p q.0 i q.1 w)).0 q.2)),
      λ x. (o.holds p i).1 (x.0, x.1, (a.holds x.0 (extension-point s.sort p x.0 (slot s) i x.1) (stays p x.0 i x.1 w)).1 x.2),
    );
    slots = λ t u. (let r = o.slots t u in and_from (not (same_slot t s)) (plan_mentions f (slot t)) (ap not r.0) (a.slots t r.1));
    lines = subset_trans (conjs_lines l out) (elim_at s (conjs_lines l xs)) (elim_past s.sort (slot s) (plan_lines (stored_measures c) f))
        (subset_trans (conjs_lines l out) (conjs_elim l s xs) (elim_at s (conjs_lines l xs)) o.lines (conjs_elim-within l s xs))
        (past s (conjs_lines l xs) (plan_lines (stored_measures c) f) k a.lines);
  }

  -- where its lines clash, the plan does
  pub projection_clash : (c : Catalogue) (f : PlanForm) (s : Slot) (xs : List (List A)) → AreInOrder (conjs_lines l xs) → IsListFor h m l outside c f xs → conjs_clash l s xs ≡ true → clash_past s.sort (slot s) (plan_lines (stored_measures c) f) ≡ true
  projection_clash c f s xs k a e = clash_at_past s (conjs_lines l xs) (plan_lines (stored_measures c) f) k a.lines (conjs_clash-within l s xs e)
