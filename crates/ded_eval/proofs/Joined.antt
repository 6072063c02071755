-- The parts of a join, one after another: those that are rows and text atoms alone hold from the start.
use Rattle.std.proofs.Common.{◌≡◌, Bool, true, ◌||◌, List, [], ◌∷◌, ◌++◌, ◌⊎◌, ⊎_elim, inl, inr, length, arith, refl, sym, ◌∙◌, subst, true≢false}
use Rattle.std.specs.Prelude.{◌↔◌, IsTrue}
use Rattle.std.proofs.lemmas.Bool.{and_from}
use Rattle.ded_model.specs.declared.slot.Slot.{Slot}
use Rattle.ded_model.specs.Catalogue.{Catalogue, stored}
use Rattle.ded_model.specs.Lines.{Line, In, IsSubset, all_lines}
use Rattle.ded_model.specs.Logic.{atom, always, never, negation, every_of, some_of, implies, minus, exists, forall, logics, Sat, SatEvery, any_mentions}
use Rattle.ded_model.specs.Measure.{stored_measures, plan_atom_lines, plan_lines}
use Rattle.ded_model.specs.PlanForm.{scan, rows, PlanForm, PlanAtomHolds, in_plan_atom, plan_mentions}
use Rattle.ded_model.specs.Point.{slot, Point, IsPoint}
use Rattle.ded_model.proofs.Members.{subset_trans, subset_append, subset_none, In-left, In-right, In-split, or_split}
use Rattle.ded_model.proofs.Rows.{or_left, or_right}
use Rattle.ded_genrel.proofs.Laws.{conjs_hold-append, conjs_mention-append, conjs_lines-append}
use Rattle.ded_eval.specs.Joining.{IsJoinedWith}
use Rattle.ded_genrel.specs.Lists.{conjs_hold, conjs_mention, conjs_lines}
use Rattle.ded_eval.specs.Inside.{IsMeetInside}
use Rattle.ded_eval.specs.Within.{is_rows, rows_hold, all_rows_hold, AreRowsOf, IsBegun}
use Rattle.ded_eval.proofs.Evaluated.{IsListFor, every-push}

module _ (c : Catalogue) where
  -- where a plan holds, its rows do
  sat_rows : (f : PlanForm) (p : Point) → Sat (PlanAtomHolds (stored c)) f p → rows_hold f p ≡ true
  sat_rows (atom (scan n ss)) p y = refl
  sat_rows (atom (rows t)) p y = y
  sat_rows always p y = refl
  sat_rows never p y = refl
  sat_rows (negation f) p y = refl
  sat_rows (every_of fs) p y = refl
  sat_rows (some_of fs) p y = refl
  sat_rows (implies f g) p y = refl
  sat_rows (minus f g) p y = refl
  sat_rows (exists s k f) p y = refl
  sat_rows (forall s k f) p y = refl

  pub every_rows : (fs : List PlanForm) (p : Point) → SatEvery (PlanAtomHolds (stored c)) (logics fs) p → all_rows_hold fs p ≡ true
  every_rows [] p y = refl
  every_rows (f ∷ fs) p y = and_from _ _ (sat_rows f p y.0) (every_rows fs p y.1)

  -- rows hold where they do
  pub rows_sat : (f : PlanForm) (p : Point) → is_rows f ≡ true → rows_hold f p ≡ true → Sat (PlanAtomHolds (stored c)) f p
  rows_sat (atom (scan n ss)) p e y = absurd (true≢false (sym e))
  rows_sat (atom (rows t)) p e y = y
  rows_sat always p e y = absurd (true≢false (sym e))
  rows_sat never p e y = absurd (true≢false (sym e))
  rows_sat (negation f) p e y = absurd (true≢false (sym e))
  rows_sat (every_of fs) p e y = absurd (true≢false (sym e))
  rows_sat (some_of fs) p e y = absurd (true≢false (sym e))
  rows_sat (implies f g) p e y = absurd (true≢false (sym e))
  rows_sat (minus f g) p e y = absurd (true≢false (sym e))
  rows_sat (exists s k f) p e y = absurd (true≢false (sym e))
  rows_sat (forall s k f) p e y = absurd (true≢false (sym e))

-- ---- one part more

module _ {A : Type 0} (h : A → Point → Bool) (m : A → Slot → Bool) (l : A → List Line) (c : Catalogue) (inside : Point → Bool) (f : PlanForm) where
  -- what is met with the list of the part, where rows hold that hold inside
  pub met_with : (xs ys out : List (List A)) (within across : Point → Bool) → ((p : Point) → inside p ≡ true → conjs_hold h xs p ≡ true → within p ≡ true) → ((p : Point) → inside p ≡ true → across p ≡ true)
      → IsListFor h m l within c f ys → IsMeetInside h m l across xs ys out → IsJoinedWith h m l c inside f xs out
  met_with xs ys out within across k a e o = record {
    within = λ p i x. (o.within p i x).0;
    holds = λ p i w y. (λ x. (e.holds p i (k p w y)).0 (o.within p i x).1, λ x. o.holds p i (a p w) y ((e.holds p i (k p w y)).1 x));
    slots = λ s u. ⊎_elim (λ (x : conjs_mention m xs s ≡ true). or_left _ _ x) (λ x. or_right (conjs_mention m xs s) _ (e.slots s x)) (or_split _ _ (o.slots s u));
    lines = subset_trans (conjs_lines l out) (conjs_lines l xs ++ conjs_lines l ys) (conjs_lines l xs ++ plan_lines (stored_measures c) f) o.lines
        (subset_append (conjs_lines l xs) (conjs_lines l ys) (conjs_lines l xs) (plan_lines (stored_measures c) f) (λ x i. i) e.lines);
  }

  -- before the first part the list of the part itself
  pub first_with : (ys : List (List A)) (within : Point → Bool) → ((p : Point) → inside p ≡ true → within p ≡ true) → IsListFor h m l within c f ys → IsJoinedWith h m l c inside f ([] ∷ []) ys
  first_with ys within k e = record { within = λ p i x. refl; holds = λ p i w y. e.holds p i (k p w); slots = λ s u. e.slots s u; lines = e.lines }

  -- ---- one conjunction after another

  pub probed_none : IsJoinedWith h m l c inside f [] []
  probed_none = record { within = λ p i x. x; holds = λ p i w y. absurd (true≢false (sym y)); slots = λ s u. absurd (true≢false (sym u)); lines = subset_none _ }

  pub probed_more : (xs ys out new : List (List A)) → IsJoinedWith h m l c inside f xs out → IsJoinedWith h m l c inside f ys new → IsJoinedWith h m l c inside f (xs ++ ys) (out ++ new)
  probed_more xs ys out new a b = record {
    within = λ p i x. conjs_hold-append h xs ys p ∙ ⊎_elim (λ (y : conjs_hold h out p ≡ true). or_left _ _ (a.within p i y)) (λ y. or_right (conjs_hold h xs p) _ (b.within p i y)) (or_split _ _ (sym (conjs_hold-append h out new p) ∙ x));
    holds = λ p i w y. (
      λ x. ⊎_elim (λ (z : conjs_hold h out p ≡ true). (a.holds p i w (a.within p i z)).0 z) (λ z. (b.holds p i w (b.within p i z)).0 z) (or_split _ _ (sym (conjs_hold-append h out new p) ∙ x)),
      λ x. conjs_hold-append h out new p ∙ ⊎_elim (λ (z : conjs_hold h xs p ≡ true). or_left _ _ ((a.holds p i w z).1 x)) (λ z. or_right (conjs_hold h out p) _ ((b.holds p i w z).1 x)) (or_split _ _ (sym (conjs_hold-append h xs ys p) ∙ y)),
    );
    slots = λ s u. ⊎_elim (λ (x : conjs_mention m out s ≡ true). first s (a.slots s x)) (λ x. second s (b.slots s x)) (or_split _ _ (sym (conjs_mention-append m out new s) ∙ u));
    lines = λ x i. ⊎_elim (λ j. left x (In-split x (conjs_lines l xs) (plan_lines (stored_measures c) f) (a.lines x j))) (λ j. right x (In-split x (conjs_lines l ys) (plan_lines (stored_measures c) f) (b.lines x j)))
        (In-split x (conjs_lines l out) (conjs_lines l new) (subst (In x) (conjs_lines-append l out new) i));
  }
    where
      some : (s : Slot) → Bool
      some s = conjs_mention m (xs ++ ys) s || plan_mentions f (slot s)

      first : (s : Slot) → (conjs_mention m xs s || plan_mentions f (slot s)) ≡ true → some s ≡ true
      first s e = ⊎_elim (λ (x : conjs_mention m xs s ≡ true). or_left _ _ (conjs_mention-append m xs ys s ∙ or_left _ _ x)) (λ x. or_right (conjs_mention m (xs ++ ys) s) _ x) (or_split _ _ e)

      second : (s : Slot) → (conjs_mention m ys s || plan_mentions f (slot s)) ≡ true → some s ≡ true
      second s e = ⊎_elim (λ (x : conjs_mention m ys s ≡ true). or_left _ _ (conjs_mention-append m xs ys s ∙ or_right (conjs_mention m xs s) _ x)) (λ x. or_right (conjs_mention m (xs ++ ys) s) _ x) (or_split _ _ e)

      left : (x : Line) → In x (conjs_lines l xs) ⊎ In x (plan_lines (stored_measures c) f) → In x (conjs_lines l (xs ++ ys) ++ plan_lines (stored_measures c) f)
      left x (inl j) = In-left x (conjs_lines l (xs ++ ys)) _ (subst (In x) (sym (conjs_lines-append l xs ys)) (In-left x (conjs_lines l xs) (conjs_lines l ys) j))
      left x (inr j) = In-right x (conjs_lines l (xs ++ ys)) (plan_lines (stored_measures c) f) j

      right : (x : Line) → In x (conjs_lines l ys) ⊎ In x (plan_lines (stored_measures c) f) → In x (conjs_lines l (xs ++ ys) ++ plan_lines (stored_measures c) f)
      right x (inl j) = In-left x (conjs_lines l (xs ++ ys)) _ (subst (In x) (sym (conjs_lines-append l xs ys)) (In-right x (conjs_lines l xs) (conjs_lines l ys) j))
      right x (inr j) = In-right x (conjs_lines l (xs ++ ys)) (plan_lines (stored_measures c) f) j

-- ---- all parts

module _ {A : Type 0} (h : A → Point → Bool) (m : A → Slot → Bool) (l : A → List Line) (inside : Point → Bool) (c : Catalogue) (all : List PlanForm) where
  -- inside, the list holds where all rows and the first parts do; it has the slots and lines of the parts
  pub record IsJoined (fs : List PlanForm) (xs : List (List A)) : Type 0 where
    pub holds : (p : Point) → IsPoint p → inside p ≡ true → IsTrue (conjs_hold h xs p) ↔ ((all_rows_hold all p ≡ true) × SatEvery (PlanAtomHolds (stored c)) (logics fs) p)
    pub slots : (s : Slot) → conjs_mention m xs s ≡ true → any_mentions in_plan_atom (logics all) (slot s) ≡ true
    pub lines : IsSubset (conjs_lines l xs) (all_lines (plan_atom_lines (stored_measures c)) (logics all))

  pub joined_begun : (atoms : List A) (xs : List (List A)) → AreRowsOf h m l all atoms → IsBegun h m l atoms xs → IsJoined [] xs
  joined_begun atoms xs r b = record {
    holds = λ p i w. (λ x. (sym (r.holds p) ∙ sym (b.holds p i) ∙ x, tt), λ y. b.holds p i ∙ r.holds p ∙ y.0);
    slots = λ s u. r.slots s (b.slots s u);
    lines = subset_trans (conjs_lines l xs) _ (all_lines (plan_atom_lines (stored_measures c)) (logics all)) b.lines (r.lines (stored_measures c));
  }

  -- a part that is rows alone holds already
  pub joined_rows : (fs : List PlanForm) (f : PlanForm) (xs : List (List A)) → is_rows f ≡ true → ((p : Point) → all_rows_hold all p ≡ true → rows_hold f p ≡ true) → IsJoined fs xs → IsJoined (fs ++ f ∷ []) xs
  joined_rows fs f xs e k j = record {
    holds = λ p i w. (
      λ x. (let a = (j.holds p i w).0 x in (a.0, (every-push (PlanAtomHolds (stored c)) fs f p).1 (a.1, rows_sat c f p e (k p a.0)))),
      λ y. (j.holds p i w).1 (y.0, ((every-push (PlanAtomHolds (stored c)) fs f p).0 y.1).0),
    );
    slots = j.slots;
    lines = j.lines;
  }

  -- another part is joined
  pub joined_more : (fs : List PlanForm) (f : PlanForm) (xs out : List (List A)) (within : Point → Bool)
      → ((p : Point) → inside p ≡ true → all_rows_hold all p ≡ true → within p ≡ true)
      → ((s : Slot) → plan_mentions f (slot s) ≡ true → any_mentions in_plan_atom (logics all) (slot s) ≡ true) → IsSubset (plan_lines (stored_measures c) f) (all_lines (plan_atom_lines (stored_measures c)) (logics all))
      → IsJoined fs xs → IsJoinedWith h m l c within f xs out → IsJoined (fs ++ f ∷ []) out
  joined_more fs f xs out within k u z j o = record {
    holds = λ p i w. (
      λ x. (let y = o.within p i x in let a = (j.holds p i w).0 y in (a.0, (every-push (PlanAtomHolds (stored c)) fs f p).1 (a.1, (o.holds p i (k p w a.0) y).0 x))),
      λ y. (let q = (every-push (PlanAtomHolds (stored c)) fs f p).0 y.1 in (o.holds p i (k p w y.0) ((j.holds p i w).1 (y.0, q.0))).1 q.1),
    );
    slots = λ s v. ⊎_elim (λ (x : conjs_mention m xs s ≡ true). j.slots s x) (λ x. u s x) (or_split _ _ (o.slots s v));
    lines = subset_trans (conjs_lines l out) (conjs_lines l xs ++ plan_lines (stored_measures c) f) (all_lines (plan_atom_lines (stored_measures c)) (logics all)) o.lines
        (λ x i. ⊎_elim (λ y. j.lines x y) (λ y. z x y) (In-split x (conjs_lines l xs) (plan_lines (stored_measures c) f) i));
  }

  -- the list of first parts where all parts hold that these do, and of parts of which all hold where these do
  pub joined_all : (fs : List PlanForm) (xs : List (List A)) → ((p : Point) → SatEvery (PlanAtomHolds (stored c)) (logics all) p ↔ SatEvery (PlanAtomHolds (stored c)) (logics fs) p) → IsJoined fs xs → IsListFor h m l inside c (every_of (logics all)) xs
  joined_all fs xs k j = record { holds = λ p i w. (λ x. (k p).1 ((j.holds p i w).0 x).1, λ y. (j.holds p i w).1 (every_rows c all p y, (k p).0 y)); slots = j.slots; lines = j.lines }

  -- where the first parts leave nothing, all of them do
  pub joined_ends : (fs : List PlanForm) (xs : List (List A)) → length xs ≡ 0 → ((p : Point) → SatEvery (PlanAtomHolds (stored c)) (logics all) p → SatEvery (PlanAtomHolds (stored c)) (logics fs) p) → IsJoined fs xs → IsListFor h m l inside c (every_of (logics all)) xs
  joined_ends fs (x ∷ xs) e k j = absurd (omega (arith, e))
  joined_ends fs [] e k j = record {
    holds = λ p i w. (λ x. absurd (true≢false (sym x)), λ y. (j.holds p i w).1 (every_rows c all p y, k p y));
    slots = j.slots;
    lines = j.lines;
  }
