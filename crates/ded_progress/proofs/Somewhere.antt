-- Whether normal atoms hold somewhere together is decided: all their slots are projected away, and what is left is decided at the origin.
use Rattle.std.proofs.Common.{◌≡◌, ◌⊎◌, inl, inr, ⊎_elim, ℕ, Bool, true, false, cond, ◌&&◌, List, [], ◌∷◌, ◌++◌, map, refl, sym, ap, ap₂, ◌∙◌, subst, true≢false, arith}
use Rattle.std.specs.Prelude.{ℤ, pos, ◌+ℤ◌, ◌*ℤ◌}
use Rattle.std.specs.List.{AllByRecursion}
use Rattle.std.proofs.Math.IntN.{zero-*ℤ, *ℤ-one}
use Rattle.ded_model.specs.declared.slot.Slot.{Slot}
use Rattle.ded_model.specs.declared.slot.Sort.{Sort}
use Rattle.ded_model.specs.declared.slot.Sort.TheVariants.{Rat, Text}
use Rattle.ded_model.specs.declared.tuple.ThemeAtom.{ThemeAtom}
use Rattle.ded_model.specs.declared.tuple.ThemeAtom.TheVariants.{EqText, NeText, EqSlot, NeSlot}
use Rattle.ded_model.specs.declared.tuple.BothAtom.TheVariants.{First, Second}
use Rattle.ded_model.specs.Catalogue.{Catalogue, origin, PlanHolds, meaning}
use Rattle.ded_model.specs.Cell.{conj_holds, HoldsSomewhere, HoldsNowhere}
use Rattle.ded_model.specs.Coefs.{AreCoefs}
use Rattle.ded_model.specs.Constraint.{LinearConstraint}
use Rattle.ded_model.specs.Logic.{Sat, atom, exists}
use Rattle.ded_model.specs.Normal.{IsNormalTheme}
use Rattle.ded_model.specs.PlanForm.{PlanAtom, PlanForm, rows, PlanAtomHolds}
use Rattle.ded_model.specs.Point.{slot, Key, Value, number, text, Point, IsPoint, IsSamePoint, IsExtension, same_slot, stands_in, absent, last_from, as_number, as_text, number_at, text_at, times, all_times}
use Rattle.ded_model.specs.Row.{Atom, sum_at, sign_meets, row_holds, theme_holds, atom_holds, tuple_holds}
use Rattle.ded_model.proofs.Members.{or_split}
use Rattle.ded_model.proofs.Points.{same_slot_is, same_slot_refl, last_from-append}
use Rattle.ded_model.proofs.PointTexts.{extension-point, point-bytes}
use Rattle.ded_model.proofs.Rows.{or_left, or_right}
use Rattle.ded_model.proofs.Sats.{PlanHolds-same}
use Rattle.ded_laws.proofs.Decided.{plan_decided}
use Rattle.ded_algebra.specs.Compile.{projected}
use Rattle.ded_elimination.specs.LinearAtoms.{IsLinearAtom}

-- a row with short coefficients in order, or a normal text atom
abbrev pub IsSorted : Atom → Type 0
IsSorted (First r) = AreCoefs r.coefs
IsSorted (Second a) = IsNormalTheme a

-- ---- slots

theme_slots : ThemeAtom → List Slot
theme_slots (EqText s t) = s ∷ []
theme_slots (NeText s t) = s ∷ []
theme_slots (EqSlot s t) = s ∷ t ∷ []
theme_slots (NeSlot s t) = s ∷ t ∷ []

atom_slots : Atom → List Slot
atom_slots (First r) = map (λ c. c.0) r.coefs
atom_slots (Second a) = theme_slots a

-- the slots of the atoms, one after another
all_slots : List Atom → List Slot
all_slots [] = []
all_slots (a ∷ atoms) = atom_slots a ++ all_slots atoms

-- each slot of the first list stands in the second
abbrev AreIn : List Slot → List Slot → Type 0
AreIn ss us = AllByRecursion (λ s. stands_in us s ≡ true) ss

stands_left : (ss us : List Slot) (s : Slot) → stands_in ss s ≡ true → stands_in (ss ++ us) s ≡ true
stands_left [] us s h = absurd (true≢false (sym h))
stands_left (t ∷ ss) us s h = ⊎_elim (λ e. or_left (same_slot t s) _ e) (λ e. or_right (same_slot t s) _ (stands_left ss us s e)) (or_split (same_slot t s) (stands_in ss s) h)

stands_right : (ss us : List Slot) (s : Slot) → stands_in us s ≡ true → stands_in (ss ++ us) s ≡ true
stands_right [] us s h = h
stands_right (t ∷ ss) us s h = or_right (same_slot t s) _ (stands_right ss us s h)

each_weaker : (ss us vs : List Slot) → ((s : Slot) → stands_in us s ≡ true → stands_in vs s ≡ true) → AreIn ss us → AreIn ss vs
each_weaker [] us vs f h = tt
each_weaker (s ∷ ss) us vs f h = (f s h.0, each_weaker ss us vs f h.1)

in_own : (ss : List Slot) → AreIn ss ss
in_own [] = tt
in_own (s ∷ ss) = (or_left (same_slot s s) _ (same_slot_refl s), each_weaker ss ss (s ∷ ss) (λ t h. or_right (same_slot s t) _ h) (in_own ss))

turned : (s t : Slot) → same_slot s t ≡ true → same_slot t s ≡ true
turned s t h = subst (λ (u : Slot). same_slot t u ≡ true) (sym (same_slot_is s t h)) (same_slot_refl t)

-- ---- a point with the values that another has at slots

module _ (p : Point) (i : IsPoint p) where
  -- the value at a slot, as its sort says
  value : Sort → Slot → Value
  value Rat s = number (number_at p (slot s))
  value Text s = text (text_at p (slot s))

  coordinates : List Slot → List (Key × Value)
  coordinates [] = []
  coordinates (s ∷ ss) = coordinates ss ++ (slot s, value s.sort s) ∷ []

  with_slots : List Slot → Point
  with_slots ss = record { den = p.den; coords = coordinates ss }

  times_one : (v : Value) → v ≡ times 1 v
  unfolding lib.IntN.one
  times_one (number n) = ap number (sym (*ℤ-one n))
  times_one (text t) = refl

  all_once : (cs : List (Key × Value)) → cs ≡ all_times 1 cs
  all_once [] = refl
  all_once (c ∷ cs) = ap₂ (λ (v : Value) (ds : List (Key × Value)). (c.0, v) ∷ ds) (times_one c.1) (all_once cs)

  extended : (x : Sort) (s : Slot) (cs : List (Key × Value)) → IsExtension x (record { den = p.den; coords = cs }) (slot s) (record { den = p.den; coords = cs ++ (slot s, value x s) ∷ [] })
  unfolding value
  extended Rat s cs = record {
    factor = 1;
    positive = omega arith;
    value = number_at p (slot s);
    den = omega arith;
    coords = ap (λ (ds : List (Key × Value)). ds ++ (slot s, number (number_at p (slot s))) ∷ []) (all_once cs);
  }
  extended Text s cs = record { value = text_at p (slot s); bytes = point-bytes p (slot s) i; den = refl; coords = refl }

  -- what holds there, holds projected at the point without coordinates
  chained : (H : PlanAtom → Point → Type 0) (ss : List Slot) (f : PlanForm) → Sat H f (with_slots ss) → Sat H (projected ss f) (record { den = p.den; coords = [] })
  unfolding with_slots coordinates
  chained H [] f h = h
  chained H (s ∷ ss) f h = chained H ss (exists s.sort (slot s) f) (with_slots (s ∷ ss), extended s.sort s (coordinates ss), h)

  found : (ss : List Slot) (t : Slot) → stands_in ss t ≡ true → last_from absent (coordinates ss) (slot t) ≡ value t.sort t
  unfolding coordinates
  found [] t h = absurd (true≢false (sym h))
  found (s ∷ ss) t h = last_from-append absent (coordinates ss) (slot s, value s.sort s) (slot t) ∙ by (same_slot t s) refl (found ss t)
    where
      by : (b : Bool) → same_slot t s ≡ b → (stands_in ss t ≡ true → last_from absent (coordinates ss) (slot t) ≡ value t.sort t) → cond b (value s.sort s) (last_from absent (coordinates ss) (slot t)) ≡ value t.sort t
      by true e next = ap (λ (u : Slot). value u.sort u) (sym (same_slot_is t s e))
      by false e next = next (⊎_elim (λ k. absurd (true≢false (sym (turned s t k) ∙ e))) (λ k. k) (or_split (same_slot s t) (stands_in ss t) h))

  module _ (ss : List Slot) where
    numbers_same : (t : Slot) → t.sort ≡ Rat → stands_in ss t ≡ true → number_at (with_slots ss) (slot t) ≡ number_at p (slot t)
    unfolding with_slots value number_at
    numbers_same t e h = numbers (last_from absent (coordinates ss) (slot t)) (found ss t h ∙ ap (λ (x : Sort). value x t) e)
      where
        numbers : (v : Value) → v ≡ number (number_at p (slot t)) → as_number v ≡ number_at p (slot t)
        numbers v g = ap as_number g

    texts_same : (t : Slot) → t.sort ≡ Text → stands_in ss t ≡ true → text_at (with_slots ss) (slot t) ≡ text_at p (slot t)
    unfolding with_slots value text_at
    texts_same t e h = texts (last_from absent (coordinates ss) (slot t)) (found ss t h ∙ ap (λ (x : Sort). value x t) e)
      where
        texts : (v : Value) → v ≡ text (text_at p (slot t)) → as_text v ≡ text_at p (slot t)
        texts v g = ap as_text g

    sums_same : (cs : List (Slot × ℤ)) → AreCoefs cs → AreIn (map (λ c. c.0) cs) ss → sum_at cs (with_slots ss) ≡ sum_at cs p
    sums_same [] n h = refl
    sums_same (c ∷ cs) n h = ap₂ (λ (a b : ℤ). c.1 *ℤ a +ℤ b) (numbers_same c.0 n.0 h.0) (sums_same cs n.4 h.1)

    row_same : (r : LinearConstraint) → AreCoefs r.coefs → AreIn (map (λ c. c.0) r.coefs) ss → row_holds r (with_slots ss) ≡ row_holds r p
    unfolding row_holds with_slots
    row_same r n h = ap (λ (a : ℤ). sign_meets r.op (a +ℤ r.constant *ℤ pos p.den)) (sums_same r.coefs n h)

    theme_same : (a : ThemeAtom) → IsNormalTheme a → AreIn (theme_slots a) ss → theme_holds a (with_slots ss) ≡ theme_holds a p
    unfolding theme_holds theme_slots
    theme_same (EqText s t) n h = rw (texts_same s n.0 h.0) refl
    theme_same (NeText s t) n h = rw (texts_same s n.0 h.0) refl
    theme_same (EqSlot s t) n h = rw (texts_same s n.0 h.0, texts_same t n.1 h.1.0) refl
    theme_same (NeSlot s t) n h = rw (texts_same s n.0 h.0, texts_same t n.1 h.1.0) refl

    atom_same : (a : Atom) → IsSorted a → AreIn (atom_slots a) ss → atom_holds a (with_slots ss) ≡ atom_holds a p
    unfolding atom_holds atom_slots
    atom_same (First r) n h = row_same r n h
    atom_same (Second a) n h = theme_same a n h

  front_in : (xs ys us : List Slot) → AreIn (xs ++ ys) us → AreIn xs us
  front_in [] ys us h = tt
  front_in (x ∷ xs) ys us h = (h.0, front_in xs ys us h.1)

  back_in : (xs ys us : List Slot) → AreIn (xs ++ ys) us → AreIn ys us
  back_in [] ys us h = h
  back_in (x ∷ xs) ys us h = back_in xs ys us h.1

  atoms_same : (atoms : List Atom) (ss : List Slot) → AllByRecursion IsSorted atoms → AreIn (all_slots atoms) ss → tuple_holds atoms (with_slots ss) ≡ tuple_holds atoms p
  unfolding tuple_holds all_slots
  atoms_same [] ss n h = refl
  atoms_same (a ∷ atoms) ss n h =
      ap₂ (λ (x y : Bool). x && y) (atom_same ss a n.0 (front_in (atom_slots a) (all_slots atoms) ss h)) (atoms_same atoms ss n.1 (back_in (atom_slots a) (all_slots atoms) ss h))

-- ---- the other way round

reached : (H : PlanAtom → Point → Type 0) (ss : List Slot) (f : PlanForm) (p : Point) → IsPoint p → Sat H (projected ss f) p → (q : Point) × IsPoint q × Sat H f q
reached H [] f p i h = (p, i, h)
reached H (s ∷ ss) f p i h =
    let r = reached H ss (exists s.sort (slot s) f) p i h in
    let x = r.2 in
    (x.0, extension-point s.sort r.0 x.0 (slot s) r.1 x.1, x.2)

-- ---- the decision

origin_is : IsPoint origin
origin_is = record { positive = omega arith; bytes = tt }

-- the origin over another denominator
origins_same : (d : ℕ) → IsSamePoint (record { den = d; coords = [] }) origin
unfolding number_at text_at
origins_same d k = record { number = zero-*ℤ (pos 1) ∙ sym (zero-*ℤ (pos d)); text = refl }

module _ (c : Catalogue) where
  module _ (atoms : List Atom) (n : AllByRecursion IsSorted atoms) where
    closed : PlanForm
    closed = projected (all_slots atoms) (atom (rows atoms))

    holds_nowhere : ¬ PlanHolds c closed origin → (p : Point) → IsPoint p → tuple_holds atoms p ≡ false
    unfolding closed
    holds_nowhere none p i = by (tuple_holds atoms p) refl
      where
        by : (b : Bool) → tuple_holds atoms p ≡ b → b ≡ false
        by false e = refl
        by true e = absurd (none (PlanHolds-same c closed (record { den = p.den; coords = [] }) origin i.positive (omega arith) (λ k e. origins_same p.den k)
            (chained p i (PlanAtomHolds (meaning c)) (all_slots atoms) (atom (rows atoms)) (atoms_same p i atoms (all_slots atoms) n (in_own (all_slots atoms)) ∙ e))))

    pub somewhere_decided : HoldsSomewhere (tuple_holds atoms) ⊎ HoldsNowhere (tuple_holds atoms)
    unfolding closed
    somewhere_decided = ⊎_elim
        (λ (h : PlanHolds c closed origin). inl (reached (PlanAtomHolds (meaning c)) (all_slots atoms) (atom (rows atoms)) origin origin_is h))
        (λ none. inr (holds_nowhere none))
        (plan_decided c closed origin)

  -- ---- text atoms alone

  themes_as : List ThemeAtom → List Atom
  themes_as themes = map Second themes

  themes_hold : (themes : List ThemeAtom) (p : Point) → tuple_holds (themes_as themes) p ≡ conj_holds theme_holds themes p
  unfolding tuple_holds atom_holds themes_as
  themes_hold [] p = refl
  themes_hold (a ∷ themes) p = ap (λ (b : Bool). theme_holds a p && b) (themes_hold themes p)

  themes_sorted : (themes : List ThemeAtom) → AllByRecursion IsNormalTheme themes → AllByRecursion IsSorted (themes_as themes)
  unfolding themes_as
  themes_sorted [] n = tt
  themes_sorted (a ∷ themes) n = (n.0, themes_sorted themes n.1)

  pub themes_decided : (themes : List ThemeAtom) → AllByRecursion IsNormalTheme themes → HoldsSomewhere (conj_holds theme_holds themes) ⊎ HoldsNowhere (conj_holds theme_holds themes)
  themes_decided themes n = ⊎_elim
      (λ (s : HoldsSomewhere (tuple_holds (themes_as themes))). inl (s.0, s.1, sym (themes_hold themes s.0) ∙ s.2))
      (λ (none : HoldsNowhere (tuple_holds (themes_as themes))). inr (λ p i. sym (themes_hold themes p) ∙ none p i))
      (somewhere_decided (themes_as themes) (themes_sorted themes n))

  pub texts_decided : (themes : List ThemeAtom) → AllByRecursion IsNormalTheme themes → HoldsNowhere (conj_holds theme_holds themes) ⊎ (HoldsNowhere (conj_holds theme_holds themes) → ⊥)
  texts_decided themes n = ⊎_elim
      (λ (s : HoldsSomewhere (conj_holds theme_holds themes)). inr (λ none. true≢false (sym s.2 ∙ none s.0 s.1)))
      (λ (none : HoldsNowhere (conj_holds theme_holds themes)). inl none)
      (themes_decided themes n)

  -- ---- rows alone

  rows_as : List LinearConstraint → List Atom
  rows_as rs = map First rs

  rows_hold : (rs : List LinearConstraint) (p : Point) → tuple_holds (rows_as rs) p ≡ conj_holds row_holds rs p
  unfolding tuple_holds atom_holds rows_as
  rows_hold [] p = refl
  rows_hold (r ∷ rs) p = ap (λ (b : Bool). row_holds r p && b) (rows_hold rs p)

  rows_sorted : (rs : List LinearConstraint) → AllByRecursion IsLinearAtom rs → AllByRecursion IsSorted (rows_as rs)
  unfolding rows_as
  rows_sorted [] n = tt
  rows_sorted (r ∷ rs) n = (n.0.coefs, rows_sorted rs n.1)

  pub rows_decided : (rs : List LinearConstraint) → AllByRecursion IsLinearAtom rs → HoldsSomewhere (conj_holds row_holds rs) ⊎ HoldsNowhere (conj_holds row_holds rs)
  rows_decided rs n = ⊎_elim
      (λ (s : HoldsSomewhere (tuple_holds (rows_as rs))). inl (s.0, s.1, sym (rows_hold rs s.0) ∙ s.2))
      (λ (none : HoldsNowhere (tuple_holds (rows_as rs))). inr (λ p i. sym (rows_hold rs p) ∙ none p i))
      (somewhere_decided (rows_as rs) (rows_sorted rs n))
