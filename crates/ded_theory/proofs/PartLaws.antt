-- A conjunction of numbers and texts, from what is answered of its parts.
--
-- The atoms of numbers look at rational slots alone, those of texts at text slots alone. So an extension at a slot of the one
-- leaves the other part as it was, and a point that satisfies the one part and a point that satisfies the other give one that
-- satisfies both: the one's numbers with the other's texts.
use Rattle.std.proofs.Common.{◌≡◌, ◌<◌, Bool, true, false, ◌&&◌, List, Vec, Global, ◌⊎◌, inl, inr, ⊎_elim, refl, sym, ap, ap₂, ◌∙◌, subst, true≢false}
use Rattle.std.specs.Prelude.{◌↔◌, IsTrue}
use Rattle.std.specs.List.{AllByRecursion}
use Rattle.ded_model.specs.declared.slot.Slot.{Slot}
use Rattle.ded_model.specs.declared.slot.Sort.{Sort}
use Rattle.ded_model.specs.declared.slot.Sort.TheVariants.{Rat, Text}
use Rattle.ded_model.specs.declared.tuple.BothAtom.{BothAtom}
use Rattle.ded_model.specs.Point.{slot, same_slot, Point, IsPoint, IsSameAt, IsExtension}
use Rattle.ded_model.specs.Row.{row_mentions}
use Rattle.ded_model.specs.Bound.{lower, upper}
use Rattle.ded_model.specs.Cell.{conj_holds, HoldsSomewhere, HoldsNowhere}
use Rattle.ded_model.specs.Lines.{Line, In, IsSubset, elim_at}
use Rattle.ded_model.proofs.Points.{and_left, and_right, same_slot_is}
use Rattle.ded_model.proofs.Rows.{or_left, or_right}
use Rattle.ded_model.proofs.Members.{or_split, elim-grows, In-elim-kept}
use Rattle.ded_theory.specs.declared.answers.Eliminated.TheVariants.{Never, Conj}
use Rattle.ded_theory.specs.declared.answers.Verdict.{Verdict}
use Rattle.ded_theory.specs.declared.answers.Verdict.TheVariants.{Empty, Inhabited, Unknown}
use Rattle.ded_theory.specs.declared.answers.Span.{Span}
use Rattle.ded_theory.specs.declared.answers.Span.TheVariants.{Nothing, Exact, Around}
use Rattle.ded_theory.specs.Conjunctions.{conj_mentions, conj_lines, IsWide}
use Rattle.ded_theory.specs.Eliminations.{SomeExtension, IsElimination}
use Rattle.ded_theory.specs.Verdicts.{IsVerdict, IsSpan, IsAround, joined_verdict, joined_span}
use Rattle.ded_theory.specs.Both.{by_kind, IsByKind, firsts, seconds}
use Rattle.ded_theory.proofs.Conjunctions.{conj_holds-same, conj_holds-extended, conj_slots, conj_line_slots}
use Rattle.ded_theory.proofs.TwoKinds.{parts_hold, parts_mention, parts_normal, firsts_normal, seconds_normal, parts_lines, first_lines, second_lines}
use Rattle.ded_theory.proofs.Merged.{merged, merged_first, merged_second, merged_is}
use Rattle.ded_theory.proofs.Parted.{joined_exact, wide_more, SharesValues, exact_shared, bound_within, exact_bound}
use Rattle.ded_model.proofs.Bools.{and_swap}
use Rattle.ded_model.proofs.SlotLists.{rational_no_text}

-- ---- a theory of one sort

-- the laws of a theory whose normal atoms mention slots of one sort alone
pub record IsOfSort {A : Type 0} (h : A → Point → Bool) (m : A → Slot → Bool) (l : A → List Line) (n : A → Type 0) (s : Sort) : Type 0 where
  pub respects : (a : A) (p q : Point) → 0 < p.den → 0 < q.den → ((t : Slot) → m a t ≡ true → IsSameAt p q (slot t)) → h a p ≡ h a q
  pub sort : (a : A) (t : Slot) → n a → m a t ≡ true → t.sort ≡ s
  pub line_slots : (a : A) (x : Line) (t : Slot) → In x (l a) → row_mentions x t ≡ true → m a t ≡ true

-- what is owned where rational slots are and text slots aren't, and the other way
pub only_rational : (owned : Sort → Bool) → owned Text ≡ false → (s : Sort) → owned s ≡ true → s ≡ Rat
only_rational owned other Rat e = refl
only_rational owned other Text e = absurd (true≢false (sym e ∙ other))

pub only_texts : (owned : Sort → Bool) → owned Rat ≡ false → (s : Sort) → owned s ≡ true → s ≡ Text
only_texts owned other Rat e = absurd (true≢false (sym e ∙ other))
only_texts owned other Text e = refl

not_both : (a b : Bool) → (a ≡ false) ⊎ (b ≡ false) → (a && b) ≡ false
not_both true b (inl e) = absurd (true≢false e)
not_both true b (inr e) = e
not_both false b e = refl

-- a normal conjunction of one sort doesn't mention a slot of the other
module _ {A : Type 0} (h : A → Point → Bool) (m : A → Slot → Bool) (l : A → List Line) (n : A → Type 0) (s : Sort) (law : IsOfSort h m l n s) where
  other_sort : (atoms : List A) (t : Slot) → AllByRecursion n atoms → (t.sort ≡ s → ⊥) → conj_mentions m atoms t ≡ false
  other_sort atoms t k other = go (conj_mentions m atoms t) refl
    where
      go : (b : Bool) → conj_mentions m atoms t ≡ b → b ≡ false
      go true e = absurd (other (conj_slots n m (λ u. u.sort ≡ s) law.sort atoms t k e))
      go false e = refl

  -- so it holds alike at a point and an extension at that slot
  kept_holds : (atoms : List A) (t : Slot) → AllByRecursion n atoms → (t.sort ≡ s → ⊥) → (p : Point) → IsPoint p → (q : Point) → IsExtension t.sort p (slot t) q → conj_holds h atoms p ≡ conj_holds h atoms q
  kept_holds atoms t k other p i q x = conj_holds-extended h m law.respects atoms t p q i.positive (other_sort atoms t k other) x

  -- and its lines stay
  kept_lines : (atoms : List A) (t : Slot) (ls : List Line) → AllByRecursion n atoms → (t.sort ≡ s → ⊥) → IsSubset (conj_lines l atoms) ls → IsSubset (conj_lines l atoms) (elim_at t ls)
  kept_lines atoms t ls k other more x i = In-elim-kept t ls x (more x i) (go (row_mentions x t) refl)
    where
      go : (b : Bool) → row_mentions x t ≡ b → b ≡ false
      go true e = absurd (true≢false (sym (conj_line_slots l m law.line_slots atoms x t i e) ∙ other_sort atoms t k other))
      go false e = refl

module _ {A B : Type 0} (hA : A → Point → Bool) (mA : A → Slot → Bool) (lA : A → List Line) (nA : A → Type 0) (lawA : IsOfSort hA mA lA nA Rat)
    (hB : B → Point → Bool) (mB : B → Slot → Bool) (lB : B → List Line) (nB : B → Type 0) (lawB : IsOfSort hB mB lB nB Text) where
  -- ---- eliminations from the first part
  module _ (xs : List (BothAtom A B)) (s : Slot) (r : s.sort ≡ Rat) (k : AllByRecursion (IsByKind nA nB) xs) where
    not_text : s.sort ≡ Text → ⊥
    not_text e = rational_no_text (sym r ∙ e)

    pub never_first : IsElimination hA mA lA nA (firsts xs) s Never → IsElimination (by_kind hA hB) (by_kind mA mB) (by_kind lA lB) (IsByKind nA nB) xs s Never
    never_first e = record {
      holds = λ p i. (λ f. absurd (true≢false (sym f)), λ w. (e.holds p i).1 (w.0, w.1, and_left (conj_holds hA (firsts xs) w.0) (conj_holds hB (seconds xs) w.0) (sym (parts_hold hA hB xs w.0) ∙ w.2)));
      normal = tt;
      slots = λ t f. absurd (true≢false (sym f));
      lines = λ x i. absurd i;
    }

    pub conj_first : (v : Vec A Global) (w : Vec (BothAtom A B) Global) → IsElimination hA mA lA nA (firsts xs) s (Conj v) → firsts w.items ≡ v.items → seconds w.items ≡ seconds xs
        → IsElimination (by_kind hA hB) (by_kind mA mB) (by_kind lA lB) (IsByKind nA nB) xs s (Conj w)
    conj_first v w e f g = record {
      holds = λ p i. subst (λ b. IsTrue b ↔ SomeExtension s (conj_holds (by_kind hA hB) xs) p)
          (sym (parts_hold hA hB w.items p ∙ ap₂ (λ ys zs. conj_holds hA ys p && conj_holds hB zs p) f g))
          (joined_exact s p (conj_holds (by_kind hA hB) xs) (conj_holds hA (firsts xs)) (conj_holds hB (seconds xs)) (conj_holds hA v.items p) (parts_hold hA hB xs) (e.holds p i)
          (kept_holds hB mB lB nB Text lawB (seconds xs) s (seconds_normal nA nB xs k) not_text p i));
      normal = parts_normal nA nB w.items (subst (AllByRecursion nA) (sym f) e.normal) (subst (AllByRecursion nB) (sym g) (seconds_normal nA nB xs k));
      slots = λ t h. ⊎_elim
          (λ (i : conj_mentions mA (firsts w.items) t ≡ true). let j = e.slots t (ap (λ ys. conj_mentions mA ys t) (sym f) ∙ i) in
          (j.0, parts_mention mA mB xs t ∙ or_left (conj_mentions mA (firsts xs) t) (conj_mentions mB (seconds xs) t) j.1))
          (λ i. let j = ap (λ ys. conj_mentions mB ys t) (sym g) ∙ i in (
            apart_from t (conj_slots nB mB (λ u. u.sort ≡ Text) lawB.sort (seconds xs) t (seconds_normal nA nB xs k) j) (same_slot t s) refl,
            parts_mention mA mB xs t ∙ or_right (conj_mentions mA (firsts xs) t) (conj_mentions mB (seconds xs) t) j,
          ))
          (or_split (conj_mentions mA (firsts w.items) t) (conj_mentions mB (seconds w.items) t) (sym (parts_mention mA mB w.items t) ∙ h));
      lines = λ x i. ⊎_elim
          (λ (j : In x (conj_lines lA (firsts w.items))). elim-grows s (conj_lines lA (firsts xs)) (conj_lines (by_kind lA lB) xs) (first_lines lA lB xs) x (e.lines x (subst (λ ys. In x (conj_lines lA ys)) f j)))
          (λ j. kept_lines hB mB lB nB Text lawB (seconds xs) s (conj_lines (by_kind lA lB) xs) (seconds_normal nA nB xs k) not_text (second_lines lA lB xs) x (subst (λ ys. In x (conj_lines lB ys)) g j))
          (parts_lines lA lB w.items x i);
    }
      where
        apart_from : (t : Slot) → t.sort ≡ Text → (b : Bool) → same_slot t s ≡ b → b ≡ false
        apart_from t e true h = absurd (not_text (ap (λ u. u.sort) (sym (same_slot_is t s h)) ∙ e))
        apart_from t e false h = refl

  -- ---- eliminations from the second part
  module _ (xs : List (BothAtom A B)) (s : Slot) (r : s.sort ≡ Text) (k : AllByRecursion (IsByKind nA nB) xs) where
    not_rational : s.sort ≡ Rat → ⊥
    not_rational e = rational_no_text (sym e ∙ r)

    pub never_second : IsElimination hB mB lB nB (seconds xs) s Never → IsElimination (by_kind hA hB) (by_kind mA mB) (by_kind lA lB) (IsByKind nA nB) xs s Never
    never_second e = record {
      holds = λ p i. (λ f. absurd (true≢false (sym f)), λ w. (e.holds p i).1 (w.0, w.1, and_right (conj_holds hA (firsts xs) w.0) (conj_holds hB (seconds xs) w.0) (sym (parts_hold hA hB xs w.0) ∙ w.2)));
      normal = tt;
      slots = λ t f. absurd (true≢false (sym f));
      lines = λ x i. absurd i;
    }

    pub conj_second : (v : Vec B Global) (w : Vec (BothAtom A B) Global) → IsElimination hB mB lB nB (seconds xs) s (Conj v) → firsts w.items ≡ firsts xs → seconds w.items ≡ v.items
        → IsElimination (by_kind hA hB) (by_kind mA mB) (by_kind lA lB) (IsByKind nA nB) xs s (Conj w)
    conj_second v w e f g = record {
      holds = λ p i. subst (λ b. IsTrue b ↔ SomeExtension s (conj_holds (by_kind hA hB) xs) p)
          (sym (parts_hold hA hB w.items p ∙ ap₂ (λ ys zs. conj_holds hA ys p && conj_holds hB zs p) f g ∙ and_swap (conj_holds hA (firsts xs) p) (conj_holds hB v.items p)))
          (joined_exact s p (conj_holds (by_kind hA hB) xs) (conj_holds hB (seconds xs)) (conj_holds hA (firsts xs)) (conj_holds hB v.items p)
          (λ q. parts_hold hA hB xs q ∙ and_swap (conj_holds hA (firsts xs) q) (conj_holds hB (seconds xs) q)) (e.holds p i)
          (kept_holds hA mA lA nA Rat lawA (firsts xs) s (firsts_normal nA nB xs k) not_rational p i));
      normal = parts_normal nA nB w.items (subst (AllByRecursion nA) (sym f) (firsts_normal nA nB xs k)) (subst (AllByRecursion nB) (sym g) e.normal);
      slots = λ t h. ⊎_elim
          (λ (i : conj_mentions mA (firsts w.items) t ≡ true). let j = ap (λ ys. conj_mentions mA ys t) (sym f) ∙ i in (
            apart_from t (conj_slots nA mA (λ u. u.sort ≡ Rat) lawA.sort (firsts xs) t (firsts_normal nA nB xs k) j) (same_slot t s) refl,
            parts_mention mA mB xs t ∙ or_left (conj_mentions mA (firsts xs) t) (conj_mentions mB (seconds xs) t) j,
          ))
          (λ i. let j = e.slots t (ap (λ ys. conj_mentions mB ys t) (sym g) ∙ i) in
          (j.0, parts_mention mA mB xs t ∙ or_right (conj_mentions mA (firsts xs) t) (conj_mentions mB (seconds xs) t) j.1))
          (or_split (conj_mentions mA (firsts w.items) t) (conj_mentions mB (seconds w.items) t) (sym (parts_mention mA mB w.items t) ∙ h));
      lines = λ x i. ⊎_elim
          (λ (j : In x (conj_lines lA (firsts w.items))). kept_lines hA mA lA nA Rat lawA (firsts xs) s (conj_lines (by_kind lA lB) xs) (firsts_normal nA nB xs k) not_rational (first_lines lA lB xs) x (subst (λ ys. In x (conj_lines lA ys)) f j))
          (λ j. elim-grows s (conj_lines lB (seconds xs)) (conj_lines (by_kind lA lB) xs) (second_lines lA lB xs) x (e.lines x (subst (λ ys. In x (conj_lines lB ys)) g j)))
          (parts_lines lA lB w.items x i);
    }
      where
        apart_from : (t : Slot) → t.sort ≡ Rat → (b : Bool) → same_slot t s ≡ b → b ≡ false
        apart_from t e true h = absurd (not_rational (ap (λ u. u.sort) (sym (same_slot_is t s h)) ∙ e))
        apart_from t e false h = refl

  -- ---- verdicts
  module _ (xs : List (BothAtom A B)) (k : AllByRecursion (IsByKind nA nB) xs) where
    -- a point of each part gives one of both, with the numbers of the first
    pub both_hold : (p q : Point) → IsPoint p → IsPoint q → conj_holds hA (firsts xs) p ≡ true → conj_holds hB (seconds xs) q ≡ true → conj_holds (by_kind hA hB) xs (merged p q) ≡ true
    both_hold p q i j f g =
        let m = merged_is p q i j in
        parts_hold hA hB xs (merged p q) ∙ ap₂ (λ b c. b && c)
        (sym (conj_holds-same hA mA lawA.respects (firsts xs) p (merged p q) i.positive m.positive (λ t e. merged_first p q t (conj_slots nA mA (λ u. u.sort ≡ Rat) lawA.sort (firsts xs) t (firsts_normal nA nB xs k) e))) ∙ f)
        (sym (conj_holds-same hB mB lawB.respects (seconds xs) q (merged p q) j.positive m.positive (λ t e. merged_second p q t (conj_slots nB mB (λ u. u.sort ≡ Text) lawB.sort (seconds xs) t (seconds_normal nA nB xs k) e))) ∙ g)

    nowhere_first : HoldsNowhere (conj_holds hA (firsts xs)) → HoldsNowhere (conj_holds (by_kind hA hB) xs)
    nowhere_first h p i = parts_hold hA hB xs p ∙ not_both (conj_holds hA (firsts xs) p) (conj_holds hB (seconds xs) p) (inl (h p i))

    pub nowhere_second : HoldsNowhere (conj_holds hB (seconds xs)) → HoldsNowhere (conj_holds (by_kind hA hB) xs)
    nowhere_second h p i = parts_hold hA hB xs p ∙ not_both (conj_holds hA (firsts xs) p) (conj_holds hB (seconds xs) p) (inr (h p i))

    wide_first : IsWide mA lA (firsts xs) → IsWide (by_kind mA mB) (by_kind lA lB) xs
    wide_first = wide_more mA lA (by_kind mA mB) (by_kind lA lB) (firsts xs) xs (first_lines lA lB xs) (λ s e. parts_mention mA mB xs s ∙ or_left (conj_mentions mA (firsts xs) s) (conj_mentions mB (seconds xs) s) e)

    wide_second : IsWide mB lB (seconds xs) → IsWide (by_kind mA mB) (by_kind lA lB) xs
    wide_second = wide_more mB lB (by_kind mA mB) (by_kind lA lB) (seconds xs) xs (second_lines lA lB xs) (λ s e. parts_mention mA mB xs s ∙ or_right (conj_mentions mA (firsts xs) s) (conj_mentions mB (seconds xs) s) e)

    pub verdicts_joined : (v w : Verdict) → IsVerdict hA mA lA (firsts xs) v → IsVerdict hB mB lB (seconds xs) w → IsVerdict (by_kind hA hB) (by_kind mA mB) (by_kind lA lB) xs (joined_verdict v w)
    verdicts_joined Empty w e f = nowhere_first e
    verdicts_joined Inhabited Empty e f = nowhere_second f
    verdicts_joined Inhabited Inhabited e f = (merged e.0 f.0, merged_is e.0 f.0 e.1 f.1, both_hold e.0 f.0 e.1 f.1 e.2 f.2)
    verdicts_joined Inhabited Unknown e f = wide_second f
    verdicts_joined Unknown Empty e f = nowhere_second f
    verdicts_joined Unknown Inhabited e f = wide_first e
    verdicts_joined Unknown Unknown e f = wide_first e

    -- ---- bounds
    within_first : (p : Point) → IsTrue (conj_holds (by_kind hA hB) xs p) → IsTrue (conj_holds hA (firsts xs) p)
    within_first p h = and_left (conj_holds hA (firsts xs) p) (conj_holds hB (seconds xs) p) (sym (parts_hold hA hB xs p) ∙ h)

    shared_first : (s : Slot) → s.sort ≡ Rat → HoldsSomewhere (conj_holds hB (seconds xs)) → SharesValues s (conj_holds hA (firsts xs)) (conj_holds (by_kind hA hB) xs)
    shared_first s r w = record {
      within = within_first;
      shared = λ p i h. (merged p w.0, merged_is p w.0 i w.1, both_hold p w.0 i w.1 h w.2, merged_first p w.0 s r);
    }

    pub spans_joined : (s : Slot) → s.sort ≡ Rat → (span : Span) (w : Verdict) → IsSpan hA mA lA (firsts xs) s span → IsVerdict hB mB lB (seconds xs) w
        → IsSpan (by_kind hA hB) (by_kind mA mB) (by_kind lA lB) xs s (joined_span span w)
    spans_joined s r span Empty e f = nowhere_second f
    spans_joined s r Nothing Inhabited e f = nowhere_first e
    spans_joined s r (Exact l u) Inhabited e f = let h = shared_first s r f in
        (exact_shared s (conj_holds hA (firsts xs)) (conj_holds (by_kind hA hB) xs) h lower l e.0, exact_shared s (conj_holds hA (firsts xs)) (conj_holds (by_kind hA hB) xs) h upper u e.1)
    spans_joined s r (Around l u) Inhabited e f =
        (wide_first e.0, bound_within s (conj_holds hA (firsts xs)) (conj_holds (by_kind hA hB) xs) within_first lower l e.1, bound_within s (conj_holds hA (firsts xs)) (conj_holds (by_kind hA hB) xs) within_first upper u e.2)
    spans_joined s r Nothing Unknown e f = nowhere_first e
    spans_joined s r (Exact l u) Unknown e f = (
      wide_second f,
      bound_within s (conj_holds hA (firsts xs)) (conj_holds (by_kind hA hB) xs) within_first lower l (exact_bound (conj_holds hA (firsts xs)) s lower l e.0),
      bound_within s (conj_holds hA (firsts xs)) (conj_holds (by_kind hA hB) xs) within_first upper u (exact_bound (conj_holds hA (firsts xs)) s upper u e.1),
    )
    spans_joined s r (Around l u) Unknown e f =
        (wide_first e.0, bound_within s (conj_holds hA (firsts xs)) (conj_holds (by_kind hA hB) xs) within_first lower l e.1, bound_within s (conj_holds hA (firsts xs)) (conj_holds (by_kind hA hB) xs) within_first upper u e.2)

-- ---- theories that decide

-- of two verdicts that are known
pub verdict_decided : (v w : Verdict) → (v ≡ Unknown → ⊥) → (w ≡ Unknown → ⊥) → joined_verdict v w ≡ Unknown → ⊥
verdict_decided Empty w f g e = f e
verdict_decided Inhabited w f g e = g e
verdict_decided Unknown w f g e = f refl

-- of bounds that are exact, and a verdict that is known
pub span_exact : (s : Span) (w : Verdict) → (IsAround s → ⊥) → (w ≡ Unknown → ⊥) → IsAround (joined_span s w) → ⊥
span_exact s Empty f g a = a
span_exact s Inhabited f g a = f a
span_exact s Unknown f g a = g refl
