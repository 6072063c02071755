-- The exact bounds that rows give a slot, unless lines clash that eliminations of the other slots meet.
use Rattle.std.proofs.Common.{◌≡◌, ◌⊎◌, inl, inr, ℕ, suc, Bool, true, false, nat_lt, List, [], ◌∷◌, length, arith, refl, sym, ◌∙◌, true≢false}
use Rattle.std.specs.Prelude.{ℤ}
use Rattle.std.specs.List.{AllByRecursion, list_all}
use Rattle.std.proofs.lemmas.Bool.Decides.{nat_tests}
use Rattle.ded_model.specs.declared.bound.Bound.{Bound}
use Rattle.ded_model.specs.declared.bound.Bound.TheVariants.{Infinite}
use Rattle.ded_model.specs.declared.slot.Slot.{Slot}
use Rattle.ded_model.specs.declared.slot.Sort.TheVariants.{Rat}
use Rattle.ded_model.specs.Bound.{End, lower, upper}
use Rattle.ded_model.specs.Constraint.{LinearConstraint}
use Rattle.ded_model.specs.Lines.{IsSubset, row_lines, elim_at, clash_at}
use Rattle.ded_model.specs.Point.{same_slot, stands_in}
use Rattle.ded_model.specs.Row.{row_mentions}
use Rattle.ded_model.proofs.Members.{or_split}
use Rattle.ded_model.proofs.Points.{and_left, and_right, same_slot_refl}
use Rattle.ded_model.proofs.Rows.{or_left, or_right}
use Rattle.ded_model.proofs.SlotLists.{same_slot-turned}
use Rattle.ded_theory.specs.declared.answers.Span.{Span}
use Rattle.ded_theory.specs.declared.answers.Span.TheVariants.{Nothing, Exact, Around}
use Rattle.ded_theory.specs.Conjunctions.{conj_mentions, conj_lines}
use Rattle.ded_elimination.specs.LinearAtoms.{IsLinearAtom}
use Rattle.ded_box.specs.Intervals.{OnFraction, IsInterval, may_meet, narrower}
use Rattle.ded_box.proofs.Insides.{narrower-fraction}
use Rattle.ded_linear.specs.Intervals.{narrowed, row_bound, row_fits, is_single}
use Rattle.ded_linear.specs.SlotLists.{AreOthers, IsTaken, with_all_slots}
use Rattle.ded_linear.proofs.Boxes.{AreBox, alone_single, box_exact, box_apart, box_misfit}
use Rattle.ded_linear.proofs.Roots.{IsSingle, IsProper, row_proper, proper_positive}
use Rattle.ded_linear.proofs.SlotLists.{others, others_left, others_same, none_left, taken_apart}
use Rattle.ded_linear.proofs.Steps.{RowsSpan, IsStep, span_before, mentioned_rational}
use Rattle.ded_progress.proofs.Eliminating.{IsAny, IsReduced, any_reduced}

abbrev Rows : Type 0
Rows = List LinearConstraint

-- of rows of which lines clash at a slot that they mention, and of rows where it is so of what an elimination leaves of them
pub record IsPassedOn (Bad : List LinearConstraint → Type 0) : Type 0 where
  pub now : (t : Slot) (rows : List LinearConstraint) → t.sort ≡ Rat → conj_mentions row_mentions rows t ≡ true → clash_at t (conj_lines row_lines rows) ≡ true → Bad rows
  pub later : (t : Slot) (rows out : List LinearConstraint) → t.sort ≡ Rat → conj_mentions row_mentions rows t ≡ true
      → ((u : Slot) → conj_mentions row_mentions out u ≡ true → (same_slot u t ≡ false) × (conj_mentions row_mentions rows u ≡ true))
      → IsSubset (conj_lines row_lines out) (elim_at t (conj_lines row_lines rows)) → Bad out → Bad rows

-- nothing, or exact bounds that are values
abbrev pub IsKnown : Span → Type 0
IsKnown Nothing = Unit {0}
IsKnown (Exact l u) = IsInterval (l, u)
IsKnown (Around l u) = ⊥

-- the rows give the slot such bounds
pub record HasSpan (s : Slot) (rows : List LinearConstraint) : Type 0 where
  pub span : Span
  pub is : RowsSpan rows s span
  pub known : IsKnown span

-- ---- rows of one slot

single_list : (cs : List (Slot × ℤ)) → nat_lt (length cs) 2 ≡ true → IsSingle cs
single_list [] h = tt
single_list (c ∷ []) h = tt
single_list (c ∷ d ∷ cs) h = absurd (long (length cs) h)
  where
    long : (n : ℕ) → nat_lt (suc (suc n)) 2 ≡ true → ⊥
    long n h = grind (arith, nat_tests)

narrowed_proper : (e : End) (s : Slot) (b : Bound) (rows : Rows) → AllByRecursion IsLinearAtom rows → list_all is_single rows ≡ true → OnFraction IsProper b → OnFraction IsProper (narrowed e s b rows)
narrowed_proper e s b [] h k p = p
narrowed_proper e s b (r ∷ rows) h k p =
    narrowed_proper e s (narrower e b (row_bound e s r)) rows h.1 (and_right (is_single r) _ k)
    (narrower-fraction IsProper e b (row_bound e s r) p (row_proper e s r h.0 (single_list r.coefs (and_left (is_single r) _ k))))

module _ (s : Slot) (rows : Rows) (linear : AllByRecursion IsLinearAtom rows) (only : (t : Slot) → conj_mentions row_mentions rows t ≡ true → same_slot t s ≡ true) where
  single : list_all is_single rows ≡ true
  single = alone_single s rows linear only

  box : AreBox rows
  box = record { atoms = linear; single = single }

  positive : (e : End) → OnFraction IsProper (narrowed e s Infinite rows)
  positive e = narrowed_proper e s Infinite rows linear single tt

  alone : HasSpan s rows
  alone = by (list_all (row_fits rows s) rows) refl (may_meet (narrowed lower s Infinite rows) (narrowed upper s Infinite rows)) refl
    where
      by : (f : Bool) → list_all (row_fits rows s) rows ≡ f → (m : Bool) → may_meet (narrowed lower s Infinite rows) (narrowed upper s Infinite rows) ≡ m → HasSpan s rows
      by false e m g = record { span = Nothing; is = box_misfit s rows box e; known = tt }
      by true e false g = record { span = Nothing; is = box_apart s rows box (narrowed lower s Infinite rows) (narrowed upper s Infinite rows) refl refl g; known = tt }
      by true e true g = record {
        span = Exact (narrowed lower s Infinite rows) (narrowed upper s Infinite rows);
        is = box_exact s rows box (narrowed lower s Infinite rows) (narrowed upper s Infinite rows) refl refl e g;
        known = (proper_positive (narrowed lower s Infinite rows) (positive lower), proper_positive (narrowed upper s Infinite rows) (positive upper));
      }

-- ---- the other slots are eliminated

first_taken : (t : Slot) (ts : List Slot) → IsTaken (t ∷ ts) t ts
first_taken t ts = record {
  there = or_left (same_slot t t) _ (same_slot_refl t);
  left = λ u h n. elim (or_split (same_slot t u) (stands_in ts u) h) [
    | inl e ↦ absurd (true≢false (sym e ∙ same_slot-turned u t n))
    | inr i ↦ i
  ];
  fewer = λ u h. or_right (same_slot t u) _ h;
  shorter = omega arith;
}

module _ (Bad : Rows → Type 0) (passed : IsPassedOn Bad) (s : Slot) where
  spanned : (ss : List Slot) (rows : Rows) → AllByRecursion IsLinearAtom rows → AreOthers s ss rows → HasSpan s rows ⊎ Bad rows
  spanned [] rows linear o = inl (alone s rows linear (none_left s [] rows o refl))
  spanned (t ∷ ts) rows linear o = by (conj_mentions row_mentions rows t) refl (clash_at t (conj_lines row_lines rows)) refl (λ out l k. spanned ts out l k)
    where
      step : conj_mentions row_mentions rows t ≡ true → ((out : Rows) → AllByRecursion IsLinearAtom out → AreOthers s ts out → HasSpan s out ⊎ Bad out) → IsReduced IsAny t rows → HasSpan s rows ⊎ Bad rows
      step m next x =
          let rational = mentioned_rational rows t linear m in
          let one : IsStep s t rows x.left = record {
            sort = rational;
            apart = taken_apart s (t ∷ ts) t ts rows o (first_taken t ts);
            mentioned = m;
            holds = x.step.holds;
            slots = x.step.slots;
            lines = x.step.lines;
          } in
          elim (next x.left x.linear (others_left s (t ∷ ts) t ts rows x.left o (first_taken t ts) x.step.slots)) [
            | inl h ↦ inl (record { span = h.span; is = span_before s t rows x.left one h.span h.is; known = h.known })
            | inr bad ↦ inr (passed.later t rows x.left rational m x.step.slots x.step.lines bad)
          ]

      by : (b : Bool) → conj_mentions row_mentions rows t ≡ b → (d : Bool) → clash_at t (conj_lines row_lines rows) ≡ d → ((out : Rows) → AllByRecursion IsLinearAtom out → AreOthers s ts out → HasSpan s out ⊎ Bad out) → HasSpan s rows ⊎ Bad rows
      by false m d e next = next rows linear (others_same s (t ∷ ts) t ts rows o (first_taken t ts) m)
      by true m true e next = inr (passed.now t rows (mentioned_rational rows t linear m) m e)
      by true m false e next = step m next (any_reduced t rows linear e)

  pub slot_spanned : (rows : Rows) → AllByRecursion IsLinearAtom rows → HasSpan s rows ⊎ Bad rows
  slot_spanned rows linear = spanned (with_all_slots s [] rows) rows linear (others s (with_all_slots s [] rows) rows refl)
