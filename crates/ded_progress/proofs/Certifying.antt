-- Two normal tuples have a common point, or a certificate shows that they have none, where they aren't wide.
use Rattle.std.proofs.Common.{◌≡◌, ◌⊎◌, inl, inr, ℕ, ◌+◌, ◌^◌, ◌<◌, ◌≤◌, max, Bool, true, false, List, [], ◌∷◌, ◌++◌, length, refl, arith}
use Rattle.std.specs.Prelude.{ℤ, pos}
use Rattle.std.specs.List.{AllByRecursion}
use Rattle.std.proofs.lemmas.Int.{by_lt_z}
use Rattle.ded_model.specs.declared.certificate.Proof.{Proof}
use Rattle.ded_model.specs.declared.certificate.Proof.TheVariants.{Text, Multipliers}
use Rattle.ded_model.specs.declared.slot.Slot.{Slot}
use Rattle.ded_model.specs.Catalogue.{Catalogue}
use Rattle.ded_model.specs.Cell.{conj_holds, HoldsSomewhere, HoldsNowhere}
use Rattle.ded_model.specs.Coefs.{AllBelow, coef_at}
use Rattle.ded_model.specs.Constraint.{LinearConstraint}
use Rattle.ded_model.specs.Lines.{In}
use Rattle.ded_model.specs.Normal.{IsNormalTuple}
use Rattle.ded_model.specs.Row.{Atom, row_holds, tuple_holds}
use Rattle.ded_model.specs.Scanned.{above_coefs}
use Rattle.ded_theory.specs.Both.{firsts, seconds}
use Rattle.ded_elimination.specs.LinearAtoms.{IsLinearAtom}
use Rattle.ded_weighing.specs.Gathered.{with_all_slots}
use Rattle.ded_weighing.proofs.Slotted.{gathered_all, gathered_only, gathered_distinct}
use Rattle.ded_cert.specs.Certified.{HasSmallSum, IsWidePair}
use Rattle.ded_cert.specs.Checks.{Checks}
use Rattle.ded_cert.specs.Tracing.{tag, traces, AreBelow, AreWideRows, multipliers, is_refuting}
use Rattle.ded_cert.proofs.Farkas.{Search, coefs_of, search_finds, search_wide, found_refutes, found_small, found_wide}
use Rattle.ded_cert.proofs.Lengths.{wide_pair}
use Rattle.ded_cert.proofs.LinearTraces.{traces_linear, traces_weak}
use Rattle.ded_cert.proofs.Meeting.{common_point}
use Rattle.ded_cert.proofs.Widths.{all_rational}
use Rattle.ded_weighing.specs.Weighing.{refutes}
use Rattle.ded_cert.specs.Certified.{magnitudes}
use Rattle.ded_progress.proofs.Eliminating.{IsWeak, weak_reduced, IsLeft, all_eliminated}
use Rattle.ded_progress.proofs.Paired.{linear_rows, normal_texts}
use Rattle.ded_progress.proofs.Somewhere.{rows_decided, themes_decided}

-- ---- a number above those of all slots

above_rows : List LinearConstraint → ℕ
above_rows [] = 0
above_rows (r ∷ rs) = max (above_coefs r.coefs) (above_rows rs)

coefs_below : (n : ℕ) (cs : List (Slot × ℤ)) → above_coefs cs ≤ n → AllBelow n cs
coefs_below n [] h = tt
coefs_below n (c ∷ cs) h = (omega (arith, h), coefs_below n cs (omega (arith, h)))

rows_below : (n : ℕ) (rs : List LinearConstraint) → above_rows rs ≤ n → AreBelow n rs
unfolding above_rows
rows_below n [] h = tt
rows_below n (r ∷ rs) h = (coefs_below n r.coefs (omega (arith, h)), rows_below n rs (omega (arith, h)))

-- ---- a row that tells multipliers

-- some row of the list is false where the tags are 0, or none is
refuting : (b : ℕ) (rs : List LinearConstraint) → ((r : LinearConstraint) × In r rs × (is_refuting b r ≡ true)) ⊎ AllByRecursion (λ r. is_refuting b r ≡ false) rs
refuting b [] = inr tt
refuting b (r ∷ rs) = by (is_refuting b r) refl (refuting b rs)
  where
    by : (d : Bool) → is_refuting b r ≡ d → ((x : LinearConstraint) × In x rs × (is_refuting b x ≡ true)) ⊎ AllByRecursion (λ x. is_refuting b x ≡ false) rs
        → ((x : LinearConstraint) × In x (r ∷ rs) × (is_refuting b x ≡ true)) ⊎ AllByRecursion (λ x. is_refuting b x ≡ false) (r ∷ rs)
    by true e rest = inl (r, inl refl, e)
    by false e (inl x) = inl (x.0, inr x.1, x.2)
    by false e (inr none) = inr (e, none)

-- ---- rows that hold nowhere

-- numbers that refute the rows, with a small sum
abbrev pub HasMultipliers : List LinearConstraint → Type 0
HasMultipliers rs = (ms : List ℤ) × (refutes ms rs ≡ true) × (magnitudes ms < 2 ^ 63)

module _ (rs : List LinearConstraint) (linear : AllByRecursion IsLinearAtom rs) (nowhere : HoldsNowhere (conj_holds row_holds rs)) where
  abbrev bound : ℕ
  bound = above_rows rs

  abbrev slots : List Slot
  slots = with_all_slots [] rs

  below : AreBelow bound rs
  below = rows_below (above_rows rs) rs (omega arith)

  search : IsLeft IsWeak (traces bound (bound + 2) rs) slots → (left : List LinearConstraint) × Search bound rs slots left
  search l = (
    l.left,
    record {
      below = below;
      linear = linear;
      all = gathered_all [] rs;
      only = gathered_only rs;
      distinct = gathered_distinct [] rs tt;
      projected = l.projected;
      normal = l.linear;
      weak = l.kinds;
    },
  )

  by_search : (left : List LinearConstraint) → Search bound rs slots left → HasMultipliers rs ⊎ AreWideRows rs
  by_search left s = elim (refuting bound left) [
    | inl r ↦ by_lt_z (coef_at r.0.coefs (tag bound)) (pos (2 ^ 63))
        (λ l. inl (multipliers r.0 (bound + 2) (length rs), found_refutes bound rs slots left s r.0 r.1 r.2, found_small bound rs slots left s r.0 r.1 l))
        (λ l. inr (found_wide bound rs slots left s r.0 r.1 l))
    | inr none ↦ absurd (search_finds bound rs slots left s none nowhere)
  ]

  -- there are such numbers, or the rows are wide
  pub refuted : HasMultipliers rs ⊎ AreWideRows rs
  refuted = elim (all_eliminated IsWeak weak_reduced (traces bound (bound + 2) rs) slots (all_rational rs slots linear (gathered_only rs)) (traces_linear bound (bound + 2) rs linear) (traces_weak bound (bound + 2) rs)) [
    | inl l ↦ (let s = search l in by_search s.0 s.1)
    | inr g ↦ inr (search_wide bound rs slots below linear (gathered_only rs) (gathered_distinct [] rs tt) g)
  ]

-- ---- two tuples

-- a common point, or a certificate that there is none
abbrev pub IsTold : List Atom → List Atom → Type 0
IsTold t u = HoldsSomewhere (tuple_holds (t ++ u)) ⊎ ((proof : Proof) × Checks t u proof × HasSmallSum proof)

pub told : (c : Catalogue) (t u : List Atom) → IsNormalTuple t → IsNormalTuple u → (IsWidePair t u → ⊥) → IsTold t u
told c t u n m narrow = elim (themes_decided c (seconds (t ++ u)) (normal_texts t u n m)) [
  | inl texts ↦ elim (rows_decided c (firsts (t ++ u)) (linear_rows t u n m)) [
    | inl rows ↦ inl (common_point t u n m rows texts)
    | inr none ↦ elim (refuted (firsts (t ++ u)) (linear_rows t u n m) none) [
      | inl k ↦ inr (Multipliers k.0, k.1, k.2)
      | inr w ↦ absurd (narrow (wide_pair t u (coefs_of (firsts (t ++ u)) (linear_rows t u n m)) w))
    ]
  ]
  | inr none ↦ inr (Text, none, tt)
]
