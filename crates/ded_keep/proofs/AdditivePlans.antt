-- A plan that is additive in a name holds, where the name gains tuples, where it did or where it does for these alone.
--
-- By induction on the plan. Of the parts of a plan that scans the name once, one scans it once and the others not at all; these hold
-- alike by all three meanings. A join, a union and a projection distribute over `or`, and so does a difference in what is taken
-- from.
use Rattle.std.proofs.Common.{◌≡◌, ℕ, zero, suc, ◌+◌, Bool, true, false, ◌⊎◌, inl, inr, List, arith, refl, sym, ap, ◌∙◌, subst, true≢false, bytes_eq, mul-pos}
use Rattle.std.specs.Prelude.{◌↔◌}
use Rattle.std.proofs.lemmas.Slice.Eq.{bytes_eq-Decides}
use Rattle.ded_model.specs.declared.slot.Slot.{Slot}
use Rattle.ded_model.specs.Point.{Point, IsPoint}
use Rattle.ded_model.specs.Logic.{atom, always, never, negation, every_of, some_of, implies, minus, exists, forall, Logics, none, also, count_atoms, count_atoms_of, as_count, AllAtoms, Sat}
use Rattle.ded_model.specs.PlanForm.{PlanAtom, scan, rows, PlanForm, PlanAtomHolds}
use Rattle.ded_model.specs.Catalogue.{Catalogue, stored, meaning, PlanHolds, GivenHolds}
use Rattle.ded_model.specs.Uses.{plan_atom_uses, plan_uses}
use Rattle.ded_model.specs.Value.{Meaning}
use Rattle.ded_model.proofs.Alike.{all_atoms}
use Rattle.ded_algebra.specs.Compiled.{is_scan_of}
use Rattle.ded_model.proofs.PointTexts.{extension-point}
use Rattle.ded_views.specs.Same.{MeansSame, ScansSame}
use Rattle.ded_views.proofs.Atoms.{all_with}
use Rattle.ded_views.proofs.PlansAlike.{arguments_bytes, slots_positive, scans_alike}
use Rattle.ded_keep.specs.Additive.{hides, some_hides, is_additive, AddsMeaning, IsOtherScan}
use Rattle.ded_keep.proofs.Counting.{unused, unused_of, unscanned, used_once, scanned_once, not_hidden}
use Rattle.ded_model.proofs.Bools.{or_false_left, or_false_right}

-- ---- `or` in one of two parts

module _ {D B C D' B' C' : Type 0} where
  -- of a join, in the first part
  join_first : D ↔ (B ⊎ C) → D' ↔ B' → D' ↔ C' → (D × D') ↔ ((B × B') ⊎ (C × C'))
  join_first e f g = (
    λ h. elim (e.0 h.0) [ inl b ↦ inl (b, f.0 h.1) | inr c ↦ inr (c, g.0 h.1) ],
    λ h. elim h [ inl b ↦ (e.1 (inl b.0), f.1 b.1) | inr c ↦ (e.1 (inr c.0), g.1 c.1) ],
  )

  -- in the second part
  join_second : D ↔ B → D ↔ C → D' ↔ (B' ⊎ C') → (D × D') ↔ ((B × B') ⊎ (C × C'))
  join_second f g e = (
    λ h. elim (e.0 h.1) [ inl b ↦ inl (f.0 h.0, b) | inr c ↦ inr (g.0 h.0, c) ],
    λ h. elim h [ inl b ↦ (f.1 b.0, e.1 (inl b.1)) | inr c ↦ (g.1 c.0, e.1 (inr c.1)) ],
  )

  -- of a union, in the first part
  union_first : D ↔ (B ⊎ C) → D' ↔ B' → D' ↔ C' → (D ⊎ D') ↔ ((B ⊎ B') ⊎ (C ⊎ C'))
  union_first e f g = (
    λ h. elim h [ inl d ↦ elim (e.0 d) [ inl b ↦ inl (inl b) | inr c ↦ inr (inl c) ] | inr d ↦ inl (inr (f.0 d)) ],
    λ h. elim h [
      | inl x ↦ elim x [ inl b ↦ inl (e.1 (inl b)) | inr b ↦ inr (f.1 b) ]
      | inr x ↦ elim x [ inl c ↦ inl (e.1 (inr c)) | inr c ↦ inr (g.1 c) ]
    ],
  )

  -- in the second part
  union_second : D ↔ B → D ↔ C → D' ↔ (B' ⊎ C') → (D ⊎ D') ↔ ((B ⊎ B') ⊎ (C ⊎ C'))
  union_second f g e = (
    λ h. elim h [ inl d ↦ inl (inl (f.0 d)) | inr d ↦ elim (e.0 d) [ inl b ↦ inl (inr b) | inr c ↦ inr (inr c) ] ],
    λ h. elim h [
      | inl x ↦ elim x [ inl b ↦ inl (f.1 b) | inr b ↦ inr (e.1 (inl b)) ]
      | inr x ↦ elim x [ inl c ↦ inl (g.1 c) | inr c ↦ inr (e.1 (inr c)) ]
    ],
  )

  -- of a difference, in what is taken from
  difference : D ↔ (B ⊎ C) → D' ↔ B' → D' ↔ C' → (D × (¬ D')) ↔ ((B × (¬ B')) ⊎ (C × (¬ C')))
  difference e f g = (
    λ h. elim (e.0 h.0) [ inl b ↦ inl (b, λ x. h.1 (f.1 x)) | inr c ↦ inr (c, λ x. h.1 (g.1 x)) ],
    λ h. elim h [ inl b ↦ (e.1 (inl b.0), λ x. b.1 (f.0 x)) | inr c ↦ (e.1 (inr c.0), λ x. c.1 (g.0 x)) ],
  )

-- one of two parts has the one scan
one_of : (x y : ℕ) → x + y ≡ 1 → ((x ≡ 1) × (y ≡ 0)) ⊎ ((x ≡ 0) × (y ≡ 1))
one_of zero y h = inr (refl, omega arith)
one_of (suc zero) y h = inl (refl, omega arith)
one_of (suc (suc x)) y h = absurd (omega arith)

-- ---- the law

module _ (I J K : Meaning) (n : List ℕ) (adds : AddsMeaning I J K n) where
  abbrev HoldsBy : Meaning → PlanForm → Point → Type 0
  HoldsBy M f p = Sat (PlanAtomHolds M) f p

  -- each scan of another name reads the same by all three
  abbrev Others : PlanForm → Type 0
  Others f = AllAtoms (IsOtherScan I J K n) f

  -- so a plan without the name holds alike
  record IsKept (f : PlanForm) (p : Point) : Type 0 where
    first : HoldsBy K f p ↔ HoldsBy I f p
    second : HoldsBy K f p ↔ HoldsBy J f p

  kept : (f : PlanForm) → plan_uses n f ≡ false → Others f → (p : Point) → IsPoint p → IsKept f p
  kept f k o p i =
      let x = scans_alike I K f p i (all_with plan_atom_uses (IsOtherScan I J K n) (ScansSame I K) (λ m. bytes_eq m n ≡ false) first_same f o other) in
      let y = scans_alike J K f p i (all_with plan_atom_uses (IsOtherScan I J K n) (ScansSame J K) (λ m. bytes_eq m n ≡ false) second_same f o other) in
      record { first = (x.1, x.0); second = (y.1, y.0) }
    where
      first_same : (a : PlanAtom) → IsOtherScan I J K n a → ((m : List ℕ) → plan_atom_uses m a ≡ true → bytes_eq m n ≡ false) → ScansSame I K a
      first_same (scan m ss) h u = (h (u m ((bytes_eq-Decides m m).1 refl))).0
      first_same (rows t) h u = tt

      second_same : (a : PlanAtom) → IsOtherScan I J K n a → ((m : List ℕ) → plan_atom_uses m a ≡ true → bytes_eq m n ≡ false) → ScansSame J K a
      second_same (scan m ss) h u = (h (u m ((bytes_eq-Decides m m).1 refl))).1
      second_same (rows t) h u = tt

      other : (m : List ℕ) → plan_uses m f ≡ true → bytes_eq m n ≡ false
      other m u = by (bytes_eq m n) refl
        where
          by : (e : Bool) → bytes_eq m n ≡ e → e ≡ false
          by true e = absurd (true≢false (sym u ∙ ap (λ x. plan_uses x f) ((bytes_eq-Decides m n).0 e) ∙ k))
          by false e = refl

  -- the scan itself
  scanned : (m : List ℕ) (ss : List Slot) → as_count (bytes_eq n m) ≡ 1 → (p : Point) → IsPoint p → HoldsBy K (atom (scan m ss)) p ↔ (HoldsBy I (atom (scan m ss)) p ⊎ HoldsBy J (atom (scan m ss)) p)
  scanned m ss h p i = by (bytes_eq n m) refl h
    where
      by : (e : Bool) → bytes_eq n m ≡ e → as_count e ≡ 1 → HoldsBy K (atom (scan m ss)) p ↔ (HoldsBy I (atom (scan m ss)) p ⊎ HoldsBy J (atom (scan m ss)) p)
      by true e h =
          subst (λ x. HoldsBy K (atom (scan x ss)) p ↔ (HoldsBy I (atom (scan x ss)) p ⊎ HoldsBy J (atom (scan x ss)) p)) ((bytes_eq-Decides n m).0 e)
          (adds _ _ (mul-pos i.positive (slots_positive p ss)) (arguments_bytes p i ss))
      by false e h = absurd (omega arith)

  mutual
    pub added : (f : PlanForm) → count_atoms (is_scan_of n) f ≡ 1 → hides n f ≡ false → Others f → (p : Point) → IsPoint p → HoldsBy K f p ↔ (HoldsBy I f p ⊎ HoldsBy J f p)
    added (atom (scan m ss)) h k o p i = scanned m ss h p i
    added (atom (rows t)) h k o p i = absurd (omega arith)
    added always h k o p i = absurd (omega arith)
    added never h k o p i = absurd (omega arith)
    added (negation f) h k o p i = absurd (true≢false (sym (used_once n f h) ∙ k))
    added (every_of fs) h k o p i = every_added fs h k o p i
    added (some_of fs) h k o p i = some_added fs h k o p i
    added (implies f g) h k o p i = absurd (true≢false (sym (used_once n (implies f g) h) ∙ k))
    added (minus f g) h k o p i =
        let taken : plan_uses n g ≡ false = or_false_right (hides n f) _ k in
        let none_taken : count_atoms (is_scan_of n) g ≡ 0 = unscanned n g taken in
        let once : count_atoms (is_scan_of n) f ≡ 1 = omega arith in
        let g_kept = kept g taken o.1 p i in
        difference (added f once (or_false_left _ _ k) o.0 p i) g_kept.first g_kept.second
    added (exists s k f) h j o p i =
        let there = λ (q : Point) (x : _). added f h j o q (extension-point s p q k i x) in (
          λ some. elim ((there some.0 some.1).0 some.2) [ inl x ↦ inl (some.0, some.1, x) | inr x ↦ inr (some.0, some.1, x) ],
          λ some. elim some [ inl x ↦ (x.0, x.1, (there x.0 x.1).1 (inl x.2)) | inr x ↦ (x.0, x.1, (there x.0 x.1).1 (inr x.2)) ],
        )
    added (forall s k f) h j o p i = absurd (true≢false (sym (used_once n f h) ∙ j))

    every_added : (fs : Logics PlanAtom) → count_atoms_of (is_scan_of n) fs ≡ 1 → some_hides n fs ≡ false → Others (every_of fs) → (p : Point) → IsPoint p
        → HoldsBy K (every_of fs) p ↔ (HoldsBy I (every_of fs) p ⊎ HoldsBy J (every_of fs) p)
    every_added none h k o p i = absurd (omega arith)
    every_added (also f fs) h k o p i = elim (one_of (count_atoms (is_scan_of n) f) (count_atoms_of (is_scan_of n) fs) h) [
      | inl e ↦
          (let rest = kept (every_of fs) (unused_of n fs e.1) o.1 p i in
          join_first (added f e.0 (or_false_left _ _ k) o.0 p i) rest.first rest.second)
      | inr e ↦
          (let here = kept f (unused n f e.0) o.0 p i in
          join_second here.first here.second (every_added fs e.1 (or_false_right (hides n f) _ k) o.1 p i))
    ]

    some_added : (fs : Logics PlanAtom) → count_atoms_of (is_scan_of n) fs ≡ 1 → some_hides n fs ≡ false → Others (some_of fs) → (p : Point) → IsPoint p
        → HoldsBy K (some_of fs) p ↔ (HoldsBy I (some_of fs) p ⊎ HoldsBy J (some_of fs) p)
    some_added none h k o p i = absurd (omega arith)
    some_added (also f fs) h k o p i = elim (one_of (count_atoms (is_scan_of n) f) (count_atoms_of (is_scan_of n) fs) h) [
      | inl e ↦
          (let rest = kept (some_of fs) (unused_of n fs e.1) o.1 p i in
          union_first (added f e.0 (or_false_left _ _ k) o.0 p i) rest.first rest.second)
      | inr e ↦
          (let here = kept f (unused n f e.0) o.0 p i in
          union_second here.first here.second (some_added fs e.1 (or_false_right (hides n f) _ k) o.1 p i))
    ]

-- over two catalogues, and relations that are given
pub added_given : (b c d : Catalogue) (n : List ℕ) (f : PlanForm) → is_additive n f ≡ true → AllAtoms (IsOtherScan (meaning b) (stored c) (meaning d) n) f
    → AddsMeaning (meaning b) (stored c) (meaning d) n → (p : Point) → IsPoint p → PlanHolds d f p ↔ (PlanHolds b f p ⊎ GivenHolds c f p)
added_given b c d n f h o adds p i = added (meaning b) (stored c) (meaning d) n adds f (scanned_once n f h) (not_hidden n f h) o p i

-- over three catalogues in which each other name that the plan scans means the same
pub additive_plans : (b c d : Catalogue) (n : List ℕ) (f : PlanForm) → is_additive n f ≡ true
    → ((m : List ℕ) → plan_uses m f ≡ true → bytes_eq m n ≡ false → MeansSame b d m × MeansSame c d m) → AddsMeaning (meaning b) (meaning c) (meaning d) n
    → (p : Point) → IsPoint p → PlanHolds d f p ↔ (PlanHolds b f p ⊎ PlanHolds c f p)
additive_plans b c d n f h o adds p i = added (meaning b) (meaning c) (meaning d) n adds f (scanned_once n f h) (not_hidden n f h)
    (all_atoms plan_atom_uses (λ m. bytes_eq m n ≡ false → MeansSame b d m × MeansSame c d m) (IsOtherScan (meaning b) (meaning c) (meaning d) n) others f o) p i
  where
    others : (a : PlanAtom) → ((m : List ℕ) → plan_atom_uses m a ≡ true → bytes_eq m n ≡ false → MeansSame b d m × MeansSame c d m) → IsOtherScan (meaning b) (meaning c) (meaning d) n a
    others (scan m ss) h = λ e. let same = h m ((bytes_eq-Decides m m).1 refl) e in (λ den xs i b l. same.0 den xs i b, λ den xs i b l. same.1 den xs i b)
    others (rows t) h = tt
