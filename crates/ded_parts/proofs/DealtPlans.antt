-- A plan that distributes over a relation holds, where its tuples are dealt out, exactly where it does over one of the parts.
--
-- By induction on the parts. By one meaning the name holds where it does over one of the parts, and each other name as over the whole. One part
-- more adds to the name alone, in which the plan is additive. The name may also be that of a view.
use Rattle.std.proofs.Common.{◌≡◌, ℕ, ◌<◌, Bool, true, false, ◌⊎◌, inl, inr, List, [], ◌∷◌, length, refl, sym, ◌∙◌, subst, true≢false, bytes_eq}
use Rattle.std.specs.Prelude.{◌↔◌, MatchBool}
use Rattle.std.proofs.lemmas.Bool.{and_parts, not-true}
use Rattle.std.proofs.lemmas.Slice.Eq.{bytes_eq-Decides}
use Rattle.ded_num.proofs.Tests.{bytes_eq-swap}
use Rattle.ded_model.proofs.Alike.{all_atoms, iff_refl}
use Rattle.ded_model.proofs.Bools.{bytes_eq-refl}
use Rattle.ded_model.proofs.Lists.{Every, Some as SomeOf, every_weaker}
use Rattle.ded_model.specs.Catalogue.{Catalogue, meaning, PlanHolds}
use Rattle.ded_model.specs.Known.{IsWellFormed}
use Rattle.ded_model.specs.Made.{base}
use Rattle.ded_model.specs.Logic.{Sat, AllAtoms}
use Rattle.ded_model.specs.PlanForm.{PlanAtom, scan, rows, PlanForm, PlanAtomHolds}
use Rattle.ded_model.specs.Point.{Point, IsPoint}
use Rattle.ded_model.specs.Uses.{MeansAlike, plan_atom_uses, plan_uses}
use Rattle.ded_model.specs.Value.{Argument, Meaning}
use Rattle.ded_views.specs.Same.{AreByteArguments, IsSameOf, ScansSame}
use Rattle.ded_views.specs.Reaching.{reaches}
use Rattle.ded_views.proofs.Atoms.{all_weaker}
use Rattle.ded_views.proofs.PlansAlike.{scans_alike}
use Rattle.ded_keep.specs.Additive.{is_additive, AddsMeaning, IsOtherScan}
use Rattle.ded_keep.proofs.AdditivePlans.{added}
use Rattle.ded_keep.proofs.Counting.{scanned_once, not_hidden}
use Rattle.ded_parts.specs.Distributing.{scans_made, distributes}
use Rattle.ded_parts.specs.Parts.{IsPart, AreParts, ReachesByName}
use Rattle.ded_parts.specs.Routes.{ScansAlone}
use Rattle.ded_parts.proofs.DealtNames.{dealt_name}
use Rattle.ded_parts.proofs.PartNames.{same_in_part, not_made}

-- ---- one of two by a test

-- the first where the test passes
first_of : (b : Bool) (A B C : Type 0) → b ≡ true → C ↔ A → C ↔ MatchBool b A B
first_of true A B C e h = h
first_of false A B C e h = absurd (true≢false (sym e))

-- the second where it doesn't
second_of : (b : Bool) (A B C : Type 0) → b ≡ false → C ↔ B → C ↔ MatchBool b A B
second_of true A B C e h = absurd (true≢false e)
second_of false A B C e h = h

-- one more in the first
one_more : (b : Bool) (A B C : Type 0) → b ≡ true → MatchBool b (A ⊎ B) C ↔ (A ⊎ MatchBool b B C)
one_more true A B C e = iff_refl (A ⊎ B)
one_more false A B C e = absurd (true≢false (sym e))

-- other firsts, where the test doesn't pass
same_second : (b : Bool) (A B C : Type 0) → b ≡ false → MatchBool b A C ↔ MatchBool b B C
same_second true A B C e = absurd (true≢false e)
same_second false A B C e = iff_refl C

-- ---- meanings

-- the name means what it does over one of the parts, and each other name what it does over the whole
abbrev PartsMeaning : Catalogue → List ℕ → List Catalogue → Meaning
PartsMeaning d m cs k den xs = MatchBool (bytes_eq m k) (SomeOf (λ c. meaning c k den xs) cs) (meaning d k den xs)

-- each other name that the plan scans means over a part what it does over the whole
abbrev pub AreSameOthers : Catalogue → List ℕ → PlanForm → Catalogue → Type 0
AreSameOthers d m f c = (k : List ℕ) → plan_uses k f ≡ true → bytes_eq m k ≡ false → MeansAlike d c k

-- a scan of the name holds over the whole where it does over one of the parts
abbrev pub IsDealtScan : Catalogue → List ℕ → List Catalogue → PlanAtom → Type 0
IsDealtScan d m cs (scan k ss) = bytes_eq m k ≡ true → IsSameOf (length ss) (meaning d k) (λ den xs. SomeOf (λ c. meaning c k den xs) cs)
IsDealtScan d m cs (rows t) = Unit {0}

module _ (d : Catalogue) (m : List ℕ) (f : PlanForm) where
  abbrev HoldsBy : Meaning → Point → Type 0
  HoldsBy M p = Sat (PlanAtomHolds M) f p

  -- the whole, where the name's scans are dealt out
  whole : (cs : List Catalogue) → AllAtoms (IsDealtScan d m cs) f → (p : Point) → IsPoint p → HoldsBy (meaning d) p ↔ HoldsBy (PartsMeaning d m cs) p
  whole cs dealt p i = scans_alike (meaning d) (PartsMeaning d m cs) f p i (all_weaker (IsDealtScan d m cs) (ScansSame (meaning d) (PartsMeaning d m cs)) step f dealt)
    where
      step : (a : PlanAtom) → IsDealtScan d m cs a → ScansSame (meaning d) (PartsMeaning d m cs) a
      step (scan k ss) h = λ den xs i b l. by den xs i b l (bytes_eq m k) refl
        where
          by : (den : ℕ) (xs : List Argument) → 0 < den → AreByteArguments xs → length xs ≡ length ss → (b : Bool) → bytes_eq m k ≡ b → meaning d k den xs ↔ PartsMeaning d m cs k den xs
          by den xs i b l true e = first_of (bytes_eq m k) _ _ _ e (h e den xs i b l)
          by den xs i b l false e = second_of (bytes_eq m k) _ _ _ e (iff_refl (meaning d k den xs))
      step (rows t) h = tt

  -- one part alone
  single : (c : Catalogue) → AreSameOthers d m f c → (p : Point) → IsPoint p → HoldsBy (meaning c) p ↔ HoldsBy (PartsMeaning d m (c ∷ [])) p
  single c same p i =
      scans_alike (meaning c) (PartsMeaning d m (c ∷ [])) f p i (all_atoms plan_atom_uses (λ k. bytes_eq m k ≡ false → MeansAlike d c k) (ScansSame (meaning c) (PartsMeaning d m (c ∷ []))) step f same)
    where
      step : (a : PlanAtom) → ((k : List ℕ) → plan_atom_uses k a ≡ true → bytes_eq m k ≡ false → MeansAlike d c k) → ScansSame (meaning c) (PartsMeaning d m (c ∷ [])) a
      step (scan k ss) h = λ den xs i b l. by den xs (bytes_eq m k) refl
        where
          by : (den : ℕ) (xs : List Argument) (b : Bool) → bytes_eq m k ≡ b → meaning c k den xs ↔ PartsMeaning d m (c ∷ []) k den xs
          by den xs true e = first_of (bytes_eq m k) _ _ _ e (λ x. inl x, λ x. elim x [ inl y ↦ y | inr y ↦ absurd y ])
          by den xs false e = second_of (bytes_eq m k) _ _ _ e (let s = h k (bytes_eq-refl k) e den xs in (s.1, s.0))
      step (rows t) h = tt

  -- with one part more the name gains what it holds of there
  adds : (c : Catalogue) (cs : List Catalogue) → AddsMeaning (meaning c) (PartsMeaning d m cs) (PartsMeaning d m (c ∷ cs)) m
  adds c cs den xs i b = one_more (bytes_eq m m) _ _ _ (bytes_eq-refl m)

  -- and nothing else is changed
  others : (c : Catalogue) (cs : List Catalogue) → AreSameOthers d m f c → AllAtoms (IsOtherScan (meaning c) (PartsMeaning d m cs) (PartsMeaning d m (c ∷ cs)) m) f
  others c cs same = all_atoms plan_atom_uses (λ k. bytes_eq m k ≡ false → MeansAlike d c k) (IsOtherScan (meaning c) (PartsMeaning d m cs) (PartsMeaning d m (c ∷ cs)) m) step f same
    where
      step : (a : PlanAtom) → ((k : List ℕ) → plan_atom_uses k a ≡ true → bytes_eq m k ≡ false → MeansAlike d c k) → IsOtherScan (meaning c) (PartsMeaning d m cs) (PartsMeaning d m (c ∷ cs)) m a
      step (scan k ss) h = λ e.
          let o : bytes_eq m k ≡ false = bytes_eq-swap m k ∙ e in (
            λ den xs i b l. second_of (bytes_eq m k) _ _ _ o (let s = h k (bytes_eq-refl k) o den xs in (s.1, s.0)),
            λ den xs i b l. same_second (bytes_eq m k) _ _ _ o,
          )
      step (rows t) h = tt

  -- the plan holds by them where it does over one of the parts
  of_parts : is_additive m f ≡ true → (c : Catalogue) (cs : List Catalogue) → Every (AreSameOthers d m f) (c ∷ cs) → (p : Point) → IsPoint p
      → HoldsBy (PartsMeaning d m (c ∷ cs)) p ↔ SomeOf (λ e. PlanHolds e f p) (c ∷ cs)
  of_parts k c [] same p i =
      let one = single c same.0 p i in
      (λ h. inl (one.1 h), λ h. elim h [ inl x ↦ one.0 x | inr x ↦ absurd x ])
  of_parts k c (e ∷ es) same p i =
      let more = added (meaning c) (PartsMeaning d m (e ∷ es)) (PartsMeaning d m (c ∷ e ∷ es)) m (adds c (e ∷ es)) f (scanned_once m f k) (not_hidden m f k)
      (others c (e ∷ es) same.0) p i in
      let rest = of_parts k e es same.1 p i in
      (λ h. elim (more.0 h) [ inl x ↦ inl x | inr x ↦ inr (rest.0 x) ], λ h. elim h [ inl x ↦ more.1 (inl x) | inr x ↦ more.1 (inr (rest.1 x)) ])

  -- it holds over the whole where it does over one of the parts
  pub dealt_over : is_additive m f ≡ true → (c : Catalogue) (cs : List Catalogue) → AllAtoms (IsDealtScan d m (c ∷ cs)) f → Every (AreSameOthers d m f) (c ∷ cs) → (p : Point) → IsPoint p
      → PlanHolds d f p ↔ SomeOf (λ e. PlanHolds e f p) (c ∷ cs)
  dealt_over k c cs dealt same p i =
      let all = whole (c ∷ cs) dealt p i in
      let parts = of_parts k c cs same p i in
      (λ h. parts.0 (all.0 h), λ h. all.1 (parts.1 h))

-- ---- the law

module _ (d c : Catalogue) (n : List ℕ) (cs : List Catalogue) (f : PlanForm) (w : IsWellFormed d) (a : AreParts d n (c ∷ cs)) where
  -- names that don't reach the relation are the same over all parts
  pub same_others : (m : List ℕ) → ((k : List ℕ) → plan_uses k f ≡ true → bytes_eq m k ≡ false → reaches d (base k) n ≡ false) → Every (AreSameOthers d m f) (c ∷ cs)
  same_others m others = every_weaker (IsPart d n) (AreSameOthers d m f) (c ∷ cs) (λ e x k u b. same_in_part d w n e x k (others k u b)) a.each

  -- scans of the relation are dealt out
  dealt_scans : AllAtoms (IsDealtScan d n (c ∷ cs)) f
  dealt_scans = all_atoms plan_atom_uses (λ k. Unit {0}) (IsDealtScan d n (c ∷ cs)) (λ a h. step a) f (λ k u. tt)
    where
      step : (a : PlanAtom) → IsDealtScan d n (c ∷ cs) a
      step (scan k ss) = λ e den xs i b l. subst (λ x. meaning d x den xs ↔ SomeOf (λ c. meaning c x den xs) (c ∷ cs)) ((bytes_eq-Decides n k).0 e) (dealt_name d w n c cs a den xs)
      step (rows t) = tt

  -- so a plan that scans the relation alone holds where it does over one of the parts
  pub dealt_alone : ScansAlone d n n f → (p : Point) → IsPoint p → PlanHolds d f p ↔ SomeOf (λ e. PlanHolds e f p) (c ∷ cs)
  dealt_alone s = dealt_over d n f s.once c cs dealt_scans (same_others n s.others)

-- a plan that distributes over the relation scans it alone
pub scans_alone : (d : Catalogue) (n : List ℕ) (f : PlanForm) → distributes n f ≡ true → ReachesByName d n f → ScansAlone d n n f
scans_alone d n f k r =
    let tests = and_parts (is_additive n f) _ k in
    record { once = tests.0; others = λ m u other. r m u (not_made n f (not-true (scans_made n f) tests.1) m u other) }

pub dealt_plans : (d c : Catalogue) (n : List ℕ) (cs : List Catalogue) (f : PlanForm) → IsWellFormed d → AreParts d n (c ∷ cs) → distributes n f ≡ true → ReachesByName d n f
    → (p : Point) → IsPoint p → PlanHolds d f p ↔ SomeOf (λ e. PlanHolds e f p) (c ∷ cs)
dealt_plans d c n cs f w a k r = dealt_alone d c n cs f w a (scans_alone d n f k r)
