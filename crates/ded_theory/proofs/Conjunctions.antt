-- Conjunctions of atoms of any kind, one after another and at points with the same values.
use Rattle.std.proofs.Common.{◌≡◌, ◌<◌, Bool, true, false, ◌&&◌, ◌||◌, List, [], ◌∷◌, ◌++◌, ⊎_elim, refl, sym, ap, ap₂, ◌∙◌, true≢false}
use Rattle.std.proofs.Math.Bool.{and_assoc, or_assoc}
use Rattle.std.specs.List.{AllByRecursion}
use Rattle.ded_model.specs.declared.slot.Slot.{Slot}
use Rattle.ded_model.specs.Point.{slot, Point, IsSameAt, IsExtension, same_slot}
use Rattle.ded_model.specs.Row.{row_mentions}
use Rattle.ded_model.specs.Cell.{conj_holds}
use Rattle.ded_model.specs.Lines.{Line, In}
use Rattle.ded_model.proofs.Points.{same_slot_is, positive-extension}
use Rattle.ded_model.proofs.Rows.{or_left, or_right}
use Rattle.ded_model.proofs.Members.{In-split, or_split}
use Rattle.ded_model.proofs.Unused.{extension_same}
use Rattle.ded_theory.specs.Conjunctions.{conj_mentions, conj_lines}

-- ---- one after another

pub conj_holds-append : {A : Type 0} (holds : A → Point → Bool) (xs ys : List A) (p : Point) → conj_holds holds (xs ++ ys) p ≡ (conj_holds holds xs p && conj_holds holds ys p)
conj_holds-append holds [] ys p = refl
conj_holds-append holds (x ∷ xs) ys p = ap (λ b. holds x p && b) (conj_holds-append holds xs ys p) ∙ sym (and_assoc (holds x p) _ _)

pub conj_mentions-append : {A : Type 0} (mentions : A → Slot → Bool) (xs ys : List A) (s : Slot) → conj_mentions mentions (xs ++ ys) s ≡ (conj_mentions mentions xs s || conj_mentions mentions ys s)
conj_mentions-append mentions [] ys s = refl
conj_mentions-append mentions (x ∷ xs) ys s = ap (λ b. mentions x s || b) (conj_mentions-append mentions xs ys s) ∙ sym (or_assoc (mentions x s) _ _)

-- ---- at points with the same values

module _ {A : Type 0} (holds : A → Point → Bool) (mentions : A → Slot → Bool)
    (respects : (a : A) (p q : Point) → 0 < p.den → 0 < q.den → ((s : Slot) → mentions a s ≡ true → IsSameAt p q (slot s)) → holds a p ≡ holds a q) where
  -- a conjunction holds alike at two points that have the same values at the slots that it mentions
  pub conj_holds-same : (atoms : List A) (p q : Point) → 0 < p.den → 0 < q.den → ((s : Slot) → conj_mentions mentions atoms s ≡ true → IsSameAt p q (slot s)) → conj_holds holds atoms p ≡ conj_holds holds atoms q
  conj_holds-same [] p q i j h = refl
  conj_holds-same (a ∷ atoms) p q i j h =
      ap₂ (λ b c. b && c) (respects a p q i j (λ s m. h s (or_left (mentions a s) (conj_mentions mentions atoms s) m)))
      (conj_holds-same atoms p q i j (λ s m. h s (or_right (mentions a s) (conj_mentions mentions atoms s) m)))

  -- so at a point and its extension at a slot that it doesn't mention
  pub conj_holds-extended : (atoms : List A) (t : Slot) (p q : Point) → 0 < p.den → conj_mentions mentions atoms t ≡ false → IsExtension t.sort p (slot t) q → conj_holds holds atoms p ≡ conj_holds holds atoms q
  conj_holds-extended atoms t p q i free x =
      conj_holds-same atoms p q i (positive-extension t.sort p (slot t) q i x) (λ s m. extension_same t.sort p q (slot t) (slot s) x (other s m (same_slot s t) refl))
    where
      other : (s : Slot) → conj_mentions mentions atoms s ≡ true → (b : Bool) → same_slot s t ≡ b → b ≡ false
      other s m true e = absurd (true≢false (sym m ∙ ap (conj_mentions mentions atoms) (same_slot_is s t e) ∙ free))
      other s m false e = refl

-- ---- what is true of each atom

module _ {A : Type 0} (normal : A → Type 0) (mentions : A → Slot → Bool) (P : Slot → Type 0) (each : (a : A) (s : Slot) → normal a → mentions a s ≡ true → P s) where
  -- a slot that is mentioned has what the slots of normal atoms have
  pub conj_slots : (atoms : List A) (s : Slot) → AllByRecursion normal atoms → conj_mentions mentions atoms s ≡ true → P s
  conj_slots [] s n m = absurd (true≢false (sym m))
  conj_slots (a ∷ atoms) s n m = ⊎_elim (λ (e : mentions a s ≡ true). each a s n.0 e) (λ e. conj_slots atoms s n.1 e) (or_split (mentions a s) (conj_mentions mentions atoms s) m)

module _ {A : Type 0} (lines : A → List Line) (mentions : A → Slot → Bool) (each : (a : A) (l : Line) (s : Slot) → In l (lines a) → row_mentions l s ≡ true → mentions a s ≡ true) where
  -- the lines mention only slots that the atoms mention
  pub conj_line_slots : (atoms : List A) (l : Line) (s : Slot) → In l (conj_lines lines atoms) → row_mentions l s ≡ true → conj_mentions mentions atoms s ≡ true
  conj_line_slots [] l s i m = absurd i
  conj_line_slots (a ∷ atoms) l s i m = ⊎_elim
      (λ (j : In l (lines a)). or_left (mentions a s) (conj_mentions mentions atoms s) (each a l s j m))
      (λ j. or_right (mentions a s) (conj_mentions mentions atoms s) (conj_line_slots atoms l s j m))
      (In-split l (lines a) (conj_lines lines atoms) i)
