-- Parts that are cut by the texts of what is near them.
use Rattle.std.specs.Borrow.{Bor}
use Rattle.std.specs.Prelude.{◌≡◌, ◌≤◌, ℕ, ℤ, Bool, true, false, not, ◌&&◌, Option, Some, None, List, [], ◌∷◌, ◌++◌}
use Rattle.std.specs.List.{AllByRecursion}
use Rattle.ded_model.specs.declared.slot.Slot.{Slot}
use Rattle.ded_model.specs.Point.{slot, Point, IsPoint, text_at}
use Rattle.ded_model.specs.Cell.{conj_holds}
use Rattle.ded_model.specs.Lines.{Line}
use Rattle.ded_genrel.specs.Lists.{conjs_hold}
use Rattle.ded_genrel.specs.Rounds.{AreRational}
use Rattle.ded_complement.specs.declared.by_texts.Cut.{Cut}
use Rattle.ded_complement.specs.declared.by_texts.Near.{Near}
use Rattle.ded_complement.specs.declared.keys.KeyedPlace.{KeyedPlace}
use Rattle.ded_complement.specs.Boxed.{conjs_in, AreBoxed}
use Rattle.ded_complement.specs.Keys.{rank, keyed_hold, AreKeys}
use Rattle.ded_complement.specs.Parts.{conjs_at, ArePlaces, IsPart}
use Rattle.ded_complement.specs.Pieces.{all_atoms, AreAmong, IsMadeOf, IsMore}

-- the part is one of what is outside of the list, and the keys are those of what is near it
pub record IsNear {A : Type 0} (h : A → Point → Bool) (n : A → Type 0) (k : Near A) : Type 0 where
  pub rational : AreRational k.slots.now
  pub boxed : AreBoxed h n k.slots.now k.taken.now
  pub part : IsPart h n k.slots.now k.taken.now k.part.now
  pub keys : AreKeys h k.taken.now (conjs_at k.taken.now k.part.now.near.items) k.keys.now

-- the atom of the keyed place holds only where that of the last one does
abbrev pub IsBehind : {A : Type 0} → (A → Point → Bool) → Option (Bor (KeyedPlace A)) → KeyedPlace A → Type 0
IsBehind h None e = ⊥
IsBehind h (Some o) e = (p : Point) → IsPoint p → h e.atom.now p ≡ true → h o.now.atom.now p ≡ true

-- the text of the keyed place comes after that of the last one, if there is one
abbrev pub IsNew : {A : Type 0} → Option (Bor (KeyedPlace A)) → KeyedPlace A → Type 0
IsNew None e = Unit {0}
IsNew (Some o) e = rank o.now.text.now e.text.now ≡ 0

-- the text comes before that of the last keyed place or is the same
abbrev pub IsUpToLast : {A : Type 0} → Option (Bor (KeyedPlace A)) → List ℕ → Type 0
IsUpToLast None t = ⊥
IsUpToLast (Some o) t = rank t o.now.text.now ≤ 1

-- where the atom of the last keyed place holds, the test is passed
abbrev pub IsLastIn : {A : Type 0} → (A → Point → Bool) → Option (Bor (KeyedPlace A)) → (Point → Bool) → Type 0
IsLastIn h None test = Unit {0}
IsLastIn h (Some o) test = (p : Point) → IsPoint p → h o.now.atom.now p ≡ true → test p ≡ true

-- of the part what passes a test was set at the end, in pieces without the list, and what is left is the rest: it was cut by texts up to
-- that of the last keyed place, and of the conjunctions of keyed places only those at the places hold where the test isn't passed
pub record IsCutFrom {A : Type 0} (h : A → Point → Bool) (m : A → Slot → Bool) (l : A → List Line) (cell : A → Point → ℤ) (n : A → Type 0) (k : Near A) (es : List (KeyedPlace A)) (old out : List (List A)) (cut : Cut A) : Type 0 where
  pub done : Point → Bool
  pub more : IsMore h m l cell (λ atoms. IsMadeOf m l cell atoms k.part.now.piece.conj.items × AreAmong atoms (all_atoms (conjs_in k.taken.now)))
      (λ p. (conj_holds h k.part.now.piece.conj.items p && done p) && not (conjs_hold h (conjs_in k.taken.now) p)) old out
  pub holds : (p : Point) → IsPoint p → conj_holds h cut.rest.items p ≡ (conj_holds h k.part.now.piece.conj.items p && not (done p))
  pub made : (atoms : List A) → IsMadeOf m l cell atoms k.part.now.piece.conj.items → AreAmong atoms (all_atoms (conjs_in k.taken.now)) → IsMadeOf m l cell atoms cut.rest.items
  pub normal : AllByRecursion n cut.rest.items
  pub below : (p : Point) → IsPoint p → done p ≡ true → IsUpToLast cut.last (text_at p (slot k.keys.now.slot))
  pub last : IsLastIn h cut.last done
  pub places : ArePlaces k.taken.now cut.left.items
  pub left : (p : Point) → IsPoint p → done p ≡ false → keyed_hold h k.taken.now es p ≡ conjs_hold h (conjs_at k.taken.now cut.left.items) p

-- one more keyed place is cut off, whichever ones were so
abbrev pub IsCutOn : {A : Type 0} → (A → Point → Bool) → (A → Slot → Bool) → (A → List Line) → (A → Point → ℤ) → (A → Type 0) → Near A → KeyedPlace A → List (List A) → Cut A → List (List A) → Cut A → Type 0
IsCutOn h m l cell n k e mid cut out next =
    (es : List (KeyedPlace _)) (old : List (List _)) → IsCutFrom h m l cell n k es old mid cut → IsCutFrom h m l cell n k (es ++ e ∷ []) old out next

-- pieces of what of the part satisfies the atom of the keyed place and is outside of the list were set at the end
abbrev pub IsOwnCarved : {A : Type 0} → (A → Point → Bool) → (A → Slot → Bool) → (A → List Line) → (A → Point → ℤ) → Near A → KeyedPlace A → List (List A) → List (List A) → Type 0
IsOwnCarved h m l cell k e old new =
    IsMore h m l cell (λ atoms. IsMadeOf m l cell atoms k.part.now.piece.conj.items × AreAmong atoms (all_atoms (conjs_in k.taken.now)))
    (λ p. (conj_holds h k.part.now.piece.conj.items p && h e.atom.now p) && not (conjs_hold h (conjs_in k.taken.now) p)) old new
