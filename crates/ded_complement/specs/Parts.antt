-- Parts of pieces, and which conjunctions of a list are near them.
use Rattle.std.specs.Prelude.{◌≡◌, ◌<◌, ℕ, zero, suc, ℤ, Bool, false, not, ◌&&◌, ◌||◌, List, [], ◌∷◌, ◌++◌, length}
use Rattle.std.specs.List.{AllByRecursion}
use Rattle.ded_model.specs.declared.slot.Slot.{Slot}
use Rattle.ded_model.specs.Point.{Point, IsPoint}
use Rattle.ded_model.specs.Cell.{conj_holds}
use Rattle.ded_model.specs.Lines.{Line}
use Rattle.ded_genrel.specs.Lists.{conjs_hold}
use Rattle.ded_complement.specs.declared.boxed.Boxed.{Boxed}
use Rattle.ded_complement.specs.declared.parts.Halves.{Halves}
use Rattle.ded_complement.specs.declared.parts.BoxedPiece.{BoxedPiece}
use Rattle.ded_complement.specs.Boxed.{conjs_in, IsBoxed}
use Rattle.ded_complement.specs.Pieces.{all_atoms, AreAmong, IsMadeOf, IsMore}

-- the conjunction at the place, if there is one
abbrev pub conj_at : {A : Type 0} → List (Boxed A) → ℕ → List (List A)
conj_at [] i = []
conj_at (b ∷ bs) zero = b.conj.items ∷ []
conj_at (b ∷ bs) (suc i) = conj_at bs i

-- the conjunctions at the places
abbrev pub conjs_at : {A : Type 0} → List (Boxed A) → List ℕ → List (List A)
conjs_at bs [] = []
conjs_at bs (i ∷ is) = conj_at bs i ++ conjs_at bs is

-- all are places of the list
abbrev pub ArePlaces : {A : Type 0} → List A → List ℕ → Type 0
ArePlaces xs is = AllByRecursion (λ i. i < length xs) is

-- what of the conjunction is outside of the one list is what of it is outside of the other
abbrev pub IsSameOutside : {A : Type 0} → (A → Point → Bool) → List A → List (List A) → List (List A) → Type 0
IsSameOutside h c ds es = (p : Point) → IsPoint p → (conj_holds h c p && not (conjs_hold h ds p)) ≡ (conj_holds h c p && not (conjs_hold h es p))

-- the piece is in its box, and what of it is outside of the list is what of it is outside of those at the places
pub record IsPart {A : Type 0} (h : A → Point → Bool) (n : A → Type 0) (ss : List Slot) (taken : List (Boxed A)) (r : BoxedPiece A) : Type 0 where
  pub boxed : IsBoxed h n ss r.piece
  pub places : ArePlaces taken r.near.items
  pub near : IsSameOutside h r.piece.conj.items (conjs_in taken) (conjs_at taken r.near.items)

-- two parts of the conjunction that share no point and are all of it, and that are made of its atoms and those of the list
pub record AreHalves {A : Type 0} (h : A → Point → Bool) (m : A → Slot → Bool) (l : A → List Line) (cell : A → Point → ℤ) (n : A → Type 0) (ss : List Slot) (taken : List (Boxed A)) (c : List A) (r : Halves A) : Type 0 where
  pub first : IsPart h n ss taken r.first
  pub second : IsPart h n ss taken r.second
  pub apart : (p : Point) → IsPoint p → (conj_holds h r.first.piece.conj.items p && conj_holds h r.second.piece.conj.items p) ≡ false
  pub all : (p : Point) → IsPoint p → conj_holds h c p ≡ (conj_holds h r.first.piece.conj.items p || conj_holds h r.second.piece.conj.items p)
  pub made_first : (atoms : List A) → IsMadeOf m l cell atoms c → AreAmong atoms (all_atoms (conjs_in taken)) → IsMadeOf m l cell atoms r.first.piece.conj.items
  pub made_second : (atoms : List A) → IsMadeOf m l cell atoms c → AreAmong atoms (all_atoms (conjs_in taken)) → IsMadeOf m l cell atoms r.second.piece.conj.items

-- pieces of what satisfies the conjunction and is outside of the list were set at the end
abbrev pub AreCarved : {A : Type 0} → (A → Point → Bool) → (A → Slot → Bool) → (A → List Line) → (A → Point → ℤ) → List (Boxed A) → List A → List (List A) → List (List A) → Type 0
AreCarved h m l cell taken c old new = IsMore h m l cell (λ atoms. IsMadeOf m l cell atoms c × AreAmong atoms (all_atoms (conjs_in taken))) (λ p. conj_holds h c p && not (conjs_hold h (conjs_in taken) p)) old new
