-- The laws of a theory for atoms of two kinds, from those for each kind.
use Rattle.std.specs.Prelude.{◌≡◌, ◌<◌, ℕ, ℤ, Bool, true, ◌||◌, List, Option, Some, None}
use Rattle.std.proofs.lemmas.Option.{none-some}
use Rattle.ded_model.specs.declared.slot.Slot.{Slot}
use Rattle.ded_model.specs.declared.slot.Sort.{Sort}
use Rattle.ded_model.specs.declared.tuple.BothAtom.{BothAtom}
use Rattle.ded_model.specs.declared.tuple.BothAtom.TheVariants.{First, Second}
use Rattle.ded_model.specs.Point.{slot, Point, IsSameAt, text_at}
use Rattle.ded_model.specs.Row.{row_mentions}
use Rattle.ded_model.specs.Lines.{Line, In}
use Rattle.ded_model.proofs.Rows.{or_left, or_right}
use Rattle.ded_theory.specs.Both.{by_kind, IsByKind}

module _ {A B : Type 0} (hA : A → Point → Bool) (hB : B → Point → Bool) (mA : A → Slot → Bool) (mB : B → Slot → Bool) where
  -- atoms hold alike at points with the same values at the slots that they mention, where those of each kind do
  pub kinds_respect : ((a : A) (p q : Point) → 0 < p.den → 0 < q.den → ((s : Slot) → mA a s ≡ true → IsSameAt p q (slot s)) → hA a p ≡ hA a q)
      → ((b : B) (p q : Point) → 0 < p.den → 0 < q.den → ((s : Slot) → mB b s ≡ true → IsSameAt p q (slot s)) → hB b p ≡ hB b q)
      → (a : BothAtom A B) (p q : Point) → 0 < p.den → 0 < q.den → ((s : Slot) → by_kind mA mB a s ≡ true → IsSameAt p q (slot s)) → by_kind hA hB a p ≡ by_kind hA hB a q
  kinds_respect f g (First a) = f a
  kinds_respect f g (Second b) = g b

module _ {A B : Type 0} (hA : A → Point → Bool) (hB : B → Point → Bool) (cA : A → Point → ℤ) (cB : B → Point → ℤ) where
  -- atoms hold alike at points at which they have one cell, where those of each kind do
  pub kinds_tell : ((a : A) (p q : Point) → cA a p ≡ cA a q → hA a p ≡ hA a q) → ((b : B) (p q : Point) → cB b p ≡ cB b q → hB b p ≡ hB b q)
      → (a : BothAtom A B) (p q : Point) → by_kind cA cB a p ≡ by_kind cA cB a q → by_kind hA hB a p ≡ by_kind hA hB a q
  kinds_tell f g (First a) = f a
  kinds_tell f g (Second b) = g b

module _ {A B : Type 0} (mA : A → Slot → Bool) (mB : B → Slot → Bool) (nA : A → Type 0) (nB : B → Type 0) (oA oB : Sort → Bool) where
  -- the slots that an atom mentions are of sorts that one of the kinds owns, where those of each kind are of sorts that
  -- it owns
  pub kinds_owned : ((a : A) (s : Slot) → nA a → mA a s ≡ true → oA s.sort ≡ true) → ((b : B) (s : Slot) → nB b → mB b s ≡ true → oB s.sort ≡ true)
      → (a : BothAtom A B) (s : Slot) → IsByKind nA nB a → by_kind mA mB a s ≡ true → (oA s.sort || oB s.sort) ≡ true
  kinds_owned f g (First a) s n m = or_left (oA s.sort) (oB s.sort) (f a s n m)
  kinds_owned f g (Second b) s n m = or_right (oA s.sort) (oB s.sort) (g b s n m)

module _ {A B : Type 0} (mA : A → Slot → Bool) (mB : B → Slot → Bool) (lA : A → List Line) (lB : B → List Line) where
  -- an atom mentions each slot that its lines mention, where those of each kind do
  pub kinds_line_slots : ((a : A) (l : Line) (s : Slot) → In l (lA a) → row_mentions l s ≡ true → mA a s ≡ true) → ((b : B) (l : Line) (s : Slot) → In l (lB b) → row_mentions l s ≡ true → mB b s ≡ true)
      → (a : BothAtom A B) (l : Line) (s : Slot) → In l (by_kind lA lB a) → row_mentions l s ≡ true → by_kind mA mB a s ≡ true
  kinds_line_slots f g (First a) = f a
  kinds_line_slots f g (Second b) = g b

module _ {A B : Type 0} (hA : A → Point → Bool) (hB : B → Point → Bool) (fA : A → Option (Slot × List ℕ)) (fB : B → Option (Slot × List ℕ)) where
  -- where an atom holds, the slot that it fixes has its text, where that is so of atoms of each kind
  pub kinds_fixed : ((a : A) (s : Slot) (t : List ℕ) (p : Point) → fA a ≡ Some (s, t) → hA a p ≡ true → text_at p (slot s) ≡ t)
      → ((b : B) (s : Slot) (t : List ℕ) (p : Point) → fB b ≡ Some (s, t) → hB b p ≡ true → text_at p (slot s) ≡ t)
      → (a : BothAtom A B) (s : Slot) (t : List ℕ) (p : Point) → by_kind fA fB a ≡ Some (s, t) → by_kind hA hB a p ≡ true → text_at p (slot s) ≡ t
  kinds_fixed f g (First a) = f a
  kinds_fixed f g (Second b) = g b

-- what an atom fixes that gives no slot one text
abbrev pub nothing_fixed : {A : Type 0} → A → Option (Slot × List ℕ)
nothing_fixed a = None

-- where atoms fix no slot, each that is fixed has its text
pub none_fixed : {A : Type 0} (holds : A → Point → Bool) (a : A) (s : Slot) (t : List ℕ) (p : Point) → nothing_fixed a ≡ Some (s, t) → holds a p ≡ true → text_at p (slot s) ≡ t
none_fixed holds a s t p none h = absurd (none-some (s, t) none)
