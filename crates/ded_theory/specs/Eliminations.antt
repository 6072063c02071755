-- What eliminating a slot gives.
use Rattle.std.specs.Prelude.{◌≡◌, ◌↔◌, Bool, true, false, IsTrue, List, []}
use Rattle.std.specs.List.{AllByRecursion}
use Rattle.ded_model.specs.declared.slot.Slot.{Slot}
use Rattle.ded_model.specs.Point.{slot, same_slot, Point, IsPoint, IsExtension}
use Rattle.ded_model.specs.Cell.{conj_holds}
use Rattle.ded_model.specs.Lines.{Line, IsSubset, elim_at}
use Rattle.ded_theory.specs.declared.answers.Eliminated.{Eliminated}
use Rattle.ded_theory.specs.declared.answers.Eliminated.TheVariants.{Never, Conj}
use Rattle.ded_theory.specs.Conjunctions.{conj_mentions, conj_lines}

-- the atoms that are given; none where nothing satisfies them
abbrev pub eliminated_atoms : {A : Type 0} → Eliminated A → List A
eliminated_atoms Never = []
eliminated_atoms (Conj atoms) = atoms.items

-- `Never` holds nowhere
abbrev pub eliminated_holds : {A : Type 0} → (A → Point → Bool) → Eliminated A → Point → Bool
eliminated_holds holds Never p = false
eliminated_holds holds (Conj atoms) p = conj_holds holds atoms.items p

-- some extension of the point at the slot passes the test
abbrev pub SomeExtension : Slot → (Point → Bool) → Point → Type 0
SomeExtension s test p = (q : Point) × IsExtension s.sort p (slot s) q × IsTrue (test q)

-- the elimination of a slot from atoms: it holds where some extension satisfies them, is normal, doesn't mention the slot and
-- mentions no new one, and its lines are among those that the elimination makes of theirs
pub record IsElimination {A : Type 0} (h : A → Point → Bool) (m : A → Slot → Bool) (l : A → List Line) (n : A → Type 0) (atoms : List A) (s : Slot) (e : Eliminated A) : Type 0 where
  pub holds : (p : Point) → IsPoint p → IsTrue (eliminated_holds h e p) ↔ SomeExtension s (conj_holds h atoms) p
  pub normal : AllByRecursion n (eliminated_atoms e)
  pub slots : (t : Slot) → conj_mentions m (eliminated_atoms e) t ≡ true → (same_slot t s ≡ false) × (conj_mentions m atoms t ≡ true)
  pub lines : IsSubset (conj_lines l (eliminated_atoms e)) (elim_at s (conj_lines l atoms))
