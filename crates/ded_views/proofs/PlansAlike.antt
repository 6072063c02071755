-- A plan holds alike where the names that it scans mean the same of byte strings.
--
-- At a point, what a scan reads from the slots are byte strings, over a denominator above 0.
use Rattle.std.proofs.Common.{◌≡◌, ℕ, suc, ◌<◌, true, List, [], ◌∷◌, map, length, refl, ap, ◌∙◌, mul-pos}
use Rattle.std.specs.Prelude.{◌↔◌, ℤ}
use Rattle.std.proofs.lemmas.List.{length-map}
use Rattle.std.proofs.lemmas.Slice.Eq.{bytes_eq-Decides}
use Rattle.ded_model.specs.declared.slot.Slot.{Slot}
use Rattle.ded_model.specs.declared.slot.Sort.{Sort}
use Rattle.ded_model.specs.declared.slot.Sort.TheVariants.{Rat, Text}
use Rattle.ded_model.specs.Point.{slot, AllBytes, Point, IsPoint, number_at, text_at}
use Rattle.ded_model.specs.Value.{OperandValue, sorted_value, slot_value, Argument, Meaning, overs, argument_times, arguments}
use Rattle.ded_model.specs.Catalogue.{Catalogue, stored, meaning, PlanHolds, GivenHolds}
use Rattle.ded_model.specs.Logic.{Sat, AllAtoms}
use Rattle.ded_model.specs.PlanForm.{PlanForm, PlanAtom, scan, rows, PlanAtomHolds}
use Rattle.ded_model.specs.Uses.{plan_atom_uses, plan_uses}
use Rattle.ded_model.proofs.Alike.{all_atoms}
use Rattle.ded_model.proofs.Values.{overs-positive, sorted}
use Rattle.ded_model.proofs.PointTexts.{point-bytes}
use Rattle.ded_views.specs.Same.{AreByteArguments, MeansSame, ScansSame}
use Rattle.ded_views.proofs.Atoms.{all_weaker}
use Rattle.ded_views.proofs.PointsAlike.{IsAlikeAtPoints, alike}

-- ---- what a scan reads

times_bytes : (m : ℕ) (xs : List Argument) → AreByteArguments xs → AreByteArguments (map (argument_times m) xs)
times_bytes m [] h = tt
times_bytes m (x ∷ xs) h = (h.0, times_bytes m xs h.1)

sorted_bytes : (s : Sort) (n : ℤ) (t : List ℕ) → AllBytes t → AllBytes (sorted_value s n t).text
sorted_bytes Rat n t h = tt
sorted_bytes Text n t h = h

pub arguments_bytes : (p : Point) → IsPoint p → (ss : List Slot) → AreByteArguments (arguments (map (slot_value p) ss))
arguments_bytes p i [] = tt
arguments_bytes p i (s ∷ ss) =
    (sorted_bytes s.sort (number_at p (slot s)) (text_at p (slot s)) (point-bytes p (slot s) i), times_bytes (slot_value p s).over (arguments (map (slot_value p) ss)) (arguments_bytes p i ss))

pub slots_positive : (p : Point) (ss : List Slot) → 0 < overs (map (slot_value p) ss)
slots_positive p ss = overs-positive (slot_value p) (λ s. sorted s.sort (number_at p (slot s)) (text_at p (slot s))) ss

pub arguments_length : (f : Slot → OperandValue) (ss : List Slot) → length (arguments (map f ss)) ≡ length ss
arguments_length f [] = refl
arguments_length f (s ∷ ss) = ap suc (length-map (arguments (map f ss)) (argument_times (f s).over) ∙ arguments_length f ss)

-- ---- the law

module _ (I J : Meaning) where
  scan_alike : (a : PlanAtom) → ScansSame I J a → IsAlikeAtPoints (PlanAtomHolds I) (PlanAtomHolds J) a
  scan_alike (scan n ss) h p i = h _ _ (mul-pos i.positive (slots_positive p ss)) (arguments_bytes p i ss) (arguments_length (slot_value p) ss)
  scan_alike (rows t) h p i = (λ s. s, λ s. s)

  -- by any two meanings, of scans that are read the same
  pub scans_alike : (f : PlanForm) (p : Point) → IsPoint p → AllAtoms (ScansSame I J) f → Sat (PlanAtomHolds I) f p ↔ Sat (PlanAtomHolds J) f p
  scans_alike f p i h = alike (PlanAtomHolds I) (PlanAtomHolds J) f (all_weaker (ScansSame I J) (IsAlikeAtPoints (PlanAtomHolds I) (PlanAtomHolds J)) scan_alike f h) p i

-- a name that means the same is scanned the same
same_scans : (c d : Catalogue) (a : PlanAtom) → ((n : List ℕ) → plan_atom_uses n a ≡ true → MeansSame c d n) → ScansSame (meaning c) (meaning d) a
same_scans c d (scan n ss) h = λ den xs i b l. h n ((bytes_eq-Decides n n).1 refl) den xs i b
same_scans c d (rows t) h = tt

pub plans_alike : (c d : Catalogue) (f : PlanForm) (p : Point) → IsPoint p → ((n : List ℕ) → plan_uses n f ≡ true → MeansSame c d n) → PlanHolds c f p ↔ PlanHolds d f p
plans_alike c d f p i h = scans_alike (meaning c) (meaning d) f p i (all_atoms plan_atom_uses (MeansSame c d) (ScansSame (meaning c) (meaning d)) (same_scans c d) f h)

-- over relations that are given under names of any kind
pub given_alike : (c d : Catalogue) (f : PlanForm) (p : Point) → IsPoint p → AllAtoms (ScansSame (stored c) (stored d)) f → GivenHolds c f p ↔ GivenHolds d f p
given_alike c d = scans_alike (stored c) (stored d)

-- over them as over a catalogue
pub read_alike : (c d : Catalogue) (f : PlanForm) (p : Point) → IsPoint p → AllAtoms (ScansSame (stored c) (meaning d)) f → GivenHolds c f p ↔ PlanHolds d f p
read_alike c d = scans_alike (stored c) (meaning d)

-- over two catalogues
pub scanned_alike : (c d : Catalogue) (f : PlanForm) (p : Point) → IsPoint p → AllAtoms (ScansSame (meaning c) (meaning d)) f → PlanHolds c f p ↔ PlanHolds d f p
scanned_alike c d = scans_alike (meaning c) (meaning d)
