-- Normal tuples of a list of conjunctions.
use Rattle.std.proofs.Common.{◌≡◌, true, List, [], ◌∷◌, Ok, Err, ⊎_elim, sym, ◌∙◌, true≢false}
use Rattle.std.specs.List.{AllByRecursion}
use Rattle.std.specs.Prelude.{◌↔◌, IsTrue, IfOk, Result}
use Rattle.ded_model.specs.declared.name.Column.{Column}
use Rattle.ded_model.specs.declared.slot.Slot.{Slot}
use Rattle.ded_model.specs.Known.{IsTupleOver, heading_slots}
use Rattle.ded_model.specs.Lines.{IsSubset, tuples_lines}
use Rattle.ded_model.specs.Normal.{IsNormalTuple}
use Rattle.ded_model.specs.Point.{Point, IsPoint, stands_in}
use Rattle.ded_model.specs.Row.{Atom, tuple_mentions, tuples_hold, tuples_mention}
use Rattle.ded_model.proofs.Members.{or_split}
use Rattle.ded_model.proofs.Rows.{or_left, or_right}
use Rattle.ded_model.proofs.Members.{subset_trans}
use Rattle.ded_atoms.specs.Written.{IsWrittenAs}
use Rattle.ded_topology.specs.Closing.{AreNormalPart}

-- tuples over a heading mention its slots alone
pub over_slots : (h : List Column) (ts : List (List Atom)) → AllByRecursion (IsTupleOver h) ts → (s : Slot) → tuples_mention ts s ≡ true → stands_in (heading_slots 0 h) s ≡ true
unfolding tuples_mention
over_slots h [] o s e = absurd (true≢false (sym e))
over_slots h (t ∷ ts) o s e = ⊎_elim (λ (a : tuple_mentions t s ≡ true). o.0.slots s a) (λ b. over_slots h ts o.1 s b) (or_split (tuple_mentions t s) (tuples_mention ts s) e)

-- normal tuples that do so are over it
pub over_from : (h : List Column) (us : List (List Atom)) → AllByRecursion IsNormalTuple us → ((s : Slot) → tuples_mention us s ≡ true → stands_in (heading_slots 0 h) s ≡ true) → AllByRecursion (IsTupleOver h) us
unfolding tuples_mention
over_from h [] n m = tt
over_from h (u ∷ us) n m =
    (record { normal = n.0; slots = λ s e. m s (or_left (tuple_mentions u s) (tuples_mention us s) e) }, over_from h us n.1 (λ s e. m s (or_right (tuple_mentions u s) (tuples_mention us s) e)))

pub part_over : (ts conjs us : List (List Atom)) → ((s : Slot) → tuples_mention conjs s ≡ true → tuples_mention ts s ≡ true) → AreNormalPart conjs us → (h : List Column) → AllByRecursion (IsTupleOver h) ts → AllByRecursion (IsTupleOver h) us
part_over ts conjs us m k h o = over_from h us k.normal (λ s e. over_slots h ts o s (m s (k.slots s e)))

-- what is said of the list at a point is so of the tuples
pub part_holds : (P : Point → Type 0) (conjs us : List (List Atom)) → AreNormalPart conjs us → ((p : Point) → IsPoint p → P p ↔ IsTrue (tuples_hold conjs p)) → (p : Point) → IsPoint p → P p ↔ IsTrue (tuples_hold us p)
part_holds P conjs us k f p i = (λ h. k.holds p i ∙ (f p i).0 h, λ h. (f p i).1 (sym (k.holds p i) ∙ h))

-- what is said of a result, clause by clause, is said of it together
pub part_reduced : {E : Type 0} → (conjs ts : List (List Atom)) (r : Result (List (List Atom)) E) → IsWrittenAs conjs ts
    → IfOk r (λ us. (p : Point) → IsPoint p → tuples_hold us p ≡ tuples_hold ts p)
    → IfOk r (λ us. (s : Slot) → tuples_mention us s ≡ true → tuples_mention ts s ≡ true)
    → IfOk r (λ us. IsSubset (tuples_lines us) (tuples_lines ts))
    → IfOk r (λ us. AllByRecursion IsNormalTuple us) → IfOk r (λ us. AreNormalPart conjs us)
part_reduced conjs ts (Ok us) w h s l n = record {
  holds = λ p i. h p i ∙ w.holds p;
  slots = λ x e. w.slots x (s x e);
  lines = subset_trans (tuples_lines us) (tuples_lines ts) (tuples_lines conjs) l w.lines;
  normal = n;
}
part_reduced conjs ts (Err e) w h s l n = tt
