-- Scans added to others: what each kind of plan adds, from what its parts add.
--
-- A member of a join matters only where the rows beside it hold. What a projection's part is asked for are extensions of the
-- points that the projection is asked for: atoms that don't mention the slot hold there as well.
use Rattle.std.proofs.Common.{◌≡◌, ℕ, suc, ◌+◌, ◌<◌, arith, false, ◌||◌, List, [], ◌∷◌, ◌++◌, length, drop, get_or, slice_index_or, inl, inr, sym, ap, ◌∙◌, subst, bytes_eq}
use Rattle.std.proofs.Math.Seq.{drop-cons}
use Rattle.std.specs.Prelude.{◌↔◌, IsTrue}
use Rattle.std.specs.List.{AllByRecursion, list_any}
use Rattle.std.proofs.Math.Bool.{or_assoc, or-false}
use Rattle.std.proofs.lemmas.List.Folds.{list_any-append}
use Rattle.ded_num.proofs.Tests.{all_more}
use Rattle.ded_model.specs.declared.slot.Slot.{Slot}
use Rattle.ded_model.specs.declared.slot.Sort.{Sort}
use Rattle.ded_model.specs.Catalogue.{Catalogue, stored, meaning}
use Rattle.ded_model.specs.Logic.{atom, always, never, negation, every_of, some_of, implies, minus, exists, forall, Logics, none, also, some_atom_of, SatEvery, SatSome}
use Rattle.ded_model.specs.PlanForm.{PlanAtom, PlanForm, scan, rows, PlanAtomHolds, in_plan_atom}
use Rattle.ded_model.specs.Point.{slot, Point, IsPoint, IsExtension}
use Rattle.ded_model.specs.Row.{Atom, tuple_holds, tuple_mentions}
use Rattle.ded_model.specs.Uses.{plan_atom_uses, plan_uses}
use Rattle.ded_model.specs.Value.{Meaning}
use Rattle.ded_model.proofs.PointTexts.{extension-point}
use Rattle.ded_model.proofs.Sats.{given_respects}
use Rattle.ded_model.proofs.Unused.{extension}
use Rattle.ded_plan.specs.declared.scans.ScanWithin.{ScanWithin}
use Rattle.ded_plan.specs.Scans.{AgreesAt, IsUsed, is_of, IsOver, IsReadWithin, EachAlike, AddsScans, AddsEach, RowsHold}

-- ---- one element more

-- the next element of what is left
pub next_of : {A : Type 0} (xs : List A) (i : ℕ) (x : A) → i < length xs → x ≡ slice_index_or xs i x → drop i xs ≡ x ∷ drop (i + 1) xs
next_of xs i x h e = let k : suc i ≡ i + 1 = omega arith in drop-cons xs i x h ∙ ap (λ n. get_or xs i x ∷ drop n xs) k ∙ ap (λ y. y ∷ drop (i + 1) xs) (sym e)

all_but_last : {A : Type 0} (P : A → Type 0) (xs : List A) (y : A) → AllByRecursion P (xs ++ y ∷ []) → AllByRecursion P xs × P y
all_but_last P [] y h = (tt, h.0)
all_but_last P (x ∷ xs) y h = let rest = all_but_last P xs y h.1 in ((h.0, rest.0), rest.1)

-- ---- atoms

-- a scan, with a tuple over its slots that holds where the atoms do
pub adds_scan : (s : ScanWithin) (t : List Atom) (old new : List ScanWithin) → new ≡ old ++ s ∷ [] → ((p : Point) → IsTrue (tuple_holds t p) → IsTrue (tuple_holds s.within p)) → IsOver s
    → AddsScans (atom (scan s.name s.slots)) t old new
adds_scan s t old new e inner own = record {
  alike = λ c d h. let all = all_but_last (AgreesAt c d) old s (subst (AllByRecursion (AgreesAt c d)) e h) in (all.0, λ p i x. all.1 p i (inner p x));
  scans = λ c g a h. subst (AllByRecursion (IsUsed c g)) (sym e) (all_more (IsUsed c g) old s h a);
  uses = λ n. ap (list_any (is_of n)) e ∙ list_any-append (is_of n) old (s ∷ []) ∙ ap (λ b. list_any (is_of n) old || b) (or-false (bytes_eq n s.name));
  own = λ h. subst (AllByRecursion IsOver) (sym e) (all_more IsOver old s h own);
}

-- rows
pub adds_rows : (w t : List Atom) (old : List ScanWithin) → AddsScans (atom (rows w)) t old old
adds_rows w t old = record { alike = λ c d h. (h, λ p i x. (λ y. y, λ y. y)); scans = λ c g a h. h; uses = λ n. sym (or-false _); own = λ h. h }

-- ---- lists of plans

pub each_none : (t : List Atom) (old : List ScanWithin) → AddsEach none t old old
each_none t old = record { alike = λ c d h. (h, tt); scans = λ c g a h. h; uses = λ n. sym (or-false _); own = λ h. h }

-- the scans of the first plan, then those of the others
pub each_also : (f : PlanForm) (fs : Logics PlanAtom) (t : List Atom) (old mid new : List ScanWithin) → AddsScans f t old mid → AddsEach fs t mid new → AddsEach (also f fs) t old new
each_also f fs t old mid new a b = record {
  alike = λ c d h. let rest = b.alike c d h in let first = a.alike c d rest.0 in (first.0, (first.1, rest.1));
  scans = λ c g x h. b.scans c g x.1 (a.scans c g x.0 h);
  uses = λ n. b.uses n ∙ ap (λ b. b || some_atom_of (plan_atom_uses n) fs) (a.uses n) ∙ or_assoc (list_any (is_of n) old) (plan_uses n f) (some_atom_of (plan_atom_uses n) fs);
  own = λ h. b.own (a.own h);
}

-- ---- joins and unions

-- by any meaning the rows hold where all the plans do
rows_hold : (I : Meaning) (fs : Logics PlanAtom) (p : Point) → SatEvery (PlanAtomHolds I) fs p → RowsHold fs p
rows_hold I none p h = tt
rows_hold I (also (atom (rows w)) fs) p h = (h.0, rows_hold I fs p h.1)
rows_hold I (also (atom (scan n ss)) fs) p h = rows_hold I fs p h.1
rows_hold I (also always fs) p h = rows_hold I fs p h.1
rows_hold I (also never fs) p h = rows_hold I fs p h.1
rows_hold I (also (negation f) fs) p h = rows_hold I fs p h.1
rows_hold I (also (every_of gs) fs) p h = rows_hold I fs p h.1
rows_hold I (also (some_of gs) fs) p h = rows_hold I fs p h.1
rows_hold I (also (implies f g) fs) p h = rows_hold I fs p h.1
rows_hold I (also (minus f g) fs) p h = rows_hold I fs p h.1
rows_hold I (also (exists s k f) fs) p h = rows_hold I fs p h.1
rows_hold I (also (forall s k f) fs) p h = rows_hold I fs p h.1

module _ (c d : Catalogue) (t : List Atom) (p : Point) (i : IsPoint p) (x : IsTrue (tuple_holds t p)) where
  every_alike : (fs : Logics PlanAtom) → EachAlike c d t fs → SatEvery (PlanAtomHolds (stored c)) fs p ↔ SatEvery (PlanAtomHolds (meaning d)) fs p
  every_alike none h = (λ y. y, λ y. y)
  every_alike (also f fs) h = let e = h.0 p i x in let rest = every_alike fs h.1 in (λ y. (e.0 y.0, rest.0 y.1), λ y. (e.1 y.0, rest.1 y.1))

  some_alike : (fs : Logics PlanAtom) → EachAlike c d t fs → SatSome (PlanAtomHolds (stored c)) fs p ↔ SatSome (PlanAtomHolds (meaning d)) fs p
  some_alike none h = (λ y. y, λ y. y)
  some_alike (also f fs) h =
      let e = h.0 p i x in let rest = some_alike fs h.1 in
      (λ y. elim y [ inl a ↦ inl (e.0 a) | inr b ↦ inr (rest.0 b) ], λ y. elim y [ inl a ↦ inl (e.1 a) | inr b ↦ inr (rest.1 b) ])

-- each member matters only where the atoms and the rows among the members hold
pub adds_every : (fs : Logics PlanAtom) (t w : List Atom) (old new : List ScanWithin) → ((p : Point) → IsTrue (tuple_holds t p) → RowsHold fs p → IsTrue (tuple_holds w p)) → AddsEach fs w old new
    → AddsScans (every_of fs) t old new
adds_every fs t w old new inner a = record {
  alike = λ c d h. let all = a.alike c d h in (
    all.0,
    λ p i x. (
      λ y. (every_alike c d w p i (inner p x (rows_hold (stored c) fs p y)) fs all.1).0 y,
      λ y. (every_alike c d w p i (inner p x (rows_hold (meaning d) fs p y)) fs all.1).1 y,
    ),
  );
  scans = a.scans;
  uses = a.uses;
  own = a.own;
}

pub adds_some : (fs : Logics PlanAtom) (t : List Atom) (old new : List ScanWithin) → AddsEach fs t old new → AddsScans (some_of fs) t old new
adds_some fs t old new a = record {
  alike = λ c d h. let all = a.alike c d h in (all.0, λ p i x. some_alike c d t p i x fs all.1);
  scans = a.scans;
  uses = a.uses;
  own = a.own;
}

-- ---- complements and projections

pub adds_minus : (f g : PlanForm) (t : List Atom) (old mid new : List ScanWithin) → AddsScans f t old mid → AddsScans g t mid new → AddsScans (minus f g) t old new
adds_minus f g t old mid new a b = record {
  alike = λ c d h. let rest = b.alike c d h in let first = a.alike c d rest.0 in (
    first.0,
    λ p i x. let e = first.1 p i x in let e' = rest.1 p i x in (λ y. (e.0 y.0, λ z. y.1 (e'.1 z)), λ y. (e.1 y.0, λ z. y.1 (e'.0 z))),
  );
  scans = λ c k x h. b.scans c k x.1 (a.scans c k x.0 h);
  uses = λ n. b.uses n ∙ ap (λ b. b || plan_uses n g) (a.uses n) ∙ or_assoc (list_any (is_of n) old) (plan_uses n f) (plan_uses n g);
  own = λ h. b.own (a.own h);
}

pub adds_negation : (f : PlanForm) (t : List Atom) (old new : List ScanWithin) → AddsScans f t old new → AddsScans (negation f) t old new
adds_negation f t old new a = record {
  alike = λ c d h. let all = a.alike c d h in (all.0, λ p i x. let e = all.1 p i x in (λ n y. n (e.1 y), λ n y. n (e.0 y)));
  scans = a.scans;
  uses = a.uses;
  own = a.own;
}

-- atoms that don't mention the slot hold at each extension
past : (s : Sort) (u : Slot) (w : List Atom) (p q : Point) → 0 < p.den → tuple_mentions w u ≡ false → IsExtension s p (slot u) q → IsTrue (tuple_holds w p) → IsTrue (tuple_holds w q)
past s u w p q i n x = (extension (PlanAtomHolds (stored any)) in_plan_atom (given_respects any) (atom (rows w)) s (slot u) p q i n x).0
  where
    any : Catalogue
    any = record { limit = 0; entries = [] }

pub adds_exists : (s : Sort) (u : Slot) (f : PlanForm) (t w : List Atom) (old new : List ScanWithin) → ((p : Point) → IsTrue (tuple_holds t p) → IsTrue (tuple_holds w p)) → tuple_mentions w u ≡ false → AddsScans f w old new
    → AddsScans (exists s (slot u) f) t old new
adds_exists s u f t w old new inner n a = record {
  alike = λ c d h. let all = a.alike c d h in (
    all.0,
    λ p i x. let here = λ (q : Point) (e : IsExtension s p (slot u) q). all.1 q (extension-point s p q (slot u) i e) (past s u w p q i.positive n e (inner p x)) in (
      λ y. (y.0, y.1, (here y.0 y.1).0 y.2),
      λ y. (y.0, y.1, (here y.0 y.1).1 y.2),
    ),
  );
  scans = a.scans;
  uses = a.uses;
  own = a.own;
}

-- ---- all of them

-- added to none
pub read_within : (f : PlanForm) (t : List Atom) (old ss : List ScanWithin) → old ≡ [] → AddsScans f t old ss → IsReadWithin f t ss
read_within f t old ss e a =
    let b = subst (λ xs. AddsScans f t xs ss) e a in
    record { alike = λ c d h. (b.alike c d h).1; scans = λ c g x. b.scans c g x tt; uses = λ n. sym (b.uses n); own = b.own tt }
