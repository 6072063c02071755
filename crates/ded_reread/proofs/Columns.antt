-- The slots of a heading are called by their columns.
use Rattle.std.proofs.Common.{◌≡◌, ℕ, zero, suc, ◌+◌, ◌<◌, Bool, true, false, List, [], ◌∷◌, length, refl, sym, ap, ◌∙◌, subst, arith, ⊎_elim, bytes_eq}
use Rattle.std.specs.Prelude.{Some, is_none}
use Rattle.std.specs.Option.{unwrap_or}
use Rattle.std.specs.List.{list_any}
use Rattle.std.proofs.lemmas.Bool.{or_cases, or_parts}
use Rattle.ded_model.specs.declared.slot.Sort.TheVariants.{Rat}
use Rattle.ded_model.specs.declared.slot.Slot.{Slot}
use Rattle.ded_model.specs.declared.name.Column.{Column}
use Rattle.ded_model.specs.Known.{has_twice, heading_slots, scope_of, is_unbound_name, sort_in, sort_with}
use Rattle.ded_model.specs.Point.{name, same_slot, stands_in}
use Rattle.ded_model.specs.Slotted.{nearest, slot_of, heading_scope}
use Rattle.ded_model.proofs.Bools.{bytes_eq-refl}
use Rattle.ded_model.proofs.Points.{same_slot_is}
use Rattle.ded_print.specs.Tuples.{column_at, column_names}
use Rattle.ded_print.proofs.Shared.{other_name}
use Rattle.ded_reread.specs.Words.{Test, AreNamed}

-- the slot is column number `place` of these, counted from i on, and its name is bound nowhere nearer
record IsColumn (i : ℕ) (h : List Column) (s : Slot) : Type 0 where
  place : ℕ
  number : s.number ≡ i + place
  within : place < length h
  near : nearest (heading_scope i h) (name (column_at h place)) ≡ Some s
  sorted : nearest (scope_of h) (name (column_at h place)) ≡ Some s.sort

here : (i : ℕ) (c : Column) (cs : List Column) (s : Slot) → record { number = i; sort = c.sort } ≡ s → IsColumn i (c ∷ cs) s
here i c cs s e = record {
  place = 0;
  number = ap (λ (t : Slot). t.number) (sym e) ∙ omega arith;
  within = omega arith;
  near = rw (bytes_eq-refl c.name) (ap (λ (t : Slot). Some t) e);
  sorted = rw (bytes_eq-refl c.name) (ap (λ (t : Slot). Some t.sort) e);
}

further : (i : ℕ) (c : Column) (cs : List Column) (s : Slot) → list_any (λ d. bytes_eq c.name d.name) cs ≡ false → IsColumn (i + 1) cs s → IsColumn i (c ∷ cs) s
further i c cs s once k = record {
  place = suc k.place;
  number = omega (arith, k.number);
  within = omega (arith, k.within);
  near = rw (other_name c.name cs k.place k.within once) k.near;
  sorted = rw (other_name c.name cs k.place k.within once) k.sorted;
}

is_column : (i : ℕ) (h : List Column) (s : Slot) → has_twice h ≡ false → stands_in (heading_slots i h) s ≡ true → IsColumn i h s
is_column i [] s once e = absurd cc
is_column i (c ∷ cs) s once e =
    let parts = or_parts (list_any (λ d. bytes_eq c.name d.name) cs) (has_twice cs) once in
    ⊎_elim
    (λ e. here i c cs s (same_slot_is (record { number = i; sort = c.sort }) s e))
    (λ e. further i c cs s parts.0 (is_column (i + 1) cs s parts.1 e))
    (or_cases (same_slot (record { number = i; sort = c.sort }) s) (stands_in (heading_slots (i + 1) cs) s) e)

-- the name of the slot is bound, and means it
pub record IsColumnSlot (h : List Column) (s : Slot) : Type 0 where
  pub called : slot_of (heading_scope 0 h) (column_names h s) ≡ s
  pub bound : is_unbound_name (scope_of h) (column_names h s) ≡ false
  pub sorted : sort_in (scope_of h) (column_names h s) ≡ s.sort

pub column_slot : (h : List Column) (s : Slot) → has_twice h ≡ false → stands_in (heading_slots 0 h) s ≡ true → IsColumnSlot h s
column_slot h s once e =
    let c = is_column 0 h s once e in
    let same : c.place ≡ s.number = sym (omega (arith, c.number)) in
    let near = subst (λ k. nearest (heading_scope 0 h) (name (column_at h k)) ≡ Some s) same c.near in
    let sorted = subst (λ k. nearest (scope_of h) (name (column_at h k)) ≡ Some s.sort) same c.sorted in
    record { called = ap (λ o. unwrap_or o (record { number = 0; sort = Rat })) near; bound = ap is_none sorted; sorted = ap sort_with sorted }

-- ---- without a look at which names come twice

named_at : (N : Test) (h : List Column) (k : ℕ) → k < length h → AreNamed N h → N (column_at h k)
named_at N [] k l n = absurd (omega (arith, l))
named_at N (c ∷ cs) zero l n = n.0
named_at N (c ∷ cs) (suc k) l n = named_at N cs k (omega (arith, l)) n.1

slot_within : (i : ℕ) (h : List Column) (s : Slot) → stands_in (heading_slots i h) s ≡ true → s.number < i + length h
slot_within i [] s e = absurd cc
slot_within i (c ∷ cs) s e =
    ⊎_elim
    (λ e. let same = ap (λ (t : Slot). t.number) (same_slot_is (record { number = i; sort = c.sort }) s e) in omega (arith, same))
    (λ e. omega (arith, slot_within (i + 1) cs s e))
    (or_cases (same_slot (record { number = i; sort = c.sort }) s) (stands_in (heading_slots (i + 1) cs) s) e)

pub column_named : (N : Test) (h : List Column) (s : Slot) → stands_in (heading_slots 0 h) s ≡ true → AreNamed N h → N (column_names h s)
column_named N h s e n = named_at N h s.number (omega (arith, slot_within 0 h s e)) n

bound_at : (h : List Column) (k : ℕ) → k < length h → is_unbound_name (scope_of h) (column_at h k) ≡ false
bound_at [] k l = absurd (omega (arith, l))
bound_at (c ∷ cs) zero l = rw (bytes_eq-refl c.name) refl
bound_at (c ∷ cs) (suc k) l = by (bytes_eq c.name (column_at cs k)) refl (bound_at cs k (omega (arith, l)))
  where
    by : (b : Bool) → bytes_eq c.name (column_at cs k) ≡ b → is_unbound_name (scope_of cs) (column_at cs k) ≡ false → is_unbound_name (scope_of (c ∷ cs)) (column_at cs k) ≡ false
    by true e rest = rw e refl
    by false e rest = rw e rest

pub column_bound : (h : List Column) (s : Slot) → stands_in (heading_slots 0 h) s ≡ true → is_unbound_name (scope_of h) (column_names h s) ≡ false
column_bound h s e = bound_at h s.number (omega (arith, slot_within 0 h s e))
