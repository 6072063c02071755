-- Normal atoms that mention only slots of a heading mention no more rational slots than it has rational columns.
use Rattle.std.proofs.Common.{◌≡◌, ◌≤◌, Bool, true, false, ◌||◌, cond, List, [], ◌∷◌, length, inl, inr, refl, sym, ap, ◌∙◌, subst, true≢false}
use Rattle.std.specs.Prelude.{ℤ}
use Rattle.std.specs.List.{AllByRecursion, IsDistinct}
use Rattle.std.specs.Cmp.{IsEquivalence}
use Rattle.std.proofs.lemmas.Map.Made.{length-le_from_is_member}
use Rattle.ded_model.specs.declared.name.Column.{Column}
use Rattle.ded_model.specs.declared.slot.Slot.{Slot}
use Rattle.ded_model.specs.declared.slot.Sort.TheVariants.{Rat}
use Rattle.ded_model.specs.declared.tuple.BothAtom.TheVariants.{First, Second}
use Rattle.ded_model.specs.Known.{heading_slots}
use Rattle.ded_model.specs.Normal.{IsNormalAtom}
use Rattle.ded_model.specs.Point.{AreDistinctSlots, same_slot, stands_in}
use Rattle.ded_model.specs.Row.{Atom, row_mentions, atom_mentions, tuple_mentions}
use Rattle.ded_model.specs.Width.{with_slots, rational_slots, rational_slots_after, rational_columns}
use Rattle.ded_model.proofs.LineSlots.{has_slot}
use Rattle.ded_model.proofs.Members.{or_split}
use Rattle.ded_model.proofs.Points.{same_slot_is, same_slot_refl}
use Rattle.ded_model.proofs.RationalColumns.{rational_heading, rational_heading-length, rational_heading-has}
use Rattle.ded_model.proofs.Rows.{or_left, or_right}
use Rattle.ded_width.proofs.LineReaches.{coefs_ascending, slot_rational}

-- slots without repetitions, all of them among the others
record AreAmong (ys ss : List Slot) : Type 0 where
  distinct : AreDistinctSlots ss
  among : (s : Slot) → stands_in ss s ≡ true → stands_in ys s ≡ true

-- equality in the order in which `stands_in` compares
equal_to : Slot → Slot → Bool
equal_to s t = same_slot t s

slot_symm : (s t : Slot) (b d : Bool) → same_slot s t ≡ b → same_slot t s ≡ d → same_slot t s ≡ same_slot s t
slot_symm s t true d e f = subst (λ u. same_slot u s ≡ same_slot s u) (same_slot_is s t e) refl
slot_symm s t false true e f = subst (λ u. same_slot t u ≡ same_slot u t) (same_slot_is t s f) refl
slot_symm s t false false e f = f ∙ sym e

slot_laws : IsEquivalence equal_to
unfolding equal_to
slot_laws = record {
  refl = same_slot_refl;
  symm = λ s t. slot_symm s t _ _ refl refl;
  congr = λ s t u e. ap (λ x. same_slot u x) (sym (same_slot_is t s e));
}

all_apart : (s : Slot) (ss : List Slot) → stands_in ss s ≡ false → AllByRecursion (λ t. equal_to s t ≡ false) ss
unfolding equal_to
all_apart s [] h = tt
all_apart s (t ∷ ss) h = by (same_slot t s) refl h (all_apart s ss)
  where
    by : (b : Bool) → same_slot t s ≡ b → (b || stands_in ss s) ≡ false → (stands_in ss s ≡ false → AllByRecursion (λ u. same_slot u s ≡ false) ss) → (same_slot t s ≡ false) × AllByRecursion (λ u. same_slot u s ≡ false) ss
    by true e h others = absurd (true≢false h)
    by false e h others = (e, others h)

all_distinct : (ss : List Slot) → AreDistinctSlots ss → IsDistinct equal_to ss
unfolding IsDistinct
all_distinct [] d = tt
all_distinct (s ∷ ss) d = (all_apart s ss d.0, all_distinct ss d.1)

-- so they are no more than the others
no_more : (ys ss : List Slot) → AreAmong ys ss → length ss ≤ length ys
unfolding equal_to
no_more ys ss a = length-le_from_is_member slot_laws ss ys (all_distinct ss a.distinct) a.among

-- with one more that is not there yet
with_one : (ys ss : List Slot) (s : Slot) → AreAmong ys ss → stands_in ss s ≡ false → stands_in ys s ≡ true → AreAmong ys (s ∷ ss)
with_one ys ss s a n h = record {
  distinct = (n, a.distinct);
  among = λ t i. elim (or_split (same_slot s t) (stands_in ss t) i) [ inl e ↦ subst (λ u. stands_in ys u ≡ true) (same_slot_is s t e) h | inr j ↦ a.among t j ];
}

with_coefs : (ys : List Slot) (cs : List (Slot × ℤ)) (ss : List Slot) → AreAmong ys ss → ((s : Slot) → has_slot cs s ≡ true → stands_in ys s ≡ true) → AreAmong ys (with_slots cs ss)
with_coefs ys [] ss a h = a
with_coefs ys (c ∷ cs) ss a h =
    with_coefs ys cs (cond (stands_in ss c.0) ss (c.0 ∷ ss)) (by (stands_in ss c.0) refl) (λ s i. h s (or_right (same_slot c.0 s) (has_slot cs s) i))
  where
    by : (b : Bool) → stands_in ss c.0 ≡ b → AreAmong ys (cond b ss (c.0 ∷ ss))
    by true e = a
    by false e = with_one ys ss c.0 a e (h c.0 (or_left (same_slot c.0 c.0) (has_slot cs c.0) (same_slot_refl c.0)))

with_atoms : (ys : List Slot) (t : List Atom) (ss : List Slot) → AllByRecursion IsNormalAtom t → AreAmong ys ss → ((s : Slot) → tuple_mentions t s ≡ true → s.sort ≡ Rat → stands_in ys s ≡ true) → AreAmong ys (rational_slots_after ss t)
unfolding tuple_mentions atom_mentions row_mentions
with_atoms ys [] ss n a h = a
with_atoms ys (First r ∷ t) ss n a h =
    with_atoms ys t (with_slots r.coefs ss) n.1
    (with_coefs ys r.coefs ss a (λ s i. h s (or_left (has_slot r.coefs s) (tuple_mentions t s) i) (slot_rational r.coefs s (coefs_ascending r.coefs n.0.0) i)))
    (λ s i q. h s (or_right (has_slot r.coefs s) (tuple_mentions t s) i) q)
with_atoms ys (Second b ∷ t) ss n a h = with_atoms ys t ss n.1 a (λ s i q. h s (or_right (atom_mentions (Second b) s) (tuple_mentions t s) i) q)

-- so the heading's rational columns are as many, or more
pub slots_few : (h : List Column) (t : List Atom) → AllByRecursion IsNormalAtom t → ((s : Slot) → tuple_mentions t s ≡ true → stands_in (heading_slots 0 h) s ≡ true) → length (rational_slots t) ≤ rational_columns h
slots_few h t n o =
    subst (λ k. length (rational_slots t) ≤ k) (rational_heading-length 0 h)
    (no_more (rational_heading 0 h) (rational_slots t)
    (with_atoms (rational_heading 0 h) t [] n (record { distinct = tt; among = λ s i. absurd (true≢false (sym i)) }) (λ s m r. rational_heading-has 0 h s (o s m) r)))
