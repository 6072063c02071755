-- Slots, sorts, and lists of slots.
use Rattle.std.proofs.Common.{◌≡◌, ℕ, ◌+◌, ◌<◌, nat_lt, false, ◌⊎◌, inl, inr, arith, sym, ap, ◌∙◌, true≢false, true, subst, Bool, ◌||◌, List, [], ◌∷◌, ◌++◌, refl, cond, ap₂}
use Rattle.std.proofs.lemmas.Bool.{false_from_ne_true}
use Rattle.std.proofs.lemmas.Bool.Decides.{nat_tests}
use Rattle.std.proofs.Math.Bool.{or_assoc, or-false}
use Rattle.ded_model.specs.declared.slot.Slot.{Slot}
use Rattle.ded_model.specs.declared.slot.Sort.TheVariants.{Rat, Text}
use Rattle.ded_model.specs.Point.{same_slot, stands_in, slot, Value, last_from, same_sort}
use Rattle.ded_model.proofs.Points.{same_slot_refl, same_slot_is}
use Rattle.ded_model.proofs.CoefLemmas.{equal_by_number, lesser_slot}
use Rattle.ded_model.specs.declared.name.Column.{Column}
use Rattle.ded_model.specs.Value.{Argument}
use Rattle.ded_model.specs.Catalogue.{argument_coordinate, at_slots}
use Rattle.ded_model.specs.declared.tuple.BothAtom.TheVariants.{First, Second}
use Rattle.ded_model.specs.Row.{Atom, tuple_mentions, tuples_mention}
use Rattle.ded_model.specs.Width.{with_slots, rational_slots_after}
use Rattle.ded_model.proofs.CoefLists.{with_slots-kept}
use Rattle.ded_model.specs.declared.slot.Sort.{Sort}

-- a slot that isn't the other one and isn't below it is above it
pub above_by_tests : (c s : Slot) → c.sort ≡ Rat → s.sort ≡ Rat → same_slot c s ≡ false → nat_lt s.number c.number ≡ false → c.number < s.number
above_by_tests c s e f g h = elim (below_or c.number s.number) [
  | inl k ↦ k
  | inr k ↦ absurd (true≢false (sym (ap (λ t. same_slot t s) (equal_by_number c s e f (same c.number s.number h k)) ∙ same_slot_refl s) ∙ g))
]
  where
    below_or : (k m : ℕ) → (k < m) ⊎ (m < k + 1)
    below_or k m = grind arith

    same : (k m : ℕ) → nat_lt m k ≡ false → m < k + 1 → k ≡ m
    same k m e h = grind (arith, nat_tests)

pub same_slot-turned : (s t : Slot) → same_slot s t ≡ false → same_slot t s ≡ false
same_slot-turned s t e = false_from_ne_true (same_slot t s) (λ f. true≢false (sym (subst (λ u. same_slot u t ≡ true) (same_slot_is t s f) (subst (λ u. same_slot t u ≡ true) (sym (same_slot_is t s f)) f)) ∙ e))

pub rational_no_text : Rat ≡ Text → ⊥
rational_no_text e = cc

pub stands_more : (ss : List Slot) (s t : Slot) → stands_in (ss ++ s ∷ []) t ≡ (stands_in ss t || same_slot s t)
stands_more [] s t = or_false (same_slot s t)
  where
    or_false : (b : Bool) → (b || false) ≡ b
    or_false true = refl
    or_false false = refl
stands_more (u ∷ ss) s t = ap (λ b. same_slot u t || b) (stands_more ss s t) ∙ move (same_slot u t) (stands_in ss t) (same_slot s t)
  where
    move : (a b c : Bool) → (a || (b || c)) ≡ ((a || b) || c)
    move true b c = refl
    move false b c = refl

-- no later column has a slot of a lesser number
pub passed : (k : ℕ) (h : List Column) (xs : List Argument) (s : Slot) (v : Value) → s.number < k → last_from v (at_slots k h xs) (slot s) ≡ v
passed k [] xs s v l = refl
passed k (c ∷ h) [] s v l = refl
passed k (c ∷ h) (x ∷ xs) s v l =
    ap (λ b. last_from (cond b (argument_coordinate c.sort x) v) (at_slots (k + 1) h xs) (slot s)) (lesser_slot s (record { number = k; sort = c.sort }) l) ∙ passed (k + 1) h xs s v (omega (arith, l))

pub slots-kept : (t : List Atom) (ss : List Slot) (s : Slot) → stands_in ss s ≡ true → stands_in (rational_slots_after ss t) s ≡ true
slots-kept [] ss s h = h
slots-kept (First r ∷ t) ss s h = slots-kept t (with_slots r.coefs ss) s (with_slots-kept r.coefs ss s h)
slots-kept (Second a ∷ t) ss s h = slots-kept t ss s h

-- what is no text is rational
pub rational : (s : Sort) → same_sort s Text ≡ false → s ≡ Rat
rational Rat h = refl
rational Text h = absurd (true≢false h)

-- two slots of one number and one sort are one
pub slot_same_parts : (s t : Slot) → s.number ≡ t.number → s.sort ≡ t.sort → s ≡ t
slot_same_parts s t e f = let slot_of : ℕ → Sort → Slot = λ n x. record { number = n; sort = x } in ap₂ slot_of e f

pub tuples_mention-push : (ts : List (List Atom)) (t : List Atom) (s : Slot) → tuples_mention (ts ++ t ∷ []) s ≡ (tuples_mention ts s || tuple_mentions t s)
unfolding tuples_mention
tuples_mention-push [] t s = or-false (tuple_mentions t s)
tuples_mention-push (x ∷ ts) t s = ap (λ z. tuple_mentions x s || z) (tuples_mention-push ts t s) ∙ sym (or_assoc (tuple_mentions x s) _ _)
