-- A point by names and a point by slots that agree in a scope, and how they are extended in step.
--
-- A scope gives each key the slot that stands for it, the nearest first; its keys with the slots' sorts are what the tests
-- of names go by (`sorts_of`). The two points agree where each name that is bound has the same number and the same text as
-- its slot, of which the one that the slot's sort doesn't speak of is 0 or empty. A new slot has a number above those in
-- scope, so it disturbs none of them, and a new key hides only itself.
use Rattle.std.proofs.Common.{◌≡◌, ℕ, ◌+◌, ◌*◌, ◌<◌, ◌==◌, ◌&&◌, Bool, true, false, cond, is_none, Some, unwrap_or, List, [], ◌∷◌, ◌++◌, arith, refl, sym, ap, ◌∙◌}
use Rattle.std.specs.Prelude.{ℤ, pos, ◌*ℤ◌}
use Rattle.std.proofs.Math.IntN.{zero-*ℤ}
use Rattle.std.proofs.lemmas.Bool.Decides.{nat_tests}
use Rattle.ded_num.proofs.Tests.{bytes_eq-swap}
use Rattle.ded_model.specs.declared.slot.Slot.{Slot}
use Rattle.ded_model.specs.declared.slot.Sort.{Sort}
use Rattle.ded_model.specs.declared.slot.Sort.TheVariants.{Rat, Text}
use Rattle.ded_model.specs.Point.{Key, slot, name, number, text, Point, IsNumberExtension, IsTextExtension, IsExtension, same_key, same_sort, number_at, text_at, all_times}
use Rattle.ded_model.specs.Logic.{Scope}
use Rattle.ded_model.specs.Slotted.{SlotScope, nearest, slot_of}
use Rattle.ded_model.specs.Known.{is_unbound_name, sort_in, sort_with}
use Rattle.ded_model.proofs.Points.{same_key_refl, number_at-extended, number_at-kept, text_at-number_extended, text_at-number_kept, text_at-extended, text_at-kept, number_at-text_extended, number_at-text_kept, positive-extension}

-- ---- scopes

-- the keys of a scope, each with what its slot ranges over
abbrev pub sorts_of : SlotScope → Scope
sorts_of [] = []
sorts_of (v ∷ slots) = (v.0, v.1.sort) ∷ sorts_of slots

-- what an unbound variable has
abbrev pub no_slot : Slot
no_slot = record { number = 0; sort = Rat }

-- the sort of a variable is that of its slot
pub sort_in-slot : (slots : SlotScope) (x : List ℕ) → sort_in (sorts_of slots) x ≡ (slot_of slots x).sort
sort_in-slot [] x = refl
sort_in-slot (v ∷ slots) x = step (same_key v.0 (name x)) (sort_in-slot slots x)
  where
    step : (b : Bool) → sort_in (sorts_of slots) x ≡ (slot_of slots x).sort
        → sort_with (cond b (Some v.1.sort) (nearest (sorts_of slots) (name x))) ≡ (unwrap_or (cond b (Some v.1) (nearest slots (name x))) no_slot).sort
    step true e = refl
    step false e = e

-- ---- agreement

-- a number and a text of which the one that the sort doesn't speak of is 0 or empty
abbrev pub IsOnlyOf : Sort → ℤ → List ℕ → Type 0
IsOnlyOf Rat n t = t ≡ []
IsOnlyOf Text n t = n ≡ pos 0

-- a name and its slot, of a number below the next one, have the same value
pub record AgreesAt (next : ℕ) (p q : Point) (x : List ℕ) (u : Slot) : Type 0 where
  pub below : u.number < next
  pub number : number_at p (name x) ≡ number_at q (slot u)
  pub text : text_at p (name x) ≡ text_at q (slot u)
  pub only : IsOnlyOf u.sort (number_at q (slot u)) (text_at q (slot u))

-- so has each name that is bound, over the same denominator
pub record Agrees (slots : SlotScope) (next : ℕ) (p q : Point) : Type 0 where
  pub positive : 0 < p.den
  pub den : p.den ≡ q.den
  pub each : (x : List ℕ) → is_unbound_name (sorts_of slots) x ≡ false → AgreesAt next p q x (slot_of slots x)

-- a value over more times the denominator is of its sort still
only-times : (s : Sort) (n m : ℤ) (t u : List ℕ) (e : ℕ) → m ≡ n *ℤ pos e → u ≡ t → IsOnlyOf s n t → IsOnlyOf s m u
only-times Rat n m t u e i j h = j ∙ h
only-times Text n m t u e i j h = i ∙ ap (λ z. z *ℤ pos e) h ∙ zero-*ℤ (pos e)

-- so is an equal value
only-same : (s : Sort) (n m : ℤ) (t u : List ℕ) → m ≡ n → u ≡ t → IsOnlyOf s n t → IsOnlyOf s m u
only-same Rat n m t u i j h = j ∙ h
only-same Text n m t u i j h = i ∙ h

-- ---- keys

-- keys are compared in either order
same_key_sym : (k : Key) (x : List ℕ) → same_key (name x) k ≡ same_key k (name x)
same_key_sym (slot s) x = refl
same_key_sym (name y) x = bytes_eq-swap x y

-- a slot of another number is another one
other_number : (v : Slot) (n : ℕ) (s : Sort) → (v.number == n) ≡ false → same_key (slot v) (slot (record { number = n; sort = s })) ≡ false
other_number v n s h = ap (λ b. b && same_sort v.sort s) h

-- so is one of a lesser number
pub older_slot : (v : Slot) (n : ℕ) (s : Sort) → v.number < n → same_key (slot v) (slot (record { number = n; sort = s })) ≡ false
older_slot v n s h = other_number v n s (grind (arith, nat_tests))

-- and one of a greater number
pub newer_slot : (v : Slot) (n : ℕ) (s : Sort) → n < v.number → same_key (slot v) (slot (record { number = n; sort = s })) ≡ false
newer_slot v n s h = other_number v n s (grind (arith, nat_tests))

-- ---- extensions in step

module _ (slots : SlotScope) (n : ℕ) (p q : Point) (A : Agrees slots n p q) (k : Key) where
  -- the new slot
  abbrev new : Sort → Slot
  new s = record { number = n; sort = s }

  -- two extensions by one number over one factor
  module _ (p' q' : Point) (x : IsNumberExtension p k p') (y : IsNumberExtension q (slot (new Rat)) q') (factor : x.factor ≡ y.factor) (value : x.value ≡ y.value) where
    -- a name has the same value in both
    number_agrees : (z : List ℕ) (b : Bool) → same_key k (name z) ≡ b → is_none (cond b (Some Rat) (nearest (sorts_of slots) (name z))) ≡ false
        → AgreesAt (n + 1) p' q' z (unwrap_or (cond b (Some (new Rat)) (nearest slots (name z))) no_slot)
    number_agrees z true e h =
        let same = same_key_refl (slot (new Rat)) in
        let here = same_key_sym k z ∙ e in
        let empty = text_at-number_extended q (slot (new Rat)) q' y (slot (new Rat)) same in
        record {
          below = omega arith;
          number = number_at-extended p k p' x (name z) here ∙ value ∙ sym (number_at-extended q (slot (new Rat)) q' y (slot (new Rat)) same);
          text = text_at-number_extended p k p' x (name z) here ∙ sym empty;
          only = empty;
        }
    number_agrees z false e h =
        let u = slot_of slots z in
        let a = A.each z h in
        let other = older_slot u n Rat a.below in
        let there = same_key_sym k z ∙ e in
        let number = number_at-kept q (slot (new Rat)) q' y (slot u) other in
        let text = text_at-number_kept q (slot (new Rat)) q' y (slot u) other in
        record {
          below = omega (arith, a.below);
          number = number_at-kept p k p' x (name z) there ∙ rw (a.number, factor) (sym number);
          text = text_at-number_kept p k p' x (name z) there ∙ a.text ∙ sym text;
          only = only-times u.sort _ _ _ _ y.factor number text a.only;
        }

    -- so the points agree
    number_step : Agrees ((k, new Rat) ∷ slots) (n + 1) p' q'
    number_step = record {
      positive = positive-extension Rat p k p' A.positive x;
      den = x.den ∙ rw (A.den, factor) (sym y.den);
      each = λ z h. number_agrees z (same_key k (name z)) refl h;
    }

  -- two extensions by one text
  module _ (p' q' : Point) (x : IsTextExtension p k p') (y : IsTextExtension q (slot (new Text)) q') (value : x.value ≡ y.value) where
    -- a name has the same value in both
    text_agrees : (z : List ℕ) (b : Bool) → same_key k (name z) ≡ b → is_none (cond b (Some Text) (nearest (sorts_of slots) (name z))) ≡ false
        → AgreesAt (n + 1) p' q' z (unwrap_or (cond b (Some (new Text)) (nearest slots (name z))) no_slot)
    text_agrees z true e h =
        let same = same_key_refl (slot (new Text)) in
        let here = same_key_sym k z ∙ e in
        let zero = number_at-text_extended q (slot (new Text)) q' y (slot (new Text)) same in
        record {
          below = omega arith;
          number = number_at-text_extended p k p' x (name z) here ∙ sym zero;
          text = text_at-extended p k p' x (name z) here ∙ value ∙ sym (text_at-extended q (slot (new Text)) q' y (slot (new Text)) same);
          only = zero;
        }
    text_agrees z false e h =
        let u = slot_of slots z in
        let a = A.each z h in
        let other = older_slot u n Text a.below in
        let there = same_key_sym k z ∙ e in
        let number = number_at-text_kept q (slot (new Text)) q' y (slot u) other in
        let text = text_at-kept q (slot (new Text)) q' y (slot u) other in
        record {
          below = omega (arith, a.below);
          number = number_at-text_kept p k p' x (name z) there ∙ a.number ∙ sym number;
          text = text_at-kept p k p' x (name z) there ∙ a.text ∙ sym text;
          only = only-same u.sort _ _ _ _ number text a.only;
        }

    -- so the points agree
    text_step : Agrees ((k, new Text) ∷ slots) (n + 1) p' q'
    text_step = record {
      positive = positive-extension Text p k p' A.positive x;
      den = x.den ∙ A.den ∙ sym y.den;
      each = λ z h. text_agrees z (same_key k (name z)) refl h;
    }

  -- an extension by names has one by slots that agrees with it
  pub extend_slots : (s : Sort) (p' : Point) → IsExtension s p k p' → (q' : Point) × IsExtension s q (slot (new s)) q' × Agrees ((k, new s) ∷ slots) (n + 1) p' q'
  extend_slots Rat p' x =
      let q' : Point = record { den = q.den * x.factor; coords = all_times x.factor q.coords ++ (slot (new Rat), number x.value) ∷ [] } in
      let y : IsNumberExtension q (slot (new Rat)) q' = record { factor = x.factor; positive = x.positive; value = x.value; den = refl; coords = refl } in
      (q', y, number_step p' q' x y refl refl)
  extend_slots Text p' x =
      let q' : Point = record { den = q.den; coords = q.coords ++ (slot (new Text), text x.value) ∷ [] } in
      let y : IsTextExtension q (slot (new Text)) q' = record { value = x.value; bytes = x.bytes; den = refl; coords = refl } in
      (q', y, text_step p' q' x y refl)

  -- and the other way
  pub extend_names : (s : Sort) (q' : Point) → IsExtension s q (slot (new s)) q' → (p' : Point) × IsExtension s p k p' × Agrees ((k, new s) ∷ slots) (n + 1) p' q'
  extend_names Rat q' y =
      let p' : Point = record { den = p.den * y.factor; coords = all_times y.factor p.coords ++ (k, number y.value) ∷ [] } in
      let x : IsNumberExtension p k p' = record { factor = y.factor; positive = y.positive; value = y.value; den = refl; coords = refl } in
      (p', x, number_step p' q' x y refl refl)
  extend_names Text q' y =
      let p' : Point = record { den = p.den; coords = p.coords ++ (k, text y.value) ∷ [] } in
      let x : IsTextExtension p k p' = record { value = y.value; bytes = y.bytes; den = refl; coords = refl } in
      (p', x, text_step p' q' x y refl)
