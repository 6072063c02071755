-- Slots replaced by others, as a list of pairs says.
use Rattle.std.specs.Prelude.{◌≡◌, ℤ, true, Bool, List, [], ◌∷◌, ◌++◌, if◌then◌else◌}
use Rattle.ded_model.specs.declared.slot.Slot.{Slot}
use Rattle.ded_model.specs.declared.slot.Sort.{Sort}
use Rattle.ded_model.specs.declared.slot.Sort.TheVariants.{Rat, Text}
use Rattle.ded_model.specs.Point.{Key, slot, Point, same_slot, number_at, text_at}
use Rattle.ded_model.specs.Coefs.{with_coef}
use Rattle.ded_model.specs.Lines.{Line, line_with}

-- the slot that the pairs give it; a slot that they don't name stays
abbrev pub renamed : List (Slot × Slot) → Slot → Slot
renamed [] s = s
renamed (m ∷ map) s = if same_slot m.0 s then m.1 else renamed map s

-- two slots that pass the test get two slots
pub record IsOneToOne (map : List (Slot × Slot)) (test : Slot → Bool) : Type 0 where
  pub apart : (s t : Slot) → test s ≡ true → test t ≡ true → renamed map s ≡ renamed map t → s ≡ t

-- slots that pass the test keep their sorts
pub record KeepsSorts (map : List (Slot × Slot)) (test : Slot → Bool) : Type 0 where
  pub sort : (s : Slot) → test s ≡ true → (renamed map s).sort ≡ s.sort

-- p at the one key and q at the other have the same numerator, or the same text, as the sort says
abbrev pub HaveOneValue : Sort → Point → Key → Point → Key → Type 0
HaveOneValue Rat p k q j = number_at q j ≡ number_at p k
HaveOneValue Text p k q j = text_at q j ≡ text_at p k

-- q has the values of p's slots that pass the test at their new slots, over the same denominator
pub record IsRenamedPoint (map : List (Slot × Slot)) (test : Slot → Bool) (p q : Point) : Type 0 where
  pub den : q.den ≡ p.den
  pub value : (s : Slot) → test s ≡ true → HaveOneValue s.sort p (slot s) q (slot (renamed map s))

-- the coefficients set at their new slots, onto others
abbrev pub renamed_onto : List (Slot × Slot) → List (Slot × ℤ) → List (Slot × ℤ) → List (Slot × ℤ)
renamed_onto map out [] = out
renamed_onto map out (c ∷ cs) = renamed_onto map (with_coef (renamed map c.0) c.1 out) cs

-- the lines over their new slots
abbrev pub mapped_lines : List (Slot × Slot) → List Line → List Line
mapped_lines map [] = []
mapped_lines map (l ∷ ls) = line_with (renamed_onto map [] l.coefs) l.constant ++ mapped_lines map ls
