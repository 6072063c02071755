-- Lists of coefficients: what they keep, the coefficient of a slot, and sums of lists.
use Rattle.std.specs.Prelude.{◌≡◌, ◌≢◌, ℕ, ◌+◌, ◌<◌, nat_lt, ℤ, pos, ◌+ℤ◌, ◌*ℤ◌, Bool, false, List, [], ◌∷◌, if◌then◌else◌}
use Rattle.std.specs.Ordering.{int_eq}
use Rattle.ded_num.specs.Length.{IsShort}
use Rattle.ded_model.specs.declared.slot.Slot.{Slot}
use Rattle.ded_model.specs.declared.slot.Sort.TheVariants.{Rat}
use Rattle.ded_model.specs.Point.{same_slot}

-- the numbers of all the slots are above n
abbrev pub AllAbove : ℕ → List (Slot × ℤ) → Type 0
AllAbove n [] = Unit {0}
AllAbove n (c ∷ cs) = (n < c.0.number) × AllAbove n cs

-- the numbers of all the slots are below n
abbrev pub AllBelow : ℕ → List (Slot × ℤ) → Type 0
AllBelow n [] = Unit {0}
AllBelow n (c ∷ cs) = (c.0.number < n) × AllBelow n cs

-- rational slots with ascending numbers, and coefficients of at most 127 digits that are not 0
abbrev pub AreCoefs : List (Slot × ℤ) → Type 0
AreCoefs [] = Unit {0}
AreCoefs (c ∷ cs) = (c.0.sort ≡ Rat) × IsShort c.1 × (c.1 ≢ pos 0) × AllAbove c.0.number cs × AreCoefs cs

-- the coefficient of a slot, summed up; 0 where the slot has none
abbrev pub coef_at : List (Slot × ℤ) → Slot → ℤ
coef_at [] s = pos 0
coef_at (c ∷ cs) s = (if same_slot c.0 s then c.1 else pos 0) +ℤ coef_at cs s

-- ---- sums of lists

-- the list with z more at the slot, in ascending order
abbrev pub put : Slot → ℤ → List (Slot × ℤ) → List (Slot × ℤ)
put s z [] = (s, z) ∷ []
put s z (c ∷ cs) = if same_slot c.0 s then (c.0, z +ℤ c.1) ∷ cs else (if nat_lt s.number c.0.number then (s, z) ∷ c ∷ cs else c ∷ put s z cs)

-- the second list with k times the coefficients of the first one added to it
abbrev pub put_all : ℤ → List (Slot × ℤ) → List (Slot × ℤ) → List (Slot × ℤ)
put_all k [] ys = ys
put_all k (c ∷ cs) ys = put c.0 (k *ℤ c.1) (put_all k cs ys)

-- the sum of k times the one list and m times the other; coefficients of it may be 0
abbrev pub mixed : ℤ → List (Slot × ℤ) → ℤ → List (Slot × ℤ) → List (Slot × ℤ)
mixed k xs m ys = put_all k xs (put_all m ys [])

-- the list without coefficients that are 0
abbrev pub nonzero : List (Slot × ℤ) → List (Slot × ℤ)
nonzero [] = []
nonzero (c ∷ cs) = if int_eq c.1 (pos 0) then nonzero cs else c ∷ nonzero cs

-- the list without the slot
abbrev pub cut : Slot → List (Slot × ℤ) → List (Slot × ℤ)
cut s [] = []
cut s (c ∷ cs) = if same_slot c.0 s then cut s cs else c ∷ cut s cs

-- the list with the coefficient a at the slot, in ascending order, and none there where a is 0
abbrev pub with_coef : Slot → ℤ → List (Slot × ℤ) → List (Slot × ℤ)
with_coef s a cs = nonzero (put s a (cut s cs))

-- how many slots at the front of the list have a lesser number than the slot
abbrev pub place_of : Slot → List (Slot × ℤ) → ℕ
place_of s [] = 0
place_of s (c ∷ cs) = if nat_lt c.0.number s.number then place_of s cs + 1 else 0

-- whether the slot stands in the list, right behind the slots at the front that have a lesser number
abbrev pub is_taken : Slot → List (Slot × ℤ) → Bool
is_taken s [] = false
is_taken s (c ∷ cs) = if nat_lt c.0.number s.number then is_taken s cs else same_slot c.0 s
