-- Points, the same point in other terms, and extensions.
use Rattle.std.specs.Prelude.{◌≡◌, ℕ, ◌*◌, ◌<◌, ◌==◌, ◌&&◌, ℤ, pos, ◌*ℤ◌, Bool, true, false, List, [], ◌∷◌, ◌++◌, if◌then◌else◌}
use Rattle.std.specs.Str.{bytes_eq}
use Rattle.std.specs.List.{list_any}
use Rattle.ded_model.specs.declared.slot.Sort.{Sort}
use Rattle.ded_model.specs.declared.slot.Sort.TheVariants.{Rat, Text}
use Rattle.ded_model.specs.declared.slot.Slot.{Slot}

-- a coordinate's key: a slot in rows, tuples and plans, a name in formulas
pub data Key : Type 0 where
  slot : Slot → Key
  name : List ℕ → Key

-- what a coordinate holds: the numerator of a rational, or the bytes of a text
pub data Value : Type 0 where
  number : ℤ → Value
  text : List ℕ → Value

-- each of the numbers is a byte, below 256
abbrev pub AllBytes : List ℕ → Type 0
AllBytes [] = Unit {0}
AllBytes (b ∷ bs) = (b < 256) × AllBytes bs

-- a number, or a text of bytes
abbrev pub IsValue : Value → Type 0
IsValue (number n) = Unit {0}
IsValue (text t) = AllBytes t

-- each coordinate holds a number or a text of bytes
abbrev pub AreValues : List (Key × Value) → Type 0
AreValues [] = Unit {0}
AreValues (c ∷ cs) = IsValue c.1 × AreValues cs

-- a common denominator of all rational coordinates, and the coordinates
pub record Point : Type 0 where
  pub den : ℕ
  pub coords : List (Key × Value)

-- the denominator is above 0, and the texts are byte strings
pub record IsPoint (p : Point) : Type 0 where
  pub positive : 0 < p.den
  pub bytes : AreValues p.coords

-- whether the two sorts are the same
abbrev pub same_sort : Sort → Sort → Bool
same_sort Rat Rat = true
same_sort Rat Text = false
same_sort Text Rat = false
same_sort Text Text = true

-- whether the two keys are the same: slots of one number and one sort, or one name
abbrev pub same_key : Key → Key → Bool
same_key (slot s) (slot t) = s.number == t.number && same_sort s.sort t.sort
same_key (slot s) (name y) = false
same_key (name x) (slot t) = false
same_key (name x) (name y) = bytes_eq x y

-- the key is a slot of the sort
abbrev pub IsSlotOf : Sort → Key → Type 0
IsSlotOf s (slot u) = u.sort ≡ s
IsSlotOf s (name x) = ⊥

-- an absent coordinate is the rational 0 and the empty text
abbrev pub absent : Value
absent = number (pos 0)

-- the last coordinate of the key, or else v
abbrev pub last_from : Value → List (Key × Value) → Key → Value
last_from v [] k = v
last_from v (c ∷ cs) k = last_from (if same_key k c.0 then c.1 else v) cs k

-- the number of a value; 0 for a text
abbrev pub as_number : Value → ℤ
as_number (number n) = n
as_number (text t) = pos 0

-- the text of a value; the empty text for a number
abbrev pub as_text : Value → List ℕ
as_text (number n) = []
as_text (text t) = t

-- the numerator at a key, over the point's denominator
unfoldable pub number_at : Point → Key → ℤ
number_at p k = as_number (last_from absent p.coords k)

-- the text at a key; the empty text where it has none
unfoldable pub text_at : Point → Key → List ℕ
text_at p k = as_text (last_from absent p.coords k)

-- the two points have the same value at the key
pub record IsSameAt (p q : Point) (k : Key) : Type 0 where
  pub number : number_at p k *ℤ pos q.den ≡ number_at q k *ℤ pos p.den
  pub text : text_at p k ≡ text_at q k

-- the two points have the same value at each key
abbrev pub IsSamePoint : Point → Point → Type 0
IsSamePoint p q = (k : Key) → IsSameAt p q k

-- a number multiplied by e; a text as it is
abbrev pub times : ℕ → Value → Value
times e (number n) = number (n *ℤ pos e)
times e (text t) = text t

-- the coordinates with each number multiplied by e
abbrev pub all_times : ℕ → List (Key × Value) → List (Key × Value)
all_times e [] = []
all_times e (c ∷ cs) = (c.0, times e c.1) ∷ all_times e cs

-- q is p over a multiple of its denominator, with a number as a last coordinate of the key
pub record IsNumberExtension (p : Point) (k : Key) (q : Point) : Type 0 where
  pub factor : ℕ
  pub positive : 0 < factor
  pub value : ℤ
  pub den : q.den ≡ p.den * factor
  pub coords : q.coords ≡ all_times factor p.coords ++ (k, number value) ∷ []

-- q is p with a text as a last coordinate of the key
pub record IsTextExtension (p : Point) (k : Key) (q : Point) : Type 0 where
  pub value : List ℕ
  pub bytes : AllBytes value
  pub den : q.den ≡ p.den
  pub coords : q.coords ≡ p.coords ++ (k, text value) ∷ []

-- q is p with a last coordinate of the key, a number or a text as the sort says
abbrev pub IsExtension : Sort → Point → Key → Point → Type 0
IsExtension Rat p k q = IsNumberExtension p k q
IsExtension Text p k q = IsTextExtension p k q

-- ---- slots

-- whether the two slots have the same number and the same sort
abbrev pub same_slot : Slot → Slot → Bool
same_slot s t = same_key (slot s) (slot t)

-- whether the slot is one of the list
abbrev pub stands_in : List Slot → Slot → Bool
stands_in ss s = list_any (λ t. same_slot t s) ss

-- no two of the slots are the same
abbrev pub AreDistinctSlots : List Slot → Type 0
AreDistinctSlots [] = Unit {0}
AreDistinctSlots (s ∷ ss) = (stands_in ss s ≡ false) × AreDistinctSlots ss
