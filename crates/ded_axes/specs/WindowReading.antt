-- Windows that are written as four decimals: the left and the lower end, then the right and the upper one.
use Rattle.std.specs.Prelude.{ℕ, ◌+◌, ◌-◌, ◌*◌, ◌^◌, ◌==◌, nat_le, nat_lt, max, ℤ, pos, ◌*ℤ◌, neg_ℤ, Bool, ◌&&◌, List, [], ◌∷◌, if◌then◌else◌}
use Rattle.std.specs.Prelude.{Option, Some, None}
use Rattle.ded_polygon.specs.Windows.{Frame}

-- one after another, as far as there is something
abbrev pub bind : {A B : Type 0} → Option A → (A → Option B) → Option B
bind (Some x) f = f x
bind None f = None

-- whether the byte is a decimal digit
abbrev pub is_digit : ℕ → Bool
is_digit b = nat_le 48 b && nat_le b 57

-- the digits that a text begins with, at most so many, read behind `count` others that read as n: what they read as all together, how
-- many they are, and the text behind them
abbrev pub digits_at : ℕ → ℕ → ℕ → List ℕ → ℕ × ℕ × List ℕ
digits_at most n count [] = (n, count, [])
digits_at most n count (b ∷ bs) = if is_digit b && nat_lt count most then digits_at most (10 * n + (b - 48)) (count + 1) bs else (n, count, b ∷ bs)

-- the same where there is a digit
abbrev pub some_digits : ℕ × ℕ × List ℕ → Option (ℕ × ℕ × List ℕ)
some_digits x = if x.1 == 0 then None else Some x

-- the text behind a byte, where the text begins with it
abbrev pub behind : ℕ → List ℕ → Option (List ℕ)
behind byte [] = None
behind byte (b ∷ bs) = if b == byte then Some bs else None

-- what stands behind digits that read as n, given what stands behind the point, where one follows: maybe a point, and 1
-- to 9 digits behind it
abbrev pub places_behind : ℕ → List ℕ → Option (List ℕ) → Option (ℕ × ℕ × List ℕ)
places_behind n bytes None = Some (n, 0, bytes)
places_behind n bytes (Some rest) = some_digits (digits_at 9 n 0 rest)

-- the same, given the text behind those digits; none where no digit stands behind the point
abbrev pub places_at : ℕ → List ℕ → Option (ℕ × ℕ × List ℕ)
places_at n bytes = places_behind n bytes (behind 46 bytes)

-- a decimal without a sign: 1 to 18 digits, and maybe a point and 1 to 9 more; what they read as all together, how many stand behind
-- the point, and the text behind them
abbrev pub magnitude_at : List ℕ → Option (ℕ × ℕ × List ℕ)
magnitude_at bytes = bind (some_digits (digits_at 18 0 0 bytes)) (λ x. places_at x.0 x.2)

-- what was read as a magnitude, negated
abbrev pub negative : ℕ × ℕ × List ℕ → ℤ × ℕ × List ℕ
negative x = (neg_ℤ (pos x.0), x.1, x.2)

-- what was read as a magnitude, as it is
abbrev pub positive : ℕ × ℕ × List ℕ → ℤ × ℕ × List ℕ
positive x = (pos x.0, x.1, x.2)

-- a decimal, given the text behind its `-` where it begins with one
abbrev pub signed_at : List ℕ → Option (List ℕ) → Option (ℤ × ℕ × List ℕ)
signed_at bytes None = bind (magnitude_at bytes) (λ x. Some (positive x))
signed_at bytes (Some rest) = bind (magnitude_at rest) (λ x. Some (negative x))

-- a decimal: maybe `-`, and a magnitude; what it reads as without its point, how many digits stand behind the point,
-- and the text behind it
abbrev pub decimal_at : List ℕ → Option (ℤ × ℕ × List ℕ)
decimal_at bytes = signed_at bytes (behind 45 bytes)

-- a decimal and a comma, and the text behind them
abbrev pub item_at : List ℕ → Option (ℤ × ℕ × List ℕ)
item_at bytes = bind (decimal_at bytes) (λ x. bind (behind 44 x.2) (λ rest. Some (x.0, x.1, rest)))

-- a decimal that is the whole text
abbrev pub whole_decimal : List ℕ → Option (ℤ × ℕ)
whole_decimal bytes = bind (decimal_at bytes) (λ x. if_nothing x.2 (x.0, x.1))
  where
    if_nothing : List ℕ → ℤ × ℕ → Option (ℤ × ℕ)
    if_nothing [] d = Some d
    if_nothing (b ∷ bs) d = None

-- so many 10 ^ -places in units of 10 ^ -most
abbrev pub in_units : ℕ → ℤ × ℕ → ℤ
in_units most d = d.0 *ℤ pos (10 ^ (most - d.1))

-- the most digits behind a point
abbrev pub most_places : ℕ → ℕ → ℕ → ℕ → ℕ
most_places a b c d = max (max a b) (max c d)

-- the window of four decimals, over their common power of ten
abbrev pub frame_of : ℤ × ℕ → ℤ × ℕ → ℤ × ℕ → ℤ × ℕ → Frame
frame_of left bottom right top =
    let most = most_places left.1 bottom.1 right.1 top.1 in
    record { left = in_units most left; right = in_units most right; bottom = in_units most bottom; top = in_units most top; den = pos (10 ^ most) }

-- the window that a text spells
abbrev pub frame_spelled : List ℕ → Option Frame
frame_spelled bytes =
    bind (item_at bytes) (λ left. bind (item_at left.2) (λ bottom. bind (item_at bottom.2) (λ right. bind (whole_decimal right.2) (λ top.
    Some (frame_of (left.0, left.1) (bottom.0, bottom.1) (right.0, right.1) top)))))
