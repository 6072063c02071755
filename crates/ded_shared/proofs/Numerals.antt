-- The value of digits as a loop finds it, up to a cap.
use Rattle.std.proofs.Common.{◌≡◌, ℕ, ◌+◌, ◌-◌, ◌*◌, ◌<◌, List, [], ◌∷◌, length, drop, get_or, sym, ap, ◌∙◌, arith, add-one, drop-cons}
use Rattle.std.specs.Prelude.{min}
use Rattle.ded_terminals.specs.Symbols.{number_from}

-- a value at the cap or above stays there
capped_same : (n m : ℕ) (ds : List ℕ) → min n 65 ≡ min m 65 → min (number_from n ds) 65 ≡ min (number_from m ds) 65
capped_same n m [] e = e
capped_same n m (d ∷ ds) e = capped_same (n * 10 + (d - 48)) (m * 10 + (d - 48)) ds (omega arith)

-- one digit more
pub value_step : (v w : ℕ) (ds : List ℕ) (i : ℕ) → i < length ds → w ≡ min (v * 10 + (get_or ds i 0 - 48)) 65 → min (number_from w (drop (i + 1) ds)) 65 ≡ min (number_from v (drop i ds)) 65
value_step v w ds i lt e =
    let first : drop i ds ≡ get_or ds i 0 ∷ drop (i + 1) ds = rw add-one (drop-cons ds i 0 lt) in
    capped_same w (v * 10 + (get_or ds i 0 - 48)) (drop (i + 1) ds) (omega arith)
    ∙ sym (ap (λ (l : List ℕ). min (number_from v l) 65) first)
