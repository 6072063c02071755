-- The value of digits as a loop finds it.
use Rattle.std.proofs.Common.{◌≡◌, ℕ, ◌+◌, ◌-◌, ◌*◌, ◌<◌, List, [], ◌∷◌, length, drop, get_or, sym, ap, ◌∙◌, arith, add-one, drop-cons}
use Rattle.ded_terminals.specs.Symbols.{number_from}
use Rattle.ded_terminals.specs.Literals.{capped}

-- a value at the cap or above stays there
pub capped_same : (n m : ℕ) (ds : List ℕ) → capped n ≡ capped m → capped (number_from n ds) ≡ capped (number_from m ds)
capped_same n m [] e = e
capped_same n m (d ∷ ds) e = capped_same (n * 10 + (d - 48)) (m * 10 + (d - 48)) ds (omega arith)

-- one digit more
pub value_step : (v w : ℕ) (ds : List ℕ) (i : ℕ) → i < length ds → w ≡ capped (v * 10 + (get_or ds i 0 - 48)) → capped (number_from w (drop (i + 1) ds)) ≡ capped (number_from v (drop i ds))
value_step v w ds i lt e =
    let first : drop i ds ≡ get_or ds i 0 ∷ drop (i + 1) ds = rw add-one (drop-cons ds i 0 lt) in
    capped_same w (v * 10 + (get_or ds i 0 - 48)) (drop (i + 1) ds) (omega arith)
    ∙ sym (ap (λ (l : List ℕ). capped (number_from v l)) first)
