-- Signs that are printed and read back.
use Rattle.std.proofs.Common.{◌≡◌, Bool, true, false, not, refl, ap, ◌∙◌}
use Rattle.std.specs.Prelude.{ℤ, pos, negsuc, int_lt, unsigned_abs}
use lib.IntN.{neg_ℤ}
use Rattle.std.proofs.Math.IntN.{neg_ℤ-neg_ℤ}
use Rattle.ded_num.proofs.Signs.{unsigned_abs-neg}
use Rattle.ded_print.specs.Tuples.{signed}
use Rattle.ded_print.proofs.Signs.{plus, turned_abs}
use Rattle.ded_readback.specs.Reading.{number_of}

turned_twice : (t : Bool) (z : ℤ) → signed t (signed t z) ≡ z
turned_twice true z = neg_ℤ-neg_ℤ z
turned_twice false z = refl

-- a number by its sign and its magnitude
sign_back : (z : ℤ) → signed (int_lt z (pos 0)) (pos (unsigned_abs z)) ≡ z
sign_back (pos n) = ap (λ (b : Bool). signed b (pos n)) (plus n)
sign_back (negsuc n) = refl

pub number_back : (t : Bool) (z : ℤ) → number_of t (int_lt (signed t z) (pos 0)) (unsigned_abs (signed t z)) ≡ z
number_back t z = ap (signed t) (sign_back (signed t z)) ∙ turned_twice t z

back_over : (t : Bool) (z : ℤ) → signed (not t) (neg_ℤ (signed t z)) ≡ z
back_over true z = neg_ℤ-neg_ℤ z
back_over false z = neg_ℤ-neg_ℤ z

pub constant_back : (t : Bool) (z : ℤ) → number_of (not t) (int_lt (neg_ℤ (signed t z)) (pos 0)) (unsigned_abs (neg_ℤ (signed t z))) ≡ z
constant_back t z = ap (signed (not t)) (sign_back (neg_ℤ (signed t z))) ∙ back_over t z

pub constant_abs : (t : Bool) (z : ℤ) → unsigned_abs (neg_ℤ (signed t z)) ≡ unsigned_abs z
constant_abs t z = unsigned_abs-neg (signed t z) ∙ turned_abs t z
