-- What is answered of two tuples: a common point, or a certificate that they have none.
use Rattle.std.specs.Prelude.{ℕ, ◌+◌, ◌*◌, ◌^◌, ◌<◌, max, ℤ, unsigned_abs, List, [], ◌∷◌, ◌++◌, length}
use Rattle.ded_model.specs.declared.certificate.Proof.{Proof}
use Rattle.ded_model.specs.declared.certificate.Proof.TheVariants.{Text, Multipliers}
use Rattle.ded_model.specs.Cell.{HoldsSomewhere}
use Rattle.ded_model.specs.Row.{Atom, tuple_holds}
use Rattle.ded_model.specs.Width.{tuple_length, rational_slots}
use Rattle.ded_cert.specs.declared.certifying.Outcome.{Outcome}
use Rattle.ded_cert.specs.declared.certifying.Outcome.TheVariants.{Common, Apart}
use Rattle.ded_cert.specs.Checks.{Checks}

-- the sum of the magnitudes
abbrev pub magnitudes : List ℤ → ℕ
magnitudes [] = 0
magnitudes (m ∷ ms) = unsigned_abs m + magnitudes ms

-- that of the numbers of a certificate is at most 2^63 - 1
abbrev pub HasSmallSum : Proof → Type 0
HasSmallSum Text = Unit {0}
HasSmallSum (Multipliers ms) = magnitudes ms < 2 ^ 63

-- the tuples have a common point, or a certificate with a small sum shows that they have none
abbrev pub IsCertified : List Atom → List Atom → Outcome → Type 0
IsCertified t u Common = HoldsSomewhere (tuple_holds (t ++ u))
IsCertified t u (Apart proof) = Checks t u proof × HasSmallSum proof

-- eliminating the rational slots of both, and one more, begun with the greatest length of their numbers and at least 1, may leave
-- more than 127 digits
abbrev pub IsWidePair : List Atom → List Atom → Type 0
IsWidePair t u = 128 < (max 1 (tuple_length (t ++ u)) + 1) * 2 ^ (length (rational_slots (t ++ u)) + 1)
