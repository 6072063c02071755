-- Decimals in common units, as they are read.
use Rattle.std.proofs.Common.{◌≡◌, ℕ, refl, ap, ap₂, ◌∙◌, subst, arith, SFits, to_z, of_z}
use Rattle.std.specs.Prelude.{ℤ, ◌+ℤ◌, ◌-ℤ◌, MatchOption, Option}
use Rattle.std.specs.Int.{w128}
use Rattle.std.proofs.lemmas.Int.{to_z-of_z}
use Rattle.ded_num.specs.Length.{IsWithin}
use Rattle.ded_num.proofs.Signs.{short_in_code}
use Rattle.ded_polygon.specs.Windows.{Frame, IsFrame}
use Rattle.ded_axes.specs.WindowReading.{in_units}

pub units_read : (r x : ℤ) (m k p : ℕ) → SFits w128 r → IsWithin 90 x → m ≡ k → r ≡ in_units m (to_z w128 (of_z w128 x), p) → to_z w128 (of_z w128 r) ≡ in_units k (x, p)
units_read r x m k p fits short same is =
    to_z-of_z w128 r fits ∙ is ∙ ap₂ (λ (j : ℕ) (z : ℤ). in_units j (z, p)) same (short_in_code x (omega (arith, short)))

abbrev pub frame : ℤ → ℤ → ℤ → ℤ → ℤ → Frame
frame l r b t d = record { left = l; right = r; bottom = b; top = t; den = d }

pub same_frame : (l r b t d l' r' b' t' d' : ℤ) → l ≡ l' → r ≡ r' → b ≡ b' → t ≡ t' → d ≡ d' → frame l r b t d ≡ frame l' r' b' t' d'
same_frame l r b t d l' r' b' t' d' e1 e2 e3 e4 e5 = rw (e1, e2, e3, e4, e5) refl

-- a window of these numbers is one of those that they are
pub frame_is : (result : Option Frame) (l r b t d l' r' b' t' d' : ℤ) → l ≡ l' → r ≡ r' → b ≡ b' → t ≡ t' → d ≡ d'
    → MatchOption result (IsFrame (record { left = l; right = r; bottom = b; top = t; den = d }) → ⊥) (λ w. w ≡ record { left = l; right = r; bottom = b; top = t; den = d })
    → MatchOption result (IsFrame (record { left = l'; right = r'; bottom = b'; top = t'; den = d' }) → ⊥) (λ w. w ≡ record { left = l'; right = r'; bottom = b'; top = t'; den = d' })
frame_is result l r b t d l' r' b' t' d' e1 e2 e3 e4 e5 h =
    subst (λ (f : Frame). MatchOption result (IsFrame f → ⊥) (λ w. w ≡ f)) (same_frame l r b t d l' r' b' t' d' e1 e2 e3 e4 e5) h

-- ends with a margin
pub low_read : (a m l : ℤ) → IsWithin 60 m → IsWithin 62 l → l ≡ a -ℤ to_z w128 (of_z w128 m) → to_z w128 (of_z w128 l) ≡ a -ℤ m
low_read a m l short h is = short_in_code l (omega (arith, h)) ∙ is ∙ ap (λ (z : ℤ). a -ℤ z) (short_in_code m (omega (arith, short)))

pub high_read : (a m l : ℤ) → IsWithin 60 m → IsWithin 62 l → l ≡ a +ℤ to_z w128 (of_z w128 m) → to_z w128 (of_z w128 l) ≡ a +ℤ m
high_read a m l short h is = short_in_code l (omega (arith, h)) ∙ is ∙ ap (λ (z : ℤ). a +ℤ z) (short_in_code m (omega (arith, short)))

pub den_read : (d : ℤ) → IsWithin 31 d → to_z w128 (of_z w128 d) ≡ d
den_read d h = short_in_code d (omega (arith, h))
