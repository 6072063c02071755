-- Tests of two parts.
use Rattle.std.proofs.Common.{◌≡◌, Bool, true, false, ◌&&◌, ◌||◌, refl, ap, true≢false}

-- the second may be another one
pub or_more : (a b d : Bool) → (b ≡ true → d ≡ true) → (a || b) ≡ true → (a || d) ≡ true
or_more true b d f h = refl
or_more false b d f h = f h

-- two that don't hold together, and two others that hold only where those do
pub apart_still : (a b c d : Bool) → (a ≡ false → c ≡ false) → (b ≡ false → d ≡ false) → (a && b) ≡ false → (c && d) ≡ false
apart_still true true c d f g h = absurd (true≢false h)
apart_still true false true d f g h = g refl
apart_still true false false d f g h = refl
apart_still false b c d f g h = ap (λ x. x && d) (f refl)
