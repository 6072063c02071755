-- What stands behind a prefix.
use Rattle.std.proofs.Common.{◌≡◌, ℕ, Bool, true, false, List, [], ◌∷◌, length, take, drop, refl}
use Rattle.std.specs.Prelude.{Option, Some, None, if◌then◌else◌, ◌==◌, ◌&&◌}
use Rattle.std.specs.Str.{bytes_eq}
use Rattle.ded_readback.specs.Reading.{behind}

there : (t u : Bool) (o : Option (List ℕ)) (rest : List ℕ) → (t && u) ≡ true → (u ≡ true → o ≡ Some rest) → (if t then o else None) ≡ Some rest
there true u o rest h f = f h
there false u o rest h f = absurd cc

absent : (t u : Bool) (o : Option (List ℕ)) → (t && u) ≡ false → (u ≡ false → o ≡ None) → (if t then o else None) ≡ None
absent true u o h f = f h
absent false u o h f = refl

-- the prefix stands there exactly where as many bytes are the same
pub behind_there : (p bs : List ℕ) → bytes_eq (take (length p) bs) p ≡ true → behind p bs ≡ Some (drop (length p) bs)
behind_there [] bs h = refl
behind_there (x ∷ p) [] h = absurd cc
behind_there (x ∷ p) (b ∷ bs) h = there (b == x) (bytes_eq (take (length p) bs) p) (behind p bs) _ h (behind_there p bs)

pub behind_absent : (p bs : List ℕ) → bytes_eq (take (length p) bs) p ≡ false → behind p bs ≡ None
behind_absent [] bs h = absurd cc
behind_absent (x ∷ p) [] h = refl
behind_absent (x ∷ p) (b ∷ bs) h = absent (b == x) (bytes_eq (take (length p) bs) p) (behind p bs) h (behind_absent p bs)
