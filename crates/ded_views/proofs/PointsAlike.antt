-- Two readings of atoms that agree at all points of byte strings give formulas one meaning there.
--
-- By induction on the formula: an extension of such a point is one.
use Rattle.std.proofs.Common.{inl, inr}
use Rattle.std.specs.Prelude.{◌↔◌}
use Rattle.ded_model.specs.Point.{Point, IsPoint}
use Rattle.ded_model.specs.Logic.{Logic, atom, always, never, negation, every_of, some_of, implies, minus, exists, forall, Logics, none, also, Sat, SatEvery, SatSome, AllAtoms, AllAtomsOf}
use Rattle.ded_model.proofs.PointTexts.{extension-point}

-- an atom holds alike by two readings, at each point
abbrev pub IsAlikeAtPoints : {L : Type 0} → (L → Point → Type 0) → (L → Point → Type 0) → L → Type 0
IsAlikeAtPoints H H' a = (p : Point) → IsPoint p → H a p ↔ H' a p

module _ {L : Type 0} (H H' : L → Point → Type 0) where
  mutual
    -- the law, from atoms
    pub alike : (f : Logic L) → AllAtoms (IsAlikeAtPoints H H') f → (p : Point) → IsPoint p → Sat H f p ↔ Sat H' f p
    alike (atom a) h p i = h p i
    alike always h p i = (λ s. s, λ s. s)
    alike never h p i = (λ s. s, λ s. s)
    alike (negation f) h p i = let e = alike f h p i in (λ n s. n (e.1 s), λ n s. n (e.0 s))
    alike (every_of fs) h p i = every_alike fs h p i
    alike (some_of fs) h p i = some_alike fs h p i
    alike (implies f g) h p i = let e = alike f h.0 p i in let e' = alike g h.1 p i in (λ j s. e'.0 (j (e.1 s)), λ j s. e'.1 (j (e.0 s)))
    alike (minus f g) h p i = let e = alike f h.0 p i in let e' = alike g h.1 p i in (λ m. (e.0 m.0, λ s. m.1 (e'.1 s)), λ m. (e.1 m.0, λ s. m.1 (e'.0 s)))
    alike (exists s k f) h p i = (
      λ some. (some.0, some.1, (alike f h some.0 (extension-point s p some.0 k i some.1)).0 some.2),
      λ some. (some.0, some.1, (alike f h some.0 (extension-point s p some.0 k i some.1)).1 some.2),
    )
    alike (forall s k f) h p i =
        (λ every q x. (alike f h q (extension-point s p q k i x)).0 (every q x), λ every q x. (alike f h q (extension-point s p q k i x)).1 (every q x))

    -- all of a list
    every_alike : (fs : Logics L) → AllAtomsOf (IsAlikeAtPoints H H') fs → (p : Point) → IsPoint p → SatEvery H fs p ↔ SatEvery H' fs p
    every_alike none h p i = (λ s. s, λ s. s)
    every_alike (also f fs) h p i = let e = alike f h.0 p i in let e' = every_alike fs h.1 p i in (λ s. (e.0 s.0, e'.0 s.1), λ s. (e.1 s.0, e'.1 s.1))

    -- some of a list
    some_alike : (fs : Logics L) → AllAtomsOf (IsAlikeAtPoints H H') fs → (p : Point) → IsPoint p → SatSome H fs p ↔ SatSome H' fs p
    some_alike none h p i = (λ s. s, λ s. s)
    some_alike (also f fs) h p i =
        let e = alike f h.0 p i in let e' = some_alike fs h.1 p i in
        (λ s. elim s [ inl a ↦ inl (e.0 a) | inr b ↦ inr (e'.0 b) ], λ s. elim s [ inl a ↦ inl (e.1 a) | inr b ↦ inr (e'.1 b) ])
