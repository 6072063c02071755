-- A formula over any atoms holds alike at two points that have the same values at the keys that it mentions freely.
--
-- By induction on the formula, where each atom has this law (`RespectsValues`). At a quantifier the extension of the one
-- point has a twin of the other (`twins`), and the two are the same at the quantifier's key and wherever the points are, so
-- at each key that the part mentions freely (`under`).
use Rattle.std.proofs.Common.{◌≡◌, ◌<◌, ◌⊎◌, inl, inr, Bool, true, false, not, ◌&&◌, refl}
use Rattle.ded_model.specs.Point.{Key, Point, IsSameAt, same_key}
use Rattle.ded_model.specs.Logic.{Logic, atom, always, never, negation, every_of, some_of, implies, minus, exists, forall, Logics, none, also, Sat, SatEvery, SatSome, mentions, any_mentions}
use Rattle.ded_model.proofs.Points.{IsSameAt-sym, twins, positive-extension}
use Rattle.ded_model.proofs.Rows.{or_left, or_right}

-- an atom holds alike at two points that have the same values at the keys that it mentions
pub record RespectsValues {L : Type 0} (Holds : L → Point → Type 0) (in_atom : L → Key → Bool) : Type 0 where
  pub keeps : (a : L) (p q : Point) → 0 < p.den → 0 < q.den → ((k : Key) → in_atom a k ≡ true → IsSameAt p q k) → Holds a p → Holds a q

-- below a quantifier the key is its own one, or the points are the same at it
under : {L : Type 0} (in_atom : L → Key → Bool) (p q : Point) (k : Key) (f : Logic L) → ((j : Key) → (not (same_key j k) && mentions in_atom f j) ≡ true → IsSameAt p q j)
    → (j : Key) (b : Bool) → same_key j k ≡ b → mentions in_atom f j ≡ true → (same_key j k ≡ true) ⊎ IsSameAt p q j
under in_atom p q k f h j true e m = inl e
under in_atom p q k f h j false e m = inr (h j (rw (e, m)))

mutual
  -- the law
  pub Sat-same : {L : Type 0} (Holds : L → Point → Type 0) (in_atom : L → Key → Bool) → RespectsValues Holds in_atom → (f : Logic L) (p q : Point) → 0 < p.den → 0 < q.den
      → ((k : Key) → mentions in_atom f k ≡ true → IsSameAt p q k) → Sat Holds f p → Sat Holds f q
  Sat-same H m R (atom a) p q i j h s = R.keeps a p q i j h s
  Sat-same H m R always p q i j h s = tt
  Sat-same H m R never p q i j h s = s
  Sat-same H m R (negation f) p q i j h s = λ t. s (Sat-same H m R f q p j i (λ k e. IsSameAt-sym p q k (h k e)) t)
  Sat-same H m R (every_of fs) p q i j h s = SatEvery-same H m R fs p q i j h s
  Sat-same H m R (some_of fs) p q i j h s = SatSome-same H m R fs p q i j h s
  Sat-same H m R (implies f g) p q i j h s = λ t.
      Sat-same H m R g p q i j (λ k e. h k (or_right (mentions m f k) _ e)) (s (Sat-same H m R f q p j i (λ k e. IsSameAt-sym p q k (h k (or_left _ _ e))) t))
  Sat-same H m R (minus f g) p q i j h s =
      (Sat-same H m R f p q i j (λ k e. h k (or_left _ _ e)) s.0, λ t. s.1 (Sat-same H m R g q p j i (λ k e. IsSameAt-sym p q k (h k (or_right (mentions m f k) _ e))) t))
  Sat-same H m R (exists s k f) p q i j h some =
      let w = twins s p q k some.0 i some.1 in (
        w.0,
        w.1.extends,
        Sat-same H m R f some.0 w.0 (positive-extension s p k some.0 i some.1) (positive-extension s q k w.0 j w.1.extends) (λ l e. w.1.same l (under m p q k f h l (same_key l k) refl e)) some.2,
      )
  Sat-same H m R (forall s k f) p q i j h every = λ q' x.
      let h' = λ (l : Key) (e : mentions m (forall s k f) l ≡ true). IsSameAt-sym p q l (h l e) in
      let w = twins s q p k q' j x in
      Sat-same H m R f w.0 q' (positive-extension s p k w.0 i w.1.extends) (positive-extension s q k q' j x)
      (λ l e. IsSameAt-sym q' w.0 l (w.1.same l (under m q p k f h' l (same_key l k) refl e))) (every w.0 w.1.extends)

  -- all of a list
  SatEvery-same : {L : Type 0} (Holds : L → Point → Type 0) (in_atom : L → Key → Bool) → RespectsValues Holds in_atom → (fs : Logics L) (p q : Point) → 0 < p.den → 0 < q.den
      → ((k : Key) → any_mentions in_atom fs k ≡ true → IsSameAt p q k) → SatEvery Holds fs p → SatEvery Holds fs q
  SatEvery-same H m R none p q i j h s = tt
  SatEvery-same H m R (also f fs) p q i j h s =
      (Sat-same H m R f p q i j (λ k e. h k (or_left _ _ e)) s.0, SatEvery-same H m R fs p q i j (λ k e. h k (or_right (mentions m f k) _ e)) s.1)

  -- some of a list
  SatSome-same : {L : Type 0} (Holds : L → Point → Type 0) (in_atom : L → Key → Bool) → RespectsValues Holds in_atom → (fs : Logics L) (p q : Point) → 0 < p.den → 0 < q.den
      → ((k : Key) → any_mentions in_atom fs k ≡ true → IsSameAt p q k) → SatSome Holds fs p → SatSome Holds fs q
  SatSome-same H m R none p q i j h s = s
  SatSome-same H m R (also f fs) p q i j h (inl s) = inl (Sat-same H m R f p q i j (λ k e. h k (or_left _ _ e)) s)
  SatSome-same H m R (also f fs) p q i j h (inr s) = inr (SatSome-same H m R fs p q i j (λ k e. h k (or_right (mentions m f k) _ e)) s)
