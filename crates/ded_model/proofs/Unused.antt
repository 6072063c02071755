-- A key that isn't mentioned freely does not matter, and a quantifier over it changes nothing.
--
-- An extension is the same point at each other key, and by the law on the same values a formula holds alike where two
-- points are the same at each key that it mentions. Each point has some extension at each key.
use Rattle.std.proofs.Common.{◌≡◌, ◌*◌, ◌<◌, Bool, true, false, [], ◌∷◌, ◌++◌, arith, refl, sym, ap, ◌∙◌, true≢false}
use Rattle.std.specs.Prelude.{◌↔◌, pos, ◌*ℤ◌}
use Rattle.ded_model.specs.declared.slot.Sort.{Sort}
use Rattle.ded_model.specs.declared.slot.Sort.TheVariants.{Rat, Text}
use Rattle.ded_model.specs.Point.{Key, number, text, Point, IsSameAt, IsExtension, same_key, number_at, all_times}
use Rattle.ded_model.specs.Logic.{Logic, exists, forall, Sat, mentions}
use Rattle.ded_model.proofs.Points.{same_key_is, scaled_law, number_at-kept, text_at-number_kept, number_at-text_kept, text_at-kept, positive-extension, IsSameAt-sym}
use Rattle.ded_model.proofs.Logics.{RespectsValues, Sat-same}

-- an extension is the same point at each other key
pub extension_same : (s : Sort) (p q : Point) (k j : Key) → IsExtension s p k q → same_key j k ≡ false → IsSameAt p q j
extension_same Rat p q k j x e = record {
  number = ap (λ d. number_at p j *ℤ pos d) x.den ∙ scaled_law (number_at p j) p.den x.factor ∙ ap (λ n. n *ℤ pos p.den) (sym (number_at-kept p k q x j e));
  text = sym (text_at-number_kept p k q x j e);
}
extension_same Text p q k j x e = record {
  number = ap (λ d. number_at p j *ℤ pos d) x.den ∙ ap (λ n. n *ℤ pos p.den) (sym (number_at-text_kept p k q x j e));
  text = sym (text_at-kept p k q x j e);
}

-- some extension
extended : Sort → Point → Key → Point
extended Rat p k = record { den = p.den * 1; coords = all_times 1 p.coords ++ (k, number (pos 0)) ∷ [] }
extended Text p k = record { den = p.den; coords = p.coords ++ (k, text []) ∷ [] }

-- it is one
extended_is : (s : Sort) (p : Point) (k : Key) → IsExtension s p k (extended s p k)
unfolding extended
extended_is Rat p k = record { factor = 1; positive = omega arith; value = pos 0; den = refl; coords = refl }
extended_is Text p k = record { value = []; bytes = tt; den = refl; coords = refl }

-- a key that is mentioned is another one
other_key : {L : Type 0} (in_atom : L → Key → Bool) (f : Logic L) (k j : Key) (b : Bool) → same_key j k ≡ b → mentions in_atom f k ≡ false → mentions in_atom f j ≡ true → same_key j k ≡ false
other_key in_atom f k j true e n m = absurd (true≢false (sym m ∙ ap (mentions in_atom f) (same_key_is j k e) ∙ n))
other_key in_atom f k j false e n m = e

module _ {L : Type 0} (H : L → Point → Type 0) (in_atom : L → Key → Bool) (R : RespectsValues H in_atom) where
  -- an extension at such a key holds alike
  pub extension : (f : Logic L) (s : Sort) (k : Key) (p q : Point) → 0 < p.den → mentions in_atom f k ≡ false → IsExtension s p k q → Sat H f p ↔ Sat H f q
  extension f s k p q i n x =
      let j = positive-extension s p k q i x in
      let same = λ (l : Key) (m : mentions in_atom f l ≡ true). extension_same s p q k l x (other_key in_atom f k l (same_key l k) refl n m) in
      (Sat-same H in_atom R f p q i j same, Sat-same H in_atom R f q p j i (λ l m. IsSameAt-sym p q l (same l m)))

  -- so do the quantifiers
  pub unused : (f : Logic L) (s : Sort) (k : Key) (p : Point) → 0 < p.den → mentions in_atom f k ≡ false → Sat H (exists s k f) p ↔ Sat H f p
  unused f s k p i n = (
    λ some. (extension f s k p some.0 i n some.1).1 some.2,
    λ h. (extended s p k, extended_is s p k, (extension f s k p (extended s p k) i n (extended_is s p k)).0 h),
  )

  -- so does the other quantifier
  pub unused_forall : (f : Logic L) (s : Sort) (k : Key) (p : Point) → 0 < p.den → mentions in_atom f k ≡ false → Sat H (forall s k f) p ↔ Sat H f p
  unused_forall f s k p i n = (
    λ every. (extension f s k p (extended s p k) i n (extended_is s p k)).1 (every (extended s p k) (extended_is s p k)),
    λ h q x. (extension f s k p q i n x).0 h,
  )
