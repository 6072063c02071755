-- Vertices of which two change places are all of them still.
use Rattle.std.proofs.Common.{◌≡◌, ℕ, ◌<◌, ◌≤◌, List, ◌⊎◌, inl, inr, refl, ap, ◌∙◌, sym, subst, arith}
use Rattle.std.proofs.lemmas.List.Edits.{Swapped}
use Rattle.ded_polygon.specs.Plane.{HalfPlane, Spot, IsSameSpot}
use Rattle.ded_polygon.specs.Vertices.{IsVertex, IsEdge}
use Rattle.ded_polygon.proofs.Sameness.{same_sym}
use Rattle.ded_polygon.proofs.Arranged.{AreAll}

-- where a place comes from
data Comes (a b k j : ℕ) : Type 0 where
  first : k ≡ a → j ≡ b → Comes a b k j
  second : k ≡ b → j ≡ a → Comes a b k j
  neither : (k ≡ a → ⊥) → (k ≡ b → ⊥) → j ≡ k → Comes a b k j

record From (f g : ℕ → Spot) (n a b k : ℕ) : Type 0 where
  place : ℕ
  small : place < n
  is : g k ≡ f place
  back : g place ≡ f k
  comes : Comes a b k place

-- two places that come from one are one
one_place : (a b k j k' j' : ℕ) → Comes a b k j → Comes a b k' j' → j ≡ j' → k ≡ k'
one_place a b k j k' j' (first p q) (first p' q') e = omega (arith, p, p')
one_place a b k j k' j' (first p q) (second p' q') e = omega (arith, p, q, p', q', e)
one_place a b k j k' j' (first p q) (neither p' q' r') e = absurd (q' (omega (arith, p, q, r', e)))
one_place a b k j k' j' (second p q) (first p' q') e = omega (arith, p, q, p', q', e)
one_place a b k j k' j' (second p q) (second p' q') e = omega (arith, p, p')
one_place a b k j k' j' (second p q) (neither p' q' r') e = absurd (p' (omega (arith, p, q, r', e)))
one_place a b k j k' j' (neither p q r) (first p' q') e = absurd (q (omega (arith, r, q', e)))
one_place a b k j k' j' (neither p q r) (second p' q') e = absurd (p (omega (arith, r, q', e)))
one_place a b k j k' j' (neither p q r) (neither p' q' r') e = omega (arith, r, r', e)

-- equal, or not
pub equal_or : (j k : ℕ) → (j ≡ k) ⊎ (j ≡ k → ⊥)
equal_or j k = grind arith

-- one of two orders, where they differ
apart : (j k : ℕ) → (j ≡ k → ⊥) → (j < k) ⊎ (k < j)
apart j k h = grind (arith, h)

module _ (ss : List HalfPlane) (f g : ℕ → Spot) (n a b : ℕ) (small_a : a < n) (small_b : b < n) (swapped : Swapped f g a b) where
  from : (k : ℕ) → k < n → From f g n a b k
  from k h = elim (equal_or k a) [
    | inl e ↦ record { place = b; small = small_b; is = ap g e ∙ swapped.0; back = swapped.1 ∙ ap f (sym e); comes = first e refl }
    | inr ne ↦ elim (equal_or k b) [
      | inl e ↦ record { place = a; small = small_a; is = ap g e ∙ swapped.1; back = swapped.0 ∙ ap f (sym e); comes = second e refl }
      | inr nf ↦ record { place = k; small = h; is = swapped.2 k ne nf; back = swapped.2 k ne nf; comes = neither ne nf refl }
    ]
  ]

  pub all_swapped : AreAll ss f n → AreAll ss g n
  all_swapped are = record {
    vertex = λ k h. let w = from k h in subst (IsVertex ss) (sym w.is) (are.vertex w.place w.small);
    differ = λ j k l h s. differs j k l h s;
    all = λ p v. let w = are.all p v in let u = from w.0 w.1 in (u.place, u.small, subst (λ q. IsSameSpot p q) (sym u.back) w.2);
  }
    where
      differs : (j k : ℕ) → j < k → k < n → IsSameSpot (g j) (g k) → ⊥
      differs j k l h s =
          let u = from j (omega arith) in
          let w = from k h in
          let same : IsSameSpot (f u.place) (f w.place) = subst (λ q. IsSameSpot q (f w.place)) u.is (subst (λ q. IsSameSpot (g j) q) w.is s) in
          elim (apart u.place w.place (λ e. let z = one_place a b j u.place k w.place u.comes w.comes e in absurd (omega (arith, z, l)))) [
            | inl lt ↦ are.differ u.place w.place lt w.small same
            | inr gt ↦ are.differ w.place u.place gt u.small (same_sym _ _ same)
          ]

  -- an edge between places before those that change stays
  pub edge_stays : (j k : ℕ) → j < a → k < a → a ≤ b → IsEdge ss (f j) (f k) → IsEdge ss (g j) (g k)
  edge_stays j k lj lk le e =
      subst (λ p. IsEdge ss p (g k)) (sym (swapped.2 j (λ z. absurd (omega (arith, z, lj))) (λ z. absurd (omega (arith, z, lj, le)))))
      (subst (λ p. IsEdge ss (f j) p) (sym (swapped.2 k (λ z. absurd (omega (arith, z, lk))) (λ z. absurd (omega (arith, z, lk, le))))) e)

  -- and one to the second is one to the first
  pub edge_comes : (j : ℕ) → j < a → a ≤ b → IsEdge ss (f j) (f b) → IsEdge ss (g j) (g a)
  edge_comes j lj le e =
      subst (λ p. IsEdge ss p (g a)) (sym (swapped.2 j (λ z. absurd (omega (arith, z, lj))) (λ z. absurd (omega (arith, z, lj, le)))))
      (subst (λ p. IsEdge ss (f j) p) (sym swapped.0) e)
