-- Of the half planes on whose borders a spot lies, the one whose border, gone along with the half plane to the left, leads
-- out of none of the others, if another spot lies in all of them. Seen from the spot, it is the rightmost border of what all of them have.
use Rattle.std.proofs.Common.{◌≡◌, List, [], ◌∷◌, inl, inr, refl, ap, subst, ◌∙◌, sym, arith}
use Rattle.std.specs.Prelude.{ℤ, pos, ◌+ℤ◌, ◌*ℤ◌, ◌<ℤ◌, ◌≤ℤ◌}
use Rattle.std.proofs.lemmas.Int.{ints, by_lt_z}
use Rattle.ded_num.proofs.Signs.{times_swap, zero_times}
use Rattle.ded_model.proofs.Core.{zero_scale}
use Rattle.ded_polygon.specs.Plane.{HalfPlane, Spot, In, IsSameSpot, level, bend, crossing}
use Rattle.ded_polygon.specs.Vertices.{LiesIn, IsVertex}
use Rattle.ded_polygon.proofs.Signs.{least_most, above_most, unscale_zero, unscale_under}
use Rattle.ded_polygon.proofs.Identities.{cramer, bend_swap, bend_self}
use Rattle.ded_polygon.proofs.Sameness.{same_by}

-- a half plane that bends has a border
pub proper_first : (s t : HalfPlane) → pos 0 <ℤ bend s t → s.a ≡ pos 0 → s.b ≡ pos 0 → ⊥
unfolding bend
proper_first s t h ea eb = let e = zero_times s.a t.b ea in let f = zero_times s.b t.a eb in absurd (omega (arith, ints))

pub proper_second : (s t : HalfPlane) → pos 0 <ℤ bend s t → t.a ≡ pos 0 → t.b ≡ pos 0 → ⊥
unfolding bend
proper_second s t h ea eb = let e = zero_scale s.a t.b eb in let f = zero_scale s.b t.a ea in absurd (omega (arith, ints))

-- of the half planes ts of ss, s is the utmost at p, with r in all of them
pub record Utmost (ss : List HalfPlane) (p r : Spot) (ts : List HalfPlane) : Type 0 where
  pub side : HalfPlane
  pub side_in : In side ss
  pub on : level side p ≡ pos 0
  pub proper : side.a ≡ pos 0 → side.b ≡ pos 0 → ⊥
  pub final : level side r ≡ pos 0 → (t : HalfPlane) → level t p ≡ pos 0 → level t r ≤ℤ pos 0 → bend side t ≤ℤ pos 0
  pub utmost : (t : HalfPlane) → In t ts → level t p ≡ pos 0 → bend side t ≤ℤ pos 0

-- three borders through one spot
three : (s t v : HalfPlane) (p r : Spot) → pos 0 <ℤ p.den → level s p ≡ pos 0 → level t p ≡ pos 0 → level v p ≡ pos 0
    → level v r *ℤ bend s t +ℤ level s r *ℤ bend t v +ℤ level t r *ℤ bend v s ≡ pos 0
three s t v p r positive es et ev =
    let z : level v (crossing s t) *ℤ p.den ≡ pos 0 =
    cramer v s t p ∙ all_none _ _ _ (zero_times (level v p) (bend s t) ev) (zero_times (level s p) (bend t v) es) (zero_times (level t p) (bend v s) et) in
    let l : level v (crossing s t) ≡ pos 0 = unscale_zero p.den _ positive (times_swap p.den _ ∙ z) in
    sym (cramer v s t r) ∙ zero_times _ r.den l
  where
    all_none : (x y z : ℤ) → x ≡ pos 0 → y ≡ pos 0 → z ≡ pos 0 → x +ℤ y +ℤ z ≡ pos 0
    all_none x y z ex ey ez = omega (arith, ints)

-- what t, which s leads out of, leads out of
further : (s t v : HalfPlane) (p r : Spot) → pos 0 <ℤ p.den → level s p ≡ pos 0 → level t p ≡ pos 0 → level v p ≡ pos 0
    → pos 0 <ℤ bend s t → level s r <ℤ pos 0 → level v r ≤ℤ pos 0 → (level t r *ℤ bend v s) ≤ℤ pos 0 → bend t v ≤ℤ pos 0
further s t v p r positive es et ev above below most most' =
    let e = three s t v p r positive es et ev in
    let f : (level v r *ℤ bend s t) ≤ℤ pos 0 =
    (let g = above_most (bend s t) (level v r) above most in let h = times_swap (bend s t) (level v r) in omega (arith, ints)) in
    unscale_under (level s r) (bend t v) below (omega (arith, ints))

module _ (ss : List HalfPlane) (p r : Spot) (positive : pos 0 <ℤ p.den) (here : LiesIn ss p) (there : LiesIn ss r) where
  keep : (ts : List HalfPlane) (u : Utmost ss p r ts) (t : HalfPlane) → (level t p ≡ pos 0 → bend u.side t ≤ℤ pos 0) → Utmost ss p r (t ∷ ts)
  keep ts u t h = record {
    side = u.side;
    side_in = u.side_in;
    on = u.on;
    proper = u.proper;
    final = u.final;
    utmost = λ v i. each v i;
  }
    where
      each : (v : HalfPlane) → In v (t ∷ ts) → level v p ≡ pos 0 → bend u.side v ≤ℤ pos 0
      each v (inl e) = subst (λ w. level w p ≡ pos 0 → bend u.side w ≤ℤ pos 0) (sym e) h
      each v (inr i) = u.utmost v i

  replace : (ts : List HalfPlane) (u : Utmost ss p r ts) (t : HalfPlane) → ((v : HalfPlane) → In v ts → In v ss) → In t ss → level t p ≡ pos 0 → pos 0 <ℤ bend u.side t → Utmost ss p r (t ∷ ts)
  replace ts u t sub i on above =
      let below : level u.side r <ℤ pos 0 =
      by_lt_z (level u.side r) (pos 0) (λ b. b)
      (λ least. let most = there u.side u.side_in in let z : level u.side r ≡ pos 0 = omega (arith, ints) in let w = u.final z t on (there t i) in absurd (omega (arith, ints))) in
      record {
        side = t;
        side_in = i;
        on = on;
        proper = proper_second u.side t above;
        final = λ z v ev most.
            further u.side t v p r positive u.on on ev above below most (let e = zero_times (level t r) (bend v u.side) z in omega (arith, ints));
        utmost = λ v j. each below v j;
      }
    where
      each : level u.side r <ℤ pos 0 → (v : HalfPlane) → In v (t ∷ ts) → level v p ≡ pos 0 → bend t v ≤ℤ pos 0
      each below v (inl e) ev = let f : bend t v ≡ pos 0 = ap (bend t) e ∙ bend_self t in omega (arith, ints)
      each below v (inr j) ev =
          let w = u.utmost v j ev in
          let f = bend_swap u.side v in
          let g = least_most (bend v u.side) (level t r) (omega (arith, ints)) (there t i) in
          let h = times_swap (level t r) (bend v u.side) in
          further u.side t v p r positive u.on on ev above below (there v (sub v j)) (omega (arith, ints))

  next : (ts : List HalfPlane) → Utmost ss p r ts → (t : HalfPlane) → ((v : HalfPlane) → In v ts → In v ss) → In t ss → Utmost ss p r (t ∷ ts)
  next ts u t sub i =
      by_lt_z (pos 0) (bend u.side t)
      (λ above. by_lt_z (level t p) (pos 0)
      (λ below. keep ts u t (λ on. absurd (omega (arith, ints))))
      (λ least. let most = here t i in replace ts u t sub i (omega (arith, ints)) above))
      (λ most. keep ts u t (λ on. most))

  pub utmost : (ts : List HalfPlane) → ((v : HalfPlane) → In v ts → In v ss) → Utmost ss p r [] → Utmost ss p r ts
  utmost [] sub u = u
  utmost (t ∷ ts) sub u = next ts (utmost ts (λ v i. sub v (inr i)) u) t (λ v i. sub v (inr i)) (sub t (inl refl))

  -- a half plane with the spot on its border, and the other one behind it
  begin : (s : HalfPlane) → In s ss → level s p ≡ pos 0 → (s.a ≡ pos 0 → s.b ≡ pos 0 → ⊥) → level s r <ℤ pos 0 → Utmost ss p r []
  begin s i on proper below = record {
    side = s;
    side_in = i;
    on = on;
    proper = proper;
    final = λ z. absurd (omega (arith, ints));
    utmost = λ t j. absurd j;
  }

  pub utmost_of : IsVertex ss p → (IsSameSpot p r → ⊥) → Utmost ss p r ss
  utmost_of v other =
      let m = there v.first v.first_in in
      let n = there v.second v.second_in in
      utmost ss (λ t i. i)
      (by_lt_z (level v.first r) (pos 0)
      (λ below. begin v.first v.first_in v.on_first (proper_first v.first v.second v.crossed) below)
      (λ least. by_lt_z (level v.second r) (pos 0)
      (λ below. begin v.second v.second_in v.on_second (proper_second v.first v.second v.crossed) below)
      (λ least'. absurd (other (same_by v.first v.second p r v.crossed v.on_first v.on_second (omega (arith, ints)) (omega (arith, ints)))))))
