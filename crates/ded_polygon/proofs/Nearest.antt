-- The half plane that the way along a border leads out of first.
use Rattle.std.proofs.Common.{◌≡◌, List, [], ◌∷◌, inl, inr, refl, subst, sym, arith}
use Rattle.std.specs.Prelude.{ℤ, pos, ◌+ℤ◌, ◌-ℤ◌, ◌*ℤ◌, ◌<ℤ◌, ◌≤ℤ◌}
use Rattle.std.proofs.lemmas.Int.{ints, by_lt_z}
use Rattle.ded_polygon.specs.Plane.{HalfPlane, Spot, In, level, bend}
use Rattle.ded_polygon.proofs.Polynomials.{nought, var, plus, minus, times, identity}
use Rattle.ded_polygon.proofs.Signs.{above_most, unscale_most}

-- how much earlier the way from p along the border of s leads out of the half plane stop than out of t, where it leads out of both: at most 0
abbrev Later : Spot → HalfPlane → HalfPlane → HalfPlane → Type 0
Later p s stop t = (level t p *ℤ bend s stop -ℤ bend s t *ℤ level stop p) ≤ℤ pos 0

pub record Nearest (ss : List HalfPlane) (p : Spot) (s : HalfPlane) (ts : List HalfPlane) : Type 0 where
  pub stop : HalfPlane
  pub stop_in : In stop ss
  pub leaves : pos 0 <ℤ bend s stop
  pub nearest : (t : HalfPlane) → In t ts → pos 0 <ℤ bend s t → (level t p *ℤ bend s stop -ℤ bend s t *ℤ level stop p) ≤ℤ pos 0

-- the order is transitive
chain : (lv dv lt dt lk dk : ℤ) → dk *ℤ (lv *ℤ dt -ℤ dv *ℤ lt) ≡ dt *ℤ (lv *ℤ dk -ℤ dv *ℤ lk) +ℤ dv *ℤ (dt *ℤ lk -ℤ lt *ℤ dk)
chain lv dv lt dt lk dk =
    identity (lv ∷ dv ∷ lt ∷ dt ∷ lk ∷ dk ∷ [])
    (times (var 5) (minus (times (var 0) (var 3)) (times (var 1) (var 2))))
    (plus (times (var 3) (minus (times (var 0) (var 5)) (times (var 1) (var 4)))) (times (var 1) (minus (times (var 3) (var 4)) (times (var 2) (var 5)))))
    refl

later : (lv dv lt dt lk dk : ℤ) → pos 0 <ℤ dk → pos 0 <ℤ dv → pos 0 <ℤ dt → (lv *ℤ dk -ℤ dv *ℤ lk) ≤ℤ pos 0 → pos 0 <ℤ (lt *ℤ dk -ℤ dt *ℤ lk) → (lv *ℤ dt -ℤ dv *ℤ lt) ≤ℤ pos 0
later lv dv lt dt lk dk pk pv pt most above =
    let e = chain lv dv lt dt lk dk in
    let f = above_most dt _ pt most in
    let g = above_most dv (dt *ℤ lk -ℤ lt *ℤ dk) pv (omega (arith, ints)) in
    unscale_most dk _ pk (omega (arith, ints))

module _ (ss : List HalfPlane) (p : Spot) (s : HalfPlane) where
  keep : (ts : List HalfPlane) (n : Nearest ss p s ts) (t : HalfPlane) → (pos 0 <ℤ bend s t → Later p s n.stop t) → Nearest ss p s (t ∷ ts)
  keep ts n t h = record { stop = n.stop; stop_in = n.stop_in; leaves = n.leaves; nearest = λ v i. each v i }
    where
      each : (v : HalfPlane) → In v (t ∷ ts) → pos 0 <ℤ bend s v → Later p s n.stop v
      each v (inl e) = subst (λ w. pos 0 <ℤ bend s w → Later p s n.stop w) (sym e) h
      each v (inr i) = n.nearest v i

  replace : (ts : List HalfPlane) (n : Nearest ss p s ts) (t : HalfPlane) → In t ss → pos 0 <ℤ bend s t → pos 0 <ℤ (level t p *ℤ bend s n.stop -ℤ bend s t *ℤ level n.stop p) → Nearest ss p s (t ∷ ts)
  replace ts n t i above further = record { stop = t; stop_in = i; leaves = above; nearest = λ v j. each v j }
    where
      none : (l d : ℤ) → l *ℤ d -ℤ d *ℤ l ≡ pos 0
      none l d = identity (l ∷ d ∷ []) (minus (times (var 0) (var 1)) (times (var 1) (var 0))) nought refl

      each : (v : HalfPlane) → In v (t ∷ ts) → pos 0 <ℤ bend s v → Later p s t v
      each v (inl e) above' = subst (λ w. Later p s t w) (sym e) (let z = none (level t p) (bend s t) in omega (arith, ints))
      each v (inr j) above' = later (level v p) (bend s v) (level t p) (bend s t) (level n.stop p) (bend s n.stop) n.leaves above' above (n.nearest v j above') further

  pub nearest : (ts : List HalfPlane) → ((v : HalfPlane) → In v ts → In v ss) → Nearest ss p s [] → Nearest ss p s ts
  nearest [] sub n = n
  nearest (t ∷ ts) sub n =
      let m : Nearest ss p s ts = nearest ts (λ v i. sub v (inr i)) n in
      by_lt_z (pos 0) (bend s t)
      (λ above. by_lt_z (pos 0) (level t p *ℤ bend s m.stop -ℤ bend s t *ℤ level m.stop p)
      (λ further. replace ts m t (sub t (inl refl)) above further)
      (λ most. keep ts m t (λ a. most)))
      (λ most. keep ts m t (λ a. absurd (omega (arith, ints))))

  -- from one that the way leads out of
  pub nearest_of : (t : HalfPlane) → In t ss → pos 0 <ℤ bend s t → Nearest ss p s ss
  nearest_of t i above = nearest ss (λ v j. j) (record { stop = t; stop_in = i; leaves = above; nearest = λ v j. absurd j })
