-- Vertices that are found one after another: once each two borders were looked at, all of them.
use Rattle.std.proofs.Common.{◌≡◌, ℕ, ◌+◌, ◌<◌, ◌≤◌, List, [], ◌∷◌, ◌++◌, length, get_or, length-append, below_more, ◌⊎◌, inl, inr, ap, ◌∙◌, sym, subst, arith}
use Rattle.std.specs.Prelude.{pos, ◌<ℤ◌}
use Rattle.std.proofs.lemmas.Int.{ints}
use Rattle.std.proofs.Math.ListN.{get_or-append}
use Rattle.std.proofs.Math.Seq.{get_or-append_seam}
use Rattle.ded_polygon.specs.Plane.{HalfPlane, Spot, In, IsSameSpot, level, bend, crossing}
use Rattle.ded_polygon.specs.Vertices.{LiesIn, IsVertex}
use Rattle.ded_polygon.specs.Lists.{origin, spot_in, side_in, whole_plane, AreVertices, AreAllVertices, Has, HasCrossing, Grows}
use Rattle.ded_polygon.proofs.Identities.{crossing_den, crossing_on_first, crossing_on_second}
use Rattle.ded_polygon.proofs.Sameness.{same_by, same_sym, zero_same, most_same}
use Rattle.ded_polygon.proofs.Places.{place_in, read_as}

-- a crossing that lies in all half planes is a vertex
pub crossing_vertex : (ss : List HalfPlane) (s t : HalfPlane) → In s ss → In t ss → pos 0 <ℤ bend s t → LiesIn ss (crossing s t) → IsVertex ss (crossing s t)
crossing_vertex ss s t i j above lies = record {
  positive = (let e = crossing_den s t in omega (arith, ints));
  inside = lies;
  first = s;
  first_in = i;
  on_first = crossing_on_first s t;
  second = t;
  second_in = j;
  on_second = crossing_on_second s t;
  crossed = above;
}

-- and then more
pub grows_then : (ss : List HalfPlane) (ps qs rs : List Spot) → Grows ss ps qs → Grows ss qs rs → Grows ss ps rs
grows_then ss ps qs rs a b = record { vertices = b.vertices; keeps = λ p h. b.keeps p (a.keeps p h) }

-- what a list has, a list that grew has
pub has_still : (ss : List HalfPlane) (ps qs : List Spot) (s t : HalfPlane) → Grows ss ps qs → HasCrossing ss ps s t → HasCrossing ss qs s t
has_still ss ps qs s t g h = λ above lies. g.keeps (crossing s t) (h above lies)

-- the places of a list that one more spot is put behind
module _ (ps : List Spot) (p : Spot) where
  long : length (ps ++ p ∷ []) ≡ length ps + 1
  long = length-append ps (p ∷ [])

  old : (k : ℕ) → k < length ps → spot_in (ps ++ p ∷ []) k ≡ spot_in ps k
  old k h = get_or-append ps (p ∷ []) origin k h

  new : spot_in (ps ++ p ∷ []) (length ps) ≡ p
  new = get_or-append_seam ps p [] origin

  placed : (k : ℕ) → k < length (ps ++ p ∷ []) → (k < length ps) ⊎ (k ≡ length ps)
  placed k h = let e = long in grind arith

  pub grows_more : (ss : List HalfPlane) → AreVertices ss ps → IsVertex ss p → (Has ps p → ⊥) → Grows ss ps (ps ++ p ∷ [])
  grows_more ss are v fresh = record {
    vertices = record { vertex = λ k h. vertex k (placed k h); differ = λ j k l h. differ j k l (placed k h) };
    keeps = λ q h. (h.0, (let l = h.1 in omega (arith, long)), subst (IsSameSpot q) (sym (old h.0 h.1)) h.2);
  }
    where
      vertex : (k : ℕ) → (k < length ps) ⊎ (k ≡ length ps) → IsVertex ss (spot_in (ps ++ p ∷ []) k)
      vertex k (inl l) = subst (IsVertex ss) (sym (old k l)) (are.vertex k l)
      vertex k (inr e) = subst (λ i. IsVertex ss (spot_in (ps ++ p ∷ []) i)) (sym e) (subst (IsVertex ss) (sym new) v)

      differ : (j k : ℕ) → j < k → (k < length ps) ⊎ (k ≡ length ps) → IsSameSpot (spot_in (ps ++ p ∷ []) j) (spot_in (ps ++ p ∷ []) k) → ⊥
      differ j k l (inl h) s =
          are.differ j k l h (subst (λ q. IsSameSpot q (spot_in ps k)) (old j (omega arith)) (subst (IsSameSpot (spot_in (ps ++ p ∷ []) j)) (old k h) s))
      differ j k l (inr e) s =
          let at_new : spot_in (ps ++ p ∷ []) k ≡ p = ap (spot_in (ps ++ p ∷ [])) e ∙ new in
          let h : j < length ps = omega (arith, e, l) in
          fresh (j, h, same_sym _ _ (subst (λ q. IsSameSpot q p) (old j h) (subst (IsSameSpot (spot_in (ps ++ p ∷ []) j)) at_new s)))

-- a spot that is on both borders
abbrev pub IsOnBoth : List Spot → HalfPlane → HalfPlane → Type 0
IsOnBoth ps s t = (k : ℕ) × (k < length ps) × (level s (spot_in ps k) ≡ pos 0) × (level t (spot_in ps k) ≡ pos 0)

pub on_both_has : (ps : List Spot) (s t : HalfPlane) → pos 0 <ℤ bend s t → IsOnBoth ps s t → Has ps (crossing s t)
on_both_has ps s t above h = (h.0, h.1, same_by s t (crossing s t) (spot_in ps h.0) above (crossing_on_first s t) (crossing_on_second s t) h.2 h.3)

pub has_on_both : (ps : List Spot) (s t : HalfPlane) → pos 0 <ℤ bend s t → Has ps (crossing s t) → IsOnBoth ps s t
has_on_both ps s t above h =
    let positive : pos 0 <ℤ (crossing s t).den = (let e = crossing_den s t in omega (arith, ints)) in
    (h.0, h.1, zero_same s (crossing s t) (spot_in ps h.0) positive h.2 (crossing_on_first s t), zero_same t (crossing s t) (spot_in ps h.0) positive h.2 (crossing_on_second s t))

-- once each two borders were looked at
pub all_found : (ss : List HalfPlane) (ps : List Spot) → AreVertices ss ps
    → ((j k : ℕ) → j < length ss → k < length ss → HasCrossing ss ps (side_in ss j) (side_in ss k)) → AreAllVertices ss ps
all_found ss ps are h = record { vertices = are; all = λ p v. has p v }
  where
    has : (p : Spot) → IsVertex ss p → Has ps p
    has p v =
        let a = place_in ss v.first whole_plane v.first_in in
        let b = place_in ss v.second whole_plane v.second_in in
        let c : HasCrossing ss ps v.first v.second =
        subst (λ s. HasCrossing ss ps s v.second) a.2 (subst (HasCrossing ss ps (side_in ss a.0)) b.2 (h a.0 b.0 a.1 b.1)) in
        let positive : pos 0 <ℤ (crossing v.first v.second).den = (let e = crossing_den v.first v.second in let l = v.crossed in omega (arith, ints)) in
        let same = same_by v.first v.second p (crossing v.first v.second) v.crossed v.on_first v.on_second (crossing_on_first v.first v.second) (crossing_on_second v.first v.second) in
        let w = has_on_both ps v.first v.second v.crossed (c v.crossed (λ t i. most_same t p (crossing v.first v.second) v.positive positive same (v.inside t i))) in
        (w.0, w.1, same_by v.first v.second p (spot_in ps w.0) v.crossed v.on_first v.on_second w.2 w.3)

-- one more half plane whose border was looked at with that of s
pub more_crossings : (ss : List HalfPlane) (ps qs : List Spot) (s : HalfPlane) (i : ℕ) (t : HalfPlane) → i < length ss → t ≡ get_or ss i t → Grows ss ps qs
    → ((k : ℕ) → k < i → HasCrossing ss ps s (side_in ss k)) → HasCrossing ss qs s t → (k : ℕ) → k < i + 1 → HasCrossing ss qs s (side_in ss k)
more_crossings ss ps qs s i t small e g has new =
    below_more (λ k. HasCrossing ss qs s (side_in ss k)) i (λ k h. has_still ss ps qs s (side_in ss k) g (has k h))
    (subst (HasCrossing ss qs s) (sym (read_as ss i t whole_plane small e)) new)

-- one more whose border was looked at with those of all
pub more_borders : (ss : List HalfPlane) (ps qs : List Spot) (i : ℕ) (s : HalfPlane) → i < length ss → s ≡ get_or ss i s → Grows ss ps qs
    → ((j k : ℕ) → j < i → k < length ss → HasCrossing ss ps (side_in ss j) (side_in ss k)) → ((k : ℕ) → k < length ss → HasCrossing ss qs s (side_in ss k))
    → (j k : ℕ) → j < i + 1 → k < length ss → HasCrossing ss qs (side_in ss j) (side_in ss k)
more_borders ss ps qs i s small e g has new j k h =
    below_more (λ j. (k : ℕ) → k < length ss → HasCrossing ss qs (side_in ss j) (side_in ss k)) i
    (λ j h k l. has_still ss ps qs (side_in ss j) (side_in ss k) g (has j k h l))
    (λ k l. subst (λ r. HasCrossing ss qs r (side_in ss k)) (sym (read_as ss i s whole_plane small e)) (new k l)) j h k

-- the list is all of them after the last
pub found_to : (ss : List HalfPlane) (ps : List Spot) (i : ℕ) → length ss ≤ i → AreVertices ss ps
    → ((j k : ℕ) → j < i → k < length ss → HasCrossing ss ps (side_in ss j) (side_in ss k)) → AreAllVertices ss ps
found_to ss ps i past are has = all_found ss ps are (λ j k h l. has j k (omega arith) l)

-- a corner that is pushed
pub grows_by : (ss : List HalfPlane) (ps qs : List Spot) (s t : HalfPlane) (p : Spot) → In s ss → In t ss → p ≡ crossing s t → pos 0 <ℤ bend s t → LiesIn ss p
    → (IsOnBoth ps s t → ⊥) → AreVertices ss ps → qs ≡ ps ++ p ∷ [] → Grows ss ps qs
grows_by ss ps qs s t p i j e above lies fresh are pushed =
    subst (Grows ss ps) (sym pushed)
    (grows_more ps p ss are (subst (IsVertex ss) (sym e) (crossing_vertex ss s t i j above (subst (LiesIn ss) e lies)))
    (λ h. fresh (has_on_both ps s t above (subst (Has ps) e h))))
