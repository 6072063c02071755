-- Pieces that an index doesn't find are idle, so those that it finds are enough.
use Rattle.std.proofs.Common.{◌≡◌, ℕ, zero, suc, ◌<◌, ◌≤◌, Bool, true, false, ◌⊎◌, inl, inr, List, [], ◌∷◌, ◌++◌, length, drop, get_or, refl, sym, ap, ◌∙◌, subst, true≢false, arith}
use Rattle.std.specs.Prelude.{ℤ, unsigned_abs, nat_lt, if◌then◌else◌}
use Rattle.std.specs.List.{Contains}
use Rattle.std.proofs.lemmas.List.{length-map}
use Rattle.ded_num.proofs.Signs.{abs_positive}
use Rattle.ded_model.proofs.Lists.{Every, Some}
use Rattle.ded_model.proofs.CoefLemmas.{is_lesser, less, not_lesser}
use Rattle.ded_polygon.specs.Plane.{Spot, In}
use Rattle.ded_polygon.specs.Lists.{spot_in}
use Rattle.ded_polygon.specs.Windows.{Frame, window_planes}
use Rattle.ded_polygon.proofs.Places.{in_at, place_in, in_read}
use Rattle.ded_polygon.proofs.RowPlanes.{in_left, in_right, in_either}
use Rattle.ded_polygon.proofs.Swapping.{equal_or}
use Rattle.ded_strokes.specs.Bounds.{PlaneLimit}
use Rattle.ded_strokes.specs.Stretches.{is_idle, IsIdle}
use Rattle.ded_ranges.specs.declared.reach.Range.{Range}
use Rattle.ded_ranges.specs.declared.limit.Limit.{Limit as Bound}
use Rattle.ded_hull.specs.declared.entry.ReachEntry.{ReachEntry}
use Rattle.ded_ranges.specs.Reaches.{Lies}
use Rattle.ded_hull.specs.Entries.{IsComplete}
use Rattle.ded_layers.specs.declared.part.Part.{Part}
use Rattle.ded_layers.specs.Layers.{pieces_of, AreCornersWithin, AreAllEnough}
use Rattle.ded_layers.specs.Indexed.{coordinates, IsReachOf, MeetBetween, IsEntryOf, piece_at, pieces_at}
use Rattle.ded_layers.proofs.Convex.{planes_between}

-- ---- numbers
in_or_not : (k : ℕ) (ks : List ℕ) → In k ks ⊎ (In k ks → ⊥)
in_or_not k [] = inr (λ i. i)
in_or_not k (j ∷ ks) = elim (equal_or k j) [
  | inl e ↦ inl (inl e)
  | inr n ↦ (elim (in_or_not k ks) [ inl i ↦ inl (inr i) | inr m ↦ inr (λ i. elim i [ inl e ↦ n e | inr h ↦ m h ]) ])
]

-- ---- pieces at places
in_piece_at : (pieces : List (List PlaneLimit)) (k : ℕ) → k < length pieces → In (get_or pieces k []) (piece_at pieces k)
in_piece_at pieces k h = by (nat_lt k (length pieces)) (less k (length pieces) h)
  where
    by : (t : Bool) → t ≡ true → In (get_or pieces k []) (if t then get_or pieces k [] ∷ [] else [])
    by true e = inl refl
    by false e = absurd (true≢false (sym e))

of_piece_at : (pieces : List (List PlaneLimit)) (k : ℕ) (bs : List PlaneLimit) → In bs (piece_at pieces k) → In bs pieces
of_piece_at pieces k bs i = by (nat_lt k (length pieces)) refl i
  where
    by : (t : Bool) → nat_lt k (length pieces) ≡ t → In bs (if t then get_or pieces k [] ∷ [] else []) → In bs pieces
    by true e (inl f) = subst (λ c. In c pieces) (sym f) (in_at pieces k [] (is_lesser k (length pieces) e))
    by true e (inr j) = absurd j
    by false e j = absurd j

in_pieces_at : (pieces : List (List PlaneLimit)) (ks : List ℕ) (k : ℕ) → In k ks → k < length pieces → In (get_or pieces k []) (pieces_at pieces ks)
in_pieces_at pieces [] k i h = absurd i
in_pieces_at pieces (j ∷ ks) k (inl e) h = in_left _ (piece_at pieces j) (pieces_at pieces ks) (subst (λ n. In (get_or pieces k []) (piece_at pieces n)) e (in_piece_at pieces k h))
in_pieces_at pieces (j ∷ ks) k (inr i) h = in_right _ (piece_at pieces j) (pieces_at pieces ks) (in_pieces_at pieces ks k i h)

of_pieces_at : (pieces : List (List PlaneLimit)) (ks : List ℕ) (bs : List PlaneLimit) → In bs (pieces_at pieces ks) → In bs pieces
of_pieces_at pieces [] bs i = absurd i
of_pieces_at pieces (j ∷ ks) bs i = elim (in_either bs (piece_at pieces j) (pieces_at pieces ks) i) [ inl h ↦ of_piece_at pieces j bs h | inr h ↦ of_pieces_at pieces ks bs h ]

in_drop : (xs : List (List PlaneLimit)) (n k : ℕ) → n ≤ k → k < length xs → In (get_or xs k []) (drop n xs)
in_drop [] n k h l = absurd (omega (arith, l))
in_drop (x ∷ xs) zero k h l = in_at (x ∷ xs) k [] l
in_drop (x ∷ xs) (suc n) zero h l = absurd (omega (arith, h))
in_drop (x ∷ xs) (suc n) (suc k) h l = in_drop xs n k (omega (arith, h)) (omega (arith, l))

of_drop : (xs : List (List PlaneLimit)) (n : ℕ) (bs : List PlaneLimit) → In bs (drop n xs) → In bs xs
of_drop [] zero bs i = i
of_drop [] (suc n) bs i = i
of_drop (x ∷ xs) zero bs i = i
of_drop (x ∷ xs) (suc n) bs i = inr (of_drop xs n bs i)

-- ---- entries
found : (w : Frame) (pieces : List (List PlaneLimit)) (k : ℕ) (v : ℕ → ℤ) (d : ℕ) (ids : List ℕ) (es : List ReachEntry) → Every (λ e. Lies e.reach v d → Contains ids e.id) es → Some (IsEntryOf w pieces k) es
    → ((r : List Range) → IsReachOf w (get_or pieces k []) r → Lies r v d) → Contains ids k
found w pieces k v d ids [] h s lies = absurd s
found w pieces k v d ids (e ∷ es) h (inl s) lies = subst (Contains ids) s.0 (h.0 (lies e.reach s.1))
found w pieces k v d ids (e ∷ es) h (inr s) lies = found w pieces k v d ids es h.1 s lies

module _ (n : ℕ) (w : Frame) (pieces : List (List PlaneLimit)) (es : List ReachEntry) (index : (k : ℕ) → k < length pieces → k < n → Some (IsEntryOf w pieces k) es) (cs : List Spot)
    (within : AreCornersWithin w cs) (ls : List Bound) (meet : MeetBetween cs ls) (ids : List ℕ) (complete : IsComplete ls es ids) where
  module _ (i j : ℕ) (hi : i < length cs) (hj : j < length cs) where
    missed_idle : (k : ℕ) → k < length pieces → k < n → (In k ids → ⊥) → IsIdle (spot_in cs i) (spot_in cs j) (get_or pieces k [])
    missed_idle k h small missed m hm l = by (is_idle (get_or pieces k []) m) refl
      where
        lies : is_idle (get_or pieces k []) m ≡ false → (r : List Range) → IsReachOf w (get_or pieces k []) r → Lies r (coordinates m) (unsigned_abs m.den)
        lies e r reach = reach m hm (planes_between (window_planes w) (spot_in cs i) (spot_in cs j) m (meet i j hi hj).0 (meet i j hi hj).1 hm l (within i hi) (within j hj)) e

        by : (t : Bool) → is_idle (get_or pieces k []) m ≡ t → is_idle (get_or pieces k []) m ≡ true
        by true e = e
        by false e =
            let c = found w pieces k (coordinates m) (unsigned_abs m.den) ids es (complete (coordinates m) (unsigned_abs m.den) (abs_positive m.den hm) ((meet i j hi hj).2 m hm l)) (index k h small) (lies e) in
            absurd (missed (in_read ids c.0 k c.1 (sym c.2)))

    other : (k : ℕ) → k < length pieces → IsIdle (spot_in cs i) (spot_in cs j) (get_or pieces k []) ⊎ In (get_or pieces k []) (pieces_at pieces ids ++ drop n pieces)
    other k h = by (nat_lt k n) refl
      where
        by : (t : Bool) → nat_lt k n ≡ t → IsIdle (spot_in cs i) (spot_in cs j) (get_or pieces k []) ⊎ In (get_or pieces k []) (pieces_at pieces ids ++ drop n pieces)
        by true e = elim (in_or_not k ids) [
          | inl f ↦ inr (in_left _ (pieces_at pieces ids) (drop n pieces) (in_pieces_at pieces ids k f h))
          | inr f ↦ inl (missed_idle k h (is_lesser k n e) f)
        ]
        by false e = inr (in_right _ (pieces_at pieces ids) (drop n pieces) (in_drop pieces n k (not_lesser k n e) h))

  pub all_enough : AreAllEnough cs (pieces_at pieces ids ++ drop n pieces) pieces
  all_enough i j hi hj = record {
    some = λ bs f. elim (in_either bs (pieces_at pieces ids) (drop n pieces) f) [ inl g ↦ of_pieces_at pieces ids bs g | inr g ↦ of_drop pieces n bs g ];
    others = λ bs f.
        (let k = place_in pieces bs [] f in
        subst (λ (cs' : List PlaneLimit). IsIdle (spot_in cs i) (spot_in cs j) cs' ⊎ In cs' (pieces_at pieces ids ++ drop n pieces)) k.2 (other i j hi hj k.0 k.1));
  }

-- those that are added to none
pub added : (n : ℕ) (pieces : List (List PlaneLimit)) (ids read : List ℕ) (start mid new : List (List PlaneLimit)) → start ≡ [] → read ≡ ids → mid ≡ start ++ pieces_at pieces read → new ≡ mid ++ drop n pieces
    → new ≡ pieces_at pieces ids ++ drop n pieces
added n pieces ids read start mid new es ei em en =
    en ∙ ap (λ ps. ps ++ drop n pieces) (em ∙ ap (λ ps. ps ++ pieces_at pieces read) es ∙ ap (pieces_at pieces) ei)

pub enough_of : (n : ℕ) (w : Frame) (parts : List Part) (es : List ReachEntry) → ((k : ℕ) → k < length parts → k < n → Some (IsEntryOf w (pieces_of parts) k) es) → (cs : List Spot) → AreCornersWithin w cs
    → (ls : List Bound) → MeetBetween cs ls → (ids : List ℕ) → IsComplete ls es ids → (near : List (List PlaneLimit)) → near ≡ pieces_at (pieces_of parts) ids ++ drop n (pieces_of parts) → AreAllEnough cs near (pieces_of parts)
enough_of n w parts es index cs within ls meet ids complete near e =
    subst (λ ps. AreAllEnough cs ps (pieces_of parts)) (sym e)
    (all_enough n w (pieces_of parts) es (λ k h small. index k (subst (λ m. k < m) (length-map parts (λ (t : Part). t.piece)) h) small) cs within ls meet ids complete)
