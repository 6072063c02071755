-- An index that gets one entry more.
use Rattle.std.proofs.Common.{◌≡◌, ℕ, ◌+◌, ◌<◌, Bool, true, false, inl, inr, List, [], ◌∷◌, length, get_or, refl, sym, ap, ◌∙◌, subst, arith}
use Rattle.std.specs.Prelude.{nat_lt}
use Rattle.std.specs.List.Sorted.{IsPermutation}
use Rattle.std.proofs.lemmas.List.{get_or-map}
use Rattle.std.proofs.lemmas.List.Sorted.{Contains-permutation}
use Rattle.ded_model.proofs.Lists.{Some}
use Rattle.ded_model.proofs.CoefLemmas.{is_lesser, not_lesser}
use Rattle.ded_polygon.specs.Plane.{In}
use Rattle.ded_polygon.specs.Windows.{Frame}
use Rattle.ded_polygon.proofs.Places.{place_in, in_read}
use Rattle.ded_strokes.specs.Bounds.{PlaneLimit}
use Rattle.ded_ranges.specs.declared.reach.Range.{Range}
use Rattle.ded_hull.specs.declared.entry.ReachEntry.{ReachEntry}
use Rattle.ded_layers.specs.declared.part.Part.{Part}
use Rattle.ded_layers.specs.Layers.{pieces_of}
use Rattle.ded_layers.specs.Indexed.{IsEntryOf, IsReachOf}

-- ---- entries in another order
module _ (P : ReachEntry → Type 0) where
  picked : (es : List ReachEntry) → Some P es → (e : ReachEntry) × In e es × P e
  picked [] s = absurd s
  picked (e ∷ es) (inl h) = (e, inl refl, h)
  picked (e ∷ es) (inr s) = let p = picked es s in (p.0, inr p.1, p.2)

  some_of : (es : List ReachEntry) (e : ReachEntry) → In e es → P e → Some P es
  some_of [] e i h = absurd i
  some_of (d ∷ es) e (inl f) h = inl (subst P f h)
  some_of (d ∷ es) e (inr i) h = inr (some_of es e i h)

  moved : (es ds : List ReachEntry) → IsPermutation es ds → Some P es → Some P ds
  moved es ds p s =
      let k = picked es s in
      let c = Contains-permutation es ds k.0 p (place_in es k.0 k.0 k.1) in
      some_of ds k.0 (in_read ds c.0 k.0 c.1 (sym c.2)) k.2

-- ---- one more
pub entry_more : (n : ℕ) (w : Frame) (parts : List Part) (i : ℕ) (t : Part) (id : ℕ) (r : List Range) (old new : List ReachEntry) → i < length parts → t ≡ get_or parts i t → id ≡ i → IsReachOf w t.piece r
    → IsPermutation (record { id = id; reach = r } ∷ old) new → ((k : ℕ) → k < i → k < n → Some (IsEntryOf w (pieces_of parts) k) old) → (k : ℕ) → k < i + 1 → k < n → Some (IsEntryOf w (pieces_of parts) k) new
entry_more n w parts i t id r old new h e same reach p first k hk small = moved (IsEntryOf w (pieces_of parts) k) (record { id = id; reach = r } ∷ old) new p (by (nat_lt k i) refl)
  where
    piece_is : get_or (pieces_of parts) i [] ≡ t.piece
    piece_is = get_or-map (λ (s : Part). s.piece) parts i t [] h ∙ ap (λ (s : Part). s.piece) (sym e)

    by : (b : Bool) → nat_lt k i ≡ b → Some (IsEntryOf w (pieces_of parts) k) (record { id = id; reach = r } ∷ old)
    by true f = inr (first k (is_lesser k i f) small)
    by false f =
        let g = not_lesser k i f in
        let ik : i ≡ k = omega (arith, hk, g) in
        inl (same ∙ ik, subst (λ (bs : List PlaneLimit). IsReachOf w bs r) (sym (ap (λ m. get_or (pieces_of parts) m []) (sym ik) ∙ piece_is)) reach)

-- what is below an end is below what isn't
pub past_end : (n i k : ℕ) → (i < n → ⊥) → k < n → k < i
past_end n i k h l = by (nat_lt i n) refl
  where
    by : (b : Bool) → nat_lt i n ≡ b → k < i
    by true f = absurd (h (is_lesser i n f))
    by false f = let g = not_lesser i n f in omega (arith, g, l)
