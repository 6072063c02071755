-- The lines of sides, of parts and of layers, put together.
use Rattle.std.proofs.Common.{◌≡◌, ℕ, ◌+◌, ◌<◌, ◌≤◌, inl, inr, List, [], ◌∷◌, ◌++◌, length, take, get_or, refl, sym, ap, ◌∙◌, subst, add-one, append_assoc, arith}
use Rattle.std.specs.Prelude.{pos, ◌<ℤ◌, Result, Ok, Err, OnOk}
use Rattle.std.proofs.lemmas.List.{append-nil, take_more}
use Rattle.ded_polygon.specs.Plane.{Spot, In}
use Rattle.ded_polygon.specs.Lists.{spot_in, after}
use Rattle.ded_polygon.proofs.RowPlanes.{in_either}
use Rattle.ded_strokes.specs.Bounds.{PlaneLimit}
use Rattle.ded_strokes.specs.Near.{outward}
use Rattle.ded_strokes.specs.Stretches.{AreCut, AreEnough, lines_of}
use Rattle.ded_strokes.specs.declared.parting.Stretch.{Stretch}
use Rattle.ded_strokes.proofs.Stretched.{cut_all}
use Rattle.ded_layers.specs.declared.part.Part.{Part}
use Rattle.ded_layers.specs.Layers.{RunsThrough, IsBorder, AreSideLines, AreFirstLines, ArePartLines, AreLines, Adds, AreAllEnough}

-- ---- borders
pub none_before : (bs : List PlaneLimit) (p q : Spot) (i : ℕ) (d : PlaneLimit) → i < length bs → d ≡ get_or bs i d → ((b : PlaneLimit) → In b (take i bs) → RunsThrough p q b → ⊥) → (RunsThrough p q d → ⊥)
    → (b : PlaneLimit) → In b (take (i + 1) bs) → RunsThrough p q b → ⊥
none_before bs p q i d h e first here b j r = elim (in_either b (take i bs) (d ∷ []) (subst (In b) (take_more bs i d h ∙ ap (λ x. take i bs ++ x ∷ []) (sym e)) j)) [
  | inl k ↦ first b k r
  | inr k ↦ (elim k [ inl f ↦ here (subst (RunsThrough p q) f r) | inr n ↦ n ])
]

-- ---- sides
pub bare_side : (pieces : List (List PlaneLimit)) (own : List PlaneLimit) (p q : Spot) (old : List Stretch) → ((b : PlaneLimit) → IsBorder own p q b → ⊥) → Adds (AreSideLines pieces own p q) old old
bare_side pieces own p q old h = ([], sym (append-nil old), inl (record { bare = h; none = refl }))

pub drawn_side : {E : Type 0} (near pieces : List (List PlaneLimit)) (own : List PlaneLimit) (p q : Spot) (side : PlaneLimit) (ss old new : List Stretch) → pos 0 <ℤ p.den → pos 0 <ℤ q.den → AreEnough p q near pieces
    → IsBorder own p q side → AreCut near (outward side.plane) p q ss → (o : Result (Unit {0}) E) → OnOk o (new ≡ old ++ lines_of ss) → OnOk o (Adds (AreSideLines pieces own p q) old new)
drawn_side near pieces own p q side ss old new hp hq enough border cut (Ok u) h =
    (lines_of ss, h, inr (record { side = side; border = border; stretches = ss; cut = cut_all near pieces (outward side.plane) p q hp hq enough ss cut; lines = refl }))
drawn_side near pieces own p q side ss old new hp hq enough border cut (Err e) h = h

pub no_sides : (pieces : List (List PlaneLimit)) (own : List PlaneLimit) (cs : List Spot) (old : List Stretch) → Adds (AreFirstLines pieces own cs 0) old old
no_sides pieces own cs old = ([], sym (append-nil old), refl)

pub side_more : (pieces : List (List PlaneLimit)) (own : List PlaneLimit) (cs : List Spot) (k : ℕ) (p q : Spot) (old mid new : List Stretch) → spot_in cs k ≡ p → spot_in cs (after (length cs) k) ≡ q
    → Adds (AreFirstLines pieces own cs k) old mid → Adds (AreSideLines pieces own p q) mid new → Adds (AreFirstLines pieces own cs (k + 1)) old new
side_more pieces own cs k p q old mid new ep eq front last =
    subst (λ n. Adds (AreFirstLines pieces own cs n) old new) (sym (add-one k)) (
      front.0 ++ last.0,
      last.1 ∙ ap (λ ls. ls ++ last.0) front.1 ∙ append_assoc old front.0 last.0,
      (
        front.0,
        last.0,
        refl,
        front.2,
        subst (λ c. AreSideLines pieces own c (spot_in cs (after (length cs) k)) last.0) (sym ep) (subst (λ c. AreSideLines pieces own p c last.0) (sym eq) last.2),
      ),
    )

-- ---- parts
pub few_corners : (pieces : List (List PlaneLimit)) (t : Part) (old : List Stretch) → length t.corners.items < 3 → Adds (ArePartLines pieces t) old old
few_corners pieces t old h = ([], sym (append-nil old), record { sides = λ k. absurd (omega (arith, h, k)); none = λ k. refl })

pub all_sides : {E : Type 0} (pieces : List (List PlaneLimit)) (t : Part) (old new : List Stretch) → 3 ≤ length t.corners.items → (o : Result (Unit {0}) E)
    → OnOk o (Adds (AreFirstLines pieces t.piece t.corners.items (length t.corners.items)) old new) → OnOk o (Adds (ArePartLines pieces t) old new)
all_sides pieces t old new h (Ok u) k = (k.0, k.1, record { sides = λ m. k.2; none = λ m. absurd (omega (arith, h, m)) })
all_sides pieces t old new h (Err e) k = k

-- ---- layers
lines_snoc : (pieces : List (List PlaneLimit)) (ts : List Part) (t : Part) (ls new : List Stretch) → AreLines pieces ts ls → ArePartLines pieces t new → AreLines pieces (ts ++ t ∷ []) (ls ++ new)
lines_snoc pieces [] t ls new h k = (new, [], ap (λ xs. xs ++ new) h ∙ sym (append-nil new), k, refl)
lines_snoc pieces (s ∷ ts) t ls new h k =
    (h.0, h.1 ++ new, ap (λ xs. xs ++ new) h.2 ∙ append_assoc h.0 h.1 new, h.3, lines_snoc pieces ts t h.1 new h.4 k)

pub part_more : (pieces : List (List PlaneLimit)) (parts : List Part) (i : ℕ) (t : Part) (old new : List Stretch) → i < length parts → t ≡ get_or parts i t
    → AreLines pieces (take i parts) old → Adds (ArePartLines pieces t) old new → AreLines pieces (take (i + 1) parts) new
part_more pieces parts i t old new h e front last =
    subst (λ ts. AreLines pieces ts new) (sym (take_more parts i t h ∙ ap (λ x. take i parts ++ x ∷ []) (sym e)))
    (subst (AreLines pieces (take i parts ++ t ∷ [])) (sym last.1) (lines_snoc pieces (take i parts) t old last.0 front last.2))

pub enough_at : (cs : List Spot) (near pieces : List (List PlaneLimit)) → AreAllEnough cs near pieces → (j k : ℕ) → j < length cs → k < length cs → (p q : Spot) → spot_in cs j ≡ p → spot_in cs k ≡ q → AreEnough p q near pieces
enough_at cs near pieces all j k hj hk p q ep eq =
    subst (λ (c : Spot). AreEnough c q near pieces) ep (subst (λ (c : Spot). AreEnough (spot_in cs j) c near pieces) eq (all j k hj hk))
