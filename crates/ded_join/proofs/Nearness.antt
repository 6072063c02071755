-- The pairs that an index picks are near.
--
-- Boxes that share values have an interval with a value at each slot. Those of atoms that aren't wide are exact bounds then, and
-- exact bounds are bounds of something: so the atoms hold somewhere.
use Rattle.std.proofs.Common.{◌≡◌, ℕ, zero, suc, ◌<◌, Bool, true, List, [], ◌∷◌, ◌++◌, length, get_or, inl, inr, arith, refl, sym, ap, ◌∙◌, subst, true≢false, append_assoc, append-nil}
use Rattle.std.specs.List.{AllByRecursion, Contains}
use Rattle.ded_model.specs.declared.slot.Slot.{Slot}
use Rattle.ded_model.specs.declared.bound.Bound.{Bound}
use Rattle.ded_model.specs.declared.bound.Bound.TheVariants.{Infinite, Excluded, Included}
use Rattle.ded_model.specs.Point.{Point}
use Rattle.ded_model.specs.Cell.{conj_holds, HoldsSomewhere}
use Rattle.ded_model.specs.Bound.{Fraction, lower, upper}
use Rattle.ded_model.specs.Interval.{IsExactBound}
use Rattle.ded_model.specs.Lines.{Line}
use Rattle.ded_model.proofs.Points.{and_left, and_right}
use Rattle.ded_theory.specs.Conjunctions.{IsWide}
use Rattle.ded_box.specs.Intervals.{IsPositive, is_inside, is_within}
use Rattle.ded_box.specs.Boxes.{AreValues, Shared, in_box}
use Rattle.ded_index.specs.declared.entry.BoxEntry.{BoxEntry}
use Rattle.ded_index.specs.Entries.{Box, SomeEntry, AreFound}
use Rattle.ded_join.specs.Near.{BoundsMeet, AreNear, ArePicked, AreNearPairs}
use Rattle.ded_genrel.specs.Rounds.{AreSharp, IsBoxOf}
use Rattle.ded_join.specs.Picks.{IsIndexOf, picked}
use Rattle.ded_join.proofs.Joined.{places}

-- an exact bound with a value inside of it is one of something
exact_somewhere : (test : Point → Bool) (s : Slot) (b : Bound) (v : Fraction) → IsPositive v → is_inside lower b v ≡ true → IsExactBound test s lower b → HoldsSomewhere test
exact_somewhere test s Infinite v p i h = let o = h v p in (o.0, o.1, o.2)
exact_somewhere test s (Excluded f) v p i h = let o = h.near v p i in (o.0, o.1, o.2)
exact_somewhere test s (Included f) v p i h = (h.attained.0, h.attained.1, h.attained.2)

sharp_somewhere : (test : Point → Bool) (ss : List Slot) (x : Box) (vs : List Fraction) → 0 < length ss → AreValues vs → in_box x vs ≡ true → AreSharp test ss x → HoldsSomewhere test
sharp_somewhere test [] x vs l p i h = absurd (omega (arith, l))
sharp_somewhere test (s ∷ ss) [] vs l p i h = absurd h
sharp_somewhere test (s ∷ ss) (j ∷ js) [] l p i h = absurd (true≢false (sym i))
sharp_somewhere test (s ∷ ss) (j ∷ js) (v ∷ vs) l p i h =
    let k = and_left (is_within j v) (in_box js vs) i in
    exact_somewhere test s j.0 v p.0 (and_left (is_inside lower j.0 v) (is_inside upper j.1 v) k) (h.0 v k).0

sharp_meet : (one other : Point → Bool) (ss : List Slot) (x y : Box) (vs : List Fraction) → AreValues vs → in_box x vs ≡ true → in_box y vs ≡ true → AreSharp one ss x → AreSharp other ss y → AllByRecursion (BoundsMeet one other) ss
sharp_meet one other [] x y vs p i j h k = tt
sharp_meet one other (s ∷ ss) [] y vs p i j h k = absurd h
sharp_meet one other (s ∷ ss) (a ∷ x) [] vs p i j h k = absurd k
sharp_meet one other (s ∷ ss) (a ∷ x) (b ∷ y) [] p i j h k = absurd (true≢false (sym i))
sharp_meet one other (s ∷ ss) (a ∷ x) (b ∷ y) (v ∷ vs) p i j h k =
    let ia = and_left (is_within a v) (in_box x vs) i in
    let ib = and_left (is_within b v) (in_box y vs) j in (
      record { first = a; second = b; first_exact = h.0 v ia; second_exact = k.0 v ib; value = v; positive = p.0; in_first = ia; in_second = ib },
      sharp_meet one other ss x y vs p.1 (and_right (is_within a v) (in_box x vs) i) (and_right (is_within b v) (in_box y vs) j) h.1 k.1,
    )

module _ {A : Type 0} (h : A → Point → Bool) (m : A → Slot → Bool) (l : A → List Line) (ss : List Slot) (some : 0 < length ss) where
  shared_near : (c d : List A) (x y : Box) → IsBoxOf h m l ss c x → IsBoxOf h m l ss d y → Shared y x → (IsWide m l c → ⊥) → (IsWide m l d → ⊥) → AreNear h ss c d
  shared_near c d x y p q s nc nd = record {
    first = sharp_somewhere (conj_holds h c) ss x s.values some s.positive s.second (p.sharp nc);
    second = sharp_somewhere (conj_holds h d) ss y s.values some s.positive s.first (q.sharp nd);
    bounds = sharp_meet (conj_holds h c) (conj_holds h d) ss x y s.values s.positive s.second s.first (p.sharp nc) (q.sharp nd);
  }

  module _ (c : List A) (cs : List (List A)) (x : Box) (box : IsBoxOf h m l ss c x) where
    abbrev Near : ℕ → Type 0
    Near j = (IsWide m l c → ⊥) → (IsWide m l (get_or cs j []) → ⊥) → AreNear h ss c (get_or cs j [])

    near_at : (j : ℕ) (ys : List BoxEntry) → SomeEntry (λ e. (e.id ≡ j) × Shared e.bounds x) ys → AllByRecursion (λ e. (e.id < length cs) × IsBoxOf h m l ss (get_or cs e.id []) e.bounds) ys → Near j
    near_at j [] s w = absurd s
    near_at j (y ∷ ys) (inl a) w = subst Near a.0 (shared_near c (get_or cs y.id []) x y.bounds box w.0.1 a.1)
    near_at j (y ∷ ys) (inr b) w = near_at j ys b w.1

    near_all : (ks : List ℕ) → ((j : ℕ) → Contains ks j → Near j) → AllByRecursion Near ks
    near_all [] f = tt
    near_all (k ∷ ks) f = (f k (zero, omega arith, refl), near_all ks (λ j i. f j (suc i.0, omega (arith, i.1), i.2)))

    pub picked_near : (es : List BoxEntry) (js : List ℕ) → IsIndexOf h m l ss cs es → AreFound x es js → ArePicked h m l ss c cs (picked c cs js)
    picked_near es js index found = record {
      places = js;
      ascending = found.ascending;
      inside = places h m l ss c cs es x js index box found;
      near = near_all js (λ j i. near_at j es ((found.exact j).0 i) index.own);
      list = refl;
    }

-- the next conjunction
pub near-push : {A : Type 0} (h : A → Point → Bool) (m : A → Slot → Bool) (l : A → List Line) (ss : List Slot) (bs cs out : List (List A)) (c : List A) (added : List (List A)) → AreNearPairs h m l ss bs cs out → ArePicked h m l ss c cs added → AreNearPairs h m l ss (bs ++ c ∷ []) cs (out ++ added)
near-push h m l ss [] cs out c added e p = (added, [], ap (λ xs. xs ++ added) e ∙ sym (append-nil added), p, refl)
near-push h m l ss (b ∷ bs) cs out c added n p =
    let front = n.0 in
    let rest = n.1 in
    (front, rest ++ added, ap (λ xs. xs ++ added) n.2 ∙ append_assoc front rest added, n.3, near-push h m l ss bs cs rest c added n.4 p)
