-- What stands for a closure and for an interior: closeness by arguments is closeness at the point of the arguments.
use Rattle.std.proofs.Common.{◌≡◌, ℕ, ◌*◌, ◌<◌, List, [], ◌∷◌, length, arith, sym, ap, ◌∙◌, subst, mul-pos}
use Rattle.std.specs.Prelude.{◌↔◌, ℤ, pos, ◌*ℤ◌, IsTrue}
use Rattle.std.specs.List.{AllByRecursion}
use Rattle.ded_num.proofs.Ring.{parts, ring, diff-pos, diff_same}
use Rattle.ded_model.specs.declared.name.Column.{Column}
use Rattle.ded_model.specs.Catalogue.{Catalogue, at_slots, read_as, stored, meaning}
use Rattle.ded_model.specs.Known.{IsTupleOver}
use Rattle.ded_model.specs.Made.{reading, closure_of, interior_of}
use Rattle.ded_model.specs.Near.{AreNear, IsNearPoint, IsClose, IsInside, IsCloseAt, IsInsideAt, AreSortedTuples}
use Rattle.ded_model.specs.Point.{slot, Point, IsPoint, number_at}
use Rattle.ded_model.specs.Row.{Atom, tuples_hold}
use Rattle.ded_model.specs.Value.{Argument}
use Rattle.ded_elimination.proofs.Shared.{atoms_normal}
use Rattle.ded_views.specs.Same.{AreByteArguments}
use Rattle.ded_topology.specs.Names.{HoldsAsTuples, StandsForName}
use Rattle.ded_topology.proofs.Arguments.{near_point, arguments_point, arguments_of, arguments_near, number_there, text_there}
use Rattle.ded_topology.proofs.Normals.{over_slots}
use Rattle.ded_topology.proofs.SortedSame.{tuples_same}
use Rattle.ded_topology.proofs.Weak.{sorted_atoms}
use Rattle.ded_views.proofs.MadeNames.{near_bytes, near_length}

sorted_over : (h : List Column) (ts : List (List Atom)) → AllByRecursion (IsTupleOver h) ts → AreSortedTuples ts
sorted_over h [] o = tt
sorted_over h (t ∷ ts) o = (sorted_atoms t (atoms_normal t o.0.normal), sorted_over h ts o.1)

turned : (z : ℤ) (d e : ℕ) → (z *ℤ pos d) *ℤ pos e ≡ z *ℤ pos (e * d)
turned z d e = rw (parts z, diff-pos (e * d), diff-pos d, diff-pos e) (simp ring (diff_same _ _ _ _ (omega arith)))

module _ (R : ℕ → List Argument → Type 0) (h : List Column) (ts : List (List Atom)) (means : HoldsAsTuples R h ts) (over : AllByRecursion (IsTupleOver h) ts) (d : ℕ) (xs : List Argument) (i : 0 < d) (b : AreByteArguments xs) (l : length xs ≡ length h) where
  abbrev here : Point
  here = record { den = d; coords = at_slots 0 h xs }

  abbrev there : ℕ → List Argument → Point
  there e ys = record { den = e; coords = at_slots 0 h ys }

  -- the arguments of a near point stand for it
  same_there : (m k : ℕ) (q : Point) → 0 < q.den → IsNearPoint m k here q → tuples_hold ts (there (q.den * d) (arguments_of 0 h xs d q)) ≡ tuples_hold ts q
  same_there m k q j n =
      tuples_same ts (there (q.den * d) (arguments_of 0 h xs d q)) q (mul-pos j i) j (sorted_over h ts over) (record {
        numbers = λ s e o. ap (λ z. z *ℤ pos q.den) (number_there d h xs q l s (over_slots h ts over s e) o) ∙ turned (number_at q (slot s)) d q.den;
        texts = λ s e o. text_there d h xs q l s (over_slots h ts over s e) o ∙ n.texts s o;
      })

  -- it holds of near arguments where the tuples hold at their point
  near_means : (m k e : ℕ) (ys : List Argument) → 0 < e → AreNear m k d e xs ys → R e ys ↔ IsTrue (tuples_hold ts (there e ys))
  near_means m k e ys j n = means e ys j (near_bytes m k d e xs ys n b) (near_length m k d e xs ys n ∙ l)

  pub close_is : IsClose R d xs ↔ IsCloseAt (tuples_hold ts) here
  close_is = (
    λ f m k a c.
        let w = f m k a c in
        (there w.0 w.1, arguments_point w.0 h w.1 w.2 (near_bytes m k d w.0 xs w.1 w.3 b), near_point m k d w.0 a i w.2 h xs w.1 w.3, (near_means m k w.0 w.1 w.2 w.3).0 w.4),
    λ f m k a c.
        let w = f m k a c in
        let n = arguments_near m k d h xs w.0 a i w.1.positive l w.2 in
        let j : 0 < w.0.den * d = mul-pos w.1.positive i in
        (w.0.den * d, arguments_of 0 h xs d w.0, j, n, (near_means m k (w.0.den * d) (arguments_of 0 h xs d w.0) j n).1 (same_there m k w.0 w.1.positive w.2 ∙ w.3)),
  )

  pub inside_is : IsInside R d xs ↔ IsInsideAt (tuples_hold ts) here
  inside_is = (
    λ w. (w.0, w.1, w.2, w.3, λ q p n. inside w.0 w.1 w.2 w.4 q p n),
    λ w. (
      w.0,
      w.1,
      w.2,
      w.3,
      λ e ys j n.
          (near_means w.0 w.1 e ys j n).1 (w.4 (there e ys) (arguments_point e h ys j (near_bytes w.0 w.1 d e xs ys n b)) (near_point w.0 w.1 d e w.2 i j h xs ys n)),
    ),
  )
    where
      inside : (m k : ℕ) → 0 < m → ((e : ℕ) (ys : List Argument) → 0 < e → AreNear m k d e xs ys → R e ys) → (q : Point) → IsPoint q → IsNearPoint m k here q → IsTrue (tuples_hold ts q)
      inside m k a f q p n =
          let j : 0 < q.den * d = mul-pos p.positive i in
          let g = arguments_near m k d h xs q a i p.positive l n in
          sym (same_there m k q p.positive n) ∙ (near_means m k (q.den * d) (arguments_of 0 h xs d q) j g).0 (f (q.den * d) (arguments_of 0 h xs d q) j g)

-- what a name means that is made of another one
pub closure_stands : (c : Catalogue) (m n : List ℕ) (h : List Column) (ts us : List (List Atom)) → reading m ≡ closure_of n → StandsForName c n h ts
    → ((p : Point) → IsPoint p → IsCloseAt (tuples_hold ts) p ↔ IsTrue (tuples_hold us p)) → HoldsAsTuples (meaning c m) h us
unfolding meaning
closure_stands c m n h ts us e s is d xs i b l =
    let p : Point = record { den = d; coords = at_slots 0 h xs } in
    let law = close_is (stored c n) h ts s.means s.over d xs i b l in
    let held = is p (arguments_point d h xs i b) in
    (λ f. held.0 (law.0 (subst (λ r. read_as (stored c) m r d xs) e f)), λ f. subst (λ r. read_as (stored c) m r d xs) (sym e) (law.1 (held.1 f)))

pub interior_stands : (c : Catalogue) (m n : List ℕ) (h : List Column) (ts us : List (List Atom)) → reading m ≡ interior_of n → StandsForName c n h ts
    → ((p : Point) → IsPoint p → IsInsideAt (tuples_hold ts) p ↔ IsTrue (tuples_hold us p)) → HoldsAsTuples (meaning c m) h us
unfolding meaning
interior_stands c m n h ts us e s is d xs i b l =
    let p : Point = record { den = d; coords = at_slots 0 h xs } in
    let law = inside_is (stored c n) h ts s.means s.over d xs i b l in
    let held = is p (arguments_point d h xs i b) in
    (λ f. held.0 (law.0 (subst (λ r. read_as (stored c) m r d xs) e f)), λ f. subst (λ r. read_as (stored c) m r d xs) (sym e) (law.1 (held.1 f)))
