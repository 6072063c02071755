-- Conjunctions of rows, by membership: where they hold, what they mention and their lines.
use Rattle.std.proofs.Common.{◌≡◌, ℕ, zero, suc, ◌<◌, true, List, [], ◌∷◌, ◌++◌, length, get_or, arith, refl, sym, ap, ◌∙◌, subst, true≢false, inl, inr}
use Rattle.std.specs.Prelude.{IsTrue}
use Rattle.std.specs.List.{AllByRecursion}
use Rattle.ded_model.specs.declared.slot.Slot.{Slot}
use Rattle.ded_model.specs.Constraint.{LinearConstraint}
use Rattle.ded_model.specs.Point.{Point}
use Rattle.ded_model.specs.Row.{row_holds, row_mentions}
use Rattle.ded_model.specs.Cell.{conj_holds}
use Rattle.ded_model.specs.Lines.{Line, In, row_lines}
use Rattle.ded_model.proofs.Lists.{Every}
use Rattle.ded_model.proofs.Members.{In-left, In-right, In-split, or_split}
use Rattle.ded_model.proofs.Points.{and_left, and_right}
use Rattle.ded_model.proofs.Rows.{or_left, or_right}
use Rattle.ded_theory.specs.Conjunctions.{conj_mentions, conj_lines}
use Rattle.std.proofs.lemmas.Bool.{and_from}

abbrev pub Rows : Type 0
Rows = List LinearConstraint

-- ---- members

-- the element at a place
pub In-at : (rows : Rows) (i : ℕ) (x : LinearConstraint) → i < length rows → x ≡ get_or rows i x → In x rows
In-at [] i x h e = absurd (omega arith)
In-at (r ∷ rows) zero x h e = inl e
In-at (r ∷ rows) (suc i) x h e = inr (In-at rows i x (omega arith) e)

-- what holds of each member, and back
module _ (P : LinearConstraint → Type 0) where
  pub all-In : (rows : Rows) (r : LinearConstraint) → AllByRecursion P rows → In r rows → P r
  all-In [] r h i = absurd i
  all-In (x ∷ rows) r h (inl e) = subst P (sym e) h.0
  all-In (x ∷ rows) r h (inr i) = all-In rows r h.1 i

  pub In-all : (rows : Rows) → ((r : LinearConstraint) → In r rows → P r) → AllByRecursion P rows
  In-all [] f = tt
  In-all (x ∷ rows) f = (f x (inl refl), In-all rows (λ r i. f r (inr i)))

  -- one more
  pub all-push : (rows : Rows) (r : LinearConstraint) → AllByRecursion P rows → P r → AllByRecursion P (rows ++ r ∷ [])
  all-push [] r h k = (k, tt)
  all-push (x ∷ rows) r h k = (h.0, all-push rows r h.1 k)

  pub every-In : (rows : Rows) → ((r : LinearConstraint) → In r rows → P r) → Every P rows
  every-In [] f = tt
  every-In (x ∷ rows) f = (f x (inl refl), every-In rows (λ r i. f r (inr i)))

  -- what holds at each place
  pub In-places : (rows : Rows) → ((k : ℕ) → k < length rows → (d : LinearConstraint) → P (get_or rows k d)) → (r : LinearConstraint) → In r rows → P r
  In-places [] f r i = absurd i
  In-places (x ∷ rows) f r (inl e) = subst P (sym e) (f 0 (omega arith) x)
  In-places (x ∷ rows) f r (inr i) = In-places rows (λ k h d. f (suc k) (omega arith) d) r i

-- ---- where they hold

-- each member holds where all do
pub conj-In : (rows : Rows) (p : Point) (r : LinearConstraint) → conj_holds row_holds rows p ≡ true → In r rows → row_holds r p ≡ true
conj-In [] p r h i = absurd i
conj-In (x ∷ rows) p r h (inl e) = ap (λ y. row_holds y p) e ∙ and_left (row_holds x p) (conj_holds row_holds rows p) h
conj-In (x ∷ rows) p r h (inr i) = conj-In rows p r (and_right (row_holds x p) (conj_holds row_holds rows p) h) i

-- and all hold where each does
pub In-conj : (rows : Rows) (p : Point) → ((r : LinearConstraint) → In r rows → row_holds r p ≡ true) → conj_holds row_holds rows p ≡ true
In-conj [] p f = refl
In-conj (x ∷ rows) p f = and_from (row_holds x p) (conj_holds row_holds rows p) (f x (inl refl)) (In-conj rows p (λ r i. f r (inr i)))

pub conj-every : (rows : Rows) (p : Point) → Every (λ r. IsTrue (row_holds r p)) rows → conj_holds row_holds rows p ≡ true
conj-every [] p h = refl
conj-every (x ∷ rows) p h = and_from (row_holds x p) (conj_holds row_holds rows p) h.0 (conj-every rows p h.1)

-- ---- slots and lines

-- all rows mention what one of them does
pub In-mentions : (rows : Rows) (r : LinearConstraint) (t : Slot) → In r rows → row_mentions r t ≡ true → conj_mentions row_mentions rows t ≡ true
In-mentions [] r t i m = absurd i
In-mentions (x ∷ rows) r t (inl e) m = or_left (row_mentions x t) (conj_mentions row_mentions rows t) (ap (λ y. row_mentions y t) (sym e) ∙ m)
In-mentions (x ∷ rows) r t (inr i) m = or_right (row_mentions x t) (conj_mentions row_mentions rows t) (In-mentions rows r t i m)

-- and only that
pub mentions-In : (rows : Rows) (t : Slot) → conj_mentions row_mentions rows t ≡ true → (r : LinearConstraint) × In r rows × (row_mentions r t ≡ true)
mentions-In [] t h = absurd (true≢false (sym h))
mentions-In (x ∷ rows) t h = elim (or_split (row_mentions x t) (conj_mentions row_mentions rows t) h) [
  | inl m ↦ (x, inl refl, m)
  | inr m ↦ (let r = mentions-In rows t m in (r.0, inr r.1, r.2))
]

-- they have the lines of each
pub In-lines : (rows : Rows) (r : LinearConstraint) (l : Line) → In r rows → In l (row_lines r) → In l (conj_lines row_lines rows)
In-lines [] r l i h = absurd i
In-lines (x ∷ rows) r l (inl e) h = In-left l (row_lines x) (conj_lines row_lines rows) (subst (λ y. In l (row_lines y)) e h)
In-lines (x ∷ rows) r l (inr i) h = In-right l (row_lines x) (conj_lines row_lines rows) (In-lines rows r l i h)

-- and only these
pub lines-In : (rows : Rows) (l : Line) → In l (conj_lines row_lines rows) → (r : LinearConstraint) × In r rows × In l (row_lines r)
lines-In [] l h = absurd h
lines-In (x ∷ rows) l h = elim (In-split l (row_lines x) (conj_lines row_lines rows) h) [
  | inl i ↦ (x, inl refl, i)
  | inr i ↦ (let r = lines-In rows l i in (r.0, inr r.1, r.2))
]
