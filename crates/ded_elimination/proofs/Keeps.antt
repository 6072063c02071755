-- A row among rows that are kept together: added, superfluous, in the place of a weaker one, or without coefficients.
use Rattle.std.proofs.Common.{◌≡◌, ℕ, zero, suc, ◌<◌, Bool, true, false, ◌&&◌, [], ◌∷◌, ◌++◌, length, get_or, arith, refl, sym, ap, ◌∙◌, true≢false, inl, inr, ◌⊎◌}
use Rattle.std.proofs.Math.ListN.{set}
use Rattle.std.proofs.lemmas.List.{get_or_default}
use Rattle.std.proofs.lemmas.List.Folds.{list_all-append}
use Rattle.ded_model.specs.Constraint.{LinearConstraint}
use Rattle.ded_model.specs.Point.{Point}
use Rattle.ded_model.specs.Row.{row_holds, sign_meets}
use Rattle.ded_model.specs.Cell.{conj_holds}
use Rattle.ded_model.specs.Normal.{constant_row, is_true_row, normal_with, normal_row, IsNormalRow}
use Rattle.ded_model.specs.Lines.{In}
use Rattle.ded_model.proofs.Members.{In-split}
use Rattle.ded_model.proofs.Points.{and_left, and_right}
use Rattle.ded_model.proofs.Normals.{constant_row-holds}
use Rattle.ded_elimination.specs.Keeping.{ImpliesFrom, ImpliesAt, Keeps}
use Rattle.ded_elimination.proofs.Conjunctions.{Rows, In-at, conj-In}
use Rattle.std.proofs.lemmas.Bool.{and_from}

-- ---- a row without coefficients

-- a normal one is the true or the false row
constant_is : (r : LinearConstraint) → r.coefs ≡ [] → IsNormalRow r → r ≡ constant_row (sign_meets r.op r.constant)
unfolding normal_row
constant_is r e n = sym n.normal ∙ ap (normal_with r) e

truth_of : (b : Bool) → is_true_row (constant_row b) ≡ b
truth_of true = refl
truth_of false = refl

constant_holds : (r : LinearConstraint) → r.coefs ≡ [] → IsNormalRow r → (p : Point) → row_holds r p ≡ is_true_row r
constant_holds r e n p =
    let b = sign_meets r.op r.constant in
    let is = constant_is r e n in
    ap (λ x. row_holds x p) is ∙ constant_row-holds b p ∙ sym (truth_of b) ∙ ap is_true_row (sym is)

pub keeps_constant : (r : LinearConstraint) (old : Rows) (more : Bool) → r.coefs ≡ [] → IsNormalRow r → more ≡ is_true_row r → Keeps r old more old
keeps_constant r old more e n is = record {
  holds = λ p h m c. (c, constant_holds r e n p ∙ sym is ∙ m);
  rows = λ x i. inl i;
  never = λ m p h. constant_holds r e n p ∙ sym is ∙ m;
}

-- ---- a row with coefficients

-- it is added
pub keeps_added : (r : LinearConstraint) (old : Rows) → Keeps r old true (old ++ r ∷ [])
keeps_added r old = record {
  holds = λ p h m c.
      let parts = sym (list_all-append (λ x. row_holds x p) old (r ∷ [])) ∙ c in
      (and_left (conj_holds row_holds old p) (row_holds r p && true) parts, and_left (row_holds r p) true (and_right (conj_holds row_holds old p) (row_holds r p && true) parts));
  rows = λ x i. elim (In-split x old (r ∷ []) i) [ inl a ↦ inl a | inr b ↦ elim b [ inl e ↦ inr e | inr none ↦ absurd none ] ];
  never = λ m. absurd (true≢false m);
}

-- another row implies it
pub keeps_stronger : (r : LinearConstraint) (old : Rows) (i : ℕ) → i < length old → ImpliesFrom old i r → Keeps r old true old
keeps_stronger r old i lt h = record {
  holds = λ p k m c. (c, h r p k (conj-In old p (get_or old i r) c (In-at old i (get_or old i r) lt (get_or_default old i r (get_or old i r) lt))));
  rows = λ x j. inl j;
  never = λ m. absurd (true≢false m);
}

-- it implies another row, and takes its place
set_holds : (r : LinearConstraint) (old : Rows) (i : ℕ) (p : Point) → 0 < p.den → i < length old → ImpliesAt old i r → conj_holds row_holds (set old i r) p ≡ true
    → (conj_holds row_holds old p ≡ true) × (row_holds r p ≡ true)
set_holds r [] i p h lt w c = absurd (omega arith)
set_holds r (x ∷ old) zero p h lt w c =
    let here = and_left (row_holds r p) (conj_holds row_holds old p) c in
    (and_from (row_holds x p) (conj_holds row_holds old p) (w x p h here) (and_right (row_holds r p) (conj_holds row_holds old p) c), here)
set_holds r (x ∷ old) (suc i) p h lt w c =
    let rest = set_holds r old i p h (omega arith) w (and_right (row_holds x p) (conj_holds row_holds (set old i r) p) c) in
    (and_from (row_holds x p) (conj_holds row_holds old p) (and_left (row_holds x p) (conj_holds row_holds (set old i r) p) c) rest.0, rest.1)

set_rows : (r : LinearConstraint) (old : Rows) (i : ℕ) (y : LinearConstraint) → In y (set old i r) → In y old ⊎ (y ≡ r)
set_rows r [] i y h = absurd h
set_rows r (x ∷ old) zero y (inl e) = inr e
set_rows r (x ∷ old) zero y (inr j) = inl (inr j)
set_rows r (x ∷ old) (suc i) y (inl e) = inl (inl e)
set_rows r (x ∷ old) (suc i) y (inr j) = elim (set_rows r old i y j) [ inl k ↦ inl (inr k) | inr e ↦ inr e ]

pub keeps_weaker : (r : LinearConstraint) (old : Rows) (i : ℕ) → i < length old → ImpliesAt old i r → Keeps r old true (set old i r)
keeps_weaker r old i lt w = record {
  holds = λ p h m c. set_holds r old i p h lt w c;
  rows = λ y j. set_rows r old i y j;
  never = λ m. absurd (true≢false m);
}
