-- What a window asks of the columns that are read into slots holds at the point of the columns, where the window does at that of the
-- slots.
use Rattle.std.proofs.Common.{◌≡◌, ℕ, zero, suc, ◌+◌, ◌*◌, arith, Bool, true, List, [], ◌∷◌, inl, inr, refl, sym, ap, ap₂, ◌∙◌, subst}
use Rattle.std.specs.Prelude.{ℤ, pos, ◌+ℤ◌, ◌*ℤ◌}
use Rattle.std.specs.List.{AllByRecursion, list_all}
use Rattle.std.proofs.lemmas.Bool.{and_from}
use Rattle.std.proofs.lemmas.Slice.Eq.{bytes_eq-Decides}
use Rattle.ded_model.specs.declared.slot.Slot.{Slot}
use Rattle.ded_model.specs.declared.slot.Sort.{Sort}
use Rattle.ded_model.specs.declared.slot.Sort.TheVariants.{Rat, Text}
use Rattle.ded_model.specs.declared.name.Column.{Column}
use Rattle.ded_model.specs.Constraint.{LinearConstraint}
use Rattle.ded_model.specs.Point.{slot, Point, number_at, text_at}
use Rattle.ded_model.specs.Row.{sum_at, row_holds, sign_meets}
use Rattle.ded_algebra.specs.Evaluation.{HaveSorts}
use Rattle.ded_ranges.specs.declared.limit.Limit.{Limit}
use Rattle.ded_ranges.specs.declared.window.Window.{Window}
use Rattle.ded_ranges.specs.Limits.{sum_of, is_met, are_met}
use Rattle.ded_ranges.specs.Windows.{column_value, column_text, is_text_met, is_within}
use Rattle.ded_eval.specs.Within.{StandsAt, AreTermsOf, IsLimitOf, IsAskedRow, IsAskedText, IsWindowOf}
use Rattle.ded_algebra.proofs.Columns.{IsRead}
use Rattle.ded_algebra.proofs.ColumnPoints.{column_point, number_there, text_there, same_number, same_text, overs_one}

-- the column of the place is read into the slot that stands there
read_at : (k i : ℕ) (h : List Column) (ss : List Slot) (u : Slot) → HaveSorts h ss → StandsAt ss i u → IsRead k h ss (record { number = k + i; sort = u.sort }) u
read_at k i h [] u j a = absurd a
read_at k i [] (v ∷ ss) u j a = absurd j
read_at k zero (c ∷ h) (v ∷ ss) u j a =
    let e : k + zero ≡ k = omega arith in
    inl (ap₂ (λ (n : ℕ) (t : Sort). record { number = n; sort = t }) e (sym (j.0 ∙ ap (λ (s : Slot). s.sort) a)), sym a)
read_at k (suc i) (c ∷ h) (v ∷ ss) u j a =
    let e : (k + 1) + i ≡ k + suc i = omega arith in
    inr (subst (λ n. IsRead (k + 1) h ss (record { number = n; sort = u.sort }) u) e (read_at (k + 1) i h ss u j.1 a))

-- from the first column on
read_here : (i : ℕ) (h : List Column) (ss : List Slot) (u : Slot) (t : Sort) → u.sort ≡ t → HaveSorts h ss → StandsAt ss i u → IsRead 0 h ss (record { number = i; sort = t }) u
read_here i h ss u t e j a =
    let z : 0 + i ≡ i = omega arith in
    subst (λ n. IsRead 0 h ss (record { number = n; sort = t }) u) z (subst (λ x. IsRead 0 h ss (record { number = 0 + i; sort = x }) u) e (read_at 0 i h ss u j a))

module _ (q : Point) (h : List Column) (ss : List Slot) (sorts : HaveSorts h ss) where
  -- a number in a column is that of its slot
  number_in : (i : ℕ) (u : Slot) → u.sort ≡ Rat → StandsAt ss i u → column_value (column_point q h ss) i ≡ number_at q (slot u)
  number_in i u e a =
      number_there q h ss (record { number = i; sort = Rat }) u (read_here i h ss u Rat e sorts a)
      ∙ same_number q u Rat e

  -- the sum of the terms is that of the coefficients
  sum_in : (cs : List (Slot × ℤ)) (ts : List (ℕ × ℤ)) → AreTermsOf ss cs ts → sum_of ts (column_value (column_point q h ss)) ≡ sum_at cs q
  sum_in [] [] k = refl
  sum_in [] (t ∷ ts) k = absurd k
  sum_in (c ∷ cs) [] k = absurd k
  sum_in (c ∷ cs) (t ∷ ts) k = ap₂ (λ a b. a +ℤ b) (ap₂ (λ a b. a *ℤ b) k.2 (number_in t.0 c.0 k.0 k.1)) (sum_in cs ts k.3)

  -- over the same denominator
  same_den : (column_point q h ss).den ≡ q.den
  same_den = ap (λ m. q.den * m) (overs_one q ss) ∙ omega arith

  limit_met : (r : LinearConstraint) (l : Limit) → IsLimitOf ss r l → row_holds r q ≡ true → is_met (column_value (column_point q h ss)) (column_point q h ss).den l ≡ true
  unfolding row_holds
  limit_met r l k e =
      ap₂ sign_meets k.op (ap₂ (λ a b. a +ℤ b) (sum_in r.coefs l.terms.items k.terms) (ap₂ (λ a b. a *ℤ pos b) k.constant same_den)) ∙ e

  limits_met : (inside : Point → Bool) (ls : List Limit) → inside q ≡ true → AllByRecursion (IsAskedRow ss inside) ls → are_met (column_value (column_point q h ss)) (column_point q h ss).den ls ≡ true
  limits_met inside [] w k = refl
  limits_met inside (l ∷ ls) w k = and_from _ _ (limit_met k.0.row l k.0.limit (k.0.holds q w)) (limits_met inside ls w k.1)

  text_in : (i : ℕ) (u : Slot) → u.sort ≡ Text → StandsAt ss i u → column_text (column_point q h ss) i ≡ text_at q (slot u)
  text_in i u e a =
      text_there q h ss (record { number = i; sort = Text }) u (read_here i h ss u Text e sorts a)
      ∙ same_text q u Text e

  texts_met : (inside : Point → Bool) (ts : List (ℕ × List ℕ)) → inside q ≡ true → AllByRecursion (λ t. IsAskedText ss inside t.0 t.1) ts → list_all (is_text_met (column_point q h ss)) ts ≡ true
  texts_met inside [] w k = refl
  texts_met inside (t ∷ ts) w k = and_from _ _ ((bytes_eq-Decides (column_text (column_point q h ss) t.0) t.1).1 (text_in t.0 k.0.at k.0.sort k.0.stands ∙ k.0.is q w)) (texts_met inside ts w k.1)

  -- the columns are in the window
  pub columns_within : (inside : Point → Bool) (w : Window) → inside q ≡ true → IsWindowOf ss inside w → is_within w (column_point q h ss) ≡ true
  columns_within inside w e k = and_from _ _ (limits_met inside w.limits.items e k.rows) (texts_met inside w.texts.items e k.texts)
