-- Which tests of points are definable: comparisons of linear forms and of words, and so rows, text atoms, tuples and lists of
-- tuples. A comparison of two forms is a line for their difference; `not`, `and` and `or` of tests are those of facts.
use Rattle.std.proofs.Common.{◌≡◌, ◌⊎◌, inl, inr, Bool, true, false, not, ◌&&◌, ◌||◌, List, [], ◌∷◌, arith, refl, sym, ap, ◌∙◌, subst, true≢false, bytes_eq}
use Rattle.std.specs.Prelude.{ℤ, pos, ◌+ℤ◌, ◌*ℤ◌, ◌≤ℤ◌, ◌<ℤ◌, int_lt, int_le, IsTrue}
use Rattle.std.specs.Ordering.{int_eq}
use Rattle.std.proofs.lemmas.Int.{ints}
use Rattle.std.proofs.lemmas.Bool.Decides.{Decides-int_eq}
use lib.IntN.{neg_ℤ}
use Rattle.ded_model.specs.declared.slot.Slot.{Slot}
use Rattle.ded_model.specs.declared.row.RowOp.{RowOp}
use Rattle.ded_model.specs.declared.row.RowOp.TheVariants.{Zero, AtMost, Below}
use Rattle.ded_model.specs.declared.tuple.ThemeAtom.{ThemeAtom}
use Rattle.ded_model.specs.declared.tuple.ThemeAtom.TheVariants.{EqText, NeText, EqSlot, NeSlot}
use Rattle.ded_model.specs.declared.tuple.BothAtom.TheVariants.{First, Second}
use Rattle.ded_model.specs.Constraint.{LinearConstraint}
use Rattle.ded_model.specs.Point.{Key, slot, Point, number_at, text_at}
use Rattle.ded_model.specs.Row.{Atom, sum_at, row_at, sign_meets, row_holds, theme_holds, atom_holds, tuple_holds, tuples_hold}
use Rattle.ded_model.proofs.Core.{Meets}
use Rattle.ded_model.proofs.Terms.{Linear, keys_at, linear_at, plus, scale, const, linear-plus, linear-scale, linear-zero, Word, at, quoted, word_at, same, Line, LineHolds}
use Rattle.ded_model.proofs.Definable.{Definable, neg_times, like, always_definable, never_definable, line_definable, claim_definable, not_definable, either_definable, both_definable}

-- ---- tests
unfoldable pub like_test : (a b : Point → Bool) → ((p : Point) → a p ≡ b p) → Definable (λ p. IsTrue (a p)) → Definable (λ p. IsTrue (b p))
like_test a b e D = like (λ p. IsTrue (a p)) (λ p. IsTrue (b p)) (λ p. (λ h. sym (e p) ∙ h, λ h. e p ∙ h)) D

pub not_to : (b : Bool) → ¬ (IsTrue b) → IsTrue (not b)
not_to true n = absurd (n refl)
not_to false n = refl

pub not_from : (b : Bool) → IsTrue (not b) → ¬ (IsTrue b)
not_from true e f = true≢false (sym e)
not_from false e f = true≢false (sym f)

pub and_to : (a b : Bool) → IsTrue a × IsTrue b → IsTrue (a && b)
and_to a b h = rw (h.0, h.1) refl

pub and_from : (a b : Bool) → IsTrue (a && b) → IsTrue a × IsTrue b
and_from true b e = (refl, e)
and_from false b e = absurd (true≢false (sym e))

pub or_to : (a b : Bool) → IsTrue a ⊎ IsTrue b → IsTrue (a || b)
or_to a b (inl h) = rw h refl
or_to true b (inr h) = refl
or_to false b (inr h) = h

pub or_from : (a b : Bool) → IsTrue (a || b) → IsTrue a ⊎ IsTrue b
or_from true b e = inl refl
or_from false b e = inr e

unfoldable pub not_test : (a : Point → Bool) → Definable (λ p. IsTrue (a p)) → Definable (λ p. IsTrue (not (a p)))
not_test a D = like (λ p. ¬ IsTrue (a p)) (λ p. IsTrue (not (a p))) (λ p. (not_to (a p), not_from (a p))) (not_definable (λ p. IsTrue (a p)) D)

unfoldable pub and_test : (a b : Point → Bool) → Definable (λ p. IsTrue (a p)) → Definable (λ p. IsTrue (b p)) → Definable (λ p. IsTrue (a p && b p))
and_test a b D E = like (λ p. IsTrue (a p) × IsTrue (b p)) (λ p. IsTrue (a p && b p)) (λ p. (and_to (a p) (b p), and_from (a p) (b p))) (both_definable (λ p. IsTrue (a p)) (λ p. IsTrue (b p)) D E)

unfoldable pub or_test : (a b : Point → Bool) → Definable (λ p. IsTrue (a p)) → Definable (λ p. IsTrue (b p)) → Definable (λ p. IsTrue (a p || b p))
or_test a b D E = like (λ p. IsTrue (a p) ⊎ IsTrue (b p)) (λ p. IsTrue (a p || b p)) (λ p. (or_to (a p) (b p), or_from (a p) (b p))) (either_definable (λ p. IsTrue (a p)) (λ p. IsTrue (b p)) D E)

unfoldable pub true_test : Definable (λ p. IsTrue true)
true_test = like (λ p. Unit {0}) (λ p. IsTrue true) (λ p. (λ h. refl, λ h. tt)) always_definable

unfoldable pub false_test : Definable (λ p. IsTrue false)
false_test = like (λ p. ⊥) (λ p. IsTrue false) (λ p. (λ h. absurd h, λ h. true≢false (sym h))) never_definable

-- ---- comparisons of linear forms
abbrev pub difference : Linear → Linear → Linear
difference f g = plus f (scale (neg_ℤ (pos 1)) g)

pub linear-difference : (f g : Linear) (p : Point) → linear_at (difference f g) p ≡ linear_at f p +ℤ neg_ℤ (linear_at g p)
linear-difference f g p = linear-plus f (scale (neg_ℤ (pos 1)) g) p ∙ ap (λ z. linear_at f p +ℤ z) (linear-scale (neg_ℤ (pos 1)) g p ∙ neg_times (linear_at g p))

pub lt_from : (a b : ℤ) → (a +ℤ neg_ℤ b) <ℤ pos 0 → IsTrue (int_lt a b)
lt_from a b h = grind (arith, ints)

pub lt_to : (a b : ℤ) → IsTrue (int_lt a b) → (a +ℤ neg_ℤ b) <ℤ pos 0
lt_to a b h = grind (arith, ints)

pub le_from : (a b : ℤ) → (a +ℤ neg_ℤ b) ≤ℤ pos 0 → IsTrue (int_le a b)
le_from a b h = grind (arith, ints)

pub le_to : (a b : ℤ) → IsTrue (int_le a b) → (a +ℤ neg_ℤ b) ≤ℤ pos 0
le_to a b h = grind (arith, ints)

pub eq_from : (a b : ℤ) → IsTrue (int_le a b) × IsTrue (int_le b a) → IsTrue (int_eq a b)
eq_from a b h = let k = le_to a b h.0 in let l = le_to b a h.1 in (Decides-int_eq a b).1 (omega (arith, ints))

pub eq_to : (a b : ℤ) → IsTrue (int_eq a b) → IsTrue (int_le a b) × IsTrue (int_le b a)
eq_to a b h = let e : a ≡ b = (Decides-int_eq a b).0 h in (le_from a b (omega (arith, ints)), le_from b a (omega (arith, ints)))

abbrev pub less_line : Bool → Linear → Linear → Line
less_line b f g = record { strict = b; sum = difference f g }

unfoldable pub lt_definable : (f g : Linear) → Definable (λ p. IsTrue (int_lt (linear_at f p) (linear_at g p)))
lt_definable f g =
    like (λ p. LineHolds p (less_line true f g)) (λ p. IsTrue (int_lt (linear_at f p) (linear_at g p)))
    (λ p. (
      λ h. lt_from (linear_at f p) (linear_at g p) (subst (Meets Below) (linear-difference f g p) h),
      λ h. subst (Meets Below) (sym (linear-difference f g p)) (lt_to (linear_at f p) (linear_at g p) h),
    ))
    (line_definable (less_line true f g))

unfoldable pub le_definable : (f g : Linear) → Definable (λ p. IsTrue (int_le (linear_at f p) (linear_at g p)))
le_definable f g =
    like (λ p. LineHolds p (less_line false f g)) (λ p. IsTrue (int_le (linear_at f p) (linear_at g p)))
    (λ p. (
      λ h. le_from (linear_at f p) (linear_at g p) (subst (Meets AtMost) (linear-difference f g p) h),
      λ h. subst (Meets AtMost) (sym (linear-difference f g p)) (le_to (linear_at f p) (linear_at g p) h),
    ))
    (line_definable (less_line false f g))

unfoldable pub eq_definable : (f g : Linear) → Definable (λ p. IsTrue (int_eq (linear_at f p) (linear_at g p)))
eq_definable f g = like
    (λ p. IsTrue (int_le (linear_at f p) (linear_at g p)) × IsTrue (int_le (linear_at g p) (linear_at f p)))
    (λ p. IsTrue (int_eq (linear_at f p) (linear_at g p)))
    (λ p. (eq_from (linear_at f p) (linear_at g p), eq_to (linear_at f p) (linear_at g p)))
    (both_definable (λ p. IsTrue (int_le (linear_at f p) (linear_at g p))) (λ p. IsTrue (int_le (linear_at g p) (linear_at f p))) (le_definable f g) (le_definable g f))

unfoldable pub text_definable : (v w : Word) → Definable (λ p. IsTrue (bytes_eq (word_at v p) (word_at w p)))
text_definable v w = claim_definable (record { test = same v w; value = true })

-- ---- rows, text atoms, tuples
abbrev pub row_keys : List (Slot × ℤ) → List (Key × ℤ)
row_keys [] = []
row_keys (c ∷ cs) = (slot c.0, c.1) ∷ row_keys cs

abbrev pub row_linear : LinearConstraint → Linear
row_linear r = record { coefs = row_keys r.coefs; constant = r.constant }

pub row_keys-at : (cs : List (Slot × ℤ)) (p : Point) → keys_at (row_keys cs) p ≡ sum_at cs p
row_keys-at [] p = refl
row_keys-at (c ∷ cs) p = ap (λ z. c.1 *ℤ number_at p (slot c.0) +ℤ z) (row_keys-at cs p)

pub row_linear-at : (r : LinearConstraint) (p : Point) → linear_at (row_linear r) p ≡ row_at r p
row_linear-at r p = ap (λ z. z +ℤ r.constant *ℤ pos p.den) (row_keys-at r.coefs p)

abbrev pub zero_form : Linear
zero_form = const (pos 0)

unfoldable pub sign_definable : (f : Linear) (op : RowOp) → Definable (λ p. IsTrue (sign_meets op (linear_at f p)))
sign_definable f Zero = like_test (λ p. int_eq (linear_at f p) (linear_at zero_form p)) (λ p. int_eq (linear_at f p) (pos 0)) (λ p. ap (int_eq (linear_at f p)) (linear-zero p)) (eq_definable f zero_form)
sign_definable f AtMost = like_test (λ p. int_le (linear_at f p) (linear_at zero_form p)) (λ p. int_le (linear_at f p) (pos 0)) (λ p. ap (int_le (linear_at f p)) (linear-zero p)) (le_definable f zero_form)
sign_definable f Below = like_test (λ p. int_lt (linear_at f p) (linear_at zero_form p)) (λ p. int_lt (linear_at f p) (pos 0)) (λ p. ap (int_lt (linear_at f p)) (linear-zero p)) (lt_definable f zero_form)

unfoldable pub row_definable : (r : LinearConstraint) → Definable (λ p. IsTrue (row_holds r p))
unfolding row_holds
row_definable r = like_test (λ p. sign_meets r.op (linear_at (row_linear r) p)) (λ p. row_holds r p) (λ p. ap (sign_meets r.op) (row_linear-at r p)) (sign_definable (row_linear r) r.op)

unfoldable pub theme_definable : (a : ThemeAtom) → Definable (λ p. IsTrue (theme_holds a p))
unfolding theme_holds
theme_definable (EqText s t) = text_definable (at (slot s)) (quoted t)
theme_definable (NeText s t) = not_test (λ p. bytes_eq (text_at p (slot s)) t) (text_definable (at (slot s)) (quoted t))
theme_definable (EqSlot s t) = text_definable (at (slot s)) (at (slot t))
theme_definable (NeSlot s t) = not_test (λ p. bytes_eq (text_at p (slot s)) (text_at p (slot t))) (text_definable (at (slot s)) (at (slot t)))

unfoldable pub atom_definable : (a : Atom) → Definable (λ p. IsTrue (atom_holds a p))
unfolding atom_holds
atom_definable (First r) = row_definable r
atom_definable (Second a) = theme_definable a

unfoldable pub tuple_definable : (t : List Atom) → Definable (λ p. IsTrue (tuple_holds t p))
unfolding tuple_holds
tuple_definable [] = true_test
tuple_definable (a ∷ t) = and_test (λ p. atom_holds a p) (λ p. tuple_holds t p) (atom_definable a) (tuple_definable t)

unfoldable pub tuples_definable : (ts : List (List Atom)) → Definable (λ p. IsTrue (tuples_hold ts p))
unfolding tuples_hold
tuples_definable [] = false_test
tuples_definable (t ∷ ts) = or_test (λ p. tuple_holds t p) (λ p. tuples_hold ts p) (tuple_definable t) (tuples_definable ts)
