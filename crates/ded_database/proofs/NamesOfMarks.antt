-- The names of marks, one mark after another.
use Rattle.std.proofs.Common.{◌≡◌, ℕ, zero, suc, ◌<◌, arith, length, get_or, take, Bool, true, false, ◌||◌, inl, inr, List, [], ◌∷◌, ◌++◌, refl, sym, ap, ◌∙◌, subst, true≢false, bytes_eq}
use Rattle.std.proofs.Math.Bool.{or-false}
use Rattle.std.proofs.lemmas.Bool.{or_from, or_parts, false_from_ne_true}
use Rattle.std.proofs.lemmas.Slice.Eq.{bytes_eq-Decides}
use Rattle.ded_model.specs.Catalogue.{Catalogue}
use Rattle.ded_model.proofs.Members.{or_split}
use Rattle.ded_model.proofs.Rows.{or_left, or_right}
use Rattle.ded_algebra.proofs.Names.{other_way}
use Rattle.ded_database.specs.declared.mark.Mark.{Mark}
use Rattle.ded_views.specs.Reaching.{reaches}
use Rattle.ded_database.specs.Held.{is_marked, AreMarkedApart}
use Rattle.ded_model.proofs.Bools.{bytes_eq-refl}

-- with one more
pub marked_more : (ms : List Mark) (m : Mark) (v : List ℕ) → is_marked (ms ++ m ∷ []) v ≡ (is_marked ms v || bytes_eq v m.name)
marked_more [] m v = or-false (bytes_eq v m.name)
marked_more (x ∷ ms) m v = by (bytes_eq v x.name) (marked_more ms m v)
  where
    by : (b : Bool) → is_marked (ms ++ m ∷ []) v ≡ (is_marked ms v || bytes_eq v m.name) → (b || is_marked (ms ++ m ∷ []) v) ≡ ((b || is_marked ms v) || bytes_eq v m.name)
    by true next = refl
    by false next = next

-- a name that is marked then was marked before, where it isn't the last one's
pub marked_other : (ms : List Mark) (m : Mark) (v : List ℕ) → is_marked (ms ++ m ∷ []) v ≡ true → bytes_eq v m.name ≡ false → is_marked ms v ≡ true
marked_other ms m v e f = elim (or_split (is_marked ms v) (bytes_eq v m.name) (sym (marked_more ms m v) ∙ e)) [ inl k ↦ k | inr k ↦ absurd (true≢false (sym k ∙ f)) ]

-- as where it reaches a name that the last one doesn't
pub marked_before : (c : Catalogue) (n : List ℕ) (ms : List Mark) (m : Mark) (v : List ℕ) → reaches c m.name n ≡ false → is_marked (ms ++ m ∷ []) v ≡ true → reaches c v n ≡ true → is_marked ms v ≡ true
marked_before c n ms m v s e r = marked_other ms m v e
    (false_from_ne_true (bytes_eq v m.name) (λ f. true≢false (sym r ∙ ap (λ j. reaches c j n) ((bytes_eq-Decides v m.name).0 f) ∙ s)))

-- a name of none isn't that of the one at the index
unmarked_at : (ms : List Mark) (i : ℕ) (m : Mark) (v : List ℕ) → i < length ms → m ≡ get_or ms i m → is_marked ms v ≡ false → bytes_eq v m.name ≡ false
unmarked_at [] i m v l e h = absurd (omega (arith, l))
unmarked_at (x ∷ ms) zero m v l e h = subst (λ (y : Mark). bytes_eq v y.name ≡ false) (sym e) (or_parts _ _ h).0
unmarked_at (x ∷ ms) (suc i) m v l e h = unmarked_at ms i m v (omega (arith, l)) e (or_parts (bytes_eq v x.name) _ h).1

-- none before the index has the name of the one there
pub apart_at : (ms : List Mark) (i : ℕ) (m : Mark) → AreMarkedApart ms → i < length ms → m ≡ get_or ms i m → is_marked (take i ms) m.name ≡ false
apart_at [] i m k l e = absurd (omega (arith, l))
apart_at (x ∷ ms) zero m k l e = refl
apart_at (x ∷ ms) (suc i) m k l e =
    or_from (bytes_eq m.name x.name) (is_marked (take i ms) m.name) (other_way x.name m.name (unmarked_at ms i m x.name (omega (arith, l)) e k.0)) (apart_at ms i m k.1 (omega (arith, l)) e)

-- the one there is marked
pub marked_at : (ms : List Mark) (i : ℕ) (m : Mark) → i < length ms → m ≡ get_or ms i m → is_marked ms m.name ≡ true
marked_at [] i m l e = absurd (omega (arith, l))
marked_at (x ∷ ms) zero m l e = or_left (bytes_eq m.name x.name) (is_marked ms m.name) (subst (λ (y : Mark). bytes_eq m.name y.name ≡ true) e (bytes_eq-refl m.name))
marked_at (x ∷ ms) (suc i) m l e = or_right (bytes_eq m.name x.name) (is_marked ms m.name) (marked_at ms i m (omega (arith, l)) e)
