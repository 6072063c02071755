-- Rows that mention two slots alone, by a test of their coefficients.
use Rattle.std.proofs.Common.{◌≡◌, ℕ, ◌<◌, ◌≤◌, length, get_or, Bool, true, ◌||◌, List, [], ◌∷◌, ◌⊎◌, inl, inr, refl, sym, subst, true≢false, arith}
use Rattle.std.specs.Prelude.{ℤ}
use Rattle.std.specs.List.{list_all, list_any}
use Rattle.ded_num.proofs.Tests.{both}
use Rattle.ded_model.specs.declared.slot.Slot.{Slot}
use Rattle.ded_model.specs.Constraint.{LinearConstraint}
use Rattle.ded_model.specs.Point.{same_slot}
use Rattle.ded_model.specs.Row.{row_mentions}
use Rattle.ded_model.proofs.Points.{same_slot_is, same_slot_refl, and_left, and_right}
use Rattle.ded_model.proofs.Rows.{or_right, or_left}
use Rattle.ded_model.proofs.Members.{or_split}
use Rattle.ded_polygon.specs.Closures.{MentionsOnly, MentionOnly}
use Rattle.ded_polygon.proofs.Places.{place_in}

-- the slot is x or y
abbrev is_of : Slot → Slot → Slot × ℤ → Bool
is_of x y c = same_slot c.0 x || same_slot c.0 y

-- the test tells of each slot that is mentioned
only_of : (x y : Slot) (cs : List (Slot × ℤ)) → list_all (is_of x y) cs ≡ true → (s : Slot) → list_any (λ c. same_slot c.0 s) cs ≡ true → (same_slot s x ≡ true) ⊎ (same_slot s y ≡ true)
only_of x y [] h s m = absurd (true≢false (sym m))
only_of x y (c ∷ cs) h s m =
    elim (or_split (same_slot c.0 s) (list_any (λ d. same_slot d.0 s) cs) m) [
      | inl e ↦ subst (λ t. (same_slot t x ≡ true) ⊎ (same_slot t y ≡ true)) (same_slot_is c.0 s e) (or_split (same_slot c.0 x) (same_slot c.0 y) (and_left (is_of x y c) (list_all (is_of x y) cs) h))
      | inr i ↦ only_of x y cs (and_right (is_of x y c) (list_all (is_of x y) cs) h) s i
    ]

-- and the other way round
of_only : (x y : Slot) (cs : List (Slot × ℤ)) → ((s : Slot) → list_any (λ c. same_slot c.0 s) cs ≡ true → (same_slot s x ≡ true) ⊎ (same_slot s y ≡ true)) → list_all (is_of x y) cs ≡ true
of_only x y [] h = refl
of_only x y (c ∷ cs) h =
    both (is_of x y c) (list_all (is_of x y) cs)
    (elim (h c.0 (or_left (same_slot c.0 c.0) (list_any (λ d. same_slot d.0 c.0) cs) (same_slot_refl c.0))) [
      | inl e ↦ or_left (same_slot c.0 x) (same_slot c.0 y) e
      | inr e ↦ or_right (same_slot c.0 x) (same_slot c.0 y) e
    ])
    (of_only x y cs (λ s m. h s (or_right (same_slot c.0 s) (list_any (λ d. same_slot d.0 s) cs) m)))

pub mentions_by : (x y : Slot) (r : LinearConstraint) → list_all (λ c. same_slot c.0 x || same_slot c.0 y) r.coefs ≡ true → MentionsOnly x y r
unfolding row_mentions
mentions_by x y r h = only_of x y r.coefs h

pub by_mentions : (x y : Slot) (r : LinearConstraint) → MentionsOnly x y r → list_all (λ c. same_slot c.0 x || same_slot c.0 y) r.coefs ≡ true
unfolding row_mentions
by_mentions x y r h = of_only x y r.coefs h

-- each of the rows does
pub all_mention : (x y : Slot) (rows : List LinearConstraint) (n : ℕ) → length rows ≤ n → ((k : ℕ) → k < n → (d : LinearConstraint) → MentionsOnly x y (get_or rows k d)) → MentionOnly x y rows
all_mention x y rows n all h r i =
    let p = place_in rows r r i in
    subst (MentionsOnly x y) p.2 (h p.0 (let l = p.1 in omega arith) r)
