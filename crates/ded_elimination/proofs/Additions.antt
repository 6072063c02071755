-- Rows that are added one after another.
use Rattle.std.proofs.Common.{◌≡◌, ℕ, ◌+◌, ◌<◌, Bool, true, false, length, get_or, arith, refl, sym, ◌∙◌, subst, true≢false, inl, inr, below_more}
use Rattle.std.proofs.lemmas.List.Elements.{at_read}
use Rattle.ded_model.specs.declared.slot.Slot.{Slot}
use Rattle.ded_model.specs.Constraint.{LinearConstraint}
use Rattle.ded_model.specs.Point.{Point}
use Rattle.ded_model.specs.Row.{row_holds}
use Rattle.ded_elimination.specs.Keeping.{Keeps}
use Rattle.ded_elimination.specs.Adding.{IsRemaining, Adds, OfFirst}
use Rattle.ded_elimination.proofs.Conjunctions.{Rows}

module _ (Kind : LinearConstraint → Type 0) (s : Slot) (rows : Rows) where
  -- one row
  pub adds_kept : (asked : Point → Type 0) (r : LinearConstraint) (old : Rows) (more : Bool) (new : Rows) → Keeps r old more new → IsRemaining Kind s rows r
      → ((p : Point) → 0 < p.den → row_holds r p ≡ true → asked p) → Adds Kind s rows asked old more new
  adds_kept asked r old more new k l f = record {
    holds = λ p h m c. let w = k.holds p h m c in (w.0, f p h w.1);
    remaining = λ x i. elim (k.rows x i) [ inl j ↦ inl j | inr e ↦ inr (subst (IsRemaining Kind s rows) (sym e) l) ];
    never = λ m p h w. true≢false (sym (l.follows p h w) ∙ k.never m p h);
  }

  -- none
  pub adds_nothing : (asked : Point → Type 0) (old : Rows) → ((p : Point) → 0 < p.den → asked p) → Adds Kind s rows asked old true old
  adds_nothing asked old f = record { holds = λ p h m c. (c, f p h); remaining = λ x i. inl i; never = λ m. absurd (true≢false m) }

  -- some, and then some more
  pub adds_then : (A B C : Point → Type 0) (old mid : Rows) (more : Bool) (new : Rows) → Adds Kind s rows A old true mid → Adds Kind s rows B mid more new
      → ((p : Point) → 0 < p.den → A p → B p → C p) → Adds Kind s rows C old more new
  adds_then A B C old mid more new a b f = record {
    holds = λ p h m c. let v = b.holds p h m c in let w = a.holds p h refl v.0 in (w.0, f p h w.1 v.1);
    remaining = λ x i. elim (b.remaining x i) [ inl j ↦ a.remaining x j | inr l ↦ inr l ];
    never = b.never;
  }

  -- what follows of what is asked
  pub adds_weaker : (A C : Point → Type 0) (old : Rows) (more : Bool) (new : Rows) → Adds Kind s rows A old more new → ((p : Point) → 0 < p.den → A p → C p) → Adds Kind s rows C old more new
  adds_weaker A C old more new a f = record { holds = λ p h m c. let w = a.holds p h m c in (w.0, f p h w.1); remaining = a.remaining; never = a.never }

  -- where nothing more can hold, anything may be asked
  pub adds_never : (A C : Point → Type 0) (old new : Rows) → Adds Kind s rows A old false new → Adds Kind s rows C old false new
  adds_never A C old new a = record { holds = λ p h m. absurd (true≢false (sym m)); remaining = a.remaining; never = a.never }

  pub adds_stop : (A B C : Point → Type 0) (old mid new : Rows) → Adds Kind s rows A old true mid → Adds Kind s rows B mid false new → Adds Kind s rows C old false new
  adds_stop A B C old mid new a b = adds_never B C old new (adds_then A B B old mid false new a b (λ p h x y. y))

  -- ---- for each of a list
  module _ (asked : LinearConstraint → Point → Type 0) (xs : Rows) where
    pub adds_none : (old : Rows) → Adds Kind s rows (OfFirst asked xs 0) old true old
    adds_none old = adds_nothing (OfFirst asked xs 0) old (λ p h k lt. absurd (omega arith))

    pub adds_more : (i : ℕ) (x : LinearConstraint) (old mid : Rows) (more : Bool) (new : Rows) → i < length xs → x ≡ get_or xs i x
        → Adds Kind s rows (OfFirst asked xs i) old true mid → Adds Kind s rows (asked x) mid more new → Adds Kind s rows (OfFirst asked xs (i + 1)) old more new
    adds_more i x old mid more new lt e a b =
        adds_then (OfFirst asked xs i) (asked x) (OfFirst asked xs (i + 1)) old mid more new a b
        (λ p h f g. below_more (λ k. (d : LinearConstraint) → asked (get_or xs k d) p) i f (at_read xs (λ y. asked y p) i x lt e g))

    -- an element that is passed over
    pub adds_skip : (i : ℕ) (x : LinearConstraint) (old mid : Rows) → i < length xs → x ≡ get_or xs i x → ((p : Point) → 0 < p.den → asked x p)
        → Adds Kind s rows (OfFirst asked xs i) old true mid → Adds Kind s rows (OfFirst asked xs (i + 1)) old true mid
    adds_skip i x old mid lt e f a = adds_more i x old mid true mid lt e a (adds_nothing (asked x) mid f)
