-- The slots that rows mention besides x and y.
use Rattle.std.proofs.Common.{◌≡◌, Bool, true, false, cond, ◌||◌, List, [], ◌∷◌, ◌++◌, inl, inr, refl, sym, ap, ◌∙◌, subst}
use Rattle.std.specs.Prelude.{ℤ}
use Rattle.std.specs.List.{list_any}
use Rattle.ded_num.proofs.Tests.{or_false_both}
use Rattle.ded_model.specs.declared.slot.Slot.{Slot}
use Rattle.ded_model.specs.Constraint.{LinearConstraint}
use Rattle.ded_model.specs.Point.{same_slot, stands_in}
use Rattle.ded_model.specs.Row.{row_mentions}
use Rattle.ded_model.proofs.Bools.{or_false_left, or_false_right, or_assoc}
use Rattle.ded_model.proofs.Members.{or_split}
use Rattle.ded_model.proofs.Points.{same_slot_is, same_slot_refl}
use Rattle.ded_model.proofs.Rows.{or_left, or_right}
use Rattle.ded_theory.specs.Conjunctions.{conj_mentions}
use Rattle.ded_shapes.specs.Projections.{is_among, with_other, with_others, with_all_others}

stands_append : (ss ts : List Slot) (u : Slot) → stands_in (ss ++ ts) u ≡ (stands_in ss u || stands_in ts u)
stands_append [] ts u = refl
stands_append (s ∷ ss) ts u = ap (λ b. same_slot s u || b) (stands_append ss ts u) ∙ sym (or_assoc (same_slot s u) (stands_in ss u) (stands_in ts u))

-- neither x nor y stands in the list
abbrev pub AreFree : Slot → Slot → List Slot → Type 0
AreFree x y ss = (stands_in ss x ≡ false) × (stands_in ss y ≡ false)

-- the new list keeps what the old one has, and has the slots that pass the test
pub record Gathers (x y : Slot) (old new : List Slot) (test : Slot → Bool) : Type 0 where
  pub keeps : (u : Slot) → is_among x y old u ≡ true → is_among x y new u ≡ true
  pub has : (u : Slot) → test u ≡ true → is_among x y new u ≡ true
  pub free : AreFree x y old → AreFree x y new

module _ (x y : Slot) where
  gathers_none : (ss : List Slot) → Gathers x y ss ss (λ u. false)
  gathers_none ss = record { keeps = λ u h. h; has = λ u h. absurd (true_false h); free = λ f. f }
    where
      true_false : false ≡ true → ⊥
      true_false e = subst (λ b. cond b ⊥ (Unit {0})) e tt

  gathers_then : (a b c : List Slot) (f g : Slot → Bool) → Gathers x y a b f → Gathers x y b c g → Gathers x y a c (λ u. f u || g u)
  gathers_then a b c f g m n = record {
    keeps = λ u h. n.keeps u (m.keeps u h);
    has = λ u h. elim (or_split (f u) (g u) h) [ inl e ↦ n.keeps u (m.has u e) | inr e ↦ n.has u e ];
    free = λ h. n.free (m.free h);
  }

  gathers_one : (ss : List Slot) (s : Slot) → Gathers x y ss (with_other x y ss s) (same_slot s)
  gathers_one ss s = record {
    keeps = λ u h. keeps u h (is_among x y ss s);
    has = λ u h. subst (λ v. is_among x y (with_other x y ss s) v ≡ true) (same_slot_is s u h) (has (is_among x y ss s) refl);
    free = λ f. free f (is_among x y ss s) refl;
  }
    where
      more : List Slot
      more = ss ++ s ∷ []

      keeps : (u : Slot) → is_among x y ss u ≡ true → (b : Bool) → is_among x y (cond b ss (ss ++ s ∷ [])) u ≡ true
      keeps u h true = h
      keeps u h false =
          elim (or_split (same_slot u x || same_slot u y) (stands_in ss u) h) [
            | inl e ↦ or_left (same_slot u x || same_slot u y) (stands_in (ss ++ s ∷ []) u) e
            | inr e ↦ or_right (same_slot u x || same_slot u y) (stands_in (ss ++ s ∷ []) u) (stands_append ss (s ∷ []) u ∙ or_left (stands_in ss u) (stands_in (s ∷ []) u) e)
          ]

      has : (b : Bool) → is_among x y ss s ≡ b → is_among x y (cond b ss (ss ++ s ∷ [])) s ≡ true
      has true e = e
      has false e =
          or_right (same_slot s x || same_slot s y) (stands_in (ss ++ s ∷ []) s)
          (stands_append ss (s ∷ []) s ∙ or_right (stands_in ss s) (stands_in (s ∷ []) s) (or_left (same_slot s s) false (same_slot_refl s)))

      without_it : (t : Slot) → stands_in ss t ≡ false → same_slot s t ≡ false → stands_in (ss ++ s ∷ []) t ≡ false
      without_it t h e = stands_append ss (s ∷ []) t ∙ or_false_both (stands_in ss t) (stands_in (s ∷ []) t) h (or_false_both (same_slot s t) false e refl)

      free : AreFree x y ss → (b : Bool) → is_among x y ss s ≡ b → AreFree x y (cond b ss (ss ++ s ∷ []))
      free f true e = f
      free f false e =
          let n = or_false_left (same_slot s x || same_slot s y) (stands_in ss s) e in
          (without_it x f.0 (or_false_left (same_slot s x) (same_slot s y) n), without_it y f.1 (or_false_right (same_slot s x) (same_slot s y) n))

  gathers_coefs : (cs : List (Slot × ℤ)) (ss : List Slot) → Gathers x y ss (with_others x y ss cs) (λ u. list_any (λ c. same_slot c.0 u) cs)
  gathers_coefs [] ss = gathers_none ss
  gathers_coefs (c ∷ cs) ss =
      gathers_then ss (with_other x y ss c.0) (with_others x y (with_other x y ss c.0) cs) (same_slot c.0) (λ u. list_any (λ d. same_slot d.0 u) cs)
      (gathers_one ss c.0) (gathers_coefs cs (with_other x y ss c.0))

  gathers_row : (r : LinearConstraint) (ss : List Slot) → Gathers x y ss (with_others x y ss r.coefs) (row_mentions r)
  unfolding row_mentions
  gathers_row r ss = gathers_coefs r.coefs ss

  -- the slots of rows
  pub gathers_rows : (rows : List LinearConstraint) (ss : List Slot) → Gathers x y ss (with_all_others x y ss rows) (conj_mentions row_mentions rows)
  gathers_rows [] ss = gathers_none ss
  gathers_rows (r ∷ rows) ss =
      gathers_then ss (with_others x y ss r.coefs) (with_all_others x y (with_others x y ss r.coefs) rows) (row_mentions r) (conj_mentions row_mentions rows)
      (gathers_row r ss) (gathers_rows rows (with_others x y ss r.coefs))
