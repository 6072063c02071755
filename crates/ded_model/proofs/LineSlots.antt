-- The slots that lines mention.
--
-- A list of coefficients mentions a slot where some place of it has the slot. Putting, cutting and dividing bring in no other
-- slots, and a combination has its own slot cut out. So an elimination mentions slots that its lines mention, and not the
-- eliminated one.
use Rattle.std.proofs.Common.{◌≡◌, Bool, true, false, not, ◌&&◌, ◌||◌, cond, List, [], ◌∷◌, ◌⊎◌, inl, inr, refl, sym, ◌∙◌, ap, subst, true≢false, nat_lt}
use Rattle.std.specs.Prelude.{ℤ, pos, ◌+ℤ◌, ◌-ℤ◌, ◌*ℤ◌}
use lib.IntN.{neg_ℤ}
use Rattle.std.specs.List.{list_any}
use Rattle.std.specs.Ordering.{int_eq}
use Rattle.ded_model.specs.declared.slot.Slot.{Slot}
use Rattle.ded_model.specs.declared.row.RowOp.TheVariants.{Zero}
use Rattle.ded_model.specs.Point.{same_slot}
use Rattle.ded_model.specs.Row.{row_mentions}
use Rattle.ded_model.specs.Coefs.{coef_at, put, put_all, mixed, nonzero, cut}
use Rattle.ded_model.specs.Normal.{coefs_over, divisor_of, normal_row}
use Rattle.ded_model.specs.Lines.{Line, In, line_with, combination, both_mention, lines_clash, elim_at}
use Rattle.ded_model.proofs.Points.{same_slot_is, same_slot_refl}
use Rattle.ded_model.proofs.Rows.{or_left, or_right}
use Rattle.ded_model.proofs.Members.{elim-In, or_split}
use Rattle.ded_model.proofs.LineLengths.{choice}

-- some place of the list has the slot
abbrev pub has_slot : List (Slot × ℤ) → Slot → Bool
has_slot cs t = list_any (λ c. same_slot c.0 t) cs

-- divided coefficients have the same slots
pub over_slots : (k : ℤ) (cs : List (Slot × ℤ)) (t : Slot) → has_slot (coefs_over k cs) t ≡ has_slot cs t
over_slots k [] t = refl
over_slots k (c ∷ cs) t = ap (λ b. same_slot c.0 t || b) (over_slots k cs t)

-- one place, put
put_slot : (s : Slot) (z : ℤ) (c : Slot × ℤ) (cs : List (Slot × ℤ)) (t : Slot) (b b' : Bool) → (has_slot (put s z cs) t ≡ true → (same_slot s t ≡ true) ⊎ (has_slot cs t ≡ true))
    → has_slot (cond b ((c.0, z +ℤ c.1) ∷ cs) (cond b' ((s, z) ∷ c ∷ cs) (c ∷ put s z cs))) t ≡ true → (same_slot s t ≡ true) ⊎ (has_slot (c ∷ cs) t ≡ true)
put_slot s z c cs t true b' ih h = inr h
put_slot s z c cs t false true ih h = or_split (same_slot s t) _ h
put_slot s z c cs t false false ih h = elim (or_split (same_slot c.0 t) _ h) [
  | inl e ↦ inr (or_left _ _ e)
  | inr e ↦ elim (ih e) [ inl x ↦ inl x | inr x ↦ inr (or_right (same_slot c.0 t) _ x) ]
]

-- a number at a slot
pub put_slots : (s : Slot) (z : ℤ) (cs : List (Slot × ℤ)) (t : Slot) → has_slot (put s z cs) t ≡ true → (same_slot s t ≡ true) ⊎ (has_slot cs t ≡ true)
put_slots s z [] t h = or_split (same_slot s t) false h
put_slots s z (c ∷ cs) t h = put_slot s z c cs t (same_slot c.0 s) (nat_lt s.number c.0.number) (put_slots s z cs t) h

-- the multiples of a list
pub put_all_slots : (k : ℤ) (cs ys : List (Slot × ℤ)) (t : Slot) → has_slot (put_all k cs ys) t ≡ true → (has_slot cs t ≡ true) ⊎ (has_slot ys t ≡ true)
put_all_slots k [] ys t h = inr h
put_all_slots k (c ∷ cs) ys t h = elim (put_slots c.0 (k *ℤ c.1) (put_all k cs ys) t h) [
  | inl e ↦ inl (or_left _ _ e)
  | inr e ↦ elim (put_all_slots k cs ys t e) [ inl x ↦ inl (or_right (same_slot c.0 t) _ x) | inr x ↦ inr x ]
]

-- one place, cut
cut_slot : (s : Slot) (c : Slot × ℤ) (cs : List (Slot × ℤ)) (t : Slot) (b : Bool) → same_slot c.0 s ≡ b
    → (has_slot (cut s cs) t ≡ true → (same_slot t s ≡ false) × (has_slot cs t ≡ true)) → has_slot (cond b (cut s cs) (c ∷ cut s cs)) t ≡ true
    → (same_slot t s ≡ false) × (has_slot (c ∷ cs) t ≡ true)
cut_slot s c cs t true e ih h = let r = ih h in (r.0, or_right (same_slot c.0 t) _ r.1)
cut_slot s c cs t false e ih h = elim (or_split (same_slot c.0 t) _ h) [
  | inl x ↦ (subst (λ u. same_slot u s ≡ false) (same_slot_is c.0 t x) e, or_left _ _ x)
  | inr x ↦ (let r = ih x in (r.0, or_right (same_slot c.0 t) _ r.1))
]

-- what is cut has no such slot
pub cut_slots : (s : Slot) (cs : List (Slot × ℤ)) (t : Slot) → has_slot (cut s cs) t ≡ true → (same_slot t s ≡ false) × (has_slot cs t ≡ true)
cut_slots s [] t h = absurd (true≢false (sym h))
cut_slots s (c ∷ cs) t h = cut_slot s c cs t (same_slot c.0 s) refl (cut_slots s cs t) h

-- one place, left out where it is 0
nonzero_slot : (c : Slot × ℤ) (cs : List (Slot × ℤ)) (t : Slot) (b : Bool) → (has_slot (nonzero cs) t ≡ true → has_slot cs t ≡ true)
    → has_slot (cond b (nonzero cs) (c ∷ nonzero cs)) t ≡ true → has_slot (c ∷ cs) t ≡ true
nonzero_slot c cs t true ih h = or_right (same_slot c.0 t) _ (ih h)
nonzero_slot c cs t false ih h = elim (or_split (same_slot c.0 t) _ h) [ inl x ↦ or_left _ _ x | inr x ↦ or_right (same_slot c.0 t) _ (ih x) ]

-- what is not 0
pub nonzero_slots : (cs : List (Slot × ℤ)) (t : Slot) → has_slot (nonzero cs) t ≡ true → has_slot cs t ≡ true
nonzero_slots [] t h = h
nonzero_slots (c ∷ cs) t h = nonzero_slot c cs t (int_eq c.1 (pos 0)) (nonzero_slots cs t) h

-- the line of coefficients
pub line_slots : (cs : List (Slot × ℤ)) (constant : ℤ) (l : Line) (t : Slot) → In l (line_with cs constant) → row_mentions l t ≡ true → has_slot cs t ≡ true
unfolding row_mentions normal_row
line_slots [] constant l t i h = absurd i
line_slots (c ∷ cs) constant l t (inr i) h = absurd i
line_slots (c ∷ cs) constant l t (inl e) h = sym (over_slots (divisor_of Zero constant (c ∷ cs)) (c ∷ cs) t) ∙ ap (λ (m : Line). has_slot m.coefs t) (sym e) ∙ h

-- a combination of two lines
pub combination_slots : (s : Slot) (l m n : Line) (t : Slot) → In n (combination s l m) → row_mentions n t ≡ true → (same_slot t s ≡ false) × ((row_mentions l t ≡ true) ⊎ (row_mentions m t ≡ true))
unfolding row_mentions
combination_slots s l m n t i h =
    let cs = mixed (coef_at m.coefs s) l.coefs (neg_ℤ (coef_at l.coefs s)) m.coefs in
    let r = cut_slots s cs t (nonzero_slots (cut s cs) t (line_slots (nonzero (cut s cs)) (coef_at m.coefs s *ℤ l.constant -ℤ coef_at l.coefs s *ℤ m.constant) n t i h)) in (
      r.0,
      elim (put_all_slots (coef_at m.coefs s) l.coefs (put_all (neg_ℤ (coef_at l.coefs s)) m.coefs []) t r.1) [
        | inl x ↦ inl x
        | inr x ↦ inr (elim (put_all_slots (neg_ℤ (coef_at l.coefs s)) m.coefs [] t x) [ inl y ↦ y | inr y ↦ absurd (true≢false (sym y)) ])
      ],
    )

-- it mentions what a line of the set mentions, and not the eliminated slot
pub elim_slots : (s : Slot) (ls : List Line) (l : Line) (t : Slot) → In l (elim_at s ls) → row_mentions l t ≡ true → (same_slot t s ≡ false) × ((m : Line) × In m ls × (row_mentions m t ≡ true))
elim_slots s ls l t i m = elim (elim-In s ls l i) [
  | inl a ↦ (other (same_slot t s) refl a.1, (l, a.0, m))
  | inr p ↦ (let r = combination_slots s p.first p.second l t (choice (both_mention s p.first p.second && not (lines_clash s p.first p.second)) (combination s p.first p.second) l p.combined) m in
      (r.0, elim r.1 [ inl x ↦ (p.first, p.in_first, x) | inr x ↦ (p.second, p.in_second, x) ]))
]
  where
    other : (b : Bool) → same_slot t s ≡ b → row_mentions l s ≡ false → same_slot t s ≡ false
    other true e n = absurd (true≢false (sym m ∙ ap (row_mentions l) (same_slot_is t s e) ∙ n))
    other false e n = e

-- all lines are over slots that pass the test
abbrev pub AreOver : (Slot → Bool) → List Line → Type 0
AreOver test ls = (l : Line) → In l ls → (t : Slot) → row_mentions l t ≡ true → test t ≡ true

-- `and` with a test that fails, turned
not_same : (a b : Bool) → a ≡ false → b ≡ true → (not a && b) ≡ true
not_same a b e f = rw (e, f) refl

-- an elimination is over the slots that are left
pub elim_over : (s : Slot) (test : Slot → Bool) (ls : List Line) → AreOver test ls → AreOver (λ t. not (same_slot t s) && test t) (elim_at s ls)
elim_over s test ls h l i t m = let r = elim_slots s ls l t i m in not_same (same_slot t s) (test t) r.0 (h r.1.0 r.1.1 t r.1.2)

-- so an elimination never mentions its slot
pub elim_without : (s : Slot) (ls : List Line) (l : Line) → In l (elim_at s ls) → row_mentions l s ≡ false
elim_without s ls l i = go (row_mentions l s) refl
  where
    go : (b : Bool) → row_mentions l s ≡ b → row_mentions l s ≡ false
    go true e = absurd (true≢false (sym (same_slot_refl s) ∙ (elim_slots s ls l s i e).0))
    go false e = e
