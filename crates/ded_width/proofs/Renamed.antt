-- Renamed order lines are order lines, where the slots are those of columns that the lines mention.
use Rattle.std.proofs.Common.{◌≡◌, ◌≢◌, ℕ, suc, zero, ◌+◌, ◌<◌, nat_lt, true, false, cond, List, [], ◌∷◌, ◌⊎◌, inl, inr, arith, refl, sym, ap, ap₂, ◌∙◌, subst, true≢false}
use Rattle.std.specs.Prelude.{ℤ, pos, negsuc, ◌+ℤ◌}
use Rattle.std.proofs.lemmas.Int.{ints}
use Rattle.std.proofs.lemmas.Bool.Decides.{nat_tests}
use Rattle.ded_model.specs.declared.slot.Slot.{Slot}
use Rattle.ded_model.specs.declared.slot.Sort.TheVariants.{Rat}
use Rattle.ded_model.specs.declared.name.Column.{Column}
use Rattle.ded_model.specs.Coefs.{put}
use Rattle.ded_model.specs.Known.{heading_slots}
use Rattle.ded_model.specs.Point.{same_slot, same_sort, stands_in, AreDistinctSlots}
use Rattle.ded_model.specs.Row.{row_mentions}
use Rattle.ded_model.specs.Lines.{Line, In, line_with, put_at, renamed_coefs, renamed_lines}
use Rattle.ded_model.proofs.CoefLemmas.{equal_by_number, put-above, lesser_slot}
use Rattle.ded_model.proofs.Growth.{renamed-In}
use Rattle.ded_model.proofs.Members.{or_split}
use Rattle.ded_model.proofs.Points.{same_slot_is, same_slot_refl}
use Rattle.ded_model.proofs.Rows.{or_left, or_right}
use Rattle.ded_width.proofs.Shapes.{one_line, two_line, IsOneLine, IsTwoLine, AreShapes, single, pair_moved, moved, line_two}

-- the slots have the columns' sorts
abbrev pub HaveSorts : List Column → List Slot → Type 0
HaveSorts [] [] = Unit {0}
HaveSorts [] (s ∷ ss) = ⊥
HaveSorts (c ∷ h) [] = ⊥
HaveSorts (c ∷ h) (s ∷ ss) = (c.sort ≡ s.sort) × HaveSorts h ss

-- the lines mention slots of the columns alone
abbrev pub AreOver : List Column → List Line → Type 0
AreOver h ls = (l : Line) → In l ls → (t : Slot) → row_mentions l t ≡ true → stands_in (heading_slots 0 h) t ≡ true

-- ---- slots at places

-- the slot stands at the place
abbrev IsAt : List Slot → ℕ → Slot → Type 0
IsAt [] i y = ⊥
IsAt (s ∷ ss) zero y = s ≡ y
IsAt (s ∷ ss) (suc i) y = IsAt ss i y

put_at-there : (ss : List Slot) (i : ℕ) (y : Slot) (a : ℤ) (cs : List (Slot × ℤ)) → IsAt ss i y → y.sort ≡ Rat → put_at ss i a cs ≡ put y a cs
put_at-there [] i y a cs h r = absurd h
put_at-there (s ∷ ss) zero y a cs h r = ap (λ b. cond b (put s a cs) cs) (ap (λ x. same_sort x Rat) (ap (λ (u : Slot). u.sort) h ∙ r)) ∙ ap (λ u. put u a cs) h
put_at-there (s ∷ ss) (suc i) y a cs h r = put_at-there ss i y a cs h r

at_stands : (ss : List Slot) (i : ℕ) (y : Slot) → IsAt ss i y → stands_in ss y ≡ true
at_stands [] i y h = absurd h
at_stands (s ∷ ss) zero y h = or_left _ _ (ap (λ u. same_slot u y) h ∙ same_slot_refl y)
at_stands (s ∷ ss) (suc i) y h = or_right (same_slot s y) _ (at_stands ss i y h)

-- other places have other slots
at_other : (ss : List Slot) (i j : ℕ) (y z : Slot) → AreDistinctSlots ss → IsAt ss i y → IsAt ss j z → i ≢ j → y ≡ z → ⊥
at_other [] i j y z d h k n e = h
at_other (s ∷ ss) zero zero y z d h k n e = n refl
at_other (s ∷ ss) zero (suc j) y z d h k n e = true≢false (sym (at_stands ss j z k) ∙ ap (stands_in ss) (sym (h ∙ e)) ∙ d.0)
at_other (s ∷ ss) (suc i) zero y z d h k n e = true≢false (sym (at_stands ss i y h) ∙ ap (stands_in ss) (e ∙ sym k) ∙ d.0)
at_other (s ∷ ss) (suc i) (suc j) y z d h k n e = at_other ss i j y z d.1 h k (λ f. n (ap suc f)) e

-- a slot of the columns has one at its place
record HasAt (ss : List Slot) (i : ℕ) (t : Slot) : Type 0 where
  place : ℕ
  slot : Slot
  is : t.number ≡ i + place
  at : IsAt ss place slot
  rational : slot.sort ≡ Rat

found : (h : List Column) (ss : List Slot) (i : ℕ) (t : Slot) → HaveSorts h ss → t.sort ≡ Rat → stands_in (heading_slots i h) t ≡ true → HasAt ss i t
found [] ss i t f r e = absurd (true≢false (sym e))
found (c ∷ h) [] i t f r e = absurd f
found (c ∷ h) (s ∷ ss) i t f r e = elim (or_split (same_slot (record { number = i; sort = c.sort }) t) _ e) [
  | inl x ↦
      let same : ◌≡◌ {A = Slot} (record { number = i; sort = c.sort }) t = same_slot_is (record { number = i; sort = c.sort }) t x in
      record { place = 0; slot = s; is = number i t.number (ap (λ (u : Slot). u.number) same); at = refl; rational = sym f.0 ∙ ap (λ (u : Slot). u.sort) same ∙ r }
  | inr x ↦ let k = found h ss (i + 1) t f.1 r x in record { place = suc k.place; slot = k.slot; is = k.is ∙ next i k.place; at = k.at; rational = k.rational }
]
  where
    number : (i n : ℕ) → i ≡ n → n ≡ i + 0
    number i n e = omega arith

    next : (i j : ℕ) → i + 1 + j ≡ i + suc j
    next i j = omega arith

-- ---- lines

first_place : (n i : ℕ) → n ≡ 0 + i → n ≡ i
first_place n i e = omega arith

module _ (ps : List (ℤ × ℤ)) (h : List Column) (ss : List Slot) (distinct : AreDistinctSlots ss) (sorts : HaveSorts h ss) where
  -- of one slot
  one_renamed : (l : Line) (o : IsOneLine ps l) → ((t : Slot) → row_mentions l t ≡ true → stands_in (heading_slots 0 h) t ≡ true) → AreShapes ps (line_with (renamed_coefs ss l.coefs) l.constant)
  unfolding row_mentions
  one_renamed l o over =
      let k = found h ss 0 o.slot sorts o.rational (over o.slot (ap (λ m. row_mentions m o.slot) o.is ∙ or_left _ _ (same_slot_refl o.slot))) in
      let e : line_with (renamed_coefs ss l.coefs) l.constant ≡ one_line k.slot o.a o.c ∷ [] =
      ap (λ (m : Line). line_with (renamed_coefs ss m.coefs) m.constant) o.is
      ∙ ap (λ cs. line_with cs o.c) (ap (λ i. put_at ss i o.a []) (first_place o.slot.number k.place k.is) ∙ put_at-there ss k.place k.slot o.a [] k.at k.rational)
      ∙ ap (λ (m : Line). m ∷ []) (moved o.slot k.slot o.a o.c o.pair.normal) in
      subst (AreShapes ps) (sym e) (single ps (one_line k.slot o.a o.c) (inl (record { slot = k.slot; a = o.a; c = o.c; is = refl; rational = k.rational; pair = pair_moved ps o.slot k.slot o.a o.c o.pair })))

  -- the renamed coefficients of a line that compares two
  two_put : (y z : Slot) → y.sort ≡ Rat → z.sort ≡ Rat → (y ≡ z → ⊥) → AreShapes ps (line_with (put y (pos 1) (put z (negsuc 0) [])) (pos 0))
  two_put y z ry rz n = elim (below_or y.number z.number) [
    | inl o ↦ subst (AreShapes ps) (sym (ap (λ cs. line_with cs (pos 0)) (put-above y (pos 1) ((z, negsuc 0) ∷ []) (o, tt)) ∙ line_two y z (pos 1) (λ e. absurd (omega (arith, ints, e)))))
        (single ps (two_line y z) (inr (record { first = y; second = z; is = refl; rational = ry; other = rz; below = o })))
    | inr e ↦ elim e [
      | inl o ↦ subst (AreShapes ps) (sym (ap (λ cs. line_with cs (pos 0)) (behind o) ∙ line_two z y (negsuc 0) (λ e. absurd (omega (arith, ints, e)))))
          (single ps (two_line z y) (inr (record { first = z; second = y; is = refl; rational = rz; other = ry; below = o })))
      | inr o ↦ absurd (n (equal_by_number y z ry rz o))
    ]
  ]
    where
      below_or : (m n : ℕ) → (m < n) ⊎ ((n < m) ⊎ (m ≡ n))
      below_or m n = grind arith

      not_less : (m n : ℕ) → n < m → nat_lt m n ≡ false
      not_less m n h = grind (arith, nat_tests)

      behind : z.number < y.number → put y (pos 1) ((z, negsuc 0) ∷ []) ≡ (z, negsuc 0) ∷ (y, pos 1) ∷ []
      behind o =
          ap₂ (λ b d. cond b ((z, pos 1 +ℤ negsuc 0) ∷ []) (cond d ((y, pos 1) ∷ (z, negsuc 0) ∷ []) ((z, negsuc 0) ∷ (y, pos 1) ∷ []))) (lesser_slot z y o) (not_less y.number z.number o)

  two_renamed : (l : Line) (o : IsTwoLine l) → ((t : Slot) → row_mentions l t ≡ true → stands_in (heading_slots 0 h) t ≡ true) → AreShapes ps (line_with (renamed_coefs ss l.coefs) l.constant)
  unfolding row_mentions
  two_renamed l o over =
      let j = found h ss 0 o.first sorts o.rational (over o.first (ap (λ m. row_mentions m o.first) o.is ∙ or_left _ _ (same_slot_refl o.first))) in
      let k = found h ss 0 o.second sorts o.other (over o.second (ap (λ m. row_mentions m o.second) o.is ∙ or_right (same_slot o.first o.second) _ (or_left _ _ (same_slot_refl o.second)))) in
      let e : line_with (renamed_coefs ss l.coefs) l.constant ≡ line_with (put j.slot (pos 1) (put k.slot (negsuc 0) [])) (pos 0) =
      ap (λ (m : Line). line_with (renamed_coefs ss m.coefs) m.constant) o.is
      ∙ ap (λ cs. line_with cs (pos 0)) (ap₂ (λ a b. put_at ss a (pos 1) (put_at ss b (negsuc 0) [])) (first_place o.first.number j.place j.is) (first_place o.second.number k.place k.is)
      ∙ ap (λ cs. put_at ss j.place (pos 1) cs) (put_at-there ss k.place k.slot (negsuc 0) [] k.at k.rational)
      ∙ put_at-there ss j.place j.slot (pos 1) (put k.slot (negsuc 0) []) j.at j.rational) in
      subst (AreShapes ps) (sym e) (two_put j.slot k.slot j.rational k.rational (at_other ss j.place k.place j.slot k.slot distinct j.at k.at (apart o.first.number o.second.number j.place k.place o.below j.is k.is)))
    where
      apart : (m n i j : ℕ) → m < n → m ≡ 0 + i → n ≡ 0 + j → i ≢ j
      apart m n i j h e f g = absurd (omega (arith, h, e, f, g))

  pub renamed_shapes : (ls : List Line) → AreShapes ps ls → AreOver h ls → AreShapes ps (renamed_lines ss ls)
  renamed_shapes ls s over l i =
      let m = renamed-In ss ls l i in
      elim (s m.0 m.1) [ inl o ↦ one_renamed m.0 o (over m.0 m.1) l m.2 | inr o ↦ two_renamed m.0 o (over m.0 m.1) l m.2 ]
