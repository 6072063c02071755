-- Tuples that are written alike, with slots under their numbers, are the same.
use Rattle.std.proofs.Common.{◌≡◌, ℕ, ◌<◌, ◌⊎◌, List, [], ◌∷◌, ◌++◌, drop, inl, inr, refl, sym, ap, ap₂, ◌∙◌, subst, arith, append_assoc, Bool, true, false, true≢false}
use Rattle.std.specs.Prelude.{ℤ, pos, int_lt, unsigned_abs, ◌==◌, codes, if◌then◌else◌}
use lib.IntN.{neg_ℤ}
use Rattle.std.proofs.lemmas.Bool.{eqb-true}
use Rattle.ded_model.specs.declared.row.RowOp.{RowOp}
use Rattle.ded_model.specs.declared.row.RowOp.TheVariants.{Zero, AtMost, Below}
use Rattle.ded_model.specs.declared.slot.Slot.{Slot}
use Rattle.ded_model.specs.declared.tuple.ThemeAtom.{ThemeAtom}
use Rattle.ded_model.specs.declared.tuple.ThemeAtom.TheVariants.{EqText, NeText, EqSlot, NeSlot}
use Rattle.ded_model.specs.declared.tuple.BothAtom.TheVariants.{First, Second}
use Rattle.ded_model.specs.Normal.{IsNormalTheme, IsNormalAtom, IsNormalTuple, first_slot}
use Rattle.ded_model.specs.Quoting.{doubled_byte, doubled, quoted}
use Rattle.ded_model.specs.Row.{Atom}
use Rattle.ded_model.proofs.SlotLists.{slot_same_parts}
use Rattle.ded_print.specs.Numbers.{number_text, integer_text}
use Rattle.ded_print.specs.Tuples.{slot_names, term_text, signed, later_terms_text, op_text, sides_text, row_with_text, theme_text, atom_text, later_atoms_text, tuple_text}
use Rattle.ded_print.proofs.Runs.{tails, first, Ends, Digit, number_first, integer_first, same_slots, ends_at}
use Rattle.ded_print.proofs.RowsTold.{ends_blank, laters_blank, laters_sign, op_stops, flat, same_rows}

-- ---- quoted texts

no_quote : (b : ℕ) → (b == 39) ≡ false → b ≡ 39 → ⊥
no_quote b h e = true≢false (sym (ap (λ n. n == 39) e) ∙ h)

same_byte : (p q : Bool) (a b : ℕ) (l m : List ℕ) → (a == 39) ≡ p → (b == 39) ≡ q → (if p then 39 ∷ 39 ∷ [] else a ∷ []) ++ l ≡ (if q then 39 ∷ 39 ∷ [] else b ∷ []) ++ m → (a ≡ b) × (l ≡ m)
same_byte true true a b l m ep eq e = (eqb-true a 39 ep ∙ sym (eqb-true b 39 eq), ap (drop 2) e)
same_byte true false a b l m ep eq e = absurd (no_quote b eq (sym (ap first e)))
same_byte false true a b l m ep eq e = absurd (no_quote a ep (ap first e))
same_byte false false a b l m ep eq e = ((tails e).0, (tails e).1)

-- the quote that ends a text isn't followed by another
quote_ends : (p : Bool) (b : ℕ) (xs l : List ℕ) → (b == 39) ≡ p → (first xs ≡ 39 → ⊥) → 39 ∷ xs ≡ (if p then 39 ∷ 39 ∷ [] else b ∷ []) ++ l → ⊥
quote_ends true b xs l ep h e = h (ap first (tails e).1)
quote_ends false b xs l ep h e = no_quote b ep (sym (ap first e))

byte_more : (b : ℕ) (t xs : List ℕ) → (doubled (b ∷ t) ++ 39 ∷ []) ++ xs ≡ doubled_byte b ++ ((doubled t ++ 39 ∷ []) ++ xs)
byte_more b t xs = ap (λ l. l ++ xs) (append_assoc (doubled_byte b) (doubled t) (39 ∷ [])) ∙ append_assoc (doubled_byte b) (doubled t ++ 39 ∷ []) xs

same_inside : (t u xs ys : List ℕ) → (first xs ≡ 39 → ⊥) → (first ys ≡ 39 → ⊥) → (doubled t ++ 39 ∷ []) ++ xs ≡ (doubled u ++ 39 ∷ []) ++ ys → (t ≡ u) × (xs ≡ ys)
same_inside [] [] xs ys hx hy e = (refl, (tails e).1)
same_inside [] (b ∷ u) xs ys hx hy e = absurd (quote_ends (b == 39) b xs ((doubled u ++ 39 ∷ []) ++ ys) refl hx (e ∙ byte_more b u ys))
same_inside (a ∷ t) [] xs ys hx hy e = absurd (quote_ends (a == 39) a ys ((doubled t ++ 39 ∷ []) ++ xs) refl hy (sym e ∙ byte_more a t xs))
same_inside (a ∷ t) (b ∷ u) xs ys hx hy e =
    let r = same_byte (a == 39) (b == 39) a b ((doubled t ++ 39 ∷ []) ++ xs) ((doubled u ++ 39 ∷ []) ++ ys) refl refl (sym (byte_more a t xs) ∙ e ∙ byte_more b u ys) in
    let m = same_inside t u xs ys hx hy r.1 in
    (ap₂ (λ (x : ℕ) (l : List ℕ). x ∷ l) r.0 m.0, m.1)

same_quoted : (t u xs ys : List ℕ) → (first xs ≡ 39 → ⊥) → (first ys ≡ 39 → ⊥) → quoted t ++ xs ≡ quoted u ++ ys → (t ≡ u) × (xs ≡ ys)
same_quoted t u xs ys hx hy e = same_inside t u xs ys hx hy (tails e).1

-- ---- text atoms

-- what follows an atom: a comma or a blank
pub record IsBehind (xs : List ℕ) : Type 0 where
  pub digits : Ends Digit xs
  pub quote : first xs ≡ 39 → ⊥

pub behind_at : (b : ℕ) (xs : List ℕ) → first xs ≡ b → (b ≡ 44) ⊎ (b ≡ 32) → IsBehind xs
behind_at b xs e (inl c) = record { digits = ends_at b xs e (λ d. omega (arith, d.0, c)); quote = λ f. omega (arith, e, f, c) }
behind_at b xs e (inr c) = record { digits = ends_at b xs e (λ d. omega (arith, d.0, c)); quote = λ f. omega (arith, e, f, c) }

-- what stands behind the first slot
abbrev theme_tail : ThemeAtom → List ℕ
theme_tail (EqText s t) = codes " = " ++ quoted t
theme_tail (NeText s t) = codes " != " ++ quoted t
theme_tail (EqSlot s t) = codes " = " ++ slot_names t
theme_tail (NeSlot s t) = codes " != " ++ slot_names t

theme_split : (a : ThemeAtom) (xs : List ℕ) → theme_text slot_names a ++ xs ≡ slot_names (first_slot a) ++ (theme_tail a ++ xs)
theme_split (EqText s t) xs = append_assoc (slot_names s) (codes " = " ++ quoted t) xs
theme_split (NeText s t) xs = append_assoc (slot_names s) (codes " != " ++ quoted t) xs
theme_split (EqSlot s t) xs = append_assoc (slot_names s) (codes " = " ++ slot_names t) xs
theme_split (NeSlot s t) xs = append_assoc (slot_names s) (codes " != " ++ slot_names t) xs

tail_ends : (a : ThemeAtom) (xs : List ℕ) → Ends Digit (theme_tail a ++ xs)
tail_ends (EqText s t) xs = λ d. omega (arith, d.0)
tail_ends (NeText s t) xs = λ d. omega (arith, d.0)
tail_ends (EqSlot s t) xs = λ d. omega (arith, d.0)
tail_ends (NeSlot s t) xs = λ d. omega (arith, d.0)

-- the first slots, and what stands behind them
same_fronts : (a b : ThemeAtom) (xs ys : List ℕ) → theme_text slot_names a ++ xs ≡ theme_text slot_names b ++ ys → ((first_slot a).number ≡ (first_slot b).number) × (theme_tail a ++ xs ≡ theme_tail b ++ ys)
same_fronts a b xs ys e = same_slots (first_slot a) (first_slot b) (theme_tail a ++ xs) (theme_tail b ++ ys) (tail_ends a xs) (tail_ends b ys) (sym (theme_split a xs) ∙ e ∙ theme_split b ys)

pub same_themes : (a b : ThemeAtom) (xs ys : List ℕ) → IsNormalTheme a → IsNormalTheme b → IsBehind xs → IsBehind ys → theme_text slot_names a ++ xs ≡ theme_text slot_names b ++ ys → (a ≡ b) × (xs ≡ ys)
same_themes (EqText s t) (EqText u w) xs ys h k hx hy e =
    let f = same_fronts (EqText s t) (EqText u w) xs ys e in
    let r = same_quoted t w xs ys hx.quote hy.quote (ap (drop 3) f.1) in
    (ap₂ EqText (slot_same_parts s u f.0 (h.0 ∙ sym k.0)) r.0, r.1)
same_themes (EqText s t) (NeText u w) xs ys h k hx hy e = absurd (omega (arith, ap (λ (l : List ℕ). first (drop 1 l)) (same_fronts (EqText s t) (NeText u w) xs ys e).1))
same_themes (EqText s t) (EqSlot u w) xs ys h k hx hy e = absurd (omega (arith, ap (λ (l : List ℕ). first (drop 3 l)) (same_fronts (EqText s t) (EqSlot u w) xs ys e).1))
same_themes (EqText s t) (NeSlot u w) xs ys h k hx hy e = absurd (omega (arith, ap (λ (l : List ℕ). first (drop 1 l)) (same_fronts (EqText s t) (NeSlot u w) xs ys e).1))
same_themes (NeText s t) (EqText u w) xs ys h k hx hy e = absurd (omega (arith, ap (λ (l : List ℕ). first (drop 1 l)) (same_fronts (NeText s t) (EqText u w) xs ys e).1))
same_themes (NeText s t) (NeText u w) xs ys h k hx hy e =
    let f = same_fronts (NeText s t) (NeText u w) xs ys e in
    let r = same_quoted t w xs ys hx.quote hy.quote (ap (drop 4) f.1) in
    (ap₂ NeText (slot_same_parts s u f.0 (h.0 ∙ sym k.0)) r.0, r.1)
same_themes (NeText s t) (EqSlot u w) xs ys h k hx hy e = absurd (omega (arith, ap (λ (l : List ℕ). first (drop 1 l)) (same_fronts (NeText s t) (EqSlot u w) xs ys e).1))
same_themes (NeText s t) (NeSlot u w) xs ys h k hx hy e = absurd (omega (arith, ap (λ (l : List ℕ). first (drop 4 l)) (same_fronts (NeText s t) (NeSlot u w) xs ys e).1))
same_themes (EqSlot s t) (EqText u w) xs ys h k hx hy e = absurd (omega (arith, ap (λ (l : List ℕ). first (drop 3 l)) (same_fronts (EqSlot s t) (EqText u w) xs ys e).1))
same_themes (EqSlot s t) (NeText u w) xs ys h k hx hy e = absurd (omega (arith, ap (λ (l : List ℕ). first (drop 1 l)) (same_fronts (EqSlot s t) (NeText u w) xs ys e).1))
same_themes (EqSlot s t) (EqSlot u w) xs ys h k hx hy e =
    let f = same_fronts (EqSlot s t) (EqSlot u w) xs ys e in
    let r = same_slots t w xs ys hx.digits hy.digits (ap (drop 3) f.1) in
    (ap₂ EqSlot (slot_same_parts s u f.0 (h.0 ∙ sym k.0)) (slot_same_parts t w r.0 (h.1 ∙ sym k.1)), r.1)
same_themes (EqSlot s t) (NeSlot u w) xs ys h k hx hy e = absurd (omega (arith, ap (λ (l : List ℕ). first (drop 1 l)) (same_fronts (EqSlot s t) (NeSlot u w) xs ys e).1))
same_themes (NeSlot s t) (EqText u w) xs ys h k hx hy e = absurd (omega (arith, ap (λ (l : List ℕ). first (drop 1 l)) (same_fronts (NeSlot s t) (EqText u w) xs ys e).1))
same_themes (NeSlot s t) (NeText u w) xs ys h k hx hy e = absurd (omega (arith, ap (λ (l : List ℕ). first (drop 4 l)) (same_fronts (NeSlot s t) (NeText u w) xs ys e).1))
same_themes (NeSlot s t) (EqSlot u w) xs ys h k hx hy e = absurd (omega (arith, ap (λ (l : List ℕ). first (drop 1 l)) (same_fronts (NeSlot s t) (EqSlot u w) xs ys e).1))
same_themes (NeSlot s t) (NeSlot u w) xs ys h k hx hy e =
    let f = same_fronts (NeSlot s t) (NeSlot u w) xs ys e in
    let r = same_slots t w xs ys hx.digits hy.digits (ap (drop 4) f.1) in
    (ap₂ NeSlot (slot_same_parts s u f.0 (h.0 ∙ sym k.0)) (slot_same_parts t w r.0 (h.1 ∙ sym k.1)), r.1)

-- ---- a row is no text atom

tail_second : (a : ThemeAtom) (ys : List ℕ) → (first (drop 1 (theme_tail a ++ ys)) ≡ 61) ⊎ (first (drop 1 (theme_tail a ++ ys)) ≡ 33)
tail_second (EqText s t) ys = inl refl
tail_second (NeText s t) ys = inr refl
tail_second (EqSlot s t) ys = inl refl
tail_second (NeSlot s t) ys = inr refl

op_no_tail : (p : Bool) (o : RowOp) (z : ℤ) (a : ThemeAtom) (xs ys : List ℕ) → op_text p o ++ (integer_text z ++ xs) ≡ theme_tail a ++ ys → ⊥
op_no_tail p Zero z (EqText s t) xs ys e = let i = integer_first z xs in omega (arith, i.0, i.1, ap (λ (l : List ℕ). first (drop 3 l)) e)
op_no_tail p Zero z (NeText s t) xs ys e = omega (arith, ap (λ (l : List ℕ). first (drop 1 l)) e)
op_no_tail p Zero z (EqSlot s t) xs ys e = let i = integer_first z xs in omega (arith, i.0, i.1, ap (λ (l : List ℕ). first (drop 3 l)) e)
op_no_tail p Zero z (NeSlot s t) xs ys e = omega (arith, ap (λ (l : List ℕ). first (drop 1 l)) e)
op_no_tail false AtMost z (EqText s t) xs ys e = omega (arith, ap (λ (l : List ℕ). first (drop 1 l)) e)
op_no_tail false AtMost z (NeText s t) xs ys e = omega (arith, ap (λ (l : List ℕ). first (drop 1 l)) e)
op_no_tail false AtMost z (EqSlot s t) xs ys e = omega (arith, ap (λ (l : List ℕ). first (drop 1 l)) e)
op_no_tail false AtMost z (NeSlot s t) xs ys e = omega (arith, ap (λ (l : List ℕ). first (drop 1 l)) e)
op_no_tail true AtMost z (EqText s t) xs ys e = omega (arith, ap (λ (l : List ℕ). first (drop 1 l)) e)
op_no_tail true AtMost z (NeText s t) xs ys e = omega (arith, ap (λ (l : List ℕ). first (drop 1 l)) e)
op_no_tail true AtMost z (EqSlot s t) xs ys e = omega (arith, ap (λ (l : List ℕ). first (drop 1 l)) e)
op_no_tail true AtMost z (NeSlot s t) xs ys e = omega (arith, ap (λ (l : List ℕ). first (drop 1 l)) e)
op_no_tail false Below z (EqText s t) xs ys e = omega (arith, ap (λ (l : List ℕ). first (drop 1 l)) e)
op_no_tail false Below z (NeText s t) xs ys e = omega (arith, ap (λ (l : List ℕ). first (drop 1 l)) e)
op_no_tail false Below z (EqSlot s t) xs ys e = omega (arith, ap (λ (l : List ℕ). first (drop 1 l)) e)
op_no_tail false Below z (NeSlot s t) xs ys e = omega (arith, ap (λ (l : List ℕ). first (drop 1 l)) e)
op_no_tail true Below z (EqText s t) xs ys e = omega (arith, ap (λ (l : List ℕ). first (drop 1 l)) e)
op_no_tail true Below z (NeText s t) xs ys e = omega (arith, ap (λ (l : List ℕ). first (drop 1 l)) e)
op_no_tail true Below z (EqSlot s t) xs ys e = omega (arith, ap (λ (l : List ℕ). first (drop 1 l)) e)
op_no_tail true Below z (NeSlot s t) xs ys e = omega (arith, ap (λ (l : List ℕ). first (drop 1 l)) e)

laters_no_tail : (p : Bool) (cs : List (Slot × ℤ)) (o : RowOp) (z : ℤ) (a : ThemeAtom) (xs ys : List ℕ) → later_terms_text slot_names p cs ++ (op_text p o ++ (integer_text z ++ xs)) ≡ theme_tail a ++ ys → ⊥
laters_no_tail p [] o z a xs ys e = op_no_tail p o z a xs ys e
laters_no_tail p (c ∷ cs) o z a xs ys e =
    let s = laters_sign p c cs (op_text p o ++ (integer_text z ++ xs)) in
    let f = ap (λ (l : List ℕ). first (drop 1 l)) e in
    elim (tail_second a ys) [ inl x ↦ omega (arith, s.1, f, x) | inr x ↦ omega (arith, s.0, f, x) ]

term_no_slot : (t : Bool) (m : ℕ) (s u : Slot) (l k : List ℕ) → Ends Digit l → Ends Digit k → (if t then slot_names s else (number_text m ++ (42 ∷ slot_names s))) ++ l ≡ slot_names u ++ k → l ≡ k
term_no_slot true m s u l k hl hk e = (same_slots s u l k hl hk e).1
term_no_slot false m s u l k hl hk e = let d = number_first m ((42 ∷ slot_names s) ++ l) in absurd (omega (arith, d.1, ap first (sym (append_assoc (number_text m) (42 ∷ slot_names s) l) ∙ e)))

sides_no_theme : (p : Bool) (c : Slot × ℤ) (cs : List (Slot × ℤ)) (o : RowOp) (k : ℤ) (a : ThemeAtom) (xs ys : List ℕ) → sides_text slot_names p c cs o k ++ xs ≡ theme_text slot_names a ++ ys → ⊥
sides_no_theme p c cs o k a xs ys e =
    let x : ℤ = signed p c.1 in
    let z : ℤ = neg_ℤ (signed p k) in
    let ending = op_text p o ++ (integer_text z ++ xs) in
    let more = later_terms_text slot_names p cs ++ ending in
    laters_no_tail p cs o z a xs ys
    (term_no_slot (unsigned_abs x == 1) (unsigned_abs x) c.0 (first_slot a) more (theme_tail a ++ ys) (ends_blank more (laters_blank p cs ending (op_stops p o (integer_text z ++ xs)).blank)) (tail_ends a ys)
    (sym (flat (term_text slot_names c.0 x) (later_terms_text slot_names p cs) (op_text p o) (integer_text z) xs) ∙ e ∙ theme_split a ys))

row_no_theme : (cs : List (Slot × ℤ)) (o : RowOp) (k : ℤ) (a : ThemeAtom) (xs ys : List ℕ) → row_with_text slot_names cs o k ++ xs ≡ theme_text slot_names a ++ ys → ⊥
row_no_theme [] o k a xs ys e = omega (arith, ap first (e ∙ theme_split a ys))
row_no_theme (c ∷ cs) o k a xs ys e = sides_no_theme (int_lt c.1 (pos 0)) c cs o k a xs ys e

-- ---- atoms and tuples

pub same_atoms : (a b : Atom) (xs ys : List ℕ) → IsNormalAtom a → IsNormalAtom b → IsBehind xs → IsBehind ys → atom_text slot_names a ++ xs ≡ atom_text slot_names b ++ ys → (a ≡ b) × (xs ≡ ys)
same_atoms (First r) (First q) xs ys h k hx hy e = let s = same_rows r q xs ys h k hx.digits hy.digits e in (ap First s.0, s.1)
same_atoms (First r) (Second b) xs ys h k hx hy e = absurd (row_no_theme r.coefs r.op r.constant b xs ys e)
same_atoms (Second a) (First q) xs ys h k hx hy e = absurd (row_no_theme q.coefs q.op q.constant a ys xs (sym e))
same_atoms (Second a) (Second b) xs ys h k hx hy e = let s = same_themes a b xs ys h k hx hy e in (ap Second s.0, s.1)

later_behind : (ts : List Atom) → IsBehind (later_atoms_text slot_names ts ++ codes " }")
later_behind [] = behind_at 32 _ refl (inr refl)
later_behind (a ∷ ts) = behind_at 44 _ refl (inl refl)

same_later_atoms : (ts us : List Atom) → IsNormalTuple ts → IsNormalTuple us → later_atoms_text slot_names ts ++ codes " }" ≡ later_atoms_text slot_names us ++ codes " }" → ts ≡ us
same_later_atoms [] [] h k e = refl
same_later_atoms [] (b ∷ us) h k e = absurd (omega (arith, ap first e))
same_later_atoms (a ∷ ts) [] h k e = absurd (omega (arith, ap first e))
same_later_atoms (a ∷ ts) (b ∷ us) h k e =
    let s = same_atoms a b (later_atoms_text slot_names ts ++ codes " }") (later_atoms_text slot_names us ++ codes " }") h.0 k.0 (later_behind ts) (later_behind us)
    (sym (append_assoc (atom_text slot_names a) (later_atoms_text slot_names ts) (codes " }")) ∙ ap (drop 2) e ∙ append_assoc (atom_text slot_names b) (later_atoms_text slot_names us) (codes " }")) in
    ap₂ (λ (x : Atom) (l : List Atom). x ∷ l) s.0 (same_later_atoms ts us h.2 k.2 s.1)

term_first : (t : Bool) (m : ℕ) (s : Slot) (l : List ℕ) → first ((if t then slot_names s else (number_text m ++ (42 ∷ slot_names s))) ++ l) < 119
term_first true m s l = omega arith
term_first false m s l = let d = number_first m ((42 ∷ slot_names s) ++ l) in subst (λ x. first x < 119) (sym (append_assoc (number_text m) (42 ∷ slot_names s) l)) (omega (arith, d.1))

row_first : (cs : List (Slot × ℤ)) (o : RowOp) (k : ℤ) (xs : List ℕ) → first (row_with_text slot_names cs o k ++ xs) < 119
row_first [] o k xs = omega arith
row_first (c ∷ cs) o k xs =
    let p : Bool = int_lt c.1 (pos 0) in
    let x : ℤ = signed p c.1 in
    let more = later_terms_text slot_names p cs ++ (op_text p o ++ integer_text (neg_ℤ (signed p k))) in
    subst (λ l. first l < 119) (sym (append_assoc (term_text slot_names c.0 x) more xs)) (term_first (unsigned_abs x == 1) (unsigned_abs x) c.0 (more ++ xs))

-- no atom begins with a brace
atom_first : (a : Atom) (xs : List ℕ) → first (atom_text slot_names a ++ xs) < 119
atom_first (First r) xs = row_first r.coefs r.op r.constant xs
atom_first (Second a) xs = subst (λ l. first l < 119) (sym (theme_split a xs)) (omega arith)

brace_no_atom : (a : Atom) (xs : List ℕ) → 125 ∷ [] ≡ atom_text slot_names a ++ xs → ⊥
brace_no_atom a xs e = let h = atom_first a xs in omega (arith, h, ap first e)

pub same_tuples : (t u : List Atom) → IsNormalTuple t → IsNormalTuple u → tuple_text slot_names t ≡ tuple_text slot_names u → t ≡ u
same_tuples [] [] h k e = refl
same_tuples [] (b ∷ us) h k e = absurd (brace_no_atom b (later_atoms_text slot_names us ++ codes " }") (ap (drop 2) e))
same_tuples (a ∷ ts) [] h k e = absurd (brace_no_atom a (later_atoms_text slot_names ts ++ codes " }") (sym (ap (drop 2) e)))
same_tuples (a ∷ ts) (b ∷ us) h k e =
    let s = same_atoms a b (later_atoms_text slot_names ts ++ codes " }") (later_atoms_text slot_names us ++ codes " }") h.0 k.0 (later_behind ts) (later_behind us) (ap (drop 2) e) in
    ap₂ (λ (x : Atom) (l : List Atom). x ∷ l) s.0 (same_later_atoms ts us h.2 k.2 s.1)
