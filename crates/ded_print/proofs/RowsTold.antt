-- Rows that are written alike, with slots under their numbers, are the same.
use Rattle.std.proofs.Common.{◌≡◌, ℕ, ◌<◌, ◌⊎◌, List, [], ◌∷◌, ◌++◌, drop, inl, inr, refl, sym, ap, ap₂, ◌∙◌, subst, arith, append_assoc, Bool, true, false, true≢false}
use Rattle.std.specs.Prelude.{ℤ, pos, int_lt, unsigned_abs, ◌==◌, codes, if◌then◌else◌}
use lib.IntN.{neg_ℤ}
use Rattle.std.proofs.lemmas.Bool.{eqb-true}
use Rattle.ded_model.specs.declared.row.RowOp.{RowOp}
use Rattle.ded_model.specs.declared.row.RowOp.TheVariants.{Zero, AtMost, Below}
use Rattle.ded_model.specs.declared.slot.Slot.{Slot}
use Rattle.ded_model.specs.declared.slot.Sort.{Sort}
use Rattle.ded_model.specs.Coefs.{AreCoefs}
use Rattle.ded_model.specs.Constraint.{LinearConstraint}
use Rattle.ded_model.specs.Normal.{IsNormalRow, normal_row, constant_row, is_true_row}
use Rattle.ded_model.specs.Row.{sign_meets}
use Rattle.ded_model.proofs.SlotLists.{slot_same_parts}
use Rattle.ded_print.specs.Numbers.{number_text, integer_text}
use Rattle.ded_print.specs.Tuples.{slot_names, term_text, later_term_text, signed, later_terms_text, op_text, sides_text, row_with_text, row_text}
use Rattle.ded_print.proofs.Runs.{tails, first, Ends, Digit, same_run, number_run, number_first, same_numbers, same_integers, same_slots, ends_at}
use Rattle.ded_print.proofs.Signs.{same_signed, turned_abs, same_neg, same_turned, turned_if}

-- ---- terms

-- what follows in a row begins with a blank
pub ends_blank : (xs : List ℕ) → first xs ≡ 32 → Ends Digit xs
ends_blank xs e = ends_at 32 xs e (λ d. omega (arith, d.0))

same_factor : (m n : ℕ) (s t : Slot) (xs ys : List ℕ) (p q : Bool) → (m == 1) ≡ p → (n == 1) ≡ q → Ends Digit xs → Ends Digit ys
    → (if p then slot_names s else (number_text m ++ (42 ∷ slot_names s))) ++ xs ≡ (if q then slot_names t else (number_text n ++ (42 ∷ slot_names t))) ++ ys → (s.number ≡ t.number) × (m ≡ n) × (xs ≡ ys)
same_factor m n s t xs ys true true ep eq hx hy e = let r = same_slots s t xs ys hx hy e in (r.0, eqb-true m 1 ep ∙ sym (eqb-true n 1 eq), r.1)
same_factor m n s t xs ys true false ep eq hx hy e =
    let d = number_first n ((42 ∷ slot_names t) ++ ys) in absurd (omega (arith, d.1, ap first (e ∙ append_assoc (number_text n) (42 ∷ slot_names t) ys)))
same_factor m n s t xs ys false true ep eq hx hy e =
    let d = number_first m ((42 ∷ slot_names s) ++ xs) in absurd (omega (arith, d.1, ap first (sym (append_assoc (number_text m) (42 ∷ slot_names s) xs) ∙ e)))
same_factor m n s t xs ys false false ep eq hx hy e =
    let r = same_numbers m n ((42 ∷ slot_names s) ++ xs) ((42 ∷ slot_names t) ++ ys) (λ d. omega (arith, d.0)) (λ d. omega (arith, d.0)) (sym (append_assoc (number_text m) (42 ∷ slot_names s) xs) ∙ e ∙ append_assoc (number_text n) (42 ∷ slot_names t) ys) in
    let u = same_slots s t xs ys hx hy (tails r.1).1 in
    (u.0, r.0, u.1)

pub same_term : (s t : Slot) (a b : ℤ) (xs ys : List ℕ) → Ends Digit xs → Ends Digit ys → term_text slot_names s a ++ xs ≡ term_text slot_names t b ++ ys → (s.number ≡ t.number) × (unsigned_abs a ≡ unsigned_abs b) × (xs ≡ ys)
same_term s t a b xs ys hx hy e = same_factor (unsigned_abs a) (unsigned_abs b) s t xs ys (unsigned_abs a == 1) (unsigned_abs b == 1) refl refl hx hy e

-- ---- later terms

same_after_sign : (p q : Bool) (s t : Slot) (a b : ℤ) (xs ys : List ℕ) → int_lt a (pos 0) ≡ p → int_lt b (pos 0) ≡ q → Ends Digit xs → Ends Digit ys
    → ((if p then codes " - " else codes " + ") ++ term_text slot_names s a) ++ xs ≡ ((if q then codes " - " else codes " + ") ++ term_text slot_names t b) ++ ys → (s.number ≡ t.number) × (a ≡ b) × (xs ≡ ys)
same_after_sign true true s t a b xs ys ep eq hx hy e = let r = same_term s t a b xs ys hx hy (ap (drop 3) e) in (r.0, same_signed a b r.1 (ep ∙ sym eq), r.2)
same_after_sign true false s t a b xs ys ep eq hx hy e = absurd (omega (arith, ap (λ (l : List ℕ). first (drop 1 l)) e))
same_after_sign false true s t a b xs ys ep eq hx hy e = absurd (omega (arith, ap (λ (l : List ℕ). first (drop 1 l)) e))
same_after_sign false false s t a b xs ys ep eq hx hy e = let r = same_term s t a b xs ys hx hy (ap (drop 3) e) in (r.0, same_signed a b r.1 (ep ∙ sym eq), r.2)

pub same_later : (s t : Slot) (a b : ℤ) (xs ys : List ℕ) → Ends Digit xs → Ends Digit ys → later_term_text slot_names s a ++ xs ≡ later_term_text slot_names t b ++ ys → (s.number ≡ t.number) × (a ≡ b) × (xs ≡ ys)
same_later s t a b xs ys hx hy e = same_after_sign (int_lt a (pos 0)) (int_lt b (pos 0)) s t a b xs ys refl refl hx hy e

-- the same slots by number, with the same numbers as they are written
abbrev pub AreAlike : Bool → Bool → List (Slot × ℤ) → List (Slot × ℤ) → Type 0
AreAlike p q [] [] = Unit {0}
AreAlike p q [] (d ∷ ds) = ⊥
AreAlike p q (c ∷ cs) [] = ⊥
AreAlike p q (c ∷ cs) (d ∷ ds) = (c.0.number ≡ d.0.number) × (signed p c.1 ≡ signed q d.1) × AreAlike p q cs ds

-- a blank, and then the first byte of an op
pub record Stops (xs : List ℕ) : Type 0 where
  pub blank : first xs ≡ 32
  pub op : 59 < first (drop 1 xs)

sign_first : (t : Bool) (l m ys : List ℕ) → (first ((((if t then codes " - " else codes " + ") ++ l) ++ m) ++ ys) ≡ 32) × (42 < first (drop 1 ((((if t then codes " - " else codes " + ") ++ l) ++ m) ++ ys))) × (first (drop 1 ((((if t then codes " - " else codes " + ") ++ l) ++ m) ++ ys)) < 46)
sign_first true l m ys = (refl, omega arith, omega arith)
sign_first false l m ys = (refl, omega arith, omega arith)

pub laters_blank : (p : Bool) (cs : List (Slot × ℤ)) (xs : List ℕ) → first xs ≡ 32 → first (later_terms_text slot_names p cs ++ xs) ≡ 32
laters_blank p [] xs h = h
laters_blank p (c ∷ cs) xs h = (sign_first (int_lt (signed p c.1) (pos 0)) (term_text slot_names c.0 (signed p c.1)) (later_terms_text slot_names p cs) xs).0

pub laters_sign : (p : Bool) (c : Slot × ℤ) (cs : List (Slot × ℤ)) (xs : List ℕ) → (42 < first (drop 1 (later_terms_text slot_names p (c ∷ cs) ++ xs))) × (first (drop 1 (later_terms_text slot_names p (c ∷ cs) ++ xs)) < 46)
laters_sign p c cs xs = let s = sign_first (int_lt (signed p c.1) (pos 0)) (term_text slot_names c.0 (signed p c.1)) (later_terms_text slot_names p cs) xs in (s.1, s.2)

op_or_sign : (xs ys : List ℕ) → 59 < first (drop 1 xs) → first (drop 1 ys) < 46 → xs ≡ ys → ⊥
op_or_sign xs ys h k e = let f = ap (λ (l : List ℕ). first (drop 1 l)) e in omega (arith, h, k, f)

pub same_laters : (p q : Bool) (cs ds : List (Slot × ℤ)) (xs ys : List ℕ) → Stops xs → Stops ys → later_terms_text slot_names p cs ++ xs ≡ later_terms_text slot_names q ds ++ ys → AreAlike p q cs ds × (xs ≡ ys)
same_laters p q [] [] xs ys hx hy e = (tt, e)
same_laters p q [] (d ∷ ds) xs ys hx hy e = absurd (op_or_sign xs (later_terms_text slot_names q (d ∷ ds) ++ ys) hx.op (laters_sign q d ds ys).1 e)
same_laters p q (c ∷ cs) [] xs ys hx hy e = absurd (op_or_sign ys (later_terms_text slot_names p (c ∷ cs) ++ xs) hy.op (laters_sign p c cs xs).1 (sym e))
same_laters p q (c ∷ cs) (d ∷ ds) xs ys hx hy e =
    let rest = later_terms_text slot_names p cs ++ xs in
    let other = later_terms_text slot_names q ds ++ ys in
    let r = same_later c.0 d.0 (signed p c.1) (signed q d.1) rest other (ends_blank rest (laters_blank p cs xs hx.blank)) (ends_blank other (laters_blank q ds ys hy.blank))
    (sym (append_assoc (later_term_text slot_names c.0 (signed p c.1)) (later_terms_text slot_names p cs) xs) ∙ e ∙ append_assoc (later_term_text slot_names d.0 (signed q d.1)) (later_terms_text slot_names q ds) ys) in
    let m = same_laters p q cs ds xs ys hx hy r.2 in
    ((r.0, r.1, m.0), m.1)

-- ---- ops

pub op_stops : (p : Bool) (o : RowOp) (xs : List ℕ) → Stops (op_text p o ++ xs)
op_stops p Zero xs = record { blank = refl; op = omega arith }
op_stops false AtMost xs = record { blank = refl; op = omega arith }
op_stops true AtMost xs = record { blank = refl; op = omega arith }
op_stops false Below xs = record { blank = refl; op = omega arith }
op_stops true Below xs = record { blank = refl; op = omega arith }

-- the op, and for an inequality whether the signs are turned
pub same_ops : (p q : Bool) (o r : RowOp) (xs ys : List ℕ) → op_text p o ++ xs ≡ op_text q r ++ ys → (o ≡ r) × ((o ≡ Zero) ⊎ (p ≡ q)) × (xs ≡ ys)
same_ops p q Zero Zero xs ys e = (refl, inl refl, ap (drop 3) e)
same_ops p false Zero AtMost xs ys e = absurd (omega (arith, ap (λ (l : List ℕ). first (drop 1 l)) e))
same_ops p true Zero AtMost xs ys e = absurd (omega (arith, ap (λ (l : List ℕ). first (drop 1 l)) e))
same_ops p false Zero Below xs ys e = absurd (omega (arith, ap (λ (l : List ℕ). first (drop 1 l)) e))
same_ops p true Zero Below xs ys e = absurd (omega (arith, ap (λ (l : List ℕ). first (drop 1 l)) e))
same_ops false q AtMost Zero xs ys e = absurd (omega (arith, ap (λ (l : List ℕ). first (drop 1 l)) e))
same_ops false false AtMost AtMost xs ys e = (refl, inr refl, ap (drop 4) e)
same_ops false true AtMost AtMost xs ys e = absurd (omega (arith, ap (λ (l : List ℕ). first (drop 1 l)) e))
same_ops false false AtMost Below xs ys e = absurd (omega (arith, ap (λ (l : List ℕ). first (drop 2 l)) e))
same_ops false true AtMost Below xs ys e = absurd (omega (arith, ap (λ (l : List ℕ). first (drop 1 l)) e))
same_ops true q AtMost Zero xs ys e = absurd (omega (arith, ap (λ (l : List ℕ). first (drop 1 l)) e))
same_ops true false AtMost AtMost xs ys e = absurd (omega (arith, ap (λ (l : List ℕ). first (drop 1 l)) e))
same_ops true true AtMost AtMost xs ys e = (refl, inr refl, ap (drop 4) e)
same_ops true false AtMost Below xs ys e = absurd (omega (arith, ap (λ (l : List ℕ). first (drop 1 l)) e))
same_ops true true AtMost Below xs ys e = absurd (omega (arith, ap (λ (l : List ℕ). first (drop 2 l)) e))
same_ops false q Below Zero xs ys e = absurd (omega (arith, ap (λ (l : List ℕ). first (drop 1 l)) e))
same_ops false false Below AtMost xs ys e = absurd (omega (arith, ap (λ (l : List ℕ). first (drop 2 l)) e))
same_ops false true Below AtMost xs ys e = absurd (omega (arith, ap (λ (l : List ℕ). first (drop 1 l)) e))
same_ops false false Below Below xs ys e = (refl, inr refl, ap (drop 3) e)
same_ops false true Below Below xs ys e = absurd (omega (arith, ap (λ (l : List ℕ). first (drop 1 l)) e))
same_ops true q Below Zero xs ys e = absurd (omega (arith, ap (λ (l : List ℕ). first (drop 1 l)) e))
same_ops true false Below AtMost xs ys e = absurd (omega (arith, ap (λ (l : List ℕ). first (drop 1 l)) e))
same_ops true true Below AtMost xs ys e = absurd (omega (arith, ap (λ (l : List ℕ). first (drop 2 l)) e))
same_ops true false Below Below xs ys e = absurd (omega (arith, ap (λ (l : List ℕ). first (drop 1 l)) e))
same_ops true true Below Below xs ys e = (refl, inr refl, ap (drop 3) e)

-- ---- rows

-- what is told of two rows with coefficients that are written alike
pub record AreSides (p q : Bool) (c d : Slot × ℤ) (cs ds : List (Slot × ℤ)) (o r : RowOp) (k j : ℤ) (xs ys : List ℕ) : Type 0 where
  pub slot : c.0.number ≡ d.0.number
  pub factor : unsigned_abs (signed p c.1) ≡ unsigned_abs (signed q d.1)
  pub more : AreAlike p q cs ds
  pub op : o ≡ r
  pub turned : (o ≡ Zero) ⊎ (p ≡ q)
  pub constant : neg_ℤ (signed p k) ≡ neg_ℤ (signed q j)
  pub rest : xs ≡ ys

pub flat : (a b c d xs : List ℕ) → (a ++ (b ++ (c ++ d))) ++ xs ≡ a ++ (b ++ (c ++ (d ++ xs)))
flat a b c d xs = append_assoc a (b ++ (c ++ d)) xs ∙ ap (λ l. a ++ l) (append_assoc b (c ++ d) xs ∙ ap (λ l. b ++ l) (append_assoc c d xs))

pub same_sides : (p q : Bool) (c d : Slot × ℤ) (cs ds : List (Slot × ℤ)) (o r : RowOp) (k j : ℤ) (xs ys : List ℕ) → Ends Digit xs → Ends Digit ys
    → sides_text slot_names p c cs o k ++ xs ≡ sides_text slot_names q d ds r j ++ ys → AreSides p q c d cs ds o r k j xs ys
same_sides p q c d cs ds o r k j xs ys hx hy e =
    let term = term_text slot_names c.0 (signed p c.1) in
    let term2 = term_text slot_names d.0 (signed q d.1) in
    let number = integer_text (neg_ℤ (signed p k)) in
    let number2 = integer_text (neg_ℤ (signed q j)) in
    let ending = op_text p o ++ (number ++ xs) in
    let ending2 = op_text q r ++ (number2 ++ ys) in
    let stops = op_stops p o (number ++ xs) in
    let stops2 = op_stops q r (number2 ++ ys) in
    let a = same_term c.0 d.0 (signed p c.1) (signed q d.1) (later_terms_text slot_names p cs ++ ending) (later_terms_text slot_names q ds ++ ending2)
    (ends_blank (later_terms_text slot_names p cs ++ ending) (laters_blank p cs ending stops.blank)) (ends_blank (later_terms_text slot_names q ds ++ ending2) (laters_blank q ds ending2 stops2.blank))
    (sym (flat term (later_terms_text slot_names p cs) (op_text p o) number xs) ∙ e ∙ flat term2 (later_terms_text slot_names q ds) (op_text q r) number2 ys) in
    let b = same_laters p q cs ds ending ending2 stops stops2 a.2 in
    let f = same_ops p q o r (number ++ xs) (number2 ++ ys) b.1 in
    let g = same_integers (neg_ℤ (signed p k)) (neg_ℤ (signed q j)) xs ys hx hy f.2 in
    record { slot = a.0; factor = a.1; more = b.0; op = f.0; turned = f.1; constant = g.0; rest = g.1 }

-- ---- normal rows

abbrev pub slot_of : ℕ → Sort → Slot
slot_of n s = record { number = n; sort = s }

pub same_coefs : (p : Bool) (cs ds : List (Slot × ℤ)) → AreCoefs cs → AreCoefs ds → AreAlike p p cs ds → cs ≡ ds
same_coefs p [] [] h k e = refl
same_coefs p [] (d ∷ ds) h k e = absurd e
same_coefs p (c ∷ cs) [] h k e = absurd e
same_coefs p (c ∷ cs) (d ∷ ds) h k e =
    ap₂ (λ (x : Slot × ℤ) (l : List (Slot × ℤ)). x ∷ l) (ap₂ (λ (s : Slot) (z : ℤ). (s, z)) (slot_same_parts c.0 d.0 e.0 (h.0 ∙ sym k.0)) (same_turned p c.1 d.1 e.1)) (same_coefs p cs ds h.4 k.4 e.2)

-- a row without coefficients that isn't true
empty_row : (o : RowOp) (k : ℤ) → IsNormalRow (record { coefs = []; constant = k; op = o }) → is_true_row (record { coefs = []; constant = k; op = o }) ≡ false → record { coefs = []; constant = k; op = o } ≡ constant_row false
unfolding normal_row
empty_row o k n t = by (sign_meets o k) n.normal
  where
    by : (b : Bool) → constant_row b ≡ record { coefs = []; constant = k; op = o } → record { coefs = []; constant = k; op = o } ≡ constant_row false
    by true e = absurd (true≢false (ap is_true_row e ∙ t))
    by false e = sym e

zero_no_term : (t : Bool) (n : ℕ) (s : Slot) (l m : List ℕ) → 48 ∷ 32 ∷ l ≡ (if t then slot_names s else (number_text n ++ (42 ∷ slot_names s))) ++ m → ⊥
zero_no_term true n s l m e = absurd (omega (arith, ap first e))
zero_no_term false n s l m e =
    let r = same_run Digit (48 ∷ []) (number_text n) (32 ∷ l) ((42 ∷ slot_names s) ++ m) ((omega arith, omega arith), tt) (number_run n) (λ d. omega (arith, d.0)) (λ d. omega (arith, d.0)) (e ∙ append_assoc (number_text n) (42 ∷ slot_names s) m) in
    absurd (omega (arith, ap first r.1))

zero_no_sides : (q : Bool) (d : Slot × ℤ) (ds : List (Slot × ℤ)) (r : RowOp) (j : ℤ) (xs ys : List ℕ) → codes "0 < 0" ++ xs ≡ sides_text slot_names q d ds r j ++ ys → ⊥
zero_no_sides q d ds r j xs ys e =
    let more = later_terms_text slot_names q ds ++ (op_text q r ++ integer_text (neg_ℤ (signed q j))) in
    let z : ℤ = signed q d.1 in
    zero_no_term (unsigned_abs z == 1) (unsigned_abs z) d.0 _ (more ++ ys) (e ∙ append_assoc (term_text slot_names d.0 z) more ys)

row_parts : List (Slot × ℤ) → ℤ → RowOp → LinearConstraint
row_parts cs k o = record { coefs = cs; constant = k; op = o }

turned_alike : (c d : Slot × ℤ) (cs ds : List (Slot × ℤ)) (o r : RowOp) (k j : ℤ) (xs ys : List ℕ) → AreCoefs (c ∷ cs) → AreCoefs (d ∷ ds) → IsNormalRow (record { coefs = c ∷ cs; constant = k; op = o }) → IsNormalRow (record { coefs = d ∷ ds; constant = j; op = r })
    → AreSides (int_lt c.1 (pos 0)) (int_lt d.1 (pos 0)) c d cs ds o r k j xs ys → int_lt c.1 (pos 0) ≡ int_lt d.1 (pos 0)
turned_alike c d cs ds o r k j xs ys hc hd nc nd s = elim s.turned [
  | inl z ↦ turned_if o k c cs hc.2 nc z ∙ sym (turned_if r j d ds hd.2 nd (sym s.op ∙ z))
  | inr e ↦ e
]

same_parts : (cs ds : List (Slot × ℤ)) (o r : RowOp) (k j : ℤ) (xs ys : List ℕ) → AreCoefs cs → AreCoefs ds → IsNormalRow (record { coefs = cs; constant = k; op = o }) → IsNormalRow (record { coefs = ds; constant = j; op = r })
    → is_true_row (record { coefs = cs; constant = k; op = o }) ≡ false → is_true_row (record { coefs = ds; constant = j; op = r }) ≡ false → Ends Digit xs → Ends Digit ys
    → row_with_text slot_names cs o k ++ xs ≡ row_with_text slot_names ds r j ++ ys → (row_parts cs k o ≡ row_parts ds j r) × (xs ≡ ys)
unfolding row_parts
same_parts [] [] o r k j xs ys hc hd nc nd tc td hx hy e = (empty_row o k nc tc ∙ sym (empty_row r j nd td), ap (drop 5) e)
same_parts [] (d ∷ ds) o r k j xs ys hc hd nc nd tc td hx hy e = absurd (zero_no_sides (int_lt d.1 (pos 0)) d ds r j xs ys e)
same_parts (c ∷ cs) [] o r k j xs ys hc hd nc nd tc td hx hy e = absurd (zero_no_sides (int_lt c.1 (pos 0)) c cs o k ys xs (sym e))
same_parts (c ∷ cs) (d ∷ ds) o r k j xs ys hc hd nc nd tc td hx hy e =
    let p : Bool = int_lt c.1 (pos 0) in
    let q : Bool = int_lt d.1 (pos 0) in
    let s = same_sides p q c d cs ds o r k j xs ys hx hy e in
    let pq : p ≡ q = turned_alike c d cs ds o r k j xs ys hc hd nc nd s in
    let one : c ≡ d = ap₂ (λ (u : Slot) (z : ℤ). (u, z)) (slot_same_parts c.0 d.0 s.slot (hc.0 ∙ sym hd.0)) (same_signed c.1 d.1 (sym (turned_abs p c.1) ∙ s.factor ∙ turned_abs q d.1) pq) in
    let more : cs ≡ ds = same_coefs p cs ds hc.4 hd.4 (subst (λ x. AreAlike p x cs ds) (sym pq) s.more) in
    let number : k ≡ j = same_turned p k j (same_neg (signed p k) (signed p j) (s.constant ∙ ap (λ x. neg_ℤ (signed x j)) (sym pq))) in
    (ap₂ (λ (l : List (Slot × ℤ)) (z : ℤ). row_parts l z o) (ap₂ (λ (x : Slot × ℤ) (l : List (Slot × ℤ)). x ∷ l) one more) number ∙ ap (row_parts (d ∷ ds) j) s.op, s.rest)

-- normal rows that aren't true
pub same_rows : (a b : LinearConstraint) (xs ys : List ℕ) → AreCoefs a.coefs × IsNormalRow a × (is_true_row a ≡ false) → AreCoefs b.coefs × IsNormalRow b × (is_true_row b ≡ false) → Ends Digit xs → Ends Digit ys
    → row_text slot_names a ++ xs ≡ row_text slot_names b ++ ys → (a ≡ b) × (xs ≡ ys)
unfolding row_parts
same_rows a b xs ys h k hx hy e = same_parts a.coefs b.coefs a.op b.op a.constant b.constant xs ys h.0 k.0 h.1 k.1 h.2 k.2 hx hy e
