-- Terms and rows that are put piece by piece.
use Rattle.std.proofs.Common.{◌≡◌, ℕ, suc, arith, ◌+◌, ◌<◌, List, [], ◌∷◌, ◌++◌, length, drop, drop-cons, get_or, refl, sym, ap, ◌∙◌, ⊎_elim, subst, Bool}
use Rattle.std.specs.Prelude.{ℤ, pos, int_lt, unsigned_abs, codes, if◌then◌else◌, ◌==◌}
use Rattle.std.proofs.lemmas.Bool.Decides.{eqb_tells}
use lib.IntN.{neg_ℤ}
use Rattle.ded_num.specs.Length.{IsShort}
use Rattle.ded_model.specs.declared.slot.Slot.{Slot}
use Rattle.ded_model.specs.declared.row.RowOp.{RowOp}
use Rattle.ded_model.specs.declared.tuple.ThemeAtom.{ThemeAtom}
use Rattle.ded_model.specs.Coefs.{AreCoefs}
use Rattle.ded_model.specs.Row.{Atom}
use Rattle.ded_print.specs.Gathering.{Output, Puts}
use Rattle.ded_print.specs.Numbers.{number_text, integer_text}
use Rattle.ded_model.specs.Quoting.{doubled, doubled_byte, quoted}
use Rattle.ded_print.specs.Tuples.{Names, term_text, sign_text, signed, later_term_text, later_terms_text, op_text, sides_text, row_with_text, unlike_sides_text, unlike_with_text, theme_text, tuple_text, atom_text, later_atoms_text}
use Rattle.ded_print.proofs.Gathering.{puts_both}

other : (m : ℕ) (x y : List ℕ) → (m ≡ 1 → ⊥) → (if m == 1 then x else y) ≡ y
other m x y more = ⊎_elim (λ e. absurd (more e.1)) (λ e. rw e.0 refl) (eqb_tells m 1)

-- a term whose coefficient's magnitude isn't 1
pub long_term : (a b : Output) (names : Names) (s : Slot) (z : ℤ) (m : ℕ) → m ≡ unsigned_abs z → (m ≡ 1 → ⊥) → Puts a b (number_text m ++ (42 ∷ names s)) → Puts a b (term_text names s z)
long_term a b names s z m is more h =
    subst (λ t. Puts a b t) (sym (other (unsigned_abs z) (names s) (number_text (unsigned_abs z) ++ (42 ∷ names s)) (λ e. more (is ∙ e))))
    (subst (λ k. Puts a b (number_text k ++ (42 ∷ names s))) is h)

pub suc_is : (n : ℕ) → n + 1 ≡ suc n
suc_is n = omega arith

-- one more of the terms after the first
pub next_term : (names : Names) (turned : Bool) (start now next : Output) (all coefs : List (Slot × ℤ)) (i : ℕ) (d : Slot × ℤ) (y : ℤ) → i < length coefs
    → ((end : Output) → Puts now end (later_terms_text names turned (drop i coefs)) → Puts start end (later_terms_text names turned all))
    → y ≡ signed turned (get_or coefs i d).1
    → Puts now next (later_term_text names (get_or coefs i d).0 y)
    → (end : Output) → Puts next end (later_terms_text names turned (drop (i + 1) coefs)) → Puts start end (later_terms_text names turned all)
next_term names turned start now next all coefs i d y there goes is put end h =
    let split : drop i coefs ≡ get_or coefs i d ∷ drop (i + 1) coefs = rw (suc_is i) (drop-cons coefs i d there) in
    goes end (subst (λ cs. Puts now end (later_terms_text names turned cs)) (sym split) (puts_both now next end _ _ (subst (λ k. Puts now next (later_term_text names (get_or coefs i d).0 k)) is put) h))

-- the sign and the term of a coefficient that was read
pub later_term : (a b c : Output) (names : Names) (s : Slot) (y z : ℤ) → y ≡ z → Puts a b (sign_text y) → Puts b c (term_text names s y) → Puts a c (later_term_text names s z)
later_term a b c names s y z is sign term = subst (λ k. Puts a c (later_term_text names s k)) is (puts_both a b c _ _ sign term)

-- what the coefficients that are left keep
kept_split : (coefs : List (Slot × ℤ)) (i : ℕ) (d : Slot × ℤ) → i < length coefs → AreCoefs (drop i coefs) → AreCoefs (get_or coefs i d ∷ drop (i + 1) coefs)
kept_split coefs i d there kept =
    let split : drop i coefs ≡ get_or coefs i d ∷ drop (i + 1) coefs = rw (suc_is i) (drop-cons coefs i d there) in
    subst AreCoefs split kept

pub rest_kept : (coefs : List (Slot × ℤ)) (i : ℕ) (d : Slot × ℤ) → i < length coefs → AreCoefs (drop i coefs) → AreCoefs (drop (i + 1) coefs)
rest_kept coefs i d there kept = (kept_split coefs i d there kept).4

pub short_here : (coefs : List (Slot × ℤ)) (i : ℕ) (d : Slot × ℤ) → i < length coefs → AreCoefs (drop i coefs) → IsShort (get_or coefs i d).1
short_here coefs i d there kept = (kept_split coefs i d there kept).1

-- a row with coefficients
pub comparison : (o0 o1 o2 o3 o4 : Output) (names : Names) (c : Slot × ℤ) (cs coefs : List (Slot × ℤ)) (op : RowOp) (constant y k : ℤ) (turned : Bool) (op_bytes : List ℕ)
    → coefs ≡ c ∷ cs → turned ≡ int_lt c.1 (pos 0) → y ≡ signed turned c.1 → k ≡ neg_ℤ (signed turned constant) → op_bytes ≡ op_text turned op
    → Puts o0 o1 (term_text names c.0 y) → Puts o1 o2 (later_terms_text names turned cs) → Puts o2 o3 op_bytes → Puts o3 o4 (integer_text k)
    → Puts o0 o4 (row_with_text names coefs op constant)
comparison o0 o1 o2 o3 o4 names c cs coefs op constant y k turned op_bytes is sign first last between term terms compared number =
    let term1 = subst (λ z. Puts o0 o1 (term_text names c.0 z)) first term in
    let compared1 = subst (λ z. Puts o2 o3 z) between compared in
    let number1 = subst (λ z. Puts o3 o4 (integer_text z)) last number in
    let whole : Puts o0 o4 (sides_text names turned c cs op constant) = puts_both o0 o1 o4 _ _ term1 (puts_both o1 o2 o4 _ _ terms (puts_both o2 o3 o4 _ _ compared1 number1)) in
    subst (λ z. Puts o0 o4 (row_with_text names z op constant)) (sym is) (subst (λ b. Puts o0 o4 (sides_text names b c cs op constant)) sign whole)

-- a row with coefficients and with `!=`
pub inequation : (o0 o1 o2 o3 o4 : Output) (names : Names) (c : Slot × ℤ) (cs coefs : List (Slot × ℤ)) (constant y k : ℤ) (turned : Bool)
    → coefs ≡ c ∷ cs → turned ≡ int_lt c.1 (pos 0) → y ≡ signed turned c.1 → k ≡ neg_ℤ (signed turned constant)
    → Puts o0 o1 (term_text names c.0 y) → Puts o1 o2 (later_terms_text names turned cs) → Puts o2 o3 (codes " != ") → Puts o3 o4 (integer_text k)
    → Puts o0 o4 (unlike_with_text names coefs constant)
inequation o0 o1 o2 o3 o4 names c cs coefs constant y k turned is sign first last term terms unlike number =
    let term1 = subst (λ z. Puts o0 o1 (term_text names c.0 z)) first term in
    let number1 = subst (λ z. Puts o3 o4 (integer_text z)) last number in
    let whole : Puts o0 o4 (unlike_sides_text names turned c cs constant) = puts_both o0 o1 o4 _ _ term1 (puts_both o1 o2 o4 _ _ terms (puts_both o2 o3 o4 _ _ unlike number1)) in
    subst (λ z. Puts o0 o4 (unlike_with_text names z constant)) (sym is) (subst (λ b. Puts o0 o4 (unlike_sides_text names b c cs constant)) sign whole)

-- a row without coefficients
pub no_sum : (a b c : Output) (names : Names) (coefs : List (Slot × ℤ)) (constant k : ℤ) → length coefs ≡ 0 → k ≡ neg_ℤ constant
    → Puts a b (codes "0 != ") → Puts b c (integer_text k) → Puts a c (unlike_with_text names coefs constant)
no_sum a b c names [] constant k none last unlike number = puts_both a b c _ _ unlike (subst (λ z. Puts b c (integer_text z)) last number)
no_sum a b c names (s ∷ coefs) constant k none last unlike number = absurd (some (length coefs) none)
  where
    some : (n : ℕ) → suc n ≡ 0 → ⊥
    some n e = omega (arith, e)

-- one more byte of a quoted text
pub next_byte : (start now next : Output) (all text : List ℕ) (i d : ℕ) → i < length text
    → ((end : Output) → Puts now end (doubled (drop i text)) → Puts start end (doubled all))
    → Puts now next (doubled_byte (get_or text i d))
    → (end : Output) → Puts next end (doubled (drop (i + 1) text)) → Puts start end (doubled all)
next_byte start now next all text i d there goes put end h =
    let split : drop i text ≡ get_or text i d ∷ drop (i + 1) text = rw (suc_is i) (drop-cons text i d there) in
    goes end (subst (λ cs. Puts now end (doubled cs)) (sym split) (puts_both now next end _ _ put h))

-- one more of the atoms after the first
pub next_atom : (names : Names) (start now next : Output) (all atoms : List Atom) (i : ℕ) (x : Atom) → i < length atoms → x ≡ get_or atoms i x
    → ((end : Output) → Puts now end (later_atoms_text names (drop i atoms)) → Puts start end (later_atoms_text names all))
    → Puts now next (codes ", " ++ atom_text names x)
    → (end : Output) → Puts next end (later_atoms_text names (drop (i + 1) atoms)) → Puts start end (later_atoms_text names all)
next_atom names start now next all atoms i x there is goes put end h =
    let split : drop i atoms ≡ get_or atoms i x ∷ drop (i + 1) atoms = rw (suc_is i) (drop-cons atoms i x there) in
    let here : drop i atoms ≡ x ∷ drop (i + 1) atoms = split ∙ ap (λ (y : Atom). y ∷ drop (i + 1) atoms) (sym is) in
    goes end (subst (λ z. Puts now end (later_atoms_text names z)) (sym here) (puts_both now next end _ _ put h))

-- a tuple with atoms
pub tupled : (a b : Output) (names : Names) (atoms : List Atom) (x : Atom) (xs : List Atom) → atoms ≡ x ∷ xs
    → Puts a b (codes "{ " ++ (atom_text names x ++ (later_atoms_text names xs ++ codes " }"))) → Puts a b (tuple_text names atoms)
tupled a b names atoms x xs is h = subst (λ z. Puts a b (tuple_text names z)) (sym is) h

-- a text atom that is known to be y
pub themed : (a b : Output) (names : Names) (x y : ThemeAtom) → x ≡ y → Puts a b (theme_text names y) → Puts a b (theme_text names x)
themed a b names x y is h = subst (λ z. Puts a b (theme_text names z)) (sym is) h

pub quoted_as : (a b : Output) (t u : List ℕ) → t ≡ u → Puts a b (quoted t) → Puts a b (quoted u)
quoted_as a b t u is h = subst (λ z. Puts a b (quoted z)) is h
