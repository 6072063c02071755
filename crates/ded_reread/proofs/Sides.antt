-- Sides of comparisons in whole numbers, and comparisons of them.
use Rattle.std.proofs.Common.{◌≡◌, ℕ, suc, ◌*◌, ◌/◌, ◌^◌, ◌<◌, List, [], ◌∷◌, ◌++◌, refl, sym, ap, ap₂, subst, ◌∙◌, inl, inr, arith, Bool, true, false, append_assoc, append-nil, true≢false}
use Rattle.std.specs.Prelude.{ℤ, pos, negsuc, int_lt, unsigned_abs, ◌==◌, ◌||◌, Some, None, if◌then◌else◌, codes}
use Rattle.std.specs.List.{AllByRecursion, list_any}
use Rattle.std.specs.Ordering.{int_eq}
use Rattle.std.proofs.Math.IntN.{+ℤ_idl}
use Rattle.std.proofs.lemmas.Bool.{or_from, eqb-true}
use Rattle.std.proofs.lemmas.Bool.Decides.{Decides-int_eq}
use Rattle.ded_num.specs.Gcd.{nat_gcd}
use Rattle.ded_num.proofs.Gcds.{nat_gcd_is}
use Rattle.std.proofs.lemmas.Nat.Gcd.{dvd_refl}
use Rattle.ded_lex.specs.Lexemes.{BeginsNot, equals_byte}
use Rattle.ded_model.specs.declared.formula.CompareOp.{CompareOp}
use Rattle.ded_model.specs.declared.formula.CompareOp.TheVariants.{Less, LessEq, Equal, NotEqual, GreaterEq, Greater}
use Rattle.ded_model.specs.declared.formula.Operand.{Operand}
use Rattle.ded_model.specs.declared.formula.Operand.TheVariants as operand
use Rattle.ded_model.specs.declared.slot.Slot.{Slot}
use Rattle.ded_model.specs.Form.{compare}
use Rattle.ded_model.specs.Logic.{atom}
use Rattle.ded_model.specs.Plain.{AreOnce}
use Rattle.ded_model.specs.Quoting.{quoted as quoted_bytes}
use Rattle.ded_print.specs.Numbers.{number_text, integer_text}
use Rattle.ded_print.specs.Tuples.{Names, term_text, later_terms_text}
use Rattle.ded_print.specs.Tuples as turning
use Rattle.ded_print.proofs.Numerals.{number_one}
use Rattle.ded_print.proofs.Signs.{plus}
use Rattle.ded_dump.specs.Comparisons.{compare_text}
use Rattle.ded_terminals.specs.Symbols.{Symbol, Relation}
use Rattle.ded_terminals.specs.Literals.{Literal, lcm, lcm_from, common, numerator_over, is_long_over, exact, marked}
use Rattle.ded_terminals.specs.Operands.{ParsedSide, spell_side, SignedFactor, Reading, quoted, named, parts, reading_of, literals, literals_of, signed, as_sum, operand_over}
use Rattle.ded_terminals.specs.Atoms.{compared}
use Rattle.ded_syntax.specs.Marks.{is_marked}
use Rattle.ded_reread.specs.Operands.{whole_sum, terms_of, left_of}
use Rattle.ded_reread.specs.ScriptWords.{IsName, IsText}
use Rattle.ded_reread.proofs.Arguments.{marked_low, not_long}
use Rattle.ded_reread.proofs.Operands.{HaveNames}
use Rattle.ded_reread.proofs.Products.{sign_codes, whole_numeral, IsProduct, any_product, scaled_product, constant_product, lone_product, AreMore, no_more, one_more, IsSide, quoted_side, named_side, sum_side, named_sum}
use Rattle.ded_reread.proofs.SumsRead.{AreRead, total_named, total_with, no_mark}
use Rattle.ded_reread.proofs.WordedAtoms.{IsWordedComparison}
use Rattle.ded_reread.proofs.Worded.{WordedBefore, Worded, Loose, Fits, Any, append, then_any, then_fitting, blank, lone_sign, open_sign}

-- ---- literals that are whole numbers

abbrev pub AreWhole : List Literal → Type 0
AreWhole = AllByRecursion (λ (l : Literal). (l.1 ≡ 1) × (l.0 < 2 ^ 63))

pub whole_append : (ls ks : List Literal) → AreWhole ls → AreWhole ks → AreWhole (ls ++ ks)
whole_append [] ks h k = k
whole_append (l ∷ ls) ks h k = (h.0, whole_append ls ks h.1 k)

one_gcd : nat_gcd 1 1 ≡ 1
one_gcd = sym (nat_gcd_is 1 1 1 (dvd_refl 1, dvd_refl 1, λ d p q. p))

one_lcm : lcm 1 1 ≡ 1
one_lcm = ap (λ (g : ℕ). 1 / g * 1) one_gcd

pub whole_common : (ls : List Literal) → AreWhole ls → common ls ≡ 1
whole_common [] h = refl
whole_common (l ∷ ls) h = ap (λ (m : ℕ). lcm_from m ls) (ap (lcm 1) h.0.0 ∙ one_lcm) ∙ whole_common ls h.1

pub whole_numerator : (l : Literal) → l.1 ≡ 1 → numerator_over 1 l ≡ l.0
whole_numerator l e = let one : l.0 * (1 / 1) ≡ l.0 = omega arith in ap (λ (d : ℕ). l.0 * (1 / d)) e ∙ one

whole_short : (ls : List Literal) → AreWhole ls → list_any (is_long_over 1) ls ≡ false
whole_short [] h = refl
whole_short (l ∷ ls) h =
    or_from (is_long_over 1 l) (list_any (is_long_over 1) ls) (not_long (numerator_over 1 l) (subst (λ (n : ℕ). n < 2 ^ 63) (sym (whole_numerator l h.0.0)) h.0.1)) (whole_short ls h.1)

-- ---- sides

pub record IsWholeSide (bytes : List ℕ) (o : Operand) : Type 0 where
  pub side : ParsedSide
  pub worded : Worded bytes (spell_side side)
  pub reading : Reading
  pub reads : reading_of (λ n. n) side ≡ reading
  pub whole : AreWhole (literals reading)
  pub means : operand_over exact 1 reading ≡ o

pub whole_side : (bytes : List ℕ) (r : Reading) (o : Operand) → IsSide bytes r → AreWhole (literals r) → operand_over exact 1 r ≡ o → IsWholeSide bytes o
whole_side bytes r o s h e = record { side = s.side; worded = s.worded; reading = r; reads = s.value; whole = h; means = e }

pub text_side : (t : List ℕ) → IsText t → IsWholeSide (quoted_bytes t) (operand.Quoted t)
text_side t h = whole_side (quoted_bytes t) (quoted t) (operand.Quoted t) (quoted_side t h) tt refl

pub name_side : (x : List ℕ) → IsName x → IsWholeSide x (operand.Single x)
name_side x h = whole_side x (named x) (operand.Single x) (named_side x h) tt refl

-- ---- relations

between : (s : List ℕ) (t : Symbol) → Loose s (t ∷ []) → Loose (32 ∷ (s ++ 32 ∷ [])) (t ∷ [])
between s t w = then_any Any (32 ∷ []) (s ++ 32 ∷ []) [] (t ∷ []) blank (then_any Any s (32 ∷ []) (t ∷ []) [] w blank)

between_open : (s : List ℕ) (t : Symbol) → WordedBefore (BeginsNot equals_byte) s (t ∷ []) → Loose (32 ∷ (s ++ 32 ∷ [])) (t ∷ [])
between_open s t w = then_any Any (32 ∷ []) (s ++ 32 ∷ []) [] (t ∷ []) blank (append (BeginsNot equals_byte) Any s (32 ∷ []) (t ∷ []) [] w (λ next k. refl) blank)

pub relation : (op : CompareOp) → Loose (compare_text op) (Relation op ∷ [])
relation Less = between_open (codes "<") (Relation Less) (open_sign (codes "<") (inr (inl refl)) refl)
relation LessEq = between (codes "<=") (Relation LessEq) (lone_sign (codes "<=") (inr (inr (inr (inr (inr (inr (inr (inr (inr (inr (inl refl))))))))))) refl)
relation Equal = between (codes "=") (Relation Equal) (lone_sign (codes "=") (inr (inr (inr (inr (inr (inl refl)))))) refl)
relation NotEqual = between (codes "!=") (Relation NotEqual) (lone_sign (codes "!=") (inr (inr (inr (inr (inr (inr (inr (inr (inr (inr (inr (inr (inl refl))))))))))))) refl)
relation GreaterEq = between (codes ">=") (Relation GreaterEq) (lone_sign (codes ">=") (inr (inr (inr (inr (inr (inr (inr (inr (inr (inr (inr (inl refl)))))))))))) refl)
relation Greater = between_open (codes ">") (Relation Greater) (open_sign (codes ">") (inr (inr (inl refl))) refl)

fits_relation : (op : CompareOp) (t : List ℕ) → Fits (compare_text op ++ t)
fits_relation Less t = refl
fits_relation LessEq t = refl
fits_relation Equal t = refl
fits_relation NotEqual t = refl
fits_relation GreaterEq t = refl
fits_relation Greater t = refl

-- ---- comparisons

compared_exact : (l r : Reading) (op : CompareOp) (x y : Operand) → AreWhole (literals l) → AreWhole (literals r) → operand_over exact 1 l ≡ x → operand_over exact 1 r ≡ y → compared exact l op r ≡ atom (compare x op y)
compared_exact l r op x y h k e f =
    ap (λ (m : ℕ). atom (compare (operand_over exact m l) op (operand_over exact m r))) (whole_common (literals l ++ literals r) (whole_append (literals l) (literals r) h k))
    ∙ ap₂ (λ (a b : Operand). atom (compare a op b)) e f

compared_marked : (l r : Reading) → AreWhole (literals l) → AreWhole (literals r) → (is_marked (operand_over marked (marked.denominator (literals l ++ literals r)) l) || is_marked (operand_over marked (marked.denominator (literals l ++ literals r)) r)) ≡ false
compared_marked l r h k =
    let ls = literals l ++ literals r in
    let w : AreWhole ls = whole_append (literals l) (literals r) h k in
    let d : marked.denominator ls ≡ 1 = marked_low ls 1 (whole_common ls w) (omega arith) (whole_short ls w) in
    ap (λ (m : ℕ). is_marked (operand_over marked m l) || is_marked (operand_over marked m r)) d
    ∙ or_from (is_marked (operand_over marked 1 l)) (is_marked (operand_over marked 1 r)) (no_mark 1 l (omega arith)) (no_mark 1 r (omega arith))

pub whole_comparison : (s t : List ℕ) (op : CompareOp) (x y : Operand) → IsWholeSide s x → IsWholeSide t y → IsWordedComparison (s ++ (compare_text op ++ t)) (compare x op y)
whole_comparison s t op x y l r = record {
  spelled = record { left = l.side; op = op; right = r.side };
  worded = then_fitting s (compare_text op ++ t) (spell_side l.side) (Relation op ∷ spell_side r.side) l.worded (fits_relation op t)
      (then_any Fits (compare_text op) t (Relation op ∷ []) (spell_side r.side) (relation op) r.worded);
  means =
      ap₂ (λ (a b : Reading). compared exact a op b) l.reads r.reads
      ∙ compared_exact l.reading r.reading op x y l.whole r.whole l.means r.means;
  unmarked =
      ap₂ (λ (a b : Reading). is_marked (operand_over marked (marked.denominator (literals a ++ literals b)) a) || is_marked (operand_over marked (marked.denominator (literals a ++ literals b)) b)) l.reads r.reads
      ∙ compared_marked l.reading r.reading l.whole r.whole;
}

-- ---- terms

abbrev whole_part : List ℕ × ℤ → SignedFactor
whole_part c = (int_lt c.1 (pos 0), ((unsigned_abs c.1, 1), Some c.0))

abbrev whole_parts : List (List ℕ × ℤ) → List SignedFactor
whole_parts [] = []
whole_parts (c ∷ cs) = whole_part c ∷ whole_parts cs

abbrev pub AreSmall : List (List ℕ × ℤ) → Type 0
AreSmall = AllByRecursion (λ (c : List ℕ × ℤ). unsigned_abs c.1 < 2 ^ 63)

term_by : (x : List ℕ) (n : ℕ) (b : Bool) → (n == 1) ≡ b → n < 2 ^ 63 → IsName x → IsProduct (if b then x else (number_text n ++ (42 ∷ x))) ((n, 1), Some x)
term_by x n true e small h = subst (λ (k : ℕ). IsProduct x ((k, 1), Some x)) (sym (eqb-true n 1 e)) (lone_product x h)
term_by x n false e small h = any_product _ _ (scaled_product (number_text n) x (n, 1) (whole_numeral n small) h)

term_product : (names : Names) (s : Slot) (z : ℤ) → unsigned_abs z < 2 ^ 63 → IsName (names s) → IsProduct (term_text names s z) ((unsigned_abs z, 1), Some (names s))
term_product names s z small h = term_by (names s) (unsigned_abs z) (unsigned_abs z == 1) refl small h

later_terms : (names : Names) (turned : Bool) (cs : List (Slot × ℤ)) → HaveNames (terms_of names turned cs) → AreSmall (terms_of names turned cs) → AreMore (later_terms_text names turned cs) (whole_parts (terms_of names turned cs))
later_terms names turned [] h small = no_more
later_terms names turned (c ∷ cs) h small =
    let z = turning.signed turned c.1 in
    subst (λ (t : List ℕ). AreMore t (whole_parts (terms_of names turned (c ∷ cs)))) (sym (append_assoc (sign_codes (int_lt z (pos 0))) (term_text names c.0 z) (later_terms_text names turned cs)))
    (one_more (int_lt z (pos 0)) (term_text names c.0 z) (later_terms_text names turned cs) ((unsigned_abs z, 1), Some (names c.0)) (whole_parts (terms_of names turned cs))
    (term_product names c.0 z small.0 h.0) (later_terms names turned cs h.1 small.1))

-- ---- what they mean

sign_back : (z : ℤ) → signed (int_lt z (pos 0)) (unsigned_abs z) ≡ z
sign_back (pos n) = ap (λ (b : Bool). signed b n) (plus n)
sign_back (negsuc n) = refl

whole_signed : (z : ℤ) → signed (int_lt z (pos 0)) (numerator_over 1 (unsigned_abs z, 1)) ≡ z
whole_signed z = ap (signed (int_lt z (pos 0))) (whole_numerator (unsigned_abs z, 1) refl) ∙ sign_back z

whole_read : (cs : List (List ℕ × ℤ)) → AreRead 1 (whole_parts cs) cs
whole_read [] = tt
whole_read (c ∷ cs) = (refl, whole_signed c.1, whole_read cs)

whole_literals : (cs : List (List ℕ × ℤ)) → AreSmall cs → AreWhole (literals_of (whole_parts cs))
whole_literals [] h = tt
whole_literals (c ∷ cs) h = ((refl, h.0), whole_literals cs h.1)

sum_means : (cs : List (List ℕ × ℤ)) → AreOnce cs → operand_over exact 1 (parts (whole_parts cs)) ≡ whole_sum cs (pos 0)
sum_means cs once = ap (as_sum 1) (total_named 1 (whole_parts cs) cs (whole_read cs) once)

-- ---- a constant

integer_side : (z : ℤ) → unsigned_abs z < 2 ^ 63 → IsSide (integer_text z) (parts ((int_lt z (pos 0), ((unsigned_abs z, 1), None)) ∷ []))
integer_side (pos n) h =
    subst (λ (b : Bool). IsSide (number_text n) (parts ((b, ((n, 1), None)) ∷ []))) (sym (plus n))
    (subst (λ (t : List ℕ). IsSide t (parts ((false, ((n, 1), None)) ∷ []))) (append-nil (number_text n))
    (sum_side false (number_text n) [] ((n, 1), None) [] (constant_product (number_text n) (n, 1) (whole_numeral n h)) no_more))
integer_side (negsuc n) h =
    subst (λ (t : List ℕ). IsSide (45 ∷ t) (parts ((true, ((suc n, 1), None)) ∷ []))) (append-nil (number_text (suc n)))
    (sum_side true (number_text (suc n)) [] ((suc n, 1), None) [] (constant_product (number_text (suc n)) (suc n, 1) (whole_numeral (suc n) h)) no_more)

pub constant_side : (z : ℤ) → unsigned_abs z < 2 ^ 63 → IsWholeSide (integer_text z) (whole_sum [] z)
constant_side z h =
    whole_side (integer_text z) (parts ((int_lt z (pos 0), ((unsigned_abs z, 1), None)) ∷ [])) (whole_sum [] z) (integer_side z h) ((refl, h), tt)
    (ap (as_sum 1) (total_with 1 [] [] (int_lt z (pos 0)) (unsigned_abs z, 1) tt tt
    ∙ ap (λ (k : ℤ). ([], k)) (+ℤ_idl (signed (int_lt z (pos 0)) (numerator_over 1 (unsigned_abs z, 1))) ∙ whole_signed z)))

pub zero_side : IsWholeSide (codes "0") (whole_sum [] (pos 0))
zero_side = subst (λ (t : List ℕ). IsWholeSide t (whole_sum [] (pos 0))) (number_one 0 (omega arith)) (constant_side (pos 0) (omega arith))

-- ---- the left side of a row

is_one : (n : ℕ) (b : Bool) → (n == 1) ≡ b → int_eq (pos n) (pos 1) ≡ b
is_one n true e = ap (λ (k : ℕ). int_eq (pos k) (pos 1)) (eqb-true n 1 e)
is_one n false e = by (int_eq (pos n) (pos 1)) refl
  where
    by : (b : Bool) → int_eq (pos n) (pos 1) ≡ b → b ≡ false
    by true f = absurd (true≢false (sym (ap (λ (k : ℕ). k == 1) (ap unsigned_abs ((Decides-int_eq (pos n) (pos 1)).0 f))) ∙ e))
    by false f = refl

one_side : (x : List ℕ) (n : ℕ) (b : Bool) → (n == 1) ≡ b → n < 2 ^ 63 → IsName x → IsWholeSide ((if b then x else (number_text n ++ (42 ∷ x))) ++ []) (if b then operand.Single x else whole_sum ((x, pos n) ∷ []) (pos 0))
one_side x n true e small h = subst (λ (t : List ℕ). IsWholeSide t (operand.Single x)) (sym (append-nil x)) (name_side x h)
one_side x n false e small h =
    let p = scaled_product (number_text n) x (n, 1) (whole_numeral n small) h in
    whole_side ((number_text n ++ (42 ∷ x)) ++ []) (parts ((false, ((n, 1), Some x)) ∷ [])) (whole_sum ((x, pos n) ∷ []) (pos 0))
    (sum_side false (number_text n ++ (42 ∷ x)) [] ((n, 1), Some x) [] p no_more) ((refl, small), tt)
    (ap (λ (b : Bool). operand_over exact 1 (parts ((b, ((n, 1), Some x)) ∷ []))) (sym (plus n)) ∙ sum_means ((x, pos n) ∷ []) (refl, tt))

many_side : (x : List ℕ) (n : ℕ) (b : Bool) (t : List ℕ) (q : SignedFactor) (ps : List SignedFactor) → (n == 1) ≡ b → n < 2 ^ 63 → IsName x → AreMore t (q ∷ ps) → IsSide ((if b then x else (number_text n ++ (42 ∷ x))) ++ t) (parts ((false, ((n, 1), Some x)) ∷ q ∷ ps))
many_side x n true t q ps e small h m = subst (λ (k : ℕ). IsSide (x ++ t) (parts ((false, ((k, 1), Some x)) ∷ q ∷ ps))) (sym (eqb-true n 1 e)) (named_sum x t q ps h m)
many_side x n false t q ps e small h m = sum_side false (number_text n ++ (42 ∷ x)) t ((n, 1), Some x) (q ∷ ps) (scaled_product (number_text n) x (n, 1) (whole_numeral n small) h) m

-- a first term that isn't negative, and later ones
left_by : (names : Names) (turned : Bool) (s : Slot) (n : ℕ) (cs : List (Slot × ℤ)) → IsName (names s) → n < 2 ^ 63 → HaveNames (terms_of names turned cs) → AreSmall (terms_of names turned cs) → AreOnce ((names s, pos n) ∷ terms_of names turned cs)
    → IsWholeSide (term_text names s (pos n) ++ later_terms_text names turned cs) (left_of ((names s, pos n) ∷ terms_of names turned cs))
left_by names turned s n [] h small more_names more_small once =
    subst (λ (b : Bool). IsWholeSide ((if n == 1 then names s else (number_text n ++ (42 ∷ names s))) ++ []) (if b then operand.Single (names s) else whole_sum ((names s, pos n) ∷ []) (pos 0))) (sym (is_one n (n == 1) refl))
    (one_side (names s) n (n == 1) refl small h)
left_by names turned s n (c ∷ cs) h small more_names more_small once =
    let ts = (names s, pos n) ∷ terms_of names turned (c ∷ cs) in
    whole_side (term_text names s (pos n) ++ later_terms_text names turned (c ∷ cs)) (parts (whole_parts ts)) (whole_sum ts (pos 0))
    (subst (λ (b : Bool). IsSide (term_text names s (pos n) ++ later_terms_text names turned (c ∷ cs)) (parts ((b, ((n, 1), Some (names s))) ∷ whole_parts (terms_of names turned (c ∷ cs))))) (sym (plus n))
    (many_side (names s) n (n == 1) (later_terms_text names turned (c ∷ cs)) (whole_part (names c.0, turning.signed turned c.1)) (whole_parts (terms_of names turned cs)) refl small h (later_terms names turned (c ∷ cs) more_names more_small)))
    (whole_literals ts (small, more_small)) (sum_means ts once)

pub left_side : (names : Names) (turned : Bool) (c : Slot × ℤ) (cs : List (Slot × ℤ)) → int_lt (turning.signed turned c.1) (pos 0) ≡ false → HaveNames (terms_of names turned (c ∷ cs)) → AreSmall (terms_of names turned (c ∷ cs)) → AreOnce (terms_of names turned (c ∷ cs))
    → IsWholeSide (term_text names c.0 (turning.signed turned c.1) ++ later_terms_text names turned cs) (left_of (terms_of names turned (c ∷ cs)))
left_side names turned c cs least h small once = by (turning.signed turned c.1) least small.0 once
  where
    by : (z : ℤ) → int_lt z (pos 0) ≡ false → unsigned_abs z < 2 ^ 63 → AreOnce ((names c.0, z) ∷ terms_of names turned cs) → IsWholeSide (term_text names c.0 z ++ later_terms_text names turned cs) (left_of ((names c.0, z) ∷ terms_of names turned cs))
    by (pos n) l k o = left_by names turned c.0 n cs h.0 k h.1 small.1 o
    by (negsuc n) l k o = absurd (true≢false l)
