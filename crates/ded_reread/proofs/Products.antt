-- Numerals, products and sums as they are worded.
use Rattle.std.proofs.Common.{◌≡◌, ℕ, ◌/◌, ◌^◌, ◌<◌, List, [], ◌∷◌, ◌++◌, refl, sym, ap, ap₂, subst, ◌∙◌, inl, inr, arith, Bool, true, false, append_assoc, append-nil}
use Rattle.std.specs.Prelude.{◌==◌, Option, Some, None, if◌then◌else◌, codes}
use Rattle.std.proofs.lemmas.Bool.{eqb-true}
use Rattle.std.proofs.lemmas.Bool.Decides.{nat_tests}
use Rattle.ded_num.specs.Gcd.{nat_gcd}
use Rattle.ded_lex.specs.Lexemes.{digit_byte, BeginsWith, BeginsNot, dash_byte}
use Rattle.ded_model.specs.Quoting.{quoted as quoted_bytes}
use Rattle.ded_print.specs.Numbers.{number_text}
use Rattle.ded_terminals.specs.Symbols.{Name, Number, Slash, Plus, Minus, Times}
use Rattle.ded_terminals.specs.Literals.{Scalar, whole, quotient, spell_scalar, Literal, literal, lowest}
use Rattle.ded_terminals.specs.Operands.{Product, scaled, constant, lone, ParsedSide, text, sum, spell_product, spell_sign, spell_more, spell_side, Factor, factor, SignedFactor, add_factor, add_all, Reading, quoted, named, parts, as_reading, single, reading_of}
use Rattle.ded_reread.specs.ScriptWords.{IsName, IsText}
use Rattle.ded_reread.proofs.Digits.{number_worded, number_back, number_begins, some_number}
use Rattle.ded_reread.proofs.Worded.{Worded, Loose, Fits, Any, append, then_fitting, then_any, nothing, blank, dash, lone_sign, name, quoted_text}

-- ---- signs

pub slash : Loose (47 ∷ []) (Slash ∷ [])
slash = lone_sign (codes "/") (inr (inr (inr (inr (inr (inr (inr (inr (inl refl))))))))) refl

pub times : Loose (42 ∷ []) (Times ∷ [])
times = lone_sign (codes "*") (inr (inr (inr (inr (inr (inr (inr (inl refl)))))))) refl

plus : Loose (43 ∷ []) (Plus ∷ [])
plus = lone_sign (codes "+") (inr (inr (inr (inr (inr (inr (inl refl))))))) refl

abbrev pub sign_codes : Bool → List ℕ
sign_codes b = if b then codes " - " else codes " + "

pub sign_between : (minus : Bool) → Loose (sign_codes minus) (spell_sign minus ∷ [])
sign_between true = then_any Any (32 ∷ []) (45 ∷ 32 ∷ []) [] (Minus ∷ []) blank (append (BeginsNot dash_byte) Any (45 ∷ []) (32 ∷ []) (Minus ∷ []) [] dash (λ next k. refl) blank)
sign_between false = then_any Any (32 ∷ []) (43 ∷ 32 ∷ []) [] (Plus ∷ []) blank (then_any Any (43 ∷ []) (32 ∷ []) (Plus ∷ []) [] plus blank)

fits_sign : (minus : Bool) (t : List ℕ) → Fits (sign_codes minus ++ t)
fits_sign true t = refl
fits_sign false t = refl

-- ---- numerals

-- the text is worded as a number or a quotient of this value
pub record IsNumeral (bytes : List ℕ) (l : Literal) : Type 0 where
  pub scalar : Scalar
  pub worded : Worded bytes (spell_scalar scalar)
  pub value : literal (λ n. n) scalar ≡ l
  pub begins : BeginsWith digit_byte bytes

begins_on : (s t : List ℕ) → BeginsWith digit_byte s → BeginsWith digit_byte (s ++ t)
begins_on [] t h = absurd h
begins_on (b ∷ s) t h = h

pub whole_numeral : (n : ℕ) → n < 2 ^ 63 → IsNumeral (number_text n) (n, 1)
whole_numeral n h = record {
  scalar = whole (number_text n);
  worded = number_worded n h;
  value = ap (λ (k : ℕ). (k, 1)) (number_back n);
  begins = number_begins n;
}

lowest_same : (n d : ℕ) → nat_gcd n d ≡ 1 → lowest n d ≡ (n, d)
lowest_same n d e =
    let a : n / 1 ≡ n = omega arith in
    let b : d / 1 ≡ d = omega arith in
    ap (λ (g : ℕ). (n / g, d / g)) e ∙ ap₂ (λ (x y : ℕ). (x, y)) a b

pub quotient_numeral : (n d : ℕ) → 0 < d → nat_gcd n d ≡ 1 → n < 2 ^ 63 → d < 2 ^ 63 → IsNumeral (number_text n ++ (47 ∷ number_text d)) (n, d)
quotient_numeral n d some apart small_n small_d = record {
  scalar = quotient (number_text n) (number_text d) (some_number d some);
  worded = then_fitting (number_text n) (47 ∷ number_text d) (Number (number_text n) ∷ []) (Slash ∷ Number (number_text d) ∷ []) (number_worded n small_n) refl
      (then_any Fits (47 ∷ []) (number_text d) (Slash ∷ []) (Number (number_text d) ∷ []) slash (number_worded d small_d));
  value = ap₂ lowest (number_back n) (number_back d) ∙ lowest_same n d apart;
  begins = begins_on (number_text n) (47 ∷ number_text d) (number_begins n);
}

pub numeral_by : (n d : ℕ) (b : Bool) → (d == 1) ≡ b → 0 < d → nat_gcd n d ≡ 1 → n < 2 ^ 63 → d < 2 ^ 63 → IsNumeral (if b then number_text n else number_text n ++ (47 ∷ number_text d)) (n, d)
numeral_by n d true e some apart small_n small_d = subst (λ (k : ℕ). IsNumeral (number_text n) (n, k)) (sym (eqb-true d 1 e)) (whole_numeral n small_n)
numeral_by n d false e some apart small_n small_d = quotient_numeral n d some apart small_n small_d

-- ---- products

abbrev pub IsScaled : Product → Type 0
IsScaled (scaled s n) = Unit {0}
IsScaled (constant s) = Unit {0}
IsScaled (lone n) = ⊥

pub record IsProduct (bytes : List ℕ) (f : Factor) : Type 0 where
  pub product : Product
  pub worded : Worded bytes (spell_product product)
  pub value : factor (λ n. n) product ≡ f

-- one that begins with a numeral
pub record IsMultiple (bytes : List ℕ) (f : Factor) : Type 0 where
  pub product : Product
  pub worded : Worded bytes (spell_product product)
  pub value : factor (λ n. n) product ≡ f
  pub many : IsScaled product
  pub begins : BeginsWith digit_byte bytes

pub any_product : (bytes : List ℕ) (f : Factor) → IsMultiple bytes f → IsProduct bytes f
any_product bytes f p = record { product = p.product; worded = p.worded; value = p.value }

pub scaled_product : (s x : List ℕ) (l : Literal) → IsNumeral s l → IsName x → IsMultiple (s ++ (42 ∷ x)) (l, Some x)
scaled_product s x l n h = record {
  product = scaled n.scalar x;
  worded = then_fitting s (42 ∷ x) (spell_scalar n.scalar) (Times ∷ Name x ∷ []) n.worded refl (then_any Fits (42 ∷ []) x (Times ∷ []) (Name x ∷ []) times (name x h));
  value = ap (λ (k : Literal). (k, Some x)) n.value;
  many = tt;
  begins = begins_on s (42 ∷ x) n.begins;
}

pub constant_product : (s : List ℕ) (l : Literal) → IsNumeral s l → IsMultiple s (l, None)
constant_product s l n = record { product = constant n.scalar; worded = n.worded; value = ap (λ (k : Literal). (k, None)) n.value; many = tt; begins = n.begins }

pub lone_product : (x : List ℕ) → IsName x → IsProduct x ((1, 1), Some x)
lone_product x h = record { product = lone x; worded = name x h; value = refl }

-- ---- later products

pub record AreMore (bytes : List ℕ) (ps : List SignedFactor) : Type 0 where
  pub more : List (Bool × Product)
  pub worded : Worded bytes (spell_more more)
  pub fits : Fits bytes
  pub value : (a : List SignedFactor) → add_all (λ n. n) a more ≡ a ++ ps

pub no_more : AreMore [] []
no_more = record { more = []; worded = nothing Fits; fits = tt; value = λ a. sym (append-nil a) }

pub one_more : (minus : Bool) (s t : List ℕ) (f : Factor) (ps : List SignedFactor) → IsProduct s f → AreMore t ps → AreMore (sign_codes minus ++ (s ++ t)) ((minus, f) ∷ ps)
one_more minus s t f ps p m = record {
  more = (minus, p.product) ∷ m.more;
  worded = then_any Fits (sign_codes minus) (s ++ t) (spell_sign minus ∷ []) (spell_product p.product ++ spell_more m.more) (sign_between minus)
      (then_fitting s t (spell_product p.product) (spell_more m.more) p.worded m.fits m.worded);
  fits = fits_sign minus (s ++ t);
  value = λ a.
      m.value (add_factor a minus (factor (λ n. n) p.product))
      ∙ ap (λ (g : Factor). (a ++ (minus, g) ∷ []) ++ ps) p.value
      ∙ append_assoc a ((minus, f) ∷ []) ps;
}

-- ---- sides

pub record IsSide (bytes : List ℕ) (r : Reading) : Type 0 where
  pub side : ParsedSide
  pub worded : Worded bytes (spell_side side)
  pub value : reading_of (λ n. n) side ≡ r

pub quoted_side : (t : List ℕ) → IsText t → IsSide (quoted_bytes t) (quoted t)
quoted_side t h = record { side = text t; worded = quoted_text t h; value = refl }

pub named_side : (x : List ℕ) → IsName x → IsSide x (named x)
named_side x h = record { side = sum false (lone x) []; worded = name x h; value = refl }

not_single : (minus : Bool) (p : Product) (more : List (Bool × Product)) → IsScaled p → single (sum minus p more) ≡ None
not_single true p more h = refl
not_single false (scaled s n) more h = refl
not_single false (constant s) more h = refl
not_single false (lone n) more h = absurd h

sum_value : (minus : Bool) (p : Product) (more : List (Bool × Product)) (f : Factor) (ps : List SignedFactor) → single (sum minus p more) ≡ None → factor (λ n. n) p ≡ f → ((a : List SignedFactor) → add_all (λ n. n) a more ≡ a ++ ps)
    → reading_of (λ n. n) (sum minus p more) ≡ parts ((minus, f) ∷ ps)
sum_value minus p more f ps none e v =
    ap (λ (o : Option (List ℕ)). as_reading o (add_all (λ n. n) (add_factor [] minus (factor (λ n. n) p)) more)) none
    ∙ ap parts (v (add_factor [] minus (factor (λ n. n) p)))
    ∙ ap (λ (g : Factor). parts ((minus, g) ∷ ps)) e

pub digit_no_dash : (s next : List ℕ) → BeginsWith digit_byte s → BeginsNot dash_byte (s ++ next)
digit_no_dash [] next h = absurd h
digit_no_dash (b ∷ s) next h = no_dash b h
  where
    no_dash : (b : ℕ) → digit_byte b ≡ true → dash_byte b ≡ false
    no_dash b h = grind (arith, nat_tests)

abbrev pub dash_codes : Bool → List ℕ
dash_codes b = if b then 45 ∷ [] else []

pub sum_side : (minus : Bool) (s t : List ℕ) (f : Factor) (ps : List SignedFactor) → IsMultiple s f → AreMore t ps → IsSide (dash_codes minus ++ (s ++ t)) (parts ((minus, f) ∷ ps))
sum_side true s t f ps p m = record {
  side = sum true p.product m.more;
  worded = append (BeginsNot dash_byte) Fits (45 ∷ []) (s ++ t) (Minus ∷ []) (spell_product p.product ++ spell_more m.more) dash
      (λ next k. digit_no_dash (s ++ t) next (begins_on s t p.begins))
      (then_fitting s t (spell_product p.product) (spell_more m.more) p.worded m.fits m.worded);
  value = sum_value true p.product m.more f ps (not_single true p.product m.more p.many) p.value m.value;
}
sum_side false s t f ps p m = record {
  side = sum false p.product m.more;
  worded = then_fitting s t (spell_product p.product) (spell_more m.more) p.worded m.fits m.worded;
  value = sum_value false p.product m.more f ps (not_single false p.product m.more p.many) p.value m.value;
}

not_alone : (x : List ℕ) (more : List (Bool × Product)) (q : SignedFactor) (ps : List SignedFactor) → ((a : List SignedFactor) → add_all (λ n. n) a more ≡ a ++ q ∷ ps) → single (sum false (lone x) more) ≡ None
not_alone x [] q ps v = absurd (nothing_is q ps (v []))
  where
    nothing_is : (q : SignedFactor) (ps : List SignedFactor) → [] ≡ q ∷ ps → ⊥
    nothing_is q ps e = cc
not_alone x (p ∷ more) q ps v = refl

-- a name, and more
pub named_sum : (x t : List ℕ) (q : SignedFactor) (ps : List SignedFactor) → IsName x → AreMore t (q ∷ ps) → IsSide (x ++ t) (parts ((false, ((1, 1), Some x)) ∷ q ∷ ps))
named_sum x t q ps h m = record {
  side = sum false (lone x) m.more;
  worded = then_fitting x t (Name x ∷ []) (spell_more m.more) (name x h) m.fits m.worded;
  value = sum_value false (lone x) m.more ((1, 1), Some x) (q ∷ ps) (not_alone x m.more q ps m.value) refl m.value;
}
