-- The grammar of operands: quoted texts, names, and sums.
use Rattle.std.specs.Prelude.{ℕ, ℤ, pos, ◌+ℤ◌, Bool, true, false, List, [], ◌∷◌, ◌++◌, map, Option, Some, None, if◌then◌else◌}
use lib.IntN.{neg_ℤ}
use Rattle.std.specs.Str.{bytes_eq}
use Rattle.ded_model.specs.declared.formula.Operand.{Operand}
use Rattle.ded_model.specs.declared.formula.Operand.TheVariants as operand
use Rattle.ded_terminals.specs.Symbols.{Symbol, Name, Quoted, Plus, Minus, Times}
use Rattle.ded_terminals.specs.Literals.{Scalar, spell_scalar, Literal, literal, Reader}

-- product = scalar [ "*" name ] | name
pub data Product : Type 0 where
  scaled : Scalar → List ℕ → Product
  constant : Scalar → Product
  lone : List ℕ → Product

-- operand = text | sum
-- sum = [ "-" ] product ( ( "+" | "-" ) product )*
-- A product with true is taken away.
pub data ParsedSide : Type 0 where
  text : List ℕ → ParsedSide
  sum : Bool → Product → List (Bool × Product) → ParsedSide

-- ---- how they are spelled

-- the symbols of a product
abbrev pub spell_product : Product → List Symbol
spell_product (scaled s n) = spell_scalar s ++ Times ∷ Name n ∷ []
spell_product (constant s) = spell_scalar s
spell_product (lone n) = Name n ∷ []

-- the sign before a product, - where it is taken away and else +
abbrev pub spell_sign : Bool → Symbol
spell_sign true = Minus
spell_sign false = Plus

-- the symbols of further products, each with its sign before it
abbrev pub spell_more : List (Bool × Product) → List Symbol
spell_more [] = []
spell_more (p ∷ ps) = spell_sign p.0 ∷ spell_product p.1 ++ spell_more ps

-- the symbols of a side or operand
abbrev pub spell_side : ParsedSide → List Symbol
spell_side (text s) = Quoted s ∷ []
spell_side (sum true p ps) = Minus ∷ spell_product p ++ spell_more ps
spell_side (sum false p ps) = spell_product p ++ spell_more ps

-- ---- what is read of them

-- a literal, and the name that it multiplies
abbrev pub Factor : Type 0
Factor = Literal × Option (List ℕ)

-- what is read of a product: its literal, which is 1 for a name alone, and the name that it multiplies, if it has one
abbrev pub factor : (ℕ → ℕ) → Product → Factor
factor read (scaled s n) = (literal read s, Some n)
factor read (constant s) = (literal read s, None)
factor read (lone n) = ((1, 1), Some n)

-- a factor, which is taken away or not
abbrev pub SignedFactor : Type 0
SignedFactor = Bool × Factor

-- the parts so far, with one more behind them
abbrev pub add_factor : List SignedFactor → Bool → Factor → List SignedFactor
add_factor a minus f = a ++ (minus, f) ∷ []

-- the parts so far, with those of further products behind them
abbrev pub add_all : (ℕ → ℕ) → List SignedFactor → List (Bool × Product) → List SignedFactor
add_all read a [] = a
add_all read a (p ∷ ps) = add_all read (add_factor a p.0 (factor read p.1)) ps

-- a text, a name alone, or the parts of a sum
pub data Reading : Type 0 where
  quoted : List ℕ → Reading
  named : List ℕ → Reading
  parts : List SignedFactor → Reading

-- a sum that is one name without a sign is that name
abbrev pub as_reading : Option (List ℕ) → List SignedFactor → Reading
as_reading (Some n) a = named n
as_reading None a = parts a

-- the name that the side is, where it is one name without a sign
abbrev pub single : ParsedSide → Option (List ℕ)
single (sum false (lone n) []) = Some n
single s = None

-- what is read of a side, where numbers are read by the function
abbrev pub reading_of : (ℕ → ℕ) → ParsedSide → Reading
reading_of read (text s) = quoted s
reading_of read (sum minus p ps) = as_reading (single (sum minus p ps)) (add_all read (add_factor [] minus (factor read p)) ps)

-- ---- what they mean

-- the literals of parts, in order
abbrev pub literals_of : List SignedFactor → List Literal
literals_of ps = map (λ p. p.1.0) ps

-- the literals of what is read of a side; a text and a name alone have none
abbrev pub literals : Reading → List Literal
literals (quoted t) = []
literals (named n) = []
literals (parts ps) = literals_of ps

-- coefficients in order of first occurrence, and the constant
abbrev pub Sums : Type 0
Sums = List (List ℕ × ℤ) × ℤ

-- the number, with the sign - where the flag is true
abbrev pub signed : Bool → ℕ → ℤ
signed true n = neg_ℤ (pos n)
signed false n = pos n

-- z more at the name
abbrev pub put : List (List ℕ × ℤ) → List ℕ → ℤ → List (List ℕ × ℤ)
put [] n z = (n, z) ∷ []
put (p ∷ ps) n z = if bytes_eq p.0 n then (p.0, p.1 +ℤ z) ∷ ps else p ∷ put ps n z

-- so much more, at the name or in the constant
abbrev pub put_at : Sums → Option (List ℕ) → ℤ → Sums
put_at a None z = (a.0, a.1 +ℤ z)
put_at a (Some n) z = (put a.0 n z, a.1)

-- no coefficients, and the constant 0
abbrev pub no_sums : Sums
no_sums = ([], pos 0)

-- with one part more, over m
abbrev pub added : (ℕ → Literal → ℕ) → ℕ → Sums → SignedFactor → Sums
added numerator m a p = put_at a p.1.1 (signed p.0 (numerator m p.1.0))

-- the parts are added up over m
abbrev pub total_from : (ℕ → Literal → ℕ) → ℕ → Sums → List SignedFactor → Sums
total_from numerator m a [] = a
total_from numerator m a (p ∷ ps) = total_from numerator m (added numerator m a p) ps

-- the sum over m as an operand
abbrev pub as_sum : ℕ → Sums → Operand
as_sum m a = operand.Sum (record { parts = a.0; constant = a.1; over = pos m })

-- what is read, over m
abbrev pub operand_over : Reader → ℕ → Reading → Operand
operand_over value m (quoted t) = operand.Quoted t
operand_over value m (named n) = operand.Single n
operand_over value m (parts ps) = as_sum m (total_from value.numerator m no_sums ps)

-- both sides of a comparison are over what all their literals are over
abbrev pub denominator_of : Reader → Reading → Reading → ℕ
denominator_of value l r = value.denominator (literals l ++ literals r)

-- an operand of a member is over what its own literals are over
abbrev pub argument_of : Reader → Reading → Operand
argument_of value r = operand_over value (value.denominator (literals r)) r
