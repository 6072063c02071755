-- Reading the sides of comparisons and the operands of members, as functions on symbols.
use Rattle.std.specs.Prelude.{ℕ, suc, ◌==◌, Bool, true, false, List, [], ◌∷◌, length, Option, Some, None, if◌then◌else◌}
use Rattle.std.proofs.Common.{zero}
use Rattle.ded_grammar.specs.Building.{◌>>=◌}
use Rattle.ded_terminals.specs.Symbols.{Symbol, Name, Number, Decimal, Quoted, Plus, Minus, Times, Slash, number_of, decimal_number, decimal_power}
use Rattle.ded_terminals.specs.Literals.{Literal, lowest}
use Rattle.ded_terminals.specs.Operands.{Factor, SignedFactor, add_factor, Reading, quoted, named, parts}

-- reads a number, as its digits
abbrev pub number_at : List Symbol → Option (List ℕ × List Symbol)
number_at (Number d ∷ ts) = Some (d, ts)
number_at ts = None

-- reads a name
abbrev pub name_at : List Symbol → Option (List ℕ × List Symbol)
name_at (Name n ∷ ts) = Some (n, ts)
name_at ts = None

-- the quotient of digits, unless the last ones stand for 0
abbrev pub quotient_at : (ℕ → ℕ) → List ℕ → List ℕ → List Symbol → Option (Literal × List Symbol)
quotient_at read d e ts = if number_of e == 0 then None else Some (lowest (read (number_of d)) (read (number_of e)), ts)

-- reads a scalar, as its value in lowest terms, where numbers are read by the function
abbrev pub scalar_at : (ℕ → ℕ) → List Symbol → Option (Literal × List Symbol)
scalar_at read (Number d ∷ Slash ∷ Number e ∷ ts) = quotient_at read d e ts
scalar_at read (Number d ∷ Slash ∷ ts) = None
scalar_at read (Number d ∷ ts) = Some ((read (number_of d), 1), ts)
scalar_at read (Decimal t ∷ ts) = Some (lowest (read (decimal_number t)) (read (decimal_power t)), ts)
scalar_at read ts = None

-- reads the rest of a product behind its literal: the sign * and a name, or nothing where there is no such sign
abbrev pub behind_scalar : Literal → List Symbol → Option (Factor × List Symbol)
behind_scalar l (Times ∷ Name n ∷ ts) = Some ((l, Some n), ts)
behind_scalar l (Times ∷ ts) = None
behind_scalar l ts = Some ((l, None), ts)

-- the product of the scalar that was read, or where there is none that of a name, which counts once
abbrev pub product_by_scalar : List Symbol → Option (Literal × List Symbol) → Option (Factor × List Symbol)
product_by_scalar ts None = name_at ts >>= λ n. Some (((1, 1), Some n.0), n.1)
product_by_scalar ts (Some l) = behind_scalar l.0 l.1

-- reads a product, as its literal and the name that it multiplies
abbrev pub product_at : (ℕ → ℕ) → List Symbol → Option (Factor × List Symbol)
product_at read ts = product_by_scalar ts (scalar_at read ts)

-- the sign of a further product, true where it is taken away
abbrev pub sign_at : List Symbol → Option (Bool × List Symbol)
sign_at (Plus ∷ ts) = Some (false, ts)
sign_at (Minus ∷ ts) = Some (true, ts)
sign_at ts = None

-- behind the parts so far: no further product, or one more, and then the rest
abbrev pub after_sign : (ℕ → ℕ) → (List SignedFactor → List Symbol → Option (List SignedFactor × List Symbol)) → List SignedFactor → List Symbol → Option (Bool × List Symbol) → Option (List SignedFactor × List Symbol)
after_sign read more a ts None = Some (a, ts)
after_sign read more a ts (Some s) = product_at read s.1 >>= λ p. more (add_factor a s.0 p.0) p.1

-- the parts so far with all further products of a sum behind them, or none where one is missing behind its sign, or
-- these aren't fewer than so many
abbrev pub more_at : (ℕ → ℕ) → ℕ → List SignedFactor → List Symbol → Option (List SignedFactor × List Symbol)
more_at read zero a ts = None
more_at read (suc k) a ts = after_sign read (more_at read k) a ts (sign_at ts)

-- the parts so far with all that follow
abbrev pub all_parts : (ℕ → ℕ) → List SignedFactor → List Symbol → Option (List SignedFactor × List Symbol)
all_parts read a ts = more_at read (suc (length ts)) a ts

-- a sum whose first product is taken away or not
abbrev pub sum_at : (ℕ → ℕ) → Bool → List Symbol → Option (List SignedFactor × List Symbol)
sum_at read minus ts = product_at read ts >>= λ p. more_at read (suc (length p.1)) (add_factor [] minus p.0) p.1

-- reads a sum, whose first product is taken away or not, as what is read of it
abbrev pub summed_at : (ℕ → ℕ) → Bool → List Symbol → Option (Reading × List Symbol)
summed_at read minus ts = sum_at read minus ts >>= λ x. Some (parts x.0, x.1)

-- reads a quoted text
abbrev pub quoted_at : List Symbol → Option (List ℕ × List Symbol)
quoted_at (Quoted t ∷ ts) = Some (t, ts)
quoted_at ts = None

-- the symbols behind a sign -, or none where they don't begin with it
abbrev pub minus_at : List Symbol → Option (List Symbol)
minus_at (Minus ∷ ts) = Some ts
minus_at ts = None

-- a name alone, where no sign follows it; else the sum that it begins
abbrev pub behind_name : (ℕ → ℕ) → List Symbol → List ℕ × List Symbol → Option (Bool × List Symbol) → Option (Reading × List Symbol)
behind_name read ts n None = Some (named n.0, n.1)
behind_name read ts n (Some s) = summed_at read false ts

-- the side that begins with the name that was read, or where there is none the sum that the symbols begin with
abbrev pub side_by_name : (ℕ → ℕ) → List Symbol → Option (List ℕ × List Symbol) → Option (Reading × List Symbol)
side_by_name read ts None = summed_at read false ts
side_by_name read ts (Some n) = behind_name read ts n (sign_at n.1)

-- the sum behind the sign - that was read, or where there is none the side that begins with a name or another product
abbrev pub side_by_minus : (ℕ → ℕ) → List Symbol → Option (List Symbol) → Option (Reading × List Symbol)
side_by_minus read ts None = side_by_name read ts (name_at ts)
side_by_minus read ts (Some us) = summed_at read true us

-- the quoted text that was read, or where there is none another side
abbrev pub side_by_text : (ℕ → ℕ) → List Symbol → Option (List ℕ × List Symbol) → Option (Reading × List Symbol)
side_by_text read ts None = side_by_minus read ts (minus_at ts)
side_by_text read ts (Some t) = Some (quoted t.0, t.1)

-- reads a side of a comparison, or an operand of a member
abbrev pub side_at : (ℕ → ℕ) → List Symbol → Option (Reading × List Symbol)
side_at read ts = side_by_text read ts (quoted_at ts)
