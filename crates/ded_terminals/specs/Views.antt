-- What values of the reader are seen as.
use Rattle.std.specs.Prelude.{◌≡◌, ◌≤◌, ◌<◌, ◌+◌, ◌^◌, ℕ, Bool, Some, unsigned_abs, List, length, map, option_map}
use Rattle.std.specs.List.{AllByRecursion}
use Rattle.ded_lex.specs.Tokens.{quoted_value}
use Rattle.ded_terminals.specs.declared.atom.Naming.{Naming}
use Rattle.ded_terminals.specs.declared.atom.Naming.TheVariants.{Itself, Closure, Interior}
use Rattle.ded_terminals.specs.declared.scalar.Literal.{Literal}
use Rattle.ded_terminals.specs.declared.side.Factor.{Factor}
use Rattle.ded_terminals.specs.declared.side.SignedFactor.{SignedFactor}
use Rattle.ded_terminals.specs.declared.side.ParsedSide.{ParsedSide}
use Rattle.ded_terminals.specs.declared.side.ParsedSide.TheVariants as side
use Rattle.ded_terminals.specs.declared.sum.Totals.{Totals}
use Rattle.ded_terminals.specs.Literals.{capped, marked_numerator}
use Rattle.ded_terminals.specs.Literals as literals
use Rattle.ded_terminals.specs.Operands as operands
use Rattle.ded_terminals.specs.OperandReading.{product_at}
use Rattle.ded_terminals.specs.Symbols.{Symbol}
use Rattle.ded_terminals.specs.Atoms.{Named, plain, closed, inner}

-- the numerator and the denominator of a literal of the reader
abbrev pub seen_literal : Literal → literals.Literal
seen_literal l = (l.numerator, l.denominator)

-- the factor that one of the reader stands for
abbrev pub seen_factor : Factor → operands.Factor
seen_factor f = (seen_literal f.literal, option_map (λ n. n.now) f.name)

-- the part that one of the reader stands for
abbrev pub seen_part : SignedFactor → operands.SignedFactor
seen_part p = (p.minus, seen_factor p.factor)

-- the parts that a list of them stands for, in order
abbrev pub seen_parts : List SignedFactor → List operands.SignedFactor
seen_parts ps = map seen_part ps

-- what is read of a side, by a side of the reader, which has a quoted text as it is spelled
abbrev pub seen_side : ParsedSide → operands.Reading
seen_side (side.Quoted t) = operands.quoted (quoted_value t.now)
seen_side (side.Name n) = operands.named n.now
seen_side (side.Sum ps) = operands.parts (seen_parts ps.items)

-- no denominator is 0
abbrev pub ArePositive : List SignedFactor → Type 0
ArePositive ps = AllByRecursion (λ p. 0 < p.factor.literal.denominator) ps

-- a sum has no more parts than half of so many items, rounded up, and no denominator in it is 0
abbrev pub IsFit : ParsedSide → ℕ → Type 0
IsFit (side.Quoted t) n = Unit {0}
IsFit (side.Name x) n = Unit {0}
IsFit (side.Sum ps) n = (length ps.items + length ps.items ≤ n + 1) × ArePositive ps.items

-- a product is read, and set behind the parts a
pub record AddsProduct (minus : Bool) (ts : List Symbol) (a b : List operands.SignedFactor) (rest : List Symbol) : Type 0 where
  pub factor : operands.Factor
  pub read : product_at capped ts ≡ Some (factor, rest)
  pub adds : b ≡ operands.add_factor a minus factor

-- the numerators of the literals are at most 2^96, as far as they are read
abbrev pub AreSmall : ℕ → List literals.Literal → Type 0
AreSmall m ls = AllByRecursion (λ l. marked_numerator m l ≤ 2 ^ 96) ls

-- the coefficients and the constant of totals
abbrev pub seen_totals : Totals → operands.Sums
seen_totals t = (t.parts.items, t.constant)

-- each coefficient and the constant are at most n in magnitude
abbrev pub IsBounded : ℕ → operands.Sums → Type 0
IsBounded n s = AllByRecursion (λ c. unsigned_abs c.1 ≤ n) s.0 × (unsigned_abs s.1 ≤ n)

-- the name of a member, by the name in it
abbrev pub seen_name : Naming → List ℕ → Named
seen_name Itself n = plain n
seen_name Closure n = closed n
seen_name Interior n = inner n
