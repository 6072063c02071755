-- How the operands of comparisons and the arguments of relations and views are written.
use Rattle.std.specs.Prelude.{ℕ, ℤ, pos, int_lt, List, [], ◌∷◌, ◌++◌, codes, if◌then◌else◌}
use Rattle.std.specs.Ordering.{int_eq}
use Rattle.ded_model.specs.declared.formula.Operand.{Operand}
use Rattle.ded_model.specs.declared.formula.Operand.TheVariants.{Single, Sum, Quoted}
use Rattle.ded_model.specs.Quoting.{quoted}
use Rattle.ded_model.specs.Sum as sum
use Rattle.ded_print.specs.Numbers.{fraction_text}
use Rattle.ded_print.specs.Tuples.{sign_text, signed}

-- ---- sums

-- a number of a sum over m, in lowest terms
abbrev pub number_over : ℤ → ℤ → List ℕ
number_over m a = fraction_text (record { num = a; den = m })

-- the number without its sign
abbrev pub magnitude : ℤ → ℤ
magnitude a = signed (int_lt a (pos 0)) a

-- `a*x`
abbrev pub product_text : ℤ → ℤ → List ℕ → List ℕ
product_text m a x = number_over m a ++ (42 ∷ x)

-- ` + a*x` or ` - a*x`
abbrev pub later_product_text : ℤ → ℤ → List ℕ → List ℕ
later_product_text m a x = sign_text a ++ product_text m (magnitude a) x

-- the products after the first, each after its sign
abbrev pub later_products_text : ℤ → List (List ℕ × ℤ) → List ℕ
later_products_text m [] = []
later_products_text m (c ∷ cs) = later_product_text m c.1 c.0 ++ later_products_text m cs

-- the constant after names, where it isn't 0
abbrev pub later_constant_text : ℤ → ℤ → List ℕ
later_constant_text m k = if int_eq k (pos 0) then [] else sign_text k ++ number_over m (magnitude k)

-- the names in order, each with its coefficient, and the constant; the constant alone where no name stands
abbrev pub parts_text : ℤ → ℤ → List (List ℕ × ℤ) → List ℕ
parts_text m k [] = number_over m k
parts_text m k (c ∷ cs) = product_text m c.1 c.0 ++ (later_products_text m cs ++ later_constant_text m k)

-- a sum: its products in order and its constant, with each number divided by what the sum is over
abbrev pub sum_text : sum.Sum → List ℕ
sum_text t = parts_text t.over t.constant t.parts

-- ---- operands

-- a single name as such, and a text between quotes
abbrev pub operand_text : Operand → List ℕ
operand_text (Single x) = x
operand_text (Sum t) = sum_text t
operand_text (Quoted t) = quoted t

-- the first operand after `lead`, each later one after a comma and a blank
abbrev pub operands_text : List ℕ → List Operand → List ℕ
operands_text lead [] = []
operands_text lead (t ∷ ts) = lead ++ (operand_text t ++ operands_text (codes ", ") ts)

-- `N(x, 1*y + 1/2)`. The name of a closure or an interior is `closure(N)` or `interior(N)`
abbrev pub member_text : List ℕ → List Operand → List ℕ
member_text n ts = n ++ (codes "(" ++ (operands_text [] ts ++ codes ")"))
