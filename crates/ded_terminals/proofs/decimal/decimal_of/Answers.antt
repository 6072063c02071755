use Rattle.std.proofs.Common.{◌++◌, List, ℕ, ap, ap₂, ◌∙◌, rules}
use Rattle.ded_terminals.specs.Symbols.{number_from, number_of}
use Rattle.ded_terminals.specs.Literals.{capped}
use Rattle.ded_terminals.proofs.Decimals.{digits_behind}
use Rattle.ded_terminals.proofs.decimal.decimal_of.Goals as goal

pub returns-clause-number : goal.returns-clause-number
returns-clause-number c =
    c.value_behind.ensures
    ∙ ap (λ (n : ℕ). capped (number_from n c.trimmed-fraction.result.now)) c.value_of-whole.ensures
    ∙ digits_behind c.before_point.result.now c.trimmed-fraction.result.now
    ∙ ap₂ (λ (xs ys : List ℕ). capped (number_of (xs ++ ys))) c.before_point.ensures (search rules)
