-- The grammar of formulas over terminals: atoms, quantifiers with their columns, and the signs between them.
use Rattle.std.specs.Prelude.{ℕ, ◌+◌, max, Bool, false, List, [], ◌∷◌, ◌++◌}
use Rattle.ded_model.specs.declared.name.Column.{Column}
use Rattle.ded_model.specs.Point.{name}
use Rattle.ded_model.specs.Form.{Form, FormAtom}
use Rattle.ded_model.specs.Logic.{always, negation, every_of, some_of, implies, exists, forall, logics, some_atom}
use Rattle.ded_grammar.specs.declared.terminal.Quantifier.{Quantifier}
use Rattle.ded_grammar.specs.declared.terminal.Quantifier.TheVariants.{Exists, Forall}

-- a sign between formulas, a quantifier with its variable, or a formula that has no formula inside
pub data TerminalForm : Type 0 where
  nay : TerminalForm
  conjunct : TerminalForm
  disjunct : TerminalForm
  arrow : TerminalForm
  opening : TerminalForm
  closing : TerminalForm
  binder : Quantifier → Column → TerminalForm
  leaf : Form → TerminalForm

-- formula = either [ "implies" formula ]
-- either = both ( "or" both )*
-- both = unit ( "and" unit )*
-- unit = "not" unit | quantified | "(" formula ")" | "true" | "false" | compare | member
-- quantified = ( "exists" | "forall" ) column body
-- body = quantified | "(" formula ")"
mutual
  pub data Whole : Type 0 where
    only : Either → Whole
    follows : Either → Whole → Whole

  -- a chain with `or` between its members, of which there is one at least
  pub data Either : Type 0 where
    either_last : Both → Either
    either_more : Both → Either → Either

  -- a chain of units with `and` between them, of which there is one at least
  pub data Both : Type 0 where
    both_last : One → Both
    both_more : One → Both → Both

  -- a unit: a negation, a quantifier with its body, a formula in parentheses, or one that has no formula inside
  pub data One : Type 0 where
    negated : One → One
    bound : Quantifier → Column → Body → One
    grouped : Whole → One
    plain : Form → One

  -- the body of a quantifier: another quantifier with its body, or a formula in parentheses
  pub data Body : Type 0 where
    bound_again : Quantifier → Column → Body → Body
    around : Whole → Body

-- the terminals, in order
abbrev mutual
  pub spell : Whole → List TerminalForm
  spell (only e) = spell_either e
  spell (follows e w) = spell_either e ++ arrow ∷ spell w

  -- those of a chain with `or`
  pub spell_either : Either → List TerminalForm
  spell_either (either_last b) = spell_both b
  spell_either (either_more b e) = spell_both b ++ disjunct ∷ spell_either e

  -- those of a chain with `and`
  pub spell_both : Both → List TerminalForm
  spell_both (both_last u) = spell_one u
  spell_both (both_more u b) = spell_one u ++ conjunct ∷ spell_both b

  -- those of a unit
  pub spell_one : One → List TerminalForm
  spell_one (negated u) = nay ∷ spell_one u
  spell_one (bound q c b) = binder q c ∷ spell_body b
  spell_one (grouped w) = opening ∷ spell w ++ closing ∷ []
  spell_one (plain f) = leaf f ∷ []

  -- those of the body of a quantifier
  pub spell_body : Body → List TerminalForm
  spell_body (bound_again q c b) = binder q c ∷ spell_body b
  spell_body (around w) = opening ∷ spell w ++ closing ∷ []

-- the formula that the quantifier makes of another one, with the column as its variable
abbrev pub quantified : Quantifier → Column → Form → Form
quantified Exists c f = exists c.sort (name c.name) f
quantified Forall c f = forall c.sort (name c.name) f

-- the conjunction of the members of a chain; a chain of one is its member, and the empty list gives what always holds
abbrev pub all_of : List Form → Form
all_of [] = always
all_of (f ∷ []) = f
all_of (f ∷ g ∷ fs) = every_of (logics (f ∷ g ∷ fs))

-- the disjunction of the members of a chain; a chain of one is its member; the empty list, which no chain is, gives
-- what always holds
abbrev pub any_of : List Form → Form
any_of [] = always
any_of (f ∷ []) = f
any_of (f ∷ g ∷ fs) = some_of (logics (f ∷ g ∷ fs))

-- the formula that is spelled
abbrev mutual
  pub meaning : Whole → Form
  meaning (only e) = any_of (members_either e)
  meaning (follows e w) = implies (any_of (members_either e)) (meaning w)

  -- the formulas of the members of a chain with `or`, in order
  pub members_either : Either → List Form
  members_either (either_last b) = all_of (members_both b) ∷ []
  members_either (either_more b e) = all_of (members_both b) ∷ members_either e

  -- the formulas of the units of a chain with `and`, in order
  pub members_both : Both → List Form
  members_both (both_last u) = meaning_one u ∷ []
  members_both (both_more u b) = meaning_one u ∷ members_both b

  -- the formula of a unit
  pub meaning_one : One → Form
  meaning_one (negated u) = negation (meaning_one u)
  meaning_one (bound q c b) = quantified q c (meaning_body b)
  meaning_one (grouped w) = meaning w
  meaning_one (plain f) = f

  -- the formula of the body of a quantifier
  pub meaning_body : Body → Form
  meaning_body (bound_again q c b) = quantified q c (meaning_body b)
  meaning_body (around w) = meaning w

abbrev mutual
  -- how many levels nest in a whole formula: `implies`, `not`, a quantifier and parentheses make one each, but the
  -- parentheses of a body make none
  pub nesting : Whole → ℕ
  nesting (only e) = nesting_either e
  nesting (follows e w) = max (nesting_either e) (nesting w) + 1

  -- the greatest nesting of the members of a chain with `or`
  pub nesting_either : Either → ℕ
  nesting_either (either_last b) = nesting_both b
  nesting_either (either_more b e) = max (nesting_both b) (nesting_either e)

  -- the greatest nesting of the units of a chain with `and`
  pub nesting_both : Both → ℕ
  nesting_both (both_last u) = nesting_one u
  nesting_both (both_more u b) = max (nesting_one u) (nesting_both b)

  -- the nesting of a unit, 0 for a formula that has none inside
  pub nesting_one : One → ℕ
  nesting_one (negated u) = nesting_one u + 1
  nesting_one (bound q c b) = nesting_body b + 1
  nesting_one (grouped w) = nesting w + 1
  nesting_one (plain f) = 0

  -- the nesting of the body of a quantifier
  pub nesting_body : Body → ℕ
  nesting_body (bound_again q c b) = nesting_body b + 1
  nesting_body (around w) = nesting w

-- whether the terminal is an atom that passes the test
abbrev pub terminal_atom : (FormAtom → Bool) → TerminalForm → Bool
terminal_atom test (leaf f) = some_atom test f
terminal_atom test p = false
