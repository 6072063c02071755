-- Reading a formula, as a function on terminals, with room for some levels of nesting.
use Rattle.std.specs.Prelude.{ℕ, suc, ◌+◌, max, List, [], ◌∷◌, length, Option, Some, None, if◌then◌else◌, nat_lt}
use Rattle.std.proofs.Common.{zero}
use Rattle.ded_model.specs.Form.{Form}
use Rattle.ded_model.specs.Logic.{negation, implies}
use Rattle.ded_grammar.specs.Trees.{TerminalForm, nay, conjunct, disjunct, arrow, opening, closing, binder, leaf, quantified, all_of, any_of}

infixl 10 ◌>>=◌
-- what the function gives of the value that is there, or none where there is none
abbrev pub ◌>>=◌ : {A B : Type 0} → Option A → (A → Option B) → Option B
None >>= f = None
(Some x) >>= f = f x

-- a formula, its nesting, and the terminals after it
abbrev pub Found : Type 0
Found = Form × ℕ × List TerminalForm

-- what reads a formula, with which the terminals begin, or gives none
abbrev pub Reader : Type 0
Reader = List TerminalForm → Option Found

-- the reader that reads no formula
abbrev pub nothing : Reader
nothing ps = None

-- the terminals behind the closing sign with which they begin, or none where they don't begin with it
abbrev pub after_closing : List TerminalForm → Option (List TerminalForm)
after_closing (closing ∷ ps) = Some ps
after_closing ps = None

-- what was found, without the closing sign behind it, or none where that doesn't come next
abbrev pub closed : Found → Option Found
closed x = after_closing x.2 >>= λ ps. Some (x.0, x.1, ps)

-- the members of a chain, the greatest nesting, and the terminals after it
abbrev pub Chain : Type 0
Chain = List Form × ℕ × List TerminalForm

-- the terminals behind the sign `and` with which they begin, or none where they don't begin with it
abbrev pub after_conjunct : List TerminalForm → Option (List TerminalForm)
after_conjunct (conjunct ∷ ps) = Some ps
after_conjunct ps = None

-- the terminals behind the sign `or` with which they begin, or none where they don't begin with it
abbrev pub after_disjunct : List TerminalForm → Option (List TerminalForm)
after_disjunct (disjunct ∷ ps) = Some ps
after_disjunct ps = None

-- the terminals behind the sign `implies` with which they begin, or none where they don't begin with it
abbrev pub after_arrow : List TerminalForm → Option (List TerminalForm)
after_arrow (arrow ∷ ps) = Some ps
after_arrow ps = None

-- a member before those of a chain
abbrev pub onto : Found → Chain → Chain
onto x c = (x.0 ∷ c.0, max x.1 c.1, c.2)

-- reads a chain of at most so many members, with the sign between each two; none where a member is missing, or one is
-- left
abbrev pub chain : Reader → (List TerminalForm → Option (List TerminalForm)) → ℕ → List TerminalForm → Option Chain
chain read sign zero ps = None
chain read sign (suc n) ps = read ps >>= λ x. elim (sign x.2) [ None ↦ Some (x.0 ∷ [], x.1, x.2) | Some more ↦ chain read sign n more >>= λ c. Some (onto x c) ]

-- reads a chain of units with `and` between them, as one formula, by a reader of units
abbrev pub both_by : Reader → Reader
both_by one ps = chain one after_conjunct (length ps) ps >>= λ c. Some (all_of c.0, c.1, c.2)

-- reads a chain with `or` between its members, each a chain with `and`, as one formula, by a reader of units
abbrev pub either_by : Reader → Reader
either_by one ps = chain (both_by one) after_disjunct (length ps) ps >>= λ c. Some (any_of c.0, c.1, c.2)

-- the formula x, where no sign `implies` follows it; else the one in which x implies what is read behind that, or none
-- where that isn't read, or x and the sign have no room in k levels
abbrev pub after_left : ℕ → Reader → Found → Option (List TerminalForm) → Option Found
after_left k right x None = Some x
after_left k right x (Some more) = if nat_lt (x.1 + 1) k then (right more >>= λ y. Some (implies x.0 y.0, max x.1 y.1 + 1, y.2)) else None

-- reads a whole formula within k levels, by a reader of units and one of the right side of `implies`
abbrev pub whole_by : ℕ → Reader → Reader → Reader
whole_by k one right ps = either_by one ps >>= λ x. after_left k right x (after_arrow x.2)

-- reads a unit, where the readers read the unit behind `not`, the body behind a quantifier, and the formula in
-- parentheses: each of these nests one level deeper
abbrev pub one_by : Reader → Reader → Reader → Reader
one_by one body whole (nay ∷ ps) = one ps >>= λ x. Some (negation x.0, x.1 + 1, x.2)
one_by one body whole (opening ∷ ps) = whole ps >>= λ x. closed x >>= λ y. Some (y.0, y.1 + 1, y.2)
one_by one body whole (binder q c ∷ ps) = body ps >>= λ x. Some (quantified q c x.0, x.1 + 1, x.2)
one_by one body whole (leaf f ∷ ps) = Some (f, 0, ps)
one_by one body whole ps = None

-- reads the body of a quantifier, where the readers read the body behind another quantifier, which nests one level
-- deeper, and the formula in parentheses, which doesn't
abbrev pub body_by : Reader → Reader → Reader
body_by body whole (opening ∷ ps) = whole ps >>= closed
body_by body whole (binder q c ∷ ps) = body ps >>= λ x. Some (quantified q c x.0, x.1 + 1, x.2)
body_by body whole ps = None

-- readers of units, of the bodies of quantifiers, and of whole formulas
pub record Readers : Type 0 where
  pub one : Reader
  pub body : Reader
  pub whole : Reader

-- with one level more than these
abbrev pub deeper : ℕ → Readers → Readers
deeper k r =
    let one = one_by r.one r.body r.whole in
    let whole = whole_by (suc k) one r.whole in
    record { one = one; body = body_by r.body whole; whole = whole }

-- where so many levels are left: nothing, where none is
unfoldable pub readers : ℕ → Readers
readers zero = record { one = nothing; body = nothing; whole = nothing }
readers (suc k) = deeper k (readers k)

-- reads a unit whose nesting is below k
unfoldable pub read_one : ℕ → Reader
read_one k = (readers k).one

-- reads the body of a quantifier, of a nesting below k
unfoldable pub read_body : ℕ → Reader
read_body k = (readers k).body

-- reads a whole formula whose nesting is below k
unfoldable pub read_whole : ℕ → Reader
read_whole k = (readers k).whole
