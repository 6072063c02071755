-- Whether terminals spell a formula, found from left to right with a count of what is open.
use Rattle.std.specs.Prelude.{ℕ, suc, Bool, false, List, [], ◌∷◌, ◌==◌, Option, Some, None}
use Rattle.ded_grammar.specs.declared.scan.Spot.{Spot}
use Rattle.ded_grammar.specs.declared.scan.Spot.TheVariants.{Start, Within, After}
use Rattle.ded_grammar.specs.Trees.{TerminalForm, nay, conjunct, disjunct, arrow, opening, closing, binder, leaf}

-- The spot behind a terminal and how many parentheses are open there, or none where it may not stand at this spot.
-- Start: a unit is to come. Within: the body of a quantifier. After: a unit stands before.
abbrev pub stepped : Spot → ℕ → TerminalForm → Option (Spot × ℕ)
stepped Start n nay = Some (Start, n)
stepped Start n opening = Some (Start, suc n)
stepped Start n (binder q c) = Some (Within, n)
stepped Start n (leaf f) = Some (After, n)
stepped Within n opening = Some (Start, suc n)
stepped Within n (binder q c) = Some (Within, n)
stepped After n conjunct = Some (Start, n)
stepped After n disjunct = Some (Start, n)
stepped After n arrow = Some (Start, n)
stepped After (suc n) closing = Some (After, n)
stepped s n p = None

-- a formula may end at the spot: a unit stands before, and no parenthesis is open
abbrev pub finished : Spot → ℕ → Bool
finished After n = n == 0
finished s n = false

-- the terminals go on from the spot, where n parentheses are open, to the end of a formula
abbrev pub scan : Spot → ℕ → List TerminalForm → Bool
scan s n [] = finished s n
scan s n (p ∷ ps) = elim (stepped s n p) [ None ↦ false | Some x ↦ scan x.0 x.1 ps ]
