-- What is printed of a formula that is read nests no deeper than what was read.
--
-- A chain of one is its member, and parentheses round what needs none go. Both make the nesting less.
use Rattle.std.proofs.Common.{◌≡◌, ◌≤◌, ◌+◌, ℕ, List, [], ◌∷◌, ◌++◌, refl, subst, sym, arith}
use Rattle.std.specs.Prelude.{max}
use Rattle.std.proofs.Math.Nat.{le-max_left, le-max_right, max-le}
use Rattle.ded_model.proofs.Lists.{Every, every-left, every-right}
use Rattle.ded_model.specs.declared.name.Column.{Column}
use Rattle.ded_model.specs.Form.{Form}
use Rattle.ded_model.specs.Logic.{logics}
use Rattle.ded_grammar.specs.declared.terminal.Quantifier.{Quantifier}
use Rattle.ded_grammar.specs.declared.terminal.Quantifier.TheVariants.{Exists, Forall}
use Rattle.ded_grammar.specs.Trees.{TerminalForm, conjunct, disjunct, arrow, closing, leaf, Whole, only, follows, Either, either_last, either_more, Both, both_last, both_more, One, negated, bound, grouped, plain, Body, bound_again, around, spell, spell_either, spell_both, spell_one, spell_body, meaning, members_either, members_both, meaning_one, meaning_body, quantified, all_of, any_of, nesting, nesting_either, nesting_both, nesting_one, nesting_body}
use Rattle.ded_reread.proofs.Trees.{Shape, unit, conjunction, disjunction, implication, as_one, as_both, as_either, as_whole, shape, all_printed, all_from, any_printed, any_from, all_more, any_more}

-- ---- numbers

at_left : (a c d : ℕ) → a ≤ c → a ≤ max c d
at_left a c d h = omega (arith, h, le-max_left c d)

at_right : (b c d : ℕ) → b ≤ d → b ≤ max c d
at_right b c d h = omega (arith, h, le-max_right c d)

pub both_max : {a b c d : ℕ} → a ≤ c → b ≤ d → max a b ≤ max c d
both_max h k = max-le (at_left _ _ _ h) (at_right _ _ _ k)

pub more : {a b : ℕ} → a ≤ b → a + 1 ≤ b + 1
more h = omega (arith, h)

above : (a : ℕ) → a ≤ a + 1
above a = omega arith

same : (a : ℕ) → a ≤ a
same a = omega arith

pub through : {a b c : ℕ} → a ≤ b → b ≤ c → a ≤ c
through h k = omega (arith, h, k)

-- ---- shapes in places

one_above : (s : Shape) → nesting_one (as_one s) ≤ nesting (as_whole s) + 1
one_above (unit u) = above (nesting_one u)
one_above (conjunction b) = same (nesting_both b + 1)
one_above (disjunction e) = same (nesting_either e + 1)
one_above (implication w) = same (nesting w + 1)

both_below : (s : Shape) → nesting_both (as_both s) ≤ nesting_one (as_one s)
both_below (unit u) = same (nesting_one u)
both_below (conjunction b) = above (nesting_both b)
both_below (disjunction e) = same (nesting_either e + 1)
both_below (implication w) = same (nesting w + 1)

either_below : (s : Shape) → nesting_either (as_either s) ≤ nesting_both (as_both s)
either_below (unit u) = same (nesting_one u)
either_below (conjunction b) = same (nesting_both b)
either_below (disjunction e) = above (nesting_either e)
either_below (implication w) = same (nesting w + 1)

whole_below : (s : Shape) → nesting (as_whole s) ≤ nesting_either (as_either s)
whole_below (unit u) = same (nesting_one u)
whole_below (conjunction b) = same (nesting_both b)
whole_below (disjunction e) = same (nesting_either e)
whole_below (implication w) = above (nesting w)

-- ---- leaves

-- the formula of a leaf has no formula inside
abbrev pub IsFlat : Form → Type 0
IsFlat f = nesting_one (as_one (shape f)) ≤ 0

abbrev pub IsFlatTerminal : TerminalForm → Type 0
IsFlatTerminal (leaf f) = IsFlat f
IsFlatTerminal _ = Unit {0}

abbrev pub AreFlat : List TerminalForm → Type 0
AreFlat = Every IsFlatTerminal

left : (ps qs : List TerminalForm) → AreFlat (ps ++ qs) → AreFlat ps
left ps qs h = every-left IsFlatTerminal ps qs h

right : (ps qs : List TerminalForm) → AreFlat (ps ++ qs) → AreFlat qs
right ps qs h = every-right IsFlatTerminal ps qs h

-- ---- chains

all_step : (u : One) (b : Both) → nesting_both (all_from u (logics (members_both b))) ≡ max (nesting_one u) (nesting_both (all_printed (logics (members_both b))))
all_step u (both_last v) = refl
all_step u (both_more v b) = refl

any_step : (b : Both) (e : Either) → nesting_either (any_from b (logics (members_either e))) ≡ max (nesting_both b) (nesting_either (any_printed (logics (members_either e))))
any_step b (either_last c) = refl
any_step b (either_more c e) = refl

-- what is printed of the members of a chain, and of the chain, which is its member where it has one alone
all_below : (b : Both) → nesting_both (all_printed (logics (members_both b))) ≤ nesting_both b → nesting_both (as_both (shape (all_of (members_both b)))) ≤ nesting_both b
all_below (both_last u) h = through (both_below (shape (meaning_one u))) h
all_below (both_more u b) h = subst (λ (f : Form). nesting_both (as_both (shape f)) ≤ nesting_both (both_more u b)) (sym (all_more (meaning_one u) b)) h

any_below : (e : Either) → nesting_either (any_printed (logics (members_either e))) ≤ nesting_either e → nesting_either (as_either (shape (any_of (members_either e)))) ≤ nesting_either e
any_below (either_last b) h = through (either_below (shape (all_of (members_both b)))) h
any_below (either_more b e) h = subst (λ (f : Form). nesting_either (as_either (shape f)) ≤ nesting_either (either_more b e)) (sym (any_more (all_of (members_both b)) e)) h

bound_below : (q : Quantifier) (c : Column) (f : Form) (n : ℕ) → nesting (as_whole (shape f)) ≤ n → nesting (as_whole (shape (quantified q c f))) ≤ n + 1
bound_below Exists c f n h = more h
bound_below Forall c f n h = more h

bound_one_below : (q : Quantifier) (c : Column) (f : Form) (n : ℕ) → nesting (as_whole (shape f)) ≤ n → nesting_one (as_one (shape (quantified q c f))) ≤ n + 1
bound_one_below Exists c f n h = more h
bound_one_below Forall c f n h = more h

mutual
  pub whole_nests : (w : Whole) → AreFlat (spell w) → nesting (as_whole (shape (meaning w))) ≤ nesting w
  whole_nests (only e) h = through (whole_below (shape (any_of (members_either e)))) (any_below e (either_nests e h))
  whole_nests (follows e w) h =
      more (both_max (any_below e (either_nests e (left (spell_either e) (arrow ∷ spell w) h))) (whole_nests w ((right (spell_either e) (arrow ∷ spell w) h).1)))

  either_nests : (e : Either) → AreFlat (spell_either e) → nesting_either (any_printed (logics (members_either e))) ≤ nesting_either e
  either_nests (either_last b) h = all_below b (both_nests b h)
  either_nests (either_more b e) h =
      subst (λ (n : ℕ). n ≤ nesting_either (either_more b e)) (sym (any_step (as_both (shape (all_of (members_both b)))) e))
      (both_max (all_below b (both_nests b (left (spell_both b) (disjunct ∷ spell_either e) h))) (either_nests e ((right (spell_both b) (disjunct ∷ spell_either e) h).1)))

  both_nests : (b : Both) → AreFlat (spell_both b) → nesting_both (all_printed (logics (members_both b))) ≤ nesting_both b
  both_nests (both_last u) h = one_nests u h
  both_nests (both_more u b) h =
      subst (λ (n : ℕ). n ≤ nesting_both (both_more u b)) (sym (all_step (as_one (shape (meaning_one u))) b))
      (both_max (one_nests u (left (spell_one u) (conjunct ∷ spell_both b) h)) (both_nests b ((right (spell_one u) (conjunct ∷ spell_both b) h).1)))

  one_nests : (u : One) → AreFlat (spell_one u) → nesting_one (as_one (shape (meaning_one u))) ≤ nesting_one u
  one_nests (negated u) h = more (one_nests u h.1)
  one_nests (bound q c b) h = bound_one_below q c (meaning_body b) (nesting_body b) (body_nests b h.1)
  one_nests (grouped w) h = through (one_above (shape (meaning w))) (more (whole_nests w (left (spell w) (closing ∷ []) h.1)))
  one_nests (plain f) h = h.0

  body_nests : (b : Body) → AreFlat (spell_body b) → nesting (as_whole (shape (meaning_body b))) ≤ nesting_body b
  body_nests (bound_again q c b) h = bound_below q c (meaning_body b) (nesting_body b) (body_nests b h.1)
  body_nests (around w) h = whole_nests w (left (spell w) (closing ∷ []) h.1)
