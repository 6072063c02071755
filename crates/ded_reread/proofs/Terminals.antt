-- What is written of a formula spells the terminals of what is printed of what is read back.
use Rattle.std.proofs.Common.{◌≡◌, ℕ, List, [], ◌∷◌, ◌++◌, refl, sym, subst, ap}
use Rattle.std.specs.Prelude.{codes}
use Rattle.std.proofs.lemmas.List.{append-nil}
use Rattle.ded_model.specs.Form.{Form, FormAtom}
use Rattle.ded_model.specs.Goal.{GoalAtom, GoalForm}
use Rattle.ded_model.specs.Logic.{atom, always, never, negation, every_of, some_of, implies, minus, exists, forall, Logics, none, also}
use Rattle.ded_grammar.specs.declared.terminal.Quantifier.TheVariants.{Exists, Forall}
use Rattle.ded_grammar.specs.Trees.{TerminalForm, nay, conjunct, disjunct, arrow, opening, closing, binder, leaf, Both, One, spell, spell_either, spell_both, spell_one}
use Rattle.ded_print.specs.Plans.{key_text}
use Rattle.ded_print.specs.Tuples.{Names}
use Rattle.ded_dump.specs.declared.formula.Position.TheVariants as position
use Rattle.ded_dump.specs.Comparisons.{below}
use Rattle.ded_dump.specs.Formulas.{left_goal, right_goal, goals_in, is_grouped, atom_text, whole_text, chain_text}
use Rattle.ded_dump.specs.Formulas as text
use Rattle.ded_dump.specs.Headings.{column_text, variable}
use Rattle.ded_reread.specs.Formulas.{restored_atom, restored_by, restored_each}
use Rattle.ded_reread.specs.ScriptWords.{IsName}
use Rattle.ded_reread.proofs.Worded.{Fits}
use Rattle.ded_reread.proofs.Trees.{as_one, as_both, as_either, shape, all_printed, all_from, any_printed, any_from, spell_shape, spell_whole, printed}
use Rattle.ded_reread.proofs.TerminalsWords.{Says, say_nothing, say_then, say_on, say_not, say_and, say_or, say_implies, say_opening, say_apart, say_closing, say_true, say_false, say_exists, say_forall}

-- P holds of the atoms with their goals, the keys of quantifiers are names, chains have a member at least, and the goal has the shape of
-- the formula
abbrev mutual
  pub ArePaired : (FormAtom → GoalForm → Type 0) → Form → GoalForm → Type 0
  ArePaired P (atom a) g = P a g
  ArePaired P always g = Unit {0}
  ArePaired P never g = Unit {0}
  ArePaired P (negation f) g = ArePaired P f (below g)
  ArePaired P (every_of fs) g = IsSome fs × EachPaired P fs (goals_in g)
  ArePaired P (some_of fs) g = IsSome fs × EachPaired P fs (goals_in g)
  ArePaired P (implies e f) g = ArePaired P e (left_goal g) × ArePaired P f (right_goal g)
  ArePaired P (minus e f) g = ⊥
  ArePaired P (exists s k f) g = IsName (key_text k) × ArePaired P f (below g)
  ArePaired P (forall s k f) g = IsName (key_text k) × ArePaired P f (below g)

  pub EachPaired : (FormAtom → GoalForm → Type 0) → Logics FormAtom → Logics GoalAtom → Type 0
  EachPaired P none gs = Unit {0}
  EachPaired P (also f fs) none = ⊥
  EachPaired P (also f fs) (also g gs) = ArePaired P f g × EachPaired P fs gs

  pub IsSome : Logics FormAtom → Type 0
  IsSome none = ⊥
  IsSome (also f fs) = Unit {0}

-- the members behind the first
abbrev later_all : Logics FormAtom → List TerminalForm
later_all none = []
later_all (also f fs) = conjunct ∷ spell_one (as_one (shape f)) ++ later_all fs

abbrev later_any : Logics FormAtom → List TerminalForm
later_any none = []
later_any (also f fs) = disjunct ∷ spell_both (as_both (shape f)) ++ later_any fs

all_spells : (u : One) (fs : Logics FormAtom) → spell_both (all_from u fs) ≡ spell_one u ++ later_all fs
all_spells u none = sym (append-nil (spell_one u))
all_spells u (also f fs) = ap (λ (ps : List TerminalForm). spell_one u ++ conjunct ∷ ps) (all_spells (as_one (shape f)) fs)

any_spells : (b : Both) (fs : Logics FormAtom) → spell_either (any_from b fs) ≡ spell_both b ++ later_any fs
any_spells b none = sym (append-nil (spell_both b))
any_spells b (also f fs) = ap (λ (ps : List TerminalForm). spell_both b ++ disjunct ∷ ps) (any_spells (as_both (shape f)) fs)

-- between parentheses
inside : (t : List ℕ) (ps : List TerminalForm) → Says t ps → Says (codes "(" ++ (t ++ codes ")")) (opening ∷ ps ++ closing ∷ [])
inside t ps h = say_then (codes "(") (t ++ codes ")") (opening ∷ []) (ps ++ closing ∷ []) say_opening (say_on t (codes ")") ps (closing ∷ []) h refl say_closing)

-- a quantifier, and its body between parentheses
said_bound : (a t : List ℕ) (p : TerminalForm) (ps : List TerminalForm) → Says a (p ∷ []) → Says t ps → Says (a ++ (codes " (" ++ (t ++ codes ")"))) (p ∷ opening ∷ ps ++ closing ∷ [])
said_bound a t p ps first h =
    say_on a (codes " (" ++ (t ++ codes ")")) (p ∷ []) (opening ∷ ps ++ closing ∷ []) first refl
    (say_then (codes " (") (t ++ codes ")") (opening ∷ []) (ps ++ closing ∷ []) say_apart (say_on t (codes ")") ps (closing ∷ []) h refl say_closing))

module _ (names : Names) (P : FormAtom → GoalForm → Type 0) (atom_is : (a : FormAtom) (g : GoalForm) → P a g → Says (atom_text names a g) (leaf (atom (restored_atom names a g)) ∷ [])) where
  -- the formula by itself
  abbrev IsSaid : Form → GoalForm → Type 0
  IsSaid f g = Says (whole_text names f g) (spell_shape (shape (restored_by names f g)))

  said_whole : (f : Form) (g : GoalForm) → IsSaid f g → Says (whole_text names f g) (spell (printed (restored_by names f g)))
  said_whole f g h = subst (λ (ps : List TerminalForm). Says (whole_text names f g) ps) (sym (spell_whole (shape (restored_by names f g)))) h

  said_one : (f : Form) (g : GoalForm) → IsSaid f g → Says (text.grouped (is_grouped position.Unit f) (whole_text names f g)) (spell_one (as_one (shape (restored_by names f g))))
  said_one (atom a) g h = h
  said_one always g h = h
  said_one never g h = h
  said_one (negation f) g h = h
  said_one (every_of fs) g h = inside _ _ h
  said_one (some_of fs) g h = inside _ _ h
  said_one (implies d f) g h = inside _ _ h
  said_one (minus d f) g h = h
  said_one (exists s k f) g h = h
  said_one (forall s k f) g h = h

  said_both : (f : Form) (g : GoalForm) → IsSaid f g → Says (text.grouped (is_grouped position.Both f) (whole_text names f g)) (spell_both (as_both (shape (restored_by names f g))))
  said_both (atom a) g h = h
  said_both always g h = h
  said_both never g h = h
  said_both (negation f) g h = h
  said_both (every_of fs) g h = h
  said_both (some_of fs) g h = inside _ _ h
  said_both (implies d f) g h = inside _ _ h
  said_both (minus d f) g h = h
  said_both (exists s k f) g h = h
  said_both (forall s k f) g h = h

  said_either : (f : Form) (g : GoalForm) → IsSaid f g → Says (text.grouped (is_grouped position.Either f) (whole_text names f g)) (spell_either (as_either (shape (restored_by names f g))))
  said_either (atom a) g h = h
  said_either always g h = h
  said_either never g h = h
  said_either (negation f) g h = h
  said_either (every_of fs) g h = h
  said_either (some_of fs) g h = h
  said_either (implies d f) g h = inside _ _ h
  said_either (minus d f) g h = h
  said_either (exists s k f) g h = h
  said_either (forall s k f) g h = h

  fits_all : (fs : Logics FormAtom) (gs : Logics GoalAtom) → Fits (chain_text names position.Unit (codes " and ") (codes " and ") fs gs)
  fits_all none gs = tt
  fits_all (also f fs) none = tt
  fits_all (also f fs) (also g gs) = refl

  fits_any : (fs : Logics FormAtom) (gs : Logics GoalAtom) → Fits (chain_text names position.Both (codes " or ") (codes " or ") fs gs)
  fits_any none gs = tt
  fits_any (also f fs) none = tt
  fits_any (also f fs) (also g gs) = refl

  mutual
    said : (f : Form) (g : GoalForm) → ArePaired P f g → IsSaid f g
    said (atom a) g p = atom_is a g p
    said always g p = say_true
    said never g p = say_false
    said (negation f) g p = say_then (codes "not ") _ (nay ∷ []) _ say_not (said_one f (below g) (said f (below g) p))
    said (every_of fs) g p = said_all fs (goals_in g) p.0 p.1
    said (some_of fs) g p = said_any fs (goals_in g) p.0 p.1
    said (implies d f) g p =
        say_on _ (codes " implies " ++ whole_text names f (right_goal g)) _ (arrow ∷ spell (printed (restored_by names f (right_goal g)))) (said_either d (left_goal g) (said d (left_goal g) p.0)) refl
        (say_then (codes " implies ") (whole_text names f (right_goal g)) (arrow ∷ []) (spell (printed (restored_by names f (right_goal g)))) say_implies (said_whole f (right_goal g) (said f (right_goal g) p.1)))
    said (minus d f) g p = absurd p
    said (exists s k f) g p =
        said_bound (codes "exists " ++ column_text (variable s k)) (whole_text names f (below g)) (binder Exists (variable s k)) (spell (printed (restored_by names f (below g)))) (say_exists s k p.0) (said_whole f (below g) (said f (below g) p.1))
    said (forall s k f) g p =
        said_bound (codes "forall " ++ column_text (variable s k)) (whole_text names f (below g)) (binder Forall (variable s k)) (spell (printed (restored_by names f (below g)))) (say_forall s k p.0) (said_whole f (below g) (said f (below g) p.1))

    said_all : (fs : Logics FormAtom) (gs : Logics GoalAtom) → IsSome fs → EachPaired P fs gs → Says (chain_text names position.Unit [] (codes " and ") fs gs) (spell_both (all_printed (restored_each names fs gs)))
    said_all none gs s p = absurd s
    said_all (also f fs) none s p = absurd p
    said_all (also f fs) (also g gs) s p =
        subst (λ (ps : List TerminalForm). Says (chain_text names position.Unit [] (codes " and ") (also f fs) (also g gs)) ps)
        (sym (all_spells (as_one (shape (restored_by names f g))) (restored_each names fs gs)))
        (say_on _ (chain_text names position.Unit (codes " and ") (codes " and ") fs gs) _ (later_all (restored_each names fs gs)) (said_one f g (said f g p.0)) (fits_all fs gs) (said_more_all fs gs p.1))

    said_more_all : (fs : Logics FormAtom) (gs : Logics GoalAtom) → EachPaired P fs gs → Says (chain_text names position.Unit (codes " and ") (codes " and ") fs gs) (later_all (restored_each names fs gs))
    said_more_all none gs p = say_nothing Fits
    said_more_all (also f fs) none p = absurd p
    said_more_all (also f fs) (also g gs) p =
        say_then (codes " and ") _ (conjunct ∷ []) (spell_one (as_one (shape (restored_by names f g))) ++ later_all (restored_each names fs gs)) say_and
        (say_on _ (chain_text names position.Unit (codes " and ") (codes " and ") fs gs) _ (later_all (restored_each names fs gs)) (said_one f g (said f g p.0)) (fits_all fs gs) (said_more_all fs gs p.1))

    said_any : (fs : Logics FormAtom) (gs : Logics GoalAtom) → IsSome fs → EachPaired P fs gs → Says (chain_text names position.Both [] (codes " or ") fs gs) (spell_either (any_printed (restored_each names fs gs)))
    said_any none gs s p = absurd s
    said_any (also f fs) none s p = absurd p
    said_any (also f fs) (also g gs) s p =
        subst (λ (ps : List TerminalForm). Says (chain_text names position.Both [] (codes " or ") (also f fs) (also g gs)) ps)
        (sym (any_spells (as_both (shape (restored_by names f g))) (restored_each names fs gs)))
        (say_on _ (chain_text names position.Both (codes " or ") (codes " or ") fs gs) _ (later_any (restored_each names fs gs)) (said_both f g (said f g p.0)) (fits_any fs gs) (said_more_any fs gs p.1))

    said_more_any : (fs : Logics FormAtom) (gs : Logics GoalAtom) → EachPaired P fs gs → Says (chain_text names position.Both (codes " or ") (codes " or ") fs gs) (later_any (restored_each names fs gs))
    said_more_any none gs p = say_nothing Fits
    said_more_any (also f fs) none p = absurd p
    said_more_any (also f fs) (also g gs) p =
        say_then (codes " or ") _ (disjunct ∷ []) (spell_both (as_both (shape (restored_by names f g))) ++ later_any (restored_each names fs gs)) say_or
        (say_on _ (chain_text names position.Both (codes " or ") (codes " or ") fs gs) _ (later_any (restored_each names fs gs)) (said_both f g (said f g p.0)) (fits_any fs gs) (said_more_any fs gs p.1))

  -- by itself
  pub printed_said : (f : Form) (g : GoalForm) → ArePaired P f g → Says (whole_text names f g) (spell (printed (restored_by names f g)))
  printed_said f g p = said_whole f g (said f g p)
