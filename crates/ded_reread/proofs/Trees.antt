-- How a formula is printed, as a tree of the grammar. What is printed of a formula stands by itself, or as a member of a chain, on the
-- left of an arrow, or below a negation: where it would be read otherwise there, it stands between parentheses.
use Rattle.std.proofs.Common.{◌≡◌, List, ◌∷◌, refl, ap, ap₂, ◌∙◌, sym}
use Rattle.ded_model.specs.Point.{Key, name}
use Rattle.ded_model.specs.Form.{Form, FormAtom}
use Rattle.ded_model.specs.Logic.{atom, always, never, negation, every_of, some_of, implies, minus, exists, forall, Logics, none, also, logics}
use Rattle.ded_grammar.specs.declared.terminal.Quantifier.TheVariants.{Exists, Forall}
use Rattle.ded_grammar.specs.Trees.{TerminalForm, Whole, only, follows, Either, either_last, either_more, Both, both_last, both_more, One, negated, bound, grouped, plain, around, spell, spell_either, spell_both, spell_one, meaning, members_either, members_both, meaning_one, all_of, any_of}
use Rattle.ded_print.specs.Plans.{key_text}
use Rattle.ded_dump.specs.Headings.{variable}
use Rattle.ded_reread.specs.Words.{Test, IsNamed, IsWritten, AreWritten, IsChain}

-- ---- shapes

-- a unit, an `and`, an `or`, or an `implies`
pub data Shape : Type 0 where
  unit : One → Shape
  conjunction : Both → Shape
  disjunction : Either → Shape
  implication : Whole → Shape

-- below a negation, and as a member of an `and`
abbrev pub as_one : Shape → One
as_one (unit u) = u
as_one (conjunction b) = grouped (only (either_last b))
as_one (disjunction e) = grouped (only e)
as_one (implication w) = grouped w

-- as a member of an `or`
abbrev pub as_both : Shape → Both
as_both (unit u) = both_last u
as_both (conjunction b) = b
as_both (disjunction e) = both_last (grouped (only e))
as_both (implication w) = both_last (grouped w)

-- on the left of an `implies`
abbrev pub as_either : Shape → Either
as_either (unit u) = either_last (both_last u)
as_either (conjunction b) = either_last b
as_either (disjunction e) = e
as_either (implication w) = either_last (both_last (grouped w))

-- by itself
abbrev pub as_whole : Shape → Whole
as_whole (unit u) = only (either_last (both_last u))
as_whole (conjunction b) = only (either_last b)
as_whole (disjunction e) = only e
as_whole (implication w) = w

abbrev mutual
  pub shape : Form → Shape
  shape (atom a) = unit (plain (atom a))
  shape always = unit (plain always)
  shape never = unit (plain never)
  shape (negation f) = unit (negated (as_one (shape f)))
  shape (every_of fs) = conjunction (all_printed fs)
  shape (some_of fs) = disjunction (any_printed fs)
  shape (implies e f) = implication (follows (as_either (shape e)) (as_whole (shape f)))
  shape (minus e f) = unit (plain always)
  shape (exists s k f) = unit (bound Exists (variable s k) (around (as_whole (shape f))))
  shape (forall s k f) = unit (bound Forall (variable s k) (around (as_whole (shape f))))

  -- nothing is printed of no members
  pub all_printed : Logics FormAtom → Both
  all_printed none = both_last (plain always)
  all_printed (also f fs) = all_from (as_one (shape f)) fs

  pub all_from : One → Logics FormAtom → Both
  all_from u none = both_last u
  all_from u (also f fs) = both_more u (all_from (as_one (shape f)) fs)

  pub any_printed : Logics FormAtom → Either
  any_printed none = either_last (both_last (plain always))
  any_printed (also f fs) = any_from (as_both (shape f)) fs

  pub any_from : Both → Logics FormAtom → Either
  any_from b none = either_last b
  any_from b (also f fs) = either_more b (any_from (as_both (shape f)) fs)

-- how it is printed by itself
abbrev pub printed : Form → Whole
printed f = as_whole (shape f)

-- ---- what it spells

abbrev pub spell_shape : Shape → List TerminalForm
spell_shape (unit u) = spell_one u
spell_shape (conjunction b) = spell_both b
spell_shape (disjunction e) = spell_either e
spell_shape (implication w) = spell w

pub spell_whole : (s : Shape) → spell (as_whole s) ≡ spell_shape s
spell_whole (unit u) = refl
spell_whole (conjunction b) = refl
spell_whole (disjunction e) = refl
spell_whole (implication w) = refl

-- ---- what it means

abbrev pub means : Shape → Form
means (unit u) = meaning_one u
means (conjunction b) = all_of (members_both b)
means (disjunction e) = any_of (members_either e)
means (implication w) = meaning w

one_means : (s : Shape) → meaning_one (as_one s) ≡ means s
one_means (unit u) = refl
one_means (conjunction b) = refl
one_means (disjunction e) = refl
one_means (implication w) = refl

both_means : (s : Shape) → all_of (members_both (as_both s)) ≡ means s
both_means (unit u) = refl
both_means (conjunction b) = refl
both_means (disjunction e) = refl
both_means (implication w) = refl

either_means : (s : Shape) → any_of (members_either (as_either s)) ≡ means s
either_means (unit u) = refl
either_means (conjunction b) = refl
either_means (disjunction e) = refl
either_means (implication w) = refl

whole_means : (s : Shape) → meaning (as_whole s) ≡ means s
whole_means (unit u) = refl
whole_means (conjunction b) = refl
whole_means (disjunction e) = refl
whole_means (implication w) = refl

-- two members or more are a chain
pub all_more : (f : Form) (b : Both) → all_of (f ∷ members_both b) ≡ every_of (logics (f ∷ members_both b))
all_more f (both_last u) = refl
all_more f (both_more u b) = refl

pub any_more : (f : Form) (e : Either) → any_of (f ∷ members_either e) ≡ some_of (logics (f ∷ members_either e))
any_more f (either_last b) = refl
any_more f (either_more b e) = refl

module _ (N M T : Test) where
  key_named : (k : Key) → IsNamed N k → name (key_text k) ≡ k
  key_named k n = ap (λ (x : Key). name (key_text x)) n.is ∙ sym n.is

  mutual
    -- the tree that is printed means the formula
    shape_means : (f : Form) → IsWritten N M T f → means (shape f) ≡ f
    shape_means (atom a) h = refl
    shape_means always h = refl
    shape_means never h = refl
    shape_means (negation f) h = ap negation (one_means (shape f) ∙ shape_means f h)
    shape_means (every_of fs) h = all_means fs h.0 h.1
    shape_means (some_of fs) h = any_means fs h.0 h.1
    shape_means (implies e f) h = ap₂ implies (either_means (shape e) ∙ shape_means e h.0) (whole_means (shape f) ∙ shape_means f h.1)
    shape_means (minus e f) h = absurd h
    shape_means (exists s k f) h = ap₂ (exists s) (key_named k h.0) (whole_means (shape f) ∙ shape_means f h.1)
    shape_means (forall s k f) h = ap₂ (forall s) (key_named k h.0) (whole_means (shape f) ∙ shape_means f h.1)

    all_means : (fs : Logics FormAtom) → IsChain fs → AreWritten N M T fs → all_of (members_both (all_printed fs)) ≡ every_of fs
    all_means none c h = absurd c
    all_means (also f none) c h = absurd c
    all_means (also f (also g fs)) c h =
        all_more (meaning_one (as_one (shape f))) (all_from (as_one (shape g)) fs)
        ∙ ap₂ (λ (x : Form) (xs : Logics FormAtom). every_of (also x xs)) (one_means (shape f) ∙ shape_means f h.0)
        (members_all (as_one (shape g)) fs h.1.1 ∙ ap (λ (x : Form). also x fs) (one_means (shape g) ∙ shape_means g h.1.0))

    members_all : (u : One) (fs : Logics FormAtom) → AreWritten N M T fs → logics (members_both (all_from u fs)) ≡ also (meaning_one u) fs
    members_all u none h = refl
    members_all u (also g fs) h =
        ap (also (meaning_one u)) (members_all (as_one (shape g)) fs h.1 ∙ ap (λ (x : Form). also x fs) (one_means (shape g) ∙ shape_means g h.0))

    any_means : (fs : Logics FormAtom) → IsChain fs → AreWritten N M T fs → any_of (members_either (any_printed fs)) ≡ some_of fs
    any_means none c h = absurd c
    any_means (also f none) c h = absurd c
    any_means (also f (also g fs)) c h =
        any_more (all_of (members_both (as_both (shape f)))) (any_from (as_both (shape g)) fs)
        ∙ ap₂ (λ (x : Form) (xs : Logics FormAtom). some_of (also x xs)) (both_means (shape f) ∙ shape_means f h.0)
        (members_any (as_both (shape g)) fs h.1.1 ∙ ap (λ (x : Form). also x fs) (both_means (shape g) ∙ shape_means g h.1.0))

    members_any : (b : Both) (fs : Logics FormAtom) → AreWritten N M T fs → logics (members_either (any_from b fs)) ≡ also (all_of (members_both b)) fs
    members_any b none h = refl
    members_any b (also g fs) h =
        ap (also (all_of (members_both b))) (members_any (as_both (shape g)) fs h.1 ∙ ap (λ (x : Form). also x fs) (both_means (shape g) ∙ shape_means g h.0))

  -- and so does the one that is printed of it by itself
  pub printed_means : (f : Form) → IsWritten N M T f → meaning (printed f) ≡ f
  printed_means f h = whole_means (shape f) ∙ shape_means f h
