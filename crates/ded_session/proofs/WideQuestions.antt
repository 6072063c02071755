-- A question is refused as too wide only where it isn't narrow.
--
-- An accepted formula that is narrow is tight, and a tight one is no reason for the refusal.
use Rattle.std.proofs.Common.{◌≡◌, ℕ, false, List, [], refl}
use Rattle.ded_lex.specs.Pieces.{Statement, Whole}
use Rattle.ded_lex.specs.Pieces as pieces
use Rattle.ded_model.specs.declared.command.Language.{Language}
use Rattle.ded_model.specs.declared.command.Refusal.TheVariants.{Many, Twice, Unknown, Arity, Unbound, WrongSort, Wide}
use Rattle.ded_model.specs.declared.name.Column.{Column}
use Rattle.ded_model.specs.Catalogue.{Catalogue}
use Rattle.ded_model.specs.Command.{CommandForm, ask, query, box_of, disjoint, verify}
use Rattle.ded_model.specs.Entries.{known}
use Rattle.ded_model.specs.Form.{Form}
use Rattle.ded_model.specs.Known.{IsAccepted, IsWellFormed}
use Rattle.std.proofs.lemmas.Bool.{false_from_ne_true}
use Rattle.ded_sorts.specs.Causes.{has_cause}
use Rattle.ded_width.proofs.FormulaReaches.{formula_tight}
use Rattle.ded_session.proofs.Accepted.{accepted}
use Rattle.ded_session.specs.Replies.{refused}
use Rattle.ded_session.specs.Steps.{MayBeWide, Accepted, Accepts, Step}
use Rattle.ded_session.specs.Widths.{IsNotNarrow}

-- the causes that a question may have
pub record HasNone (c : Catalogue) (x : CommandForm) : Type 0 where
  pub many : has_cause Many c x ≡ false
  pub twice : has_cause Twice c x ≡ false
  pub unknown : has_cause Unknown c x ≡ false
  pub arity : has_cause Arity c x ≡ false
  pub unbound : has_cause Unbound c x ≡ false
  pub sort : has_cause WrongSort c x ≡ false

pub none : (language : Language) (bytes : List ℕ) (c : Catalogue) (Fact : CommandForm → Type 0) (a : Accepted language bytes c Fact) → HasNone c a.command
none language bytes c Fact a = record {
  many = false_from_ne_true _ (λ e. a.none Many (record { command = a.command; depth = a.depth; spells = a.spells; cause = e }));
  twice = false_from_ne_true _ (λ e. a.none Twice (record { command = a.command; depth = a.depth; spells = a.spells; cause = e }));
  unknown = false_from_ne_true _ (λ e. a.none Unknown (record { command = a.command; depth = a.depth; spells = a.spells; cause = e }));
  arity = false_from_ne_true _ (λ e. a.none Arity (record { command = a.command; depth = a.depth; spells = a.spells; cause = e }));
  unbound = false_from_ne_true _ (λ e. a.none Unbound (record { command = a.command; depth = a.depth; spells = a.spells; cause = e }));
  sort = false_from_ne_true _ (λ e. a.none WrongSort (record { command = a.command; depth = a.depth; spells = a.spells; cause = e }));
}

-- the formula of a question that has none of them is accepted
pub asked : (c : Catalogue) (f : Form) → HasNone c (ask f) → IsAccepted (known c) [] f
asked c f h = accepted c [] f h.many refl h.unknown h.arity h.unbound h.sort

pub queried : (c : Catalogue) (k : List Column) (f : Form) → HasNone c (query k f) → IsAccepted (known c) k f
queried c k f h = accepted c k f h.many h.twice h.unknown h.arity h.unbound h.sort

not_narrow : (c : Catalogue) (x : CommandForm) → IsWellFormed c → HasNone c x → MayBeWide x c → IsNotNarrow x c
not_narrow c (ask f) w h m = λ n. m (formula_tight c w [] f (asked c f h) n)
not_narrow c (query k f) w h m = λ n. m (formula_tight c w k f (queried c k f h) n)
not_narrow c (box_of n) w h m = m.0
not_narrow c (disjoint n k) w h m = m
not_narrow c (verify n k es) w h m = m
not_narrow c _ w h m = absurd m

pub wide_is : (language : Language) (c d : Catalogue) (s : Statement) → IsWellFormed c → Step language c s (refused Wide) d → Accepts language s c (λ x. IsNotNarrow x c)
wide_is language c d (Whole bytes) w p =
    let a = p.0 in
    record {
      none = a.none;
      command = a.command;
      depth = a.depth;
      spells = a.spells;
      so = not_narrow c a.command w (none language bytes c (λ x. MayBeWide x c) a) a.so;
    }
wide_is language c d (pieces.Unfinished rest) w p = absurd p.0
