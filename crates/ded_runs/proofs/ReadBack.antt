-- Answers, read back from what is written of them.
--
-- The heading of an answer is that of an accepted command: its names are words, each once, and there are few of them. So what
-- is printed over it is read in one way alone.
use Rattle.std.proofs.Common.{◌≡◌, ◌≤◌, ◌^◌, ◌||◌, ℕ, false, List, [], ◌∷◌, length, refl, sym, ap, ◌∙◌, subst, arith}
use Rattle.std.specs.Prelude.{nat_lt}
use Rattle.std.specs.List.{AllByRecursion}
use Rattle.std.proofs.lemmas.Bool.{or_parts, false_from_ne_true}
use Rattle.std.proofs.lemmas.Bool.Decides.{nat_tests}
use Rattle.ded_lex.specs.Pieces.{Statement, Whole}
use Rattle.ded_lex.specs.Pieces as pieces
use Rattle.ded_model.specs.declared.command.Language.{Language}
use Rattle.ded_model.specs.declared.command.Refusal.TheVariants.{Many, Twice}
use Rattle.ded_model.specs.declared.name.Column.{Column}
use Rattle.ded_model.specs.Catalogue.{Catalogue}
use Rattle.ded_model.specs.Command.{CommandForm, query}
use Rattle.ded_model.specs.Form.{Form}
use Rattle.ded_model.specs.Known.{IsTupleOver, is_many, has_twice}
use Rattle.ded_model.specs.Row.{Atom}
use Rattle.ded_model.specs.Width.{tuple_length}
use Rattle.ded_readback.specs.Plain.{IsPlainHeading}
use Rattle.ded_readback.specs.Spelling.{IsShortTuple, SpellsAnswer}
use Rattle.ded_readback.proofs.AnswersRead.{one_list}
use Rattle.ded_sorts.specs.Causes.{has_cause}
use Rattle.ded_session.specs.PlainNames.{NamesPlainly}
use Rattle.ded_session.specs.Replies.{tuples}
use Rattle.ded_session.specs.Steps.{Step, Does, Accepted}
use Rattle.ded_session.specs.Texts.{text_of}
use Rattle.ded_session.proofs.PlainSpelling.{spelled_names}

-- a heading over which answers are read in one way, and tuples over it
pub record IsAnswered (h : List Column) (ts : List (List Atom)) : Type 0 where
  pub plain : IsPlainHeading h
  pub over : AllByRecursion (IsTupleOver h) ts

few_columns : (n m : ℕ) → (nat_lt 16 n || nat_lt 64 m) ≡ false → n ≤ 2 ^ 32
few_columns n m e = at_most (or_parts (nat_lt 16 n) (nat_lt 64 m) e).0
  where
    at_most : nat_lt 16 n ≡ false → n ≤ 2 ^ 32
    at_most k = grind (arith, nat_tests, k)

module _ (l : Language) (c d : Catalogue) (piece : List ℕ) where
  query_answered : (h k : List Column) (f : Form) (ts : List (List Atom)) (a : Accepted l piece c (λ x. Does x c (tuples k ts) d))
      → a.command ≡ query h f → IsAnswered k ts
  query_answered h k f ts a e =
      let so : Does (query h f) c (tuples k ts) d = subst (λ x. Does x c (tuples k ts) d) e a.so in
      let names = subst (λ x. NamesPlainly x) e (spelled_names l piece a.command a.depth a.spells) in
      let once = false_from_ne_true (has_twice h) (λ t. a.none Twice (record { command = a.command; depth = a.depth; spells = a.spells; cause = ap (has_cause Twice c) e ∙ t })) in
      let few = false_from_ne_true (is_many h f) (λ t. a.none Many (record { command = a.command; depth = a.depth; spells = a.spells; cause = ap (has_cause Many c) e ∙ t })) in
      subst (λ g. IsAnswered g ts) (sym so.0) (record {
        plain = record { once = once; words = names.0; few = few_columns (length h) _ few };
        over = so.1.over;
      })

  answered : (k : List Column) (ts : List (List Atom)) (a : Accepted l piece c (λ x. Does x c (tuples k ts) d)) → IsAnswered k ts
  answered k ts a = by a.command refl a.so
    where
      by : (x : CommandForm) → a.command ≡ x → Does x c (tuples k ts) d → IsAnswered k ts
      by (query h f) e so = query_answered h k f ts a e
      by _ e so = absurd so

pub answer_of : (l : Language) (c d : Catalogue) (s : Statement) (k : List Column) (ts : List (List Atom)) → Step l c s (tuples k ts) d → IsAnswered k ts
answer_of l c d (Whole piece) k ts a = answered l c d piece k ts a
answer_of l c d (pieces.Unfinished rest) k ts a = absurd a

short_tuples : (h : List Column) (ts : List (List Atom)) → AllByRecursion (IsTupleOver h) ts → AllByRecursion (λ t. tuple_length t ≤ 127) ts → AllByRecursion (IsShortTuple h) ts
short_tuples h [] over short = tt
short_tuples h (t ∷ ts) over short = ((over.0, short.0), short_tuples h ts over.1 short.1)

pub read_back : (l : Language) (c d : Catalogue) (s : Statement) (h : List Column) (ts : List (List Atom)) → Step l c s (tuples h ts) d
    → AllByRecursion (λ t. tuple_length t ≤ 127) ts → SpellsAnswer (text_of (tuples h ts)) h ts
read_back l c d s h ts step short = record { each = short_tuples h ts (answer_of l c d s h ts step).over short; text = refl }

pub read_only : (l : Language) (c d : Catalogue) (s : Statement) (h : List Column) (ts us : List (List Atom)) → Step l c s (tuples h ts) d
    → AllByRecursion (λ t. tuple_length t ≤ 127) ts → SpellsAnswer (text_of (tuples h ts)) h us → us ≡ ts
read_only l c d s h ts us step short other =
    one_list (text_of (tuples h ts)) h us ts (answer_of l c d s h ts step).plain other (read_back l c d s h ts step short)
