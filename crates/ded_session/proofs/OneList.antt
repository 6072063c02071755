-- A statement shows one list of tuples at most.
use Rattle.std.proofs.Common.{◌≡◌, ℕ, refl, sym, ap, ◌∙◌, List}
use Rattle.ded_lex.specs.Pieces.{Statement, Whole}
use Rattle.ded_lex.specs.Pieces as pieces
use Rattle.ded_model.specs.declared.command.Language.{Language}
use Rattle.ded_model.specs.declared.name.Column.{Column}
use Rattle.ded_model.specs.Catalogue.{Catalogue}
use Rattle.ded_model.specs.Command.{CommandForm, show}
use Rattle.ded_model.specs.Row.{Atom}
use Rattle.ded_model.specs.Entries.{columns_in, tuples_in}
use Rattle.ded_syntax.proofs.One.{one_command}
use Rattle.ded_session.specs.Replies.{stored}
use Rattle.ded_session.specs.Steps.{Does, Step}

-- the name whose tuples these are
record IsShow (x : CommandForm) (c : Catalogue) (h : List Column) (ts : List (ℕ × List Atom)) : Type 0 where
  shown : List ℕ
  is : x ≡ show shown
  heading : h ≡ columns_in c shown
  list : ts ≡ tuples_in c shown

shows : (x : CommandForm) (c d : Catalogue) (h : List Column) (ts : List (ℕ × List Atom)) → Does x c (stored h ts) d → IsShow x c h ts
shows (show n) c d h ts k = record { shown = n; is = refl; heading = k.0; list = k.1 }
shows _ c d h ts k = absurd k

same_name : (n m : List ℕ) → show n ≡ show m → n ≡ m
same_name n m e = cc

pub one_list : (l : Language) (c d e : Catalogue) (s : Statement) (h k : List Column) (ts us : List (ℕ × List Atom)) → Step l c s (stored h ts) d → Step l c s (stored k us) e → (h ≡ k) × (ts ≡ us)
one_list l c d e (Whole bytes) h k ts us p q =
    let a = shows p.command c d h ts p.so in
    let b = shows q.command c e k us q.so in
    let same : a.shown ≡ b.shown = same_name a.shown b.shown (sym a.is ∙ (one_command l bytes p.command q.command p.depth q.depth p.spells q.spells).0 ∙ b.is) in
    (a.heading ∙ ap (columns_in c) same ∙ sym b.heading, a.list ∙ ap (tuples_in c) same ∙ sym b.list)
one_list l c d e (pieces.Unfinished rest) h k ts us p q = absurd p
