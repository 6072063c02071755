-- What is written of a reply tells the reply, and with it the catalogue that the statement leaves.
--
-- Replies that are written alike are the same, but for tuples, plans and certificates. Tuples are read back from what is written of
-- them, and the lines of a plan and of certificates tell these.
use Rattle.std.proofs.Common.{◌≡◌, ℕ, List, [], ◌++◌, sym, ap, ap₂, subst}
use Rattle.std.specs.List.{AllByRecursion}
use Rattle.ded_lex.specs.Pieces.{Statement}
use Rattle.ded_model.specs.declared.command.Language.{Language}
use Rattle.ded_model.specs.declared.name.Column.{Column}
use Rattle.ded_model.specs.Catalogue.{Catalogue}
use Rattle.ded_model.specs.Known.{IsWellFormed}
use Rattle.ded_model.specs.Row.{Atom}
use Rattle.ded_model.specs.ShortRows.{HasShortRows}
use Rattle.ded_print.specs.Tuples.{answer_text}
use Rattle.ded_print.proofs.PlansTold.{same_texts}
use Rattle.ded_readback.specs.Spelling.{SpellsAnswer}
use Rattle.ded_session.specs.PlainNames.{HasPlainNames}
use Rattle.ded_session.specs.Replies.{ReplyForm, tuples, steps, apart}
use Rattle.ded_session.specs.Steps.{Step}
use Rattle.ded_session.specs.Texts.{text_of}
use Rattle.ded_session.proofs.Telling.{AreAlike, replies_alike, catalogue_told}
use Rattle.ded_session.proofs.ToldPlans.{sorts_in, told_steps}
use Rattle.ded_runs.proofs.ReadBack.{read_back, read_only}
use Rattle.ded_runs.proofs.ShortAnswers.{Lengths, short_answers}
use Rattle.ded_runs.proofs.Telling.{told}

module _ (laws : Lengths) (c : Catalogue) (formed : IsWellFormed c) (names : HasPlainNames c) (views : AllByRecursion HasShortRows c.entries) (l : Language) (s : Statement) (d e : Catalogue) where
  same_tuples : (h : List Column) (ts us : List (List Atom)) → answer_text h ts ≡ answer_text h us → Step l c s (tuples h ts) d → Step l c s (tuples h us) e → ts ≡ us
  same_tuples h ts us t p q =
      let short = short_answers laws c formed views l s h in
      sym (read_only l c d s h ts us p (short ts d p) (subst (λ text. SpellsAnswer text h us) (sym t) (read_back l c e s h us q (short us e q))))

  same_reply : (reply other : ReplyForm) → AreAlike reply other → Step l c s reply d → Step l c s other e → reply ≡ other
  same_reply (tuples h ts) (tuples k us) a p q = ap₂ tuples a.0 (same_tuples h ts us a.1 p (subst (λ g. Step l c s (tuples g us) e) (sym a.0) q))
  same_reply (steps f) (steps g) a p q = ap steps (same_texts (sorts_in c) f g [] [] (told_steps l c d names s f p) (told_steps l c e names s g q) (ap (λ t. t ++ []) a)).0
  same_reply (apart es) (apart fs) a p q = ap apart (told es fs a)
  same_reply reply other a p q = a

  pub one_reply : (reply other : ReplyForm) (xs ys : List ℕ) → Step l c s reply d → Step l c s other e → text_of reply ++ xs ≡ text_of other ++ ys → (reply ≡ other) × (d ≡ e) × (xs ≡ ys)
  one_reply reply other xs ys p q begins =
      let alike = replies_alike l c d e s reply other xs ys names p q begins in
      (same_reply reply other alike.0 p q, catalogue_told l c d e s reply other xs ys names p q begins formed, alike.1)
