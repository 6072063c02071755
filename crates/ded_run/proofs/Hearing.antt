-- What the loop says of a session that answers, in the words of its replies.
use Rattle.std.proofs.Common.{◌≡◌, ℕ, List, [], ◌∷◌, ◌++◌, refl, ap, subst, Bool, ◌||◌}
use Rattle.std.specs.Prelude.{map}
use Rattle.ded_dialogue.specs.Forms.{GivesAll, AllHeard}
use Rattle.ded_dialogue.specs.Replies.{Said}
use Rattle.ded_dialogue.specs.Replies as heard
use Rattle.ded_dialogue.specs.Runs as runs
use Rattle.ded_dialogue.proofs.Hearing.{Told, Tells, all_heard}
use Rattle.ded_lex.specs.Pieces.{Statement}
use Rattle.ded_model.specs.declared.command.Language.TheVariants.{Opening}
use Rattle.ded_session.specs.Replies.{ReplyForm, is_refusal, some_refusal}
use Rattle.ded_session.specs.Runs.{Steps, Run, empty_catalogue}
use Rattle.ded_session.specs.Texts.{text_of, texts}
use Rattle.ded_run.specs.OneSession.{Standing, MayReply, MayAnswer, opening, said_of, session_protocol}

-- the replies that are heard, over a script that begins so
steps_of : (m n : Standing) (ss : List Statement) (replies : List ReplyForm) → GivesAll MayReply m ss replies n → Steps m.language m.catalogue ss replies n.catalogue
steps_of m n [] [] same = ap (λ (s : Standing). s.catalogue) same
steps_of m n [] (r ∷ replies) never = absurd never
steps_of m n (s ∷ ss) [] never = absurd never
steps_of m n (s ∷ ss) (r ∷ replies) (next, is, more) = (next.catalogue, next.language, is.step, is.goes_on, steps_of next n ss replies more)

texts_heard : (replies : List ReplyForm) → heard.texts (map said_of replies) ≡ texts replies
texts_heard [] = refl
texts_heard (r ∷ replies) = ap (λ (l : List ℕ). text_of r ++ l) (texts_heard replies)

refusals_heard : (replies : List ReplyForm) → heard.some_refusal (map said_of replies) ≡ some_refusal replies
refusals_heard [] = refl
refusals_heard (r ∷ replies) = ap (λ (b : Bool). is_refusal r || b) (refusals_heard replies)

-- ---- of a script that begins with an empty catalogue

module _ (limit : ℕ) (m : Standing) (begins : m ≡ opening limit) where
  told_steps : (ss : List Statement) (said : List Said) (n : Standing) → runs.Steps MayAnswer m ss said n → Told said_of (Steps Opening (empty_catalogue limit) ss) said
  told_steps ss said n steps =
      let s : AllHeard MayReply said_of (opening limit) ss said n =
      all_heard MayReply said_of (opening limit) n ss said (subst (λ (k : Standing). runs.Steps MayAnswer k ss said n) begins steps) in
      record { replies = s.replies; last = n.catalogue; is = steps_of (opening limit) n ss s.replies s.steps; are = s.are }

  told_run : (bytes : List ℕ) (said : List Said) (n : Standing) → runs.Run MayAnswer m bytes said n → Told said_of (Run limit bytes) said
  told_run bytes said n run =
      let s : Told said_of (Steps Opening (empty_catalogue limit) run.statements) said = told_steps run.statements said n run.steps in
      record { replies = s.replies; last = s.last; is = record { statements = run.statements; cut = run.cut; steps = s.is }; are = s.are }

  pub tells : Tells MayAnswer m said_of (session_protocol limit)
  tells = record { runs = told_run; steps = told_steps; texts_are = texts_heard; refusals_are = refusals_heard }
