-- What the loop says of shared sessions that answer, in the words of their replies.
use Rattle.std.proofs.Common.{◌≡◌, ℕ, List, [], ◌∷◌, ◌++◌, refl, ap, subst, Bool, ◌||◌}
use Rattle.std.specs.Prelude.{map}
use Rattle.ded_dialogue.specs.Forms.{GivesAll, AllHeard}
use Rattle.ded_dialogue.specs.Replies.{Said}
use Rattle.ded_dialogue.specs.Replies as heard
use Rattle.ded_dialogue.specs.Runs as runs
use Rattle.ded_dialogue.proofs.Hearing.{Told, Tells, all_heard}
use Rattle.ded_lex.specs.Pieces.{Statement}
use Rattle.ded_model.specs.Catalogue.{Catalogue}
use Rattle.ded_session.specs.Replies.{done}
use Rattle.ded_session.specs.Runs.{empty_catalogue}
use Rattle.ded_shared.specs.Events.{serial, inside}
use Rattle.ded_shared.specs.Forms.{SharedForm, plain, refuses, some_refuses}
use Rattle.ded_shared.specs.Hearing.{MayReply, MayAnswer, said_of}
use Rattle.ded_shared.specs.Outcome.{SharedRun, InputRun, shared_protocol}
use Rattle.ded_shared.specs.Rules.{SharedStep, SharedSteps}
use Rattle.ded_shared.specs.Serial.{AreSteps}
use Rattle.ded_shared.specs.State.{State, first_state}
use Rattle.ded_shared.specs.Tags.{Tagged, begins, AreTagged}
use Rattle.ded_shared.specs.Texts.{shared_text, shared_texts}
use Rattle.ded_shared.proofs.Places.{parted, behind_first}

-- the statements that count are steps of one session
abbrev pub IsSerial : Type 0
IsSerial = (limit : ℕ) (statements : List Statement) (xs : List Tagged) (replies : List SharedForm) (t : State) → AreTagged statements xs
    → SharedSteps (first_state limit) xs replies t → AreSteps (empty_catalogue limit) (serial xs replies) t.shared

-- the statements of each transaction are steps of one session
abbrev pub AreTransactions : Type 0
AreTransactions = (limit : ℕ) (statements more : List Statement) (before later : List Tagged) (got answers : List SharedForm) (k : ℕ) (s u t : State)
    → AreTagged statements before → SharedSteps (first_state limit) before got s → SharedStep s (begins k) (plain done) u
    → AreTagged more later → SharedSteps u later answers t → (end : Catalogue) × AreSteps s.shared (inside k later answers) end

-- the statements are tagged ones, with these replies
record AreTold (s : State) (ss : List Statement) (replies : List SharedForm) (t : State) : Type 0 where
  tagged : List Tagged
  are : AreTagged ss tagged
  steps : SharedSteps s tagged replies t

told : (s t : State) (ss : List Statement) (replies : List SharedForm) → GivesAll MayReply s ss replies t → AreTold s ss replies t
told s t [] [] same = record { tagged = []; are = tt; steps = same }
told s t [] (r ∷ replies) never = absurd never
told s t (z ∷ ss) [] never = absurd never
told s t (z ∷ ss) (r ∷ replies) (next, is, more) =
    let rest : AreTold next ss replies t = told next t ss replies more in
    record { tagged = is.tagged ∷ rest.tagged; are = (is.is, rest.are); steps = (next, is.step, rest.steps) }

refusals_heard : (replies : List SharedForm) → heard.some_refusal (map said_of replies) ≡ some_refuses replies
refusals_heard [] = refl
refusals_heard (r ∷ replies) = ap (λ (b : Bool). refuses r || b) (refusals_heard replies)

texts_heard : (replies : List SharedForm) → heard.texts (map said_of replies) ≡ shared_texts replies
texts_heard [] = refl
texts_heard (r ∷ replies) = ap (λ (l : List ℕ). shared_text r ++ l) (texts_heard replies)

-- ---- of an input that begins without entries and transactions

module _ (is_serial : IsSerial) (are_transactions : AreTransactions) (limit : ℕ) (m : State) (is_first : m ≡ first_state limit) where
  from_first : (t : State) (ss : List Statement) (said : List Said) → runs.Steps MayAnswer m ss said t → AllHeard MayReply said_of (first_state limit) ss said t
  from_first t ss said steps = all_heard MayReply said_of (first_state limit) t ss said (subst (λ (k : State). runs.Steps MayAnswer k ss said t) is_first steps)

  transactions_in : (ss : List Statement) (xs : List Tagged) → AreTagged ss xs → (before later rest : List Tagged) (got answers : List SharedForm) (k : ℕ) (s u t : State)
      → xs ≡ before ++ (begins k ∷ (later ++ rest)) → SharedSteps (first_state limit) before got s → SharedStep s (begins k) (plain done) u → SharedSteps u later answers t
      → (end : Catalogue) × AreSteps s.shared (inside k later answers) end
  transactions_in ss xs are before later rest got answers k s u t cut p q r =
      let a = parted ss before (begins k ∷ (later ++ rest)) (subst (AreTagged ss) cut are) in
      let b = behind_first a.back (begins k) (later ++ rest) a.backs in
      let c = parted b.0 later rest b.1 in
      are_transactions limit a.front c.front before later got answers k s u t a.fronts p q c.fronts r

  run_of : (t : State) (ss : List Statement) (said : List Said) (h : AllHeard MayReply said_of (first_state limit) ss said t) → SharedRun limit ss h.replies t
  run_of t ss said h =
      let x : AreTold (first_state limit) ss h.replies t = told (first_state limit) t ss h.replies h.steps in
      record {
        tagged = x.tagged;
        are = x.are;
        steps = x.steps;
        serial = is_serial limit ss x.tagged h.replies t x.are x.steps;
        transactions = transactions_in ss x.tagged x.are;
      }

  told_steps : (ss : List Statement) (said : List Said) (t : State) → runs.Steps MayAnswer m ss said t → Told said_of (SharedRun limit ss) said
  told_steps ss said t steps =
      let s : AllHeard MayReply said_of (first_state limit) ss said t = from_first t ss said steps in
      record { replies = s.replies; last = t; is = run_of t ss said s; are = s.are }

  told_run : (bytes : List ℕ) (said : List Said) (t : State) → runs.Run MayAnswer m bytes said t → Told said_of (InputRun limit bytes) said
  told_run bytes said t run =
      let s : Told said_of (SharedRun limit run.statements) said = told_steps run.statements said t run.steps in
      record { replies = s.replies; last = s.last; is = record { statements = run.statements; cut = run.cut; run = s.is }; are = s.are }

  pub tells : Tells MayAnswer m said_of (shared_protocol limit)
  tells = record { runs = told_run; steps = told_steps; texts_are = texts_heard; refusals_are = refusals_heard }
