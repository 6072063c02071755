-- A statement that is accepted in the plain language is accepted alike in each, and isn't the header; and where it spells a command
-- of the plain language it may be answered the same in the second one.
use Rattle.std.proofs.Common.{◌≡◌, ℕ, false, List, true≢false}
use Rattle.std.specs.Prelude.{◌↔◌}
use Rattle.ded_lex.specs.Pieces.{Statement, Whole}
use Rattle.ded_lex.specs.Pieces as pieces
use Rattle.ded_model.specs.declared.command.Language.{Language}
use Rattle.ded_model.specs.declared.command.Language.TheVariants.{Opening, One, Two}
use Rattle.ded_model.specs.declared.command.Refusal.{Refusal}
use Rattle.ded_model.specs.declared.command.Refusal.TheVariants.{LongStatement, Unfinished, Syntax, LongName, LongNumber, Deep, Wide, Memory}
use Rattle.ded_model.specs.Catalogue.{Catalogue}
use Rattle.ded_model.specs.Command.{CommandForm}
use Rattle.ded_syntax.specs.Spelling.{Spells}
use Rattle.ded_syntax.proofs.OpeningAlike.{no_header}
use Rattle.ded_syntax.proofs.PlainAlike.{spelled_too, spelled_plainly, refused_alike}
use Rattle.ded_session.specs.Causes.{Commands, AppliesWhole, Applies, IsLeast}
use Rattle.ded_session.specs.Replies.{ReplyForm, is_refusal, done, number, truth, tuples, stored, boxes, steps, script, apart, meeting, refused}
use Rattle.ded_session.specs.Steps.{IsHeaderIn, Accepted, Accepts, MayRefuse, Step}

-- ---- causes

module _ (l : Language) (c : Catalogue) (bytes : List ℕ) (x : CommandForm) (depth : ℕ) (s : Spells One bytes x depth) where
  commands_back : (q : Refusal) → Commands l bytes q c → Commands One bytes q c
  commands_back q h = record { command = h.command; depth = h.depth; spells = spelled_plainly l bytes x depth s h.command h.depth h.spells; cause = h.cause }

  whole_back : (q : Refusal) → AppliesWhole q l bytes c → AppliesWhole q One bytes c
  whole_back Syntax h = (refused_alike l bytes x depth s Syntax).0 h
  whole_back LongName h = h
  whole_back LongNumber h = (refused_alike l bytes x depth s LongNumber).0 h
  whole_back Deep h = (refused_alike l bytes x depth s Deep).0 h
  whole_back _ h = commands_back _ h

  applies_back : (q : Refusal) → Applies q l (Whole bytes) c → Applies q One (Whole bytes) c
  applies_back LongStatement h = h
  applies_back Unfinished h = h
  applies_back q h = whole_back q h

  -- and the other way
  commands_on : (q : Refusal) → Commands One bytes q c → Commands l bytes q c
  commands_on q h = record { command = h.command; depth = h.depth; spells = spelled_too l bytes h.command h.depth h.spells; cause = h.cause }

  whole_on : (q : Refusal) → AppliesWhole q One bytes c → AppliesWhole q l bytes c
  whole_on Syntax h = (refused_alike l bytes x depth s Syntax).1 h
  whole_on LongName h = h
  whole_on LongNumber h = (refused_alike l bytes x depth s LongNumber).1 h
  whole_on Deep h = (refused_alike l bytes x depth s Deep).1 h
  whole_on _ h = commands_on _ h

  applies_on : (q : Refusal) → Applies q One (Whole bytes) c → Applies q l (Whole bytes) c
  applies_on LongStatement h = h
  applies_on Unfinished h = h
  applies_on q h = whole_on q h

  least_on : (q : Refusal) → IsLeast q One (Whole bytes) c → IsLeast q l (Whole bytes) c
  least_on q h = record { applies = applies_on q h.applies; least = λ r less a. h.least r less (applies_back r a) }

  least_back : (q : Refusal) → IsLeast q l (Whole bytes) c → IsLeast q One (Whole bytes) c
  least_back q h = record { applies = applies_back q h.applies; least = λ r less a. h.least r less (applies_on r a) }

  accepted_back : (Fact : CommandForm → Type 0) → Accepted l bytes c Fact → Accepted One bytes c Fact
  accepted_back Fact a = record {
    none = λ q h. a.none q (applies_on q h);
    command = a.command;
    depth = a.depth;
    spells = spelled_plainly l bytes x depth s a.command a.depth a.spells;
    so = a.so;
  }

-- ---- statements

module _ (l : Language) (c : Catalogue) (Fact : CommandForm → Type 0) where
  accepted_on : (bytes : List ℕ) → Accepted One bytes c Fact → Accepted l bytes c Fact
  accepted_on bytes a = record {
    none = λ q h. a.none q (applies_back l c bytes a.command a.depth a.spells q h);
    command = a.command;
    depth = a.depth;
    spells = spelled_too l bytes a.command a.depth a.spells;
    so = a.so;
  }

  accepts_on : (s : Statement) → Accepts One s c Fact → Accepts l s c Fact
  accepts_on (Whole bytes) a = accepted_on bytes a
  accepts_on (pieces.Unfinished rest) a = absurd a

  accepts_no_header : (s : Statement) → Accepts One s c Fact → IsHeaderIn Opening s → ⊥
  accepts_no_header (Whole bytes) a h = no_header bytes a.command a.depth a.spells h.1
  accepts_no_header (pieces.Unfinished rest) a h = a

  steps_by : (s : Statement) → Accepts One s c Fact → Accepts l s c Fact × (IsHeaderIn Opening s → ⊥)
  steps_by s a = (accepts_on s a, accepts_no_header s a)

-- what isn't refused in the plain language may get the same in each
pub accepted_step : (l : Language) (c d : Catalogue) (s : Statement) (reply : ReplyForm) → is_refusal reply ≡ false → Step One c s reply d → Step l c s reply d × (IsHeaderIn Opening s → ⊥)
accepted_step l c d s (refused q) e h = absurd (true≢false e)
accepted_step l c d s done e h = steps_by l c _ s h
accepted_step l c d s (number k) e h = steps_by l c _ s h
accepted_step l c d s (truth b) e h = steps_by l c _ s h
accepted_step l c d s (tuples g ts) e h = steps_by l c _ s h
accepted_step l c d s (stored g ts) e h = steps_by l c _ s h
accepted_step l c d s (boxes g b) e h = steps_by l c _ s h
accepted_step l c d s (steps plan) e h = steps_by l c _ s h
accepted_step l c d s (script lines) e h = steps_by l c _ s h
accepted_step l c d s (apart es) e h = steps_by l c _ s h
accepted_step l c d s (meeting i j) e h = steps_by l c _ s h

-- ---- the second language

module _ (c d : Catalogue) (bytes : List ℕ) (x : CommandForm) (depth : ℕ) (s : Spells One bytes x depth) where
  refuses_on : (q : Refusal) → MayRefuse q One (Whole bytes) c → MayRefuse q Two (Whole bytes) c
  refuses_on Wide h = accepted_on Two c _ bytes h
  refuses_on Memory h = h
  refuses_on q h = least_on Two c bytes x depth s q h

  refuses_back : (q : Refusal) → MayRefuse q Two (Whole bytes) c → MayRefuse q One (Whole bytes) c
  refuses_back Wide h = accepted_back Two c bytes x depth s _ h
  refuses_back Memory h = h
  refuses_back q h = least_back Two c bytes x depth s q h

  step_on : (reply : ReplyForm) → Step One c (Whole bytes) reply d → Step Two c (Whole bytes) reply d
  step_on (refused q) h = (refuses_on q h.0, h.1)
  step_on done h = accepted_on Two c _ bytes h
  step_on (number k) h = accepted_on Two c _ bytes h
  step_on (truth b) h = accepted_on Two c _ bytes h
  step_on (tuples g ts) h = accepted_on Two c _ bytes h
  step_on (stored g ts) h = accepted_on Two c _ bytes h
  step_on (boxes g b) h = accepted_on Two c _ bytes h
  step_on (steps plan) h = accepted_on Two c _ bytes h
  step_on (script lines) h = accepted_on Two c _ bytes h
  step_on (apart es) h = accepted_on Two c _ bytes h
  step_on (meeting i j) h = accepted_on Two c _ bytes h

  step_back : (reply : ReplyForm) → Step Two c (Whole bytes) reply d → Step One c (Whole bytes) reply d
  step_back (refused q) h = (refuses_back q h.0, h.1)
  step_back done h = accepted_back Two c bytes x depth s _ h
  step_back (number k) h = accepted_back Two c bytes x depth s _ h
  step_back (truth b) h = accepted_back Two c bytes x depth s _ h
  step_back (tuples g ts) h = accepted_back Two c bytes x depth s _ h
  step_back (stored g ts) h = accepted_back Two c bytes x depth s _ h
  step_back (boxes g b) h = accepted_back Two c bytes x depth s _ h
  step_back (steps plan) h = accepted_back Two c bytes x depth s _ h
  step_back (script lines) h = accepted_back Two c bytes x depth s _ h
  step_back (apart es) h = accepted_back Two c bytes x depth s _ h
  step_back (meeting i j) h = accepted_back Two c bytes x depth s _ h

  pub same_step : (reply : ReplyForm) → Step One c (Whole bytes) reply d ↔ Step Two c (Whole bytes) reply d
  same_step reply = (step_on reply, step_back reply)
