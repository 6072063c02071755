-- Each statement may get some reply, and what a session answers is what it gives.
use Rattle.std.proofs.Common.{◌≡◌, Bool, true, false, List, ◌++◌, [], refl, sym, ◌∙◌, inl, inr, ⊎_elim}
use Rattle.std.specs.Prelude.{◌⊎◌, IsTrue}
use Rattle.ded_dialogue.specs.Replies.{Said}
use Rattle.ded_dialogue.specs.Runs.{SomeAnswer}
use Rattle.ded_lex.specs.Pieces.{Statement}
use Rattle.ded_model.specs.declared.command.Language.TheVariants.{Opening, Two}
use Rattle.ded_recording.specs.Listings.{Listing, MayList, SomeGiven, IsToldBy}
use Rattle.ded_run.specs.OneSession.{said_of}
use Rattle.ded_session.specs.Following.{some_step}
use Rattle.ded_session.specs.Replies.{done}
use Rattle.ded_session.specs.Steps.{IsHeaderIn}
use Rattle.ded_session.proofs.HeaderSteps.{header_in_decided}
use Rattle.ded_kept.specs.declared.session.KeptSession.{KeptSession}
use Rattle.ded_kept.specs.Answering.{KeptState, BeginsScript, keeps, kept_of}
use Rattle.ded_kept.specs.Machine.{state_of, listed_in, listing_of}

-- whether the statement is a header that comes first
begins_decided : (m : KeptState) (s : Statement) → BeginsScript m s ⊎ (BeginsScript m s → ⊥)
begins_decided m s = by m.is_first refl (header_in_decided Opening s)
  where
    differ : false ≡ true → ⊥
    differ e = cc

    by : (b : Bool) → m.is_first ≡ b → IsHeaderIn Opening s ⊎ (IsHeaderIn Opening s → ⊥) → BeginsScript m s ⊎ (BeginsScript m s → ⊥)
    by true first (inl h) = inl (first, h)
    by true first (inr none) = inr (λ b. none b.1)
    by false first h = inr (λ b. differ (sym first ∙ b.0))

-- each statement may get some reply
pub some_kept : (m : KeptState) (s : Statement) → SomeGiven keeps m s
some_kept m s = ⊎_elim
    (λ b. record {
      reply = said_of done;
      added = [];
      after = record m { is_first = false };
      is = record { reply = done; may = record { later = refl; step = inl (b, refl, refl, refl) }; is = refl };
    })
    (λ none.
    let step = some_step Two m.catalogue s not_opening in
    record {
      reply = said_of step.0;
      added = kept_of s step.0;
      after = record m { is_first = false };
      is = record { reply = step.0; may = record { later = refl; step = inr (none, step.1, refl) }; is = refl };
    })
    (begins_decided m s)
  where
    not_opening : Two ≡ Opening → ⊥
    not_opening e = cc

-- also behind another
pub any_next : (m n : Listing KeptState) (s next : Statement) (reply : Said) → MayList keeps m s reply n → SomeAnswer (MayList keeps) n next
any_next m n s next reply a =
    let g : SomeGiven keeps n.rest next = some_kept n.rest next in
    record {
      reply = g.reply;
      after = record { list = n.list ++ g.added; rest = g.after };
      is = record { added = g.added; step = g.is; list = refl };
    }

-- a state shows what the machine stands for as it is
pub told_as_is : IsToldBy (MayList keeps) listing_of keeps state_of listed_in
told_as_is = record {
  shows = λ m. m;
  is = λ machine. refl;
  step = λ m n s reply a. a;
}
