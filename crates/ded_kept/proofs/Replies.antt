-- What a piece is answered, and what is listed of it.
use Rattle.std.proofs.Common.{◌≡◌, ◌<◌, ◌≤◌, ℕ, true, false, List, [], ◌++◌, length, refl, sym, append-nil, subst, inl, inr, arith}
use Rattle.ded_dialogue.specs.Runs.{StandsFor}
use Rattle.ded_lex.specs.declared.piece.Piece.TheVariants as piece
use Rattle.ded_lex.specs.Pieces.{Statement, Whole, statement_bytes}
use Rattle.ded_lex.specs.Pieces as pieces
use Rattle.ded_model.specs.declared.command.Language.TheVariants.{Two}
use Rattle.ded_model.specs.declared.command.Refusal.TheVariants.{LongStatement, Unfinished}
use Rattle.ded_syntax.specs.Spelling.{IsHeader}
use Rattle.ded_session.specs.Following.{long_step, rest_step}
use Rattle.ded_session.specs.Replies.{ReplyForm, done, refused}
use Rattle.ded_session.specs.Steps.{Step}
use Rattle.ded_run.specs.OneSession.{said_of}
use Rattle.ded_recording.specs.Listings.{Listing, MayList}
use Rattle.ded_kept.specs.Answering.{KeptState, BeginsScript, keeps, kept_of}

-- behind the first statement
abbrev later : KeptState → KeptState
later m = record m { is_first = false }

module _ (list : List (List ℕ)) (m : KeptState) where
  abbrev here : Listing KeptState
  here = record { list = list; rest = m }

  -- a header that comes first
  pub begun : (bytes : List ℕ) (s : Statement) → s ≡ Whole bytes → length bytes ≤ 65536 → m.is_first ≡ true → IsHeader bytes → MayList keeps here s (said_of done) (record { list = list; rest = later m })
  begun bytes s is short first header = subst (λ (t : Statement). MayList keeps here t (said_of done) (record { list = list; rest = later m })) (sym is) (record {
    added = [];
    step = record { reply = done; may = record { later = refl; step = inl ((first, (short, header)), refl, refl, refl) }; is = refl };
    list = sym (append-nil list);
  })

  -- another whole piece
  pub whole_answered : (bytes : List ℕ) (s : Statement) (n : Listing KeptState) (reply : ReplyForm) → s ≡ Whole bytes → (m.is_first ≡ true → IsHeader bytes → ⊥) → Step Two m.catalogue (Whole bytes) reply n.rest.catalogue → n.rest.is_first ≡ false → n.list ≡ list ++ kept_of (Whole bytes) reply → MayList keeps here s (said_of reply) n
  whole_answered bytes s n reply is other step second listed = subst (λ (t : Statement). MayList keeps here t (said_of reply) n) (sym is) (record {
    added = kept_of (Whole bytes) reply;
    step = record { reply = reply; may = record { later = second; step = inr (λ b. other b.0 b.1.1, step, refl) }; is = refl };
    list = listed;
  })

  -- a statement that is too long
  pub long_answered : (s : Statement) → 65536 < length (statement_bytes s) → MayList keeps here s (said_of (refused LongStatement)) (record { list = list; rest = later m })
  long_answered s long = record {
    added = [];
    step = record { reply = refused LongStatement; may = record { later = refl; step = inr (λ b. not_begun s long b, long_step Two m.catalogue s long, refl) }; is = refl };
    list = sym (append-nil list);
  }
    where
      not_begun : (s : Statement) → 65536 < length (statement_bytes s) → BeginsScript m s → ⊥
      not_begun (Whole bytes) long b = absurd (omega (arith, b.1.0, long))
      not_begun (pieces.Unfinished rest) long b = b.1

  -- a statement that the end of the script cuts
  pub cut_answered : (s : Statement) → StandsFor piece.Cut s → MayList keeps here s (said_of (refused Unfinished)) (record { list = list; rest = later m })
  cut_answered (Whole bytes) never = absurd never
  cut_answered (pieces.Unfinished rest) short = record {
    added = [];
    step = record { reply = refused Unfinished; may = record { later = refl; step = inr (λ b. b.1, rest_step Two m.catalogue rest short, refl) }; is = refl };
    list = sym (append-nil list);
  }
