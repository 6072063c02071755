-- A reply is heard as it is gathered.
use Rattle.std.proofs.Common.{◌≡◌, Bool, false, [], ◌++◌, true≢false, sym, ap, ◌∙◌}
use Rattle.std.specs.Prelude.{Result, Ok, Err, OnOk, is_err}
use Rattle.ded_dialogue.specs.Runs.{StandsFor}
use Rattle.ded_lex.specs.declared.piece.Piece.{Piece}
use Rattle.ded_lex.specs.Pieces.{Statement}
use Rattle.ded_run.proofs.Steps.{answers_step}
use Rattle.ded_session.specs.Pieces.{StepsPiece, GoesOnPiece}
use Rattle.ded_session.specs.Replies.{ReplyForm, is_refusal}
use Rattle.ded_draw.specs.Gathering.{Gathered, MayGather, told_of}

pub heard : (p : Piece) (m n : Gathered) (reply : ReplyForm) (refuses : Bool) → StepsPiece p m.standing.language m.standing.catalogue reply n.standing.catalogue → GoesOnPiece m.standing.language p n.standing.language
    → refuses ≡ is_refusal reply → (n.starved ≡ false → (m.starved ≡ false) × (n.replies ≡ m.replies ++ told_of reply))
    → (s : Statement) → StandsFor p s → MayGather m s (record { text = []; refuses = refuses }) n
heard p m n reply refuses step goes is gathered s stands = record {
  reply = reply;
  step = answers_step p m.standing n.standing reply step goes s stands;
  is = ap (λ (b : Bool). record { text = []; refuses = b }) is;
  gathered = gathered;
}

-- where the call that gathers went well
pub when_gathered : {A E P : Type 0} (r : Result A E) (failed : Bool) → failed ≡ false → failed ≡ is_err r → OnOk r P → P
when_gathered (Ok x) failed not is p = p
when_gathered (Err x) failed not is p = absurd (true≢false (sym is ∙ not))
