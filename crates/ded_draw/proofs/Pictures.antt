-- The picture of a run is that of what its replies tell.
use Rattle.std.proofs.Common.{◌≡◌, ℕ, List, Bool, false, ◌||◌, sym, ap, ◌∙◌, subst}
use Rattle.std.specs.Prelude.{Option}
use Rattle.std.specs.Io.KnownBytes.{Appends}
use Rattle.ded_io.specs.Devices.{Sent}
use Rattle.ded_dialogue.specs.Outcome.{AnsweredIn, Overlong}
use Rattle.ded_dialogue.specs.Hearing.{heard_from}
use Rattle.ded_drawing.specs.Drawings.{IsDrawing}
use Rattle.ded_drawing.specs.declared.drawing.Drawing.{Drawing}
use Rattle.ded_drawing.specs.declared.style.Style.{Style}
use Rattle.ded_svg.specs.Pictures.{svg_text}
use Rattle.ded_session.specs.Replies.{ReplyForm}
use Rattle.ded_draw.specs.Gathering.{Gathered, MayGather, first_gathered}
use Rattle.ded_draw.specs.Outcome.{IsOverlong, Pictured, HalfPictured, Written, HalfWritten}
use Rattle.ded_draw.proofs.Gathered.{AllGathered, all_gathered}

module _ (limit input_limit : ℕ) (style : Style) (m n : Gathered) (begins : m ≡ first_gathered limit) (fed : n.starved ≡ false) (s0 s1 g0 g1 : Option (List ℕ)) (refused : Bool) (a : AnsweredIn (heard_from MayGather m) input_limit s0 s1 g0 g1 refused n) where
  gathered : AllGathered (first_gathered limit) a.0.concluded.run.statements a.0.concluded.replies n
  gathered =
      subst (λ (k : Gathered). AllGathered k a.0.concluded.run.statements a.0.concluded.replies n) begins
      (subst (λ (k : Gathered). AllGathered m a.0.concluded.run.statements a.0.concluded.replies k) a.1
      (all_gathered m a.0.concluded.last a.0.concluded.run.statements a.0.concluded.replies a.0.concluded.run.steps (ap (λ (k : Gathered). k.starved) a.1 ∙ fed)))

  module _ (replies : List ReplyForm) (are : replies ≡ n.replies) (h0 h1 : Option (List ℕ)) where
    pub pictured : (now : Bool) → Written style replies refused h0 h1 now → Pictured limit input_limit style s0 s1 h0 h1 now
    pictured now w = record {
      drawing = w.drawing;
      is = record {
        taken = a.0.taken;
        takes = a.0.takes;
        read = a.0.read;
        within = a.0.within;
        statements = a.0.concluded.run.statements;
        cut = a.0.concluded.run.cut;
        replies = gathered.replies;
        last = n.standing;
        steps = gathered.steps;
        drawn = subst (λ (rs : List ReplyForm). IsDrawing style rs w.drawing) (are ∙ gathered.are) w.drawn;
        refuses = ap (λ (b : Bool). b || w.drawing.wide) (sym gathered.refuses ∙ a.0.concluded.refuses) ∙ w.refuses;
      };
      written = w.written;
    }

    pub half_pictured : HalfWritten style replies refused h0 h1 → HalfPictured limit input_limit style s0 s1 h0 h1
    half_pictured w = record {
      drawing = w.drawing;
      refused = refused || w.drawing.wide;
      is = record {
        taken = a.0.taken;
        takes = a.0.takes;
        read = a.0.read;
        within = a.0.within;
        statements = a.0.concluded.run.statements;
        cut = a.0.concluded.run.cut;
        replies = gathered.replies;
        last = n.standing;
        steps = gathered.steps;
        drawn = subst (λ (rs : List ReplyForm). IsDrawing style rs w.drawing) (are ∙ gathered.are) w.drawn;
        refuses = ap (λ (b : Bool). b || w.drawing.wide) (sym gathered.refuses ∙ a.0.concluded.refuses);
      };
      unwritten = w.unwritten;
      written = w.written;
    }

-- the same where it is known otherwise whether a statement was refused
pub by_status : (m n : Gathered) (input_limit : ℕ) (s0 s1 g0 g1 : Option (List ℕ)) {refused now : Bool} → AnsweredIn (heard_from MayGather m) input_limit s0 s1 g0 g1 refused n → now ≡ refused → AnsweredIn (heard_from MayGather m) input_limit s0 s1 g0 g1 now n
by_status m n input_limit s0 s1 g0 g1 a is = subst (λ (b : Bool). AnsweredIn (heard_from MayGather m) input_limit s0 s1 g0 g1 b n) (sym is) a

-- more was taken than may be
pub is_overlong : (m : Gathered) (input_limit : ℕ) (s0 s1 g0 g1 : Option (List ℕ)) → Overlong (heard_from MayGather m) input_limit s0 s1 g0 g1 → IsOverlong input_limit s0 s1
is_overlong m input_limit s0 s1 g0 g1 o = record { taken = o.taken; takes = o.takes; more = o.more }

-- ---- the text of a drawing

module _ (style : Style) (replies : List ReplyForm) (before : Bool) (drawing : Drawing) (drawn : IsDrawing style replies drawing) where
  pub was_written : {text : List ℕ} (refused : Bool) → before || drawing.wide ≡ refused → text ≡ svg_text drawing.picture → (h0 h1 : Option (List ℕ)) → Appends h0 h1 text → Written style replies before h0 h1 refused
  was_written refused refuses is h0 h1 adds = record {
    drawing = drawing;
    drawn = drawn;
    refuses = refuses;
    written = subst (λ (t : List ℕ). Appends h0 h1 t) is adds;
  }

  pub was_half_written : {text : List ℕ} → text ≡ svg_text drawing.picture → (h0 h1 : Option (List ℕ)) → (rest : List ℕ) × Sent h0 h1 text rest → HalfWritten style replies before h0 h1
  was_half_written is h0 h1 sent = record {
    drawing = drawing;
    drawn = drawn;
    unwritten = sent.0;
    written = subst (λ (t : List ℕ). Sent h0 h1 t sent.0) is sent.1;
  }
