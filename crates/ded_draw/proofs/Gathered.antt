-- The replies that are gathered are those of the run.
use Rattle.std.proofs.Common.{◌≡◌, List, [], ◌∷◌, ◌++◌, Bool, false, ◌||◌, refl, sym, ap, ◌∙◌, append_assoc}
use Rattle.std.proofs.lemmas.List.{append-nil}
use Rattle.ded_dialogue.specs.Forms.{GivesAll}
use Rattle.ded_dialogue.specs.Replies.{Said}
use Rattle.ded_dialogue.specs.Replies as heard
use Rattle.ded_dialogue.specs.Runs.{Steps}
use Rattle.ded_lex.specs.Pieces.{Statement}
use Rattle.ded_run.specs.OneSession.{MayReply}
use Rattle.ded_session.specs.Replies.{ReplyForm, is_refusal, some_refusal}
use Rattle.ded_draw.specs.Gathering.{Gathered, MayGather, told, told_of}

-- one reply for each statement, what they tell is gathered, and memory was never wanting
pub record AllGathered (m : Gathered) (ss : List Statement) (said : List Said) (n : Gathered) : Type 0 where
  pub replies : List ReplyForm
  pub steps : GivesAll MayReply m.standing ss replies n.standing
  pub are : n.replies ≡ m.replies ++ told replies
  pub refuses : heard.some_refusal said ≡ some_refusal replies
  pub fed : m.starved ≡ false

pub all_gathered : (m n : Gathered) (ss : List Statement) (said : List Said) → Steps MayGather m ss said n → n.starved ≡ false → AllGathered m ss said n
all_gathered m n [] [] same fed = record {
  replies = [];
  steps = ap (λ (g : Gathered). g.standing) same;
  are = ap (λ (g : Gathered). g.replies) same ∙ sym (append-nil m.replies);
  refuses = refl;
  fed = sym (ap (λ (g : Gathered). g.starved) same) ∙ fed;
}
all_gathered m n [] (r ∷ said) never fed = absurd never
all_gathered m n (s ∷ ss) [] never fed = absurd never
all_gathered m n (s ∷ ss) (r ∷ said) (next, g, more) fed =
    let rest : AllGathered next ss said n = all_gathered next n ss said more fed in
    let h = g.gathered rest.fed in
    record {
      replies = g.reply ∷ rest.replies;
      steps = (next.standing, g.step, rest.steps);
      are = rest.are ∙ ap (λ (l : List ReplyForm). l ++ told rest.replies) h.1 ∙ append_assoc m.replies (told_of g.reply) (told rest.replies);
      refuses = ap (λ (t : Said). t.refuses || heard.some_refusal said) g.is ∙ ap (λ (b : Bool). is_refusal g.reply || b) rest.refuses;
      fed = h.0;
    }
