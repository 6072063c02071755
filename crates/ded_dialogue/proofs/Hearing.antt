-- What is said of a machine's replies, in their own form.
use Rattle.std.proofs.Common.{◌≡◌, ℕ, List, [], ◌∷◌, ◌++◌, take, drop, length, refl, sym, ap, ◌∙◌, subst, Bool}
use Rattle.std.specs.Prelude.{Option, map}
use Rattle.std.specs.Io.KnownBytes.{Appends}
use Rattle.std.proofs.lemmas.List.{drop-map, take-map}
use Rattle.ded_io.specs.Devices.{Sent}
use Rattle.ded_lex.specs.Pieces.{Statement, Whole}
use Rattle.ded_dialogue.specs.Forms.{Gives, Heard, AllHeard}
use Rattle.ded_dialogue.specs.Outcome.{Protocol, Concluded, Answered, WholesAnswered, Unread, Overlong, Interrupted, Broken}
use Rattle.ded_dialogue.specs.Hearing.{heard_from}
use Rattle.ded_dialogue.specs.Replies.{Said, texts, some_refusal}
use Rattle.ded_dialogue.specs.Runs.{Answers, Steps, Run}

-- the replies of a run
pub all_heard : {M F : Type 0} (G : Gives M F) (said_of : F → Said) (m n : M) (ss : List Statement) (said : List Said) → Steps (Heard G said_of) m ss said n → AllHeard G said_of m ss said n
all_heard G said_of m n [] [] same = record { replies = []; steps = same; are = refl }
all_heard G said_of m n [] (r ∷ said) never = absurd never
all_heard G said_of m n (s ∷ ss) [] never = absurd never
all_heard G said_of m n (s ∷ ss) (r ∷ said) (next, h, more) =
    let rest : AllHeard G said_of next ss said n = all_heard G said_of next n ss said more in
    record {
      replies = h.reply ∷ rest.replies;
      steps = (next, h.step, rest.steps);
      are = ap (λ (l : List Said). said_of h.reply ∷ l) rest.are ∙ ap (λ (t : Said). t ∷ said) (sym h.is);
    }

-- ---- a protocol in the machine's own form

-- some replies that may be given so are heard as these
pub record Told {F N : Type 0} (said_of : F → Said) (may : List F → N → Type 0) (said : List Said) : Type 0 where
  pub replies : List F
  pub last : N
  pub is : may replies last
  pub are : map said_of replies ≡ said

-- What the machine answers from this state on, is told by the protocol.
pub record Tells {F M N : Type 0} (R : Answers M) (start : M) (said_of : F → Said) (P : Protocol F N) : Type 0 where
  pub runs : (bytes : List ℕ) (said : List Said) (last : M) → Run R start bytes said last → Told said_of (P.runs bytes) said
  pub steps : (ss : List Statement) (said : List Said) (last : M) → Steps R start ss said last → Told said_of (P.steps ss) said
  pub texts_are : (replies : List F) → texts (map said_of replies) ≡ P.texts replies
  pub refusals_are : (replies : List F) → some_refusal (map said_of replies) ≡ P.refuses replies

module _ {F M N : Type 0} (R : Answers M) (start : M) (said_of : F → Said) (P : Protocol F N) (tells : Tells R start said_of P) where
  -- what is written of all replies, of the first so many, and of those behind them
  all_texts : (replies : List F) (said : List Said) → map said_of replies ≡ said → texts said ≡ P.texts replies
  all_texts replies said are = ap texts (sym are) ∙ tells.texts_are replies

  first_texts : (k : ℕ) (replies : List F) (said : List Said) → map said_of replies ≡ said → texts (take k said) ≡ P.texts (take k replies)
  first_texts k replies said are = all_texts (take k replies) (take k said) (sym (take-map said_of k replies) ∙ ap (λ (l : List Said). take k l) are)

  later_texts : (k : ℕ) (replies : List F) (said : List Said) → map said_of replies ≡ said → texts (drop k said) ≡ P.texts (drop k replies)
  later_texts k replies said are = all_texts (drop k replies) (drop k said) (sym (drop-map said_of k replies) ∙ ap (λ (l : List Said). drop k l) are)

  module _ (h0 h1 : Option (List ℕ)) where
    pub concluded : (silent : ℕ) (bytes : List ℕ) (refused : Bool) → Concluded (heard_from R start) silent bytes h0 h1 refused → Concluded P silent bytes h0 h1 refused
    concluded silent bytes refused c =
        let s : Told said_of (P.runs bytes) c.replies = tells.runs bytes c.replies c.last c.run in
        record {
          replies = s.replies;
          last = s.last;
          run = s.is;
          written = subst (λ (l : List ℕ). Appends h0 h1 l) (later_texts silent s.replies c.replies s.are) c.written;
          refuses = sym (tells.refusals_are s.replies) ∙ ap some_refusal s.are ∙ c.refuses;
        }

    pub interrupted : (silent : ℕ) (bytes : List ℕ) → Interrupted (heard_from R start) silent bytes h0 h1 → Interrupted P silent bytes h0 h1
    interrupted silent bytes c =
        let s : Told said_of (P.runs bytes) c.replies = tells.runs bytes c.replies c.last c.run in
        record {
          replies = s.replies;
          last = s.last;
          run = s.is;
          unwritten = c.unwritten;
          written = subst (λ (l : List ℕ). Sent h0 h1 l c.unwritten) (later_texts silent s.replies c.replies s.are) c.written;
        }

    wholes_answered : (bytes : List ℕ) → WholesAnswered (heard_from R start) bytes h0 h1 → WholesAnswered P bytes h0 h1
    wholes_answered bytes w =
        let s : Told said_of (P.steps (map Whole w.pieces)) w.replies = tells.steps (map Whole w.pieces) w.replies w.last w.steps in
        record {
          pieces = w.pieces;
          rest = w.rest;
          cut = w.cut;
          replies = s.replies;
          last = s.last;
          steps = s.is;
          written = subst (λ (l : List ℕ). Appends h0 h1 l) (all_texts s.replies w.replies s.are) w.written;
        }

    module _ (s0 s1 : Option (List ℕ)) where
      pub answered : (input_limit : ℕ) (refused : Bool) → Answered (heard_from R start) input_limit s0 s1 h0 h1 refused → Answered P input_limit s0 s1 h0 h1 refused
      answered input_limit refused a = record {
        taken = a.taken;
        takes = a.takes;
        read = a.read;
        whole = a.whole;
        within = a.within;
        concluded = concluded 0 a.taken refused a.concluded;
      }

      pub unread : (input_limit : ℕ) → Unread (heard_from R start) input_limit s0 s1 h0 h1 → Unread P input_limit s0 s1 h0 h1
      unread input_limit u = record { taken = u.taken; takes = u.takes; within = u.within; answered = wholes_answered u.taken u.answered }

      pub overlong : (input_limit : ℕ) → Overlong (heard_from R start) input_limit s0 s1 h0 h1 → Overlong P input_limit s0 s1 h0 h1
      overlong input_limit o = record { taken = o.taken; takes = o.takes; more = o.more; answered = wholes_answered (take input_limit o.taken) o.answered }

      pub broken : (given : Option (List ℕ)) → Broken (heard_from R start) s0 s1 given h0 h1 → Broken P s0 s1 given h0 h1
      broken given b =
          let s : Told said_of (P.runs (b.before ++ b.chunk)) b.replies = tells.runs (b.before ++ b.chunk) b.replies b.last b.run in
          record {
            before = b.before;
            chunk = b.chunk;
            takes = b.takes;
            newest = b.newest;
            pieces = b.pieces;
            rest = b.rest;
            cut = b.cut;
            replies = s.replies;
            last = s.last;
            run = s.is;
            between = b.between;
            answered = subst (λ (l : List ℕ). Appends h0 b.between l) (first_texts (length b.pieces) s.replies b.replies s.are) b.answered;
            unwritten = b.unwritten;
            written = subst (λ (l : List ℕ). Sent b.between h1 l b.unwritten) (later_texts (length b.pieces) s.replies b.replies s.are) b.written;
          }
