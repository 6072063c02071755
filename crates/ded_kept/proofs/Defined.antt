-- Texts that are kept define one catalogue, text by text.
use Rattle.std.proofs.Common.{◌≡◌, ℕ, Bool, true, false, ◌||◌, List, [], ◌∷◌, ◌++◌, map, refl, sym, ap, ◌∙◌, subst, arith, ⊎_elim}
use Rattle.std.proofs.lemmas.List.{map-append}
use Rattle.std.proofs.lemmas.Bool.{or_parts}
use Rattle.ded_lex.specs.Pieces.{Statement, Whole}
use Rattle.ded_model.specs.declared.command.Language.{Language}
use Rattle.ded_model.specs.declared.command.Language.TheVariants.{Opening, Two}
use Rattle.ded_model.specs.Catalogue.{Catalogue}
use Rattle.ded_reread.specs.Lines.{header_text}
use Rattle.ded_reread.proofs.Lines.{header_spelled}
use Rattle.ded_session.specs.Replies.{ReplyForm, is_refusal, some_refusal, done, number, truth, tuples, stored, boxes, steps, script, apart, meeting, refused}
use Rattle.ded_session.specs.Runs.{GoesOn, Steps, empty_catalogue}
use Rattle.ded_session.specs.Steps.{IsHeaderIn, Step}
use Rattle.ded_kept.specs.Answering.{is_change, kept_text}
use Rattle.ded_kept.specs.Defining.{IsDefinedBy, header_line}

-- a reply that tells a change is no refusal
pub no_refusal : (reply : ReplyForm) → is_change reply ≡ true → is_refusal reply ≡ false
no_refusal done is = refl
no_refusal (number k) is = refl
no_refusal (truth b) is = refl
no_refusal (tuples h ts) is = refl
no_refusal (stored h ts) is = refl
no_refusal (boxes h b) is = refl
no_refusal (steps plan) is = refl
no_refusal (script lines) is = refl
no_refusal (apart es) is = refl
no_refusal (meeting i j) is = refl
no_refusal (refused r) is = sym is

-- one statement more in the second language
one_more : (c d e : Catalogue) (ss : List Statement) (replies : List ReplyForm) (s : Statement) (reply : ReplyForm) → Steps Two c ss replies d → Step Two d s reply e → Steps Two c (ss ++ s ∷ []) (replies ++ reply ∷ []) e
one_more c d e [] [] s reply same step = subst (λ (x : Catalogue). Steps Two x (s ∷ []) (reply ∷ []) e) same (e, Two, step, refl, refl)
one_more c d e [] (r ∷ replies) s reply never step = absurd never
one_more c d e (t ∷ ss) [] s reply never step = absurd never
one_more c d e (t ∷ ss) (r ∷ replies) s reply (k, next, is, goes, more) step =
    (k, next, is, goes, subst (λ l. Steps l k (ss ++ s ∷ []) (replies ++ reply ∷ []) e) (sym goes) (one_more k d e ss replies s reply (subst (λ l. Steps l k ss replies d) goes more) step))

none_refused : (replies : List ReplyForm) (reply : ReplyForm) → some_refusal replies ≡ false → is_refusal reply ≡ false → some_refusal (replies ++ reply ∷ []) ≡ false
none_refused [] reply none last = ap (λ (b : Bool). b || false) last
none_refused (r ∷ replies) reply none last =
    let both = or_parts (is_refusal r) (some_refusal replies) none in
    ap (λ (b : Bool). b || some_refusal (replies ++ reply ∷ [])) both.0 ∙ none_refused replies reply both.1 last

-- a text more
pub defines_more : (limit : ℕ) (list : List (List ℕ)) (c d : Catalogue) (piece : List ℕ) (reply : ReplyForm) → IsDefinedBy limit list c → Step Two c (Whole piece) reply d → is_change reply ≡ true → IsDefinedBy limit (list ++ kept_text (Whole piece) ∷ []) d
defines_more limit list c d piece reply defined step change = record {
  first = defined.first;
  begun = defined.begun;
  begins = defined.begins;
  is_begun = defined.is_begun;
  pieces = defined.pieces ++ piece ∷ [];
  texts = ap (λ (l : List (List ℕ)). l ++ kept_text (Whole piece) ∷ []) defined.texts ∙ ap (λ (l : List (List ℕ)). header_line ∷ l) (sym (map-append (λ (p : List ℕ). kept_text (Whole p)) defined.pieces (piece ∷ [])));
  replies = defined.replies ++ reply ∷ [];
  steps = subst (λ (ss : List Statement). Steps Two defined.begun ss (defined.replies ++ reply ∷ []) d) (sym (map-append Whole defined.pieces (piece ∷ [])))
      (one_more defined.begun c d (map Whole defined.pieces) defined.replies (Whole piece) reply defined.steps step);
  accepted = none_refused defined.replies reply defined.accepted (no_refusal reply change);
}

-- the header alone
pub defines_none : (limit : ℕ) (c : Catalogue) (reply : ReplyForm) → is_refusal reply ≡ false → Step Opening (empty_catalogue limit) (Whole header_text) reply c → IsDefinedBy limit (header_line ∷ []) c
defines_none limit c reply accepted step = record {
  first = reply;
  begun = c;
  begins = step;
  is_begun = accepted;
  pieces = [];
  texts = refl;
  replies = [];
  steps = refl;
  accepted = refl;
}

-- the header is read in the opening language, and what comes behind it in the second one
pub second_behind : (language next : Language) → language ≡ Opening → GoesOn language (Whole header_text) next → next ≡ Two
second_behind language next opening goes = ⊎_elim (λ h. h.1) (λ other. absurd (other.0 is_header)) (subst (λ l. GoesOn l (Whole header_text) next) opening goes)
  where
    is_header : IsHeaderIn Opening (Whole header_text)
    is_header = (omega arith, header_spelled)
