-- Bytes that go on, pieces that end in them, and the end of the script.
use Rattle.std.proofs.Common.{◌≡◌, ℕ, ◌+◌, ◌<◌, ◌≤◌, length, take, drop, get_or, List, [], ◌∷◌, ◌++◌, refl, sym, ap, ◌∙◌, inl, inr, append_assoc, subst, Bool, false, ◌||◌, arith}
use Rattle.std.specs.Prelude.{◌-◌, ◌⊎◌, zero, suc, Option, map, Result, Ok, Err, IfOk, OnErr}
use Rattle.std.specs.Io.KnownBytes.{Appends}
use Rattle.std.proofs.Math.Bool.{or-false}
use Rattle.std.proofs.lemmas.List.{append-nil, map-append, take_all, take_more, take-append-drop, length-take}
use Rattle.ded_num.proofs.Tests.{adds_none}
use Rattle.ded_io.specs.Devices.{Sent, AddsAll}
use Rattle.ded_io.proofs.Steps.{sent_whole, sent_both, sent_longer, all_sent}
use Rattle.ded_lex.specs.Gaps.{IsBlank}
use Rattle.ded_lex.specs.Pieces.{Statement, Whole, HasNoWhole, IsCut, EndsPiece}
use Rattle.ded_lex.specs.Pieces as pieces
use Rattle.ded_lex.proofs.Cuts.{goes_on, has_statements, statements_on}
use Rattle.ded_dialogue.specs.declared.dialogue.Dialogue.{Dialogue}
use Rattle.ded_dialogue.specs.Replies.{Said, texts}
use Rattle.ded_dialogue.specs.Runs.{Answers, Steps}
use Rattle.ded_dialogue.specs.Outcome.{ConcludedIn, WholesAnswered, Interrupted}
use Rattle.ded_dialogue.specs.Hearing.{heard_from}
use Rattle.ded_dialogue.specs.Streams.{SoFar, IsBehind, Stopped, Streaming, Streamed, Grows, Breaks, GrowsBehind, BreaksBehind, IsFresh, EndsWith, spoken}
use Rattle.ded_dialogue.specs.Waiting.{WritesBehind}
use Rattle.ded_dialogue.proofs.Steps.{GoesOn, SomeSteps, some_steps}
use Rattle.ded_dialogue.proofs.OneMore.{heard_later, drop_none, counts_more, refuses_more, writes_more, front_of}

-- ---- what a call wrote

pub writes_aloud : {T E : Type 0} (r : Result T E) (h0 h1 : Option (List ℕ)) (w0 w1 : List ℕ) (silent : ℕ) (reply : Said) → silent ≡ 0 → WritesBehind h0 w0 h1 w1 r reply.text → WritesBehind h0 w0 h1 w1 r (spoken silent reply)
writes_aloud r h0 h1 w0 w1 silent reply none writes = subst (λ (k : ℕ). WritesBehind h0 w0 h1 w1 r (spoken k reply)) (sym none) writes

-- a reply that isn't written adds nothing
pub writes_silently : (E : Type 0) (h : Option (List ℕ)) (w : List ℕ) (silent : ℕ) (reply : Said) → 0 < silent → WritesBehind {T = Unit {0}} {E = E} h w h w (Ok tt) (spoken silent reply)
writes_silently E h w zero reply some = absurd (omega (arith, some))
writes_silently E h w (suc left) reply some = record { bytes = record { front = []; is = sym (append-nil w); adds = adds_none h } }

-- what follows where the text was written, and where only a front of it was
pub if_written : {T E : Type 0} (r : Result T E) (h0 h1 : Option (List ℕ)) (w0 w1 bytes : List ℕ) (P : Type 0) → WritesBehind h0 w0 h1 w1 r bytes → (Sent h0 h1 (w0 ++ bytes) w1 → P) → IfOk r (λ _. P)
if_written (Ok x) h0 h1 w0 w1 bytes P writes f = f writes.bytes
if_written (Err e) h0 h1 w0 w1 bytes P writes f = tt

pub if_not : {T E : Type 0} (r : Result T E) (h0 h1 : Option (List ℕ)) (w0 w1 bytes : List ℕ) (P : Type 0) → WritesBehind h0 w0 h1 w1 r bytes → ((rest : List ℕ) → Sent h0 h1 (w0 ++ bytes) rest → P) → OnErr r P
if_not (Ok x) h0 h1 w0 w1 bytes P writes f = tt
if_not (Err e) h0 h1 w0 w1 bytes P writes f = f writes.bytes.0 writes.bytes.1

-- the same of a call that sends bytes
pub if_sent : {T E : Type 0} (r : Result T E) (h0 h1 : Option (List ℕ)) (bytes : List ℕ) (P : Type 0) → AddsAll h0 h1 r bytes → (Appends h0 h1 bytes → P) → IfOk r (λ _. P)
if_sent (Ok x) h0 h1 bytes P adds f = f adds
if_sent (Err e) h0 h1 bytes P adds f = tt

pub if_not_sent : {T E : Type 0} (r : Result T E) (h0 h1 : Option (List ℕ)) (bytes : List ℕ) (P Q : Type 0) → AddsAll h0 h1 r bytes → OnErr r Q → ((rest : List ℕ) → Q → Sent h0 h1 bytes rest → P) → OnErr r P
if_not_sent (Ok x) h0 h1 bytes P Q adds q f = tt
if_not_sent (Err e) h0 h1 bytes P Q adds q f = f adds.0 q adds.1

pub on_err : {T E : Type 0} (r : Result T E) (P : Type 0) → P → OnErr r P
on_err (Ok x) P p = tt
on_err (Err e) P p = p

-- what a splitter keeps of a piece fits in its buffer
pub short_piece : (kept piece : List ℕ) (ended : ℕ) → piece ≡ take ended kept → ended ≤ 65536 → length piece ≤ 65536
short_piece kept piece ended is most = omega (arith, ap length is, length-take ended kept)

-- ---- from byte to byte

none_whole : HasNoWhole []
none_whole [] after b = absurd (nothing b.is)
  where
    nothing : {x : ℕ} {xs : List ℕ} → [] ≡ x ∷ xs → ⊥
    nothing e = cc
none_whole (p ∷ piece) after b = absurd (nothing b.is)
  where
    nothing : {x : ℕ} {xs : List ℕ} → [] ≡ x ∷ xs → ⊥
    nothing e = cc

-- no whole piece stands in what is left
pub no_whole_left : (pieces : List (List ℕ)) (taken tail : List ℕ) → IsCut taken pieces tail → HasNoWhole tail
no_whole_left [] taken tail cut = subst HasNoWhole (sym cut.1) cut.0
no_whole_left (piece ∷ pieces) taken tail cut = no_whole_left pieces cut.0 tail cut.2

-- the piece that a byte ends, in front of further statements
ended_first : (pieces : List (List ℕ)) (piece : List ℕ) (statements : List Statement) → map Whole pieces ++ (Whole piece ∷ statements) ≡ map Whole (pieces ++ piece ∷ []) ++ statements
ended_first pieces piece statements = sym (ap (λ (l : List Statement). l ++ statements) (map-append Whole pieces (piece ∷ [])) ∙ append_assoc (map Whole pieces) (Whole piece ∷ []) statements)

-- what was answered from the beginning on, with no refusal before it, is concluded
pub concludes : {M : Type 0} (R : Answers M) (start : M) (silent : ℕ) (taken : List ℕ) (h0 h1 : Option (List ℕ)) (refused : Bool) (last : M) → EndsWith R start silent false taken h0 h1 refused last → ConcludedIn (heard_from R start) silent taken h0 h1 refused last
concludes R start silent taken h0 h1 refused last e = (record { replies = e.replies; last = last; run = e.run; written = e.written; refuses = e.refuses }, refl)

module _ {M : Type 0} (R : Answers M) (start : M) (silent left : ℕ) where
  -- before the first byte
  pub starts : (m : M) (refused : Bool) (contents : Option (List ℕ)) → m ≡ start → refused ≡ false → left ≡ silent → SoFar R start silent left false [] [] m refused [] contents contents
  starts m refused contents same none all = record {
    pieces = [];
    cut = (none_whole, refl);
    replies = [];
    goes = λ statements more last steps. subst (λ (n : M). Steps R n statements more last) same steps;
    counts = omega (arith, all);
    written = subst (λ (rs : List Said). Sent contents contents (texts rs) []) (sym (drop_none silent)) (sent_whole contents contents [] (adds_none contents));
    behind = inl refl;
    refuses = sym none;
  }

  module _ (before : Bool) (taken tail : List ℕ) (m : M) (refused : Bool) (w : List ℕ) (h0 h1 : Option (List ℕ)) (s : SoFar R start silent left before taken tail m refused w h0 h1) where
    -- a byte that ends no piece
    pub byte_more : (b : ℕ) → IsCut (tail ++ b ∷ []) [] (tail ++ b ∷ []) → SoFar R start silent left before (taken ++ b ∷ []) (tail ++ b ∷ []) m refused w h0 h1
    byte_more b cut = record {
      pieces = s.pieces;
      cut = subst (λ (ps : List (List ℕ)). IsCut (taken ++ b ∷ []) ps (tail ++ b ∷ [])) (append-nil s.pieces) (goes_on s.pieces taken tail (b ∷ []) [] (tail ++ b ∷ []) s.cut cut);
      replies = s.replies;
      goes = s.goes;
      counts = s.counts;
      written = s.written;
      behind = s.behind;
      refuses = s.refuses;
    }

    goes_behind : (n : M) (reply : Said) → R m (Whole tail) reply n → (statements : List Statement) (more : List Said) (last : M) → Steps R n statements more last
        → Steps R start (map Whole (s.pieces ++ tail ∷ []) ++ statements) ((s.replies ++ reply ∷ []) ++ more) last
    goes_behind n reply step statements more last steps =
        subst (λ (ss : List Statement). Steps R start ss ((s.replies ++ reply ∷ []) ++ more) last) (ended_first s.pieces tail statements)
        (subst (λ (rs : List Said). Steps R start (map Whole s.pieces ++ (Whole tail ∷ statements)) rs last) (sym (append_assoc s.replies (reply ∷ []) more))
        (s.goes (Whole tail ∷ statements) (reply ∷ more) last (n, step, steps)))

    -- the byte that ends a piece, and its reply
    pub piece_ends : (n : M) (now : Bool) (later : ℕ) (h2 : Option (List ℕ)) (waits : List ℕ) (b : ℕ) (reply : Said) → EndsPiece tail b → R m (Whole tail) reply n → now ≡ refused || reply.refuses → later ≡ left - 1 → Sent h1 h2 (w ++ spoken left reply) waits → SoFar R start silent later before (taken ++ b ∷ []) [] n now waits h0 h2
    piece_ends n now later h2 waits b reply end step is next_counts write = record {
      pieces = s.pieces ++ tail ∷ [];
      cut = goes_on s.pieces taken tail (b ∷ []) (tail ∷ []) [] s.cut end.cut;
      replies = s.replies ++ reply ∷ [];
      goes = λ statements more last steps. goes_behind n reply step statements more last steps;
      counts = counts_more silent left later s.replies reply s.counts next_counts;
      written = writes_more h0 h1 h2 silent left s.replies reply w waits s.counts s.written write;
      behind = inr (record { before = m; statement = Whole tail; reply = reply; step = step });
      refuses = refuses_more before s.replies reply refused now s.refuses is;
    }

    -- the sink failed at that reply
    pub piece_stops : GoesOn R → (n : M) (h2 : Option (List ℕ)) (b : ℕ) (reply : Said) (unwritten : List ℕ) → EndsPiece tail b → R m (Whole tail) reply n → Sent h1 h2 (w ++ spoken left reply) unwritten → Stopped R start silent (taken ++ b ∷ []) h0 h2
    piece_stops on n h2 b reply unwritten end step write = λ more.
        let cut = goes_on s.pieces taken tail (b ∷ []) (tail ∷ []) [] s.cut end.cut in
        let coming = has_statements more in
        let later : SomeSteps R n coming.0 = some_steps R on m n (Whole tail) reply step coming.0 in
        let unheard : List ℕ = texts (drop (left - 1) later.replies) in
        record {
          replies = (s.replies ++ reply ∷ []) ++ later.replies;
          last = later.last;
          run = record {
            statements = map Whole (s.pieces ++ tail ∷ []) ++ coming.0;
            cut = statements_on (taken ++ b ∷ []) more (s.pieces ++ tail ∷ []) [] coming.0 cut coming.1;
            steps = goes_behind n reply step coming.0 later.replies later.last later.steps;
          };
          unwritten = unwritten ++ unheard;
          written = subst (λ (rs : List Said). Sent h0 h2 (texts (drop silent rs)) (unwritten ++ unheard)) (sym (append_assoc s.replies (reply ∷ []) later.replies))
              (front_of h0 h1 h2 silent left s.replies reply later.replies w unwritten s.counts s.written write);
        }

    -- what waits was sent
    pub all_written : (h2 : Option (List ℕ)) → Appends h1 h2 w → SoFar R start silent left before taken tail m refused [] h0 h2
    all_written h2 adds = record {
      pieces = s.pieces;
      cut = s.cut;
      replies = s.replies;
      goes = s.goes;
      counts = s.counts;
      written = sent_both h0 h1 h2 (texts (drop silent s.replies)) w [] s.written (sent_whole h1 h2 w adds);
      behind = inl refl;
      refuses = s.refuses;
    }

    -- or the sink failed
    pub waiting_stops : GoesOn R → (h2 : Option (List ℕ)) (rest : List ℕ) → (w ≡ [] → ⊥) → Sent h1 h2 w rest → Stopped R start silent taken h0 h2
    waiting_stops on h2 rest some write = λ more.
        let b : IsBehind R m = is_behind s.behind in
        let coming = has_statements (tail ++ more) in
        let later : SomeSteps R m coming.0 = some_steps R on b.before m b.statement b.reply b.step coming.0 in
        let unheard : List ℕ = texts (drop left later.replies) in
        record {
          replies = s.replies ++ later.replies;
          last = later.last;
          run = record {
            statements = map Whole s.pieces ++ coming.0;
            cut = statements_on taken more s.pieces tail coming.0 s.cut coming.1;
            steps = s.goes coming.0 later.replies later.last later.steps;
          };
          unwritten = rest ++ unheard;
          written = subst (λ (l : List ℕ). Sent h0 h2 l (rest ++ unheard)) (sym (heard_later silent left s.replies later.replies s.counts))
              (sent_longer h0 h2 (texts (drop silent s.replies)) rest unheard (sent_both h0 h1 h2 (texts (drop silent s.replies)) w rest s.written write));
        }
      where
        is_behind : (w ≡ []) ⊎ IsBehind R m → IsBehind R m
        is_behind (inl none) = absurd (some none)
        is_behind (inr b) = b

    -- what was answered is told as what stood before the tail
    pub from_here : SoFar R m left left refused tail tail m refused [] h1 h1
    from_here = record {
      pieces = [];
      cut = (no_whole_left s.pieces taken tail s.cut, refl);
      replies = [];
      goes = λ statements more last steps. steps;
      counts = omega arith;
      written = subst (λ (rs : List Said). Sent h1 h1 (texts rs) []) (sym (drop_none left)) (sent_whole h1 h1 [] (adds_none h1));
      behind = inl refl;
      refuses = or-false refused;
    }

    -- the steps up to here, and nothing behind them
    pub steps_here : Steps R start (map Whole s.pieces) s.replies m
    steps_here =
        subst (λ (ss : List Statement). Steps R start ss s.replies m) (append-nil (map Whole s.pieces))
        (subst (λ (rs : List Said). Steps R start (map Whole s.pieces ++ []) rs m) (append-nil s.replies)
        (s.goes [] [] m refl))

    -- the tail is blank
    pub ends_blank : w ≡ [] → IsBlank tail → EndsWith R start silent before taken h0 h1 refused m
    ends_blank none blank = record {
      replies = s.replies;
      run = record {
        statements = map Whole s.pieces;
        cut = record { pieces = s.pieces; rest = tail; cut = s.cut; are = inl (blank, refl) };
        steps = steps_here;
      };
      written = all_sent h0 h1 (texts (drop silent s.replies)) (subst (λ (l : List ℕ). Sent h0 h1 (texts (drop silent s.replies)) l) none s.written);
      refuses = s.refuses;
    }

    -- the tail is a statement that no ; ends, and its reply
    pub ends_rest : (n : M) (now : Bool) (h2 : Option (List ℕ)) (reply : Said) → (IsBlank tail → ⊥) → R m (pieces.Unfinished tail) reply n → now ≡ refused || reply.refuses → Sent h1 h2 (w ++ spoken left reply) [] → EndsWith R start silent before taken h0 h2 now n
    ends_rest n now h2 reply full step is write = record {
      replies = s.replies ++ reply ∷ [];
      run = record {
        statements = map Whole s.pieces ++ pieces.Unfinished tail ∷ [];
        cut = record { pieces = s.pieces; rest = tail; cut = s.cut; are = inr (full, refl) };
        steps = s.goes (pieces.Unfinished tail ∷ []) (reply ∷ []) n (n, step, refl);
      };
      written = all_sent h0 h2 (texts (drop silent (s.replies ++ reply ∷ []))) (writes_more h0 h1 h2 silent left s.replies reply w [] s.counts s.written write);
      refuses = refuses_more before s.replies reply refused now s.refuses is;
    }

    -- the sink failed at that reply
    pub rest_stops : (n : M) (h2 : Option (List ℕ)) (reply : Said) (unwritten : List ℕ) → (IsBlank tail → ⊥) → R m (pieces.Unfinished tail) reply n → Sent h1 h2 (w ++ spoken left reply) unwritten → Interrupted (heard_from R start) silent taken h0 h2
    rest_stops n h2 reply unwritten full step write = record {
      replies = s.replies ++ reply ∷ [];
      last = n;
      run = record {
        statements = map Whole s.pieces ++ pieces.Unfinished tail ∷ [];
        cut = record { pieces = s.pieces; rest = tail; cut = s.cut; are = inr (full, refl) };
        steps = s.goes (pieces.Unfinished tail ∷ []) (reply ∷ []) n (n, step, refl);
      };
      unwritten = unwritten ++ texts (drop (left - 1) []);
      written = front_of h0 h1 h2 silent left s.replies reply [] w unwritten s.counts s.written write;
    }

-- no whole piece that was taken is without its reply
pub wholes_answered : {M : Type 0} (R : Answers M) (start : M) (left : ℕ) (before : Bool) (taken tail : List ℕ) (m : M) (refused : Bool) (h0 h1 : Option (List ℕ)) → SoFar R start 0 left before taken tail m refused [] h0 h1 → WholesAnswered (heard_from R start) taken h0 h1
wholes_answered R start left before taken tail m refused h0 h1 s = record {
  pieces = s.pieces;
  rest = tail;
  cut = s.cut;
  replies = s.replies;
  last = m;
  steps = steps_here R start 0 left before taken tail m refused [] h0 h1 s;
  written = all_sent h0 h1 (texts s.replies) s.written;
}

-- ---- bytes in turn

-- and the script went on
stops_on : {M : Type 0} (R : Answers M) (start : M) (silent : ℕ) (bytes more : List ℕ) (h0 h1 : Option (List ℕ)) → Stopped R start silent bytes h0 h1 → Stopped R start silent (bytes ++ more) h0 h1
stops_on R start silent bytes more h0 h1 s = λ further. subst (λ (l : List ℕ). Interrupted (heard_from R start) silent l h0 h1) (sym (append_assoc bytes more further)) (s (more ++ further))

-- the sink failed, and nothing came behind
pub stops_here : {M : Type 0} (R : Answers M) (start : M) (silent : ℕ) (bytes : List ℕ) (h0 h1 : Option (List ℕ)) → Stopped R start silent bytes h0 h1 → Interrupted (heard_from R start) silent bytes h0 h1
stops_here R start silent bytes h0 h1 s = subst (λ (l : List ℕ). Interrupted (heard_from R start) silent l h0 h1) (append-nil bytes) (s [])

module _ {A M : Type 0} (R : Answers M) (state : A → M) where
  pub fresh_streams : (machine : A) (silent : ℕ) (d : Dialogue A) (contents : Option (List ℕ)) → IsFresh machine silent d → Streamed R state (state machine) silent false d [] contents contents
  fresh_streams machine silent d contents fresh = record {
    tail = [];
    since = fresh.since;
    so_far = starts R (state machine) silent d.silent (state d.machine) d.refused contents (ap state fresh.answering) fresh.refused fresh.left;
  }

  -- what was answered is told as what stood before the tail
  pub streams_from_here : (start : M) (silent : ℕ) (before : Bool) (d : Dialogue A) (taken : List ℕ) (h0 h1 : Option (List ℕ)) (s : Streamed R state start silent before d taken h0 h1)
      → Streamed R state (state d.machine) d.silent d.refused d s.tail h1 h1
  streams_from_here start silent before d taken h0 h1 s = record {
    tail = s.tail;
    since = s.since;
    so_far = from_here R start silent d.silent before taken s.tail (state d.machine) d.refused [] h0 h1 s.so_far;
  }

  pub grows_none : (a : Dialogue A) (h0 : Option (List ℕ)) → Grows R state a a h0 h0 []
  grows_none a h0 = record { on = λ start silent before taken was s. subst (λ (l : List ℕ). Streamed R state start silent before a l was h0) (sym (append-nil taken)) s }

  pub grows_both : (a b c : Dialogue A) (h0 h1 h2 : Option (List ℕ)) (xs ys : List ℕ) → Grows R state a b h0 h1 xs → Grows R state b c h1 h2 ys → Grows R state a c h0 h2 (xs ++ ys)
  grows_both a b c h0 h1 h2 xs ys p q = record {
    on = λ start silent before taken was s. subst (λ (l : List ℕ). Streamed R state start silent before c l was h2) (append_assoc taken xs ys) (q.on start silent before (taken ++ xs) was (p.on start silent before taken was s));
  }

  pub grows_breaks : (a b : Dialogue A) (h0 h1 h2 : Option (List ℕ)) (xs ys : List ℕ) → Grows R state a b h0 h1 xs → Breaks R state b h1 h2 ys → Breaks R state a h0 h2 (xs ++ ys)
  grows_breaks a b h0 h1 h2 xs ys p q = record {
    on = λ start silent before taken was s. subst (λ (l : List ℕ). Stopped R start silent l was h2) (append_assoc taken xs ys) (q.on start silent before (taken ++ xs) was (p.on start silent before taken was s));
  }

  pub breaks_on : (a : Dialogue A) (h0 h1 : Option (List ℕ)) (xs ys : List ℕ) → Breaks R state a h0 h1 xs → Breaks R state a h0 h1 (xs ++ ys)
  breaks_on a h0 h1 xs ys p = record {
    on = λ start silent before taken was s. subst (λ (l : List ℕ). Stopped R start silent l was h1) (append_assoc taken xs ys) (stops_on R start silent (taken ++ xs) ys was h1 (p.on start silent before taken was s));
  }

  -- ---- bytes behind which texts wait

  pub behind_none : (a : Dialogue A) (h0 : Option (List ℕ)) (w : List ℕ) → w ≡ [] → GrowsBehind R state a a h0 [] h0 w []
  behind_none a h0 w none = record {
    on = λ start silent before taken was s. subst (λ (v : List ℕ). Streaming R state start silent before a (taken ++ []) v was h0) (sym none)
        (subst (λ (l : List ℕ). Streaming R state start silent before a l [] was h0) (sym (append-nil taken)) s);
  }

  pub breaks_now : (a : Dialogue A) (h0 h1 : Option (List ℕ)) (bytes : List ℕ) → BreaksBehind R state a h0 [] h1 bytes → Breaks R state a h0 h1 bytes
  breaks_now a h0 h1 bytes p = record { on = p.on }

  module _ (a b : Dialogue A) (h0 h1 h2 : Option (List ℕ)) (w0 w1 bytes : List ℕ) (i : ℕ) (lt : i < length bytes) (p : GrowsBehind R state a b h0 w0 h1 w1 (take i bytes)) where
    -- one byte more
    further : (taken : List ℕ) → (taken ++ take i bytes) ++ get_or bytes i 0 ∷ [] ≡ taken ++ take (i + 1) bytes
    further taken = append_assoc taken (take i bytes) (get_or bytes i 0 ∷ []) ∙ ap (λ (l : List ℕ). taken ++ l) (sym (take_more bytes i 0 lt))

    -- the next of the bytes was taken
    pub behind_byte : (c : Dialogue A) (w2 : List ℕ) → GrowsBehind R state b c h1 w1 h2 w2 (get_or bytes i 0 ∷ []) → GrowsBehind R state a c h0 w0 h2 w2 (take (i + 1) bytes)
    behind_byte c w2 q = record {
      on = λ start silent before taken was s. subst (λ (l : List ℕ). Streaming R state start silent before c l w2 was h2) (further taken)
          (q.on start silent before (taken ++ take i bytes) was (p.on start silent before taken was s));
    }

    -- the sink failed at one of the bytes
    pub breaks_byte : BreaksBehind R state b h1 w1 h2 (get_or bytes i 0 ∷ []) → BreaksBehind R state a h0 w0 h2 bytes
    breaks_byte q = record {
      on = λ start silent before taken was s.
          let here : Stopped R start silent (taken ++ take (i + 1) bytes) was h2 = subst (λ (l : List ℕ). Stopped R start silent l was h2) (further taken)
          (q.on start silent before (taken ++ take i bytes) was (p.on start silent before taken was s)) in
          subst (λ (l : List ℕ). Stopped R start silent l was h2)
          (append_assoc taken (take (i + 1) bytes) (drop (i + 1) bytes) ∙ ap (λ (l : List ℕ). taken ++ l) (take-append-drop (i + 1) bytes))
          (stops_on R start silent (taken ++ take (i + 1) bytes) (drop (i + 1) bytes) was h2 here);
    }

  -- all of the bytes were taken
  pub behind_all : (a b : Dialogue A) (h0 h1 : Option (List ℕ)) (w bytes : List ℕ) (i : ℕ) → length bytes ≤ i → GrowsBehind R state a b h0 [] h1 w (take i bytes) → GrowsBehind R state a b h0 [] h1 w bytes
  behind_all a b h0 h1 w bytes i all p = subst (λ (l : List ℕ). GrowsBehind R state a b h0 [] h1 w l) (take_all i bytes all) p

  module _ (a b : Dialogue A) (h0 h1 h2 : Option (List ℕ)) (w bytes : List ℕ) (p : GrowsBehind R state a b h0 [] h1 w bytes) where
    -- what waits was sent
    pub grows_sent : Appends h1 h2 w → Grows R state a b h0 h2 bytes
    grows_sent adds = record {
      on = λ start silent before taken was s.
          let t : Streaming R state start silent before b (taken ++ bytes) w was h1 = p.on start silent before taken was s in
          record { tail = t.tail; since = t.since; so_far = all_written R start silent b.silent before (taken ++ bytes) t.tail (state b.machine) b.refused w was h1 t.so_far h2 adds };
    }

    -- or the sink failed
    pub breaks_sent : GoesOn R → (rest : List ℕ) → (w ≡ [] → ⊥) → Sent h1 h2 w rest → Breaks R state a h0 h2 bytes
    breaks_sent on rest some write = record {
      on = λ start silent before taken was s.
          let t : Streaming R state start silent before b (taken ++ bytes) w was h1 = p.on start silent before taken was s in
          waiting_stops R start silent b.silent before (taken ++ bytes) t.tail (state b.machine) b.refused w was h1 t.so_far on h2 rest some write;
    }
