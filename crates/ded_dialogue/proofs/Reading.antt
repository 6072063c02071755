-- Reads that go on, and how they end.
use Rattle.std.proofs.Common.{◌≡◌, ℕ, ◌+◌, ◌<◌, ◌≤◌, length, take, drop, List, [], ◌++◌, refl, sym, ap, ◌∙◌, append_assoc, length-append, subst, arith, Bool, false}
use Rattle.std.specs.Prelude.{Option, None, Some, IfSome, map}
use Rattle.std.specs.Io.KnownBytes.{Appends, Consumes, Keeps, IsAtEnd}
use Rattle.std.proofs.lemmas.List.{append-nil, length-map, length-take-le, take-take, take-append-drop, take_at, drop_at}
use Rattle.std.proofs.Math.Seq.{take-append-add}
use Rattle.ded_dialogue.specs.declared.dialogue.Dialogue.{Dialogue}
use Rattle.ded_io.specs.Devices.{Sent}
use Rattle.ded_io.proofs.Steps.{all_sent}
use Rattle.ded_lex.specs.Pieces.{Whole}
use Rattle.ded_lex.proofs.Cuts.{statements_on}
use Rattle.ded_dialogue.specs.Replies.{Said, texts}
use Rattle.ded_dialogue.specs.Runs.{Answers, Run}
use Rattle.ded_dialogue.specs.Outcome.{AnsweredIn, ConcludedIn, WholesAnswered, Unread, Overlong, Interrupted, Broken}
use Rattle.ded_dialogue.specs.Hearing.{heard_from}
use Rattle.ded_dialogue.specs.Streams.{IsFresh, SoFar, Streamed, Grows, Breaks, Reading}
use Rattle.ded_dialogue.proofs.Feeding.{fresh_streams, steps_here, streams_from_here, wholes_answered}
use Rattle.ded_dialogue.proofs.Steps.{many_steps}

-- ---- bytes that are told

consumes_nothing : (a : Option (List ℕ)) → Consumes a a []
consumes_nothing None = tt
consumes_nothing (Some xs) = refl

consumes_both : (a b c : Option (List ℕ)) (xs ys : List ℕ) → Consumes a b xs → Consumes b c ys → Consumes a c (xs ++ ys)
consumes_both None b c xs ys p q = tt
consumes_both (Some u) None c xs ys p q = absurd p
consumes_both (Some u) (Some v) None xs ys p q = absurd q
consumes_both (Some u) (Some v) (Some w) xs ys p q = p ∙ ap (λ t. xs ++ t) q ∙ sym (append_assoc xs ys w)

consumes_kept : (a b c : Option (List ℕ)) (xs : List ℕ) → Consumes a b xs → Keeps b c → Consumes a c xs
consumes_kept None b c xs p k = tt
consumes_kept (Some u) None c xs p k = absurd p
consumes_kept (Some u) (Some v) None xs p k = absurd k
consumes_kept (Some u) (Some v) (Some w) xs p k = p ∙ ap (λ t. xs ++ t) (sym k)

-- at the end the bytes taken are the whole input
pub whole_input : (a b : Option (List ℕ)) (xs : List ℕ) (P : List ℕ → Type 0) → Consumes a b xs → IsAtEnd b → P xs → IfSome a P
whole_input None b xs P takes end p = tt
whole_input (Some u) None xs P takes end p = absurd takes
whole_input (Some u) (Some v) xs P takes end p = subst P (sym (takes ∙ ap (λ t. xs ++ t) end ∙ append-nil xs)) p

-- the read gave nothing
nothing_more : (s0 s1 s2 : Option (List ℕ)) (taken bytes : List ℕ) (n : ℕ) → Consumes s0 s1 taken → n ≡ 0 → Consumes s1 s2 (take n bytes) → Consumes s0 s2 taken
nothing_more s0 s1 s2 taken bytes n so_far none takes =
    subst (λ (l : List ℕ). Consumes s0 s2 l) (append-nil taken) (consumes_both s0 s1 s2 taken [] so_far (subst (λ (k : ℕ). Consumes s1 s2 (take k bytes)) none takes))

take_within : (n within : ℕ) (bytes : List ℕ) → within ≤ n → take n bytes ≡ take within bytes ++ drop within (take n bytes)
take_within n within bytes le = sym (take-append-drop within (take n bytes)) ∙ ap (λ (l : List ℕ). l ++ drop within (take n bytes)) (take-take within n bytes le)

-- what the last read gave
gave : (given : Option (List ℕ)) (chunk : List ℕ) → IfSome given (λ bytes. bytes ≡ chunk) → IfSome given (λ bytes. chunk ≡ bytes)
gave None chunk h = tt
gave (Some bytes) chunk h = sym h

module _ {A M : Type 0} (R : Answers M) (state : A → M) where
  -- ---- how reading goes on

  pub begins : (machine : A) (input_limit : ℕ) (d : Dialogue A) (input contents : Option (List ℕ)) → IsFresh machine 0 d → Reading R state (state machine) input_limit input_limit d input input contents contents
  begins machine input_limit d input contents fresh = record {
    taken = [];
    takes = consumes_nothing input;
    counts = omega arith;
    streamed = fresh_streams R state machine 0 d contents fresh;
  }

  answered_here : (start : M) (d : Dialogue A) (taken : List ℕ) (h0 h1 : Option (List ℕ)) → Streamed R state start 0 false d taken h0 h1 → WholesAnswered (heard_from R start) taken h0 h1
  answered_here start d taken h0 h1 s = wholes_answered R start d.silent false taken s.tail (state d.machine) d.refused h0 h1 s.so_far

  module _ (start : M) (input_limit room : ℕ) (d : Dialogue A) (s0 s1 h0 h1 : Option (List ℕ)) (r : Reading R state start input_limit room d s0 s1 h0 h1) where
    -- a piece that fits was read and answered
    pub reads_on : (e : Dialogue A) (s2 h2 : Option (List ℕ)) (bytes : List ℕ) (n within : ℕ) → n ≤ length bytes → within ≡ n → n ≤ room → Consumes s1 s2 (take n bytes)
        → Grows R state d e h1 h2 (take within bytes)
        → (left : ℕ) → left + n ≡ room → Reading R state start input_limit left e s0 s2 h0 h2
    reads_on e s2 h2 bytes n within fits same le takes streamed left rest = record {
      taken = r.taken ++ take n bytes;
      takes = consumes_both s0 s1 s2 r.taken (take n bytes) r.takes takes;
      counts = omega (arith, r.counts, length-append r.taken (take n bytes), length-take-le n bytes fits);
      streamed = subst (λ (k : ℕ). Streamed R state start 0 false e (r.taken ++ take k bytes) h0 h2) same (streamed.on start 0 false r.taken h0 r.streamed);
    }

    -- ---- how it ends

    -- the read failed
    pub stays_unread : (s2 : Option (List ℕ)) → Keeps s1 s2 → Unread (heard_from R start) input_limit s0 s2 h0 h1
    stays_unread s2 kept = record {
      taken = r.taken;
      takes = consumes_kept s0 s1 s2 r.taken r.takes kept;
      within = omega (arith, r.counts);
      answered = answered_here start d r.taken h0 h1 r.streamed;
    }

    -- the input ended, and its last statement is answered
    pub all_answered : (s2 h2 : Option (List ℕ)) (refused : Bool) (last : M) (bytes : List ℕ) (n : ℕ) → n ≡ 0 → Consumes s1 s2 (take n bytes) → IsAtEnd s2
        → ((taken : List ℕ) → Streamed R state start 0 false d taken h0 h1 → ConcludedIn (heard_from R start) 0 taken h0 h2 refused last)
        → AnsweredIn (heard_from R start) input_limit s0 s2 h0 h2 refused last
    all_answered s2 h2 refused last bytes n none takes end conclude =
        let c = conclude r.taken r.streamed in
        let all : Consumes s0 s2 r.taken = nothing_more s0 s1 s2 r.taken bytes n r.takes none takes in (
          record {
            taken = r.taken;
            takes = all;
            read = end;
            whole = whole_input s0 s2 r.taken (λ (script : List ℕ). script ≡ r.taken) all end refl;
            within = omega (arith, r.counts);
            concluded = c.0;
          },
          c.1,
        )

    -- the sink failed behind what was answered, in the bytes that the last read gave
    breaks_behind : (s2 given h2 : Option (List ℕ)) (chunk : List ℕ) → Consumes s1 s2 chunk → IfSome given (λ bytes. chunk ≡ bytes)
        → Interrupted (heard_from R (state d.machine)) d.silent (r.streamed.tail ++ chunk) h1 h2
        → Broken (heard_from R start) s0 s2 given h0 h2
    breaks_behind s2 given h2 chunk takes newest i =
        let f : SoFar R start 0 d.silent false r.taken r.streamed.tail (state d.machine) d.refused [] h0 h1 = r.streamed.so_far in
        let later : Run R (state d.machine) (r.streamed.tail ++ chunk) i.replies i.last = i.run in
        let many : length f.replies ≡ length f.pieces =
        many_steps R start (state d.machine) (map Whole f.pieces) f.replies (steps_here R start 0 d.silent false r.taken r.streamed.tail (state d.machine) d.refused [] h0 h1 f)
        ∙ length-map f.pieces Whole in
        let none : d.silent ≡ 0 = omega (arith, f.counts) in
        record {
          before = r.taken;
          chunk = chunk;
          takes = consumes_both s0 s1 s2 r.taken chunk r.takes takes;
          newest = newest;
          pieces = f.pieces;
          rest = r.streamed.tail;
          cut = f.cut;
          replies = f.replies ++ i.replies;
          last = i.last;
          run = record {
            statements = map Whole f.pieces ++ later.statements;
            cut = statements_on r.taken chunk f.pieces r.streamed.tail later.statements f.cut later.cut;
            steps = f.goes later.statements i.replies i.last later.steps;
          };
          between = h1;
          answered = subst (λ (rs : List Said). Appends h0 h1 (texts rs)) (sym (take_at f.replies i.replies (length f.pieces) many)) (all_sent h0 h1 (texts f.replies) f.written);
          unwritten = i.unwritten;
          written = subst (λ (rs : List Said). Sent h1 h2 (texts rs) i.unwritten) (sym (drop_at f.replies i.replies (length f.pieces) many))
              (subst (λ (k : ℕ). Sent h1 h2 (texts (drop k i.replies)) i.unwritten) none i.written);
        }

    here : Streamed R state (state d.machine) d.silent d.refused d r.streamed.tail h1 h1
    here = streams_from_here R state start 0 false d r.taken h0 h1 r.streamed

    -- or the sink failed at its reply
    pub breaks_at_end : (s2 given h2 : Option (List ℕ)) (bytes : List ℕ) (n : ℕ) → n ≡ 0 → Consumes s1 s2 (take n bytes) → IfSome given (λ b. b ≡ take n bytes)
        → ((m : M) (silent : ℕ) (before : Bool) (taken : List ℕ) → Streamed R state m silent before d taken h1 h1 → Interrupted (heard_from R m) silent taken h1 h2)
        → Broken (heard_from R start) s0 s2 given h0 h2
    breaks_at_end s2 given h2 bytes n none takes last stops =
        let all : r.streamed.tail ≡ r.streamed.tail ++ take n bytes =
        sym (append-nil r.streamed.tail) ∙ ap (λ (k : ℕ). r.streamed.tail ++ take k bytes) (sym none) in
        breaks_behind s2 given h2 (take n bytes) takes (gave given (take n bytes) last)
        (subst (λ (l : List ℕ). Interrupted (heard_from R (state d.machine)) d.silent l h1 h2) all (stops (state d.machine) d.silent d.refused r.streamed.tail here))

    -- the sink failed at a reply in a piece that was read
    pub breaks_in : (s2 given h2 : Option (List ℕ)) (bytes : List ℕ) (n within : ℕ) → within ≤ n → Consumes s1 s2 (take n bytes) → IfSome given (λ b. b ≡ take n bytes)
        → Breaks R state d h1 h2 (take within bytes)
        → Broken (heard_from R start) s0 s2 given h0 h2
    breaks_in s2 given h2 bytes n within le takes last stops =
        let tail : List ℕ = r.streamed.tail in
        let all : (tail ++ take within bytes) ++ drop within (take n bytes) ≡ tail ++ take n bytes =
        append_assoc tail (take within bytes) (drop within (take n bytes)) ∙ ap (λ (l : List ℕ). tail ++ l) (sym (take_within n within bytes le)) in
        breaks_behind s2 given h2 (take n bytes) takes (gave given (take n bytes) last)
        (subst (λ (l : List ℕ). Interrupted (heard_from R (state d.machine)) d.silent l h1 h2) all
        (stops.on (state d.machine) d.silent d.refused tail h1 here (drop within (take n bytes))))

    -- more was read than may come
    pub is_overlong : (e : Dialogue A) (s2 h2 : Option (List ℕ)) (bytes : List ℕ) (n within : ℕ) → n ≤ length bytes → within ≡ room → room < n → Consumes s1 s2 (take n bytes)
        → Grows R state d e h1 h2 (take within bytes)
        → Overlong (heard_from R start) input_limit s0 s2 h0 h2
    is_overlong e s2 h2 bytes n within fits same more takes streamed =
        let front : take input_limit (r.taken ++ take n bytes) ≡ r.taken ++ take room bytes =
        ap (λ (k : ℕ). take k (r.taken ++ take n bytes)) (sym r.counts) ∙ take-append-add r.taken (take n bytes) room ∙ ap (λ (l : List ℕ). r.taken ++ l) (take-take room n bytes (omega arith)) in
        record {
          taken = r.taken ++ take n bytes;
          takes = consumes_both s0 s1 s2 r.taken (take n bytes) r.takes takes;
          more = omega (arith, r.counts, length-append r.taken (take n bytes), length-take-le n bytes fits);
          answered = subst (λ (l : List ℕ). WholesAnswered (heard_from R start) l h0 h2) (ap (λ (k : ℕ). r.taken ++ take k bytes) same ∙ sym front)
              (answered_here start e (r.taken ++ take within bytes) h0 h2 (streamed.on start 0 false r.taken h0 r.streamed));
        }
