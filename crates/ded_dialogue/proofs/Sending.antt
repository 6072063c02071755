-- What is sent of texts that wait for a sink.
use Rattle.std.proofs.Common.{◌≡◌, ℕ, List, [], ◌++◌, sym, ap, ◌∙◌, append_assoc, subst, true≢false}
use Rattle.std.specs.Prelude.{Option, Result, Ok, Err, IsErr}
use Rattle.std.specs.Io.KnownBytes.{Appends}
use Rattle.ded_io.specs.Devices.{Sent, AddsAll}
use Rattle.ded_io.proofs.Steps.{appends_both, sent_whole, sent_both, sent_longer}
use Rattle.ded_dialogue.specs.Waiting.{WritesBehind}

-- what waited and what came behind it was sent, but for what waits now
pub sent_then : (h0 h1 h2 : Option (List ℕ)) (text w more waits : List ℕ) → Sent h0 h1 text w → Sent h1 h2 (w ++ more) waits → Sent h0 h2 (text ++ more) waits
sent_then h0 h1 h2 text w more waits s t = record {
  front = s.front ++ t.front;
  is = append_assoc s.front t.front waits
      ∙ ap (λ (l : List ℕ). s.front ++ l) t.is
      ∙ sym (append_assoc s.front w more)
      ∙ ap (λ (l : List ℕ). l ++ more) s.is;
  adds = appends_both h0 h1 h2 s.front t.front s.adds t.adds;
}

-- ---- a text is put behind what waits

-- the sink failed before it
pub put_stopped : {E : Type 0} (r : Result (Unit {0}) E) (h0 h1 : Option (List ℕ)) (w v waits rest text : List ℕ) → IsErr r → v ≡ w → Sent h0 h1 v rest → WritesBehind h0 w h1 waits r text
put_stopped (Ok x) h0 h1 w v waits rest text failed same s = absurd (true≢false (sym failed))
put_stopped (Err e) h0 h1 w v waits rest text failed same s = record {
  bytes = (rest ++ text, sent_longer h0 h1 w rest text (subst (λ (l : List ℕ). Sent h0 h1 l rest) same s));
}

-- it was sent behind what waited
pub put_sent : {T E : Type 0} (r : Result T E) (h0 h1 h2 : Option (List ℕ)) (w v waits text : List ℕ) → v ≡ w → waits ≡ [] → Appends h0 h1 v → AddsAll h1 h2 r text → WritesBehind h0 w h2 waits r text
put_sent (Ok x) h0 h1 h2 w v waits text same none first adds = record {
  bytes = subst (λ (l : List ℕ). Sent h0 h2 (w ++ text) l) (sym none)
      (sent_whole h0 h2 (w ++ text) (appends_both h0 h1 h2 w text (subst (λ (l : List ℕ). Appends h0 h1 l) same first) adds));
}
put_sent (Err e) h0 h1 h2 w v waits text same none first adds = record {
  bytes = (
    adds.0,
    record {
      front = w ++ adds.1.front;
      is = append_assoc w adds.1.front adds.0 ∙ ap (λ (l : List ℕ). w ++ l) adds.1.is;
      adds = appends_both h0 h1 h2 w adds.1.front (subst (λ (l : List ℕ). Appends h0 h1 l) same first) adds.1.adds;
    },
  );
}

-- ---- a text is put where nothing waits, and nothing is kept back

-- the sink failed at it
pub stopped_at_once : {E : Type 0} (e : E) (r : Result (Unit {0}) E) (h0 h1 : Option (List ℕ)) (w waits text : List ℕ) → w ≡ [] → IsErr r → WritesBehind {T = Unit {0}} h0 w h1 waits (Err e) text → WritesBehind h0 [] h1 [] r text
stopped_at_once e (Ok x) h0 h1 w waits text none failed p = absurd (true≢false (sym failed))
stopped_at_once e (Err d) h0 h1 w waits text none failed p = record {
  bytes = (p.bytes.0, subst (λ (l : List ℕ). Sent h0 h1 (l ++ text) p.bytes.0) none p.bytes.1);
}

-- or it was sent, or the sink failed at what was kept back
pub sent_at_once : {E : Type 0} (r : Result (Unit {0}) E) (h0 h1 h2 : Option (List ℕ)) (w waits text : List ℕ) → w ≡ [] → Sent h0 h1 (w ++ text) waits → AddsAll h1 h2 r waits → WritesBehind h0 [] h2 [] r text
sent_at_once (Ok x) h0 h1 h2 w waits text none s adds = record {
  bytes = sent_both h0 h1 h2 text waits [] (subst (λ (l : List ℕ). Sent h0 h1 (l ++ text) waits) none s) (sent_whole h1 h2 waits adds);
}
sent_at_once (Err e) h0 h1 h2 w waits text none s adds = record {
  bytes = (adds.0, sent_both h0 h1 h2 text waits adds.0 (subst (λ (l : List ℕ). Sent h0 h1 (l ++ text) waits) none s) adds.1);
}
