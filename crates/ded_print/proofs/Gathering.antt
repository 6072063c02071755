-- What is put piece by piece is put in order.
use Rattle.std.proofs.Common.{◌≡◌, ℕ, List, [], ◌++◌, refl, sym, ◌∙◌, append_assoc, append-nil, subst, arith, Bool, true, false}
use Rattle.std.specs.Prelude.{Result, Ok, Err, MatchResult, if◌then◌else◌}
use Rattle.std.specs.declared.option.Option.{Option}
use Rattle.ded_num.proofs.Tests.{adds_none}
use Rattle.ded_io.specs.declared.device.Failed.{Failed}
use Rattle.ded_io.specs.Causes.{HasCause}
use Rattle.ded_io.specs.Devices.{Sent, AddsAll}
use Rattle.ded_io.proofs.Steps.{sent_whole, sent_both, sent_longer, all_sent}
use Rattle.ded_print.specs.Gathering.{Output, Printed, Puts, SendsAfter, Finishes}

pub differ : false ≡ true → ⊥
differ e = cc

-- one piece after another
pub puts_both : (a b c : Output) (t u : List ℕ) → Puts a b t → Puts b c u → Puts a c (t ++ u)
puts_both a b c t u p q = record {
  goes = λ contents faults text h. subst (λ z. Printed contents faults z c) (append_assoc text t u) (q.goes contents faults (text ++ t) (p.goes contents faults text h));
}

pub puts_none : (a : Output) → Puts a a []
puts_none a = record {
  goes = λ contents faults text h. subst (λ z. Printed contents faults z a) (sym (append-nil text)) h;
}

-- the bytes wait after those that wait
pub puts_pending : (contents : Option (List ℕ)) (faults : ℕ) (pending bytes : List ℕ) (sent : Result (Unit {0}) Failed) → Puts (record { contents = contents; faults = faults; pending = pending; sent = sent }) (record { contents = contents; faults = faults; pending = pending ++ bytes; sent = sent }) bytes
puts_pending contents faults pending bytes (Ok u) = record {
  goes = λ before faults_before text h. record { bytes = sent_longer before contents text pending bytes h.bytes; cause = h.cause };
}
puts_pending contents faults pending bytes (Err e) = record {
  goes = λ before faults_before text h. record {
    bytes = (h.bytes.0 ++ bytes, sent_longer before contents text h.bytes.0 bytes h.bytes.1);
    cause = h.cause;
  };
}

adds_after : (a b c : Option (List ℕ)) (text rest : List ℕ) (result : Result (Unit {0}) Failed) → Sent a b text rest → AddsAll b c result rest → MatchResult result (λ _. Sent a c text []) (λ _. (more : List ℕ) × Sent a c text more)
adds_after a b c text rest (Ok u) s h = sent_both a b c text rest [] s (sent_whole b c rest h)
adds_after a b c text rest (Err e) s h = (h.0, sent_both a b c text rest h.0 s h.1)

cause_after : (before middle now : ℕ) (u : Unit {0}) (result : Result (Unit {0}) Failed) → HasCause {E = Failed} before middle (Ok u) → HasCause middle now result → HasCause before now result
cause_after before middle now u result h g = subst (λ k. HasCause k now result) h.done g

-- what was pending and these bytes are sent, where nothing failed
pub puts_sent : (so_far : Result (Unit {0}) Failed) (contents held_now : Option (List ℕ)) (faults faults_now : ℕ) (pending bytes : List ℕ) (result : Result (Unit {0}) Failed)
    → SendsAfter so_far contents faults held_now faults_now result (pending ++ bytes)
    → Puts (record { contents = contents; faults = faults; pending = pending; sent = so_far }) (record { contents = held_now; faults = faults_now; pending = []; sent = result }) bytes
puts_sent (Ok u) contents held_now faults faults_now pending bytes result s = record {
  goes = λ before faults_before text h. record {
    bytes = adds_after before contents held_now (text ++ bytes) (pending ++ bytes) result (sent_longer before contents text pending bytes h.bytes) s.0;
    cause = cause_after faults_before faults faults_now u result h.cause s.1;
  };
}
puts_sent (Err e) contents held_now faults faults_now pending bytes result s = record {
  goes = λ before faults_before text h. rw s.0 (rw s.1 (rw s.2 (record {
    bytes = (h.bytes.0 ++ bytes, sent_longer before contents text h.bytes.0 bytes h.bytes.1);
    cause = h.cause;
  })));
}

pub sends_pending : (so_far : Result (Unit {0}) Failed) (contents held_now : Option (List ℕ)) (faults faults_now : ℕ) (pending : List ℕ) (result : Result (Unit {0}) Failed)
    → SendsAfter so_far contents faults held_now faults_now result pending
    → Puts (record { contents = contents; faults = faults; pending = pending; sent = so_far }) (record { contents = held_now; faults = faults_now; pending = []; sent = result }) []
sends_pending so_far contents held_now faults faults_now pending result s =
    puts_sent so_far contents held_now faults faults_now pending [] result (subst (λ z. SendsAfter so_far contents faults held_now faults_now result z) (sym (append-nil pending)) s)

ends_with : (contents held_now : Option (List ℕ)) (result : Result (Unit {0}) Failed) (text : List ℕ) → MatchResult result (λ _. Sent contents held_now text []) (λ _. (rest : List ℕ) × Sent contents held_now text rest) → AddsAll contents held_now result text
ends_with contents held_now (Ok u) text s = all_sent contents held_now text s
ends_with contents held_now (Err e) text s = s

pub finishes : (so_far : Result (Unit {0}) Failed) (contents held_now : Option (List ℕ)) (faults faults_now : ℕ) (pending : List ℕ) (result : Result (Unit {0}) Failed)
    → SendsAfter so_far contents faults held_now faults_now result pending
    → Finishes (record { contents = contents; faults = faults; pending = pending; sent = so_far }) held_now faults_now result
finishes so_far contents held_now faults faults_now pending result s = record {
  ends = λ before faults_before text h.
      let p : Printed before faults_before (text ++ []) (record { contents = held_now; faults = faults_now; pending = []; sent = result }) = (sends_pending so_far contents held_now faults faults_now pending result s).goes before faults_before text h in
      let q : Printed before faults_before text (record { contents = held_now; faults = faults_now; pending = []; sent = result }) = subst (λ z. Printed before faults_before z (record { contents = held_now; faults = faults_now; pending = []; sent = result })) (append-nil text) p in
      (ends_with before held_now result text q.bytes, q.cause);
}

-- ---- steps of a writer with little room: r tells whether the bytes were gathered

pub kept : (r : Bool) (contents : Option (List ℕ)) (faults : ℕ) (pending bytes after : List ℕ) (sent sent_after : Result (Unit {0}) Failed)
    → r ≡ true → after ≡ (if r then (pending ++ bytes) else pending) → sent_after ≡ sent
    → Puts (record { contents = contents; faults = faults; pending = pending; sent = sent }) (record { contents = contents; faults = faults; pending = after; sent = sent_after }) bytes
kept true contents faults pending bytes after sent sent_after is e same = rw e (rw same (puts_pending contents faults pending bytes sent))
kept false contents faults pending bytes after sent sent_after is e same = absurd (differ is)

pub unkept : (r : Bool) (contents : Option (List ℕ)) (faults : ℕ) (pending bytes after : List ℕ) (sent sent_after : Result (Unit {0}) Failed) (b : Output) (more : List ℕ)
    → r ≡ false → after ≡ (if r then (pending ++ bytes) else pending) → sent_after ≡ sent
    → Puts (record { contents = contents; faults = faults; pending = after; sent = sent_after }) b more
    → Puts (record { contents = contents; faults = faults; pending = pending; sent = sent }) b more
unkept true contents faults pending bytes after sent sent_after b more is e same h = absurd (differ (sym is))
unkept false contents faults pending bytes after sent sent_after b more is e same h =
    subst (λ z. Puts (record { contents = contents; faults = faults; pending = z; sent = sent }) b more) e
    (subst (λ z. Puts (record { contents = contents; faults = faults; pending = after; sent = z }) b more) same h)

pub still_none : (r : Bool) (pending bytes after : List ℕ) → r ≡ false → after ≡ (if r then (pending ++ bytes) else pending) → pending ≡ [] → after ≡ []
still_none true pending bytes after is e none = absurd (differ (sym is))
still_none false pending bytes after is e none = e ∙ none

-- nothing was pending, and the bytes go to the sink at once
pub direct : (contents held_now : Option (List ℕ)) (faults faults_now : ℕ) (pending bytes : List ℕ) (so_far result : Result (Unit {0}) Failed)
    → pending ≡ [] → SendsAfter so_far contents faults held_now faults_now result bytes
    → Puts (record { contents = contents; faults = faults; pending = pending; sent = so_far }) (record { contents = held_now; faults = faults_now; pending = pending; sent = result }) bytes
direct contents held_now faults faults_now pending bytes so_far result none h = rw none (puts_sent so_far contents held_now faults faults_now [] bytes result h)

-- ---- a whole reply

-- nothing was put yet
begins : (contents : Option (List ℕ)) (faults : ℕ) → Printed contents faults [] (record { contents = contents; faults = faults; pending = []; sent = Ok tt })
begins contents faults = record {
  bytes = record { front = []; is = refl; adds = adds_none contents };
  cause = record { later = omega arith; done = refl; failed = tt };
}

-- a text that is put after nothing, and then finished
pub prints : (contents held_now : Option (List ℕ)) (faults faults_now : ℕ) (pending : List ℕ) (sent : Result (Unit {0}) Failed) (middle : Output) (result : Result (Unit {0}) Failed) (text : List ℕ)
    → pending ≡ [] → sent ≡ Ok tt
    → Puts (record { contents = contents; faults = faults; pending = pending; sent = sent }) middle text
    → Finishes middle held_now faults_now result
    → AddsAll contents held_now result text × HasCause faults faults_now result
prints contents held_now faults faults_now pending sent middle result text none well put ends =
    ends.ends contents faults text (put.goes contents faults [] (rw none (rw well (begins contents faults))))

pub adds_as : (contents held_now : Option (List ℕ)) (result : Result (Unit {0}) Failed) (text other : List ℕ) → text ≡ other → AddsAll contents held_now result text → AddsAll contents held_now result other
adds_as contents held_now result text other is h = subst (λ z. AddsAll contents held_now result z) is h

pub puts_as : (a b : Output) (text other : List ℕ) → text ≡ other → Puts a b text → Puts a b other
puts_as a b text other is h = subst (λ z. Puts a b z) is h
