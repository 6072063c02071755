-- The statements that count are steps of one session.
use Rattle.std.proofs.Common.{◌-◌, ℕ, ◌<◌, ◌≤◌, List, [], ◌∷◌, Option, None, sym, ap, subst, arith}
use Rattle.std.specs.List.{AllByRecursion}
use Rattle.std.proofs.lemmas.List.{length-replicate, get_or-replicate}
use Rattle.ded_lex.specs.Pieces.{Statement}
use Rattle.ded_session.specs.Runs.{empty_catalogue}
use Rattle.ded_shared.specs.Events.{Open, none_open, opens, ends, serial_from, serial}
use Rattle.ded_shared.specs.Forms.{SharedForm}
use Rattle.ded_shared.specs.Rules.{SharedSteps}
use Rattle.ded_shared.specs.Serial.{AreSteps}
use Rattle.ded_shared.specs.State.{Transaction, State, first_state}
use Rattle.ded_shared.specs.Tags.{Tagged, AreTagged}
use Rattle.ded_shared.proofs.Moving.{FollowsIn, Carries, moves}
use Rattle.ded_shared.proofs.Places.{IsOfSession, of_sessions}
use Rattle.ded_shared.proofs.Replaying.{KeepsFormed, steps_join}

pub first_carries : (limit : ℕ) → Carries (first_state limit) none_open
first_carries limit =
    let nothing : Option Transaction = None in
    record {
      formed = tt;
      size = length-replicate 64 nothing;
      each = λ k i. subst (λ z. FollowsIn z None (empty_catalogue limit)) (sym (get_or-replicate 64 (k - 1) nothing nothing (below k i.low i.high))) tt;
    }
  where
    below : (k : ℕ) → 1 ≤ k → k ≤ 64 → (k - 1) < 64
    below k low high = omega (arith, low, high)

serial_steps : KeepsFormed → (xs : List Tagged) (replies : List SharedForm) (s t : State) (o : Open) → Carries s o → AllByRecursion IsOfSession xs → SharedSteps s xs replies t
    → AreSteps s.shared (serial_from o xs replies) t.shared
serial_steps keeps [] [] s t o c of p = ap (λ (v : State). v.shared) p
serial_steps keeps [] (reply ∷ replies) s t o c of p = absurd p
serial_steps keeps (x ∷ xs) [] s t o c of p = absurd p
serial_steps keeps (x ∷ xs) (reply ∷ replies) s t o c of p =
    let m = moves keeps s o c x of.0 reply p.0 p.1 in
    steps_join (ends o x reply) (serial_from (opens o x reply) xs replies) s.shared p.0.shared t.shared m.steps
    (serial_steps keeps xs replies p.0 t (opens o x reply) m.carries of.1 p.2)

-- and at the end, too, each session has an open transaction where statements of one are counted
pub last_carries : KeepsFormed → (xs : List Tagged) (replies : List SharedForm) (s t : State) (o : Open) → Carries s o → AllByRecursion IsOfSession xs → SharedSteps s xs replies t
    → (p : Open) × Carries t p
last_carries keeps [] [] s t o c of p = (o, subst (λ u. Carries u o) (sym p) c)
last_carries keeps [] (reply ∷ replies) s t o c of p = absurd p
last_carries keeps (x ∷ xs) [] s t o c of p = absurd p
last_carries keeps (x ∷ xs) (reply ∷ replies) s t o c of p = last_carries keeps xs replies p.0 t (opens o x reply) (moves keeps s o c x of.0 reply p.0 p.1).carries of.1 p.2

pub one_session : KeepsFormed → (limit : ℕ) (statements : List Statement) (xs : List Tagged) (replies : List SharedForm) (t : State) → AreTagged statements xs
    → SharedSteps (first_state limit) xs replies t → AreSteps (empty_catalogue limit) (serial xs replies) t.shared
one_session keeps limit statements xs replies t tagged p =
    serial_steps keeps xs replies (first_state limit) t none_open (first_carries limit) (of_sessions statements xs tagged) p
