-- The statements of a transaction are steps of one session from the shared catalogue at its begin.
use Rattle.std.proofs.Common.{◌≡◌, ◌⊎◌, ℕ, ◌==◌, Bool, true, false, List, [], ◌∷◌, ◌++◌, Option, Some, None, if◌then◌else◌, inl, inr, refl, sym, ap, ◌∙◌, subst, arith}
use Rattle.std.specs.List.{AllByRecursion}
use Rattle.std.proofs.lemmas.Bool.{eqb-true}
use Rattle.std.proofs.lemmas.Bool.Decides.{leb_tells}
use Rattle.ded_lex.specs.Pieces.{Statement}
use Rattle.ded_model.specs.Catalogue.{Catalogue}
use Rattle.ded_session.specs.Replies.{done}
use Rattle.ded_shared.specs.Events.{Told, Open, none_open, closes, belongs, inside}
use Rattle.ded_shared.specs.Forms.{SharedForm, plain, begun, not_begun, conflict}
use Rattle.ded_shared.specs.Rules.{Begins, SharedStep, SharedSteps}
use Rattle.ded_shared.specs.Serial.{AreSteps}
use Rattle.ded_shared.specs.State.{Transaction, State, first_state, transaction_of, begun_over}
use Rattle.ded_shared.specs.Tags.{Tagged, begins, commits, aborts, commands, other, AreTagged}
use Rattle.ded_shared.proofs.Inside.{Has, one_inside}
use Rattle.ded_shared.proofs.Moving.{Carries}
use Rattle.ded_shared.proofs.OneSession.{first_carries, last_carries}
use Rattle.ded_shared.proofs.Places.{IsSession, IsOfSession, of_sessions, place_here, size_set}
use Rattle.ded_shared.proofs.Replaying.{KeepsFormed, steps_join}

-- they are steps to some catalogue
abbrev Leads : Catalogue → List Told → Type 0
Leads c ts = (end : Catalogue) × AreSteps c ts end

-- ---- a session

up_to_end : (c : Catalogue) (b : Bool) (ts us : List Told) → (b ≡ false → Leads c (ts ++ us)) → Leads c (if b then [] else ts ++ us)
up_to_end c true ts us f = (c, refl)
up_to_end c false ts us f = f refl

inside_steps : (k : ℕ) → IsSession k → (xs : List Tagged) (replies : List SharedForm) (s t : State) (own : Catalogue) → Has k s.transactions own → AllByRecursion IsOfSession xs
    → SharedSteps s xs replies t → Leads own (inside k xs replies)
inside_steps k i [] replies s t own h of p = (own, refl)
inside_steps k i (x ∷ xs) [] s t own h of p = absurd p
inside_steps k i (x ∷ xs) (reply ∷ replies) s t own h of p =
    up_to_end own (closes k x reply) (belongs k x reply) (inside k xs replies)
    (λ n.
    let m = one_inside k i own s h x of.0 reply p.0 n p.1 in
    let r = inside_steps k i xs replies p.0 t m.own m.has of.1 p.2 in
    (r.0, steps_join (belongs k x reply) (inside k xs replies) own m.own r.0 m.steps r.1))

-- ---- a number of no session

module _ (k : ℕ) (not_one : IsSession k → ⊥) where
  none_belongs : (x : Tagged) → IsOfSession x → (reply : SharedForm) → belongs k x reply ≡ []
  none_belongs (begins j) i reply = refl
  none_belongs (commits j) i reply = refl
  none_belongs (aborts j) i reply = refl
  none_belongs (other s) i reply = refl
  none_belongs (commands j bytes) i begun = refl
  none_belongs (commands j bytes) i not_begun = refl
  none_belongs (commands j bytes) i (conflict n) = refl
  none_belongs (commands j bytes) i (plain reply) = by _ (j == k) refl
    where
      by : (t : Told) (b : Bool) → (j == k) ≡ b → (if b then t ∷ [] else []) ≡ []
      by t true e = absurd (not_one (subst IsSession (eqb-true j k e) i.0))
      by t false e = refl

  nothing : (b : Bool) (ts us : List Told) → ts ≡ [] → us ≡ [] → (if b then [] else ts ++ us) ≡ []
  nothing true ts us e f = refl
  nothing false ts us e f = ap (λ vs. vs ++ us) e ∙ f

  none_inside : (xs : List Tagged) (replies : List SharedForm) → AllByRecursion IsOfSession xs → inside k xs replies ≡ []
  none_inside [] replies of = refl
  none_inside (x ∷ xs) [] of = refl
  none_inside (x ∷ xs) (reply ∷ replies) of = nothing (closes k x reply) (belongs k x reply) (inside k xs replies) (none_belongs x of.0 reply) (none_inside xs replies of.1)

session_or_not : (k : ℕ) → IsSession k ⊎ (IsSession k → ⊥)
session_or_not k = elim (leb_tells 1 k) [
  | inl low ↦ elim (leb_tells k 64) [
    | inl high ↦ inl (record { low = low.1; high = high.1 })
    | inr high ↦ inr (λ s. omega (arith, high.1, s.high))
  ]
  | inr low ↦ inr (λ s. omega (arith, low.1, s.low))
]

-- ---- a begin

has_begun : (s u : State) (o : Open) → Carries s o → (k : ℕ) → IsSession k → (x : Option Transaction) → Begins k x s (plain done) u → Has k u.transactions s.shared
has_begun s u o c k i None p = subst (λ (v : State). Has k v.transactions s.shared) (sym p) (record {
  size = size_set s.transactions c.size k (Some (begun_over s.shared));
  found = begun_over s.shared;
  there = place_here s.transactions c.size k (Some (begun_over s.shared)) i;
  is = refl;
})
has_begun s u o c k i (Some x) p = absurd p

pub transaction_steps : KeepsFormed → (limit : ℕ) (statements more : List Statement) (before later : List Tagged) (got answers : List SharedForm) (k : ℕ) (s u t : State)
    → AreTagged statements before → SharedSteps (first_state limit) before got s → SharedStep s (begins k) (plain done) u
    → AreTagged more later → SharedSteps u later answers t → (end : Catalogue) × AreSteps s.shared (inside k later answers) end
transaction_steps keeps limit statements more before later got answers k s u t tagged p begin also q =
    let c = last_carries keeps before got (first_state limit) s none_open (first_carries limit) (of_sessions statements before tagged) p in
    let of = of_sessions more later also in
    elim (session_or_not k) [
      | inl i ↦ inside_steps k i later answers u t s.shared (has_begun s u c.0 c.1 k i (transaction_of s k) begin) of q
      | inr n ↦ (s.shared, subst (λ ts. AreSteps s.shared ts s.shared) (sym (none_inside k n later answers of)) refl)
    ]
