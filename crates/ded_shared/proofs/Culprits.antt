-- Which statement made a commit conflict.
use Rattle.std.proofs.Common.{◌≡◌, ◌≢◌, ◌⊎◌, ◌-◌, ℕ, Bool, true, false, ◌&&◌, List, [], ◌∷◌, ◌++◌, Option, Some, None, inl, inr, refl, sym, ap, ◌∙◌, subst, arith, true≢false, ⊎_elim}
use Rattle.std.specs.List.{AllByRecursion}
use Rattle.std.specs.Ordering.{nat_cmp}
use Rattle.std.specs.Cmp.Lexicographic.{slice_cmp}
use Rattle.std.specs.declared.cmp.Ordering.TheVariants.{Less}
use Rattle.std.proofs.lemmas.Bool.{and_parts}
use Rattle.std.proofs.lemmas.List.{get_or-replicate}
use Rattle.ded_lex.specs.Pieces.{Statement}
use Rattle.ded_session.specs.Replies.{done}
use Rattle.ded_shared.specs.Conflicts.{in_both}
use Rattle.ded_shared.specs.Culprits.{ChangesName, NoneCloses, HasChange, HasCulprit}
use Rattle.ded_shared.specs.Events.{closes}
use Rattle.ded_shared.specs.Forms.{SharedForm, plain, conflict}
use Rattle.ded_shared.specs.Rules.{Begins, Commits, SharedStep, SharedSteps}
use Rattle.ded_shared.specs.State.{Transaction, State, is_among, transaction_of, first_state, begun_over}
use Rattle.ded_shared.specs.Tags.{Tagged, begins, commits, IsTagged, AreTagged}
use Rattle.ded_shared.proofs.Places.{IsSession, IsOfSession, of_session, of_sessions, place_here}
use Rattle.ded_shared.proofs.StaleNames.{some_same, some_none, IsSized, first_size, step_size, steps_size, Stays, Opens, After, after}

-- ---- back to the culprit

module _ (k : ℕ) (n : List ℕ) (s u t : State) (x : Tagged) (reply : SharedForm) (xs : List Tagged) (replies : List SharedForm) (p : SharedStep s x reply u) where
  first_change : SharedSteps u xs replies t → ChangesName k s x reply n → HasChange k n s (x ∷ xs) (reply ∷ replies) t
  first_change q c = record {
    before = [];
    culprit = x;
    rest = xs;
    statements = refl;
    got = [];
    answer = reply;
    others = replies;
    answers = refl;
    found = s;
    steps = refl;
    further = (u, p, q);
    changes = c;
  }

  later_change : HasChange k n u xs replies t → HasChange k n s (x ∷ xs) (reply ∷ replies) t
  later_change h = record {
    before = x ∷ h.before;
    culprit = h.culprit;
    rest = h.rest;
    statements = ap (λ (l : List Tagged). x ∷ l) h.statements;
    got = reply ∷ h.got;
    answer = h.answer;
    others = h.others;
    answers = ap (λ (l : List SharedForm). reply ∷ l) h.answers;
    found = h.found;
    steps = (u, p, h.steps);
    further = h.further;
    changes = h.changes;
  }

  later_culprit : HasCulprit u k n xs replies t → HasCulprit s k n (x ∷ xs) (reply ∷ replies) t
  later_culprit h = record {
    before = x ∷ h.before;
    later = h.later;
    statements = ap (λ (l : List Tagged). x ∷ l) h.statements;
    got = reply ∷ h.got;
    others = h.others;
    answers = ap (λ (l : List SharedForm). reply ∷ l) h.answers;
    start = h.start;
    begun = h.begun;
    steps = (u, p, h.steps);
    begin = h.begin;
    stays = h.stays;
    change = h.change;
  }

-- from the first of these statements on the session has its open transaction
record Held (k : ℕ) (n : List ℕ) (s : State) (xs : List Tagged) (replies : List SharedForm) (t : State) : Type 0 where
  old : Transaction
  was : transaction_of s k ≡ Some old
  on : NoneCloses k xs replies
  stale : (is_among old.stale n ≡ true) ⊎ HasChange k n s xs replies t

module _ (k : ℕ) (i : IsSession k) (n : List ℕ) where
  module _ (s u t : State) (x : Tagged) (reply : SharedForm) (xs : List Tagged) (replies : List SharedForm) (p : SharedStep s x reply u) (q : SharedSteps u xs replies t) where
    held_back : (a : Stays k s x reply u) → (old : Transaction) → transaction_of u k ≡ Some old → (is_among old.stale n ≡ true) ⊎ HasChange k n u xs replies t
        → (is_among a.old.stale n ≡ true) ⊎ HasChange k n s (x ∷ xs) (reply ∷ replies) t
    held_back a old was (inr h) = inr (later_change k n s u t x reply xs replies p h)
    held_back a old was (inl h) = ⊎_elim (λ (e : is_among a.old.stale n ≡ true). inl e)
        (λ (c : ChangesName k s x reply n). inr (first_change k n s u t x reply xs replies p q c))
        (a.back n (subst (λ (y : Transaction). is_among y.stale n ≡ true) (some_same old a.new (sym was ∙ a.now)) h))

    begun_back : (o : Opens k s x reply u) → (old : Transaction) → transaction_of u k ≡ Some old → (is_among old.stale n ≡ true) ⊎ HasChange k n u xs replies t → HasChange k n u xs replies t
    begun_back o old was (inr h) = h
    begun_back o old was (inl h) =
        absurd (true≢false (sym h ∙ ap (λ (y : Transaction). is_among y.stale n) (some_same old o.new (sym was ∙ o.now)) ∙ ap (λ (l : List (List ℕ)). is_among l n) o.fresh))

    back_by : After k s x reply u → Held k n u xs replies t ⊎ HasCulprit u k n xs replies t → Held k n s (x ∷ xs) (reply ∷ replies) t ⊎ HasCulprit s k n (x ∷ xs) (reply ∷ replies) t
    back_by a (inr c) = inr (later_culprit k n s u t x reply xs replies p c)
    back_by (inl a) (inl h) = inl (record { old = a.old; was = a.was; on = (a.on, h.on); stale = held_back a h.old h.was h.stale })
    back_by (inr (inl o)) (inl h) = inr (record {
      before = [];
      later = xs;
      statements = ap (λ (y : Tagged). y ∷ xs) o.statement;
      got = [];
      others = replies;
      answers = ap (λ (r : SharedForm). r ∷ replies) o.answer;
      start = s;
      begun = u;
      steps = refl;
      begin = subst (λ (y : Tagged). SharedStep s y (plain done) u) o.statement (subst (λ (r : SharedForm). SharedStep s x r u) o.answer p);
      stays = h.on;
      change = begun_back o h.old h.was h.stale;
    })
    back_by (inr (inr l)) (inl h) = absurd (some_none h.old (sym h.was ∙ l.now))

  back_to : (xs : List Tagged) (replies : List SharedForm) (s t : State) → IsSized s → AllByRecursion IsOfSession xs → SharedSteps s xs replies t
      → (y : Transaction) → transaction_of t k ≡ Some y → is_among y.stale n ≡ true → Held k n s xs replies t ⊎ HasCulprit s k n xs replies t
  back_to [] [] s t size of p y at h = inl (record { old = y; was = ap (λ (v : State). transaction_of v k) (sym p) ∙ at; on = tt; stale = inl h })
  back_to [] (reply ∷ replies) s t size of p y at h = absurd p
  back_to (x ∷ xs) [] s t size of p y at h = absurd p
  back_to (x ∷ xs) (reply ∷ replies) s t size of p y at h =
      back_by s p.0 t x reply xs replies p.1 p.2 (after k i s size p.0 x of.0 reply p.1)
      (back_to xs replies p.0 t (step_size s size p.0 x reply p.1) of.1 p.2 y at h)

  -- what is stale of an open transaction, a statement behind its begin has changed
  culprit_of : (limit : ℕ) (xs : List Tagged) (replies : List SharedForm) (s : State) → AllByRecursion IsOfSession xs → SharedSteps (first_state limit) xs replies s
      → (y : Transaction) → transaction_of s k ≡ Some y → is_among y.stale n ≡ true → HasCulprit (first_state limit) k n xs replies s
  culprit_of limit xs replies s of p y at h =
      ⊎_elim (λ (e : Held k n (first_state limit) xs replies s). absurd (some_none e.old (sym e.was ∙ none_first limit)))
      (λ (c : HasCulprit (first_state limit) k n xs replies s). c)
      (back_to xs replies (first_state limit) s (first_size limit) of p y at h)
    where
      nothing : Option Transaction
      nothing = None

      none_first : (limit : ℕ) → transaction_of (first_state limit) k ≡ None
      none_first limit = get_or-replicate 64 (k - 1) nothing nothing (omega (arith, i.low, i.high))

-- ---- on from the culprit

all_parts : (xs ys : List Tagged) → AllByRecursion IsOfSession (xs ++ ys) → AllByRecursion IsOfSession xs × AllByRecursion IsOfSession ys
all_parts [] ys of = (tt, of)
all_parts (x ∷ xs) ys of = let r = all_parts xs ys of.1 in ((of.0, r.0), r.1)

module _ (k : ℕ) (i : IsSession k) where
  none_parts : (xs : List Tagged) (got : List SharedForm) (s u : State) (ys : List Tagged) (others : List SharedForm) → SharedSteps s xs got u → NoneCloses k (xs ++ ys) (got ++ others)
      → NoneCloses k xs got × NoneCloses k ys others
  none_parts [] [] s u ys others p c = (tt, c)
  none_parts [] (reply ∷ got) s u ys others p c = absurd p
  none_parts (x ∷ xs) [] s u ys others p c = absurd p
  none_parts (x ∷ xs) (reply ∷ got) s u ys others p c = let r = none_parts xs got p.0 u ys others p.2 c.1 in ((c.0, r.0), r.1)

  -- a transaction that isn't ended stays
  on_by : (s u : State) (x : Tagged) (reply : SharedForm) → After k s x reply u → (old : Transaction) → transaction_of s k ≡ Some old → closes k x reply ≡ false → Stays k s x reply u
  on_by s u x reply (inl a) old e c = a
  on_by s u x reply (inr (inl o)) old e c = absurd (some_none old (sym e ∙ o.was))
  on_by s u x reply (inr (inr l)) old e c =
      absurd (⊎_elim (λ (f : transaction_of s k ≡ None). some_none old (sym e ∙ f)) (λ (f : closes k x reply ≡ true). true≢false (sym f ∙ c)) l.was)

  -- it is open still, and what was stale of it is
  record Still (n : List ℕ) (old : Transaction) (t : State) : Type 0 where
    new : Transaction
    now : transaction_of t k ≡ Some new
    kept : is_among old.stale n ≡ true → is_among new.stale n ≡ true

  module _ (n : List ℕ) where
    on_to : (xs : List Tagged) (replies : List SharedForm) (s t : State) → IsSized s → AllByRecursion IsOfSession xs → SharedSteps s xs replies t
        → (old : Transaction) → transaction_of s k ≡ Some old → NoneCloses k xs replies → Still n old t
    on_to [] [] s t size of p old e c = record { new = old; now = ap (λ (v : State). transaction_of v k) p ∙ e; kept = λ h. h }
    on_to [] (reply ∷ replies) s t size of p old e c = absurd p
    on_to (x ∷ xs) [] s t size of p old e c = absurd p
    on_to (x ∷ xs) (reply ∷ replies) s t size of p old e c =
        let a = on_by s p.0 x reply (after k i s size p.0 x of.0 reply p.1) old e c.0 in
        let r = on_to xs replies p.0 t (step_size s size p.0 x reply p.1) of.1 p.2 a.new a.now c.1 in
        record {
          new = r.new;
          now = r.now;
          kept = λ h. r.kept (a.forth n (inl (subst (λ (y : Transaction). is_among y.stale n ≡ true) (some_same old a.old (sym e ∙ a.was)) h)));
        }

    -- what the culprit changes is stale at the end
    change_there : (xs : List Tagged) (replies : List SharedForm) (s t : State) → IsSized s → AllByRecursion IsOfSession xs → HasChange k n s xs replies t
        → (old : Transaction) → transaction_of s k ≡ Some old → NoneCloses k xs replies → (new : Transaction) × (transaction_of t k ≡ Some new) × (is_among new.stale n ≡ true)
    change_there xs replies s t size of h old e c =
        let o = all_parts h.before (h.culprit ∷ h.rest) (subst (AllByRecursion IsOfSession) h.statements of) in
        let d = none_parts h.before h.got s h.found (h.culprit ∷ h.rest) (h.answer ∷ h.others) h.steps
        (subst (λ (rs : List SharedForm). NoneCloses k (h.before ++ (h.culprit ∷ h.rest)) rs) h.answers (subst (λ (l : List Tagged). NoneCloses k l replies) h.statements c)) in
        let a = on_to h.before h.got s h.found size o.0 h.steps old e d.0 in
        let there = steps_size h.before h.got s h.found size h.steps in
        let b = on_by h.found h.further.0 h.culprit h.answer (after k i h.found there h.further.0 h.culprit o.1.0 h.answer h.further.1) a.new a.now d.1.0 in
        let r = on_to h.rest h.others h.further.0 t (step_size h.found there h.further.0 h.culprit h.answer h.further.1) o.1.1 h.further.2 b.new b.now d.1.1 in
        (r.new, r.now, r.kept (b.forth n (inr h.changes)))

    begun_open : (s u : State) → IsSized s → (o : Option Transaction) → Begins k o s (plain done) u → transaction_of u k ≡ Some (begun_over s.shared)
    begun_open s u size None p = ap (λ (v : State). transaction_of v k) p ∙ place_here s.transactions size k (Some (begun_over s.shared)) i
    begun_open s u size (Some x) p = absurd p

    stale_of : (limit : ℕ) (xs : List Tagged) (replies : List SharedForm) (s : State) → AllByRecursion IsOfSession xs → HasCulprit (first_state limit) k n xs replies s
        → (y : Transaction) → transaction_of s k ≡ Some y → is_among y.stale n ≡ true
    stale_of limit xs replies s of h y e =
        let o = all_parts h.before (begins k ∷ h.later) (subst (AllByRecursion IsOfSession) h.statements of) in
        let size = steps_size h.before h.got (first_state limit) h.start (first_size limit) h.steps in
        let r = change_there h.later h.others h.begun s (step_size h.start size h.begun (begins k) (plain done) h.begin) o.1.1 h.change
        (begun_over h.start.shared) (begun_open h.start h.begun size (transaction_of h.start k) h.begin) h.stays in
        subst (λ (z : Transaction). is_among z.stale n ≡ true) (some_same r.0 y (sym r.1 ∙ e)) r.2

-- ---- commits

module _ (limit : ℕ) (statements : List Statement) (xs : List Tagged) (replies : List SharedForm) (statement : Statement) (k : ℕ) (s t : State)
    (are : AreTagged statements xs) (steps : SharedSteps (first_state limit) xs replies s) (is : IsTagged statement (commits k)) where
  culprit_by : (n : List ℕ) (o : Option Transaction) → transaction_of s k ≡ o → Commits k o s (conflict n) t → HasCulprit (first_state limit) k n xs replies s
  culprit_by n None e p = absurd p
  culprit_by n (Some x) e p =
      culprit_of k (of_session statement (commits k) is) n limit xs replies s (of_sessions statements xs are) steps x e (and_parts (is_among x.touched n) (is_among x.stale n) p.0.both).1

  pub conflict_culprit : (n : List ℕ) → SharedStep s (commits k) (conflict n) t → HasCulprit (first_state limit) k n xs replies s
  conflict_culprit n p = culprit_by n (transaction_of s k) refl p

  -- a name that was touched and has a culprit is in both lists
  culprit_in_both : (x : Transaction) → transaction_of s k ≡ Some x → (n : List ℕ) → is_among x.touched n ≡ true → HasCulprit (first_state limit) k n xs replies s → in_both x.touched x.stale n ≡ true
  culprit_in_both x e n touched h =
      ap (λ (b : Bool). b && is_among x.stale n) touched ∙ stale_of k (of_session statement (commits k) is) n limit xs replies s (of_sessions statements xs are) h x e

  pub conflict_least : (n m : List ℕ) (x : Transaction) → SharedStep s (commits k) (conflict n) t → transaction_of s k ≡ Some x → is_among x.touched m ≡ true
      → HasCulprit (first_state limit) k m xs replies s → slice_cmp nat_cmp m n ≢ Less
  conflict_least n m x p e touched h = (subst (λ (o : Option Transaction). Commits k o s (conflict n) t) e p).0.least m (culprit_in_both x e m touched h)

  pub done_free : (n : List ℕ) (x : Transaction) → SharedStep s (commits k) (plain done) t → transaction_of s k ≡ Some x → is_among x.touched n ≡ true
      → HasCulprit (first_state limit) k n xs replies s → ⊥
  done_free n x p e touched h =
      true≢false (sym (culprit_in_both x e n touched h) ∙ (subst (λ (o : Option Transaction). Commits k o s (plain done) t) e p).none n)
