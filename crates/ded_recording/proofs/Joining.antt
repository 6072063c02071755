-- Steps of a machine that lists: behind other texts, one run behind another, and steps that may follow.
use Rattle.std.proofs.Common.{◌≡◌, ℕ, List, [], ◌∷◌, ◌++◌, refl, sym, ap, ◌∙◌, append_assoc, append-nil, subst}
use Rattle.ded_lex.specs.Pieces.{Statement}
use Rattle.ded_dialogue.specs.Replies.{Said}
use Rattle.ded_dialogue.specs.Runs.{Answers, Steps}
use Rattle.ded_dialogue.proofs.Steps.{SomeSteps}
use Rattle.ded_recording.specs.Listings.{Listing, Gives, MayList, SomeGiven, IsToldBy}
use Rattle.ded_recording.specs.Moving.{standing}

-- one run behind another
pub steps_joined : {M : Type 0} (R : Answers M) (m k n : M) (ss tt : List Statement) (rs qs : List Said) → Steps R m ss rs k → Steps R k tt qs n → Steps R m (ss ++ tt) (rs ++ qs) n
steps_joined R m k n [] tt [] qs same more = subst (λ p. Steps R p tt qs n) same more
steps_joined R m k n [] tt (r ∷ rs) qs never more = absurd never
steps_joined R m k n (s ∷ ss) tt [] qs never more = absurd never
steps_joined R m k n (s ∷ ss) tt (r ∷ rs) qs (next, is, rest) more = (next, is, steps_joined R next k n ss tt rs qs rest more)

module _ {M : Type 0} (G : Gives M) where
  -- the listing with these texts before its own
  abbrev pub behind : List (List ℕ) → Listing M → Listing M
  behind list m = record { list = list ++ m.list; rest = m.rest }

  step_behind : (list : List (List ℕ)) (m n : Listing M) (s : Statement) (reply : Said) → MayList G m s reply n → MayList G (behind list m) s reply (behind list n)
  step_behind list m n s reply a = record { added = a.added; step = a.step; list = ap (λ (l : List (List ℕ)). list ++ l) a.list ∙ sym (append_assoc list m.list a.added) }

  pub steps_behind : (list : List (List ℕ)) (m n : Listing M) (ss : List Statement) (rs : List Said) → Steps (MayList G) m ss rs n → Steps (MayList G) (behind list m) ss rs (behind list n)
  steps_behind list m n [] [] same = ap (λ (k : Listing M). behind list k) same
  steps_behind list m n [] (r ∷ rs) never = absurd never
  steps_behind list m n (s ∷ ss) [] never = absurd never
  steps_behind list m n (s ∷ ss) (r ∷ rs) (next, is, more) = (behind list next, step_behind list m next s r is, steps_behind list next n ss rs more)

  -- each further statement may get some reply
  pub some_more : ((m : M) (s : Statement) → SomeGiven G m s) → (m : Listing M) (ss : List Statement) → SomeSteps (MayList G) m ss
  some_more next m [] = record { replies = []; last = m; steps = refl }
  some_more next m (s ∷ ss) =
      let a : SomeGiven G m.rest s = next m.rest s in
      let n : Listing M = record { list = m.list ++ a.added; rest = a.after } in
      let rest : SomeSteps (MayList G) n ss = some_more next n ss in
      record { replies = a.reply ∷ rest.replies; last = rest.last; steps = (n, record { added = a.added; step = a.is; list = refl }, rest.steps) }

module _ {A N M : Type 0} (R : Answers N) (state : A → N) (G : Gives M) (rest : A → M) (listed : A → List (List ℕ)) (told : IsToldBy R state G rest listed) where
  told_steps : (m n : N) (ss : List Statement) (rs : List Said) → Steps R m ss rs n → Steps (MayList G) (told.shows m) ss rs (told.shows n)
  told_steps m n [] [] same = ap told.shows same
  told_steps m n [] (r ∷ rs) never = absurd never
  told_steps m n (s ∷ ss) [] never = absurd never
  told_steps m n (s ∷ ss) (r ∷ rs) (next, is, more) = (told.shows next, told.step m next s r is, told_steps next n ss rs more)

  -- from a machine that lists nothing, behind texts that are saved
  pub told_from : (list : List (List ℕ)) (a : A) (n : N) (ss : List Statement) (rs : List Said) → listed a ≡ [] → Steps R (state a) ss rs n → Steps (MayList G) (standing rest list a) ss rs (behind G list (told.shows n))
  told_from list a n ss rs none steps =
      let here : behind G list (told.shows (state a)) ≡ standing rest list a =
      ap (λ (m : Listing M). behind G list m) (told.is a) ∙ ap (λ (l : List (List ℕ)). record { list = l; rest = rest a }) (ap (λ (l : List (List ℕ)). list ++ l) none ∙ append-nil list) in
      subst (λ (m : Listing M). Steps (MayList G) m ss rs (behind G list (told.shows n))) here (steps_behind G list (told.shows (state a)) (told.shows n) ss rs (told_steps (state a) n ss rs steps))

  -- and to another machine
  pub told_to : (list : List (List ℕ)) (a b : A) (ss : List Statement) (rs : List Said) → listed a ≡ [] → Steps R (state a) ss rs (state b) → Steps (MayList G) (standing rest list a) ss rs (standing rest (list ++ listed b) b)
  told_to list a b ss rs none steps =
      subst (λ (m : Listing M). Steps (MayList G) (standing rest list a) ss rs m) (ap (λ (m : Listing M). behind G list m) (told.is b)) (told_from list a (state b) ss rs none steps)
