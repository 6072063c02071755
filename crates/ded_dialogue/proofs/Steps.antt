-- Behind a statement that was answered each further one may get a reply, and steps give one reply for each.
use Rattle.std.proofs.Common.{◌≡◌, List, [], ◌∷◌, length, refl, arith}
use Rattle.ded_lex.specs.Pieces.{Statement}
use Rattle.ded_dialogue.specs.Replies.{Said}
use Rattle.ded_dialogue.specs.Runs.{Answers, Steps, SomeAnswer}

-- behind an answer any statement may get one
abbrev pub GoesOn : {M : Type 0} → Answers M → Type 0
GoesOn {M} R = (m n : M) (s next : Statement) (reply : Said) → R m s reply n → SomeAnswer R n next

-- some replies may be given to the statements
pub record SomeSteps {M : Type 0} (R : Answers M) (m : M) (ss : List Statement) : Type 0 where
  pub replies : List Said
  pub last : M
  pub steps : Steps R m ss replies last

pub some_steps : {M : Type 0} (R : Answers M) → GoesOn R → (m n : M) (s : Statement) (reply : Said) → R m s reply n → (ss : List Statement) → SomeSteps R n ss
some_steps R on m n s reply step [] = record { replies = []; last = n; steps = refl }
some_steps R on m n s reply step (next ∷ ss) =
    let a : SomeAnswer R n next = on m n s next reply step in
    let rest : SomeSteps R a.after ss = some_steps R on n a.after next a.reply a.is ss in
    record { replies = a.reply ∷ rest.replies; last = rest.last; steps = (a.after, a.is, rest.steps) }

-- one reply for each statement
pub many_steps : {M : Type 0} (R : Answers M) (m n : M) (ss : List Statement) (replies : List Said) → Steps R m ss replies n → length replies ≡ length ss
many_steps R m n [] [] same = refl
many_steps R m n [] (reply ∷ replies) never = absurd never
many_steps R m n (s ∷ ss) [] never = absurd never
many_steps R m n (s ∷ ss) (reply ∷ replies) (next, is, more) = let rest = many_steps R next n ss replies more in omega (arith, rest)
