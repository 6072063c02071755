-- Replies of a machine's own form, and how they are heard.
use Rattle.std.specs.Prelude.{◌≡◌, List, [], ◌∷◌, map}
use Rattle.ded_lex.specs.Pieces.{Statement}
use Rattle.ded_dialogue.specs.Replies.{Said}

-- what may be answered: the state before, a statement, its reply, and the state behind it
abbrev pub Gives : Type 0 → Type 0 → Type 1
Gives M F = M → Statement → F → M → Type 0

-- The statement may get a reply that is heard so.
pub record Heard {M F : Type 0} (G : Gives M F) (said_of : F → Said) (m : M) (s : Statement) (said : Said) (n : M) : Type 0 where
  pub reply : F
  pub step : G m s reply n
  pub is : said ≡ said_of reply

-- one reply for each statement, in order, each in the state that those before it left
abbrev pub GivesAll : {M F : Type 0} → Gives M F → M → List Statement → List F → M → Type 0
GivesAll G m [] [] n = n ≡ m
GivesAll G m [] (reply ∷ replies) n = ⊥
GivesAll G m (s ∷ ss) [] n = ⊥
GivesAll {M} G m (s ∷ ss) (reply ∷ replies) n = (next : M) × G m s reply next × GivesAll G next ss replies n

-- Replies that are heard so may be given to the statements.
pub record AllHeard {M F : Type 0} (G : Gives M F) (said_of : F → Said) (m : M) (ss : List Statement) (said : List Said) (n : M) : Type 0 where
  pub replies : List F
  pub steps : GivesAll G m ss replies n
  pub are : map said_of replies ≡ said
