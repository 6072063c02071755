-- Machines that list texts of the statements that they answer.
use Rattle.std.specs.Prelude.{◌≡◌, ℕ, List, ◌++◌}
use Rattle.ded_lex.specs.Pieces.{Statement}
use Rattle.ded_dialogue.specs.Replies.{Said}
use Rattle.ded_dialogue.specs.Runs.{Answers}

-- texts in order, and what else a machine stands for
pub record Listing (M : Type 0) : Type 0 where
  pub list : List (List ℕ)
  pub rest : M

-- which reply a statement may get, which texts it adds to the list, and what the machine stands for behind it
abbrev pub Gives : Type 0 → Type 1
Gives M = M → Statement → Said → List (List ℕ) → M → Type 0

-- The statement may get the reply, and the texts that it adds stand behind those that were listed.
pub record MayList {M : Type 0} (G : Gives M) (m : Listing M) (s : Statement) (reply : Said) (n : Listing M) : Type 0 where
  pub added : List (List ℕ)
  pub step : G m.rest s reply added n.rest
  pub list : n.list ≡ m.list ++ added

-- some reply may be given to the statement
pub record SomeGiven {M : Type 0} (G : Gives M) (m : M) (s : Statement) : Type 0 where
  pub reply : Said
  pub added : List (List ℕ)
  pub after : M
  pub is : G m s reply added after

-- What a machine answers is what it gives: each of its states shows a list and what else the machine stands for.
pub record IsToldBy {A M N : Type 0} (R : Answers M) (state : A → M) (G : Gives N) (rest : A → N) (listed : A → List (List ℕ)) : Type 0 where
  pub shows : M → Listing N
  pub is : (machine : A) → shows (state machine) ≡ record { list = listed machine; rest = rest machine }
  pub step : (m n : M) (s : Statement) (reply : Said) → R m s reply n → MayList G (shows m) s reply (shows n)
