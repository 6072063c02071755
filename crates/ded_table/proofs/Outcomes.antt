-- Outcomes of a run that begins with an empty catalogue.
use Rattle.std.proofs.Common.{◌≡◌, ℕ, List, Bool, subst}
use Rattle.std.specs.Prelude.{Option}
use Rattle.ded_dialogue.specs.Outcome.{Answered, Unread, Overlong, Broken}
use Rattle.ded_dialogue.specs.Hearing.{heard_from}
use Rattle.ded_run.specs.OneSession.{Standing}
use Rattle.ded_table.specs.Tabled.{MayTable}

module _ (m n : Standing) (same : m ≡ n) (h0 h1 s0 s1 : Option (List ℕ)) where
  pub answered : (k : ℕ) (refused : Bool) → Answered (heard_from MayTable m) k s0 s1 h0 h1 refused → Answered (heard_from MayTable n) k s0 s1 h0 h1 refused
  answered k refused a = subst (λ (x : Standing). Answered (heard_from MayTable x) k s0 s1 h0 h1 refused) same a

  pub unread : (k : ℕ) → Unread (heard_from MayTable m) k s0 s1 h0 h1 → Unread (heard_from MayTable n) k s0 s1 h0 h1
  unread k u = subst (λ (x : Standing). Unread (heard_from MayTable x) k s0 s1 h0 h1) same u

  pub overlong : (k : ℕ) → Overlong (heard_from MayTable m) k s0 s1 h0 h1 → Overlong (heard_from MayTable n) k s0 s1 h0 h1
  overlong k o = subst (λ (x : Standing). Overlong (heard_from MayTable x) k s0 s1 h0 h1) same o

  pub broken : (given : Option (List ℕ)) → Broken (heard_from MayTable m) s0 s1 given h0 h1 → Broken (heard_from MayTable n) s0 s1 given h0 h1
  broken given b = subst (λ (x : Standing). Broken (heard_from MayTable x) s0 s1 given h0 h1) same b
