-- Names as the grammar spells them, in all that sessions share.
use Rattle.std.specs.Prelude.{IfSome}
use Rattle.std.specs.List.{AllByRecursion}
use Rattle.ded_session.specs.PlainNames.{HasPlainNames}
use Rattle.ded_shared.specs.State.{State}

-- each entry and each column of the shared catalogue, and of those of open transactions, has such a name
pub record HavePlainNames (s : State) : Type 0 where
  pub shared : HasPlainNames s.shared
  pub own : AllByRecursion (λ o. IfSome o (λ x. HasPlainNames x.own)) s.transactions
