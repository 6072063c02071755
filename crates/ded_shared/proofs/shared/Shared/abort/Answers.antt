use Rattle.std.proofs.Common.{◌≡◌, ◌-◌, true, None, is_some, get_or, rules}
use Rattle.ded_shared.proofs.Ending.{abort_done}
use Rattle.ded_shared.proofs.shared.Shared.abort.Goals as goal

pub returns : goal.returns
returns c =
    let open_here : is_some (get_or c.args.self.now.transactions (c.args.session - 1) None) ≡ true = search rules in
    abort_done c.args.self.now c.args.session open_here c.put.new.self c.put.ensures.table c.put.ensures.transactions c.put.ensures.log
