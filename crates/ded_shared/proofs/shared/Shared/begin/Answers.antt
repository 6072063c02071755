use Rattle.std.proofs.Common.{◌≡◌, ◌-◌, ℕ, false, None, is_some, get_or, length, subst, rules}
use Rattle.ded_catalog.specs.State.{catalogue_of}
use Rattle.ded_model.specs.Catalogue.{Catalogue}
use Rattle.ded_shared.specs.Parts.{IsBegun}
use Rattle.ded_shared.proofs.Ending.{begin_done}
use Rattle.ded_shared.proofs.shared.Shared.begin.Goals as goal

pub returns : goal.returns
returns c =
    let closed : is_some (get_or c.args.self.now.transactions (c.args.session - 1) None) ≡ false = search rules in
    let copied : catalogue_of c.in-Ok.own ≡ catalogue_of c.args.self.now.table = search rules in
    let all : c.len.result ≡ length c.args.self.now.log = search rules in
    let begun : IsBegun (catalogue_of c.args.self.now.table) (length c.args.self.now.log) c.over-transaction.result =
    subst (λ (b : Catalogue). IsBegun b (length c.args.self.now.log) c.over-transaction.result) copied
    (subst (λ (n : ℕ). IsBegun (catalogue_of c.in-Ok.own) n c.over-transaction.result) all c.over-transaction.ensures) in
    begin_done c.args.self.now c.args.session closed c.over-transaction.result begun c.put.new.self c.put.ensures.table c.put.ensures.transactions c.put.ensures.log
