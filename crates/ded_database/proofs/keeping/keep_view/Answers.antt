use Rattle.std.proofs.Common.{◌≡◌, true}
use Rattle.ded_database.specs.Held.{is_marked}
use Rattle.ded_database.proofs.Under.{each_named}
use Rattle.ded_database.proofs.Listing.{marked_after}
use Rattle.ded_database.proofs.keeping.keep_view.Goals as goal

pub returns-in-Ok-clause-upheld : goal.returns-in-Ok-clause-upheld
returns-in-Ok-clause-upheld g c =
    let ms = c.mark.new.marks.items in
    record {
      marks = c.mark.ensures.marks;
      apart = c.mark.ensures.apart;
      held = c.in_ok-hold.ensures.right;
      marked = each_named (λ v. is_marked ms v ≡ true) c.hold.new.held
          (λ v h. marked_after c.args.name.now c.args.marks.now.items ms c.args.held.now c.in-Ok.ensures.marked c.requires.upheld.marked v (c.in_ok-hold.ensures.names v h));
    }
