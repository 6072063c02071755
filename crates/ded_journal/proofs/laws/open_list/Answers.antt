use Rattle.std.proofs.Common.{sym, ◌∙◌}
use Rattle.sqlite.specs.Files.{image_of}
use Rattle.ded_journal.proofs.Closings.{found_again}
use Rattle.ded_journal.proofs.laws.open_list.Goals as goal

pub returns-in-Ok : goal.returns-in-Ok
returns-in-Ok g c honest =
    let found = c.in-Ok.ensures.ok honest in
    record {
      honest = found.honest;
      is_open = found.finds.is_open;
      finds = λ list holds.
          let now = found_again (image_of g.D.Disk c.args.files) c.in-Ok.journal list found.finds holds in
          (now, sym found.finds.settled ∙ now);
    }
