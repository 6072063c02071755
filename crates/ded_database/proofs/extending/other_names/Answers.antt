use Rattle.std.proofs.lemmas.Bool.{not-false}
use Rattle.std.proofs.Common.{sym}
use Rattle.std.specs.Str.{bytes_eq}
use Rattle.ded_database.proofs.Others.{one_passed}
use Rattle.ded_database.proofs.extending.other_names.Goals as goal

pub loop-scanned-preserved : goal.loop-scanned-preserved
loop-scanned-preserved c = λ n.
    one_passed n c.in-Some.scanned c.args.name.now c.loop-scanned.yielded c.loop-scanned.others.items (not-false (bytes_eq c.in-Some.scanned c.args.name.now) (sym c.if-ne.ensures)) (c.loop-scanned.invariant n)
