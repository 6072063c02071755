use Rattle.std.proofs.Common.{◌≡◌, ◌++◌, drop}
use Rattle.ded_model.specs.Catalogue.{tuples_of}
use Rattle.ded_packed.specs.Lent.{lent}
use Rattle.ded_catalog.specs.Changing.{without_number}
use Rattle.ded_relation.specs.Nearby.{numbered}
use Rattle.ded_catalog.proofs.change.left_of.Given as goal

abbrev pub invariant-loop-number : goal.invariant-loop-number
invariant-loop-number l = lent l.left.items ++ tuples_of (without_number l.left_out (numbered (drop l.number-index l.number-items))) ≡ tuples_of (without_number l.left_out (numbered l.number-items))
