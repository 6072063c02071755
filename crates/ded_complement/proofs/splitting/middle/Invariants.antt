use Rattle.std.proofs.Common.{◌≡◌, ◌<◌, length}
use Rattle.std.specs.List.{AllByRecursion}
use Rattle.ded_complement.proofs.splitting.middle.Given as goal

abbrev pub invariant-loop-place : goal.invariant-loop-place
invariant-loop-place g l = record {
  places : AllByRecursion (λ s. s.place < length l.taken) l.starts.items;
  count : length l.starts.items ≡ l.place-index;
}
