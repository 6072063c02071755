use Rattle.std.proofs.Common.{rules, ◌<◌, ◌/◌, length}
use Rattle.std.proofs.lemmas.List.Elements.{All-from_recursion, recursion_from_All}
use Rattle.std.proofs.lemmas.List.Sorted.{All-permutation}
use Rattle.ded_num.proofs.Tests.{all-at}
use Rattle.ded_complement.proofs.splitting.middle.Goals as goal

pub returns : goal.returns
returns g c =
    let old = c.loop-place.starts.items in
    let new = c.sort_unstable_by.new.self.items in
    let all = recursion_from_All (λ s. s.place < length c.args.taken.now) new (All-permutation (λ s. s.place < length c.args.taken.now) old new c.sort_unstable_by.ensures.permutation (All-from_recursion (λ s. s.place < length c.args.taken.now) old c.loop-place.invariant.places)) in
    all-at (λ s. s.place < length c.args.taken.now) new (c.len.result / 2) c.index.result.now (search rules) c.index.ensures all
