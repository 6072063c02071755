-- Lemmas that several crates cite.
use Rattle.std.proofs.Common.{◌≢◌, List, [], ◌∷◌}
use Rattle.std.specs.Prelude.{ℤ, pos}
use Rattle.ded_model.specs.declared.slot.Slot.{Slot}
use Rattle.ded_model.proofs.LineCoefs.{AllNonzero}
use Rattle.ded_row.specs.Multiples.{coefs_times}
use Rattle.ded_row.proofs.Scaling.{product_nonzero}

pub times_nonzero : (k : ℤ) (cs : List (Slot × ℤ)) → k ≢ pos 0 → AllNonzero cs → AllNonzero (coefs_times k cs)
times_nonzero k [] n h = tt
times_nonzero k (c ∷ cs) n h = (product_nonzero k c.1 n h.0, times_nonzero k cs n h.1)
