use Rattle.std.proofs.Common.{◌≡◌, ◌-◌, ◌∷◌, [], length}
use Rattle.ded_readback.specs.Reading.{terms_from}
use Rattle.ded_readback.proofs.terms.terms.Given as goal

abbrev pub invariant-loop : goal.invariant-loop
invariant-loop l = terms_from l.columns (length l.bytes - l.counter) l.terms.items l.rest ≡ terms_from l.columns (length l.bytes) (l.fn.first ∷ []) l.bytes
