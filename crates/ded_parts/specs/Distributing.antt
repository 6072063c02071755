-- Plans that distribute over a name: where its tuples are dealt out to parts, they hold where they do over one of the parts.
use Rattle.std.specs.Prelude.{ℕ, Bool, false, not, ◌&&◌, List}
use Rattle.std.specs.Str.{bytes_eq}
use Rattle.ded_model.specs.Logic.{some_atom}
use Rattle.ded_model.specs.Made.{base}
use Rattle.ded_model.specs.PlanForm.{PlanAtom, scan, rows, PlanForm}
use Rattle.ded_keep.specs.Additive.{is_additive}

-- the atom is a scan of the closure or of the interior of the name
abbrev pub is_made_scan : List ℕ → PlanAtom → Bool
is_made_scan n (scan m ss) = bytes_eq n (base m) && not (bytes_eq n m)
is_made_scan n (rows t) = false

-- the plan scans the closure or the interior of the name
abbrev pub scans_made : List ℕ → PlanForm → Bool
scans_made n f = some_atom (is_made_scan n) f

-- the plan scans the name exactly once, under no complement and not in what a difference takes away, and it scans neither the
-- closure nor the interior of the name
abbrev pub distributes : List ℕ → PlanForm → Bool
distributes n f = is_additive n f && not (scans_made n f)
