-- Measures of atoms that are the same are so of the formula.
use Rattle.std.proofs.Common.{◌≡◌, max, ◌||◌, ◌++◌, refl, ap, ap₂}
use Rattle.ded_model.specs.declared.slot.Sort.{Sort}
use Rattle.ded_model.specs.Point.{Key}
use Rattle.ded_model.specs.Lines.{elim_past, clash_past, lines, all_lines, clashes, any_clashes}
use Rattle.ded_model.specs.Logic.{Logic, atom, always, never, negation, every_of, some_of, implies, minus, exists, forall, Logics, none, also, AllAtoms, AllAtomsOf, greatest, greatest_of, rank, greatest_rank, one_more}
use Rattle.ded_model.specs.Measure.{Measure}

-- the measure of a formula, from those of its atoms
abbrev pub measured : {L : Type 0} → (L → Measure) → Logic L → Measure
measured t f = record { b = greatest (λ a. (t a).b) f; rank = rank (λ a. (t a).rank) f; lines = lines (λ a. (t a).lines) f; clash = clashes (λ a. (t a).lines) (λ a. (t a).clash) f; columns = 0 }

abbrev measured_of : {L : Type 0} → (L → Measure) → Logics L → Measure
measured_of t fs =
    record { b = greatest_of (λ a. (t a).b) fs; rank = greatest_rank (λ a. (t a).rank) fs; lines = all_lines (λ a. (t a).lines) fs; clash = any_clashes (λ a. (t a).lines) (λ a. (t a).clash) fs; columns = 0 }

-- of two parts
abbrev both : Measure → Measure → Measure
both x y = record { b = max x.b y.b; rank = max x.rank y.rank; lines = x.lines ++ y.lines; clash = x.clash || y.clash; columns = 0 }

-- past a quantifier
abbrev past : Sort → Key → Measure → Measure
past s k x = record { b = x.b; rank = one_more s x.rank; lines = elim_past s k x.lines; clash = x.clash || clash_past s k x.lines; columns = 0 }

module _ {L : Type 0} (t t' : L → Measure) where
  mutual
    -- the law
    pub measured-same : (f : Logic L) → AllAtoms (λ a. t a ≡ t' a) f → measured t f ≡ measured t' f
    measured-same (atom a) h = ap (λ (x : Measure). record { b = x.b; rank = x.rank; lines = x.lines; clash = x.clash; columns = 0 }) h
    measured-same always h = refl
    measured-same never h = refl
    measured-same (negation f) h = measured-same f h
    measured-same (every_of fs) h = measured_of-same fs h
    measured-same (some_of fs) h = measured_of-same fs h
    measured-same (implies f g) h = ap₂ both (measured-same f h.0) (measured-same g h.1)
    measured-same (minus f g) h = ap₂ both (measured-same f h.0) (measured-same g h.1)
    measured-same (exists s k f) h = ap (past s k) (measured-same f h)
    measured-same (forall s k f) h = ap (past s k) (measured-same f h)

    -- of a list
    measured_of-same : (fs : Logics L) → AllAtomsOf (λ a. t a ≡ t' a) fs → measured_of t fs ≡ measured_of t' fs
    measured_of-same none h = refl
    measured_of-same (also f fs) h = ap₂ both (measured-same f h.0) (measured_of-same fs h.1)
