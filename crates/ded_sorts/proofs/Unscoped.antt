-- A test of atoms that doesn't look at their scope.
use Rattle.std.proofs.Common.{◌≡◌, Bool, ◌||◌, Option, Some, None, refl, ap₂}
use Rattle.ded_model.specs.Form.{Form, FormAtom}
use Rattle.ded_model.specs.Logic.{Logic, Logics, Scope, atom, always, never, negation, every_of, some_of, implies, minus, exists, forall, none, also, some_atom, some_atom_of, some_below, some_below_of}
use Rattle.ded_sorts.specs.Causes.{passes_with}

module _ {L : Type 0} (test : L → Bool) where
  mutual
    -- below any scope some atom passes it exactly where some atom passes
    pub some_below-unscoped : (scope : Scope) (f : Logic L) → some_below (λ s a. test a) scope f ≡ some_atom test f
    some_below-unscoped scope (atom a) = refl
    some_below-unscoped scope always = refl
    some_below-unscoped scope never = refl
    some_below-unscoped scope (negation f) = some_below-unscoped scope f
    some_below-unscoped scope (every_of fs) = some_below_of-unscoped scope fs
    some_below-unscoped scope (some_of fs) = some_below_of-unscoped scope fs
    some_below-unscoped scope (implies f g) = ap₂ (◌||◌) (some_below-unscoped scope f) (some_below-unscoped scope g)
    some_below-unscoped scope (minus f g) = ap₂ (◌||◌) (some_below-unscoped scope f) (some_below-unscoped scope g)
    some_below-unscoped scope (exists s k f) = some_below-unscoped _ f
    some_below-unscoped scope (forall s k f) = some_below-unscoped _ f

    pub some_below_of-unscoped : (scope : Scope) (fs : Logics L) → some_below_of (λ s a. test a) scope fs ≡ some_atom_of test fs
    some_below_of-unscoped scope none = refl
    some_below_of-unscoped scope (also f fs) = ap₂ (◌||◌) (some_below-unscoped scope f) (some_below_of-unscoped scope fs)

-- so it is with the formula of a command, if it has one
pub passes_with-unscoped : (test : FormAtom → Bool) (scope : Scope) (o : Option Form)
    → passes_with o (some_below (λ s a. test a) scope) ≡ passes_with o (some_atom test)
passes_with-unscoped test scope None = refl
passes_with-unscoped test scope (Some f) = some_below-unscoped test scope f
