-- Tests that fewer atoms pass, and what follows where no atom of a command's formula is at fault.
use Rattle.std.proofs.Common.{◌≡◌, Bool, false, Option, Some, None, refl, sym, ◌∙◌}
use Rattle.std.proofs.lemmas.Bool.{or_parts, or_from}
use Rattle.ded_model.specs.Catalogue.{Catalogue}
use Rattle.ded_model.specs.Command.{CommandForm, header, relation, insert, delete, drop, view, keep, ask, query, show, box_of, explain, dump, disjoint, verify}
use Rattle.ded_model.specs.Entries.{known}
use Rattle.ded_model.specs.Form.{Form, FormAtom}
use Rattle.ded_model.specs.Known.{scope_of, columns_with, is_unknown_atom, is_arity_atom, is_unbound_atom, is_missorted_atom}
use Rattle.ded_model.specs.Logic.{Logic, Logics, Scope, atom, always, never, negation, every_of, some_of, implies, minus, exists, forall, none, also, some_below, some_below_of}
use Rattle.ded_sorts.specs.Causes.{passes_with, formula_in, heading_in}
use Rattle.ded_sorts.specs.Facts.{first_known, heading_with, is_faulty_atom, IsSound}
use Rattle.ded_sorts.proofs.Unscoped.{passes_with-unscoped}

module _ {L : Type 0} (p q : Scope → L → Bool) (fewer : (scope : Scope) (a : L) → p scope a ≡ false → q scope a ≡ false) where
  mutual
    -- where no atom passes the test, none passes one that fewer atoms pass
    pub some_below-fewer : (scope : Scope) (f : Logic L) → some_below p scope f ≡ false → some_below q scope f ≡ false
    some_below-fewer scope (atom a) h = fewer scope a h
    some_below-fewer scope always h = refl
    some_below-fewer scope never h = refl
    some_below-fewer scope (negation f) h = some_below-fewer scope f h
    some_below-fewer scope (every_of fs) h = some_below_of-fewer scope fs h
    some_below-fewer scope (some_of fs) h = some_below_of-fewer scope fs h
    some_below-fewer scope (implies f g) h =
        let both = or_parts (some_below p scope f) (some_below p scope g) h in
        or_from (some_below q scope f) (some_below q scope g) (some_below-fewer scope f both.0) (some_below-fewer scope g both.1)
    some_below-fewer scope (minus f g) h =
        let both = or_parts (some_below p scope f) (some_below p scope g) h in
        or_from (some_below q scope f) (some_below q scope g) (some_below-fewer scope f both.0) (some_below-fewer scope g both.1)
    some_below-fewer scope (exists s k f) h = some_below-fewer _ f h
    some_below-fewer scope (forall s k f) h = some_below-fewer _ f h

    pub some_below_of-fewer : (scope : Scope) (fs : Logics L) → some_below_of p scope fs ≡ false → some_below_of q scope fs ≡ false
    some_below_of-fewer scope none h = refl
    some_below_of-fewer scope (also f fs) h =
        let both = or_parts (some_below p scope f) (some_below_of p scope fs) h in
        or_from (some_below q scope f) (some_below_of q scope fs) (some_below-fewer scope f both.0) (some_below_of-fewer scope fs both.1)

-- so it is with the formula of a command, if it has one
passes_with-fewer : (p q : Scope → FormAtom → Bool) → ((scope : Scope) (a : FormAtom) → p scope a ≡ false → q scope a ≡ false) → (scope : Scope) (o : Option Form)
    → passes_with o (some_below p scope) ≡ false → passes_with o (some_below q scope) ≡ false
passes_with-fewer p q fewer scope None h = refl
passes_with-fewer p q fewer scope (Some f) h = some_below-fewer p q fewer scope f h

-- the columns whose names the formula of a command may mention, by what is known of its name
pub heading_there : (c : Catalogue) (command : CommandForm) → heading_with (columns_with (first_known c command)) command ≡ heading_in c command
heading_there c header = refl
heading_there c (relation n h) = refl
heading_there c (insert n fs) = refl
heading_there c (delete n k) = refl
heading_there c (drop n) = refl
heading_there c (view n h f) = refl
heading_there c (keep n) = refl
heading_there c (ask f) = refl
heading_there c (query h f) = refl
heading_there c (show n) = refl
heading_there c (box_of n) = refl
heading_there c (explain h f) = refl
heading_there c dump = refl
heading_there c (disjoint n m) = refl
heading_there c (verify n m es) = refl

-- where no atom of the command's formula is at fault, none has one of the faults
pub sound : (c : Catalogue) (command : CommandForm)
    → passes_with (formula_in command) (some_below (is_faulty_atom (known c)) (scope_of (heading_in c command))) ≡ false → IsSound c command
sound c command h =
    let K = known c in
    let scope = scope_of (heading_in c command) in
    let o = formula_in command in
    let faulty = is_faulty_atom K in
    record {
      defined = sym (passes_with-unscoped (is_unknown_atom K) scope o)
          ∙ passes_with-fewer faulty (λ s a. is_unknown_atom K a) (λ s a r. (or_parts _ _ (or_parts _ _ r).0).0) scope o h;
      arity = sym (passes_with-unscoped (is_arity_atom K) scope o)
          ∙ passes_with-fewer faulty (λ s a. is_arity_atom K a) (λ s a r. (or_parts _ _ (or_parts _ _ r).0).1) scope o h;
      bound = passes_with-fewer faulty is_unbound_atom (λ s a r. (or_parts _ _ (or_parts _ _ r).1).0) scope o h;
      sorted = passes_with-fewer faulty (is_missorted_atom K) (λ s a r. (or_parts _ _ (or_parts _ _ r).1).1) scope o h;
    }
