-- Lemmas that several crates cite.
use Rattle.std.proofs.Common.{◌≡◌, ℕ, false, List, [], ◌∷◌, sym, ◌∙◌}
use Rattle.std.specs.Prelude.{ℤ}
use Rattle.std.specs.List.{list_any}
use Rattle.ded_model.specs.declared.slot.Sort.TheVariants.{Text}
use Rattle.ded_model.specs.Point.{same_sort}
use Rattle.ded_model.specs.Slotted.{SlotScope, slot_of, add_parts}
use Rattle.ded_model.specs.Known.{sort_in}
use Rattle.ded_model.proofs.Bools.{or_false_left, or_false_right}
use Rattle.ded_model.proofs.SlotLists.{rational}
use Rattle.ded_resolve.specs.Scope.{sorts_of}
use Rattle.ded_resolve.proofs.Summing.{sort_in-slot}
use Rattle.ded_resolve.proofs.Ascending.{Ascend, ascend-put}

pub parts_ascend : (scope : SlotScope) (cs : List (List ℕ × ℤ)) → list_any (λ c. same_sort (sort_in (sorts_of scope) c.0) Text) cs ≡ false → Ascend (add_parts scope cs)
parts_ascend scope [] h = tt
parts_ascend scope (c ∷ cs) h =
    ascend-put (slot_of scope c.0) c.1 (add_parts scope cs) (sym (sort_in-slot scope c.0) ∙ rational (sort_in (sorts_of scope) c.0) (or_false_left _ _ h))
    (parts_ascend scope cs (or_false_right (same_sort (sort_in (sorts_of scope) c.0) Text) _ h))
