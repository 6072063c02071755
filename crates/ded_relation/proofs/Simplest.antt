-- The tuple without atoms.
use Rattle.std.proofs.Common.{◌≡◌, List, [], sym, subst, true≢false}
use Rattle.ded_model.specs.declared.name.Column.{Column}
use Rattle.ded_model.specs.Known.{IsTupleOver}
use Rattle.ded_model.specs.Row.{Atom, tuple_mentions}

-- the tuple without atoms is over each heading
whole : (h : List Column) → IsTupleOver h []
unfolding tuple_mentions
whole h = record { normal = tt; slots = λ s e. absurd (true≢false (sym e)) }

pub whole_over : (h : List Column) (t : List Atom) → t ≡ [] → IsTupleOver h t
whole_over h t e = subst (IsTupleOver h) (sym e) (whole h)
