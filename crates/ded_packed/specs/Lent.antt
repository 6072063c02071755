-- Tuples that are lent.
use Rattle.std.specs.Prelude.{List, map}
use Rattle.ded_model.specs.Row.{Atom}
use Rattle.ded_packed.specs.declared.lent.Lent.{Lent}
use Rattle.ded_packed.specs.declared.lent.Lent.TheVariants.{Plain, Packed}

-- the tuple that is lent
abbrev pub tuple_of : Lent → List Atom
tuple_of (Plain t) = t.now
tuple_of (Packed t) = t.now

-- the tuples that are lent
abbrev pub lent : List Lent → List (List Atom)
lent ts = map tuple_of ts
