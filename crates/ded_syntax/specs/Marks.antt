-- Sums over 2^63, by which a reader marks literals that are too long.
use Rattle.std.specs.Prelude.{◌^◌, ◌||◌, unsigned_abs, nat_le, Bool, false}
use Rattle.std.specs.List.{list_any}
use Rattle.ded_model.specs.declared.formula.Operand.{Operand}
use Rattle.ded_model.specs.declared.formula.Operand.TheVariants.{Single, Sum, Quoted}
use Rattle.ded_model.specs.Command.{CommandForm, insert, view, ask, query, explain}
use Rattle.ded_model.specs.Form.{FormAtom, compare, member}
use Rattle.ded_model.specs.Logic.{some_atom, some_atom_of}
use Rattle.ded_model.specs.LongRows.{is_long_comparison, is_long_argument}

-- the operand is a sum over 2^63 or more
abbrev pub is_marked : Operand → Bool
is_marked (Single n) = false
is_marked (Sum t) = nat_le (2 ^ 63) (unsigned_abs t.over)
is_marked (Quoted t) = false

-- a side of the comparison, or an argument of the member, is a sum over 2^63 or more
abbrev pub is_marked_atom : FormAtom → Bool
is_marked_atom (compare l op r) = is_marked l || is_marked r
is_marked_atom (member n ts) = list_any is_marked ts

-- some atom of the command's formula passes the test
abbrev pub some_in : (FormAtom → Bool) → CommandForm → Bool
some_in test (insert n fs) = some_atom_of test fs
some_in test (view n h f) = some_atom test f
some_in test (ask f) = some_atom test f
some_in test (query h f) = some_atom test f
some_in test (explain h f) = some_atom test f
some_in test c = false

-- a comparison or an argument of the command has a sum over 2^63
abbrev pub has_mark : CommandForm → Bool
has_mark c = some_in is_marked_atom c

-- ---- sums over 2^63 or long rows

-- the argument is a sum over 2^63 or more, or has a long row
abbrev pub is_unfit_argument : Operand → Bool
is_unfit_argument t = is_marked t || is_long_argument t

-- the comparison has a side that is a sum over 2^63 or more, or a long row; or an argument of the member is unfit
abbrev pub is_unfit_atom : FormAtom → Bool
is_unfit_atom (compare l op r) = (is_marked l || is_marked r) || is_long_comparison l r
is_unfit_atom (member n ts) = list_any is_unfit_argument ts
