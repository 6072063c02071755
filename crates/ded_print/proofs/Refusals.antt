-- The lines of refusals, written out.
use Rattle.std.proofs.Common.{◌≡◌, refl, sym, ap, ◌∙◌}
use Rattle.std.specs.Prelude.{ℕ, List, codes}
use Rattle.ded_model.specs.declared.command.Refusal.{Refusal}
use Rattle.ded_model.specs.declared.command.Refusal.TheVariants.{LongStatement, Unfinished, Syntax, LongName, LongNumber, Deep, Many, Twice, Unknown, Taken, Kind, Arity, Unbound, WrongSort, Used, NoTuple, Full, Spent, Level, Wide, Memory}
use Rattle.ded_print.specs.Lines.{line_text, refusal_text}
use Rattle.ded_print.specs.Numbers.{number_text}

abbrev pub written : Refusal → List ℕ
written LongStatement = codes "refused 1 long statement"
written Unfinished = codes "refused 2 unfinished"
written Syntax = codes "refused 3 syntax"
written LongName = codes "refused 4 long name"
written LongNumber = codes "refused 5 long number"
written Deep = codes "refused 6 deep"
written Many = codes "refused 7 many"
written Twice = codes "refused 8 twice"
written Unknown = codes "refused 9 unknown"
written Taken = codes "refused 10 taken"
written Kind = codes "refused 11 kind"
written Arity = codes "refused 12 arity"
written Unbound = codes "refused 13 unbound"
written WrongSort = codes "refused 14 sort"
written Used = codes "refused 15 used"
written NoTuple = codes "refused 16 no tuple"
written Full = codes "refused 17 full"
written Spent = codes "refused 18 spent"
written Level = codes "refused 19 level"
written Wide = codes "refused 20 wide"
written Memory = codes "refused 21 memory"

-- the numbers compute
pub as_written : (r : Refusal) → line_text (written r) ≡ refusal_text r
unfolding number_text
as_written LongStatement = refl
as_written Unfinished = refl
as_written Syntax = refl
as_written LongName = refl
as_written LongNumber = refl
as_written Deep = refl
as_written Many = refl
as_written Twice = refl
as_written Unknown = refl
as_written Taken = refl
as_written Kind = refl
as_written Arity = refl
as_written Unbound = refl
as_written WrongSort = refl
as_written Used = refl
as_written NoTuple = refl
as_written Full = refl
as_written Spent = refl
as_written Level = refl
as_written Wide = refl
as_written Memory = refl

-- the text of a refusal that is known to be x
pub text_of : (r x : Refusal) → r ≡ x → line_text (written x) ≡ refusal_text r
text_of r x is = as_written x ∙ ap refusal_text (sym is)
