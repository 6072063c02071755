-- The numbers and words of refusals.
use Rattle.std.specs.Prelude.{ℕ, List, codes}
use Rattle.ded_model.specs.declared.command.Refusal.{Refusal}
use Rattle.ded_model.specs.declared.command.Refusal.TheVariants.{LongStatement, Unfinished, Syntax, LongName, LongNumber, Deep, Many, Twice, Unknown, Taken, Kind, Arity, Unbound, WrongSort, Used, NoTuple, Full, Spent, Level, Wide, Memory}

-- the number by which a refusal is known; of several that apply the least is answered
abbrev pub refusal_number : Refusal → ℕ
refusal_number LongStatement = 1
refusal_number Unfinished = 2
refusal_number Syntax = 3
refusal_number LongName = 4
refusal_number LongNumber = 5
refusal_number Deep = 6
refusal_number Many = 7
refusal_number Twice = 8
refusal_number Unknown = 9
refusal_number Taken = 10
refusal_number Kind = 11
refusal_number Arity = 12
refusal_number Unbound = 13
refusal_number WrongSort = 14
refusal_number Used = 15
refusal_number NoTuple = 16
refusal_number Full = 17
refusal_number Spent = 18
refusal_number Level = 19
refusal_number Wide = 20
refusal_number Memory = 21

-- the word or words by which a refusal is known
abbrev pub refusal_word : Refusal → List ℕ
refusal_word LongStatement = codes "long statement"
refusal_word Unfinished = codes "unfinished"
refusal_word Syntax = codes "syntax"
refusal_word LongName = codes "long name"
refusal_word LongNumber = codes "long number"
refusal_word Deep = codes "deep"
refusal_word Many = codes "many"
refusal_word Twice = codes "twice"
refusal_word Unknown = codes "unknown"
refusal_word Taken = codes "taken"
refusal_word Kind = codes "kind"
refusal_word Arity = codes "arity"
refusal_word Unbound = codes "unbound"
refusal_word WrongSort = codes "sort"
refusal_word Used = codes "used"
refusal_word NoTuple = codes "no tuple"
refusal_word Full = codes "full"
refusal_word Spent = codes "spent"
refusal_word Level = codes "level"
refusal_word Wide = codes "wide"
refusal_word Memory = codes "memory"
