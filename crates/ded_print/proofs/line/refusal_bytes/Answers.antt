-- Each line as it is written out.
use Rattle.ded_model.specs.declared.command.Refusal.TheVariants.{LongStatement, Unfinished, Syntax, LongName, LongNumber, Deep, Many, Twice, Unknown, Taken, Kind, Arity, Unbound, WrongSort, Used, NoTuple, Full, Spent, Level, Wide, Memory}
use Rattle.ded_print.proofs.Refusals.{text_of}
use Rattle.ded_print.proofs.line.refusal_bytes.Goals as goal

pub returns-in-LongStatement : goal.returns-in-LongStatement
returns-in-LongStatement c = text_of _ LongStatement c.in-LongStatement.is

pub returns-in-Unfinished : goal.returns-in-Unfinished
returns-in-Unfinished c = text_of _ Unfinished c.in-Unfinished.is

pub returns-in-Syntax : goal.returns-in-Syntax
returns-in-Syntax c = text_of _ Syntax c.in-Syntax.is

pub returns-in-LongName : goal.returns-in-LongName
returns-in-LongName c = text_of _ LongName c.in-LongName.is

pub returns-in-LongNumber : goal.returns-in-LongNumber
returns-in-LongNumber c = text_of _ LongNumber c.in-LongNumber.is

pub returns-in-Deep : goal.returns-in-Deep
returns-in-Deep c = text_of _ Deep c.in-Deep.is

pub returns-in-Many : goal.returns-in-Many
returns-in-Many c = text_of _ Many c.in-Many.is

pub returns-in-Twice : goal.returns-in-Twice
returns-in-Twice c = text_of _ Twice c.in-Twice.is

pub returns-in-Unknown : goal.returns-in-Unknown
returns-in-Unknown c = text_of _ Unknown c.in-Unknown.is

pub returns-in-Taken : goal.returns-in-Taken
returns-in-Taken c = text_of _ Taken c.in-Taken.is

pub returns-in-Kind : goal.returns-in-Kind
returns-in-Kind c = text_of _ Kind c.in-Kind.is

pub returns-in-Arity : goal.returns-in-Arity
returns-in-Arity c = text_of _ Arity c.in-Arity.is

pub returns-in-Unbound : goal.returns-in-Unbound
returns-in-Unbound c = text_of _ Unbound c.in-Unbound.is

pub returns-in-WrongSort : goal.returns-in-WrongSort
returns-in-WrongSort c = text_of _ WrongSort c.in-WrongSort.is

pub returns-in-Used : goal.returns-in-Used
returns-in-Used c = text_of _ Used c.in-Used.is

pub returns-in-NoTuple : goal.returns-in-NoTuple
returns-in-NoTuple c = text_of _ NoTuple c.in-NoTuple.is

pub returns-in-Full : goal.returns-in-Full
returns-in-Full c = text_of _ Full c.in-Full.is

pub returns-in-Spent : goal.returns-in-Spent
returns-in-Spent c = text_of _ Spent c.in-Spent.is

pub returns-in-Level : goal.returns-in-Level
returns-in-Level c = text_of _ Level c.in-Level.is

pub returns-in-Wide : goal.returns-in-Wide
returns-in-Wide c = text_of _ Wide c.in-Wide.is

pub returns-in-Memory : goal.returns-in-Memory
returns-in-Memory c = text_of _ Memory c.in-Memory.is
