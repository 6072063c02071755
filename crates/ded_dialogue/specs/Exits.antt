-- The exit status of a program whose run ended with each status.
use Rattle.std.specs.Prelude.{ℕ}
use Rattle.ded_dialogue.specs.declared.status.Status.{Status}
use Rattle.ded_dialogue.specs.declared.status.Status.TheVariants.{Done, DoneWithRefusals, BadWords, ReadFault, WriteFault, NoMemory, TooLong}

-- 0 of a run that is done, 1 of one that is done with refusals, and a number of its own, 2 to 6, of each other end
abbrev pub exit_number : Status → ℕ
exit_number Done = 0
exit_number DoneWithRefusals = 1
exit_number BadWords = 2
exit_number ReadFault = 3
exit_number WriteFault = 4
exit_number NoMemory = 5
exit_number TooLong = 6
