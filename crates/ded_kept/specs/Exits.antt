-- The exit status of a program whose run ended so.
use Rattle.std.specs.Prelude.{ℕ}
use Rattle.ded_dialogue.specs.Exits.{exit_number}
use Rattle.ded_kept.specs.declared.program.KeptStatus.{KeptStatus}
use Rattle.ded_kept.specs.declared.program.KeptStatus.TheVariants.{Ran, Unsaved, NotResumed}

-- that of the run over the input; as where the output failed where the file did; and 7 where there was no run
abbrev pub kept_exit_number : KeptStatus → ℕ
kept_exit_number (Ran status) = exit_number status
kept_exit_number (Unsaved e) = 4
kept_exit_number (NotResumed why) = 7
