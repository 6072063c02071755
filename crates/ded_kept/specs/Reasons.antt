-- What is written where there is no run.
use Rattle.std.specs.Prelude.{ℕ, List, codes}
use Rattle.sqlite_trees.specs.declared.error.StoreError.{StoreError}
use Rattle.sqlite_trees.specs.declared.error.StoreError.TheVariants.{OutOfMemory, Io, Corrupt, Full, Broken, Unstorable}
use Rattle.ded_journal.specs.declared.refusal.NotOpened.{NotOpened}
use Rattle.ded_journal.specs.declared.refusal.NotOpened.TheVariants.{Foreign, Newer, Damaged, Busy, Unreachable, Failed}
use Rattle.ded_kept.specs.declared.resuming.NotResumed.{NotResumed}
use Rattle.ded_kept.specs.declared.resuming.NotResumed.TheVariants as resumed

-- why a call of the file failed
abbrev pub failure_text : StoreError → List ℕ
failure_text OutOfMemory = codes "not opened: out of memory\n"
failure_text Full = codes "not opened: the disk is full\n"
failure_text _ = codes "not opened: the disk failed\n"

-- why a file isn't opened
abbrev pub refusal_text : NotOpened → List ℕ
refusal_text Foreign = codes "not opened: the file is of another program\n"
refusal_text (Newer version) = codes "not opened: the file is of a newer version\n"
refusal_text Damaged = codes "not opened: the file is damaged\n"
refusal_text Busy = codes "not opened: the file is in use\n"
refusal_text Unreachable = codes "not opened: there is no such file that can be read and written\n"
refusal_text (Failed e) = failure_text e

-- why its statements give no session
abbrev pub resuming_text : NotResumed → List ℕ
resuming_text resumed.NoMemory = codes "not opened: out of memory\n"
resuming_text (resumed.Failed e) = failure_text e
resuming_text (resumed.Unaccepted number) = codes "not opened: a statement of the file is not accepted again\n"
