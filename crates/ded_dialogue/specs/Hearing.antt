-- What is heard of a machine that answers.
use Rattle.ded_dialogue.specs.Outcome.{Protocol}
use Rattle.ded_dialogue.specs.Replies.{Said, texts, some_refusal}
use Rattle.ded_dialogue.specs.Runs.{Answers, Steps, Run}

-- the protocol of a machine that answers so from this state on, where replies are told as they are heard
abbrev pub heard_from : {M : Type 0} → Answers M → M → Protocol Said M
heard_from R start = record { runs = Run R start; steps = Steps R start; texts = texts; refuses = some_refusal }
