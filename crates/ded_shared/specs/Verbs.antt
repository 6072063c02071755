-- The words of transactions.
use Rattle.std.specs.Prelude.{ℕ, List, codes}
use Rattle.ded_shared.specs.declared.tag.Verb.{Verb}
use Rattle.ded_shared.specs.declared.tag.Verb.TheVariants.{Begin, Commit, Abort}

-- the word that spells the verb
abbrev pub verb_word : Verb → List ℕ
verb_word Begin = codes "begin"
verb_word Commit = codes "commit"
verb_word Abort = codes "abort"
