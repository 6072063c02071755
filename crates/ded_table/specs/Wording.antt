-- Which words of the command line are accepted: those of a script that is read, and none of one that is made.
use Rattle.std.specs.Prelude.{◌≡◌, ◌⊎◌, ℕ, List, None, IsSome}
use Rattle.ded_run.specs.declared.words.Options.{Options}
use Rattle.ded_run.specs.Words.{AcceptedWords, WithOptions}

-- the words are accepted, and with the limit that they give it is so
abbrev pub WithLimit : List (List ℕ) → (ℕ → Type 0) → Type 0
WithLimit words Fact = WithOptions words (λ options. (options.size ≡ None) × Fact options.limit)

-- no options are given by the words, or they ask for a script that is made
abbrev pub AreRefused : List (List ℕ) → Type 0
AreRefused words = ((options : Options) → AcceptedWords words options → ⊥) ⊎ WithOptions words (λ options. IsSome options.size)
