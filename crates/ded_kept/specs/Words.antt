-- Which words of the command line are accepted.
use Rattle.std.specs.Prelude.{◌≡◌, ℕ, List, ◌∷◌, None}
use Rattle.ded_run.specs.declared.words.Options.{Options}
use Rattle.ded_run.specs.Words.{AcceptedWords}

-- The first word is a path, and those behind it give this limit, and no script is made.
pub record AcceptsFile (words : List (List ℕ)) (limit : ℕ) : Type 0 where
  pub path : List ℕ
  pub others : List (List ℕ)
  pub are : words ≡ path ∷ others
  pub options : Options
  pub accepted : AcceptedWords others options
  pub size : options.size ≡ None
  pub limit_is : limit ≡ options.limit
