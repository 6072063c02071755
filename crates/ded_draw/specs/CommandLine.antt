-- The command line, as `clap` is told it.
use Rattle.std.specs.Prelude.{ℕ, true, List, Option, codes}
use Rattle.clap.specs.Simple.{App, matches_of, new_app, on_top, with_rule}
use Rattle.clap.specs.Walk.{first_of}
use Rattle.ded_run.specs.CommandLine.{option_rule}

-- a command without help and version
abbrev pub bare : App
bare = on_top (λ s. record s { no_binary_name = true; disable_help_flag = true }) (new_app (codes "dedale_draw"))

-- a command with these five options, which take a value each, and without arguments that have no name
abbrev pub drawing : App
drawing =
    with_rule (with_rule (with_rule (with_rule (with_rule bare (option_rule (codes "limit"))) (option_rule (codes "columns"))) (option_rule (codes "window"))) (option_rule (codes "size"))) (option_rule (codes "time"))

-- the value that the words give to the option of this name, where they have it
abbrev pub value_of : List ℕ → List (List ℕ) → Option (List ℕ)
value_of name words = first_of name (matches_of drawing words)
