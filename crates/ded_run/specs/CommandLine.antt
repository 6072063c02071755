-- The command line, as `clap` is told it.
use Rattle.std.specs.Prelude.{ℕ, List, Bool, true, Some, codes}
use Rattle.std.specs.Str.{bytes_eq}
use Rattle.std.specs.List.{list_any}
use Rattle.clap.specs.Simple.{App, new_app, on_top, with_rule, new_rule}
use Rattle.clap.specs.Walk.{Rule}
use Rattle.clap.specs.declared.builder.action.ArgAction.TheVariants.{Set}

-- an option of this name, which takes one value
abbrev pub option_rule : List ℕ → Rule
option_rule name = record (new_rule name) { long = Some name; action = Some Set }

-- no help, no version
abbrev pub bare : App
bare = on_top (λ s. record s { no_binary_name = true; disable_help_flag = true }) (new_app (codes "dedale"))

-- a command with `--limit` and `--make` alone: no help, no version, no positional argument
abbrev pub dedale : App
dedale = with_rule (with_rule bare (option_rule (codes "limit"))) (option_rule (codes "make"))

-- some word is `--`
abbrev pub has_dashes : List (List ℕ) → Bool
has_dashes words = list_any (λ word. bytes_eq word (codes "--")) words
