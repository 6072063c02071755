-- What a parse of the words that is done says.
use Rattle.std.proofs.Common.{◌≡◌, List, [], true, refl, ap, ◌∙◌, subst}
use Rattle.std.specs.Prelude.{Option}
use Rattle.clap.specs.Faults.{fault_of, is_simple_and_free}
use Rattle.clap.specs.Simple.{App, HasMatchesOf, matches_of}
use Rattle.clap.specs.Matches.{first_value, found_of}
use Rattle.clap.specs.Walk.{Row, Text, first_of, rows_of}
use Rattle.clap.specs.declared.parser.matches.ArgMatches.{ArgMatches}
use Rattle.clap.proofs.WalkLemmas.{first_value-rows}
use Rattle.ded_draw.specs.CommandLine.{drawing, value_of}

pub no_fault : (a : App) (words : List Text) → a ≡ drawing → (is_simple_and_free a ≡ true → fault_of a words ≡ []) → fault_of drawing words ≡ []
no_fault a words is fine = subst (λ (b : App). is_simple_and_free b ≡ true → fault_of b words ≡ []) is fine refl

pub reads_value : (name : Text) (a : App) (words : List Text) (m : ArgMatches) (text : Option Text) → a ≡ drawing → HasMatchesOf a words m → text ≡ first_value (found_of m) name → text ≡ value_of name words
reads_value name a words m text is matches reads =
    let rows : rows_of (found_of m) ≡ matches_of drawing words = (subst (λ (b : App). HasMatchesOf b words m) is matches refl).0 in
    reads ∙ first_value-rows (found_of m) name ∙ ap (λ (rs : List Row). first_of name rs) rows
