-- Which words of the command line are accepted.
use Rattle.std.specs.Prelude.{◌≡◌, ◌⊎◌, ◌≤◌, ℕ, List, [], ◌∷◌, ◌++◌, Option, None, Some, length, map, codes}
use Rattle.std.specs.Str.Parse.{IsNumeral, digits_value}
use Rattle.std.specs.String.{string_bytes}
use Rattle.ded_run.specs.declared.words.Options.{Options}
use Rattle.ded_run.specs.declared.words.Words.{Words}

-- the words as bytes
abbrev pub texts_in : Words → List (List ℕ)
texts_in words = map string_bytes words.list.items

-- 1 to 7 decimal digits, and the number that they write is 1 to the greatest
pub record IsNumber (greatest : ℕ) (value : List ℕ) (number : ℕ) : Type 0 where
  pub numeral : IsNumeral 10 value
  pub short : length value ≤ 7
  pub writes : number ≡ digits_value 10 value
  pub low : 1 ≤ number
  pub high : number ≤ greatest

-- no word for the option, or those that give it the value: the two words `--name` and the value, or the one word `--name=` and the value
abbrev pub OptionWords : List ℕ → Option (List ℕ) → List (List ℕ) → Type 0
OptionWords name None words = words ≡ []
OptionWords name (Some value) words =
    (words ≡ (codes "--" ++ name) ∷ value ∷ []) ⊎ (words ≡ (codes "--" ++ name ++ codes "=" ++ value) ∷ [])

-- The words are those of `--limit` and those of `--make`, in either order.
pub record BothOptions (words : List (List ℕ)) (limit size : Option (List ℕ)) : Type 0 where
  pub limit_words : List (List ℕ)
  pub size_words : List (List ℕ)
  pub limit_are : OptionWords (codes "limit") limit limit_words
  pub size_are : OptionWords (codes "make") size size_words
  pub order : (words ≡ limit_words ++ size_words) ⊎ (words ≡ size_words ++ limit_words)

-- the limit is 100,000 where no value gives another
abbrev pub LimitValue : Option (List ℕ) → ℕ → Type 0
LimitValue None limit = limit ≡ 100000
LimitValue (Some value) limit = IsNumber 1000000 value limit

-- a script is made where a value gives its size, and otherwise none
abbrev pub SizeValue : Option (List ℕ) → Option ℕ → Type 0
SizeValue None None = Unit {0}
SizeValue None (Some size) = ⊥
SizeValue (Some value) None = ⊥
SizeValue (Some value) (Some size) = IsNumber 100 value size

-- The words are accepted, and give these options.
pub record AcceptedWords (words : List (List ℕ)) (options : Options) : Type 0 where
  pub limit_value : Option (List ℕ)
  pub size_value : Option (List ℕ)
  pub are : BothOptions words limit_value size_value
  pub limit : LimitValue limit_value options.limit
  pub size : SizeValue size_value options.size

-- the words are accepted, and with the options that they give it is so
abbrev pub WithOptions : List (List ℕ) → (Options → Type 0) → Type 0
WithOptions words Fact = (options : Options) × AcceptedWords words options × Fact options
