-- How a text is written in markup: as characters of XML 1.0 in UTF-8, with `&`, `<`, `>` and both quotes as entities.
use Rattle.std.specs.Prelude.{◌≡◌, ◌≢◌, ℕ, ◌≤◌, ◌==◌, Bool, true, not, ◌&&◌, List, codes, chars, encode_utf8, flat_map, if◌then◌else◌, ◌⊎◌}
use Rattle.std.specs.Char.{IsScalar, is_control}
use Rattle.std.specs.List.{AllByRecursion, concat}
use Rattle.std.specs.Str.Lossy.{utf8_lossy, replacement_bytes}

-- a character that is written as it is, or as an entity: no control, and neither of the two that XML forbids
abbrev pub is_written : ℕ → Bool
is_written c = not (is_control c) && (not (c == 0xFFFE) && not (c == 0xFFFF))

-- any other than the five that have entities: U+FFFD in the place of one that isn't written
abbrev pub plain_text : ℕ → List ℕ
plain_text c = if is_written c then encode_utf8 c else replacement_bytes

-- a character
abbrev pub character_text : ℕ → List ℕ
character_text c =
    if c == 38 then codes "&amp;"
    else (if c == 60 then codes "&lt;"
    else (if c == 62 then codes "&gt;"
    else (if c == 34 then codes "&quot;"
    else (if c == 39 then codes "&apos;"
    else plain_text c))))

-- any bytes: each invalid sequence is read as U+FFFD
unfoldable pub escape : List ℕ → List ℕ
escape bytes = flat_map character_text (chars (utf8_lossy bytes))

-- ---- what an escaped text is made of

-- the part is one of the five entities
abbrev pub IsEntity : List ℕ → Type 0
IsEntity part = (part ≡ codes "&amp;") ⊎ (part ≡ codes "&lt;") ⊎ (part ≡ codes "&gt;") ⊎ (part ≡ codes "&quot;") ⊎ (part ≡ codes "&apos;")

-- a byte that is no control, and not one of `&`, `<`, `>` and the two quotes
pub record IsPlainByte (b : ℕ) : Type 0 where
  pub no_control : 32 ≤ b
  pub no_ampersand : b ≢ 38
  pub no_less : b ≢ 60
  pub no_greater : b ≢ 62
  pub no_quote : b ≢ 34
  pub no_apostrophe : b ≢ 39

-- one character of XML 1.0 in UTF-8, of such bytes
pub record IsPlainCharacter (part : List ℕ) : Type 0 where
  pub code : ℕ
  pub is_scalar : IsScalar code
  pub is_written : is_written code ≡ true
  pub is : part ≡ encode_utf8 code
  pub bytes : AllByRecursion IsPlainByte part

-- The text is made of the five entities and of plain characters.
pub record IsEscaped (bytes : List ℕ) : Type 0 where
  pub parts : List (List ℕ)
  pub are : AllByRecursion (λ part. IsEntity part ⊎ IsPlainCharacter part) parts
  pub is : bytes ≡ concat parts
