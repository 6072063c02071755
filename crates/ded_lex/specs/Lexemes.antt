-- Words, numbers, decimals, quoted texts and signs.
use Rattle.std.specs.Prelude.{◌≡◌, ◌⊎◌, ℕ, Bool, true, false, List, [], ◌∷◌, ◌++◌, ◌==◌, ◌&&◌, ◌||◌, nat_le, codes}
use Rattle.std.specs.List.{AllByRecursion}
use Rattle.ded_model.specs.Quoting.{quoted}

-- 0 to 9
abbrev pub digit_byte : ℕ → Bool
digit_byte b = nat_le 48 b && nat_le b 57

-- A to Z, a to z and _
abbrev pub letter_byte : ℕ → Bool
letter_byte b = (nat_le 65 b && nat_le b 90) || ((nat_le 97 b && nat_le b 122) || (b == 95))

-- what may stand in a word: a letter, _ or a digit
abbrev pub word_byte : ℕ → Bool
word_byte b = letter_byte b || digit_byte b

-- what may stand between quotes: no control character
abbrev pub text_byte : ℕ → Bool
text_byte b = (nat_le 32 b && nat_le b 126) || (nat_le 128 b && nat_le b 255)

-- A word, a decimal and a sign by their bytes, a number by its digits, and a quoted text by its value.
pub data Lexeme : Type 0 where
  Word : List ℕ → Lexeme
  Number : List ℕ → Lexeme
  Decimal : List ℕ → Lexeme
  Quoted : List ℕ → Lexeme
  Sign : List ℕ → Lexeme

-- the bytes that spell a lexeme: a quoted text between quotes, with each quote in it doubled, and any other as it is
abbrev pub lexeme_bytes : Lexeme → List ℕ
lexeme_bytes (Word bs) = bs
lexeme_bytes (Number digits) = digits
lexeme_bytes (Decimal bs) = bs
lexeme_bytes (Quoted value) = quoted value
lexeme_bytes (Sign bs) = bs

-- each byte passes the test
abbrev pub Each : (ℕ → Bool) → List ℕ → Type 0
Each test = AllByRecursion (λ b. test b ≡ true)

-- the bytes begin with one that passes the test
abbrev pub BeginsWith : (ℕ → Bool) → List ℕ → Type 0
BeginsWith test [] = ⊥
BeginsWith test (b ∷ bs) = test b ≡ true

-- the bytes don't begin with one that passes the test
abbrev pub BeginsNot : (ℕ → Bool) → List ℕ → Type 0
BeginsNot test [] = Unit {0}
BeginsNot test (b ∷ bs) = test b ≡ false

-- what may not follow a number or a decimal: a letter, _, a digit or a point
abbrev pub numeral_byte : ℕ → Bool
numeral_byte b = word_byte b || (b == 46)

-- digits, a point, and digits
pub record IsDecimal (bs : List ℕ) : Type 0 where
  pub whole : List ℕ
  pub fraction : List ℕ
  pub is : bs ≡ whole ++ 46 ∷ fraction
  pub begins : BeginsWith digit_byte whole
  pub digits : Each digit_byte whole
  pub goes_on : BeginsWith digit_byte fraction
  pub more_digits : Each digit_byte fraction

-- the sign =
abbrev pub equals_byte : ℕ → Bool
equals_byte b = b == 61

-- the sign -
abbrev pub dash_byte : ℕ → Bool
dash_byte b = b == 45

-- the quote '
abbrev pub quote_byte : ℕ → Bool
quote_byte b = b == 39

-- the bytes are one of the listed ones; false where none is listed
abbrev pub IsOneOf : List ℕ → List (List ℕ) → Type 0
IsOneOf bs [] = ⊥
IsOneOf bs (xs ∷ rest) = (bs ≡ xs) ⊎ IsOneOf bs rest

-- signs that no longer sign begins with
abbrev pub lone_signs : List (List ℕ)
lone_signs = codes "(" ∷ codes ")" ∷ codes "{" ∷ codes "}" ∷ codes "," ∷ codes "=" ∷ codes "+" ∷ codes "*" ∷ codes "/" ∷ codes ":=" ∷ codes "<=" ∷ codes ">=" ∷ codes "!=" ∷ []

-- signs that an = makes longer
abbrev pub open_signs : List (List ℕ)
open_signs = codes ":" ∷ codes "<" ∷ codes ">" ∷ []

-- The longest sign, where these bytes come next. Two dashes begin a comment.
abbrev pub IsSign : List ℕ → List ℕ → Type 0
IsSign bs next =
    IsOneOf bs lone_signs ⊎ (IsOneOf bs open_signs × BeginsNot equals_byte next) ⊎ ((bs ≡ codes "-") × BeginsNot dash_byte next)

-- The longest lexeme, where these bytes come next. A digit that a letter or _ follows is in none, nor is a point that isn't between digits.
abbrev pub IsLexeme : Lexeme → List ℕ → Type 0
IsLexeme (Word bs) next = BeginsWith letter_byte bs × Each word_byte bs × BeginsNot word_byte next
IsLexeme (Number digits) next = BeginsWith digit_byte digits × Each digit_byte digits × BeginsNot numeral_byte next
IsLexeme (Decimal bs) next = IsDecimal bs × BeginsNot numeral_byte next
IsLexeme (Quoted value) next = Each text_byte value × BeginsNot quote_byte next
IsLexeme (Sign bs) next = IsSign bs next
