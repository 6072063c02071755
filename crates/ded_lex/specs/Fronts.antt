-- The reading of the gap or token with which bytes begin, by its length.
use Rattle.std.specs.Prelude.{ℕ, ◌+◌, Bool, true, false, List, [], ◌∷◌, Option, Some, None, if◌then◌else◌, ◌==◌, ◌&&◌, ◌||◌}
use Rattle.ded_lex.specs.declared.token.Token.{Token}
use Rattle.ded_lex.specs.declared.token.TokenKind.{TokenKind}
use Rattle.ded_lex.specs.declared.token.TokenKind.TheVariants.{Word, Number, Decimal, Quoted, Sign}
use Rattle.ded_lex.specs.declared.front.Front.{Front}
use Rattle.ded_lex.specs.Gaps.{blank_byte}
use Rattle.ded_lex.specs.Lexemes.{digit_byte, letter_byte, word_byte, text_byte}

-- one byte more than so many, or none where there is no number
abbrev pub longer : Option ℕ → Option ℕ
longer None = None
longer (Some n) = Some (n + 1)

-- how many bytes of a word follow its first letter
abbrev pub word_rest : List ℕ → ℕ
word_rest [] = 0
word_rest (b ∷ bs) = if word_byte b then word_rest bs + 1 else 0

-- how many digits of a number follow its first one, or none where a letter, _ or a point follows them
abbrev pub number_rest : List ℕ → Option ℕ
number_rest [] = Some 0
number_rest (b ∷ bs) = if letter_byte b || (b == 46) then None else (if digit_byte b then longer (number_rest bs) else Some 0)

-- how many digits follow the point of a decimal, or none where no digit does, or a letter, _ or a point follows them
abbrev pub fraction_rest : List ℕ → Option ℕ
fraction_rest [] = None
fraction_rest (b ∷ bs) = if digit_byte b then longer (number_rest bs) else None

-- how many bytes of a decimal follow its first digit, or none where no decimal stands there
abbrev pub decimal_rest : List ℕ → Option ℕ
decimal_rest [] = None
decimal_rest (b ∷ bs) = if digit_byte b then longer (decimal_rest bs) else (if b == 46 then longer (fraction_rest bs) else None)

-- how many bytes of a quoted text follow, its last quote among them, or none where it doesn't end or has another byte
-- than a text's; where the flag is true, the byte before is a quote: another one doubles it, and else it is the last
abbrev pub quoted_rest : Bool → List ℕ → Option ℕ
quoted_rest true [] = Some 0
quoted_rest false [] = None
quoted_rest true (b ∷ bs) = if b == 39 then longer (quoted_rest false bs) else Some 0
quoted_rest false (b ∷ bs) = if b == 39 then longer (quoted_rest true bs) else (if text_byte b then longer (quoted_rest false bs) else None)

-- how many bytes there are up to the line feed and with it, or to the end where there is none
abbrev pub line_length : List ℕ → ℕ
line_length [] = 0
line_length (b ∷ bs) = if b == 10 then 1 else line_length bs + 1

-- the first byte is c; false where there is none
abbrev pub begins_with : ℕ → List ℕ → Bool
begins_with c [] = false
begins_with c (b ∷ bs) = b == c

-- ( ) { } , = + * / -
abbrev pub lone_sign : ℕ → Bool
lone_sign b = (b == 40) || ((b == 41) || ((b == 123) || ((b == 125) || ((b == 44) || ((b == 61) || ((b == 43) || ((b == 42) || ((b == 47) || (b == 45)))))))))

-- : < >
abbrev pub open_sign : ℕ → Bool
open_sign b = (b == 58) || ((b == 60) || (b == 62))

-- how many bytes of a sign follow its first byte b, or none where no sign begins so
abbrev pub sign_rest : ℕ → List ℕ → Option ℕ
sign_rest b bs = if lone_sign b then Some 0 else (if (open_sign b || (b == 33)) && begins_with 61 bs then Some 1 else (if open_sign b then Some 0 else None))

-- the token of this kind, or the gap where there is no kind, with so many bytes behind its first one; none where there
-- is no number
abbrev pub front_with : Option TokenKind → Option ℕ → Option Front
front_with kind None = None
front_with kind (Some rest) = Some (record { kind = kind; length = rest + 1 })

-- the number with so many digits behind its first one, or where there is none the decimal, of which these bytes follow
-- the first digit; none where there is no decimal either
abbrev pub numeral_front : List ℕ → Option ℕ → Option Front
numeral_front bs None = front_with (Some Decimal) (decimal_rest bs)
numeral_front bs (Some n) = front_with (Some Number) (Some n)

-- the gap or token with which the bytes begin, or none where they begin with none; each blank is a gap of its own
abbrev pub front_of : List ℕ → Option Front
front_of [] = None
front_of (b ∷ bs) =
    if blank_byte b then front_with None (Some 0)
    else (if letter_byte b then front_with (Some Word) (Some (word_rest bs))
    else (if digit_byte b then numeral_front bs (number_rest bs)
    else (if b == 39 then front_with (Some Quoted) (quoted_rest false bs)
    else (if (b == 45) && begins_with 45 bs then front_with None (Some (line_length bs))
    else front_with (Some Sign) (sign_rest b bs)))))

-- the token that a front is at this place, if it is one
abbrev pub front_tokens : Option TokenKind → ℕ → ℕ → List Token
front_tokens None at end = []
front_tokens (Some kind) at end = record { kind = kind; start = at; end = end } ∷ []
