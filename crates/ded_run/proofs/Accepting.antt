-- The accepted words are those that the parse reads.
use Rattle.std.proofs.Common.{◌≡◌, ◌≢◌, ◌<◌, ◌≤◌, ℕ, List, [], ◌∷◌, sym, subst, false, arith}
use Rattle.std.specs.Prelude.{Option, None, Some, MatchOption, map}
use Rattle.std.specs.Char.{digit_value}
use Rattle.clap.specs.Faults.{fault_of}
use Rattle.clap.specs.Walk.{Text}
use Rattle.ded_run.specs.CommandLine.{dedale, has_dashes}
use Rattle.ded_run.specs.declared.words.Options.{Options}
use Rattle.ded_run.specs.Words.{IsNumber, LimitValue, SizeValue, AcceptedWords}
use Rattle.ded_run.proofs.Parsing.{Limit, Make, value_of, IsPlainValue, IsPlainOption, no_dash_first, words_read, both_pass, both_no_dashes}

no_digit : (d : ℕ) → digit_value d < 10 → d ≢ 45
no_digit d digit same =
    let dash : digit_value 45 < 10 = subst (λ (b : ℕ). digit_value b < 10) same digit in
    absurd (omega (arith, dash))

-- a value of digits is no flag
plain_number : (greatest : ℕ) (value : Text) (number : ℕ) → IsNumber greatest value number → IsPlainValue value
plain_number greatest [] number l = absurd (omega (arith, l.numeral.0))
plain_number greatest (d ∷ ds) number l = no_dash_first d ds (no_digit d l.numeral.1.0)

plain_limit : (value : Option Text) (limit : ℕ) → LimitValue value limit → IsPlainOption value
plain_limit None limit l = tt
plain_limit (Some v) limit l = plain_number 1000000 v limit l

plain_size : (value : Option Text) (size : Option ℕ) → SizeValue value size → IsPlainOption value
plain_size None size l = tt
plain_size (Some v) None l = absurd l
plain_size (Some v) (Some size) l = plain_number 100 v size l

-- accepted words are parsed without a fault, none of them is `--`, and their values are read
abbrev IsParsed : List Text → Options → Type 0
IsParsed words options = (has_dashes words ≡ false) × (fault_of dedale words ≡ []) × LimitValue (value_of Limit words) options.limit × SizeValue (value_of Make words) options.size

pub accepted_parsed : (words : List Text) (options : Options) → AcceptedWords words options → IsParsed words options
accepted_parsed words options a =
    let limit = plain_limit a.limit_value options.limit a.limit in
    let size = plain_size a.size_value options.size a.size in
    let passed = both_pass words a.limit_value a.size_value a.are limit size in (
      both_no_dashes words a.limit_value a.size_value a.are limit size,
      passed.0,
      subst (λ (t : Option Text). LimitValue t options.limit) (sym passed.1) a.limit,
      subst (λ (t : Option Text). SizeValue t options.size) (sym passed.2) a.size,
    )

-- and what is parsed without a fault is accepted where its values are in range
pub parsed_accepted : (words : List Text) (limit_value size_value : Option Text) (limit : ℕ) (size : Option ℕ) → has_dashes words ≡ false → fault_of dedale words ≡ [] → limit_value ≡ value_of Limit words → size_value ≡ value_of Make words
    → LimitValue limit_value limit → SizeValue size_value size → AcceptedWords words (record { limit = limit; size = size })
parsed_accepted words limit_value size_value limit size n e limit_is size_is l z = record {
  limit_value = value_of Limit words;
  size_value = value_of Make words;
  are = words_read words n e;
  limit = subst (λ (t : Option Text). LimitValue t limit) limit_is l;
  size = subst (λ (t : Option Text). SizeValue t size) size_is z;
}

-- where a value isn't in range, the words aren't accepted
pub no_limit : (words : List Text) (value : Option Text) → value ≡ value_of Limit words → ((limit : ℕ) → LimitValue value limit → ⊥) → (options : Options) → AcceptedWords words options → ⊥
no_limit words value is none options a = none options.limit (subst (λ (t : Option Text). LimitValue t options.limit) (sym is) (accepted_parsed words options a).2)

pub no_size : (words : List Text) (value : Option Text) → value ≡ value_of Make words → ((size : Option ℕ) → SizeValue value size → ⊥) → (options : Options) → AcceptedWords words options → ⊥
no_size words value is none options a = none options.size (subst (λ (t : Option Text). SizeValue t options.size) (sym is) (accepted_parsed words options a).3)

-- ---- what the options are

pub limit_low : (words : List Text) (options : Options) → AcceptedWords words options → 1 ≤ options.limit
limit_low words options a = by a.limit_value a.limit
  where
    by : (value : Option Text) → LimitValue value options.limit → 1 ≤ options.limit
    by None l = omega (arith, l)
    by (Some v) l = l.low

pub limit_high : (words : List Text) (options : Options) → AcceptedWords words options → options.limit ≤ 1000000
limit_high words options a = by a.limit_value a.limit
  where
    by : (value : Option Text) → LimitValue value options.limit → options.limit ≤ 1000000
    by None l = omega (arith, l)
    by (Some v) l = l.high

size_range : (value : Option Text) (n : ℕ) → SizeValue value (Some n) → (1 ≤ n) × (n ≤ 100)
size_range None n z = absurd z
size_range (Some v) n z = (z.low, z.high)

pub size_within : (words : List Text) (options : Options) (n : ℕ) → AcceptedWords words options → options.size ≡ Some n → (1 ≤ n) × (n ≤ 100)
size_within words options n a is = size_range a.size_value n (subst (λ (o : Option ℕ). SizeValue a.size_value o) is a.size)

-- what is so of a run over a made script, or over the input
pub when_some : (size : Option ℕ) (n : ℕ) (P : Type 0) (Q : ℕ → Type 0) → size ≡ Some n → Q n → MatchOption size P Q
when_some size n P Q is q = subst (λ (o : Option ℕ). MatchOption o P Q) (sym is) q

pub when_none : (size : Option ℕ) (P : Type 0) (Q : ℕ → Type 0) → size ≡ None → P → MatchOption size P Q
when_none size P Q is p = subst (λ (o : Option ℕ). MatchOption o P Q) (sym is) p

-- words that are reached in another way
pub same_words : {A : Type 0} (text : A → Text) (these those : List A) (options : Options) → these ≡ those → AcceptedWords (map text these) options → AcceptedWords (map text those) options
same_words {A} text these those options same a = subst (λ (ws : List A). AcceptedWords (map text ws) options) same a
