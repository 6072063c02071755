-- What options that are accepted are.
use Rattle.std.proofs.Common.{◌≡◌, ◌≤◌, ℕ, List, subst, arith}
use Rattle.std.specs.Prelude.{Option, None, Some, codes, map}
use Rattle.ded_run.specs.Words.{LimitValue}
use Rattle.ded_draw.specs.CommandLine.{value_of}
use Rattle.ded_draw.specs.Words.{AcceptedWords, WidthValue}
use Rattle.ded_draw.specs.declared.words.DrawOptions.{DrawOptions}

limit_range : (value : Option (List ℕ)) (n : ℕ) → LimitValue value n → (1 ≤ n) × (n ≤ 1000000)
limit_range None n l = (omega (arith, l), omega (arith, l))
limit_range (Some v) n l = (l.low, l.high)

width_range : (value : Option (List ℕ)) (n : ℕ) → WidthValue value n → n ≤ 10000
width_range None n l = omega (arith, l)
width_range (Some v) n l = l.high

pub limit_within : (words : List (List ℕ)) (o : DrawOptions) → AcceptedWords words o → (1 ≤ o.limit) × (o.limit ≤ 1000000)
limit_within words o a = limit_range (value_of (codes "limit") words) o.limit a.limit

pub width_within : (words : List (List ℕ)) (o : DrawOptions) → AcceptedWords words o → o.style.width ≤ 10000
width_within words o a = width_range (value_of (codes "size") words) o.style.width a.width

-- words that are reached in another way
pub same_words : {A : Type 0} (text : A → List ℕ) (these those : List A) (o : DrawOptions) → these ≡ those → AcceptedWords (map text these) o → AcceptedWords (map text those) o
same_words {A} text these those o same a = subst (λ (ws : List A). AcceptedWords (map text ws) o) same a
