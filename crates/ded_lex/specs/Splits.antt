-- What a splitter knows of the bytes that it was fed.
use Rattle.std.specs.Prelude.{◌≡◌, ℕ, Bool, min, List, length, take, Some}
use Rattle.ded_lex.specs.declared.state.State.{State}
use Rattle.ded_lex.specs.declared.state.State.TheVariants.{Plain}
use Rattle.ded_lex.specs.declared.splitter.Splitter.{Splitter}
use Rattle.ded_lex.specs.Machine.{walked, all_stay_blank}

-- Of these bytes, in which no piece ends, a front is kept.
pub record Follows (kept : List ℕ) (count : ℕ) (state : State) (blank : Bool) (bytes : List ℕ) : Type 0 where
  pub walks : walked Plain bytes ≡ Some state
  pub blanks : blank ≡ all_stay_blank Plain bytes
  pub counts : count ≡ min (length bytes) 65537
  pub front : take 65536 bytes ≡ take (min count 65536) kept

-- since the last piece ended, or since the start, the splitter was fed these bytes
unfoldable pub Since : Splitter → List ℕ → Type 0
Since s bytes = Follows s.kept.items s.count s.state s.blank bytes

-- the piece that ended last
unfoldable pub ended_piece : Splitter → List ℕ
ended_piece s = take s.ended s.kept.items
