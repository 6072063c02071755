-- Points whose values are linear forms and words at another: what a put says of a value.
use Rattle.std.proofs.Common.{◌≡◌, ℕ, ◌*◌, Bool, true, false, cond, [], refl, sym}
use Rattle.std.specs.Prelude.{pos}
use Rattle.ded_model.specs.Point.{Key, Value, Point, absent, last_from, as_number, as_text, number_at, text_at}
use Rattle.ded_model.proofs.Terms.{linear_at, const, linear-zero, quoted, word_at, Put, PutsNumbers, PutsTexts}

-- the value is what a put says
pub record Says (p : Point) (v : Value) (w : Put) : Type 0 where
  pub number : as_number v ≡ linear_at w.number p
  pub text : as_text v ≡ word_at w.word p

abbrev pub absent_put : Put
absent_put = record { number = const (pos 0); word = quoted [] }

pub absent-says : (p : Point) → Says p absent absent_put
absent-says p = record { number = sym (linear-zero p); text = refl }

pub either_says : (p : Point) (b : Bool) (v w : Value) (x y : Put) → Says p v x → Says p w y → Says p (cond b v w) (cond b x y)
either_says p true v w x y e f = e
either_says p false v w x y e f = f

pub puts_numbers : (s : Key → Put) (m : ℕ) (p q : Point) → q.den ≡ p.den * m → ((k : Key) → Says p (last_from absent q.coords k) (s k)) → PutsNumbers s m p q
unfolding number_at
puts_numbers s m p q d h = record { den = d; number = λ k. (h k).number }

pub puts_texts : (s : Key → Put) (p q : Point) → ((k : Key) → Says p (last_from absent q.coords k) (s k)) → PutsTexts s p q
unfolding text_at
puts_texts s p q h = record { text = λ k. (h k).text }
