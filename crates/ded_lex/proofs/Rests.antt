-- The counted rests of words, numbers, quoted texts and comments are those of their definitions, and each is counted.
use Rattle.std.proofs.Common.{◌≡◌, ◌≢◌, ◌⊎◌, ℕ, ◌+◌, List, [], ◌∷◌, ◌++◌, length, refl, sym, ap, ◌∙◌, subst, inl, inr, ⊎_elim, Bool, true, false, arith}
use Rattle.std.specs.Prelude.{Option, Some, None, ◌==◌, ◌||◌}
use Rattle.std.proofs.lemmas.Bool.Decides.{nat_tests}
use Rattle.ded_model.specs.Quoting.{doubled}
use Rattle.ded_lex.specs.Gaps.{IsLine}
use Rattle.ded_lex.specs.Lexemes.{digit_byte, letter_byte, word_byte, numeral_byte, text_byte, Each, BeginsWith, BeginsNot, quote_byte}
use Rattle.ded_lex.specs.Fronts.{longer, word_rest, number_rest, fraction_rest, decimal_rest, quoted_rest, line_length}
use Rattle.ded_lex.proofs.Counting.{text_step}
use Rattle.ded_lex.proofs.Cases.{tested, same_or, is_not, same_some, none_some}
use Rattle.std.proofs.lemmas.Bool.{or_parts}

pub longer_some : (o : Option ℕ) (n : ℕ) → longer o ≡ Some n → (m : ℕ) × (o ≡ Some m) × (m + 1 ≡ n)
longer_some None n e = absurd (none_some e)
longer_some (Some m) n e = (m, refl, same_some e)

-- So many bytes at the front pass the test, and those behind them don't begin with one that stops.
pub record Run (test stop : ℕ → Bool) (bs : List ℕ) (n : ℕ) : Type 0 where
  pub front : List ℕ
  pub rest : List ℕ
  pub is : bs ≡ front ++ rest
  pub all : Each test front
  pub stops : BeginsNot stop rest
  pub count : n ≡ length front

run_first : (test stop : ℕ → Bool) (b : ℕ) (bs : List ℕ) (n : ℕ) → test b ≡ true → Run test stop bs n → Run test stop (b ∷ bs) (n + 1)
run_first test stop b bs n t r = record {
  front = b ∷ r.front;
  rest = r.rest;
  is = ap (λ (l : List ℕ). b ∷ l) r.is;
  all = (t, r.all);
  stops = r.stops;
  count = omega (arith, r.count);
}

run_none : (test stop : ℕ → Bool) (bs : List ℕ) → BeginsNot stop bs → Run test stop bs 0
run_none test stop bs stops = record { front = []; rest = bs; is = refl; all = tt; stops = stops; count = refl }

-- Words.
pub word_sound : (bs : List ℕ) → Run word_byte word_byte bs (word_rest bs)
word_sound [] = run_none word_byte word_byte [] tt
word_sound (b ∷ bs) = ⊎_elim
    (λ (t : word_byte b ≡ true). let step : word_rest (b ∷ bs) ≡ word_rest bs + 1 = rw t refl in
    subst (λ (n : ℕ). Run word_byte word_byte (b ∷ bs) n) (sym step) (run_first word_byte word_byte b bs (word_rest bs) t (word_sound bs)))
    (λ (f : word_byte b ≡ false). let step : word_rest (b ∷ bs) ≡ 0 = rw f refl in
    subst (λ (n : ℕ). Run word_byte word_byte (b ∷ bs) n) (sym step) (run_none word_byte word_byte (b ∷ bs) f))
    (tested (word_byte b))

pub word_found : (ws next : List ℕ) → Each word_byte ws → BeginsNot word_byte next → word_rest (ws ++ next) ≡ length ws
word_found [] [] all stops = refl
word_found [] (b ∷ bs) all stops = rw stops refl
word_found (w ∷ ws) next all stops =
    let more : word_rest (ws ++ next) ≡ length ws = word_found ws next all.1 stops in
    let step : word_rest (w ∷ (ws ++ next)) ≡ word_rest (ws ++ next) + 1 = rw all.0 refl in
    omega (arith, more, step)

-- Numbers.
pub digit_no_letter : (b : ℕ) → digit_byte b ≡ true → letter_byte b ≡ false
digit_no_letter b h = grind (arith, nat_tests)

digit_no_point : (b : ℕ) → digit_byte b ≡ true → (b == 46) ≡ false
digit_no_point b h = grind (arith, nat_tests)

-- no letter, no point and no digit
stops_number : (b : ℕ) → (letter_byte b || (b == 46)) ≡ false → digit_byte b ≡ false → numeral_byte b ≡ false
stops_number b f g = let free = or_parts (letter_byte b) (b == 46) f in rw (free.0, g, free.1) refl

pub number_sound : (bs : List ℕ) (n : ℕ) → number_rest bs ≡ Some n → Run digit_byte numeral_byte bs n
number_sound [] n e = subst (λ (m : ℕ). Run digit_byte numeral_byte [] m) (same_some e) (run_none digit_byte numeral_byte [] tt)
number_sound (b ∷ bs) n e = ⊎_elim
    (λ (t : (letter_byte b || (b == 46)) ≡ true). let h : None ≡ Some n = rw t at e in absurd (none_some h))
    (λ (f : (letter_byte b || (b == 46)) ≡ false). ⊎_elim
    (λ (t : digit_byte b ≡ true).
    let h : longer (number_rest bs) ≡ Some n = rw (f, t) at e in
    let m = longer_some (number_rest bs) n h in
    subst (λ (k : ℕ). Run digit_byte numeral_byte (b ∷ bs) k) m.2 (run_first digit_byte numeral_byte b bs m.0 t (number_sound bs m.0 m.1)))
    (λ (g : digit_byte b ≡ false).
    let h : Some 0 ≡ Some n = rw (f, g) at e in
    subst (λ (k : ℕ). Run digit_byte numeral_byte (b ∷ bs) k) (same_some h) (run_none digit_byte numeral_byte (b ∷ bs) (stops_number b f g)))
    (tested (digit_byte b)))
    (tested (letter_byte b || (b == 46)))

pub number_found : (ds next : List ℕ) → Each digit_byte ds → BeginsNot numeral_byte next → number_rest (ds ++ next) ≡ Some (length ds)
number_found [] [] all stops = refl
number_found [] (b ∷ bs) all stops =
    let free = or_parts (word_byte b) (b == 46) stops in
    let none = or_parts (letter_byte b) (digit_byte b) free.0 in
    rw (none.0, free.1, none.1) refl
number_found (d ∷ ds) next all stops =
    let step : number_rest (d ∷ (ds ++ next)) ≡ longer (number_rest (ds ++ next)) = rw (digit_no_letter d all.0, digit_no_point d all.0, all.0) refl in
    let same : length ds + 1 ≡ length (d ∷ ds) = omega arith in
    step ∙ ap longer (number_found ds next all.1 stops) ∙ ap Some same

-- Decimals: digits, a point, and digits, behind the first digit.
pub record DecimalRun (bs : List ℕ) (n : ℕ) : Type 0 where
  pub front : List ℕ
  pub fraction : List ℕ
  pub rest : List ℕ
  pub is : bs ≡ front ++ 46 ∷ (fraction ++ rest)
  pub digits : Each digit_byte front
  pub goes_on : BeginsWith digit_byte fraction
  pub more_digits : Each digit_byte fraction
  pub stops : BeginsNot numeral_byte rest
  pub count : n ≡ length front + 1 + length fraction

fraction_sound : (bs : List ℕ) (n : ℕ) → fraction_rest bs ≡ Some n → DecimalRun (46 ∷ bs) (n + 1)
fraction_sound [] n e = absurd (none_some e)
fraction_sound (b ∷ bs) n e = ⊎_elim
    (λ (t : digit_byte b ≡ true).
    let h : longer (number_rest bs) ≡ Some n = rw t at e in
    let m = longer_some (number_rest bs) n h in
    let r = number_sound bs m.0 m.1 in
    record {
      front = [];
      fraction = b ∷ r.front;
      rest = r.rest;
      is = ap (λ (l : List ℕ). 46 ∷ b ∷ l) r.is;
      digits = tt;
      goes_on = t;
      more_digits = (t, r.all);
      stops = r.stops;
      count = omega (arith, r.count, m.2);
    })
    (λ (f : digit_byte b ≡ false). let h : None ≡ Some n = rw f at e in absurd (none_some h))
    (tested (digit_byte b))

pub decimal_sound : (bs : List ℕ) (n : ℕ) → decimal_rest bs ≡ Some n → DecimalRun bs n
decimal_sound [] n e = absurd (none_some e)
decimal_sound (b ∷ bs) n e = ⊎_elim
    (λ (t : digit_byte b ≡ true).
    let h : longer (decimal_rest bs) ≡ Some n = rw t at e in
    let m = longer_some (decimal_rest bs) n h in
    let r = decimal_sound bs m.0 m.1 in
    record {
      front = b ∷ r.front;
      fraction = r.fraction;
      rest = r.rest;
      is = ap (λ (l : List ℕ). b ∷ l) r.is;
      digits = (t, r.digits);
      goes_on = r.goes_on;
      more_digits = r.more_digits;
      stops = r.stops;
      count = omega (arith, r.count, m.2);
    })
    (λ (f : digit_byte b ≡ false). ⊎_elim
    (λ (p : b ≡ 46).
    let h : longer (fraction_rest bs) ≡ Some n = subst (λ (x : ℕ). decimal_rest (x ∷ bs) ≡ Some n) p e in
    let m = longer_some (fraction_rest bs) n h in
    subst (λ (x : ℕ). DecimalRun (x ∷ bs) n) (sym p) (subst (λ (k : ℕ). DecimalRun (46 ∷ bs) k) m.2 (fraction_sound bs m.0 m.1)))
    (λ (q : b ≢ 46). let h : None ≡ Some n = rw (f, is_not b 46 q) at e in absurd (none_some h))
    (same_or b 46))
    (tested (digit_byte b))

pub fraction_found : (ps next : List ℕ) → BeginsWith digit_byte ps → Each digit_byte ps → BeginsNot numeral_byte next → fraction_rest (ps ++ next) ≡ Some (length ps)
fraction_found [] next begins all stops = absurd begins
fraction_found (p ∷ ps) next begins all stops =
    let step : fraction_rest (p ∷ (ps ++ next)) ≡ longer (number_rest (ps ++ next)) = rw begins refl in
    let same : length ps + 1 ≡ length (p ∷ ps) = omega arith in
    step ∙ ap longer (number_found ps next all.1 stops) ∙ ap Some same

pub decimal_found : (ds ps next : List ℕ) → Each digit_byte ds → BeginsWith digit_byte ps → Each digit_byte ps → BeginsNot numeral_byte next → decimal_rest (ds ++ 46 ∷ (ps ++ next)) ≡ Some (length ds + 1 + length ps)
decimal_found [] ps next all begins more stops =
    let same : length ps + 1 ≡ 0 + 1 + length ps = omega arith in
    ap longer (fraction_found ps next begins more stops) ∙ ap Some same
decimal_found (d ∷ ds) ps next all begins more stops =
    let step : decimal_rest (d ∷ (ds ++ 46 ∷ (ps ++ next))) ≡ longer (decimal_rest (ds ++ 46 ∷ (ps ++ next))) = rw all.0 refl in
    let same : length ds + 1 + length ps + 1 ≡ length (d ∷ ds) + 1 + length ps = omega arith in
    step ∙ ap longer (decimal_found ds ps next all.1 begins more stops) ∙ ap Some same

-- no number ends before a point
pub pointed : (ds rest : List ℕ) → Each digit_byte ds → number_rest (ds ++ 46 ∷ rest) ≡ None
pointed [] rest all = refl
pointed (d ∷ ds) rest all =
    let step : number_rest (d ∷ (ds ++ 46 ∷ rest)) ≡ longer (number_rest (ds ++ 46 ∷ rest)) = rw (digit_no_letter d all.0, digit_no_point d all.0, all.0) refl in
    step ∙ ap longer (pointed ds rest all.1)

-- Comments, up to the line feed or to the end.
abbrev pub LineRead : List ℕ → ℕ → Type 0
LineRead bs n =
    ((body : List ℕ) × (rest : List ℕ) × (bs ≡ body ++ 10 ∷ rest) × IsLine body × (n ≡ length body + 1))
    ⊎ (IsLine bs × (n ≡ length bs))

line_more : (b : ℕ) (bs : List ℕ) (n : ℕ) → b ≢ 10 → LineRead bs n → LineRead (b ∷ bs) (n + 1)
line_more b bs n ne (inl r) = inl (b ∷ r.0, r.1, ap (λ (l : List ℕ). b ∷ l) r.2, (ne, r.3), omega (arith, r.4))
line_more b bs n ne (inr r) = inr ((ne, r.0), omega (arith, r.1))

line_step : (b : ℕ) (bs : List ℕ) → b ≢ 10 → line_length (b ∷ bs) ≡ line_length bs + 1
line_step b bs ne = rw (is_not b 10 ne) refl

pub line_sound : (bs : List ℕ) → LineRead bs (line_length bs)
line_sound [] = inr (tt, refl)
line_sound (b ∷ bs) = ⊎_elim
    (λ (e : b ≡ 10). subst (λ (x : ℕ). LineRead (x ∷ bs) (line_length (x ∷ bs))) (sym e) (inl ([], bs, refl, tt, refl)))
    (λ (ne : b ≢ 10). subst (λ (n : ℕ). LineRead (b ∷ bs) n) (sym (line_step b bs ne)) (line_more b bs (line_length bs) ne (line_sound bs)))
    (same_or b 10)

pub line_ended : (body rest : List ℕ) → IsLine body → line_length (body ++ 10 ∷ rest) ≡ length body + 1
line_ended [] rest line = refl
line_ended (b ∷ body) rest line =
    let more : line_length (body ++ 10 ∷ rest) ≡ length body + 1 = line_ended body rest line.1 in
    omega (arith, more, line_step b (body ++ 10 ∷ rest) line.0)

pub line_open : (body : List ℕ) → IsLine body → line_length body ≡ length body
line_open [] line = refl
line_open (b ∷ body) line =
    let more : line_length body ≡ length body = line_open body line.1 in
    omega (arith, more, line_step b body line.0)

-- Quoted texts, behind the first quote.
pub record IsText (bs : List ℕ) (n : ℕ) : Type 0 where
  pub value : List ℕ
  pub rest : List ℕ
  pub is : bs ≡ doubled value ++ 39 ∷ rest
  pub all : Each text_byte value
  pub stops : BeginsNot quote_byte rest
  pub count : n ≡ length (doubled value) + 1

-- where the byte before was a quote, that is read with the rest
abbrev TextFrom : Bool → List ℕ → ℕ → Type 0
TextFrom true bs n = IsText (39 ∷ bs) (n + 1)
TextFrom false bs n = IsText bs n

text_end : (bs : List ℕ) → BeginsNot quote_byte bs → IsText (39 ∷ bs) (0 + 1)
text_end bs stops = record { value = []; rest = bs; is = refl; all = tt; stops = stops; count = refl }

quote_first : (bs : List ℕ) (n : ℕ) → IsText bs n → IsText (39 ∷ 39 ∷ bs) (n + 1 + 1)
quote_first bs n t = record {
  value = 39 ∷ t.value;
  rest = t.rest;
  is = ap (λ (l : List ℕ). 39 ∷ 39 ∷ l) t.is;
  all = (refl, t.all);
  stops = t.stops;
  count = omega (arith, t.count);
}

byte_first : (b : ℕ) (bs : List ℕ) (n : ℕ) → b ≢ 39 → text_byte b ≡ true → IsText bs n → IsText (b ∷ bs) (n + 1)
byte_first b bs n ne text t =
    let one : doubled (b ∷ t.value) ≡ b ∷ doubled t.value = rw (is_not b 39 ne) refl in
    record {
      value = b ∷ t.value;
      rest = t.rest;
      is = ap (λ (l : List ℕ). b ∷ l) t.is ∙ ap (λ (l : List ℕ). l ++ 39 ∷ t.rest) (sym one);
      all = (text, t.all);
      stops = t.stops;
      count = omega (arith, t.count, ap length one);
    }

text_from : (closed : Bool) (bs : List ℕ) (n : ℕ) → quoted_rest closed bs ≡ Some n → TextFrom closed bs n
text_from true [] n e = subst (λ (k : ℕ). IsText (39 ∷ []) (k + 1)) (same_some e) (text_end [] tt)
text_from false [] n e = absurd (none_some e)
text_from true (b ∷ bs) n e = ⊎_elim
    (λ (q : b ≡ 39).
    let h : longer (quoted_rest false bs) ≡ Some n = subst (λ (x : ℕ). quoted_rest true (x ∷ bs) ≡ Some n) q e in
    let m = longer_some (quoted_rest false bs) n h in
    subst (λ (x : ℕ). IsText (39 ∷ x ∷ bs) (n + 1)) (sym q) (subst (λ (k : ℕ). IsText (39 ∷ 39 ∷ bs) (k + 1)) m.2 (quote_first bs m.0 (text_from false bs m.0 m.1))))
    (λ (ne : b ≢ 39).
    let h : Some 0 ≡ Some n = rw (is_not b 39 ne) at e in
    subst (λ (k : ℕ). IsText (39 ∷ b ∷ bs) (k + 1)) (same_some h) (text_end (b ∷ bs) (is_not b 39 ne)))
    (same_or b 39)
text_from false (b ∷ bs) n e = ⊎_elim
    (λ (q : b ≡ 39).
    let h : longer (quoted_rest true bs) ≡ Some n = subst (λ (x : ℕ). quoted_rest false (x ∷ bs) ≡ Some n) q e in
    let m = longer_some (quoted_rest true bs) n h in
    subst (λ (x : ℕ). IsText (x ∷ bs) n) (sym q) (subst (λ (k : ℕ). IsText (39 ∷ bs) k) m.2 (text_from true bs m.0 m.1)))
    (λ (ne : b ≢ 39). ⊎_elim
    (λ (t : text_byte b ≡ true).
    let h : longer (quoted_rest false bs) ≡ Some n = rw (is_not b 39 ne, t) at e in
    let m = longer_some (quoted_rest false bs) n h in
    subst (λ (k : ℕ). IsText (b ∷ bs) k) m.2 (byte_first b bs m.0 ne t (text_from false bs m.0 m.1)))
    (λ (f : text_byte b ≡ false).
    let h : None ≡ Some n = rw (is_not b 39 ne, f) at e in
    absurd (none_some h))
    (tested (text_byte b)))
    (same_or b 39)

pub text_sound : (bs : List ℕ) (n : ℕ) → quoted_rest false bs ≡ Some n → IsText bs n
text_sound bs n e = text_from false bs n e

text_stops : (next : List ℕ) → BeginsNot quote_byte next → quoted_rest true next ≡ Some 0
text_stops [] stops = refl
text_stops (b ∷ bs) stops = rw stops refl

pub text_found : (value next : List ℕ) → Each text_byte value → BeginsNot quote_byte next → quoted_rest false (doubled value ++ 39 ∷ next) ≡ Some (length (doubled value) + 1)
text_found [] next all stops = ap longer (text_stops next stops)
text_found (b ∷ value) next all stops =
    let more : quoted_rest false (doubled value ++ 39 ∷ next) ≡ Some (length (doubled value) + 1) = text_found value next all.1 stops in
    ⊎_elim
    (λ (q : b ≡ 39).
    let count : length (doubled value) + 1 + 1 + 1 ≡ length (39 ∷ 39 ∷ doubled value) + 1 = omega arith in
    let here : quoted_rest false (doubled (39 ∷ value) ++ 39 ∷ next) ≡ Some (length (doubled (39 ∷ value)) + 1) = ap (λ (o : Option ℕ). longer (longer o)) more ∙ ap Some count in
    subst (λ (x : ℕ). quoted_rest false (doubled (x ∷ value) ++ 39 ∷ next) ≡ Some (length (doubled (x ∷ value)) + 1)) (sym q) here)
    (λ (ne : b ≢ 39).
    let one : doubled (b ∷ value) ≡ b ∷ doubled value = rw (is_not b 39 ne) refl in
    let count : length (doubled value) + 1 + 1 ≡ length (b ∷ doubled value) + 1 = omega arith in
    let here : quoted_rest false (b ∷ (doubled value ++ 39 ∷ next)) ≡ Some (length (b ∷ doubled value) + 1) = text_step b (doubled value ++ 39 ∷ next) ne all.0 ∙ ap longer more ∙ ap Some count in
    subst (λ (l : List ℕ). quoted_rest false (l ++ 39 ∷ next) ≡ Some (length l + 1)) (sym one) here)
    (same_or b 39)
