-- What is read at the front of bytes is a gap or a lexeme, and each is read.
use Rattle.std.proofs.Common.{◌≡◌, ℕ, ◌+◌, ◌<◌, List, [], ◌∷◌, ◌++◌, length, refl, sym, ap, ◌∙◌, subst, inl, inr, ⊎_elim, Bool, true, false, arith, append_assoc, length-append}
use Rattle.std.specs.Prelude.{Option, Some, None, ◌==◌, ◌&&◌}
use Rattle.std.proofs.lemmas.List.{append-nil}
use Rattle.std.proofs.lemmas.Bool.{eqb-true}
use Rattle.std.proofs.lemmas.Bool.Decides.{nat_tests}
use Rattle.ded_model.specs.Quoting.{doubled}
use Rattle.ded_lex.specs.declared.front.Front.{Front}
use Rattle.ded_lex.specs.declared.token.TokenKind.{TokenKind}
use Rattle.ded_lex.specs.declared.token.TokenKind.TheVariants as kind
use Rattle.ded_lex.specs.Gaps.{blank_byte, Space, Comment, OpenComment}
use Rattle.ded_lex.specs.Lexemes.{Word, Number, Decimal, Quoted, Sign, digit_byte, letter_byte, word_byte, numeral_byte, BeginsWith, BeginsNot, Each}
use Rattle.ded_lex.specs.Tokens.{Cell, GapCell, LexemeCell, cell_bytes, IsCell, kind_of}
use Rattle.ded_lex.specs.Fronts.{word_rest, number_rest, decimal_rest, quoted_rest, line_length, begins_with, sign_rest, front_with, numeral_front, front_of}
use Rattle.ded_lex.proofs.Rests.{word_sound, word_found, digit_no_letter, number_sound, number_found, decimal_sound, decimal_found, pointed, LineRead, line_sound, line_ended, line_open, text_sound, text_found}
use Rattle.ded_lex.proofs.Signs.{SignRead, sign_sound, sign_found}
use Rattle.ded_lex.proofs.Cases.{tested, same_some, none_some}

abbrev pub cell_kind : Cell → Option TokenKind
cell_kind (GapCell gap) = None
cell_kind (LexemeCell lexeme) = Some (kind_of lexeme)

-- The cell that is read at the front, and what stands behind it.
pub record FrontRead (bs : List ℕ) (kind : Option TokenKind) (n : ℕ) : Type 0 where
  pub cell : Cell
  pub rest : List ℕ
  pub is : bs ≡ cell_bytes cell ++ rest
  pub each : IsCell cell rest
  pub kind_is : kind ≡ cell_kind cell
  pub count : n ≡ length (cell_bytes cell)

with_some : (k : Option TokenKind) (o : Option ℕ) (f : Front) → front_with k o ≡ Some f → (n : ℕ) × (o ≡ Some n) × (record { kind = k; length = n + 1 } ≡ f)
with_some k None f e = absurd (none_some e)
with_some k (Some n) f e = (n, refl, same_some e)

space_read : (b : ℕ) (bs : List ℕ) → blank_byte b ≡ true → FrontRead (b ∷ bs) None (0 + 1)
space_read b bs h = record { cell = GapCell (Space b); rest = bs; is = refl; each = h; kind_is = refl; count = refl }

pub letter_is_word : (b : ℕ) → letter_byte b ≡ true → word_byte b ≡ true
letter_is_word b h = rw h refl

word_read : (b : ℕ) (bs : List ℕ) → letter_byte b ≡ true → FrontRead (b ∷ bs) (Some kind.Word) (word_rest bs + 1)
word_read b bs h =
    let r = word_sound bs in
    record {
      cell = LexemeCell (Word (b ∷ r.front));
      rest = r.rest;
      is = ap (λ (l : List ℕ). b ∷ l) r.is;
      each = (h, (letter_is_word b h, r.all), r.stops);
      kind_is = refl;
      count = omega (arith, r.count);
    }

number_read : (b : ℕ) (bs : List ℕ) (n : ℕ) → digit_byte b ≡ true → number_rest bs ≡ Some n → FrontRead (b ∷ bs) (Some kind.Number) (n + 1)
number_read b bs n h e =
    let r = number_sound bs n e in
    record {
      cell = LexemeCell (Number (b ∷ r.front));
      rest = r.rest;
      is = ap (λ (l : List ℕ). b ∷ l) r.is;
      each = (h, (h, r.all), r.stops);
      kind_is = refl;
      count = omega (arith, r.count);
    }

decimal_read : (b : ℕ) (bs : List ℕ) (n : ℕ) → digit_byte b ≡ true → decimal_rest bs ≡ Some n → FrontRead (b ∷ bs) (Some kind.Decimal) (n + 1)
decimal_read b bs n h e =
    let r = decimal_sound bs n e in
    record {
      cell = LexemeCell (Decimal (b ∷ (r.front ++ 46 ∷ r.fraction)));
      rest = r.rest;
      is = ap (λ (l : List ℕ). b ∷ l) (r.is ∙ sym (append_assoc r.front (46 ∷ r.fraction) r.rest));
      each = (record { whole = b ∷ r.front; fraction = r.fraction; is = refl; begins = h; digits = (h, r.digits); goes_on = r.goes_on; more_digits = r.more_digits }, r.stops);
      kind_is = refl;
      count = omega (arith, r.count, length-append r.front (46 ∷ r.fraction));
    }

text_read : (bs : List ℕ) (n : ℕ) → quoted_rest false bs ≡ Some n → FrontRead (39 ∷ bs) (Some kind.Quoted) (n + 1)
text_read bs n e =
    let t = text_sound bs n e in
    record {
      cell = LexemeCell (Quoted t.value);
      rest = t.rest;
      is = ap (λ (l : List ℕ). 39 ∷ l) (t.is ∙ sym (append_assoc (doubled t.value) (39 ∷ []) t.rest));
      each = (t.all, t.stops);
      kind_is = refl;
      count = omega (arith, t.count, length-append (doubled t.value) (39 ∷ []));
    }

comment_read : (bs : List ℕ) (n : ℕ) → LineRead bs n → FrontRead (45 ∷ 45 ∷ bs) None (n + 1 + 1)
comment_read bs n (inl r) = record {
  cell = GapCell (Comment r.0);
  rest = r.1;
  is = ap (λ (l : List ℕ). 45 ∷ 45 ∷ l) (r.2 ∙ sym (append_assoc r.0 (10 ∷ []) r.1));
  each = r.3;
  kind_is = refl;
  count = omega (arith, r.4, length-append r.0 (10 ∷ []));
}
comment_read bs n (inr r) = record {
  cell = GapCell (OpenComment bs);
  rest = [];
  is = ap (λ (l : List ℕ). 45 ∷ 45 ∷ l) (sym (append-nil bs));
  each = (r.0, refl);
  kind_is = refl;
  count = omega (arith, r.1);
}

sign_read : (b : ℕ) (bs : List ℕ) (n : ℕ) → SignRead b bs n → FrontRead (b ∷ bs) (Some kind.Sign) (n + 1)
sign_read b bs n r = record { cell = LexemeCell (Sign r.text); rest = r.rest; is = r.is; each = r.sign; kind_is = refl; count = r.count }

dashes_read : (b : ℕ) (bs : List ℕ) → ((b == 45) && begins_with 45 bs) ≡ true → FrontRead (b ∷ bs) None (line_length bs + 1)
dashes_read b [] h = absurd (none_true (b == 45) h)
  where
    none_true : (x : Bool) → (x && false) ≡ true → ⊥
    none_true true e = cc
    none_true false e = cc
dashes_read b (c ∷ cs) h =
    let both = and_true (b == 45) (c == 45) h in
    let e : b ≡ 45 = eqb-true b 45 both.0 in
    let f : c ≡ 45 = eqb-true c 45 both.1 in
    subst (λ (x : ℕ). FrontRead (x ∷ c ∷ cs) None (line_length (c ∷ cs) + 1)) (sym e)
    (subst (λ (x : ℕ). FrontRead (45 ∷ x ∷ cs) None (line_length (x ∷ cs) + 1)) (sym f)
    (comment_read cs (line_length cs) (line_sound cs)))
  where
    and_true : (x y : Bool) → (x && y) ≡ true → (x ≡ true) × (y ≡ true)
    and_true true y e = (refl, e)
    and_true false y e = absurd cc

-- what is read as a front: a cell, and not an empty one
abbrev pub IsFrontRead : List ℕ → Front → Type 0
IsFrontRead bs f = FrontRead bs f.kind f.length × (0 < f.length)

done : (bs : List ℕ) (k : Option TokenKind) (n : ℕ) (f : Front) → record { kind = k; length = n + 1 } ≡ f → FrontRead bs k (n + 1) → IsFrontRead bs f
done bs k n f e r = subst (λ (g : Front). IsFrontRead bs g) e (r, omega arith)

module _ (b : ℕ) (bs : List ℕ) (f : Front) where
  sound_sign : blank_byte b ≡ false → letter_byte b ≡ false → digit_byte b ≡ false → (b == 39) ≡ false → ((b == 45) && begins_with 45 bs) ≡ false → front_of (b ∷ bs) ≡ Some f → IsFrontRead (b ∷ bs) f
  sound_sign s l d q c e =
      let h : front_with (Some kind.Sign) (sign_rest b bs) ≡ Some f = rw (s, l, d, q, c) at e in
      let w = with_some (Some kind.Sign) (sign_rest b bs) f h in
      done (b ∷ bs) (Some kind.Sign) w.0 f w.2 (sign_read b bs w.0 (sign_sound b bs w.0 c w.1))

  sound_dashes : blank_byte b ≡ false → letter_byte b ≡ false → digit_byte b ≡ false → (b == 39) ≡ false → ((b == 45) && begins_with 45 bs) ≡ true → front_of (b ∷ bs) ≡ Some f → IsFrontRead (b ∷ bs) f
  sound_dashes s l d q c e =
      let h : front_with None (Some (line_length bs)) ≡ Some f = rw (s, l, d, q, c) at e in
      done (b ∷ bs) None (line_length bs) f (same_some h) (dashes_read b bs c)

  sound_quoted : blank_byte b ≡ false → letter_byte b ≡ false → digit_byte b ≡ false → (b == 39) ≡ true → front_of (b ∷ bs) ≡ Some f → IsFrontRead (b ∷ bs) f
  sound_quoted s l d q e =
      let h : front_with (Some kind.Quoted) (quoted_rest false bs) ≡ Some f = rw (s, l, d, q) at e in
      let w = with_some (Some kind.Quoted) (quoted_rest false bs) f h in
      done (b ∷ bs) (Some kind.Quoted) w.0 f w.2 (subst (λ (x : ℕ). FrontRead (x ∷ bs) (Some kind.Quoted) (w.0 + 1)) (sym (eqb-true b 39 q)) (text_read bs w.0 w.1))

  sound_number : blank_byte b ≡ false → letter_byte b ≡ false → digit_byte b ≡ true → front_of (b ∷ bs) ≡ Some f → IsFrontRead (b ∷ bs) f
  sound_number s l d e =
      let h : numeral_front bs (number_rest bs) ≡ Some f = rw (s, l, d) at e in
      by_number (number_rest bs) refl h
    where
      by_number : (o : Option ℕ) → number_rest bs ≡ o → numeral_front bs o ≡ Some f → IsFrontRead (b ∷ bs) f
      by_number None i h =
          let w = with_some (Some kind.Decimal) (decimal_rest bs) f h in
          done (b ∷ bs) (Some kind.Decimal) w.0 f w.2 (decimal_read b bs w.0 d w.1)
      by_number (Some n) i h = done (b ∷ bs) (Some kind.Number) n f (same_some h) (number_read b bs n d i)

  sound_word : blank_byte b ≡ false → letter_byte b ≡ true → front_of (b ∷ bs) ≡ Some f → IsFrontRead (b ∷ bs) f
  sound_word s l e =
      let h : front_with (Some kind.Word) (Some (word_rest bs)) ≡ Some f = rw (s, l) at e in
      done (b ∷ bs) (Some kind.Word) (word_rest bs) f (same_some h) (word_read b bs l)

  sound_space : blank_byte b ≡ true → front_of (b ∷ bs) ≡ Some f → IsFrontRead (b ∷ bs) f
  sound_space s e =
      let h : front_with None (Some 0) ≡ Some f = rw s at e in
      done (b ∷ bs) None 0 f (same_some h) (space_read b bs s)

  sound_byte : front_of (b ∷ bs) ≡ Some f → IsFrontRead (b ∷ bs) f
  sound_byte e =
      ⊎_elim (λ s. sound_space s e) (λ s. ⊎_elim (λ l. sound_word s l e) (λ l. ⊎_elim (λ d. sound_number s l d e) (λ d. ⊎_elim (λ q. sound_quoted s l d q e) (λ q.
      ⊎_elim (λ c. sound_dashes s l d q c e) (λ c. sound_sign s l d q c e)
      (tested ((b == 45) && begins_with 45 bs))) (tested (b == 39))) (tested (digit_byte b))) (tested (letter_byte b))) (tested (blank_byte b))

pub front_sound : (bs : List ℕ) (f : Front) → front_of bs ≡ Some f → IsFrontRead bs f
front_sound [] f e = absurd (none_some e)
front_sound (b ∷ bs) f e = sound_byte b bs f e

-- Each cell is read at the front.
abbrev pub front_cell : Cell → Front
front_cell cell = record { kind = cell_kind cell; length = length (cell_bytes cell) }

letter_no_blank : (b : ℕ) → letter_byte b ≡ true → blank_byte b ≡ false
letter_no_blank b h = grind (arith, nat_tests)

digit_no_blank : (b : ℕ) → digit_byte b ≡ true → blank_byte b ≡ false
digit_no_blank b h = grind (arith, nat_tests)

abbrev some_front : Option TokenKind → ℕ → Option Front
some_front k n = Some (record { kind = k; length = n })

same_front : (k : Option TokenKind) (n m : ℕ) → n ≡ m → some_front k n ≡ some_front k m
same_front k n m e = ap (some_front k) e

word_first : (b : ℕ) (ws next : List ℕ) → letter_byte b ≡ true → Each word_byte ws → BeginsNot word_byte next → front_of (b ∷ (ws ++ next)) ≡ Some (front_cell (LexemeCell (Word (b ∷ ws))))
word_first b ws next l all stops =
    let step : front_of (b ∷ (ws ++ next)) ≡ front_with (Some kind.Word) (Some (word_rest (ws ++ next))) = rw (letter_no_blank b l, l) refl in
    let more : word_rest (ws ++ next) ≡ length ws = word_found ws next all stops in
    step ∙ same_front (Some kind.Word) (word_rest (ws ++ next) + 1) (length (b ∷ ws)) (omega (arith, more))

number_first : (b : ℕ) (ds next : List ℕ) → digit_byte b ≡ true → Each digit_byte ds → BeginsNot numeral_byte next → front_of (b ∷ (ds ++ next)) ≡ Some (front_cell (LexemeCell (Number (b ∷ ds))))
number_first b ds next d all stops =
    let step : front_of (b ∷ (ds ++ next)) ≡ numeral_front (ds ++ next) (number_rest (ds ++ next)) = rw (digit_no_blank b d, digit_no_letter b d, d) refl in
    step ∙ ap (numeral_front (ds ++ next)) (number_found ds next all stops)
    ∙ same_front (Some kind.Number) (length ds + 1) (length (b ∷ ds)) (omega arith)

decimal_first : (b : ℕ) (ds ps next : List ℕ) → digit_byte b ≡ true → Each digit_byte ds → BeginsWith digit_byte ps → Each digit_byte ps → BeginsNot numeral_byte next
    → front_of (b ∷ (ds ++ 46 ∷ (ps ++ next))) ≡ some_front (Some kind.Decimal) (length (b ∷ (ds ++ 46 ∷ ps)))
decimal_first b ds ps next d all begins more stops =
    let step : front_of (b ∷ (ds ++ 46 ∷ (ps ++ next))) ≡ numeral_front (ds ++ 46 ∷ (ps ++ next)) (number_rest (ds ++ 46 ∷ (ps ++ next))) = rw (digit_no_blank b d, digit_no_letter b d, d) refl in
    step ∙ ap (numeral_front (ds ++ 46 ∷ (ps ++ next))) (pointed ds (ps ++ next) all)
    ∙ ap (front_with (Some kind.Decimal)) (decimal_found ds ps next all begins more stops)
    ∙ same_front (Some kind.Decimal) (length ds + 1 + length ps + 1) (length (b ∷ (ds ++ 46 ∷ ps))) (omega (arith, length-append ds (46 ∷ ps)))

decimal_front : (bs next : List ℕ) (whole fraction : List ℕ) → bs ≡ whole ++ 46 ∷ fraction → BeginsWith digit_byte whole → Each digit_byte whole → BeginsWith digit_byte fraction → Each digit_byte fraction → BeginsNot numeral_byte next
    → front_of (bs ++ next) ≡ Some (front_cell (LexemeCell (Decimal bs)))
decimal_front bs next [] ps e begins all goes more stops = absurd begins
decimal_front bs next (w ∷ ws) ps e begins all goes more stops =
    subst (λ (l : List ℕ). front_of (l ++ next) ≡ Some (front_cell (LexemeCell (Decimal l)))) (sym e)
    (ap (λ (l : List ℕ). front_of (w ∷ l)) (append_assoc ws (46 ∷ ps) next) ∙ decimal_first w ws ps next begins all.1 goes more stops)

pub front_found : (cell : Cell) (next : List ℕ) → IsCell cell next → front_of (cell_bytes cell ++ next) ≡ Some (front_cell cell)
front_found (GapCell (Space b)) next h = rw h refl
front_found (GapCell (Comment body)) next line =
    let more : line_length (body ++ 10 ∷ next) ≡ length body + 1 = line_ended body next line in
    let split : line_length ((body ++ 10 ∷ []) ++ next) ≡ line_length (body ++ 10 ∷ next) = ap line_length (append_assoc body (10 ∷ []) next) in
    same_front None (line_length ((body ++ 10 ∷ []) ++ next) + 1 + 1) (length (45 ∷ 45 ∷ (body ++ 10 ∷ []))) (omega (arith, more, split, length-append body (10 ∷ [])))
front_found (GapCell (OpenComment body)) next h =
    let more : line_length body ≡ length body = line_open body h.0 in
    let split : line_length (body ++ next) ≡ line_length body = ap (λ (l : List ℕ). line_length (body ++ l)) h.1 ∙ ap line_length (append-nil body) in
    same_front None (line_length (body ++ next) + 1 + 1) (length (45 ∷ 45 ∷ body)) (omega (arith, more, split))
front_found (LexemeCell (Word [])) next h = absurd h.0
front_found (LexemeCell (Word (b ∷ ws))) next h = word_first b ws next h.0 h.1.1 h.2
front_found (LexemeCell (Number [])) next h = absurd h.0
front_found (LexemeCell (Number (b ∷ ds))) next h = number_first b ds next h.0 h.1.1 h.2
front_found (LexemeCell (Decimal bs)) next h = decimal_front bs next h.0.whole h.0.fraction h.0.is h.0.begins h.0.digits h.0.goes_on h.0.more_digits h.1
front_found (LexemeCell (Quoted value)) next h =
    let found : quoted_rest false (doubled value ++ 39 ∷ next) ≡ Some (length (doubled value) + 1) = text_found value next h.0 h.1 in
    let count : length (doubled value) + 1 + 1 ≡ length (39 ∷ (doubled value ++ 39 ∷ [])) = omega (arith, length-append (doubled value) (39 ∷ [])) in
    ap (λ (l : List ℕ). front_with (Some kind.Quoted) (quoted_rest false l)) (append_assoc (doubled value) (39 ∷ []) next)
    ∙ ap (front_with (Some kind.Quoted)) found
    ∙ same_front (Some kind.Quoted) (length (doubled value) + 1 + 1) (length (39 ∷ (doubled value ++ 39 ∷ []))) count
front_found (LexemeCell (Sign bs)) next h = sign_found bs next h
