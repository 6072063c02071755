-- The made script is cut into its statements, so that a run over it has a reply for each.
use Rattle.std.proofs.Common.{◌≡◌, ◌<◌, ◌≤◌, ◌+◌, ◌*◌, ◌-◌, ◌%◌, ◌/◌, ◌^◌, ℕ, zero, suc, List, [], ◌∷◌, ◌++◌, length, take, drop, refl, sym, ap, ◌∙◌, inl, inr, subst, arith, Bool, true, false, append_assoc, length-append}
use Rattle.std.specs.Prelude.{Option, Some, None, map, codes, ◌==◌, if◌then◌else◌}
use Rattle.std.specs.Fmt.{digit_glyph, digits_onto}
use Rattle.std.specs.List.{flat_map}
use Rattle.std.proofs.lemmas.List.{append-nil, map-append, length-map, length-take-le, take-append-drop}
use Rattle.std.proofs.lemmas.List.Concat.{flat_map-append}
use Rattle.ded_dialogue.specs.Outcome.{Concluded, Interrupted}
use Rattle.ded_lex.specs.declared.state.State.{State}
use Rattle.ded_lex.specs.declared.state.State.TheVariants.{Plain, Quote}
use Rattle.ded_lex.specs.Machine.{turned, walked}
use Rattle.ded_lex.specs.Pieces.{Statement, Whole, Unfinished, HasNoWhole, IsCut, EndsIn}
use Rattle.ded_lex.proofs.Cases.{is_not, same_some, none_some}
use Rattle.ded_lex.proofs.Cuts.{one_cut}
use Rattle.ded_lex.proofs.Feeding.{whole_fed, none_fed}
use Rattle.ded_model.specs.declared.command.Language.{Language}
use Rattle.ded_model.specs.Catalogue.{Catalogue}
use Rattle.ded_print.specs.Numbers.{number_text}
use Rattle.ded_print.proofs.Numerals.{glyph_is}
use Rattle.ded_run.specs.Made.{below, joined, land_parts, land_insert, land_row, road_parts, corner_parts, other_corner_parts, corner_question, other_corner_question, road_insert, made_setup, made_questions, made_script, lines, Made, HalfMade}
use Rattle.ded_run.specs.OneSession.{session_protocol}
use Rattle.ded_session.specs.Replies.{ReplyForm, some_refusal}
use Rattle.ded_session.specs.Runs.{Steps, Run}

-- ---- bytes in which no piece ends

abbrev Walks : State → List ℕ → State → Type 0
Walks s bytes t = walked s bytes ≡ Some t

byte_walks : (s t u : State) (b : ℕ) (bs : List ℕ) → turned s b ≡ Some t → Walks t bs u → Walks s (b ∷ bs) u
byte_walks s t u b bs e w = ap (λ (o : Option State). elim o [ None ↦ None | Some v ↦ walked v bs ]) e ∙ w

both_walk : (s t u : State) (xs ys : List ℕ) → Walks s xs t → Walks t ys u → Walks s (xs ++ ys) u
both_walk s t u [] ys p q = subst (λ (v : State). Walks v ys u) (sym (same_some p)) q
both_walk s t u (x ∷ xs) ys p q = by (turned s x) (λ v r. both_walk v t u xs ys r q) p
  where
    by : (o : Option State) → ((v : State) → Walks v xs t → Walks v (xs ++ ys) u) → elim o [ None ↦ None | Some v ↦ walked v xs ] ≡ Some t → elim o [ None ↦ None | Some v ↦ walked v (xs ++ ys) ] ≡ Some u
    by None more r = absurd (none_some r)
    by (Some v) more r = more v r

-- ---- numbers

abbrev AreDigits : List ℕ → Type 0
AreDigits [] = Unit {0}
AreDigits (b ∷ bs) = (47 < b) × (b < 58) × AreDigits bs

either_digits : (t : Bool) (a b : List ℕ) → AreDigits a → AreDigits b → AreDigits (if t then a else b)
either_digits true a b p q = p
either_digits false a b p q = q

onto_digits : (k n : ℕ) (acc : List ℕ) → AreDigits acc → AreDigits (digits_onto k 10 false n acc)
onto_digits zero n acc h = h
onto_digits (suc k) n acc h =
    let last = digit_glyph false (n % 10) in
    let small : n % 10 < 10 = omega arith in
    let is : last ≡ 48 + n % 10 = glyph_is (n % 10) small in
    let low : 47 < last = omega (arith, is) in
    let high : last < 58 = omega (arith, is, small) in
    either_digits (n / 10 == 0) (last ∷ acc) (digits_onto k 10 false (n / 10) (last ∷ acc)) (low, high, h) (onto_digits k (n / 10) (last ∷ acc) (low, high, h))

number_digits : (n : ℕ) → AreDigits (number_text n)
unfolding number_text
number_digits n = onto_digits (64 + n / 10 ^ 64) n [] tt

digit_plain : (b : ℕ) → 47 < b → b < 58 → turned Plain b ≡ Some Plain
digit_plain b low high = rw (is_not b 39 (λ e. absurd (omega (arith, e))), is_not b 45 (λ e. absurd (omega (arith, e))), is_not b 59 (λ e. absurd (omega (arith, e)))) refl

digit_quoted : (b : ℕ) → 47 < b → turned Quote b ≡ Some Quote
digit_quoted b low = rw (is_not b 39 (λ e. absurd (omega (arith, e)))) refl

digits_plain : (bs : List ℕ) → AreDigits bs → Walks Plain bs Plain
digits_plain [] h = refl
digits_plain (b ∷ bs) h = byte_walks Plain Plain Plain b bs (digit_plain b h.0 h.1) (digits_plain bs h.2)

digits_quoted : (bs : List ℕ) → AreDigits bs → Walks Quote bs Quote
digits_quoted [] h = refl
digits_quoted (b ∷ bs) h = byte_walks Quote Quote Quote b bs (digit_quoted b h.0) (digits_quoted bs h.2)

-- a number in a statement, and one in a quoted text
plain : (n : ℕ) → Walks Plain (number_text n) Plain
plain n = digits_plain (number_text n) (number_digits n)

quoted : (n : ℕ) → Walks Quote (number_text n) Quote
quoted n = digits_quoted (number_text n) (number_digits n)

-- texts in turn, by the states between them
abbrev WalkIn : State → List (List ℕ) → State → Type 0
WalkIn s [] t = s ≡ t
WalkIn s (part ∷ parts) t = (u : State) × Walks s part u × WalkIn u parts t

joined_walk : (s t : State) (parts : List (List ℕ)) → WalkIn s parts t → Walks s (joined parts) t
joined_walk s t [] w = ap (λ (u : State). Some u) w
joined_walk s t (part ∷ parts) w = both_walk s w.0 t part (joined parts) w.1 (joined_walk w.0 t parts w.2)

-- ---- the statements

land_walks : (j i : ℕ) → Walks Plain (land_insert j i) Plain
land_walks j i = joined_walk Plain Plain (land_parts j i) (
  Quote,
  refl,
  (
    Quote,
    quoted j,
    (
      Quote,
      refl,
      (
        Quote,
        quoted i,
        (
          Plain,
          refl,
          (
            Plain,
            plain (10 * i),
            (
              Plain,
              refl,
              (
                Plain,
                plain (10 * i + 10),
                (Plain, refl, (Plain, plain (10 * j), (Plain, refl, (Plain, plain (10 * j + 10), (Plain, refl, refl))))),
              ),
            ),
          ),
        ),
      ),
    ),
  ),
)

road_walks : (k : ℕ) → Walks Plain (road_insert k) Plain
road_walks k = joined_walk Plain Plain (road_parts k) (
  Quote,
  refl,
  (Quote, quoted k, (Plain, refl, (Plain, plain (10 * k), (Plain, refl, (Plain, plain (10 * k + 1), (Plain, refl, refl)))))),
)

corner_walks : (n : ℕ) → Walks Plain (corner_question n) Plain
corner_walks n = joined_walk Plain Plain (corner_parts n) (Quote, refl, (Quote, quoted (n - 1), (Quote, refl, (Quote, quoted (n - 1), (Plain, refl, refl)))))

other_corner_walks : (n : ℕ) → Walks Plain (other_corner_question n) Plain
other_corner_walks n = joined_walk Plain Plain (other_corner_parts n) (Quote, refl, (Quote, quoted (n - 1), (Plain, refl, refl)))

abbrev AllWalk : List (List ℕ) → Type 0
AllWalk [] = Unit {0}
AllWalk (statement ∷ statements) = Walks Plain statement Plain × AllWalk statements

all_both : (xs ys : List (List ℕ)) → AllWalk xs → AllWalk ys → AllWalk (xs ++ ys)
all_both [] ys p q = q
all_both (x ∷ xs) ys p q = (p.0, all_both xs ys p.1 q)

all_lines : (f : ℕ → List ℕ) → ((i : ℕ) → Walks Plain (f i) Plain) → (n : ℕ) → AllWalk (map f (below n))
all_lines f w zero = tt
all_lines f w (suc n) = subst AllWalk (sym (map-append f (below n) (n ∷ []))) (all_both (map f (below n)) (f n ∷ []) (all_lines f w n) (w n, tt))

all_rows : (g : ℕ → List (List ℕ)) → ((j : ℕ) → AllWalk (g j)) → (n : ℕ) → AllWalk (flat_map g (below n))
all_rows g w zero = tt
all_rows g w (suc n) = subst AllWalk (sym (flat_map-append g (below n) (n ∷ []))) (all_both (flat_map g (below n)) (g n ++ []) (all_rows g w n) (all_both (g n) [] (w n) tt))

setup_walk : (n : ℕ) → AllWalk (made_setup n)
unfolding made_setup
setup_walk n =
    let relations : List (List ℕ) = codes "relation Land(n text, x, y)" ∷ codes "relation Road(k text, x, y)" ∷ [] in
    let view : List (List ℕ) = codes "view Cross(n text, k text) := exists x exists y (Land(n, x, y) and Road(k, x, y))" ∷ [] in
    let lands = flat_map (land_row n) (below n) in
    let roads = map road_insert (below n) in
    all_both (relations ++ lands ++ roads) view
    (all_both (relations ++ lands) roads
    (all_both relations lands (refl, (refl, tt)) (all_rows (land_row n) (λ j. all_lines (land_insert j) (land_walks j) n) n))
    (all_lines road_insert road_walks n))
    (refl, tt)

questions_walk : (n : ℕ) → AllWalk (made_questions n)
unfolding made_questions
questions_walk n = (refl, (corner_walks n, (other_corner_walks n, (refl, (refl, tt)))))

-- ---- their pieces

-- each statement is a piece, with the line feed of the line before
abbrev pieces_of : List ℕ → List (List ℕ) → List (List ℕ)
pieces_of lead [] = []
pieces_of lead (statement ∷ statements) = (lead ++ statement) ∷ pieces_of (10 ∷ []) statements

abbrev rest_of : List ℕ → List (List ℕ) → List ℕ
rest_of lead [] = lead
rest_of lead (statement ∷ statements) = rest_of (10 ∷ []) statements

lines_cut : (lead : List ℕ) (statements : List (List ℕ)) → Walks Plain lead Plain → AllWalk statements → IsCut (lead ++ lines statements) (pieces_of lead statements) (rest_of lead statements)
lines_cut lead [] w all = (subst HasNoWhole (sym (append-nil lead)) (none_fed lead Plain w), sym (append-nil lead))
lines_cut lead (statement ∷ statements) w all = (
  10 ∷ lines statements,
  record {
    is = ap (λ (l : List ℕ). lead ++ l) (append_assoc statement (codes ";\n") (lines statements)) ∙ sym (append_assoc lead statement (59 ∷ 10 ∷ lines statements));
    whole = whole_fed (lead ++ statement) (10 ∷ lines statements) Plain (both_walk Plain Plain Plain lead statement w all.0) refl;
  },
  lines_cut (10 ∷ []) statements refl all.1,
)

many_pieces : (lead : List ℕ) (statements : List (List ℕ)) → length (pieces_of lead statements) ≡ length statements
many_pieces lead [] = refl
many_pieces lead (statement ∷ statements) = ap suc (many_pieces (10 ∷ []) statements)

-- ---- a reply for each

steps_many : (language : Language) (c : Catalogue) (ss : List Statement) (replies : List ReplyForm) (d : Catalogue) → Steps language c ss replies d → length replies ≡ length ss
steps_many language c [] [] d s = refl
steps_many language c [] (r ∷ rs) d s = absurd s
steps_many language c (x ∷ ss) [] d s = absurd s
steps_many language c (x ∷ ss) (r ∷ rs) d s = ap suc (steps_many s.1 s.0 ss rs d s.4)

ends_many : (rest : List ℕ) (wholes statements : List Statement) → EndsIn rest wholes statements → length wholes ≤ length statements
ends_many rest wholes statements (inl e) = omega (arith, ap length e.1)
ends_many rest wholes statements (inr e) = omega (arith, ap length e.1, length-append wholes (Unfinished rest ∷ []))

setup_answered : (limit n : ℕ) (replies : List ReplyForm) (last : Catalogue) → Run limit (made_script n) replies last → length (made_setup n) ≤ length replies
setup_answered limit n replies last run =
    let all = made_setup n ++ made_questions n in
    let cut : IsCut (made_script n) (pieces_of [] all) (rest_of [] all) = lines_cut [] all refl (all_both (made_setup n) (made_questions n) (setup_walk n) (questions_walk n)) in
    let same = (one_cut run.cut.pieces (pieces_of [] all) (made_script n) run.cut.rest (rest_of [] all) run.cut.cut cut).0 in
    let many : length replies ≡ length run.statements = steps_many _ _ run.statements replies last run.steps in
    let most : length (map Whole run.cut.pieces) ≤ length run.statements = ends_many run.cut.rest (map Whole run.cut.pieces) run.statements run.cut.are in
    omega (arith, many, most, length-map run.cut.pieces Whole, ap length same, many_pieces [] all, length-append (made_setup n) (made_questions n))

-- ---- how many statements set up

below_many : (n : ℕ) → length (below n) ≡ n
below_many zero = refl
below_many (suc n) = omega (arith, below_many n, length-append (below n) (n ∷ []))

rows_many : (g : ℕ → List (List ℕ)) (k : ℕ) → ((j : ℕ) → length (g j) ≡ k) → (n : ℕ) → length (flat_map g (below n)) ≡ n * k
rows_many g k each zero = omega arith
rows_many g k each (suc n) =
    omega (arith, ap length (flat_map-append g (below n) (n ∷ [])), length-append (flat_map g (below n)) (g n ++ []), length-append (g n) [], each n, rows_many g k each n)

pub setup_many : (n : ℕ) → length (made_setup n) ≡ n * n + n + 3
unfolding made_setup
setup_many n =
    let relations : List (List ℕ) = codes "relation Land(n text, x, y)" ∷ codes "relation Road(k text, x, y)" ∷ [] in
    let view : List (List ℕ) = codes "view Cross(n text, k text) := exists x exists y (Land(n, x, y) and Road(k, x, y))" ∷ [] in
    let lands = flat_map (land_row n) (below n) in
    let roads = map road_insert (below n) in
    omega (
      arith,
      length-append (relations ++ lands ++ roads) view,
      length-append (relations ++ lands) roads,
      length-append relations lands,
      rows_many (land_row n) n (λ j. length-map (below n) (land_insert j) ∙ below_many n) n,
      length-map (below n) road_insert,
      below_many n,
    )

-- ---- a run over the made script

module _ (limit size silent : ℕ) (h0 h1 : Option (List ℕ)) (counts : silent ≡ length (made_setup size)) where
  first_many : (replies : List ReplyForm) (last : Catalogue) → Run limit (made_script size) replies last → length (take silent replies) ≡ length (made_setup size)
  first_many replies last run =
      let enough : silent ≤ length replies = omega (arith, counts, setup_answered limit size replies last run) in
      length-take-le silent replies enough ∙ counts

  both_runs : (replies : List ReplyForm) (last : Catalogue) → Run limit (made_script size) replies last → Run limit (made_script size) (take silent replies ++ drop silent replies) last
  both_runs replies last run = subst (λ (rs : List ReplyForm). Run limit (made_script size) rs last) (sym (take-append-drop silent replies)) run

  pub is_made : (refused : Bool) → Concluded (session_protocol limit) silent (made_script size) h0 h1 refused → Made limit size h0 h1 refused
  is_made refused c = record {
    setup = take silent c.replies;
    questions = drop silent c.replies;
    last = c.last;
    run = both_runs c.replies c.last c.run;
    counted = first_many c.replies c.last c.run;
    written = c.written;
    refuses = ap some_refusal (take-append-drop silent c.replies) ∙ c.refuses;
  }

  pub is_half_made : Interrupted (session_protocol limit) silent (made_script size) h0 h1 → HalfMade limit size h0 h1
  is_half_made c = record {
    setup = take silent c.replies;
    questions = drop silent c.replies;
    last = c.last;
    run = both_runs c.replies c.last c.run;
    counted = first_many c.replies c.last c.run;
    unwritten = c.unwritten;
    written = c.written;
  }
