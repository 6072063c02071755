-- What `clap` makes of the words, for a command with two options that take a value each.
use Rattle.std.proofs.Common.{◌≡◌, ◌⊎◌, ℕ, List, [], ◌∷◌, ◌++◌, length, refl, sym, ap, ◌∙◌, inl, inr, ⊎_elim, subst, Bool, true, false, ◌||◌, ◌&&◌, zero, suc, codes, ◌≢◌, arith, Decides, true≢false, append_assoc}
use Rattle.std.proofs.lemmas.Bool.Decides.{eqb_tells}
use Rattle.std.proofs.lemmas.Bool.{ne_eqb}
use Rattle.std.proofs.lemmas.List.{append-nil, map-append}
use Rattle.std.proofs.lemmas.Slice.Eq.{bytes_eq-Decides}
use Rattle.std.specs.Prelude.{Option, None, Some, fold, map, slice_get, if◌then◌else◌, option_and_then, ◌==◌}
use Rattle.std.specs.Option.{option_map_or}
use Rattle.std.specs.Str.{bytes_eq, chars}
use Rattle.clap.specs.Lexer.{long_of, long_of_rest, short_of, strip_byte, name_and_value}
use Rattle.clap.specs.declared.error.kind.ErrorKind.{ErrorKind}
use Rattle.clap.specs.declared.error.kind.ErrorKind.TheVariants as kind
use Rattle.clap.proofs.OnLiterals.{clap_on_literals}
use Rattle.clap.proofs.CutLemmas.{Lacks}
use Rattle.clap.proofs.LexerLemmas.{name_and_value-at, name_and_value-without}
use Rattle.clap.specs.Kinds.{Kinds, or_else}
use Rattle.clap.specs.Faults.{fault_of, is_simple_and_free, walk_fault, turn_fault, flag_word_fault, long_fault, react_fault, settle_fault, use_fault, step_fault, bundle_fault, bundle_step_fault, flags_fault, default_fault, defaults_fault, given_default_fault, check_fault}
use Rattle.clap.specs.Simple.{App, Shape, built, matches_of, HasMatchesOf}
use Rattle.clap.specs.Matches.{first_value, found_of}
use Rattle.clap.specs.declared.parser.matches.ArgMatches.{ArgMatches}
use Rattle.clap.proofs.WalkLemmas.{first_value-rows}
use Rattle.clap.proofs.FaultLemmas.{leaf_fault}
use Rattle.ded_run.specs.CommandLine.{option_rule, dedale, has_dashes}
use Rattle.ded_run.specs.Words.{OptionWords, BothOptions}
use Rattle.clap.specs.Walk.{Text, nothing_held, Rule, Row, Held, Walk, Waiting, Outcome, Step, idle, option, arg_by_long, reading_by, reacted, used, settled, walked, with_default, more_values, without, at_row, has_row, after_step, after_flag, long_met, long_or_other, short_or_plain, plain_word, bundle_met, bundle_step, plain, trailing, next as proceed, rows_of, first_of, finished}
use Rattle.clap.specs.declared.builder.value_parser.ValueParser.TheVariants as parser
use Rattle.clap.specs.declared.parser.matches.ValueSource.TheVariants.{CommandLine}
use Rattle.ded_lex.proofs.Cases.{none_some, same_some}

-- ---- the command, built

abbrev s : Shape
s = (built dedale).top

abbrev c : List Rule
c = s.rules

-- its two options
pub data Which : Type 0 where
  Limit : Which
  Make : Which

abbrev pub name_of : Which → Text
name_of Limit = codes "limit"
name_of Make = codes "make"

abbrev rule : Which → Rule
rule o = record (option_rule (name_of o)) {
  range = Some (record { start_inclusive = 1; end_inclusive = 1 });
  parser = Some parser.String;
}

-- ---- lists of faults

cons_nil : {k : ErrorKind} {ks : Kinds} → k ∷ ks ≡ [] → ⊥
cons_nil e = cc

neither : (a b : Kinds) → or_else a b ≡ [] → (a ≡ []) × (b ≡ [])
neither [] b e = (refl, e)
neither (k ∷ ks) b e = absurd (cons_nil e)

-- ---- where the walk stands

abbrev holding : List Row → Option (Text × List Text) → Held
holding rows pending = record { rows = rows; pending = pending; skip = 0 }

abbrev at : Held → Waiting → Walk
at h waiting = record { held = h; waiting = waiting; position = 1; is_trailing = false; stopped = None }

abbrev start : Walk
start = at (holding [] None) idle

-- no fault comes in these words, nor at their end
abbrev Ends : Walk → List Text → Type 0
Ends w words = (walk_fault s [] w words ≡ []) × (settle_fault c false (fold (walked c []) w words).held ≡ [])

ends_more : (w : Walk) (word : Text) (rest : List Text) → Ends w (word ∷ rest) → (turn_fault s [] w word ≡ []) × Ends (walked c [] w word) rest
unfolding walk_fault
ends_more w word rest e =
    let both = neither (turn_fault s [] w word) (walk_fault s [] (walked c [] w word) rest) e.0 in
    (both.0, (both.1, e.1))

-- ---- how a word of an option is spelled

bind : {A B : Type 0} (f : A → Option B) (o : Option A) (y : B) → option_and_then f o ≡ Some y → (x : A) × (o ≡ Some x) × (f x ≡ Some y)
bind f None y e = absurd (none_some e)
bind f (Some x) y e = (x, refl, e)

-- a name, and the value behind a `=` (61) where there is one
abbrev spelled : Text → Option Text → Text
spelled name None = name
spelled name (Some v) = name ++ 61 ∷ v

lacks_more : (x : ℕ) (xs : List ℕ) → x ≢ 61 → Lacks 61 xs → Lacks 61 (x ∷ xs)
lacks_more x xs differs lacks zero lt = differs
lacks_more x xs differs lacks (suc i) lt = lacks i (omega (arith, lt))

abbrev Split : List ℕ → Type 0
Split xs = Lacks 61 xs ⊎ ((front : List ℕ) × (back : List ℕ) × (xs ≡ front ++ 61 ∷ back) × Lacks 61 front)

split : (xs : List ℕ) → Split xs
split [] = inl (λ i lt. absurd (omega (arith, lt)))
split (x ∷ xs) = ⊎_elim
    (λ same. inr ([], xs, ap (λ (y : ℕ). y ∷ xs) same.1, λ i lt. absurd (omega (arith, lt))))
    (λ differs. ⊎_elim
    (λ (lacks : Lacks 61 xs). inl (lacks_more x xs differs.1 lacks))
    (λ (cut : (front : List ℕ) × (back : List ℕ) × (xs ≡ front ++ 61 ∷ back) × Lacks 61 front). inr (x ∷ cut.0, cut.1, ap (λ (l : List ℕ). x ∷ l) cut.2, lacks_more x cut.0 differs.1 cut.3))
    (split xs))
    (eqb_tells x 61)

value_spells : (xs name : Text) (v : Option Text) → name_and_value xs ≡ (name, v) → xs ≡ spelled name v
value_spells xs name v e = ⊎_elim
    (λ (lacks : Lacks 61 xs). ap (λ (p : Text × Option Text). spelled p.0 p.1) (sym (name_and_value-without xs lacks) ∙ e))
    (λ (cut : (front : List ℕ) × (back : List ℕ) × (xs ≡ front ++ 61 ∷ back) × Lacks 61 front).
    cut.2 ∙ ap (λ (p : Text × Option Text). spelled p.0 p.1) (sym (ap name_and_value cut.2 ∙ name_and_value-at cut.0 cut.1 cut.3) ∙ e))
    (split xs)

rest_spells : (xs name : Text) (v : Option Text) → long_of_rest xs ≡ Some (name, v) → xs ≡ spelled name v
rest_spells [] name v e = absurd (none_some e)
rest_spells (x ∷ xs) name v e = value_spells (x ∷ xs) name v (same_some e)

strips : (b : ℕ) (xs ys : List ℕ) → strip_byte b xs ≡ Some ys → xs ≡ b ∷ ys
strips b [] ys e = absurd (none_some e)
strips b (x ∷ xs) ys e = by (x == b) (eqb_tells x b) e
  where
    by : (t : Bool) → ((t ≡ true) × (x ≡ b)) ⊎ ((t ≡ false) × (x ≢ b)) → (if t then Some xs else None) ≡ Some ys → x ∷ xs ≡ b ∷ ys
    by true (inl same) f = ap (λ (y : ℕ). y ∷ xs) same.1 ∙ ap (λ (l : List ℕ). b ∷ l) (same_some f)
    by true (inr differs) f = absurd (true≢false differs.0)
    by false h f = absurd (none_some f)

long_spells : (word name : Text) (v : Option Text) → long_of word ≡ Some (name, v) → word ≡ 45 ∷ 45 ∷ spelled name v
long_spells word name v e =
    let rest = bind long_of_rest (option_and_then (strip_byte 45) (strip_byte 45 word)) (name, v) e in
    let first = bind (strip_byte 45) (strip_byte 45 word) rest.0 rest.1 in
    strips 45 word first.0 first.1 ∙ ap (λ (l : List ℕ). 45 ∷ l) (strips 45 first.0 rest.0 first.2 ∙ ap (λ (l : List ℕ). 45 ∷ l) (rest_spells rest.0 name v rest.2))

-- ---- one word

abbrev Attached : Which → Held → Text → Walk → Type 0
Attached o h word next = (v : Text) × (word ≡ 45 ∷ 45 ∷ name_of o ++ 61 ∷ v) × (react_fault c false (rule o) (v ∷ []) h ≡ []) × (next ≡ at (reacted c (rule o) (v ∷ []) h) idle)

abbrev Alone : Which → Held → Text → Walk → Type 0
Alone o h word next = (word ≡ 45 ∷ 45 ∷ name_of o) × (settle_fault c false h ≡ []) × (next ≡ at (record (settled c h) { pending = Some (name_of o, []) }) (option (name_of o)))

-- no fault, and no fault in what the word does
abbrev Fine : Kinds → Held × Step → Type 0
Fine faults met = or_else faults (step_fault s 1 met.0 met.1) ≡ []

abbrev next_of : Waiting → Held → Text → Held × Step → Walk
next_of waiting h word met = after_step c word (at h waiting) met.0 met.1

abbrev Plain : Waiting → Held → Text → Walk → Type 0
Plain waiting h word next = Fine [] (plain_word c waiting word h) × (next ≡ next_of waiting h word (plain_word c waiting word h))

abbrev Flagged : Held → Text → Walk → Type 0
Flagged h word next = (o : Which) × (Attached o h word next ⊎ Alone o h word next)

abbrev Turned : Waiting → Held → Text → Walk → Type 0
Turned waiting h word next = Flagged h word next ⊎ Plain waiting h word next

abbrev flagged : Waiting → Text → Held × Outcome → Held × Step
flagged waiting word met = after_flag c waiting word met.0 met.1

option_turn : (o : Which) (waiting : Waiting) (rows : List Row) (pending : Option (Text × List Text)) (word : Text) (v : Option Text) → word ≡ 45 ∷ 45 ∷ spelled (name_of o) v
    → Fine (long_fault c false (Some (rule o)) v (holding rows pending)) (flagged waiting word (long_met c (Some (rule o)) v (holding rows pending)))
    → Turned waiting (holding rows pending) word (next_of waiting (holding rows pending) word (flagged waiting word (long_met c (Some (rule o)) v (holding rows pending))))
option_turn o waiting rows pending word (Some v) is f = inl (o, inl (v, is, (neither (react_fault c false (rule o) (v ∷ []) (holding rows pending)) [] f).0, refl))
option_turn o waiting rows pending word None is f = inl (o, inr (is, (neither (settle_fault c false (holding rows pending)) [] f).0, refl))

abbrev found : Bool → Bool → Option Rule
found a b = if a || false then Some (rule Limit) else (if b || false then Some (rule Make) else None)

long_turn : (waiting : Waiting) (rows : List Row) (pending : Option (Text × List Text)) (word name : Text) (v : Option Text) → long_of word ≡ Some (name, v) → Fine (long_fault c false (arg_by_long c name) v (holding rows pending)) (flagged waiting word (long_met c (arg_by_long c name) v (holding rows pending))) → Turned waiting (holding rows pending) word (next_of waiting (holding rows pending) word (flagged waiting word (long_met c (arg_by_long c name) v (holding rows pending))))
long_turn waiting rows pending word name v e f = by (bytes_eq (name_of Limit) name) (bytes_eq (name_of Make) name) (bytes_eq-Decides (name_of Limit) name) (bytes_eq-Decides (name_of Make) name) f
  where
    named : (o : Which) → name_of o ≡ name → word ≡ 45 ∷ 45 ∷ spelled (name_of o) v
    named o is = long_spells word name v e ∙ ap (λ (t : Text). 45 ∷ 45 ∷ spelled t v) (sym is)

    by : (a b : Bool) → Decides a (name_of Limit ≡ name) → Decides b (name_of Make ≡ name) → Fine (long_fault c false (found a b) v (holding rows pending)) (flagged waiting word (long_met c (found a b) v (holding rows pending))) → Turned waiting (holding rows pending) word (next_of waiting (holding rows pending) word (flagged waiting word (long_met c (found a b) v (holding rows pending))))
    by true b is or g = option_turn Limit waiting rows pending word v (named Limit (is.0 refl)) g
    by false true is or g = option_turn Make waiting rows pending word v (named Make (or.0 refl)) g
    by false false is or g = absurd (cons_nil g)

-- a word that is no long flag
other_turn : (waiting : Waiting) (rows : List Row) (pending : Option (Text × List Text)) (word : Text) (flags : Option Text) → Fine (option_map_or (λ f. bundle_fault c false f (holding rows pending)) flags []) (short_or_plain c waiting word flags (holding rows pending)) → Plain waiting (holding rows pending) word (next_of waiting (holding rows pending) word (short_or_plain c waiting word flags (holding rows pending)))
unfolding flags_fault bundle_met
other_turn waiting rows pending word None f = (f, refl)
other_turn waiting rows pending word (Some []) f = (f, refl)
other_turn waiting rows pending word (Some (x ∷ xs)) f = by (slice_get (chars (x ∷ xs)) 0) f
  where
    by : (o : Option ℕ) → Fine (bundle_step_fault c false o (x ∷ xs) 0 (holding rows pending) (flags_fault c false (length xs))) (flagged waiting word (bundle_step c o (x ∷ xs) 0 plain (holding rows pending) (bundle_met c (length xs)))) → Plain waiting (holding rows pending) word (next_of waiting (holding rows pending) word (flagged waiting word (bundle_step c o (x ∷ xs) 0 plain (holding rows pending) (bundle_met c (length xs)))))
    by None g = (g, refl)
    by (Some ch) g = absurd (cons_nil g)

any_turn : (waiting : Waiting) (rows : List Row) (pending : Option (Text × List Text)) (word : Text) → Fine (flag_word_fault c false (long_of word) word (holding rows pending)) (long_or_other c waiting word (long_of word) (holding rows pending)) → Turned waiting (holding rows pending) word (next_of waiting (holding rows pending) word (long_or_other c waiting word (long_of word) (holding rows pending)))
any_turn waiting rows pending word f = by (long_of word) refl f
  where
    by : (o : Option (Text × Option Text)) → long_of word ≡ o → Fine (flag_word_fault c false o word (holding rows pending)) (long_or_other c waiting word o (holding rows pending)) → Turned waiting (holding rows pending) word (next_of waiting (holding rows pending) word (long_or_other c waiting word o (holding rows pending)))
    by (Some p) e g = long_turn waiting rows pending word p.0 p.1 e g
    by None e g = inr (other_turn waiting rows pending word (short_of word) g)

abbrev dashes : Text
dashes = 45 ∷ 45 ∷ []

-- where nothing waits for a value
idle_turn : (rows : List Row) (pending : Option (Text × List Text)) (word : Text) → bytes_eq word dashes ≡ false → turn_fault s [] (at (holding rows pending) idle) word ≡ [] → Flagged (holding rows pending) word (walked c [] (at (holding rows pending) idle) word)
unfolding walked
idle_turn rows pending word differs f = by (bytes_eq word dashes) differs f
  where
    narrow : (next : Walk) → Turned idle (holding rows pending) word next → Flagged (holding rows pending) word next
    narrow next (inl a) = a
    narrow next (inr p) = absurd (cons_nil p.0)

    by : (b : Bool) → b ≡ false
        → or_else (if b then [] else flag_word_fault c false (long_of word) word (holding rows pending)) (step_fault s 1 (if b then (holding rows pending, trailing 1) else long_or_other c idle word (long_of word) (holding rows pending)).0 (if b then (holding rows pending, trailing 1) else long_or_other c idle word (long_of word) (holding rows pending)).1) ≡ []
        → let met = if b then (holding rows pending, trailing 1) else long_or_other c idle word (long_of word) (holding rows pending) in Flagged (holding rows pending) word (next_of idle (holding rows pending) word met)
    by true e g = absurd (true≢false e)
    by false e g = narrow _ (any_turn idle rows pending word g)

-- where an option waits for its value
abbrev asking : List Row → Which → Held
asking rows o = holding rows (Some (name_of o, []))

abbrev waits : List Row → Which → Walk
waits rows o = at (asking rows o) (option (name_of o))

abbrev has_value : List Row → Which → Text → Walk
has_value rows o v = at (holding rows (Some (name_of o, v ∷ []))) idle

-- an option without a value is a fault
no_value : (o : Which) (rows : List Row) → settle_fault c false (asking rows o) ≡ [] → ⊥
no_value Limit rows e = cons_nil e
no_value Make rows e = cons_nil e

plain_value : (o : Which) (rows : List Row) (word : Text) → next_of (option (name_of o)) (asking rows o) word (plain_word c (option (name_of o)) word (asking rows o)) ≡ has_value rows o word
plain_value Limit rows word = refl
plain_value Make rows word = refl

waiting_turn : (o : Which) (rows : List Row) (word : Text) → bytes_eq word dashes ≡ false → turn_fault s [] (waits rows o) word ≡ [] → walked c [] (waits rows o) word ≡ has_value rows o word
unfolding walked
waiting_turn o rows word differs f = by (bytes_eq word dashes) differs f
  where
    narrow : (next : Walk) → Turned (option (name_of o)) (asking rows o) word next → next ≡ has_value rows o word
    narrow next (inl (p, inl a)) = absurd (no_value o rows (neither (settle_fault c false (asking rows o)) _ a.2).0)
    narrow next (inl (p, inr a)) = absurd (no_value o rows a.1)
    narrow next (inr p) = p.1 ∙ plain_value o rows word

    by : (b : Bool) → b ≡ false
        → or_else (if b then [] else flag_word_fault c false (long_of word) word (asking rows o)) (step_fault s 1 (if b then (asking rows o, trailing 1) else long_or_other c (option (name_of o)) word (long_of word) (asking rows o)).0 (if b then (asking rows o, trailing 1) else long_or_other c (option (name_of o)) word (long_of word) (asking rows o)).1) ≡ []
        → next_of (option (name_of o)) (asking rows o) word (if b then (asking rows o, trailing 1) else long_or_other c (option (name_of o)) word (long_of word) (asking rows o)) ≡ has_value rows o word
    by true e g = absurd (true≢false e)
    by false e g = narrow _ (any_turn (option (name_of o)) rows (Some (name_of o, [])) word g)

-- ---- what was read

-- an option with its value
abbrev pub Given : Type 0
Given = Which × Text

abbrev row : Given → Row
row g = record { id = name_of g.0; values = g.1 ∷ []; count = None; source = Some CommandLine; reading = reading_by (rule g.0) }

abbrev rows : List Given → List Row
rows read = map row read

-- the option wasn't read yet
abbrev IsNew : Which → List Given → Type 0
IsNew o read = has_row (name_of o) (rows read) ≡ false

-- a row of another id stays, and a new one stands at the end
new_row : (id : Text) (change : Row → List Row) (missing rs : List Row) → has_row id rs ≡ false → at_row id change missing rs ≡ rs ++ missing
new_row id change missing [] e = refl
new_row id change missing (r ∷ rs) e = by (new_row id change missing rs) (bytes_eq r.id id) e
  where
    by : (has_row id rs ≡ false → at_row id change missing rs ≡ rs ++ missing) → (b : Bool) → b || has_row id rs ≡ false → (if b then change r ++ rs else r ∷ at_row id change missing rs) ≡ r ∷ (rs ++ missing)
    by later true f = absurd (true≢false f)
    by later false f = ap (λ (l : List Row). r ∷ l) (later f)

rows_more : (read more : List Given) → rows (read ++ more) ≡ rows read ++ rows more
rows_more read more = map-append row read more

set_row : (id : Text) (change : Row → List Row) (new : List Row) (rs : List Row) → has_row id rs ≡ false → at_row id change new (without id rs) ≡ rs ++ new
set_row id change new rs e =
    let same : without id rs ≡ rs = new_row id (λ _. []) [] rs e ∙ append-nil rs in
    ap (λ (l : List Row). at_row id change new l) same ∙ new_row id change new rs e

used_new : (o : Which) (v : Text) (read : List Given) → IsNew o read → used (rule o) (v ∷ []) (rows read) ≡ rows (read ++ (o, v) ∷ [])
used_new Limit v read e = set_row (name_of Limit) (more_values CommandLine (v ∷ [])) (row (Limit, v) ∷ []) (rows read) e ∙ sym (rows_more read ((Limit, v) ∷ []))
used_new Make v read e = set_row (name_of Make) (more_values CommandLine (v ∷ [])) (row (Make, v) ∷ []) (rows read) e ∙ sym (rows_more read ((Make, v) ∷ []))

abbrev repeated : Bool → Kinds
repeated b = if b && true then kind.ArgumentConflict ∷ [] else []

-- no fault comes exactly where the option is new
use_new : (o : Which) (v : Text) (rs : List Row) → use_fault false (rule o) (v ∷ []) rs ≡ [] → has_row (name_of o) rs ≡ false
use_new Limit v rs e = by (has_row (name_of Limit) rs) e
  where
    by : (b : Bool) → or_else (repeated b) [] ≡ [] → b ≡ false
    by true f = absurd (cons_nil f)
    by false f = refl
use_new Make v rs e = by (has_row (name_of Make) rs) e
  where
    by : (b : Bool) → or_else (repeated b) [] ≡ [] → b ≡ false
    by true f = absurd (cons_nil f)
    by false f = refl

new_use : (o : Which) (v : Text) (rs : List Row) → has_row (name_of o) rs ≡ false → use_fault false (rule o) (v ∷ []) rs ≡ []
new_use Limit v rs e = rw e refl
new_use Make v rs e = rw e refl

-- ---- what is held, where a value may be pending

abbrev pending : Option Given → Option (Text × List Text)
pending None = None
pending (Some g) = Some (name_of g.0, g.1 ∷ [])

abbrev all : List Given → Option Given → List Given
all read None = read
all read (Some g) = read ++ g ∷ []

abbrev IsFresh : List Given → Option Given → Type 0
IsFresh read None = Unit {0}
IsFresh read (Some g) = IsNew g.0 read

abbrev held : List Given → Option Given → Held
held read p = holding (rows read) (pending p)

abbrev stands : List Given → Option Given → Walk
stands read p = at (held read p) idle

is_fresh : (read : List Given) (p : Option Given) → settle_fault c false (held read p) ≡ [] → IsFresh read p
is_fresh read None e = tt
is_fresh read (Some (Limit, v)) e = use_new Limit v (rows read) e
is_fresh read (Some (Make, v)) e = use_new Make v (rows read) e

settles : (read : List Given) (p : Option Given) → IsFresh read p → settle_fault c false (held read p) ≡ []
settles read None f = refl
settles read (Some (Limit, v)) f = new_use Limit v (rows read) f
settles read (Some (Make, v)) f = new_use Make v (rows read) f

settled_as : (read : List Given) (p : Option Given) → IsFresh read p → settled c (held read p) ≡ held (all read p) None
settled_as read None f = refl
settled_as read (Some (Limit, v)) f = ap (λ (rs : List Row). holding rs None) (used_new Limit v read f)
settled_as read (Some (Make, v)) f = ap (λ (rs : List Row). holding rs None) (used_new Make v read f)

is_new : (o : Which) (v : Text) (read : List Given) (p : Option Given) → react_fault c false (rule o) (v ∷ []) (held read p) ≡ [] → IsFresh read p × IsNew o (all read p)
is_new o v read p e =
    let both = neither (settle_fault c false (held read p)) (use_fault false (rule o) (v ∷ []) (settled c (held read p)).rows) e in
    let f = is_fresh read p both.0 in
    (f, use_new o v (rows (all read p)) (subst (λ (h : Held). use_fault false (rule o) (v ∷ []) h.rows ≡ []) (settled_as read p f) both.1))

reacts : (o : Which) (v : Text) (read : List Given) (p : Option Given) → IsFresh read p → IsNew o (all read p) → react_fault c false (rule o) (v ∷ []) (held read p) ≡ []
reacts o v read p f new =
    let here : use_fault false (rule o) (v ∷ []) (settled c (held read p)).rows ≡ [] =
    subst (λ (h : Held). use_fault false (rule o) (v ∷ []) h.rows ≡ []) (sym (settled_as read p f)) (new_use o v (rows (all read p)) new) in
    subst (λ (k : Kinds). or_else k (use_fault false (rule o) (v ∷ []) (settled c (held read p)).rows) ≡ []) (sym (settles read p f)) here

reacted_as : (o : Which) (v : Text) (read : List Given) (p : Option Given) → IsFresh read p → IsNew o (all read p) → at (reacted c (rule o) (v ∷ []) (held read p)) idle ≡ stands (all read p ++ (o, v) ∷ []) None
reacted_as o v read p f new =
    ap (λ (h : Held). at (holding (used (rule o) (v ∷ []) h.rows) None) idle) (settled_as read p f)
    ∙ ap (λ (rs : List Row). at (holding rs None) idle) (used_new o v (all read p) new)

asks_as : (o : Which) (read : List Given) (p : Option Given) → IsFresh read p → at (record (settled c (held read p)) { pending = Some (name_of o, []) }) (option (name_of o)) ≡ waits (rows (all read p)) o
asks_as o read p f = ap (λ (h : Held). at (record h { pending = Some (name_of o, []) }) (option (name_of o))) (settled_as read p f)

-- ---- words in which no fault comes

abbrev alone : Which → Text
alone o = codes "--" ++ name_of o

abbrev attached : Which → Text → Text
attached o v = codes "--" ++ name_of o ++ codes "=" ++ v

attached_is : (o : Which) (v : Text) → 45 ∷ 45 ∷ name_of o ++ 61 ∷ v ≡ attached o v
attached_is Limit v = refl
attached_is Make v = refl

-- the words of these options in turn, none of which was read before
abbrev AreParts : List Given → List Given → List Text → Type 0
AreParts read [] words = words ≡ []
AreParts read (g ∷ parts) words =
    (front : List Text) × (rest : List Text) × OptionWords (name_of g.0) (Some g.1) front × (words ≡ front ++ rest) × IsNew g.0 read × AreParts (read ++ g ∷ []) parts rest

abbrev rows_after : Walk → List Text → List Row
rows_after w words = (settled c (fold (walked c []) w words).held).rows

no_dashes : (word : Text) (rest : List Text) → has_dashes (word ∷ rest) ≡ false → (bytes_eq word dashes ≡ false) × (has_dashes rest ≡ false)
no_dashes word rest e = by (bytes_eq word dashes) e
  where
    by : (b : Bool) → b || has_dashes rest ≡ false → (b ≡ false) × (has_dashes rest ≡ false)
    by true f = absurd (true≢false f)
    by false f = (refl, f)

abbrev Found : List Given → Option Given → List Text → Type 0
Found read p words = (parts : List Given) × IsFresh read p × AreParts (all read p) parts words × (rows_after (stands read p) words ≡ rows (all read p ++ parts))

abbrev Asked : List Given → Which → List Text → Type 0
Asked read o words =
    (v : Text) × (rest : List Text) × (words ≡ v ∷ rest) × (parts : List Given) × IsNew o read × AreParts (read ++ (o, v) ∷ []) parts rest × (rows_after (waits (rows read) o) words ≡ rows ((read ++ (o, v) ∷ []) ++ parts))

found_attached : (o : Which) (read : List Given) (p : Option Given) (word : Text) (rest : List Text) (a : Attached o (held read p) word (walked c [] (stands read p) word))
    → Found (all read p ++ (o, a.0) ∷ []) None rest → Found read p (word ∷ rest)
found_attached o read p word rest a later =
    let new = is_new o a.0 read p a.2 in
    let next_is : walked c [] (stands read p) word ≡ stands (all read p ++ (o, a.0) ∷ []) None = a.3 ∙ reacted_as o a.0 read p new.0 new.1 in (
      (o, a.0) ∷ later.0,
      new.0,
      (word ∷ [], rest, inr (ap (λ (t : Text). t ∷ []) (a.1 ∙ attached_is o a.0)), refl, new.1, later.2),
      ap (λ (w : Walk). rows_after w rest) next_is ∙ later.3 ∙ ap rows (append_assoc (all read p) ((o, a.0) ∷ []) later.0),
    )

found_alone : (o : Which) (read : List Given) (p : Option Given) (word : Text) (rest : List Text) (a : Alone o (held read p) word (walked c [] (stands read p) word))
    → Asked (all read p) o rest → Found read p (word ∷ rest)
found_alone o read p word rest a later =
    let f = is_fresh read p a.1 in
    let next_is : walked c [] (stands read p) word ≡ waits (rows (all read p)) o = a.2 ∙ asks_as o read p f in (
      (o, later.0) ∷ later.3,
      f,
      (word ∷ later.0 ∷ [], later.1, inl (ap (λ (t : Text). t ∷ later.0 ∷ []) a.0), ap (λ (l : List Text). word ∷ l) later.2, later.4, later.5),
      ap (λ (w : Walk). rows_after w rest) next_is ∙ later.6 ∙ ap rows (append_assoc (all read p) ((o, later.0) ∷ []) later.3),
    )

next_attached : (o : Which) (read : List Given) (p : Option Given) (word : Text) (rest : List Text) (a : Attached o (held read p) word (walked c [] (stands read p) word))
    → Ends (walked c [] (stands read p) word) rest → Ends (stands (all read p ++ (o, a.0) ∷ []) None) rest
next_attached o read p word rest a e =
    let new = is_new o a.0 read p a.2 in
    subst (λ (w : Walk). Ends w rest) (a.3 ∙ reacted_as o a.0 read p new.0 new.1) e

next_alone : (o : Which) (read : List Given) (p : Option Given) (word : Text) (rest : List Text) (a : Alone o (held read p) word (walked c [] (stands read p) word))
    → Ends (walked c [] (stands read p) word) rest → Ends (waits (rows (all read p)) o) rest
next_alone o read p word rest a e = subst (λ (w : Walk). Ends w rest) (a.2 ∙ asks_as o read p (is_fresh read p a.1)) e

mutual
  reads : (words : List Text) (read : List Given) (p : Option Given) → has_dashes words ≡ false → Ends (stands read p) words → Found read p words
  reads [] read p n e =
      let f = is_fresh read p e.1 in
      ([], f, refl, ap (λ (h : Held). h.rows) (settled_as read p f) ∙ ap rows (sym (append-nil (all read p))))
  reads (word ∷ rest) read p n e =
      let more = ends_more (stands read p) word rest e in
      let plain_words = no_dashes word rest n in
      let turn = idle_turn (rows read) (pending p) word plain_words.0 more.0 in
      ⊎_elim
      (λ a. found_attached turn.0 read p word rest a (reads rest (all read p ++ (turn.0, a.0) ∷ []) None plain_words.1 (next_attached turn.0 read p word rest a more.1)))
      (λ a. found_alone turn.0 read p word rest a (asked rest (all read p) turn.0 plain_words.1 (next_alone turn.0 read p word rest a more.1)))
      turn.1

  asked : (words : List Text) (read : List Given) (o : Which) → has_dashes words ≡ false → Ends (waits (rows read) o) words → Asked read o words
  asked [] read o n e = absurd (no_value o (rows read) e.1)
  asked (word ∷ rest) read o n e =
      let more = ends_more (waits (rows read) o) word rest e in
      let plain_words = no_dashes word rest n in
      let next_is = waiting_turn o (rows read) word plain_words.0 more.0 in
      let later = reads rest read (Some (o, word)) plain_words.1 (subst (λ (w : Walk). Ends w rest) next_is more.1) in
      (word, rest, refl, later.0, later.1, later.2, ap (λ (w : Walk). rows_after w rest) next_is ∙ later.3)

-- ---- and in such words no fault comes

abbrev pub IsPlainValue : Text → Type 0
IsPlainValue v = (bytes_eq v dashes ≡ false) × (long_of v ≡ None) × (short_of v ≡ None)

abbrev ArePlain : List Given → Type 0
ArePlain [] = Unit {0}
ArePlain (g ∷ gs) = IsPlainValue g.1 × ArePlain gs

attached_turn : (o : Which) (v : Text) (rs : List Row) (p : Option (Text × List Text)) →
    (turn_fault s [] (at (holding rs p) idle) (attached o v) ≡ or_else (react_fault c false (rule o) (v ∷ []) (holding rs p)) [])
    × (walked c [] (at (holding rs p) idle) (attached o v) ≡ at (reacted c (rule o) (v ∷ []) (holding rs p)) idle)
unfolding clap_on_literals
attached_turn Limit v rs p = (refl, refl)
attached_turn Make v rs p = (refl, refl)

alone_turn : (o : Which) (rs : List Row) (p : Option (Text × List Text)) →
    (turn_fault s [] (at (holding rs p) idle) (alone o) ≡ or_else (settle_fault c false (holding rs p)) [])
    × (walked c [] (at (holding rs p) idle) (alone o) ≡ at (record (settled c (holding rs p)) { pending = Some (name_of o, []) }) (option (name_of o)))
unfolding clap_on_literals
alone_turn Limit rs p = (refl, refl)
alone_turn Make rs p = (refl, refl)

abbrev taken : List Row → Which → Text → Held × Step
taken rs o v = (holding rs (Some (name_of o, v ∷ [])), proceed idle)

fine_from : (rs : List Row) (o : Which) (v : Text) (faults : Kinds) (met : Held × Step) → faults ≡ [] → met ≡ taken rs o v → Fine faults met × (next_of (option (name_of o)) (asking rs o) v met ≡ has_value rs o v)
fine_from rs o v faults met none is =
    subst (λ (m : Held × Step). Fine faults m × (next_of (option (name_of o)) (asking rs o) v m ≡ has_value rs o v)) (sym is)
    (subst (λ (k : Kinds). Fine k (taken rs o v) × (next_of (option (name_of o)) (asking rs o) v (taken rs o v) ≡ has_value rs o v)) (sym none) (refl, refl))

plain_taken : (rs : List Row) (o : Which) (v : Text) → plain_word c (option (name_of o)) v (asking rs o) ≡ taken rs o v
plain_taken rs Limit v = refl
plain_taken rs Make v = refl

value_turn : (o : Which) (rs : List Row) (v : Text) → IsPlainValue v → (turn_fault s [] (waits rs o) v ≡ []) × (walked c [] (waits rs o) v ≡ has_value rs o v)
unfolding walked
value_turn o rs v p = by_dashes (bytes_eq v dashes) p.0
  where
    by_short : (f : Option Text) → f ≡ None → (option_map_or (λ f. bundle_fault c false f (asking rs o)) f [] ≡ []) × (short_or_plain c (option (name_of o)) v f (asking rs o) ≡ taken rs o v)
    by_short None e = (refl, plain_taken rs o v)
    by_short (Some f) e = absurd (none_some (sym e))

    by_long : (l : Option (Text × Option Text)) → l ≡ None → (flag_word_fault c false l v (asking rs o) ≡ []) × (long_or_other c (option (name_of o)) v l (asking rs o) ≡ taken rs o v)
    by_long None e = by_short (short_of v) p.2
    by_long (Some l) e = absurd (none_some (sym e))

    by_dashes : (b : Bool) → b ≡ false → Fine (if b then [] else flag_word_fault c false (long_of v) v (asking rs o)) (if b then (asking rs o, trailing 1) else long_or_other c (option (name_of o)) v (long_of v) (asking rs o)) × (next_of (option (name_of o)) (asking rs o) v (if b then (asking rs o, trailing 1) else long_or_other c (option (name_of o)) v (long_of v) (asking rs o)) ≡ has_value rs o v)
    by_dashes true e = absurd (true≢false e)
    by_dashes false e = let both = by_long (long_of v) p.1 in fine_from rs o v _ _ both.0 both.1

-- no fault comes, and these rows are left
abbrev Final : Walk → List Text → List Row → Type 0
Final w words rs = Ends w words × (rows_after w words ≡ rs)

final_more : (w next : Walk) (word : Text) (rest : List Text) (rs : List Row) → turn_fault s [] w word ≡ [] → walked c [] w word ≡ next → Final next rest rs → Final w (word ∷ rest) rs
unfolding walk_fault
final_more w next word rest rs none is f =
    let g : Final (walked c [] w word) rest rs = subst (λ (v : Walk). Final v rest rs) (sym is) f in
    ((subst (λ (k : Kinds). or_else k (walk_fault s [] (walked c [] w word) rest) ≡ []) (sym none) g.0.0, g.0.1), g.1)

final_none : (read : List Given) (p : Option Given) → IsFresh read p → Final (stands read p) [] (rows (all read p ++ []))
unfolding walk_fault
final_none read p f = ((refl, settles read p f), ap (λ (h : Held). h.rows) (settled_as read p f) ∙ ap rows (sym (append-nil (all read p))))

or_nothing : (ks : Kinds) → ks ≡ [] → or_else ks [] ≡ []
or_nothing ks e = rw e refl

final_attached : (o : Which) (v : Text) (rest : List Text) (read parts : List Given) (p : Option Given) → IsFresh read p → IsNew o (all read p)
    → Final (stands (all read p ++ (o, v) ∷ []) None) rest (rows ((all read p ++ (o, v) ∷ []) ++ parts)) → Final (stands read p) (attached o v ∷ rest) (rows (all read p ++ (o, v) ∷ parts))
final_attached o v rest read parts p f new later =
    let turn = attached_turn o v (rows read) (pending p) in
    let same : (all read p ++ (o, v) ∷ []) ++ parts ≡ all read p ++ (o, v) ∷ parts = append_assoc (all read p) ((o, v) ∷ []) parts in
    final_more (stands read p) (stands (all read p ++ (o, v) ∷ []) None) (attached o v) rest (rows (all read p ++ (o, v) ∷ parts))
    (turn.0 ∙ or_nothing _ (reacts o v read p f new)) (turn.1 ∙ reacted_as o v read p f new)
    (subst (λ (gs : List Given). Final (stands (all read p ++ (o, v) ∷ []) None) rest (rows gs)) same later)

final_alone : (o : Which) (v : Text) (rest : List Text) (read parts : List Given) (p : Option Given) → IsFresh read p → IsPlainValue v
    → Final (stands (all read p) (Some (o, v))) rest (rows ((all read p ++ (o, v) ∷ []) ++ parts)) → Final (stands read p) (alone o ∷ v ∷ rest) (rows (all read p ++ (o, v) ∷ parts))
final_alone o v rest read parts p f q later =
    let turn = alone_turn o (rows read) (pending p) in
    let value = value_turn o (rows (all read p)) v q in
    let same : (all read p ++ (o, v) ∷ []) ++ parts ≡ all read p ++ (o, v) ∷ parts = append_assoc (all read p) ((o, v) ∷ []) parts in
    final_more (stands read p) (waits (rows (all read p)) o) (alone o) (v ∷ rest) (rows (all read p ++ (o, v) ∷ parts))
    (turn.0 ∙ or_nothing _ (settles read p f)) (turn.1 ∙ asks_as o read p f)
    (final_more (waits (rows (all read p)) o) (stands (all read p) (Some (o, v))) v rest (rows (all read p ++ (o, v) ∷ parts)) value.0 value.1
    (subst (λ (gs : List Given). Final (stands (all read p) (Some (o, v))) rest (rows gs)) same later))

passes : (parts : List Given) (words : List Text) (read : List Given) (p : Option Given) → IsFresh read p → ArePlain parts → AreParts (all read p) parts words → Final (stands read p) words (rows (all read p ++ parts))
passes [] words read p f q a = subst (λ (ws : List Text). Final (stands read p) ws (rows (all read p ++ []))) (sym a) (final_none read p f)
passes ((o, v) ∷ parts) words read p f q a =
    subst (λ (ws : List Text). Final (stands read p) ws (rows (all read p ++ (o, v) ∷ parts))) (sym a.3)
    (⊎_elim
    (λ alone_form. subst (λ (front : List Text). Final (stands read p) (front ++ a.1) (rows (all read p ++ (o, v) ∷ parts))) (sym alone_form)
    (final_alone o v a.1 read parts p f q.0 (passes parts a.1 (all read p) (Some (o, v)) a.4 q.1 a.5)))
    (λ attached_form. subst (λ (front : List Text). Final (stands read p) (front ++ a.1) (rows (all read p ++ (o, v) ∷ parts))) (sym attached_form)
    (final_attached o v a.1 read parts p f a.4 (passes parts a.1 (all read p ++ (o, v) ∷ []) None tt q.1 a.5)))
    a.2)

-- ---- the parse

no_default : (o : Which) (rs : List Row) → (with_default rs (rule o) ≡ rs) × (default_fault rs (rule o) ≡ [])
no_default o rs = by (has_row (name_of o) rs)
  where
    by : (b : Bool) → ((if b then rs else rs) ≡ rs) × ((if b || true then [] else given_default_fault (rule o) []) ≡ [])
    by true = (refl, refl)
    by false = (refl, refl)

no_defaults : (rs : List Row) → (fold with_default rs c ≡ rs) × (defaults_fault rs c ≡ [])
unfolding defaults_fault
no_defaults rs =
    let limit = no_default Limit rs in
    let make = no_default Make rs in (
      ap (λ (l : List Row). with_default l (rule Make)) limit.0 ∙ make.0,
      rw (limit.1, limit.0, make.1) refl,
    )

-- where no fault comes, the words are those of the two options
of_parts : (parts : List Given) (words : List Text) → AreParts [] parts words → BothOptions words (first_of (codes "limit") (rows parts)) (first_of (codes "make") (rows parts))
of_parts [] words a = record { limit_words = []; size_words = []; limit_are = refl; size_are = refl; order = inl a }
of_parts ((Limit, v) ∷ []) words a = record { limit_words = a.0; size_words = []; limit_are = a.2; size_are = refl; order = inl (a.3 ∙ ap (λ (l : List Text). a.0 ++ l) a.5) }
of_parts ((Make, v) ∷ []) words a = record { limit_words = []; size_words = a.0; limit_are = refl; size_are = a.2; order = inr (a.3 ∙ ap (λ (l : List Text). a.0 ++ l) a.5) }
of_parts ((Limit, v) ∷ (Make, w) ∷ []) words a = record {
  limit_words = a.0;
  size_words = a.5.0;
  limit_are = a.2;
  size_are = a.5.2;
  order = inl (a.3 ∙ ap (λ (l : List Text). a.0 ++ l) (a.5.3 ∙ ap (λ (l : List Text). a.5.0 ++ l) a.5.5 ∙ append-nil a.5.0));
}
of_parts ((Make, v) ∷ (Limit, w) ∷ []) words a = record {
  limit_words = a.5.0;
  size_words = a.0;
  limit_are = a.5.2;
  size_are = a.2;
  order = inr (a.3 ∙ ap (λ (l : List Text). a.0 ++ l) (a.5.3 ∙ ap (λ (l : List Text). a.5.0 ++ l) a.5.5 ∙ append-nil a.5.0));
}
of_parts ((Limit, v) ∷ (Limit, w) ∷ more) words a = absurd (true≢false a.5.4)
of_parts ((Make, v) ∷ (Make, w) ∷ more) words a = absurd (true≢false a.5.4)
of_parts ((Limit, v) ∷ (Make, w) ∷ (Limit, x) ∷ more) words a = absurd (true≢false a.5.5.4)
of_parts ((Limit, v) ∷ (Make, w) ∷ (Make, x) ∷ more) words a = absurd (true≢false a.5.5.4)
of_parts ((Make, v) ∷ (Limit, w) ∷ (Limit, x) ∷ more) words a = absurd (true≢false a.5.5.4)
of_parts ((Make, v) ∷ (Limit, w) ∷ (Make, x) ∷ more) words a = absurd (true≢false a.5.5.4)

abbrev end_fault : Walk → Kinds
end_fault w = or_else (settle_fault c false w.held) (or_else (defaults_fault (settled c w.held).rows c) (check_fault s (finished c w.held) false))

-- the matches, by what is read
abbrev pub value_of : Which → List Text → Option Text
value_of o words = first_of (name_of o) (matches_of dedale words)

matches_are : (words : List Text) → matches_of dedale words ≡ rows_after start words
matches_are words = (no_defaults (rows_after start words)).0

pub words_read : (words : List Text) → has_dashes words ≡ false → fault_of dedale words ≡ [] → BothOptions words (value_of Limit words) (value_of Make words)
words_read words n e =
    let level = sym (leaf_fault (built dedale) nothing_held words refl) ∙ e in
    let walk = neither (walk_fault s [] start words) (end_fault (fold (walked c []) start words)) level in
    let found = reads words [] None n (walk.0, (neither (settle_fault c false (fold (walked c []) start words).held) _ walk.1).0) in
    subst (λ (rs : List Row). BothOptions words (first_of (name_of Limit) rs) (first_of (name_of Make) rs)) (sym (matches_are words ∙ found.3)) (of_parts found.0 words found.2)

-- and in words of the two options no fault comes, and they are read so
abbrev given : Which → Option Text → List Given
given o None = []
given o (Some v) = (o, v) ∷ []

abbrev pub IsPlainOption : Option Text → Type 0
IsPlainOption None = Unit {0}
IsPlainOption (Some v) = IsPlainValue v

part_first : (o : Which) (t : Option Text) (front rest : List Text) (read parts : List Given) → OptionWords (name_of o) t front → IsNew o read → AreParts (read ++ given o t) parts rest → AreParts read (given o t ++ parts) (front ++ rest)
part_first o None front rest read parts is new a =
    subst (λ (ws : List Text). AreParts read parts (ws ++ rest)) (sym is) (subst (λ (gs : List Given). AreParts gs parts rest) (append-nil read) a)
part_first o (Some v) front rest read parts is new a = (front, rest, is, refl, new, a)

part_last : (o : Which) (t : Option Text) (words : List Text) (read : List Given) → OptionWords (name_of o) t words → IsNew o read → AreParts read (given o t) words
part_last o None words read is new = is
part_last o (Some v) words read is new = (words, [], is, sym (append-nil words), new, refl)

other_new : (o p : Which) (t : Option Text) → o ≢ p → IsNew o (given p t)
other_new o p None differs = refl
other_new Limit Make (Some v) differs = refl
other_new Make Limit (Some v) differs = refl
other_new Limit Limit (Some v) differs = absurd (differs refl)
other_new Make Make (Some v) differs = absurd (differs refl)

abbrev IsPassed : List Text → Option Text → Option Text → Type 0
IsPassed words limit size = (fault_of dedale words ≡ []) × (value_of Limit words ≡ limit) × (value_of Make words ≡ size)

parts_pass : (parts : List Given) (words : List Text) → ArePlain parts → AreParts [] parts words → IsPassed words (first_of (name_of Limit) (rows parts)) (first_of (name_of Make) (rows parts))
parts_pass parts words q a =
    let end = passes parts words [] None tt q a in
    let w = fold (walked c []) start words in
    let at_end : end_fault w ≡ [] = rw (end.0.1, (no_defaults (settled c w.held).rows).1) refl in
    let level : or_else (walk_fault s [] start words) (end_fault w) ≡ [] = subst (λ (k : Kinds). or_else k (end_fault w) ≡ []) (sym end.0.0) at_end in
    let read : matches_of dedale words ≡ rows parts = matches_are words ∙ end.1 in
    (leaf_fault (built dedale) nothing_held words refl ∙ level, ap (first_of (name_of Limit)) read, ap (first_of (name_of Make)) read)

limit_first : (limit size : Option Text) (words : List Text) → IsPlainOption limit → IsPlainOption size → AreParts [] (given Limit limit ++ given Make size) words → IsPassed words limit size
limit_first None None words p q a = parts_pass [] words tt a
limit_first (Some v) None words p q a = parts_pass ((Limit, v) ∷ []) words (p, tt) a
limit_first None (Some v) words p q a = parts_pass ((Make, v) ∷ []) words (q, tt) a
limit_first (Some v) (Some w) words p q a = parts_pass ((Limit, v) ∷ (Make, w) ∷ []) words (p, (q, tt)) a

size_first : (limit size : Option Text) (words : List Text) → IsPlainOption limit → IsPlainOption size → AreParts [] (given Make size ++ given Limit limit) words → IsPassed words limit size
size_first None None words p q a = parts_pass [] words tt a
size_first (Some v) None words p q a = parts_pass ((Limit, v) ∷ []) words (p, tt) a
size_first None (Some v) words p q a = parts_pass ((Make, v) ∷ []) words (q, tt) a
size_first (Some v) (Some w) words p q a = parts_pass ((Make, w) ∷ (Limit, v) ∷ []) words (q, (p, tt)) a

make≢limit : Make ≢ Limit
make≢limit e = cc

limit≢make : Limit ≢ Make
limit≢make e = cc

pub both_pass : (words : List Text) (limit size : Option Text) → BothOptions words limit size → IsPlainOption limit → IsPlainOption size → IsPassed words limit size
both_pass words limit size b p q = ⊎_elim
    (λ is. subst (λ (ws : List Text). IsPassed ws limit size) (sym is)
    (limit_first limit size (b.limit_words ++ b.size_words) p q
    (part_first Limit limit b.limit_words b.size_words [] (given Make size) b.limit_are refl (part_last Make size b.size_words (given Limit limit) b.size_are (other_new Make Limit limit make≢limit)))))
    (λ is. subst (λ (ws : List Text). IsPassed ws limit size) (sym is)
    (size_first limit size (b.size_words ++ b.limit_words) p q
    (part_first Make size b.size_words b.limit_words [] (given Limit limit) b.size_are refl (part_last Limit limit b.limit_words (given Make size) b.limit_are (other_new Limit Make size limit≢make)))))
    b.order

-- none of these words is `--`
dashes_both : (xs ys : List Text) → has_dashes xs ≡ false → has_dashes ys ≡ false → has_dashes (xs ++ ys) ≡ false
dashes_both [] ys p q = q
dashes_both (x ∷ xs) ys p q =
    let first = no_dashes x xs p in
    rw (first.0, dashes_both xs ys first.1 q) refl

option_no_dashes : (o : Which) (t : Option Text) (words : List Text) → IsPlainOption t → OptionWords (name_of o) t words → has_dashes words ≡ false
option_no_dashes o None words p is = subst (λ (ws : List Text). has_dashes ws ≡ false) (sym is) refl
option_no_dashes Limit (Some v) words p (inl is) = subst (λ (ws : List Text). has_dashes ws ≡ false) (sym is) (rw p.0 refl)
option_no_dashes Make (Some v) words p (inl is) = subst (λ (ws : List Text). has_dashes ws ≡ false) (sym is) (rw p.0 refl)
option_no_dashes Limit (Some v) words p (inr is) = subst (λ (ws : List Text). has_dashes ws ≡ false) (sym is) refl
option_no_dashes Make (Some v) words p (inr is) = subst (λ (ws : List Text). has_dashes ws ≡ false) (sym is) refl

pub both_no_dashes : (words : List Text) (limit size : Option Text) → BothOptions words limit size → IsPlainOption limit → IsPlainOption size → has_dashes words ≡ false
both_no_dashes words limit size b p q =
    let limit_none = option_no_dashes Limit limit b.limit_words p b.limit_are in
    let size_none = option_no_dashes Make size b.size_words q b.size_are in
    ⊎_elim
    (λ is. subst (λ (ws : List Text). has_dashes ws ≡ false) (sym is) (dashes_both b.limit_words b.size_words limit_none size_none))
    (λ is. subst (λ (ws : List Text). has_dashes ws ≡ false) (sym is) (dashes_both b.size_words b.limit_words size_none limit_none))
    b.order

pub no_dash_first : (d : ℕ) (ds : Text) → d ≢ 45 → IsPlainValue (d ∷ ds)
no_dash_first d ds differs = let e : (d == 45) ≡ false = ne_eqb d 45 differs in (rw e refl, rw e refl, rw e refl)

-- what a parse that is done says
pub no_fault : (a : App) (words : List Text) → a ≡ dedale → (is_simple_and_free a ≡ true → fault_of a words ≡ []) → fault_of dedale words ≡ []
no_fault a words is fine = subst (λ (b : App). is_simple_and_free b ≡ true → fault_of b words ≡ []) is fine refl

pub reads_value : (o : Which) (a : App) (words : List Text) (m : ArgMatches) (text : Option Text) → a ≡ dedale → HasMatchesOf a words m → text ≡ first_value (found_of m) (name_of o) → text ≡ value_of o words
reads_value o a words m text is matches reads =
    let rows : rows_of (found_of m) ≡ matches_of dedale words = (subst (λ (b : App). HasMatchesOf b words m) is matches refl).0 in
    reads ∙ first_value-rows (found_of m) (name_of o) ∙ ap (λ (rs : List Row). first_of (name_of o) rs) rows
