-- The machine sees whether bytes are blank.
use Rattle.std.proofs.Common.{◌≡◌, ◌≢◌, ◌⊎◌, ℕ, List, [], ◌∷◌, ◌++◌, refl, sym, ap, ◌∙◌, subst, append_assoc, inl, inr, ⊎_elim, Bool, true, false, arith}
use Rattle.std.specs.Prelude.{Option, Some, None, ◌&&◌, flat_map}
use Rattle.std.proofs.lemmas.List.{append-nil}
use Rattle.std.proofs.lemmas.Bool.Decides.{nat_tests}
use Rattle.ded_lex.specs.declared.state.State.{State}
use Rattle.ded_lex.specs.declared.state.State.TheVariants.{Plain as PlainState, Dash as DashState, Quote, Comment as CommentState}
use Rattle.ded_lex.specs.Gaps.{blank_byte, Gap, Space, Comment, OpenComment, gap_bytes, IsLine, AreGaps, IsBlank}
use Rattle.ded_lex.specs.Machine.{turned, walked, stays_blank, ends_blank, all_stay_blank}
use Rattle.ded_lex.proofs.Finds.{other_comment}
use Rattle.ded_lex.proofs.Cases.{tested, same_or, same_some, none_some}
use Rattle.std.proofs.Math.Bool.{and-true}

-- the bytes are blank up to their end, from this state on
abbrev blank_from : State → List ℕ → Bool
blank_from s [] = ends_blank s
blank_from s (b ∷ bs) = elim (turned s b) as (λ _. Bool) [ None ↦ false | Some t ↦ stays_blank s b && blank_from t bs ]

-- One step of it.
staying : (s t : State) (b : ℕ) (bs : List ℕ) → turned s b ≡ Some t → stays_blank s b ≡ true → blank_from s (b ∷ bs) ≡ blank_from t bs
staying s t b bs turns stays =
    ap (λ (o : Option State). elim o as (λ _. Bool) [ None ↦ false | Some u ↦ stays_blank s b && blank_from u bs ]) turns
    ∙ ap (λ (x : Bool). x && blank_from t bs) stays

leaving : (s : State) (b : ℕ) (bs : List ℕ) → stays_blank s b ≡ false → blank_from s (b ∷ bs) ≡ false
leaving s b bs leaves = by_turn (turned s b)
  where
    by_turn : (o : Option State) → (elim o as (λ _. Bool) [ None ↦ false | Some u ↦ stays_blank s b && blank_from u bs ]) ≡ false
    by_turn None = refl
    by_turn (Some u) = ap (λ (x : Bool). x && blank_from u bs) leaves

false_true : {x : Bool} → x ≡ false → x ≡ true → ⊥
false_true f t = cc

-- Blanks and comments in front of what is blank.
space_first : (b : ℕ) (bs : List ℕ) → blank_byte b ≡ true → IsBlank bs → IsBlank (b ∷ bs)
space_first b bs h w = record { gaps = Space b ∷ w.gaps; is = ap (λ (l : List ℕ). b ∷ l) w.is; each = (h, w.each) }

-- in a comment: its line feed comes and then what is blank, or it doesn't come
abbrev InComment : List ℕ → Type 0
InComment bs = ((body : List ℕ) × (rest : List ℕ) × (bs ≡ body ++ 10 ∷ rest) × IsLine body × IsBlank rest) ⊎ IsLine bs

comment_first : (bs : List ℕ) → InComment bs → IsBlank (45 ∷ 45 ∷ bs)
comment_first bs (inr line) = record { gaps = OpenComment bs ∷ []; is = ap (λ (l : List ℕ). 45 ∷ 45 ∷ l) (append-nil bs); each = ((line, refl), tt) }
comment_first bs (inl c) =
    let w = c.4 in
    record {
      gaps = Comment c.0 ∷ w.gaps;
      is = ap (λ (l : List ℕ). 45 ∷ 45 ∷ l) (append_assoc c.0 (10 ∷ []) (flat_map gap_bytes w.gaps) ∙ ap (λ (l : List ℕ). c.0 ++ 10 ∷ l) w.is ∙ sym c.2);
      each = (c.3, w.each);
    }

comment_on : (b : ℕ) (bs : List ℕ) → b ≢ 10 → InComment bs → InComment (b ∷ bs)
comment_on b bs ne (inr line) = inr (ne, line)
comment_on b bs ne (inl c) = inl (b ∷ c.0, c.1, ap (λ (l : List ℕ). b ∷ l) c.2, (ne, c.3), c.4)

plain_blank : (b : ℕ) → blank_byte b ≡ true → turned PlainState b ≡ Some PlainState
plain_blank b h = grind (arith, nat_tests)

stays_space : (b : ℕ) → blank_byte b ≡ true → stays_blank PlainState b ≡ true
stays_space b h = grind (arith, nat_tests)

leaves_plain : (b : ℕ) → blank_byte b ≡ false → b ≢ 45 → stays_blank PlainState b ≡ false
leaves_plain b h ne = grind (arith, nat_tests)

leaves_dash : (b : ℕ) → b ≢ 45 → stays_blank DashState b ≡ false
leaves_dash b ne = grind (arith, nat_tests)

-- what is left of blank bytes in each state
abbrev BlankFrom : State → List ℕ → Type 0
BlankFrom PlainState bs = IsBlank bs
BlankFrom DashState bs = IsBlank (45 ∷ bs)
BlankFrom Quote bs = ⊥
BlankFrom CommentState bs = InComment bs

is_blank_from : (s : State) (bs : List ℕ) → blank_from s bs ≡ true → BlankFrom s bs
is_blank_from PlainState [] h = record { gaps = []; is = refl; each = tt }
is_blank_from DashState [] h = absurd (false_true refl h)
is_blank_from Quote [] h = absurd (false_true refl h)
is_blank_from CommentState [] h = inr tt
is_blank_from PlainState (b ∷ bs) h =
    ⊎_elim
    (λ (e : b ≡ 45). subst (λ (x : ℕ). IsBlank (x ∷ bs)) (sym e) (is_blank_from DashState bs (subst (λ (x : ℕ). blank_from PlainState (x ∷ bs) ≡ true) e h)))
    (λ (ne : b ≢ 45). ⊎_elim
    (λ (t : blank_byte b ≡ true). space_first b bs t (is_blank_from PlainState bs (sym (staying PlainState PlainState b bs (plain_blank b t) (stays_space b t)) ∙ h)))
    (λ (f : blank_byte b ≡ false). absurd (false_true (leaving PlainState b bs (leaves_plain b f ne)) h))
    (tested (blank_byte b)))
    (same_or b 45)
is_blank_from DashState (b ∷ bs) h =
    ⊎_elim
    (λ (e : b ≡ 45). subst (λ (x : ℕ). IsBlank (45 ∷ x ∷ bs)) (sym e) (comment_first bs (is_blank_from CommentState bs (subst (λ (x : ℕ). blank_from DashState (x ∷ bs) ≡ true) e h))))
    (λ (ne : b ≢ 45). absurd (false_true (leaving DashState b bs (leaves_dash b ne)) h))
    (same_or b 45)
is_blank_from Quote (b ∷ bs) h = absurd (false_true (leaving Quote b bs refl) h)
is_blank_from CommentState (b ∷ bs) h =
    ⊎_elim
    (λ (e : b ≡ 10). inl ([], bs, ap (λ (x : ℕ). x ∷ bs) e, tt, is_blank_from PlainState bs (subst (λ (x : ℕ). blank_from CommentState (x ∷ bs) ≡ true) e h)))
    (λ (ne : b ≢ 10). comment_on b bs ne (is_blank_from CommentState bs (sym (staying CommentState CommentState b bs (other_comment b ne) refl) ∙ h)))
    (same_or b 10)

-- and blank bytes are seen
comment_passes : (body xs : List ℕ) → IsLine body → blank_from CommentState (body ++ 10 ∷ xs) ≡ blank_from PlainState xs
comment_passes [] xs line = refl
comment_passes (b ∷ body) xs line = staying CommentState CommentState b (body ++ 10 ∷ xs) (other_comment b line.0) refl ∙ comment_passes body xs line.1

comment_ends : (body : List ℕ) → IsLine body → blank_from CommentState body ≡ true
comment_ends [] line = refl
comment_ends (b ∷ body) line = staying CommentState CommentState b body (other_comment b line.0) refl ∙ comment_ends body line.1

gaps_blank : (gaps : List Gap) → AreGaps gaps → blank_from PlainState (flat_map gap_bytes gaps) ≡ true
gaps_blank [] each = refl
gaps_blank (Space b ∷ gaps) each = staying PlainState PlainState b (flat_map gap_bytes gaps) (plain_blank b each.0) (stays_space b each.0) ∙ gaps_blank gaps each.1
gaps_blank (Comment body ∷ gaps) each =
    ap (λ (l : List ℕ). blank_from CommentState l) (append_assoc body (10 ∷ []) (flat_map gap_bytes gaps))
    ∙ comment_passes body (flat_map gap_bytes gaps) each.0 ∙ gaps_blank gaps each.1
gaps_blank (OpenComment body ∷ gaps) each =
    ap (λ (l : List ℕ). blank_from CommentState (body ++ l)) each.0.1
    ∙ ap (λ (l : List ℕ). blank_from CommentState l) (append-nil body) ∙ comment_ends body each.0.0

blank_seen : (bs : List ℕ) → IsBlank bs → blank_from PlainState bs ≡ true
blank_seen bs w = subst (λ (l : List ℕ). blank_from PlainState l ≡ true) w.is (gaps_blank w.gaps w.each)

pub blank_or : (bs : List ℕ) → IsBlank bs ⊎ (IsBlank bs → ⊥)
blank_or bs = ⊎_elim (λ (t : blank_from PlainState bs ≡ true). inl (is_blank_from PlainState bs t)) (λ (f : blank_from PlainState bs ≡ false). inr (λ w. false_true f (blank_seen bs w))) (tested (blank_from PlainState bs))

-- The same byte by byte.
and_assoc : (x y z : Bool) → (x && (y && z)) ≡ ((x && y) && z)
and_assoc true y z = refl
and_assoc false y z = refl

blank_walked : (s t : State) (bs : List ℕ) → walked s bs ≡ Some t → blank_from s bs ≡ (all_stay_blank s bs && ends_blank t)
blank_walked s t [] h = ap ends_blank (same_some h)
blank_walked s t (b ∷ bs) h = by_turn (turned s b) h (λ u. blank_walked u t bs)
  where
    by_turn : (o : Option State) → (elim o as (λ _. Option State) [ None ↦ None | Some u ↦ walked u bs ]) ≡ Some t → ((u : State) → walked u bs ≡ Some t → blank_from u bs ≡ (all_stay_blank u bs && ends_blank t)) → (elim o as (λ _. Bool) [ None ↦ false | Some u ↦ stays_blank s b && blank_from u bs ]) ≡ ((elim o as (λ _. Bool) [ None ↦ false | Some u ↦ stays_blank s b && all_stay_blank u bs ]) && ends_blank t)
    by_turn None g more = absurd (none_some g)
    by_turn (Some u) g more = ap (λ (x : Bool). stays_blank s b && x) (more u g) ∙ and_assoc (stays_blank s b) (all_stay_blank u bs) (ends_blank t)

pub stay_more : (s t u : State) (bs : List ℕ) (b : ℕ) → walked s bs ≡ Some t → turned t b ≡ Some u → all_stay_blank s (bs ++ b ∷ []) ≡ (all_stay_blank s bs && stays_blank t b)
stay_more s t u [] b h e =
    ap (λ (v : State). all_stay_blank v (b ∷ [])) (same_some h)
    ∙ ap (λ (o : Option State). elim o as (λ _. Bool) [ None ↦ false | Some w ↦ stays_blank t b && true ]) e
    ∙ and-true (stays_blank t b)
stay_more s t u (c ∷ bs) b h e = by_turn (turned s c) h (λ v. stay_more v t u bs b)
  where
    by_turn : (o : Option State) → (elim o as (λ _. Option State) [ None ↦ None | Some v ↦ walked v bs ]) ≡ Some t → ((v : State) → walked v bs ≡ Some t → turned t b ≡ Some u → all_stay_blank v (bs ++ b ∷ []) ≡ (all_stay_blank v bs && stays_blank t b)) → (elim o as (λ _. Bool) [ None ↦ false | Some v ↦ stays_blank s c && all_stay_blank v (bs ++ b ∷ []) ]) ≡ ((elim o as (λ _. Bool) [ None ↦ false | Some v ↦ stays_blank s c && all_stay_blank v bs ]) && stays_blank t b)
    by_turn None g more = absurd (none_some g)
    by_turn (Some v) g more = ap (λ (x : Bool). stays_blank s c && x) (more v g e) ∙ and_assoc (stays_blank s c) (all_stay_blank v bs) (stays_blank t b)

-- what the state and the blank so far say of bytes in which no piece ends
pub blank_tells : (t : State) (bs : List ℕ) (blank : Bool) → walked PlainState bs ≡ Some t → blank ≡ all_stay_blank PlainState bs → (blank && ends_blank t) ≡ true → IsBlank bs
blank_tells t bs blank h e holds = is_blank_from PlainState bs (blank_walked PlainState t bs h ∙ ap (λ (x : Bool). x && ends_blank t) (sym e) ∙ holds)

pub cut_tells : (t : State) (bs : List ℕ) (blank : Bool) → walked PlainState bs ≡ Some t → blank ≡ all_stay_blank PlainState bs → (blank && ends_blank t) ≡ false → IsBlank bs → ⊥
cut_tells t bs blank h e not_so w = false_true (blank_walked PlainState t bs h ∙ ap (λ (x : Bool). x && ends_blank t) (sym e) ∙ not_so) (blank_seen bs w)
