-- Feeding bytes one by one.
use Rattle.std.proofs.Common.{◌≡◌, ℕ, ◌+◌, ◌<◌, ◌≤◌, List, [], ◌∷◌, ◌++◌, length, take, refl, sym, ap, ◌∙◌, subst, arith, length-append}
use Rattle.std.proofs.Math.ListN.{set}
use Rattle.std.proofs.lemmas.List.{take_all, take-append-le, take_more_set}
use Rattle.ded_lex.specs.Splits.{Follows}
use Rattle.std.specs.Prelude.{Option, Some, None, min, Bool, true, ◌&&◌}
use Rattle.std.proofs.lemmas.List.{append-nil}
use Rattle.ded_lex.specs.declared.state.State.{State}
use Rattle.ded_lex.specs.declared.state.State.TheVariants.{Plain as PlainState}
use Rattle.ded_lex.specs.Pieces.{IsWhole, HasNoWhole, IsCut, EndsPiece}
use Rattle.ded_lex.specs.Machine.{turned, walked, stays_blank}
use Rattle.ded_lex.proofs.Walk.{Found, onto, cut_from, before, goes, ends}
use Rattle.ded_lex.proofs.Finds.{finds, found, Leads, leads}
use Rattle.ded_lex.proofs.Blanks.{stay_more}
use Rattle.ded_lex.proofs.Cuts.{cut_of_nothing}
use Rattle.ded_lex.proofs.Cases.{same_some, none_some}

onto_before : (b : ℕ) (bs : List ℕ) (r : Found) → onto b (before bs r) ≡ before (b ∷ bs) r
onto_before b bs None = refl
onto_before b bs (Some f) = refl

before_nothing : (r : Found) → r ≡ before [] r
before_nothing None = refl
before_nothing (Some found) = refl

-- after bytes in which no piece ends, the machine goes on from their state
pub walked_cut : (s t : State) (bs xs : List ℕ) → walked s bs ≡ Some t → cut_from s (bs ++ xs) ≡ before bs (cut_from t xs)
walked_cut s t [] xs h = ap (λ (u : State). cut_from u xs) (same_some h) ∙ before_nothing (cut_from t xs)
walked_cut s t (b ∷ bs) xs h = by_turn (turned s b) refl h (λ u. walked_cut u t bs xs)
  where
    by_turn : (o : Option State) → turned s b ≡ o → (elim o as (λ _. Option State) [ None ↦ None | Some u ↦ walked u bs ]) ≡ Some t → ((u : State) → walked u bs ≡ Some t → cut_from u (bs ++ xs) ≡ before bs (cut_from t xs)) → cut_from s (b ∷ (bs ++ xs)) ≡ before (b ∷ bs) (cut_from t xs)
    by_turn None e g more = absurd (none_some g)
    by_turn (Some u) e g more = goes s u b (bs ++ xs) e ∙ ap (λ (r : Found). onto b r) (more u g) ∙ onto_before b bs (cut_from t xs)

-- where the ; then ends a piece, the bytes are one
pub whole_fed : (bs after : List ℕ) (t : State) → walked PlainState bs ≡ Some t → turned t 59 ≡ None → IsWhole bs (59 ∷ after)
whole_fed bs after t h e =
    let cut : cut_from PlainState (bs ++ 59 ∷ after) ≡ Some (bs, after) = walked_cut PlainState t bs (59 ∷ after) h ∙ ap (λ (r : Found). before bs r) (ends t 59 after e) ∙ ap (λ (l : List ℕ). Some (l, after)) (append-nil bs) in
    (finds (bs ++ 59 ∷ after) bs after cut).whole

-- and where no piece ended, none stands there
pub none_fed : (bs : List ℕ) (t : State) → walked PlainState bs ≡ Some t → HasNoWhole bs
none_fed bs t h = λ piece after b.
    absurd (none_some (sym (ap (λ (l : List ℕ). cut_from PlainState l) (sym (append-nil bs)) ∙ walked_cut PlainState t bs [] h) ∙ found bs piece after b))

pub walked_more : (s t u : State) (bs : List ℕ) (b : ℕ) → walked s bs ≡ Some t → turned t b ≡ Some u → walked s (bs ++ b ∷ []) ≡ Some u
walked_more s t u [] b h e = ap (λ (v : State). elim (turned v b) as (λ _. Option State) [ None ↦ None | Some w ↦ Some w ]) (same_some h) ∙ ap (λ (o : Option State). elim o as (λ _. Option State) [ None ↦ None | Some w ↦ Some w ]) e
walked_more s t u (c ∷ bs) b h e = by_turn (turned s c) h (λ v. walked_more v t u bs b)
  where
    by_turn : (o : Option State) → (elim o as (λ _. Option State) [ None ↦ None | Some v ↦ walked v bs ]) ≡ Some t → ((v : State) → walked v bs ≡ Some t → turned t b ≡ Some u → walked v (bs ++ b ∷ []) ≡ Some u) → (elim o as (λ _. Option State) [ None ↦ None | Some v ↦ walked v (bs ++ b ∷ []) ]) ≡ Some u
    by_turn None g more = absurd (none_some g)
    by_turn (Some v) g more = more v g e

-- no piece ends in the bytes so far
pub none_ended : (kept bytes : List ℕ) (count : ℕ) (s : State) (blank : Bool) → Follows kept count s blank bytes → IsCut bytes [] bytes
none_ended kept bytes count s blank f = (none_fed bytes s f.walks, refl)

-- what is fed, and no piece ends in it
abbrev pub IsFed : List ℕ → ℕ → State → Bool → List ℕ → Type 0
IsFed kept count s blank bytes = Follows kept count s blank bytes × IsCut bytes [] bytes

is_fed : {kept bytes : List ℕ} {count : ℕ} {s : State} {blank : Bool} → Follows kept count s blank bytes → IsFed kept count s blank bytes
is_fed {kept} {bytes} {count} {s} {blank} f = (f, none_ended kept bytes count s blank f)

-- one byte more
pub more_short : (kept bytes : List ℕ) (count : ℕ) (s t : State) (blank now : Bool) (b : ℕ) → length kept ≡ 65536 → count < 65536 → turned s b ≡ Some t → now ≡ (blank && stays_blank s b) → Follows kept count s blank bytes → IsFed (set kept count b) (count + 1) t now (bytes ++ b ∷ [])
more_short kept bytes count s t blank now b room lt e same_blank f =
    let len : count ≡ length bytes = omega (arith, f.counts) in
    let least : min count 65536 ≡ count = omega arith in
    let one_more : min (count + 1) 65536 ≡ count + 1 = omega arith in
    let all : bytes ≡ take count kept = sym (take_all 65536 bytes (omega arith)) ∙ f.front ∙ ap (λ (n : ℕ). take n kept) least in
    let whole : take 65536 (bytes ++ b ∷ []) ≡ bytes ++ b ∷ [] = take_all 65536 (bytes ++ b ∷ []) (omega (arith, length-append bytes (b ∷ []))) in
    let written : take (min (count + 1) 65536) (set kept count b) ≡ take count kept ++ b ∷ [] = ap (λ (n : ℕ). take n (set kept count b)) one_more ∙ take_more_set kept count b (omega arith) in
    is_fed (record {
      walks = walked_more PlainState s t bytes b f.walks e;
      blanks = same_blank ∙ ap (λ (x : Bool). x && stays_blank s b) f.blanks ∙ sym (stay_more PlainState s t bytes b f.walks e);
      counts = omega (arith, length-append bytes (b ∷ []));
      front = whole ∙ ap (λ (l : List ℕ). l ++ b ∷ []) all ∙ sym written;
    })

pub more_long : (kept bytes : List ℕ) (count : ℕ) (s t : State) (blank now : Bool) (b : ℕ) → 65536 ≤ count → turned s b ≡ Some t → now ≡ (blank && stays_blank s b) → Follows kept count s blank bytes → IsFed kept 65537 t now (bytes ++ b ∷ [])
more_long kept bytes count s t blank now b le e same_blank f =
    let same : min count 65536 ≡ min 65537 65536 = omega arith in
    is_fed (record {
      walks = walked_more PlainState s t bytes b f.walks e;
      blanks = same_blank ∙ ap (λ (x : Bool). x && stays_blank s b) f.blanks ∙ sym (stay_more PlainState s t bytes b f.walks e);
      counts = omega (arith, f.counts, length-append bytes (b ∷ []));
      front = take-append-le 65536 bytes (b ∷ []) (omega (arith, f.counts)) ∙ f.front ∙ ap (λ (n : ℕ). take n kept) same;
    })

-- a piece ends at a ; alone
ends_at : (s : State) (b : ℕ) → turned s b ≡ None → b ≡ 59
ends_at s b h = let l : Leads s b [] [] None = subst (λ (o : Option State). Leads s b [] [] o) h (leads s b [] []) in l.0

pub cut_here : (kept bytes : List ℕ) (count : ℕ) (s : State) (blank : Bool) (b : ℕ) → turned s b ≡ None → Follows kept count s blank bytes → EndsPiece bytes b
cut_here kept bytes count s blank b h f =
    let at_semicolon : b ≡ 59 = ends_at s b h in
    let whole : (after : List ℕ) → IsWhole bytes (59 ∷ after) = λ after. whole_fed bytes after s f.walks (subst (λ (x : ℕ). turned s x ≡ None) at_semicolon h) in
    record {
      semicolon = at_semicolon;
      whole = whole;
      cut = ([], record { is = ap (λ (x : ℕ). bytes ++ x ∷ []) at_semicolon; whole = whole [] }, cut_of_nothing);
    }

-- a short piece is kept whole
pub kept_whole : (kept bytes : List ℕ) (count : ℕ) (s : State) (blank : Bool) → count ≤ 65536 → Follows kept count s blank bytes → (length bytes ≤ 65536) × (take (min count 65536) kept ≡ bytes)
kept_whole kept bytes count s blank le f =
    let short : length bytes ≤ 65536 = omega (arith, f.counts) in
    (short, sym f.front ∙ take_all 65536 bytes short)

-- a splitter that was fed nothing
pub fed_nothing : (kept : List ℕ) → Follows kept 0 PlainState true []
fed_nothing kept = record { walks = refl; blanks = refl; counts = omega arith; front = refl }
