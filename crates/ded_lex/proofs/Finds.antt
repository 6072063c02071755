-- What the machine finds is a whole piece, and it finds each one.
use Rattle.std.proofs.Common.{◌≡◌, ◌≢◌, ℕ, List, [], ◌∷◌, ◌++◌, refl, sym, ap, ◌∙◌, subst, append_assoc, ⊎_elim, arith}
use Rattle.std.specs.Prelude.{Option, Some, None}
use Rattle.std.specs.List.{AllByRecursion}
use Rattle.std.proofs.lemmas.Bool.Decides.{nat_tests}
use Rattle.ded_lex.specs.declared.state.State.{State}
use Rattle.ded_lex.specs.declared.state.State.TheVariants.{Plain as PlainState, Dash as DashState, Quote, Comment as CommentState}
use Rattle.ded_lex.specs.Pieces.{Part, Plain, Dash, Quoted, Comment, spelled, NoDash, AreParts, IsWhole, Begins}
use Rattle.ded_lex.specs.Machine.{turned}
use Rattle.ded_lex.proofs.Walk.{Found, onto, cut_from, goes}
use Rattle.ded_lex.proofs.Cases.{same_or}

-- a byte that the machine doesn't tell apart
other_plain : (b : ℕ) → b ≢ 39 → b ≢ 45 → b ≢ 59 → turned PlainState b ≡ Some PlainState
other_plain b p q r = grind (arith, nat_tests)

other_dash : (b : ℕ) → b ≢ 39 → b ≢ 45 → b ≢ 59 → turned DashState b ≡ Some PlainState
other_dash b p q r = grind (arith, nat_tests)

other_quote : (b : ℕ) → b ≢ 39 → turned Quote b ≡ Some Quote
other_quote b p = grind (arith, nat_tests)

pub other_comment : (b : ℕ) → b ≢ 10 → turned CommentState b ≡ Some CommentState
other_comment b p = grind (arith, nat_tests)

-- Parts in front of a whole piece.
plain_first : (b : ℕ) (piece next : List ℕ) → b ≢ 39 → b ≢ 45 → b ≢ 59 → IsWhole piece next → IsWhole (b ∷ piece) next
plain_first b piece next p q r w = record { parts = Plain b ∷ w.parts; is = ap (λ (l : List ℕ). b ∷ l) w.is; each = ((p, q, r), w.each) }

dash_first : (piece next : List ℕ) → NoDash (piece ++ next) → IsWhole piece next → IsWhole (45 ∷ piece) next
dash_first piece next free w = record {
  parts = Dash ∷ w.parts;
  is = ap (λ (l : List ℕ). 45 ∷ l) w.is;
  each = (subst (λ (l : List ℕ). NoDash (l ++ next)) (sym w.is) free, w.each);
}

quoted_first : (body piece next : List ℕ) → AllByRecursion (λ b. b ≢ 39) body → IsWhole piece next → IsWhole (39 ∷ (body ++ 39 ∷ piece)) next
quoted_first body piece next all w = record {
  parts = Quoted body ∷ w.parts;
  is = ap (λ (l : List ℕ). 39 ∷ l) (append_assoc body (39 ∷ []) (spelled w.parts) ∙ ap (λ (l : List ℕ). body ++ 39 ∷ l) w.is);
  each = (all, w.each);
}

comment_first : (body piece next : List ℕ) → AllByRecursion (λ b. b ≢ 10) body → IsWhole piece next → IsWhole (45 ∷ 45 ∷ (body ++ 10 ∷ piece)) next
comment_first body piece next all w = record {
  parts = Comment body ∷ w.parts;
  is = ap (λ (l : List ℕ). 45 ∷ 45 ∷ l) (append_assoc body (10 ∷ []) (spelled w.parts) ∙ ap (λ (l : List ℕ). body ++ 10 ∷ l) w.is);
  each = (all, w.each);
}

-- What is left of a piece in each state: behind a quote or a comment is the byte that closes it, and then a whole piece.
pub record Closed (close : ℕ) (piece next : List ℕ) : Type 0 where
  pub body : List ℕ
  pub rest : List ℕ
  pub is : piece ≡ body ++ close ∷ rest
  pub all : AllByRecursion (λ b. b ≢ close) body
  pub whole : IsWhole rest next

abbrev pub From : State → List ℕ → List ℕ → Type 0
From PlainState piece next = IsWhole piece next
From DashState piece next = IsWhole (45 ∷ piece) next
From Quote piece next = Closed 39 piece next
From CommentState piece next = Closed 10 piece next

-- what a byte does: the ; ends the piece, and any other leads from state to state
abbrev pub Leads : State → ℕ → List ℕ → List ℕ → Option State → Type 0
Leads s b piece after None = (b ≡ 59) × From s [] (59 ∷ after)
Leads s b piece after (Some t) = From t piece (59 ∷ after) → From s (b ∷ piece) (59 ∷ after)

nothing : (next : List ℕ) → IsWhole [] next
nothing next = record { parts = []; is = refl; each = tt }

lone_dash : (after : List ℕ) → IsWhole (45 ∷ []) (59 ∷ after)
lone_dash after = dash_first [] (59 ∷ after) (λ e. absurd (omega arith)) (nothing (59 ∷ after))

closes : (close : ℕ) (piece next : List ℕ) → IsWhole piece next → Closed close (close ∷ piece) next
closes close piece next w = record { body = []; rest = piece; is = refl; all = tt; whole = w }

stays : (close b : ℕ) (piece next : List ℕ) → b ≢ close → Closed close piece next → Closed close (b ∷ piece) next
stays close b piece next ne c = record { body = b ∷ c.body; rest = c.rest; is = ap (λ (l : List ℕ). b ∷ l) c.is; all = (ne, c.all); whole = c.whole }

quoted_from : (piece next : List ℕ) → Closed 39 piece next → IsWhole (39 ∷ piece) next
quoted_from piece next c = subst (λ (l : List ℕ). IsWhole (39 ∷ l) next) (sym c.is) (quoted_first c.body c.rest next c.all c.whole)

comment_from : (piece next : List ℕ) → Closed 10 piece next → IsWhole (45 ∷ 45 ∷ piece) next
comment_from piece next c = subst (λ (l : List ℕ). IsWhole (45 ∷ 45 ∷ l) next) (sym c.is) (comment_first c.body c.rest next c.all c.whole)

pub leads : (s : State) (b : ℕ) (piece after : List ℕ) → Leads s b piece after (turned s b)
leads PlainState b piece after =
    let P : ℕ → Type 0 = λ x. Leads PlainState x piece after (turned PlainState x) in
    ⊎_elim (λ (e : b ≡ 39). subst P (sym e) (λ c. quoted_from piece (59 ∷ after) c))
    (λ (p : b ≢ 39). ⊎_elim (λ (e : b ≡ 45). subst P (sym e) (λ w. w))
    (λ (q : b ≢ 45). ⊎_elim (λ (e : b ≡ 59). subst P (sym e) (refl, nothing (59 ∷ after)))
    (λ (r : b ≢ 59). subst (λ (o : Option State). Leads PlainState b piece after o) (sym (other_plain b p q r)) (λ w. plain_first b piece (59 ∷ after) p q r w))
    (same_or b 59)) (same_or b 45)) (same_or b 39)
leads DashState b piece after =
    let P : ℕ → Type 0 = λ x. Leads DashState x piece after (turned DashState x) in
    ⊎_elim (λ (e : b ≡ 39). subst P (sym e) (λ c. dash_first (39 ∷ piece) (59 ∷ after) (λ f. absurd (omega arith)) (quoted_from piece (59 ∷ after) c)))
    (λ (p : b ≢ 39). ⊎_elim (λ (e : b ≡ 45). subst P (sym e) (λ c. comment_from piece (59 ∷ after) c))
    (λ (q : b ≢ 45). ⊎_elim (λ (e : b ≡ 59). subst P (sym e) (refl, lone_dash after))
    (λ (r : b ≢ 59). subst (λ (o : Option State). Leads DashState b piece after o) (sym (other_dash b p q r)) (λ w. dash_first (b ∷ piece) (59 ∷ after) q (plain_first b piece (59 ∷ after) p q r w)))
    (same_or b 59)) (same_or b 45)) (same_or b 39)
leads Quote b piece after =
    let P : ℕ → Type 0 = λ x. Leads Quote x piece after (turned Quote x) in
    ⊎_elim (λ (e : b ≡ 39). subst P (sym e) (λ w. closes 39 piece (59 ∷ after) w))
    (λ (p : b ≢ 39). subst (λ (o : Option State). Leads Quote b piece after o) (sym (other_quote b p)) (λ c. stays 39 b piece (59 ∷ after) p c))
    (same_or b 39)
leads CommentState b piece after =
    let P : ℕ → Type 0 = λ x. Leads CommentState x piece after (turned CommentState x) in
    ⊎_elim (λ (e : b ≡ 10). subst P (sym e) (λ w. closes 10 piece (59 ∷ after) w))
    (λ (p : b ≢ 10). subst (λ (o : Option State). Leads CommentState b piece after o) (sym (other_comment b p)) (λ c. stays 10 b piece (59 ∷ after) p c))
    (same_or b 10)

-- What the machine finds.
record Finds (s : State) (bytes piece after : List ℕ) : Type 0 where
  is : bytes ≡ piece ++ 59 ∷ after
  from : From s piece (59 ∷ after)

-- from what is found behind a byte
abbrev Tells : State → List ℕ → Found → Type 0
Tells s bytes None = Unit {0}
Tells s bytes (Some found) = Finds s bytes found.0 found.1

tells_onto : (s t : State) (b : ℕ) (bs : List ℕ) (r : Found) → ((piece after : List ℕ) → From t piece (59 ∷ after) → From s (b ∷ piece) (59 ∷ after)) → Tells t bs r → Tells s (b ∷ bs) (onto b r)
tells_onto s t b bs None leads tells = tt
tells_onto s t b bs (Some found) leads tells = record { is = ap (λ (l : List ℕ). b ∷ l) tells.is; from = leads found.0 found.1 tells.from }

tells : (s : State) (bs : List ℕ) → Tells s bs (cut_from s bs)
tells s [] = tt
tells s (b ∷ bs) = by_turn (turned s b) (λ piece after. leads s b piece after) (λ t. tells t bs)
  where
    by_turn : (o : Option State) → ((piece after : List ℕ) → Leads s b piece after o) → ((t : State) → Tells t bs (cut_from t bs)) → Tells s (b ∷ bs) (elim o as (λ _. Found) [ None ↦ Some ([], bs) | Some u ↦ onto b (cut_from u bs) ])
    by_turn None how rest = record { is = ap (λ (x : ℕ). x ∷ bs) (how [] bs).0; from = (how [] bs).1 }
    by_turn (Some t) how rest = tells_onto s t b bs (cut_from t bs) how (rest t)

pub finds : (input piece after : List ℕ) → cut_from PlainState input ≡ Some (piece, after) → Begins input piece after
finds input piece after h =
    let f : Finds PlainState input piece after = subst (λ (r : Found). Tells PlainState input r) h (tells PlainState input) in
    record { is = f.is; whole = f.from }

-- A whole piece is found. First, what stands between two quotes, or in a comment.
closed_found : (s : State) (close : ℕ) → turned s close ≡ Some PlainState → ((b : ℕ) → b ≢ close → turned s b ≡ Some s) → (body xs piece after : List ℕ) → AllByRecursion (λ b. b ≢ close) body → cut_from PlainState xs ≡ Some (piece, after) → cut_from s (body ++ close ∷ xs) ≡ Some (body ++ close ∷ piece, after)
closed_found s close shut keeps [] xs piece after all h = goes s PlainState close xs shut ∙ ap (λ (r : Found). onto close r) h
closed_found s close shut keeps (b ∷ body) xs piece after all h =
    goes s s b (body ++ close ∷ xs) (keeps b all.0)
    ∙ ap (λ (r : Found). onto b r) (closed_found s close shut keeps body xs piece after all.1 h)

-- behind a dash that no other follows, the machine goes on as if there were none
after_dash : (xs : List ℕ) → NoDash xs → cut_from DashState xs ≡ cut_from PlainState xs
after_dash [] free = refl
after_dash (b ∷ bs) free = ap (λ (o : Option State). elim o as (λ _. Found) [ None ↦ Some ([], bs) | Some u ↦ onto b (cut_from u bs) ]) (same b free)
  where
    same : (b : ℕ) → b ≢ 45 → turned DashState b ≡ turned PlainState b
    same b ne = grind (arith, nat_tests)

parts_found : (parts : List Part) (after : List ℕ) → AreParts parts (59 ∷ after) → cut_from PlainState (spelled parts ++ 59 ∷ after) ≡ Some (spelled parts, after)
parts_found [] after each = refl
parts_found (Plain b ∷ parts) after each =
    goes PlainState PlainState b (spelled parts ++ 59 ∷ after) (other_plain b each.0.0 each.0.1 each.0.2)
    ∙ ap (λ (r : Found). onto b r) (parts_found parts after each.1)
parts_found (Dash ∷ parts) after each =
    ap (λ (r : Found). onto 45 r) (after_dash (spelled parts ++ 59 ∷ after) each.0 ∙ parts_found parts after each.1)
parts_found (Quoted body ∷ parts) after each =
    let split : ((body ++ 39 ∷ []) ++ spelled parts) ++ 59 ∷ after ≡ body ++ 39 ∷ (spelled parts ++ 59 ∷ after) = simp append_assoc in
    ap (λ (l : List ℕ). onto 39 (cut_from Quote l)) split
    ∙ ap (λ (r : Found). onto 39 r) (closed_found Quote 39 refl other_quote body (spelled parts ++ 59 ∷ after) (spelled parts) after each.0 (parts_found parts after each.1))
    ∙ ap (λ (l : List ℕ). Some (39 ∷ l, after)) (sym (append_assoc body (39 ∷ []) (spelled parts)))
parts_found (Comment body ∷ parts) after each =
    let split : ((body ++ 10 ∷ []) ++ spelled parts) ++ 59 ∷ after ≡ body ++ 10 ∷ (spelled parts ++ 59 ∷ after) = simp append_assoc in
    ap (λ (l : List ℕ). onto 45 (onto 45 (cut_from CommentState l))) split
    ∙ ap (λ (r : Found). onto 45 (onto 45 r)) (closed_found CommentState 10 refl other_comment body (spelled parts ++ 59 ∷ after) (spelled parts) after each.0 (parts_found parts after each.1))
    ∙ ap (λ (l : List ℕ). Some (45 ∷ 45 ∷ l, after)) (sym (append_assoc body (10 ∷ []) (spelled parts)))

pub found : (input piece after : List ℕ) → Begins input piece after → cut_from PlainState input ≡ Some (piece, after)
found input piece after b =
    let w = b.whole in
    subst (λ (l : List ℕ). cut_from PlainState l ≡ Some (piece, after)) (ap (λ (l : List ℕ). l ++ 59 ∷ after) w.is ∙ sym b.is)
    (parts_found w.parts after w.each ∙ ap (λ (l : List ℕ). Some (l, after)) w.is)
