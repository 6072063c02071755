-- A list of tokens goes on behind the front of its bytes, and bytes have one list at most.
use Rattle.std.proofs.Common.{◌≡◌, ℕ, ◌+◌, ◌-◌, ◌<◌, ◌≤◌, List, [], ◌∷◌, ◌++◌, length, take, drop, refl, sym, ap, ◌∙◌, subst, arith, append_assoc}
use Rattle.std.specs.Prelude.{Option, Some, None, flat_map}
use Rattle.std.proofs.lemmas.List.{append-nil, drop-drop, length-drop}
use Rattle.std.proofs.Math.Seq.{drop-append_seam}
use Rattle.ded_num.proofs.Tests.{range_from}
use Rattle.ded_lex.specs.declared.front.Front.{Front}
use Rattle.ded_lex.specs.declared.token.Token.{Token}
use Rattle.ded_lex.specs.declared.token.TokenKind.{TokenKind}
use Rattle.ded_lex.specs.Tokens.{Cell, GapCell, LexemeCell, cell_bytes, IsCell, AreCells, tokens_from, AreTokens}
use Rattle.ded_lex.specs.Fronts.{front_of, front_tokens}
use Rattle.ded_lex.proofs.FrontReads.{cell_kind, FrontRead, front_sound, front_cell, front_found}
use Rattle.ded_lex.proofs.Cases.{same_some, none_some}

-- The bytes, which begin at this place, are made of these tokens.
pub record TokensAt (at : ℕ) (bytes : List ℕ) (tokens : List Token) : Type 0 where
  pub cells : List Cell
  pub is : flat_map cell_bytes cells ≡ bytes
  pub each : AreCells cells
  pub tokens_are : tokens_from at cells ≡ tokens

-- the bytes behind the first cell
behind : (xs rest bytes : List ℕ) (n : ℕ) → bytes ≡ xs ++ rest → n ≡ length xs → drop n bytes ≡ rest
behind xs rest bytes n e count = ap (λ (l : List ℕ). drop n l) e ∙ ap (λ (k : ℕ). drop k (xs ++ rest)) count ∙ drop-append_seam xs rest

-- a cell's token before those of the cells behind it
tokens_step : (cell : Cell) (cells : List Cell) (at : ℕ) → tokens_from at (cell ∷ cells) ≡ front_tokens (cell_kind cell) at (at + length (cell_bytes cell)) ++ tokens_from (at + length (cell_bytes cell)) cells
tokens_step (GapCell gap) cells at = refl
tokens_step (LexemeCell lexeme) cells at = refl

-- A front, and the tokens behind it, give tokens.
pub forth : (f : Front) (at : ℕ) (bytes : List ℕ) (tokens : List Token) → front_of bytes ≡ Some f → TokensAt (at + f.length) (drop f.length bytes) tokens → TokensAt at bytes (front_tokens f.kind at (at + f.length) ++ tokens)
forth f at bytes tokens e t =
    let r : FrontRead bytes f.kind f.length = (front_sound bytes f e).0 in
    let rest : flat_map cell_bytes t.cells ≡ r.rest = t.is ∙ behind (cell_bytes r.cell) r.rest bytes f.length r.is r.count in
    record {
      cells = r.cell ∷ t.cells;
      is = ap (λ (l : List ℕ). cell_bytes r.cell ++ l) rest ∙ sym r.is;
      each = (subst (λ (l : List ℕ). IsCell r.cell l) (sym rest) r.each, t.each);
      tokens_are = tokens_step r.cell t.cells at
          ∙ ap (λ (k : Option TokenKind). front_tokens k at (at + length (cell_bytes r.cell)) ++ tokens_from (at + length (cell_bytes r.cell)) t.cells) (sym r.kind_is)
          ∙ ap (λ (n : ℕ). front_tokens f.kind at (at + n) ++ tokens_from (at + n) t.cells) (sym r.count)
          ∙ ap (λ (l : List Token). front_tokens f.kind at (at + f.length) ++ l) t.tokens_are;
    }

-- what stands behind the front, where there are tokens
abbrev Behind : Front → ℕ → List ℕ → List Token → Type 0
Behind f at bytes tokens = (more : List Token) × TokensAt (at + f.length) (drop f.length bytes) more × (tokens ≡ front_tokens f.kind at (at + f.length) ++ more)

behind_cell : (cell : Cell) (cells : List Cell) (f : Front) (at : ℕ) (bytes : List ℕ) (tokens : List Token) → flat_map cell_bytes (cell ∷ cells) ≡ bytes → AreCells (cell ∷ cells) → tokens_from at (cell ∷ cells) ≡ tokens → front_cell cell ≡ f → Behind f at bytes tokens
behind_cell cell cells f at bytes tokens is each are same =
    subst (λ (g : Front). Behind g at bytes tokens) same (
      tokens_from (at + length (cell_bytes cell)) cells,
      record {
        cells = cells;
        is = sym (behind (cell_bytes cell) (flat_map cell_bytes cells) bytes (length (cell_bytes cell)) (sym is) refl);
        each = each.1;
        tokens_are = refl;
      },
      sym are ∙ tokens_step cell cells at,
    )

-- the front of cells is that of the first
first_front : (cell : Cell) (cells : List Cell) (bytes : List ℕ) → flat_map cell_bytes (cell ∷ cells) ≡ bytes → AreCells (cell ∷ cells) → front_of bytes ≡ Some (front_cell cell)
first_front cell cells bytes is each = ap front_of (sym is) ∙ front_found cell (flat_map cell_bytes cells) each.0

pub back : (f : Front) (at : ℕ) (bytes : List ℕ) (tokens : List Token) → front_of bytes ≡ Some f → TokensAt at bytes tokens → Behind f at bytes tokens
back f at bytes tokens e t = by_cells t.cells t.is t.each t.tokens_are
  where
    by_cells : (cells : List Cell) → flat_map cell_bytes cells ≡ bytes → AreCells cells → tokens_from at cells ≡ tokens → Behind f at bytes tokens
    by_cells [] is each are = absurd (none_some (ap front_of is ∙ e))
    by_cells (cell ∷ cells) is each are = behind_cell cell cells f at bytes tokens is each are (same_some (sym (first_front cell cells bytes is each) ∙ e))

-- bytes that begin with neither gap nor token have no list of tokens
pub no_tokens : (at : ℕ) (bytes : List ℕ) (tokens : List Token) → 0 < length bytes → front_of bytes ≡ None → TokensAt at bytes tokens → ⊥
no_tokens at bytes tokens some e t = by_cells t.cells t.is t.each
  where
    by_cells : (cells : List Cell) → flat_map cell_bytes cells ≡ bytes → AreCells cells → ⊥
    by_cells [] is each = absurd (omega (arith, some, ap length is))
    by_cells (cell ∷ cells) is each = none_some (sym e ∙ first_front cell cells bytes is each)

pub none_left : (at : ℕ) (bytes : List ℕ) → length bytes ≡ 0 → TokensAt at bytes []
none_left at [] e = record { cells = []; is = refl; each = tt; tokens_are = refl }
none_left at (b ∷ bs) e = absurd (omega (arith, e))

-- The tokens that were read up to a place: with those behind it they are all, and all are these and some behind it.
pub record IsReadTo (bytes : List ℕ) (at : ℕ) (tokens : List Token) : Type 0 where
  pub forth : (more : List Token) → TokensAt at (drop at bytes) more → AreTokens bytes (tokens ++ more)
  pub back : (all : List Token) → AreTokens bytes all → (more : List Token) × TokensAt at (drop at bytes) more × (all ≡ tokens ++ more)

pub read_none : (bytes : List ℕ) → IsReadTo bytes 0 []
read_none bytes = record {
  forth = λ more t. record { cells = t.cells; is = t.is; each = t.each; tokens_are = t.tokens_are };
  back = λ all t. (all, record { cells = t.cells; is = t.is; each = t.each; tokens_are = t.tokens_are }, refl);
}

-- the front of that slice
pub front_at : (bytes : List ℕ) (at : ℕ) (f : Option Front) → f ≡ front_of (take (length bytes - at) (drop at bytes)) → front_of (drop at bytes) ≡ f
front_at bytes at f e = ap front_of (sym (range_from bytes at)) ∙ sym e

pub read_more : (bytes : List ℕ) (at : ℕ) (tokens now : List Token) (f : Front) → front_of (drop at bytes) ≡ Some f → now ≡ tokens ++ front_tokens f.kind at (at + f.length) → IsReadTo bytes at tokens → IsReadTo bytes (at + f.length) now
read_more bytes at tokens now f e is r =
    let moved : drop f.length (drop at bytes) ≡ drop (at + f.length) bytes = drop-drop f.length at bytes in
    let here : List Token = front_tokens f.kind at (at + f.length) in
    subst (λ (l : List Token). IsReadTo bytes (at + f.length) l) (sym is)
    (record {
      forth = λ more t. subst (λ (l : List Token). AreTokens bytes l) (sym (append_assoc tokens here more))
          (r.forth (here ++ more) (forth f at (drop at bytes) more e (subst (λ (l : List ℕ). TokensAt (at + f.length) l more) (sym moved) t)));
      back = λ all t.
          let left = r.back all t in
          let next = back f at (drop at bytes) left.0 e left.1 in
          (next.0, subst (λ (l : List ℕ). TokensAt (at + f.length) l next.0) moved next.1, left.2 ∙ ap (λ (l : List Token). tokens ++ l) next.2 ∙ sym (append_assoc tokens here next.0));
    })

pub read_all : (bytes : List ℕ) (at : ℕ) (tokens : List Token) → length bytes ≤ at → IsReadTo bytes at tokens → AreTokens bytes tokens
read_all bytes at tokens le r = subst (λ (l : List Token). AreTokens bytes l) (append-nil tokens) (r.forth [] (none_left at (drop at bytes) (omega (arith, length-drop at bytes))))

pub read_nothing : (bytes : List ℕ) (at : ℕ) (tokens : List Token) → at < length bytes → front_of (drop at bytes) ≡ None → IsReadTo bytes at tokens → (all : List Token) → AreTokens bytes all → ⊥
read_nothing bytes at tokens lt e r all t =
    let left = r.back all t in
    no_tokens at (drop at bytes) left.0 (omega (arith, length-drop at bytes)) e left.1

-- One list at most.
same_tokens : (cells others : List Cell) (at : ℕ) → AreCells cells → AreCells others → flat_map cell_bytes cells ≡ flat_map cell_bytes others → tokens_from at cells ≡ tokens_from at others
same_tokens [] [] at each those is = refl
same_tokens [] (other ∷ others) at each those is = absurd (none_some (ap front_of is ∙ first_front other others (flat_map cell_bytes (other ∷ others)) refl those))
same_tokens (cell ∷ cells) [] at each those is = absurd (none_some (ap front_of (sym is) ∙ first_front cell cells (flat_map cell_bytes (cell ∷ cells)) refl each))
same_tokens (cell ∷ cells) (other ∷ others) at each those is =
    let all : List ℕ = flat_map cell_bytes (other ∷ others) in
    let same : front_cell cell ≡ front_cell other = same_some (sym (first_front cell cells all is each) ∙ first_front other others all refl those) in
    let count : length (cell_bytes cell) ≡ length (cell_bytes other) = ap (λ (f : Front). f.length) same in
    let left : flat_map cell_bytes cells ≡ flat_map cell_bytes others =
    sym (behind (cell_bytes cell) (flat_map cell_bytes cells) all (length (cell_bytes cell)) (sym is) refl)
    ∙ behind (cell_bytes other) (flat_map cell_bytes others) all (length (cell_bytes cell)) refl count in
    tokens_step cell cells at
    ∙ ap (λ (f : Front). front_tokens f.kind at (at + f.length) ++ tokens_from (at + f.length) cells) same
    ∙ ap (λ (l : List Token). front_tokens (cell_kind other) at (at + length (cell_bytes other)) ++ l) (same_tokens cells others (at + length (cell_bytes other)) each.1 those.1 left)
    ∙ sym (tokens_step other others at)

pub one_token_list : (bytes : List ℕ) (these those : List Token) → AreTokens bytes these → AreTokens bytes those → these ≡ those
one_token_list bytes these those x y = sym x.tokens_are ∙ same_tokens x.cells y.cells 0 x.each y.each (x.is ∙ sym y.is) ∙ y.tokens_are
