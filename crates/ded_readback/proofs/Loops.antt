-- Lists that loops read.
use Rattle.std.proofs.Common.{◌≡◌, ℕ, ◌+◌, ◌-◌, ◌<◌, Bool, true, false, List, [], ◌∷◌, ◌++◌, length, drop, drop-cons, get_or, refl, sym, ap, ◌∙◌, add-one}
use Rattle.std.proofs.Math.Bool.{beq}
use Rattle.std.specs.Cmp.{booleans_Decides}
use Rattle.std.specs.Prelude.{Option, Some, None, ◌==◌, codes}
use Rattle.ded_model.specs.Row.{Atom}
use Rattle.std.proofs.lemmas.Bool.{eqb-true}
use Rattle.ded_num.proofs.Tests.{minus_step}
use Rattle.ded_model.specs.declared.name.Column.{Column}
use Rattle.ded_model.specs.Point.{AllBytes}
use Rattle.ded_readback.specs.declared.terms.Summand.{Summand}
use Rattle.ded_readback.specs.Reading.{◌>>=◌, behind, later_at, terms_by, terms_from, unquoted, next_atom, atoms_by, atoms_from, tuple_at, tuples_by, tuples_from}

-- ---- terms

-- one more term
pub terms_on : (columns : List Column) (l i : ℕ) (ts us : List Summand) (bs : List ℕ) (x : Summand × List ℕ) → i < l → later_at columns bs ≡ Some x → us ≡ ts ++ x.0 ∷ []
    → terms_from columns (l - (i + 1)) us x.1 ≡ terms_from columns (l - i) ts bs
terms_on columns l i ts us bs x lt read is =
    ap (λ (vs : List Summand). terms_from columns (l - (i + 1)) vs x.1) is
    ∙ sym (ap (λ (k : ℕ). terms_from columns k ts bs) (minus_step l i lt) ∙ ap (terms_by (terms_from columns (l - (i + 1))) ts bs) read)

-- none is left
pub terms_done : (columns : List Column) (l i : ℕ) (ts : List Summand) (bs : List ℕ) → i < l → later_at columns bs ≡ None → (ts, bs) ≡ terms_from columns (l - i) ts bs
terms_done columns l i ts bs lt none =
    sym (ap (λ (k : ℕ). terms_from columns k ts bs) (minus_step l i lt) ∙ ap (terms_by (terms_from columns (l - (i + 1))) ts bs) none)

-- ---- quoted texts

-- a byte that is no quote, or the second of two quotes
pub byte_kept : (text : List ℕ) (closed : Bool) (b : ℕ) (bs : List ℕ) → (b == 39) ≡ closed → unquoted text closed (b ∷ bs) ≡ unquoted (text ++ b ∷ []) false bs
byte_kept text true b bs e = rw e (ap (λ (c : ℕ). unquoted (text ++ c ∷ []) false bs) (sym (eqb-true b 39 e)))
byte_kept text false b bs e = rw e refl

pub bytes_push : (xs : List ℕ) (b : ℕ) → AllBytes xs → b < 256 → AllBytes (xs ++ b ∷ [])
bytes_push [] b h l = (l, tt)
bytes_push (x ∷ xs) b h l = (h.0, bytes_push xs b h.1 l)

pub next_byte : (bytes text more : List ℕ) (closed : Bool) (i : ℕ) → i < length bytes → beq (get_or bytes i 0 == 39) closed ≡ true → more ≡ text ++ get_or bytes i 0 ∷ []
    → unquoted more false (drop (i + 1) bytes) ≡ unquoted text closed (drop i bytes)
next_byte bytes text more closed i lt quote is =
    let first : drop i bytes ≡ get_or bytes i 0 ∷ drop (i + 1) bytes = rw add-one (drop-cons bytes i 0 lt) in
    ap (λ (t : List ℕ). unquoted t false (drop (i + 1) bytes)) is
    ∙ sym (ap (unquoted text closed) first ∙ byte_kept text closed (get_or bytes i 0) (drop (i + 1) bytes) ((booleans_Decides _ closed).0 quote))

-- ---- atoms

pub atoms_on : (columns : List Column) (l i : ℕ) (ts us : List Atom) (bs : List ℕ) (x : Atom × List ℕ) → i < l → behind (32 ∷ 125 ∷ 10 ∷ []) bs ≡ None → next_atom columns bs ≡ Some x → us ≡ ts ++ x.0 ∷ []
    → atoms_from columns (l - (i + 1)) us x.1 ≡ atoms_from columns (l - i) ts bs
atoms_on columns l i ts us bs x lt more read is =
    ap (λ (vs : List Atom). atoms_from columns (l - (i + 1)) vs x.1) is
    ∙ sym (ap (λ (k : ℕ). atoms_from columns k ts bs) (minus_step l i lt)
    ∙ ap (atoms_by columns (atoms_from columns (l - (i + 1))) ts bs) more
    ∙ ap (λ (o : Option (Atom × List ℕ)). o >>= λ a. atoms_from columns (l - (i + 1)) (ts ++ a.0 ∷ []) a.1) read)

pub atoms_done : (columns : List Column) (l i : ℕ) (ts : List Atom) (bs rest : List ℕ) → i < l → behind (32 ∷ 125 ∷ 10 ∷ []) bs ≡ Some rest → atoms_from columns (l - i) ts bs ≡ Some (ts, rest)
atoms_done columns l i ts bs rest lt closed =
    ap (λ (k : ℕ). atoms_from columns k ts bs) (minus_step l i lt) ∙ ap (atoms_by columns (atoms_from columns (l - (i + 1))) ts bs) closed

-- ---- tuples

pub tuples_on : (columns : List Column) (l i : ℕ) (ts us : List (List Atom)) (bs inner : List ℕ) (x : List Atom × List ℕ) → i < l → behind (codes "{") bs ≡ Some inner → tuple_at columns inner ≡ Some x → us ≡ ts ++ x.0 ∷ []
    → tuples_from columns (l - (i + 1)) us x.1 ≡ tuples_from columns (l - i) ts bs
tuples_on columns l i ts us bs inner x lt more read is =
    ap (λ (vs : List (List Atom)). tuples_from columns (l - (i + 1)) vs x.1) is
    ∙ sym (ap (λ (k : ℕ). tuples_from columns k ts bs) (minus_step l i lt)
    ∙ ap (tuples_by columns (tuples_from columns (l - (i + 1))) ts) more
    ∙ ap (λ (o : Option (List Atom × List ℕ)). o >>= λ t. tuples_from columns (l - (i + 1)) (ts ++ t.0 ∷ []) t.1) read)

pub tuples_done : (columns : List Column) (l i : ℕ) (ts : List (List Atom)) (bs : List ℕ) → i < l → behind (codes "{") bs ≡ None → tuples_from columns (l - i) ts bs ≡ Some ts
tuples_done columns l i ts bs lt none =
    ap (λ (k : ℕ). tuples_from columns k ts bs) (minus_step l i lt) ∙ ap (tuples_by columns (tuples_from columns (l - (i + 1))) ts) none
