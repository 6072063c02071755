-- Sides: what is spelled is read.
use Rattle.std.proofs.Common.{◌≡◌, ℕ, zero, suc, ◌≤◌, ◌<◌, Bool, true, false, List, [], ◌∷◌, ◌++◌, length, refl, sym, ap, ◌∙◌, append_assoc, arith, length-append}
use Rattle.std.specs.Prelude.{Option, Some, None, if◌then◌else◌}
use Rattle.ded_grammar.specs.Building.{◌>>=◌}
use Rattle.ded_terminals.specs.Symbols.{Symbol, Word, Name, Number, Decimal, Quoted, Plus, Minus, Times, Slash, number_of, Open, Close, OpenBrace, CloseBrace, Comma, Colon, Define, Relation}
use Rattle.ded_terminals.specs.Literals.{Scalar, whole, quotient, decimal, spell_scalar, Literal, lowest, literal}
use Rattle.ded_terminals.specs.Operands.{Product, scaled, constant, lone, ParsedSide, text, sum, spell_product, spell_sign, spell_more, spell_side, SignedFactor, Factor, factor, add_factor, add_all, Reading, parts, reading_of}
use Rattle.ded_terminals.specs.OperandReading.{scalar_at, behind_scalar, product_by_scalar, product_at, sign_at, after_sign, more_at, sum_at, behind_name, side_at}
use Rattle.ded_terminals.proofs.Binds.{some_same}

-- no sum goes on here: neither +, -, * nor /
abbrev pub Stops : List Symbol → Type 0
Stops [] = Unit {0}
Stops (Plus ∷ ts) = ⊥
Stops (Minus ∷ ts) = ⊥
Stops (Times ∷ ts) = ⊥
Stops (Slash ∷ ts) = ⊥
Stops ts = Unit {0}

-- what stands behind a literal: no * and no /
abbrev NoFactor : List Symbol → Type 0
NoFactor [] = Unit {0}
NoFactor (Times ∷ ts) = ⊥
NoFactor (Slash ∷ ts) = ⊥
NoFactor ts = Unit {0}

behind_read : (l : Literal) (rest : List Symbol) → NoFactor rest → behind_scalar l rest ≡ Some ((l, None), rest)
behind_read l [] free = refl
behind_read l (Times ∷ ts) free = absurd free
behind_read l (Slash ∷ ts) free = absurd free
behind_read l (Name n ∷ ts) free = refl
behind_read l (Number n ∷ ts) free = refl
behind_read l (Decimal n ∷ ts) free = refl
behind_read l (Quoted n ∷ ts) free = refl
behind_read l (Plus ∷ ts) free = refl
behind_read l (Minus ∷ ts) free = refl
behind_read l (Open ∷ ts) free = refl
behind_read l (Close ∷ ts) free = refl
behind_read l (OpenBrace ∷ ts) free = refl
behind_read l (CloseBrace ∷ ts) free = refl
behind_read l (Comma ∷ ts) free = refl
behind_read l (Colon ∷ ts) free = refl
behind_read l (Define ∷ ts) free = refl
behind_read l (Relation r ∷ ts) free = refl
behind_read l (Word w ∷ ts) free = refl

-- a number that no / follows
abbrev NoSlash : List Symbol → Type 0
NoSlash [] = Unit {0}
NoSlash (Slash ∷ ts) = ⊥
NoSlash ts = Unit {0}

whole_read : (read : ℕ → ℕ) (d : List ℕ) (rest : List Symbol) → NoSlash rest → scalar_at read (Number d ∷ rest) ≡ Some ((read (number_of d), 1), rest)
whole_read read d [] free = refl
whole_read read d (Slash ∷ ts) free = absurd free
whole_read read d (Times ∷ ts) free = refl
whole_read read d (Name n ∷ ts) free = refl
whole_read read d (Number n ∷ ts) free = refl
whole_read read d (Decimal n ∷ ts) free = refl
whole_read read d (Quoted n ∷ ts) free = refl
whole_read read d (Plus ∷ ts) free = refl
whole_read read d (Minus ∷ ts) free = refl
whole_read read d (Open ∷ ts) free = refl
whole_read read d (Close ∷ ts) free = refl
whole_read read d (OpenBrace ∷ ts) free = refl
whole_read read d (CloseBrace ∷ ts) free = refl
whole_read read d (Comma ∷ ts) free = refl
whole_read read d (Colon ∷ ts) free = refl
whole_read read d (Define ∷ ts) free = refl
whole_read read d (Relation r ∷ ts) free = refl
whole_read read d (Word w ∷ ts) free = refl

scalar_read : (read : ℕ → ℕ) (s : Scalar) (rest : List Symbol) → NoSlash rest → scalar_at read (spell_scalar s ++ rest) ≡ Some (literal read s, rest)
scalar_read read (whole d) rest free = whole_read read d rest free
scalar_read read (quotient d e n) rest free = ap (λ (b : Bool). if b then None else Some (lowest (read (number_of d)) (read (number_of e)), rest)) n
scalar_read read (decimal t) rest free = refl

no_slash : (rest : List Symbol) → NoFactor rest → NoSlash rest
no_slash [] h = tt
no_slash (Slash ∷ ts) h = h
no_slash (Times ∷ ts) h = tt
no_slash (t ∷ ts) h = by t h
  where
    by : (t : Symbol) → NoFactor (t ∷ ts) → NoSlash (t ∷ ts)
    by Slash h = h
    by t h = tt

product_read : (value : ℕ → ℕ) (p : Product) (rest : List Symbol) → NoFactor rest → product_at value (spell_product p ++ rest) ≡ Some (factor value p, rest)
product_read value (scaled s n) rest free =
    ap (λ (l : List Symbol). product_at value l) (append_assoc (spell_scalar s) (Times ∷ Name n ∷ []) rest)
    ∙ by (spell_scalar s ++ Times ∷ Name n ∷ rest) (scalar_read value s (Times ∷ Name n ∷ rest) tt)
  where
    by : (ts : List Symbol) → scalar_at value ts ≡ Some (literal value s, Times ∷ Name n ∷ rest) → product_at value ts ≡ Some ((literal value s, Some n), rest)
    by ts e = ap (product_by_scalar ts) e
product_read value (constant s) rest free =
    ap (product_by_scalar (spell_scalar s ++ rest)) (scalar_read value s rest (no_slash rest free)) ∙ behind_read (literal value s) rest free
product_read value (lone n) rest free = refl

more_free : (ps : List (Bool × Product)) (rest : List Symbol) → Stops rest → NoFactor (spell_more ps ++ rest)
more_free [] [] h = tt
more_free [] (t ∷ ts) h = free t ts h
  where
    free : (t : Symbol) (ts : List Symbol) → Stops (t ∷ ts) → NoFactor (t ∷ ts)
    free Times ts h = h
    free Slash ts h = h
    free t ts h = tt
more_free ((true, p) ∷ ps) rest h = tt
more_free ((false, p) ∷ ps) rest h = tt

sign_read : (minus : Bool) (ts : List Symbol) → sign_at (spell_sign minus ∷ ts) ≡ Some (minus, ts)
sign_read true ts = refl
sign_read false ts = refl

no_sign : (rest : List Symbol) → Stops rest → sign_at rest ≡ None
no_sign [] h = refl
no_sign (Plus ∷ ts) h = absurd h
no_sign (Minus ∷ ts) h = absurd h
no_sign (t ∷ ts) h = refl

more_step : (value : ℕ → ℕ) (k : ℕ) (a : List SignedFactor) (minus : Bool) (ts : List Symbol) → more_at value (suc k) a (spell_sign minus ∷ ts) ≡ (product_at value ts >>= λ p. more_at value k (add_factor a minus p.0) p.1)
more_step value k a true ts = refl
more_step value k a false ts = refl

more_read : (ps : List (Bool × Product)) (value : ℕ → ℕ) (a : List SignedFactor) (rest : List Symbol) (k : ℕ) → Stops rest → length ps < k → more_at value k a (spell_more ps ++ rest) ≡ Some (add_all value a ps, rest)
more_read ps value a rest zero h lt = absurd (omega (arith, lt))
more_read [] value a rest (suc k) h lt = ap (after_sign value (more_at value k) a rest) (no_sign rest h)
more_read (p ∷ ps) value a rest (suc k) h lt =
    ap (λ (l : List Symbol). more_at value (suc k) a (spell_sign p.0 ∷ l)) (append_assoc (spell_product p.1) (spell_more ps) rest)
    ∙ more_step value k a p.0 (spell_product p.1 ++ (spell_more ps ++ rest))
    ∙ ap (λ (o : Option (Factor × List Symbol)). o >>= λ q. more_at value k (add_factor a p.0 q.0) q.1) (product_read value p.1 (spell_more ps ++ rest) (more_free ps rest h))
    ∙ more_read ps value (add_factor a p.0 (factor value p.1)) rest k h (omega (arith, lt))

short : (ps : List (Bool × Product)) → length ps ≤ length (spell_more ps)
short [] = omega arith
short (p ∷ ps) = omega (arith, short ps, length-append (spell_product p.1) (spell_more ps))

abbrev pub made : Option (List SignedFactor × List Symbol) → Option (Reading × List Symbol)
made o = o >>= λ x. Some (parts x.0, x.1)

sum_read : (value : ℕ → ℕ) (minus : Bool) (p : Product) (ps : List (Bool × Product)) (rest : List Symbol) → Stops rest → sum_at value minus (spell_product p ++ (spell_more ps ++ rest)) ≡ Some (add_all value (add_factor [] minus (factor value p)) ps, rest)
sum_read value minus p ps rest h =
    ap (λ (o : Option (Factor × List Symbol)). o >>= λ q. more_at value (suc (length q.1)) (add_factor [] minus q.0) q.1) (product_read value p (spell_more ps ++ rest) (more_free ps rest h))
    ∙ more_read ps value (add_factor [] minus (factor value p)) rest (suc (length (spell_more ps ++ rest))) h (omega (arith, short ps, length-append (spell_more ps) rest))

name_step : (value : ℕ → ℕ) (n : List ℕ) (minus : Bool) (ts : List Symbol) → side_at value (Name n ∷ spell_sign minus ∷ ts) ≡ made (sum_at value false (Name n ∷ spell_sign minus ∷ ts))
name_step value n true ts = refl
name_step value n false ts = refl

-- a literal begins a sum
pub literal_step : (value : ℕ → ℕ) (s : Scalar) (ts : List Symbol) → side_at value (spell_scalar s ++ ts) ≡ made (sum_at value false (spell_scalar s ++ ts))
literal_step value (whole d) ts = refl
literal_step value (quotient d e n) ts = refl
literal_step value (decimal t) ts = refl

pub side_read : (value : ℕ → ℕ) (s : ParsedSide) (rest : List Symbol) → Stops rest → side_at value (spell_side s ++ rest) ≡ Some (reading_of value s, rest)
side_read value (text s) rest h = refl
side_read value (sum true p ps) rest h =
    ap (λ (l : List Symbol). made (sum_at value true l)) (append_assoc (spell_product p) (spell_more ps) rest)
    ∙ ap made (sum_read value true p ps rest h)
side_read value (sum false (constant s) ps) rest h =
    ap (side_at value) (append_assoc (spell_scalar s) (spell_more ps) rest)
    ∙ literal_step value s (spell_more ps ++ rest)
    ∙ ap made (sum_read value false (constant s) ps rest h)
side_read value (sum false (scaled s n) ps) rest h =
    let parted = append_assoc (spell_scalar s) (Times ∷ Name n ∷ []) (spell_more ps ++ rest) in
    ap (side_at value) (append_assoc (spell_product (scaled s n)) (spell_more ps) rest ∙ parted)
    ∙ literal_step value s (Times ∷ Name n ∷ (spell_more ps ++ rest))
    ∙ ap (λ (l : List Symbol). made (sum_at value false l)) (sym parted)
    ∙ ap made (sum_read value false (scaled s n) ps rest h)
side_read value (sum false (lone n) []) rest h = ap (behind_name value (Name n ∷ rest) (n, rest)) (no_sign rest h)
side_read value (sum false (lone n) (p ∷ ps)) rest h =
    name_step value n p.0 ((spell_product p.1 ++ spell_more ps) ++ rest)
    ∙ ap made (sum_read value false (lone n) (p ∷ ps) rest h)

pub one_side : (value : ℕ → ℕ) (s r : ParsedSide) → spell_side s ≡ spell_side r → reading_of value s ≡ reading_of value r
one_side value s r e = ap (λ (x : Reading × List Symbol). x.0) (some_same _ _ (sym (side_read value s [] tt) ∙ ap (λ (l : List Symbol). side_at value (l ++ [])) e ∙ side_read value r [] tt))
