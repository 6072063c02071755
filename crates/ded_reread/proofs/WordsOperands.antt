-- The names and texts of operands and atoms that are spelled.
use Rattle.std.proofs.Common.{refl, ℕ, Bool, true, false, List, [], ◌∷◌, ◌++◌, map, bytes_eq}
use Rattle.std.specs.Prelude.{ℤ, ◌+ℤ◌, Option, Some, None, if◌then◌else◌}
use Rattle.std.specs.List.{AllByRecursion}
use Rattle.ded_model.proofs.Lists.{Every, every-append, every-left, every-right}
use Rattle.ded_model.specs.Logic.{AllAtomsOf, logics}
use Rattle.ded_terminals.specs.Symbols.{Symbol, Name, Times, Open, Close, Relation}
use Rattle.ded_terminals.specs.Literals.{Literal, Reader, spell_scalar}
use Rattle.ded_terminals.specs.Operands.{Product, scaled, constant, lone, ParsedSide, text, sum, spell_product, spell_more, spell_side, factor, SignedFactor, add_factor, add_all, Reading, quoted, named, parts, as_reading, single, reading_of, Sums, signed, put, put_at, no_sums, total_from, operand_over}
use Rattle.ded_terminals.specs.Atoms.{spell_rest, Comparison, spell_comparison, comparison_form, argument, Named, plain, closed, inner, spell_named, name_of, Atom, truth, relates, belongs, spell_atom, atom_form}
use Rattle.ded_reread.specs.Words.{HasWords, HaveWords, AtomHasWords, IsWritten}
use Rattle.ded_reread.specs.ScriptWords.{IsName, IsMember, IsText}
use Rattle.ded_reread.proofs.WordsSymbols.{IsGoodSymbol}

abbrev pub AreGood : List Symbol → Type 0
AreGood = Every IsGoodSymbol

abbrev IsGoodName : Option (List ℕ) → Type 0
IsGoodName None = Unit {0}
IsGoodName (Some n) = IsName n

abbrev IsGoodPart : SignedFactor → Type 0
IsGoodPart p = IsGoodName p.1.1

abbrev IsGoodReading : Reading → Type 0
IsGoodReading (quoted t) = IsText t
IsGoodReading (named n) = IsName n
IsGoodReading (parts ps) = Every IsGoodPart ps

-- ---- readings

factor_good : (read : ℕ → ℕ) (p : Product) → AreGood (spell_product p) → IsGoodName (factor read p).1
factor_good read (scaled s n) h = (every-right IsGoodSymbol (spell_scalar s) (Times ∷ Name n ∷ []) h).1.0
factor_good read (constant s) h = tt
factor_good read (lone n) h = h.0

all_good : (read : ℕ → ℕ) (a : List SignedFactor) (ps : List (Bool × Product)) → Every IsGoodPart a → AreGood (spell_more ps) → Every IsGoodPart (add_all read a ps)
all_good read a [] g h = g
all_good read a (p ∷ ps) g h =
    all_good read (add_factor a p.0 (factor read p.1)) ps
    (every-append IsGoodPart a ((p.0, factor read p.1) ∷ []) g (factor_good read p.1 (every-left IsGoodSymbol (spell_product p.1) (spell_more ps) h.1), tt))
    (every-right IsGoodSymbol (spell_product p.1) (spell_more ps) h.1)

as_good : (o : Option (List ℕ)) (a : List SignedFactor) → IsGoodName o → Every IsGoodPart a → IsGoodReading (as_reading o a)
as_good None a g h = h
as_good (Some n) a g h = g

single_good : (s : ParsedSide) → AreGood (spell_side s) → IsGoodName (single s)
single_good (text t) h = tt
single_good (sum true p ps) h = tt
single_good (sum false (scaled s n) ps) h = tt
single_good (sum false (constant s) ps) h = tt
single_good (sum false (lone n) []) h = h.0
single_good (sum false (lone n) (q ∷ qs)) h = tt

summed_good : (read : ℕ → ℕ) (minus : Bool) (p : Product) (ps : List (Bool × Product)) → IsGoodName (single (sum minus p ps)) → AreGood (spell_product p ++ spell_more ps) → IsGoodReading (reading_of read (sum minus p ps))
summed_good read minus p ps g h =
    as_good (single (sum minus p ps)) (add_all read (add_factor [] minus (factor read p)) ps) g
    (all_good read (add_factor [] minus (factor read p)) ps (factor_good read p (every-left IsGoodSymbol (spell_product p) (spell_more ps) h), tt) (every-right IsGoodSymbol (spell_product p) (spell_more ps) h))

reading_good : (read : ℕ → ℕ) (s : ParsedSide) → AreGood (spell_side s) → IsGoodReading (reading_of read s)
reading_good read (text t) h = h.0
reading_good read (sum true p ps) h = summed_good read true p ps (single_good (sum true p ps) h) h.1
reading_good read (sum false p ps) h = summed_good read false p ps (single_good (sum false p ps) h) h

-- ---- sums

abbrev AreNamedParts : List (List ℕ × ℤ) → Type 0
AreNamedParts = AllByRecursion (λ (c : List ℕ × ℤ). IsName c.0)

put_good : (ps : List (List ℕ × ℤ)) (n : List ℕ) (z : ℤ) → AreNamedParts ps → IsName n → AreNamedParts (put ps n z)
put_good [] n z g h = (h, tt)
put_good (p ∷ ps) n z g h = go (bytes_eq p.0 n) (put_good ps n z g.1 h)
  where
    go : (b : Bool) → AreNamedParts (put ps n z) → AreNamedParts (if b then (p.0, p.1 +ℤ z) ∷ ps else p ∷ put ps n z)
    go true k = g
    go false k = (g.0, k)

at_good : (a : Sums) (o : Option (List ℕ)) (z : ℤ) → AreNamedParts a.0 → IsGoodName o → AreNamedParts (put_at a o z).0
at_good a None z g h = g
at_good a (Some n) z g h = put_good a.0 n z g h

total_good : (numerator : ℕ → Literal → ℕ) (m : ℕ) (a : Sums) (ps : List SignedFactor) → AreNamedParts a.0 → Every IsGoodPart ps → AreNamedParts (total_from numerator m a ps).0
total_good numerator m a [] g h = g
total_good numerator m a (p ∷ ps) g h =
    total_good numerator m (put_at a p.1.1 (signed p.0 (numerator m p.1.0))) ps (at_good a p.1.1 (signed p.0 (numerator m p.1.0)) g h.0) h.1

-- ---- operands and atoms

operand_good : (value : Reader) (m : ℕ) (r : Reading) → IsGoodReading r → HasWords IsName IsText (operand_over value m r)
operand_good value m (quoted t) h = h
operand_good value m (named n) h = h
operand_good value m (parts ps) h = total_good value.numerator m no_sums ps tt h

argument_good : (value : Reader) (s : ParsedSide) → AreGood (spell_side s) → HasWords IsName IsText (argument value s)
argument_good value s h = operand_good value _ (reading_of value.number s) (reading_good value.number s h)

arguments_good : (value : Reader) (ss : List ParsedSide) → AreGood (spell_rest spell_side ss) → HaveWords IsName IsText (map (argument value) ss)
arguments_good value [] h = tt
arguments_good value (s ∷ ss) h =
    (argument_good value s (every-left IsGoodSymbol (spell_side s) (spell_rest spell_side ss) h.1), arguments_good value ss (every-right IsGoodSymbol (spell_side s) (spell_rest spell_side ss) h.1))

comparison_good : (value : Reader) (c : Comparison) → AreGood (spell_comparison c) → IsWritten IsName IsMember IsText (comparison_form value c)
comparison_good value c h =
    (operand_good value _ (reading_of value.number c.left) (reading_good value.number c.left (every-left IsGoodSymbol (spell_side c.left) (Relation c.op ∷ spell_side c.right) h)), operand_good value _ (reading_of value.number c.right) (reading_good value.number c.right ((every-right IsGoodSymbol (spell_side c.left) (Relation c.op ∷ spell_side c.right) h).1)))

comparisons_good : (value : Reader) (cs : List Comparison) → AreGood (spell_rest spell_comparison cs) → AllAtomsOf (AtomHasWords IsName IsMember IsText) (logics (map (comparison_form value) cs))
comparisons_good value [] h = tt
comparisons_good value (c ∷ cs) h =
    (comparison_good value c (every-left IsGoodSymbol (spell_comparison c) (spell_rest spell_comparison cs) h.1), comparisons_good value cs (every-right IsGoodSymbol (spell_comparison c) (spell_rest spell_comparison cs) h.1))

-- a comparison and those behind it
pub inserted_good : (value : Reader) (c : Comparison) (cs : List Comparison) (after : List Symbol) → AreGood (spell_comparison c ++ (spell_rest spell_comparison cs ++ after)) → AllAtomsOf (AtomHasWords IsName IsMember IsText) (logics (comparison_form value c ∷ map (comparison_form value) cs))
inserted_good value c cs after h =
    (comparison_good value c (every-left IsGoodSymbol (spell_comparison c) (spell_rest spell_comparison cs ++ after) h), comparisons_good value cs (every-left IsGoodSymbol (spell_rest spell_comparison cs) after (every-right IsGoodSymbol (spell_comparison c) (spell_rest spell_comparison cs ++ after) h)))

named_good : (m : Named) → AreGood (spell_named m) → IsMember (name_of m)
named_good (plain n) h = record { named = plain n; is = refl; word = h.0 }
named_good (closed n) h = record { named = closed n; is = refl; word = h.1.1.0 }
named_good (inner n) h = record { named = inner n; is = refl; word = h.1.1.0 }

pub atom_good : (value : Reader) (a : Atom) → AreGood (spell_atom a) → IsWritten IsName IsMember IsText (atom_form value a)
atom_good value (truth true) h = tt
atom_good value (truth false) h = tt
atom_good value (relates c) h = comparison_good value c h
atom_good value (belongs m s ss) h =
    let rest = (every-right IsGoodSymbol (spell_named m) (Open ∷ spell_side s ++ (spell_rest spell_side ss ++ Close ∷ [])) h).1 in
    (named_good m (every-left IsGoodSymbol (spell_named m) (Open ∷ spell_side s ++ (spell_rest spell_side ss ++ Close ∷ [])) h), (argument_good value s (every-left IsGoodSymbol (spell_side s) (spell_rest spell_side ss ++ Close ∷ []) rest), arguments_good value ss (every-left IsGoodSymbol (spell_rest spell_side ss) (Close ∷ []) (every-right IsGoodSymbol (spell_side s) (spell_rest spell_side ss ++ Close ∷ []) rest))))
