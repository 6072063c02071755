-- Sides: what is read is spelled.
use Rattle.std.proofs.Common.{◌≡◌, ℕ, zero, suc, Bool, true, false, List, [], ◌∷◌, ◌++◌, length, refl, sym, ap, subst, ◌∙◌, append_assoc}
use Rattle.std.specs.Prelude.{Option, Some, None, ◌==◌, if◌then◌else◌}
use Rattle.ded_grammar.specs.Building.{◌>>=◌}
use Rattle.ded_terminals.specs.Symbols.{Symbol, Name, Number, Decimal, Quoted, Plus, Minus, Times, Slash, number_of}
use Rattle.ded_terminals.specs.Literals.{Scalar, whole, quotient, decimal, spell_scalar, Literal, lowest, literal}
use Rattle.ded_terminals.specs.Operands.{Product, scaled, constant, lone, ParsedSide, text, sum, spell_product, spell_sign, spell_more, spell_side, SignedFactor, Factor, factor, add_factor, add_all, Reading, parts, as_reading, single, reading_of}
use Rattle.ded_terminals.specs.OperandReading.{name_at, quotient_at, scalar_at, behind_scalar, product_by_scalar, product_at, sign_at, more_at, sum_at, behind_name, side_at}
use Rattle.ded_terminals.proofs.Binds.{bind_some, some_same}
use Rattle.ded_terminals.proofs.OperandsRead.{made}

-- these symbols, read as this literal, and those after them
abbrev IsScalar : (ℕ → ℕ) → List Symbol → Literal × List Symbol → Type 0
IsScalar read ts x = (s : Scalar) × (ts ≡ spell_scalar s ++ x.1) × (x.0 ≡ literal read s)

quotient_sound : (read : ℕ → ℕ) (d e : List ℕ) (ts : List Symbol) (x : Literal × List Symbol) → quotient_at read d e ts ≡ Some x → IsScalar read (Number d ∷ Slash ∷ Number e ∷ ts) x
quotient_sound read d e ts x h = by (number_of e == 0) refl h
  where
    by : (b : Bool) → (number_of e == 0) ≡ b → (if b then None else Some (lowest (read (number_of d)) (read (number_of e)), ts)) ≡ Some x → IsScalar read (Number d ∷ Slash ∷ Number e ∷ ts) x
    by true z f = absurd cc
    by false z f = subst (IsScalar read (Number d ∷ Slash ∷ Number e ∷ ts)) (some_same _ x f) (quotient d e z, refl, refl)

scalar_sound : (read : ℕ → ℕ) (ts : List Symbol) (x : Literal × List Symbol) → scalar_at read ts ≡ Some x → IsScalar read ts x
scalar_sound read (Number d ∷ ts) x e = by ts e
  where
    by : (us : List Symbol) → scalar_at read (Number d ∷ us) ≡ Some x → IsScalar read (Number d ∷ us) x
    by [] e = subst (IsScalar read (Number d ∷ [])) (some_same _ x e) (whole d, refl, refl)
    by (Slash ∷ Number b ∷ us) e = quotient_sound read d b us x e
    by (Slash ∷ us) e = absurd cc
    by (t ∷ us) e = subst (IsScalar read (Number d ∷ t ∷ us)) (some_same _ x e) (whole d, refl, refl)
scalar_sound read (Decimal t ∷ ts) x e = subst (IsScalar read (Decimal t ∷ ts)) (some_same _ x e) (decimal t, refl, refl)
scalar_sound read ts x e = absurd cc

-- these symbols, read as this product, and those after them
abbrev pub IsProduct : (ℕ → ℕ) → List Symbol → Factor × List Symbol → Type 0
IsProduct value ts x = (p : Product) × (ts ≡ spell_product p ++ x.1) × (x.0 ≡ factor value p)

behind_sound : (value : ℕ → ℕ) (s : Scalar) (us : List Symbol) (x : Factor × List Symbol) → behind_scalar (literal value s) us ≡ Some x → IsProduct value (spell_scalar s ++ us) x
behind_sound value s [] x e = subst (IsProduct value (spell_scalar s ++ [])) (some_same _ x e) (constant s, refl, refl)
behind_sound value s (Times ∷ Name n ∷ us) x e = subst (IsProduct value (spell_scalar s ++ Times ∷ Name n ∷ us)) (some_same _ x e) (scaled s n, sym (append_assoc (spell_scalar s) (Times ∷ Name n ∷ []) us), refl)
behind_sound value s (Times ∷ us) x e = absurd cc
behind_sound value s (t ∷ us) x e = subst (IsProduct value (spell_scalar s ++ t ∷ us)) (some_same _ x e) (constant s, refl, refl)

name_sound : (value : ℕ → ℕ) (ts : List Symbol) (x : Factor × List Symbol) → (name_at ts >>= λ n. Some (((1, 1), Some n.0), n.1)) ≡ Some x → IsProduct value ts x
name_sound value (Name n ∷ ts) x e = subst (IsProduct value (Name n ∷ ts)) (some_same _ x e) (lone n, refl, refl)
name_sound value ts x e = absurd cc

pub product_sound : (value : ℕ → ℕ) (ts : List Symbol) (x : Factor × List Symbol) → product_at value ts ≡ Some x → IsProduct value ts x
product_sound value ts x e = by (scalar_at value ts) refl e
  where
    by : (o : Option (Literal × List Symbol)) → scalar_at value ts ≡ o → product_by_scalar ts o ≡ Some x → IsProduct value ts x
    by None h f = name_sound value ts x f
    by (Some l) h f =
        let s = scalar_sound value ts l h in
        subst (λ (us : List Symbol). IsProduct value us x) (sym s.1)
        (behind_sound value s.0 l.1 x (ap (λ (y : Literal). behind_scalar y l.1) (sym s.2) ∙ f))

abbrev IsMore : (ℕ → ℕ) → List SignedFactor → List Symbol → List SignedFactor × List Symbol → Type 0
IsMore value a ts x = (ps : List (Bool × Product)) × (ts ≡ spell_more ps ++ x.1) × (x.0 ≡ add_all value a ps) × (sign_at x.1 ≡ None)

module _ (value : ℕ → ℕ) (k : ℕ) (again : (b : List SignedFactor) (us : List Symbol) (y : List SignedFactor × List Symbol) → more_at value k b us ≡ Some y → IsMore value b us y) (a : List SignedFactor) (x : List SignedFactor × List Symbol) where
  goes_on : (minus : Bool) (rest : List Symbol) → (product_at value rest >>= λ p. more_at value k (add_factor a minus p.0) p.1) ≡ Some x → IsMore value a (spell_sign minus ∷ rest) x
  goes_on minus rest f =
      let b = bind_some (product_at value rest) (λ p. more_at value k (add_factor a minus p.0) p.1) x f in
      let p = product_sound value rest b.0 b.1 in
      let m = again (add_factor a minus b.0.0) b.0.1 x b.2 in (
        (minus, p.0) ∷ m.0,
        ap (λ (l : List Symbol). spell_sign minus ∷ l) (p.1 ∙ ap (λ (l : List Symbol). spell_product p.0 ++ l) m.1 ∙ sym (append_assoc (spell_product p.0) (spell_more m.0) x.1)),
        m.2 ∙ ap (λ (q : Factor). add_all value (add_factor a minus q) m.0) p.2,
        m.3,
      )

  stops : (us : List Symbol) → sign_at us ≡ None → Some (a, us) ≡ Some x → IsMore value a us x
  stops us n f = subst (IsMore value a us) (some_same _ x f) ([], refl, refl, n)

  more_here : (us : List Symbol) → more_at value (suc k) a us ≡ Some x → IsMore value a us x
  more_here [] f = stops [] refl f
  more_here (Plus ∷ vs) f = goes_on false vs f
  more_here (Minus ∷ vs) f = goes_on true vs f
  more_here (t ∷ vs) f = stops (t ∷ vs) refl f

more_sound : (k : ℕ) (value : ℕ → ℕ) (a : List SignedFactor) (ts : List Symbol) (x : List SignedFactor × List Symbol) → more_at value k a ts ≡ Some x → IsMore value a ts x
more_sound zero value a ts x e = absurd cc
more_sound (suc k) value a ts x e = more_here value k (λ b us y. more_sound k value b us y) a x ts e

-- an operand that is read is spelled
abbrev pub IsSide : (ℕ → ℕ) → List Symbol → Reading × List Symbol → Type 0
IsSide value ts x = (s : ParsedSide) × (ts ≡ spell_side s ++ x.1) × (x.0 ≡ reading_of value s)

abbrev IsSum : (ℕ → ℕ) → Bool → List Symbol → List SignedFactor × List Symbol → Type 0
IsSum value minus ts x = (p : Product) × (ps : List (Bool × Product)) × (ts ≡ spell_product p ++ (spell_more ps ++ x.1)) × (x.0 ≡ add_all value (add_factor [] minus (factor value p)) ps) × (sign_at x.1 ≡ None)

sum_sound : (value : ℕ → ℕ) (minus : Bool) (ts : List Symbol) (x : List SignedFactor × List Symbol) → sum_at value minus ts ≡ Some x → IsSum value minus ts x
sum_sound value minus ts x e =
    let b = bind_some (product_at value ts) (λ p. more_at value (suc (length p.1)) (add_factor [] minus p.0) p.1) x e in
    let p = product_sound value ts b.0 b.1 in
    let m = more_sound (suc (length b.0.1)) value (add_factor [] minus b.0.0) b.0.1 x b.2 in
    (p.0, m.0, p.1 ∙ ap (λ (l : List Symbol). spell_product p.0 ++ l) m.1, m.2 ∙ ap (λ (q : Factor). add_all value (add_factor [] minus q) m.0) p.2, m.3)

made_sound : (o : Option (List SignedFactor × List Symbol)) (x : Reading × List Symbol) → made o ≡ Some x → (y : List SignedFactor × List Symbol) × (o ≡ Some y) × (x ≡ (parts y.0, y.1))
made_sound o x e =
    let b = bind_some o (λ y. Some (parts y.0, y.1)) x e in
    (b.0, b.1, sym (some_same _ x b.2))

-- a sum of several products, or of one that isn't a name alone, is no single name
several : (value : ℕ → ℕ) (minus : Bool) (p : Product) (ps : List (Bool × Product)) (ts : List Symbol) (x : Reading × List Symbol) (y : List SignedFactor × List Symbol) → single (sum minus p ps) ≡ None → ts ≡ spell_side (sum minus p ps) ++ y.1 → y.0 ≡ add_all value (add_factor [] minus (factor value p)) ps → x ≡ (parts y.0, y.1) → IsSide value ts x
several value minus p ps ts x y none e f g = (
  sum minus p ps,
  e ∙ ap (λ (z : Reading × List Symbol). spell_side (sum minus p ps) ++ z.1) (sym g),
  ap (λ (z : Reading × List Symbol). z.0) g ∙ ap parts f ∙ ap (λ (o : Option (List ℕ)). as_reading o (add_all value (add_factor [] minus (factor value p)) ps)) (sym none),
)

minus_sound : (value : ℕ → ℕ) (ts : List Symbol) (x : Reading × List Symbol) → made (sum_at value true ts) ≡ Some x → IsSide value (Minus ∷ ts) x
minus_sound value ts x e =
    let y = made_sound (sum_at value true ts) x e in
    let p = sum_sound value true ts y.0 y.1 in
    several value true p.0 p.1 (Minus ∷ ts) x y.0 refl (ap (λ (l : List Symbol). Minus ∷ l) (p.2 ∙ sym (append_assoc (spell_product p.0) (spell_more p.1) y.0.1))) p.3 y.2

literal_side : (value : ℕ → ℕ) (ts : List Symbol) (x : Reading × List Symbol) → ((n : List ℕ) (us : List Symbol) → ts ≡ Name n ∷ us → ⊥) → made (sum_at value false ts) ≡ Some x → IsSide value ts x
literal_side value ts x other e =
    let y = made_sound (sum_at value false ts) x e in
    let p = sum_sound value false ts y.0 y.1 in
    several value false p.0 p.1 ts x y.0 (not_lone p.0 p.1 (spell_more p.1 ++ y.0.1) p.2) (p.2 ∙ sym (append_assoc (spell_product p.0) (spell_more p.1) y.0.1)) p.3 y.2
  where
    not_lone : (q : Product) (qs : List (Bool × Product)) (us : List Symbol) → ts ≡ spell_product q ++ us → single (sum false q qs) ≡ None
    not_lone (scaled s n) qs us e = refl
    not_lone (constant s) qs us e = refl
    not_lone (lone n) qs us e = absurd (other n us e)

name_side : (value : ℕ → ℕ) (n : List ℕ) (minus : Bool) (ts : List Symbol) (x : Reading × List Symbol) → made (sum_at value false (Name n ∷ spell_sign minus ∷ ts)) ≡ Some x → IsSide value (Name n ∷ spell_sign minus ∷ ts) x
name_side value n minus ts x e =
    let y = made_sound (sum_at value false (Name n ∷ spell_sign minus ∷ ts)) x e in
    let p = sum_sound value false (Name n ∷ spell_sign minus ∷ ts) y.0 y.1 in
    several value false p.0 p.1 (Name n ∷ spell_sign minus ∷ ts) x y.0 (not_alone p.0 p.1 y.0.1 p.2 p.4) (p.2 ∙ sym (append_assoc (spell_product p.0) (spell_more p.1) y.0.1)) p.3 y.2
  where
    tail_same : (t u : Symbol) (ts us : List Symbol) → t ∷ ts ≡ u ∷ us → ts ≡ us
    tail_same t u ts us e = cc

    signs : (m : Bool) (us : List Symbol) → sign_at (spell_sign m ∷ us) ≡ None → ⊥
    signs true us h = cc
    signs false us h = cc

    not_alone : (q : Product) (qs : List (Bool × Product)) (us : List Symbol) → Name n ∷ spell_sign minus ∷ ts ≡ spell_product q ++ (spell_more qs ++ us) → sign_at us ≡ None → single (sum false q qs) ≡ None
    not_alone (scaled d m) qs us e h = refl
    not_alone (constant d) qs us e h = refl
    not_alone (lone m) [] us e h = absurd (signs minus ts (ap sign_at (tail_same _ _ _ _ e) ∙ h))
    not_alone (lone m) (r ∷ rs) us e h = refl

pub side_sound : (value : ℕ → ℕ) (ts : List Symbol) (x : Reading × List Symbol) → side_at value ts ≡ Some x → IsSide value ts x
side_sound value (Quoted s ∷ ts) x e = subst (IsSide value (Quoted s ∷ ts)) (some_same _ x e) (text s, refl, refl)
side_sound value (Minus ∷ ts) x e = minus_sound value ts x e
side_sound value (Number d ∷ ts) x e = literal_side value (Number d ∷ ts) x (λ n us f. absurd cc) e
side_sound value (Decimal t ∷ ts) x e = literal_side value (Decimal t ∷ ts) x (λ n us f. absurd cc) e
side_sound value (Name n ∷ ts) x e = named ts x e
  where
    named : (us : List Symbol) (x : Reading × List Symbol) → behind_name value (Name n ∷ us) (n, us) (sign_at us) ≡ Some x → IsSide value (Name n ∷ us) x
    named [] x e = subst (IsSide value (Name n ∷ [])) (some_same _ x e) (sum false (lone n) [], refl, refl)
    named (Plus ∷ us) x e = name_side value n false us x e
    named (Minus ∷ us) x e = name_side value n true us x e
    named (t ∷ us) x e = subst (IsSide value (Name n ∷ t ∷ us)) (some_same _ x e) (sum false (lone n) [], refl, refl)
side_sound value ts x e = absurd cc
