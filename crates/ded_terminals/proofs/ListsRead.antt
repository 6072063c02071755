-- Lists with commas: what is spelled is read, and what is read is spelled.
use Rattle.std.proofs.Common.{◌≡◌, ℕ, zero, suc, ◌<◌, ◌≤◌, Bool, true, false, List, [], ◌∷◌, ◌++◌, length, map, sym, ap, subst, ◌∙◌, append_assoc, arith, length-append}
use Rattle.std.specs.Prelude.{Option, Some}
use Rattle.ded_grammar.specs.Building.{◌>>=◌}
use Rattle.ded_terminals.specs.Symbols.{Symbol, Comma}
use Rattle.ded_terminals.specs.Atoms.{spell_rest}
use Rattle.ded_terminals.specs.AtomReading.{behind_item, list_at}
use Rattle.ded_terminals.proofs.Binds.{bind_some, some_same}

-- the sign behind an item: true where another one is to come
abbrev pub sign_of : Symbol → Bool → Symbol
sign_of ending true = Comma
sign_of ending false = ending

-- a list with its ending before the rest
pub list_tail : {T : Type 0} (spell : T → List Symbol) (x : T) (xs : List T) (ending : Symbol) (rest : List Symbol) → (spell x ++ (spell_rest spell xs ++ ending ∷ [])) ++ rest ≡ spell x ++ (spell_rest spell xs ++ (ending ∷ rest))
list_tail spell x xs ending rest = append_assoc (spell x) (spell_rest spell xs ++ ending ∷ []) rest ∙ ap (λ (l : List Symbol). spell x ++ l) (append_assoc (spell_rest spell xs) (ending ∷ []) rest)

-- a list of items T, which are spelled, mean something in A and are read, each followed by a comma or the closing sign
module _ {T A : Type 0} (spell : T → List Symbol) (mean : T → A) (read : List Symbol → Option (A × List Symbol)) (ends : List Symbol → Option (Bool × List Symbol)) (ending : Symbol) where
  -- an item is read before a comma and before the closing sign
  pub record ReadsItems : Type 0 where
    pub before_comma : (x : T) (rest : List Symbol) → read (spell x ++ (Comma ∷ rest)) ≡ Some (mean x, Comma ∷ rest)
    pub before_close : (x : T) (rest : List Symbol) → read (spell x ++ (ending ∷ rest)) ≡ Some (mean x, ending ∷ rest)
    pub goes_on : (rest : List Symbol) → ends (Comma ∷ rest) ≡ Some (true, rest)
    pub stops : (rest : List Symbol) → ends (ending ∷ rest) ≡ Some (false, rest)

  pub record SoundItems : Type 0 where
    pub item : (ts : List Symbol) (y : A × List Symbol) → read ts ≡ Some y → (x : T) × (ts ≡ spell x ++ y.1) × (y.0 ≡ mean x)
    pub end : (ts : List Symbol) (y : Bool × List Symbol) → ends ts ≡ Some y → ts ≡ sign_of ending y.0 ∷ y.1

  module _ (h : ReadsItems) where
    pub list_read : (xs : List T) (x : T) (rest : List Symbol) (k : ℕ) → length xs < k → list_at read ends k (spell x ++ (spell_rest spell xs ++ (ending ∷ rest))) ≡ Some (mean x ∷ map mean xs, rest)
    list_read xs x rest zero lt = absurd (omega (arith, lt))
    list_read [] x rest (suc k) lt =
        ap (λ (o : Option (A × List Symbol)). o >>= λ x. ends x.1 >>= behind_item (list_at read ends k) x.0) (h.before_close x rest)
        ∙ ap (λ (o : Option (Bool × List Symbol)). o >>= behind_item (list_at read ends k) (mean x)) (h.stops rest)
    list_read (y ∷ ys) x rest (suc k) lt =
        ap (λ (o : Option (A × List Symbol)). o >>= λ x. ends x.1 >>= behind_item (list_at read ends k) x.0) (h.before_comma x ((spell y ++ spell_rest spell ys) ++ (ending ∷ rest)))
        ∙ ap (λ (o : Option (Bool × List Symbol)). o >>= behind_item (list_at read ends k) (mean x)) (h.goes_on ((spell y ++ spell_rest spell ys) ++ (ending ∷ rest)))
        ∙ ap (λ (l : List Symbol). list_at read ends k l >>= λ y. Some (mean x ∷ y.0, y.1)) (append_assoc (spell y) (spell_rest spell ys) (ending ∷ rest))
        ∙ ap (λ (o : Option (List A × List Symbol)). o >>= λ y. Some (mean x ∷ y.0, y.1)) (list_read ys y rest k (omega (arith, lt)))

  abbrev pub AreItems : List Symbol → List A × List Symbol → Type 0
  AreItems ts y = (x : T) × (xs : List T) × (ts ≡ spell x ++ (spell_rest spell xs ++ (ending ∷ y.1))) × (y.0 ≡ mean x ∷ map mean xs)

  module _ (h : SoundItems) where
    last_item : (ts us : List Symbol) (x : T) (a : A) (rest : List Symbol) (y : List A × List Symbol) → ts ≡ spell x ++ us → a ≡ mean x → us ≡ ending ∷ rest → Some (a ∷ [], rest) ≡ Some y → AreItems ts y
    last_item ts us x a rest y e m f s =
        subst (AreItems ts) (some_same _ y s) (x, [], e ∙ ap (λ (l : List Symbol). spell x ++ l) f, ap (λ (b : A). b ∷ []) m)

    more_items : (ts us : List Symbol) (x : T) (a : A) (rest : List Symbol) (z y : List A × List Symbol) → ts ≡ spell x ++ us → a ≡ mean x → us ≡ Comma ∷ rest → AreItems rest z → Some (a ∷ z.0, z.1) ≡ Some y → AreItems ts y
    more_items ts us x a rest z y e m f (w, ws, g, n) s =
        subst (AreItems ts) (some_same _ y s) (
          x,
          w ∷ ws,
          e ∙ ap (λ (l : List Symbol). spell x ++ l) (f ∙ ap (λ (l : List Symbol). Comma ∷ l) (g ∙ sym (append_assoc (spell w) (spell_rest spell ws) (ending ∷ z.1)))),
          ap (λ (b : A). b ∷ z.0) m ∙ ap (λ (l : List A). mean x ∷ l) n,
        )

    module _ (k : ℕ) (again : (ts : List Symbol) (y : List A × List Symbol) → list_at read ends k ts ≡ Some y → AreItems ts y) where
      behind : (ts us : List Symbol) (x : T) (a : A) (b : Bool) (rest : List Symbol) (y : List A × List Symbol) → ts ≡ spell x ++ us → a ≡ mean x → us ≡ sign_of ending b ∷ rest → behind_item (list_at read ends k) a (b, rest) ≡ Some y → AreItems ts y
      behind ts us x a false rest y e m f s = last_item ts us x a rest y e m f s
      behind ts us x a true rest y e m f s =
          let z = bind_some (list_at read ends k rest) (λ y. Some (a ∷ y.0, y.1)) y s in
          more_items ts us x a rest z.0 y e m f (again rest z.0 z.1) z.2

      one_more : (ts : List Symbol) (y : List A × List Symbol) → list_at read ends (suc k) ts ≡ Some y → AreItems ts y
      one_more ts y e =
          let b = bind_some (read ts) (λ x. ends x.1 >>= behind_item (list_at read ends k) x.0) y e in
          let c = bind_some (ends b.0.1) (behind_item (list_at read ends k) b.0.0) y b.2 in
          let i = h.item ts b.0 b.1 in
          behind ts b.0.1 i.0 b.0.0 c.0.0 c.0.1 y i.1 i.2 (h.end b.0.1 c.0 c.1) c.2

    pub list_sound : (k : ℕ) (ts : List Symbol) (y : List A × List Symbol) → list_at read ends k ts ≡ Some y → AreItems ts y
    list_sound zero ts y e = absurd cc
    list_sound (suc k) ts y e = one_more k (λ us z. list_sound k us z) ts y e

  short_rest : (xs : List T) → length xs ≤ length (spell_rest spell xs)
  short_rest [] = omega arith
  short_rest (x ∷ xs) = omega (arith, short_rest xs, length-append (spell x) (spell_rest spell xs))

  -- a list has fewer items than symbols
  pub few_items : (x : T) (xs : List T) (rest : List Symbol) → length xs < length (spell x ++ (spell_rest spell xs ++ (ending ∷ rest)))
  few_items x xs rest = omega (arith, short_rest xs, length-append (spell x) (spell_rest spell xs ++ (ending ∷ rest)), length-append (spell_rest spell xs) (ending ∷ rest))
