-- What a fold over entries says of a name, where each entry changes what is said of its own name alone.
use Rattle.std.proofs.Common.{◌≡◌, ℕ, Bool, true, false, cond, List, [], ◌∷◌, ◌++◌, Some, None, refl, sym, ap, ◌∙◌, bytes_eq}
use Rattle.std.proofs.lemmas.Option.{none-some}
use Rattle.ded_model.specs.Catalogue.{Entry, entry_name}
use Rattle.ded_model.specs.Entries.{entry_of}

module _ {ℓ} {V : Type ℓ} (step : (List ℕ → V) → Entry → List ℕ → V) (from : (List ℕ → V) → List Entry → List ℕ → V)
    (first : (J : List ℕ → V) → from J [] ≡ J) (next : (J : List ℕ → V) (e : Entry) (es : List Entry) → from J (e ∷ es) ≡ from (step J e) es)
    (other : (J : List ℕ → V) (e : Entry) (n : List ℕ) → bytes_eq n (entry_name e) ≡ false → step J e n ≡ J n) where
  -- entries in two parts
  pub parts : (ds es : List Entry) (J : List ℕ → V) → from J (ds ++ es) ≡ from (from J ds) es
  parts [] es J = ap (λ K. from K es) (sym (first J))
  parts (d ∷ ds) es J = next J d (ds ++ es) ∙ parts ds es (step J d) ∙ ap (λ K. from K es) (sym (next J d ds))

  -- of a name of no entry the fold says what was said before
  pub kept : (es : List Entry) (J : List ℕ → V) (n : List ℕ) → entry_of es n ≡ None → from J es n ≡ J n
  kept [] J n h = ap (λ K. K n) (first J)
  kept (e ∷ es) J n h = ap (λ K. K n) (next J e es) ∙ by (bytes_eq n (entry_name e)) refl h (kept es (step J e) n)
    where
      by : (b : Bool) → bytes_eq n (entry_name e) ≡ b → cond b (Some e) (entry_of es n) ≡ None → (entry_of es n ≡ None → from (step J e) es n ≡ step J e n) → from (step J e) es n ≡ J n
      by true b h later = absurd (none-some e (sym h))
      by false b h later = later h ∙ other J e n b

  -- what it says of a name that no entry after this one has
  pub there : (before after es : List Entry) (e : Entry) (J : List ℕ → V) (n : List ℕ) → es ≡ before ++ e ∷ after → entry_of after n ≡ None → from J es n ≡ step (from J before) e n
  there before after es e J n p l =
      ap (λ K. K n) (ap (from J) p ∙ parts before (e ∷ after) J ∙ next (from J before) e after) ∙ kept after (step (from J before) e) n l
