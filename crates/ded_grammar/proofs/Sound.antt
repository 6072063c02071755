-- What is scanned is spelled.
use Rattle.std.proofs.Common.{◌≡◌, ℕ, zero, suc, true, List, [], ◌∷◌, ◌++◌, refl, sym, ap, subst, ◌∙◌, append_assoc, arith}
use Rattle.std.proofs.lemmas.List.{append-nil}
use Rattle.ded_num.proofs.Tests.{is_zero}
use Rattle.ded_grammar.specs.declared.scan.Spot.{Spot}
use Rattle.ded_grammar.specs.declared.scan.Spot.TheVariants.{Start, Within, After}
use Rattle.ded_grammar.specs.Trees.{TerminalForm, nay, conjunct, disjunct, arrow, opening, closing, binder, leaf, Whole, only, follows, Either, either_last, either_more, Both, both_last, both_more, One, negated, bound, grouped, plain, Body, bound_again, around, spell, spell_either, spell_both, spell_one, spell_body}
use Rattle.ded_grammar.specs.Scanning.{scan}

-- what may stand after a formula inside n parentheses: their ends, each with what may stand after a unit
abbrev Rest : ℕ → List TerminalForm → Type 0
Rest zero ps = ps ≡ []
Rest (suc n) ps = (more : List TerminalForm) × (ps ≡ closing ∷ more) × ((u : One) → (w : Whole) × (rest : List TerminalForm) × (spell_one u ++ more ≡ spell w ++ rest) × Rest n rest)

abbrev Left : ℕ → List TerminalForm → Type 0
Left n ps = (w : Whole) × (rest : List TerminalForm) × (ps ≡ spell w ++ rest) × Rest n rest

-- what may stand after a unit
abbrev Tail : ℕ → List TerminalForm → Type 0
Tail n ps = (u : One) → Left n (spell_one u ++ ps)

abbrev LeftBody : ℕ → List TerminalForm → Type 0
LeftBody n ps = (b : Body) × (rest : List TerminalForm) × (ps ≡ spell_body b ++ rest) × Tail n rest

abbrev Missing : Spot → ℕ → List TerminalForm → Type 0
Missing Start n ps = Left n ps
Missing Within n ps = LeftBody n ps
Missing After n ps = Tail n ps

abbrev alone : One → Whole
alone u = only (either_last (both_last u))

-- a unit and a sign before a formula
abbrev and_both : One → Both → Both
and_both u b = both_more u b

abbrev and_either : One → Either → Either
and_either u (either_last b) = either_last (both_more u b)
and_either u (either_more b e) = either_more (both_more u b) e

abbrev and_whole : One → Whole → Whole
and_whole u (only e) = only (and_either u e)
and_whole u (follows e w) = follows (and_either u e) w

abbrev or_whole : One → Whole → Whole
or_whole u (only e) = only (either_more (both_last u) e)
or_whole u (follows e w) = follows (either_more (both_last u) e) w

abbrev arrow_whole : One → Whole → Whole
arrow_whole u w = follows (either_last (both_last u)) w

spell_and_either : (u : One) (e : Either) → spell_either (and_either u e) ≡ spell_one u ++ conjunct ∷ spell_either e
spell_and_either u (either_last b) = refl
spell_and_either u (either_more b e) = append_assoc (spell_one u) (conjunct ∷ spell_both b) (disjunct ∷ spell_either e)

spell_and : (u : One) (w : Whole) → spell (and_whole u w) ≡ spell_one u ++ conjunct ∷ spell w
spell_and u (only e) = spell_and_either u e
spell_and u (follows e w) = ap (λ (l : List TerminalForm). l ++ arrow ∷ spell w) (spell_and_either u e) ∙ append_assoc (spell_one u) (conjunct ∷ spell_either e) (arrow ∷ spell w)

spell_or : (u : One) (w : Whole) → spell (or_whole u w) ≡ spell_one u ++ disjunct ∷ spell w
spell_or u (only e) = refl
spell_or u (follows e w) = append_assoc (spell_one u) (disjunct ∷ spell_either e) (arrow ∷ spell w)

-- not before the first unit
abbrev not_both : Both → Both
not_both (both_last u) = both_last (negated u)
not_both (both_more u b) = both_more (negated u) b

abbrev not_either : Either → Either
not_either (either_last b) = either_last (not_both b)
not_either (either_more b e) = either_more (not_both b) e

abbrev not_whole : Whole → Whole
not_whole (only e) = only (not_either e)
not_whole (follows e w) = follows (not_either e) w

spell_not_both : (b : Both) → spell_both (not_both b) ≡ nay ∷ spell_both b
spell_not_both (both_last u) = refl
spell_not_both (both_more u b) = refl

spell_not_either : (e : Either) → spell_either (not_either e) ≡ nay ∷ spell_either e
spell_not_either (either_last b) = spell_not_both b
spell_not_either (either_more b e) = ap (λ (l : List TerminalForm). l ++ disjunct ∷ spell_either e) (spell_not_both b)

spell_not : (w : Whole) → spell (not_whole w) ≡ nay ∷ spell w
spell_not (only e) = spell_not_either e
spell_not (follows e w) = ap (λ (l : List TerminalForm). l ++ arrow ∷ spell w) (spell_not_either e)

-- a sign and a formula after a unit
joins : (n : ℕ) (sign : TerminalForm) (ps : List TerminalForm) (put : One → Whole → Whole) → ((u : One) (w : Whole) → spell (put u w) ≡ spell_one u ++ sign ∷ spell w) → Left n ps → Tail n (sign ∷ ps)
joins n sign ps put h (w, rest, e, r) u =
    (put u w, rest, ap (λ (l : List TerminalForm). spell_one u ++ sign ∷ l) e ∙ sym (append_assoc (spell_one u) (sign ∷ spell w) rest) ∙ ap (λ (l : List TerminalForm). l ++ rest) (sym (h u w)), r)

closes : (n : ℕ) (w : Whole) (rest ps more : List TerminalForm) → ps ≡ spell w ++ rest → rest ≡ closing ∷ more → opening ∷ ps ≡ (opening ∷ spell w ++ closing ∷ []) ++ more
closes n w rest ps more e f = ap (λ (l : List TerminalForm). opening ∷ l) (e ∙ ap (λ (l : List TerminalForm). spell w ++ l) f ∙ sym (append_assoc (spell w) (closing ∷ []) more))

ended : (n : ℕ) → n ≡ 0 → Tail n []
ended zero e u = (alone u, [], refl, refl)
ended (suc n) e u = absurd (omega arith)

pub sound : (s : Spot) (n : ℕ) (ps : List TerminalForm) → scan s n ps ≡ true → Missing s n ps
sound After n [] h = ended n (is_zero n h)
sound After n (conjunct ∷ ps) h = joins n conjunct ps and_whole spell_and (sound Start n ps h)
sound After n (disjunct ∷ ps) h = joins n disjunct ps or_whole spell_or (sound Start n ps h)
sound After n (arrow ∷ ps) h = joins n arrow ps arrow_whole (λ u w. refl) (sound Start n ps h)
sound After (suc n) (closing ∷ ps) h = λ u. (alone u, closing ∷ ps, refl, (ps, refl, sound After n ps h))
sound Start n (nay ∷ ps) h =
    let m = sound Start n ps h in
    (not_whole m.0, m.1, ap (λ (l : List TerminalForm). nay ∷ l) m.2 ∙ ap (λ (l : List TerminalForm). l ++ m.1) (sym (spell_not m.0)), m.3)
sound Start n (opening ∷ ps) h =
    let m = sound Start (suc n) ps h in
    subst (Left n) (sym (closes n m.0 m.1 ps m.3.0 m.2 m.3.1)) (m.3.2 (grouped m.0))
sound Start n (binder q c ∷ ps) h =
    let m = sound Within n ps h in
    subst (λ (l : List TerminalForm). Left n (binder q c ∷ l)) (sym m.2) (m.3 (bound q c m.0))
sound Start n (leaf f ∷ ps) h = sound After n ps h (plain f)
sound Within n (opening ∷ ps) h =
    let m = sound Start (suc n) ps h in
    (around m.0, m.3.0, closes n m.0 m.1 ps m.3.0 m.2 m.3.1, m.3.2)
sound Within n (binder q c ∷ ps) h =
    let m = sound Within n ps h in
    (bound_again q c m.0, m.1, ap (λ (l : List TerminalForm). binder q c ∷ l) m.2, m.3)
sound s n ps h = absurd cc

pub spelled : (ps : List TerminalForm) → scan Start 0 ps ≡ true → (w : Whole) × (spell w ≡ ps)
spelled ps h =
    let m = sound Start 0 ps h in
    (m.0, sym (m.2 ∙ ap (λ (l : List TerminalForm). spell m.0 ++ l) m.3 ∙ append-nil (spell m.0)))
