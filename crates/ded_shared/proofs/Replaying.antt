-- Steps one after another, and changes that are made again.
use Rattle.std.proofs.Common.{◌≡◌, ℕ, Bool, true, false, not, ◌&&◌, ◌||◌, List, [], ◌∷◌, ◌++◌, if◌then◌else◌, refl, sym, ap, ◌∙◌, subst, true≢false, bytes_eq}
use Rattle.std.proofs.lemmas.Bool.{and_parts, not-true}
use Rattle.ded_lex.specs.Pieces.{Statement, Whole}
use Rattle.ded_model.specs.declared.command.Language.{Language}
use Rattle.ded_model.specs.declared.command.Language.TheVariants.{One}
use Rattle.ded_model.specs.Catalogue.{Catalogue}
use Rattle.ded_model.specs.Command.{CommandForm, relation, insert, delete, drop, view, header, keep, ask, query, show, box_of, explain, dump, disjoint, verify}
use Rattle.ded_model.specs.Known.{IsWellFormed}
use Rattle.ded_model.proofs.Bools.{bytes_eq-refl}
use Rattle.ded_model.proofs.Rows.{or_left}
use Rattle.ded_syntax.specs.Spelling.{Spells}
use Rattle.ded_syntax.proofs.One.{one_command}
use Rattle.ded_shared.specs.Agreeing.{Agree}
use Rattle.ded_shared.specs.Touching.{touches, changes, depends_on_names, uses_name}
use Rattle.ded_session.proofs.Making.{Makes, step_makes, refused_same}
use Rattle.ded_session.proofs.OneCatalogue.{one_after}
use Rattle.ded_session.specs.Replies.{ReplyForm, is_refusal, done, number}
use Rattle.ded_session.specs.Runs.{Steps}
use Rattle.ded_session.specs.Steps.{Step}
use Rattle.ded_shared.specs.Events.{Told, statements_of, replies_of}
use Rattle.ded_shared.specs.Rules.{is_change, Replays}
use Rattle.ded_shared.specs.Serial.{AreSteps}

-- ---- steps

-- a whole piece and its reply
abbrev pub told : List ℕ → ReplyForm → Told
told bytes reply = record { statement = Whole bytes; reply = reply }

pub steps_one : (c d : Catalogue) (t : Told) → Step One c t.statement t.reply d → AreSteps c (t ∷ []) d
steps_one c d t p = (d, One, p, refl, refl)

pub steps_join : (ts us : List Told) (c d e : Catalogue) → AreSteps c ts d → AreSteps d us e → AreSteps c (ts ++ us) e
steps_join [] us c d e p q = subst (λ y. AreSteps y us e) p q
steps_join (t ∷ ts) us c d e p q = (p.0, One, p.2, refl, steps_join ts us p.0 d e (subst (λ l. Steps l p.0 (statements_of ts) (replies_of ts) d) p.3 p.4) q)

pub replays_join : (xs ys : List (List ℕ)) (c d e : Catalogue) → Replays xs c d → Replays ys d e → Replays (xs ++ ys) c e
replays_join [] ys c d e p q = subst (λ y. Replays ys y e) p q
replays_join (x ∷ xs) ys c d e p q = (p.0, p.1, p.2, p.3, replays_join xs ys p.1 d e p.4 q)

-- ---- one catalogue

-- a statement makes a well formed catalogue of one
abbrev pub KeepsFormed : Type 0
KeepsFormed = (language : Language) (c d : Catalogue) (s : Statement) (reply : ReplyForm) → IsWellFormed c → Step language c s reply d → IsWellFormed d

pub one_replay : KeepsFormed → (xs : List (List ℕ)) (c d e : Catalogue) → IsWellFormed c → Replays xs c d → Replays xs c e → d ≡ e
one_replay formed [] c d e w p q = p ∙ sym q
one_replay formed (x ∷ xs) c d e w p q =
    let same = one_after One c p.1 q.1 (Whole x) p.0 q.0 w p.2 q.2 p.3 q.3 in
    one_replay formed xs p.1 d e (formed One c p.1 (Whole x) p.0 w p.2) p.4 (subst (λ y. Replays xs y e) (sym same) q.4)

-- ---- commands that change nothing

makes_same : (x : CommandForm) (c d : Catalogue) → is_change x ≡ false → Makes x c d → d ≡ c
makes_same header c d h k = k
makes_same (keep n) c d h k = k
makes_same (ask f) c d h k = k
makes_same (query g f) c d h k = k
makes_same (show n) c d h k = k
makes_same (box_of n) c d h k = k
makes_same (explain g f) c d h k = k
makes_same dump c d h k = k
makes_same (disjoint n m) c d h k = k
makes_same (verify n m es) c d h k = k
makes_same (relation n g) c d h k = absurd (true≢false h)
makes_same (insert n fs) c d h k = absurd (true≢false h)
makes_same (delete n i) c d h k = absurd (true≢false h)
makes_same (drop n) c d h k = absurd (true≢false h)
makes_same (view n g f) c d h k = absurd (true≢false h)

-- what is no accepted change leaves the catalogue
pub no_change : (c d : Catalogue) (bytes : List ℕ) (x : CommandForm) (depth : ℕ) (reply : ReplyForm) → Spells One bytes x depth
    → (is_change x && not (is_refusal reply)) ≡ false → Step One c (Whole bytes) reply d → d ≡ c
no_change c d bytes x depth reply spells h p = by (is_refusal reply) refl
  where
    changeless : (a b : Bool) → b ≡ false → (a && not b) ≡ false → a ≡ false
    changeless true true e i = absurd (true≢false e)
    changeless true false e i = i
    changeless false b e i = refl

    by : (b : Bool) → is_refusal reply ≡ b → d ≡ c
    by true e = refused_same One c d (Whole bytes) reply e p
    by false e =
        let a = step_makes One c d (Whole bytes) reply e p in
        let is = (one_command One bytes a.command x a.depth depth a.spells spells).0 in
        makes_same x c d (changeless (is_change x) (is_refusal reply) e h) (subst (λ y. Makes y c d) is a.so)

-- the accepted changes, and behind them the statement where it is one
pub replays_more : (bytes : List ℕ) (x : CommandForm) (depth : ℕ) (reply : ReplyForm) → Spells One bytes x depth → (old new : List (List ℕ))
    → new ≡ (if is_change x && not (is_refusal reply) then old ++ bytes ∷ [] else old) → (c d e : Catalogue) → Replays old c d → Step One d (Whole bytes) reply e → Replays new c e
replays_more bytes x depth reply spells old new is c d e p q = subst (λ xs. Replays xs c e) (sym is) (by (is_change x && not (is_refusal reply)) refl)
  where
    by : (b : Bool) → (is_change x && not (is_refusal reply)) ≡ b → Replays (if b then old ++ bytes ∷ [] else old) c e
    by true h = replays_join old (bytes ∷ []) c d e p (reply, e, q, not-true _ (and_parts (is_change x) _ h).1, refl)
    by false h = subst (λ y. Replays old c y) (sym (no_change d e bytes x depth reply spells h q)) p

-- ---- changed names

-- a command changes the same names over catalogues that agree on what it touches
pub same_changes : (c d : Catalogue) (among : List ℕ → Bool) (x : CommandForm) (reply : ReplyForm) (n : List ℕ) → Agree c d among
    → ((m : List ℕ) → (depends_on_names reply && touches c x m) ≡ true → among m ≡ true) → changes d x reply n ≡ changes c x reply n
same_changes c d among (drop m) done n a within =
    ap (λ o. bytes_eq m n || uses_name o n) (a.same m (within m (or_left _ _ (or_left _ _ (or_left _ _ (bytes_eq-refl m))))))
same_changes c d among (relation m h) done n a within = refl
same_changes c d among (insert m fs) (number k) n a within = refl
same_changes c d among (delete m k) done n a within = refl
same_changes c d among (view m h f) done n a within = refl
same_changes c d among _ _ n a within = refl
