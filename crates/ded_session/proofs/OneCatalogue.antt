-- An accepted command makes one catalogue of a well formed one, whatever its reply.
--
-- Each name has one entry, so a change parts the entries in one way.
use Rattle.std.proofs.Common.{◌≡◌, ℕ, Bool, false, cond, List, [], ◌∷◌, ◌++◌, sym, ap, ◌∙◌, subst, bytes_eq}
use Rattle.std.specs.List.{list_any}
use Rattle.ded_lex.specs.Pieces.{Statement, Whole}
use Rattle.ded_lex.specs.Pieces as pieces
use Rattle.ded_model.specs.declared.command.Language.{Language}
use Rattle.ded_model.specs.Catalogue.{Entry, Catalogue, entry_name}
use Rattle.ded_model.specs.Command.{CommandForm, relation, insert, delete, drop, view}
use Rattle.ded_model.specs.Entries.{columns_in}
use Rattle.ded_model.specs.Known.{AreEntriesOver, IsWellFormed}
use Rattle.ded_model.specs.Slotted.{tuple_of}
use Rattle.ded_model.proofs.Bools.{or_false_left, or_false_right, bytes_eq-refl}
use Rattle.ded_session.specs.Replies.{ReplyForm, is_refusal}
use Rattle.ded_session.specs.Steps.{Accepts, Step}
use Rattle.ded_session.proofs.Making.{Makes, step_makes}
use Rattle.ded_sorts.specs.Changes.{DropsEntry}
use Rattle.ded_sorts.specs.Checks.{forms_of}
use Rattle.ded_syntax.proofs.One.{one_command}
use Rattle.ded_views.proofs.Changing.{none_before}
use Rattle.ded_views.proofs.OneChange.{one_insert, one_delete}
use Rattle.ded_views.proofs.Placing.{none_known}

-- ---- entries

-- some entry has the name
abbrev pub is_named : List ℕ → List Entry → Bool
is_named n es = list_any (λ z. bytes_eq n (entry_name z)) es

-- in a well formed catalogue none does before the one of the name
pub alone_before : (c : Catalogue) (n : List ℕ) (before after : List Entry) (e : Entry) → IsWellFormed c → c.entries ≡ before ++ e ∷ after → entry_name e ≡ n → is_named n before ≡ false
alone_before c n before after e w p named =
    subst (λ m. is_named m before ≡ false) named (none_before c.limit none_known before after e (subst (AreEntriesOver c.limit none_known) p w))

-- ---- commands

-- without the entry of a name
abbrev without : List ℕ → List Entry → List Entry
without n [] = []
without n (e ∷ es) = cond (bytes_eq n (entry_name e)) es (e ∷ without n es)

without_is : (n : List ℕ) (before after : List Entry) (e : Entry) → entry_name e ≡ n → is_named n before ≡ false → without n (before ++ e ∷ after) ≡ before ++ after
without_is n [] after e named h = ap (λ b. cond b after (e ∷ without n after)) (ap (bytes_eq n) named ∙ bytes_eq-refl n)
without_is n (d ∷ before) after e named h =
    ap (λ b. cond b (before ++ e ∷ after) (d ∷ without n (before ++ e ∷ after))) (or_false_left _ _ h)
    ∙ ap (λ es. d ∷ es) (without_is n before after e named (or_false_right (bytes_eq n (entry_name d)) _ h))

dropped_is : (c d : Catalogue) (n : List ℕ) → IsWellFormed c → DropsEntry c d n → d ≡ record c { entries = without n c.entries }
dropped_is c d n w x =
    x.is ∙ ap (λ es. record c { entries = es })
    (sym (ap (without n) x.was ∙ without_is n x.before x.after x.old x.named (alone_before c n x.before x.after x.old w x.was x.named)))

one_made : (x : CommandForm) (c d e : Catalogue) → IsWellFormed c → Makes x c d → Makes x c e → d ≡ e
one_made (relation n h) c d e w p q = p ∙ sym q
one_made (insert n fs) c d e w p q = (one_insert c d e n (tuple_of (columns_in c n) (forms_of fs)) p.0 q.0 w p.1 q.1).0
one_made (delete n k) c d e w p q = one_delete c d e n k w p q
one_made (drop n) c d e w p q = dropped_is c d n w p ∙ sym (dropped_is c e n w q)
one_made (view n h f) c d e w p q = p ∙ sym q
one_made _ c d e w p q = p ∙ sym q

-- ---- statements

accepted_one : (language : Language) (c d e : Catalogue) (s : Statement) → IsWellFormed c → Accepts language s c (λ x. Makes x c d) → Accepts language s c (λ x. Makes x c e) → d ≡ e
accepted_one language c d e (Whole bytes) w a b =
    one_made a.command c d e w a.so (subst (λ x. Makes x c e) (one_command language bytes b.command a.command b.depth a.depth b.spells a.spells).0 b.so)
accepted_one language c d e (pieces.Unfinished rest) w a b = absurd a

pub one_after : (language : Language) (c d e : Catalogue) (s : Statement) (reply other : ReplyForm) → IsWellFormed c → Step language c s reply d → Step language c s other e
    → is_refusal reply ≡ false → is_refusal other ≡ false → d ≡ e
one_after language c d e s reply other w p q n m = accepted_one language c d e s w (step_makes language c d s reply n p) (step_makes language c e s other m q)
