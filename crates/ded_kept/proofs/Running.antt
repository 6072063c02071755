-- What is kept defines the catalogue behind each statement.
use Rattle.std.proofs.Common.{◌≡◌, ℕ, Bool, true, false, if◌then◌else◌, List, [], ◌∷◌, ◌++◌, refl, sym, ap, ◌∙◌, append-nil, subst, ⊎_elim, true≢false}
use Rattle.ded_dialogue.specs.Replies.{Said}
use Rattle.ded_dialogue.specs.Runs.{Steps}
use Rattle.ded_lex.specs.Pieces.{Statement, Whole}
use Rattle.ded_lex.specs.Pieces as pieces
use Rattle.ded_model.specs.declared.command.Language.TheVariants.{Two}
use Rattle.ded_model.specs.Catalogue.{Catalogue}
use Rattle.ded_model.specs.Command.{CommandForm, ask, query, show, box_of, explain, dump, disjoint, verify}
use Rattle.ded_session.specs.Replies.{ReplyForm, done, number, truth, tuples, stored, boxes, steps, script, apart, meeting, refused}
use Rattle.ded_session.specs.Steps.{Does, Accepts, Step}
use Rattle.ded_recording.specs.Listings.{Listing, MayList}
use Rattle.ded_kept.specs.Answering.{KeptState, BeginsScript, MayKeep, keeps, is_change, kept_of, kept_text}
use Rattle.ded_kept.specs.Defining.{IsDefinedBy}
use Rattle.ded_kept.proofs.Defined.{defines_more}

-- a command that is answered so leaves the catalogue
unchanged : (x : CommandForm) (c d : Catalogue) (reply : ReplyForm) → is_change reply ≡ false → Does x c reply d → d ≡ c
unchanged (ask f) c d (truth b) n p = p.1
unchanged (query h f) c d (tuples k ts) n p = p.2
unchanged (show m) c d (stored h ts) n p = p.2
unchanged (box_of m) c d (boxes h r) n p = p.2
unchanged (explain h f) c d (steps plan) n p = p.1
unchanged dump c d (script lines) n p = p.1
unchanged (disjoint k m) c d (apart es) n p = p.1
unchanged (disjoint k m) c d (meeting i j) n p = p.1
unchanged (verify k m es) c d (truth b) n p = p.1
unchanged _ c d done n p = absurd (true≢false n)
unchanged _ c d (number k) n p = absurd (true≢false n)
unchanged _ c d _ n p = absurd p

accepted_stays : (c d : Catalogue) (s : Statement) (reply : ReplyForm) → is_change reply ≡ false → Accepts Two s c (λ x. Does x c reply d) → d ≡ c
accepted_stays c d (Whole bytes) reply n p = unchanged p.command c d reply n p.so
accepted_stays c d (pieces.Unfinished rest) reply n p = absurd p

-- so does a statement
stays : (c d : Catalogue) (s : Statement) (reply : ReplyForm) → is_change reply ≡ false → Step Two c s reply d → d ≡ c
stays c d s (refused r) n p = p.1
stays c d s done n p = absurd (true≢false n)
stays c d s (number k) n p = absurd (true≢false n)
stays c d s (truth b) n p = accepted_stays c d s (truth b) n p
stays c d s (tuples h ts) n p = accepted_stays c d s (tuples h ts) n p
stays c d s (stored h ts) n p = accepted_stays c d s (stored h ts) n p
stays c d s (boxes h b) n p = accepted_stays c d s (boxes h b) n p
stays c d s (steps plan) n p = accepted_stays c d s (steps plan) n p
stays c d s (script lines) n p = accepted_stays c d s (script lines) n p
stays c d s (apart es) n p = accepted_stays c d s (apart es) n p
stays c d s (meeting i j) n p = accepted_stays c d s (meeting i j) n p

-- what is kept of a change defines what it makes; the rest of a script changes nothing
step_defines : (limit : ℕ) (list : List (List ℕ)) (c d : Catalogue) (s : Statement) (reply : ReplyForm) (b : Bool) → is_change reply ≡ b → IsDefinedBy limit list c → Step Two c s reply d → IsDefinedBy limit (list ++ (if b then kept_text s ∷ [] else [])) d
step_defines limit list c d s reply false is defined step =
    subst (λ (l : List (List ℕ)). IsDefinedBy limit l d) (sym (append-nil list)) (subst (λ (x : Catalogue). IsDefinedBy limit list x) (sym (stays c d s reply is step)) defined)
step_defines limit list c d (Whole bytes) reply true is defined step = defines_more limit list c d bytes reply defined step is
step_defines limit list c d (pieces.Unfinished rest) reply true is defined step = absurd (never reply is step)
  where
    never : (r : ReplyForm) → is_change r ≡ true → Step Two c (pieces.Unfinished rest) r d → ⊥
    never done e p = p
    never (number k) e p = p
    never _ e p = absurd (true≢false (sym e))

one_defines : (limit : ℕ) (m n : Listing KeptState) (s : Statement) (reply : Said) → IsDefinedBy limit m.list m.rest.catalogue → MayList keeps m s reply n → IsDefinedBy limit n.list n.rest.catalogue
one_defines limit m n s reply defined a =
    ⊎_elim
    (λ h. subst (λ (l : List (List ℕ)). IsDefinedBy limit l n.rest.catalogue) (sym (append-nil m.list) ∙ ap (λ (l : List (List ℕ)). m.list ++ l) (sym h.2) ∙ sym a.list)
    (subst (λ (x : Catalogue). IsDefinedBy limit m.list x) (sym h.3) defined))
    (λ h. subst (λ (l : List (List ℕ)). IsDefinedBy limit l n.rest.catalogue) (ap (λ (l : List (List ℕ)). m.list ++ l) (sym h.2) ∙ sym a.list)
    (step_defines limit m.list m.rest.catalogue n.rest.catalogue s a.step.reply (is_change a.step.reply) refl defined h.1))
    a.step.may.step

pub run_defines : (limit : ℕ) (m n : Listing KeptState) (ss : List Statement) (replies : List Said) → IsDefinedBy limit m.list m.rest.catalogue → Steps (MayList keeps) m ss replies n → IsDefinedBy limit n.list n.rest.catalogue
run_defines limit m n [] [] defined same = subst (λ (x : Listing KeptState). IsDefinedBy limit x.list x.rest.catalogue) (sym same) defined
run_defines limit m n [] (r ∷ replies) defined never = absurd never
run_defines limit m n (s ∷ ss) [] defined never = absurd never
run_defines limit m n (s ∷ ss) (r ∷ replies) defined (next, is, more) = run_defines limit next n ss replies (one_defines limit m next s r defined is) more
