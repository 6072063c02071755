-- One reply more: what is written of it, and whether some reply is a refusal.
use Rattle.std.proofs.Common.{◌≡◌, ℕ, length, drop, List, [], ◌∷◌, ◌++◌, refl, sym, ap, ◌∙◌, append_assoc, subst, Bool, ◌||◌, arith, length-append}
use Rattle.std.specs.Prelude.{◌-◌, zero, suc, Option}
use Rattle.std.proofs.Math.Bool.{or_assoc, or-false}
use Rattle.std.proofs.lemmas.List.{append-nil}
use Rattle.std.proofs.lemmas.List.Concat.{flat_map-append}
use Rattle.ded_io.specs.Devices.{Sent}
use Rattle.ded_io.proofs.Steps.{sent_longer}
use Rattle.ded_dialogue.specs.Replies.{Said, text_of, texts, some_refusal}
use Rattle.ded_dialogue.specs.Streams.{spoken}
use Rattle.ded_dialogue.proofs.Sending.{sent_then}

more_texts : (replies more : List Said) (reply : Said) → texts (replies ++ reply ∷ more) ≡ (texts replies ++ reply.text) ++ texts more
more_texts replies more reply = flat_map-append text_of replies (reply ∷ more) ∙ sym (append_assoc (texts replies) reply.text (texts more))

-- what is written of one reply more, and of those behind it
heard : (silent left : ℕ) (replies : List Said) (reply : Said) (more : List Said) → left ≡ silent - length replies
    → texts (drop silent (replies ++ reply ∷ more)) ≡ (texts (drop silent replies) ++ spoken left reply) ++ texts (drop (left - 1) more)
heard zero left replies reply more counts =
    let none : left ≡ 0 = omega (arith, counts) in
    subst (λ (k : ℕ). texts (replies ++ reply ∷ more) ≡ (texts replies ++ spoken k reply) ++ texts (drop (k - 1) more)) (sym none) (more_texts replies more reply)
heard (suc n) left [] reply more counts =
    let all : left ≡ suc n = omega (arith, counts) in
    let less : suc n - 1 ≡ n = omega arith in
    subst (λ (k : ℕ). texts (drop n more) ≡ (texts (drop (suc n) []) ++ spoken k reply) ++ texts (drop (k - 1) more)) (sym all)
    (ap (λ (k : ℕ). texts (drop k more)) (sym less))
heard (suc n) left (r ∷ replies) reply more counts = heard n left replies reply more (omega (arith, counts))

-- what is written of all replies, and of those behind them
pub heard_later : (silent left : ℕ) (replies more : List Said) → left ≡ silent - length replies → texts (drop silent (replies ++ more)) ≡ texts (drop silent replies) ++ texts (drop left more)
heard_later zero left replies more counts =
    let none : left ≡ 0 = omega (arith, counts) in
    subst (λ (k : ℕ). texts (replies ++ more) ≡ texts replies ++ texts (drop k more)) (sym none) (flat_map-append text_of replies more)
heard_later (suc n) left [] more counts =
    let all : left ≡ suc n = omega (arith, counts) in
    ap (λ (k : ℕ). texts (drop k more)) (sym all)
heard_later (suc n) left (r ∷ replies) more counts = heard_later n left replies more (omega (arith, counts))

pub drop_none : (n : ℕ) → drop {A = Said} n [] ≡ []
drop_none zero = refl
drop_none (suc n) = refl

heard_last : (silent left : ℕ) (replies : List Said) (reply : Said) → left ≡ silent - length replies
    → texts (drop silent (replies ++ reply ∷ [])) ≡ texts (drop silent replies) ++ spoken left reply
heard_last silent left replies reply counts =
    heard silent left replies reply [] counts
    ∙ ap (λ (rs : List Said). (texts (drop silent replies) ++ spoken left reply) ++ texts rs) (drop_none (left - 1))
    ∙ append-nil (texts (drop silent replies) ++ spoken left reply)

pub counts_more : (silent left now : ℕ) (replies : List Said) (reply : Said) → left ≡ silent - length replies → now ≡ left - 1 → now ≡ silent - length (replies ++ reply ∷ [])
counts_more silent left now replies reply counts next = omega (arith, counts, next, length-append replies (reply ∷ []))

last_refusal : (replies : List Said) (reply : Said) → some_refusal (replies ++ reply ∷ []) ≡ some_refusal replies || reply.refuses
last_refusal [] reply = or-false reply.refuses
last_refusal (r ∷ replies) reply = ap (λ (t : Bool). r.refuses || t) (last_refusal replies reply) ∙ sym (or_assoc r.refuses (some_refusal replies) reply.refuses)

pub refuses_more : (before : Bool) (replies : List Said) (reply : Said) (was now : Bool) → before || some_refusal replies ≡ was → now ≡ was || reply.refuses → before || some_refusal (replies ++ reply ∷ []) ≡ now
refuses_more before replies reply was now so_far is =
    ap (λ (t : Bool). before || t) (last_refusal replies reply)
    ∙ sym (or_assoc before (some_refusal replies) reply.refuses)
    ∙ ap (λ (t : Bool). t || reply.refuses) so_far
    ∙ sym is

pub writes_more : (h0 h1 h2 : Option (List ℕ)) (silent left : ℕ) (replies : List Said) (reply : Said) (w waits : List ℕ) → left ≡ silent - length replies → Sent h0 h1 (texts (drop silent replies)) w → Sent h1 h2 (w ++ spoken left reply) waits → Sent h0 h2 (texts (drop silent (replies ++ reply ∷ []))) waits
writes_more h0 h1 h2 silent left replies reply w waits counts so_far more =
    subst (λ (l : List ℕ). Sent h0 h2 l waits) (sym (heard_last silent left replies reply counts)) (sent_then h0 h1 h2 (texts (drop silent replies)) w (spoken left reply) waits so_far more)

-- the sink took a front of what waited and of the next text
pub front_of : (h0 h1 h2 : Option (List ℕ)) (silent left : ℕ) (replies : List Said) (reply : Said) (more : List Said) (w unwritten : List ℕ) → left ≡ silent - length replies → Sent h0 h1 (texts (drop silent replies)) w → Sent h1 h2 (w ++ spoken left reply) unwritten → Sent h0 h2 (texts (drop silent (replies ++ reply ∷ more))) (unwritten ++ texts (drop (left - 1) more))
front_of h0 h1 h2 silent left replies reply more w unwritten counts so_far s =
    let later : List ℕ = texts (drop (left - 1) more) in
    subst (λ (l : List ℕ). Sent h0 h2 l (unwritten ++ later)) (sym (heard silent left replies reply more counts))
    (sent_longer h0 h2 (texts (drop silent replies) ++ spoken left reply) unwritten later (sent_then h0 h1 h2 (texts (drop silent replies)) w (spoken left reply) unwritten so_far s))
