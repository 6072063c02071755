-- Behind a statement that was answered each further one may get a reply.
use Rattle.std.proofs.Common.{◌≡◌, ◌≤◌, ◌<◌, ℕ, List, length, refl, sym, ◌∙◌, ⊎_elim, inl, inr, arith, subst}
use Rattle.std.proofs.lemmas.Bool.Decides.{leb_tells}
use Rattle.ded_lex.specs.Pieces.{Statement, Whole, statement_bytes}
use Rattle.ded_lex.specs.Pieces as pieces
use Rattle.ded_model.specs.declared.command.Language.{Language}
use Rattle.ded_model.specs.declared.command.Language.TheVariants.{Opening, One, Two}
use Rattle.ded_model.specs.declared.command.Refusal.{Refusal}
use Rattle.ded_model.specs.declared.command.Refusal.TheVariants.{LongStatement, Unfinished, Syntax, LongName, LongNumber, Deep, Many, Twice, Unknown, Taken, Kind, Arity, Unbound, WrongSort, Used, NoTuple, Full, Spent, Level, Wide, Memory}
use Rattle.ded_model.specs.Catalogue.{Catalogue}
use Rattle.ded_model.specs.Refusals.{refusal_number}
use Rattle.ded_session.specs.Causes.{Applies}
use Rattle.ded_session.specs.Replies.{ReplyForm, refused}
use Rattle.ded_session.specs.Runs.{GoesOn}
use Rattle.ded_session.specs.Steps.{Step, IsHeaderIn}

-- one refusal alone has a number below 2
first_refusal : (q : Refusal) → refusal_number q < 2 → q ≡ LongStatement
first_refusal LongStatement less = refl
first_refusal Unfinished less = absurd (omega arith)
first_refusal Syntax less = absurd (omega arith)
first_refusal LongName less = absurd (omega arith)
first_refusal LongNumber less = absurd (omega arith)
first_refusal Deep less = absurd (omega arith)
first_refusal Many less = absurd (omega arith)
first_refusal Twice less = absurd (omega arith)
first_refusal Unknown less = absurd (omega arith)
first_refusal Taken less = absurd (omega arith)
first_refusal Kind less = absurd (omega arith)
first_refusal Arity less = absurd (omega arith)
first_refusal Unbound less = absurd (omega arith)
first_refusal WrongSort less = absurd (omega arith)
first_refusal Used less = absurd (omega arith)
first_refusal NoTuple less = absurd (omega arith)
first_refusal Full less = absurd (omega arith)
first_refusal Spent less = absurd (omega arith)
first_refusal Level less = absurd (omega arith)
first_refusal Wide less = absurd (omega arith)
first_refusal Memory less = absurd (omega arith)

none_less : (q : Refusal) → refusal_number q < 1 → ⊥
none_less q less =
    let one : 1 < 1 = subst (λ (r : Refusal). refusal_number r < 1) (first_refusal q (omega arith)) less in
    absurd (omega arith)

-- a statement of more than 65,536 bytes
pub long_step : (language : Language) (c : Catalogue) (s : Statement) → 65536 < length (statement_bytes s) → Step language c s (refused LongStatement) c
long_step language c s long = (record { applies = long; least = λ q less applies. absurd (none_less q less) }, refl)

-- a rest of at most so many
pub rest_step : (language : Language) (c : Catalogue) (rest : List ℕ) → length rest ≤ 65536 → Step language c (pieces.Unfinished rest) (refused Unfinished) c
rest_step language c rest short = (record { applies = tt; least = λ q less applies. absurd (not_long q (first_refusal q less) applies) }, refl)
  where
    not_long : (q : Refusal) → q ≡ LongStatement → Applies q language (pieces.Unfinished rest) c → ⊥
    not_long q first applies =
        let long : 65536 < length rest = subst (λ (r : Refusal). Applies r language (pieces.Unfinished rest) c) first applies in
        absurd (omega arith)

-- the language behind a statement isn't the opening one
pub not_opening : (language next : Language) (s : Statement) → GoesOn language s next → next ≡ Opening → ⊥
not_opening Opening next s (inl h) e = other (sym h.1 ∙ e)
  where
    other : Two ≡ Opening → ⊥
    other k = cc
not_opening Opening next s (inr h) e = other (sym h.1 ∙ e)
  where
    other : One ≡ Opening → ⊥
    other k = cc
not_opening One next s g e = other (sym g ∙ e)
  where
    other : One ≡ Opening → ⊥
    other k = cc
not_opening Two next s g e = other (sym g ∙ e)
  where
    other : Two ≡ Opening → ⊥
    other k = cc

-- there no statement is the header
no_header : (language : Language) (s : Statement) → (language ≡ Opening → ⊥) → IsHeaderIn language s → ⊥
no_header Opening s later h = later refl
no_header One s later h = h
no_header Two s later h = h

-- the language stays, where it isn't the opening one
pub goes_stays : (language : Language) (s : Statement) → (language ≡ Opening → ⊥) → GoesOn language s language
goes_stays Opening s later = absurd (later refl)
goes_stays One s later = refl
goes_stays Two s later = refl

-- a reply that a statement behind the first one may get, and that changes nothing
pub some_step : (language : Language) (c : Catalogue) (s : Statement) → (language ≡ Opening → ⊥) → (reply : ReplyForm) × Step language c s reply c
some_step language c (Whole piece) later = ⊎_elim (λ t. (refused Memory, ((t.1, no_header language (Whole piece) later), refl))) (λ f. (refused LongStatement, long_step language c (Whole piece) f.1)) (leb_tells (length piece) 65536)
some_step language c (pieces.Unfinished rest) later = ⊎_elim (λ t. (refused Unfinished, rest_step language c rest t.1)) (λ f. (refused LongStatement, long_step language c (pieces.Unfinished rest) f.1)) (leb_tells (length rest) 65536)
