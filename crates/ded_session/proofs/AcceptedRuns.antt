-- What is left of a run without its refusals is a run.
--
-- A refused statement leaves the catalogue, so the next one is stepped over the same. It may then be the first one, and read
-- in the opening language instead of the plain one: no refused statement is the header, and where the next one is accepted in
-- the plain language, it isn't the header either, and is accepted alike in the opening one. A whole piece is one before its ; whatever comes next, so the pieces that are left, each followed by
-- its ; , are cut into these again.
use Rattle.std.proofs.Common.{◌≡◌, inl, inr, ℕ, false, List, [], ◌∷◌, ◌++◌, map, refl, sym, ap, subst, ◌∙◌}
use Rattle.std.proofs.lemmas.List.{append-nil}
use Rattle.std.specs.List.{AllByRecursion}
use Rattle.std.proofs.lemmas.Bool.{or_parts}
use Rattle.ded_lex.specs.Pieces.{Statement, Whole, IsWhole, IsCut, EndsIn, AreStatements}
use Rattle.ded_lex.specs.Pieces as pieces
use Rattle.ded_lex.proofs.Cuts.{whole_stays, cut_of_nothing}
use Rattle.ded_model.specs.declared.command.Language.{Language}
use Rattle.ded_model.specs.declared.command.Language.TheVariants.{Opening, One, Two}
use Rattle.ded_model.specs.Catalogue.{Catalogue}
use Rattle.ded_model.specs.Command.{CommandForm}
use Rattle.ded_session.specs.Replies.{ReplyForm, is_refusal, some_refusal, done, number, truth, tuples, stored, boxes, steps, script, apart, meeting, refused}
use Rattle.ded_session.specs.Runs.{Steps, GoesOn, empty_catalogue, Run, unless_refused, accepted, accepted_replies, script_of}
use Rattle.ded_session.specs.Steps.{IsHeaderIn, Accepts, Step}
use Rattle.ded_session.proofs.HeaderSteps.{header_stays}
use Rattle.ded_session.proofs.Languages.{accepted_step}

-- ---- steps

-- steps without refusals in the plain language are steps in the opening one
opened : (c d : Catalogue) (ss : List Statement) (replies : List ReplyForm) → some_refusal replies ≡ false → Steps One c ss replies d → Steps Opening c ss replies d
opened c d [] [] none h = h
opened c d [] (reply ∷ replies) none h = h
opened c d (s ∷ ss) [] none h = h
opened c d (s ∷ ss) (reply ∷ replies) none (e, next, p, g, more) =
    let o = accepted_step Opening c e s reply (or_parts (is_refusal reply) (some_refusal replies) none).0 p in
    (e, next, o.0, inr (o.1, g), more)

-- where a statement that isn't the header falls away, the next one is read in its language
first_again : (l next : Language) (s : Statement) (e d : Catalogue) (ss : List Statement) (replies : List ReplyForm) → (IsHeaderIn l s → ⊥) → GoesOn l s next → some_refusal replies ≡ false → Steps next e ss replies d → Steps l e ss replies d
first_again Opening next s e d ss replies other (inl h) none more = absurd (other h.0)
first_again Opening next s e d ss replies other (inr h) none more = opened e d ss replies none (subst (λ (m : Language). Steps m e ss replies d) h.1 more)
first_again One next s e d ss replies other g none more = subst (λ (m : Language). Steps m e ss replies d) g more
first_again Two next s e d ss replies other g none more = subst (λ (m : Language). Steps m e ss replies d) g more

module _ (l : Language) (c e d : Catalogue) (s : Statement) (ss : List Statement) (replies : List ReplyForm) where
  goes_on : (reply : ReplyForm) (next : Language) → Step l c s reply e → GoesOn l s next → some_refusal replies ≡ false → Steps next e ss replies d
      → Steps l c (unless_refused reply s ss) (unless_refused reply reply replies) d
  goes_on (refused r) next p g none more = subst (λ (k : Catalogue). Steps l k ss replies d) p.1 (first_again l next s e d ss replies (header_stays l c e s r p) g none more)
  goes_on done next p g none more = (e, next, p, g, more)
  goes_on (number k) next p g none more = (e, next, p, g, more)
  goes_on (truth b) next p g none more = (e, next, p, g, more)
  goes_on (tuples h ts) next p g none more = (e, next, p, g, more)
  goes_on (stored h ts) next p g none more = (e, next, p, g, more)
  goes_on (boxes h b) next p g none more = (e, next, p, g, more)
  goes_on (steps plan) next p g none more = (e, next, p, g, more)
  goes_on (script lines) next p g none more = (e, next, p, g, more)
  goes_on (apart es) next p g none more = (e, next, p, g, more)
  goes_on (meeting i j) next p g none more = (e, next, p, g, more)

-- replies without the refusals have none
none_left : (replies : List ReplyForm) → some_refusal (accepted_replies replies) ≡ false
none_left [] = refl
none_left (refused r ∷ replies) = none_left replies
none_left (done ∷ replies) = none_left replies
none_left (number k ∷ replies) = none_left replies
none_left (truth b ∷ replies) = none_left replies
none_left (tuples h ts ∷ replies) = none_left replies
none_left (stored h ts ∷ replies) = none_left replies
none_left (boxes h b ∷ replies) = none_left replies
none_left (steps plan ∷ replies) = none_left replies
none_left (script lines ∷ replies) = none_left replies
none_left (apart es ∷ replies) = none_left replies
none_left (meeting i j ∷ replies) = none_left replies

pub accepted_steps : (l : Language) (c d : Catalogue) (ss : List Statement) (replies : List ReplyForm) → Steps l c ss replies d → Steps l c (accepted ss replies) (accepted_replies replies) d
accepted_steps l c d [] [] h = h
accepted_steps l c d [] (reply ∷ replies) h = absurd h
accepted_steps l c d (s ∷ ss) [] h = absurd h
accepted_steps l c d (s ∷ ss) (reply ∷ replies) (e, next, p, g, more) =
    goes_on l c e d s (accepted ss replies) (accepted_replies replies) reply next p g (none_left replies) (accepted_steps next e d ss replies more)

-- ---- scripts

-- a whole piece stands before some ;
abbrev Stands : Statement → Type 0
Stands (Whole piece) = (after : List ℕ) × IsWhole piece (59 ∷ after)
Stands (pieces.Unfinished rest) = Unit {0}

stand : (ps : List (List ℕ)) (input rest : List ℕ) (more : List Statement) → AllByRecursion Stands more → IsCut input ps rest → AllByRecursion Stands (map Whole ps ++ more)
stand [] input rest more h cut = h
stand (p ∷ ps) input rest more h (after, begins, cut) = ((after, begins.whole), stand ps after rest more h cut)

all_stand : (input : List ℕ) (ss : List Statement) → AreStatements input ss → AllByRecursion Stands ss
all_stand input ss s = by s.are
  where
    by : EndsIn s.rest (map Whole s.pieces) ss → AllByRecursion Stands ss
    by (inl x) = subst (AllByRecursion Stands) (append-nil (map Whole s.pieces) ∙ sym x.1) (stand s.pieces input s.rest [] tt s.cut)
    by (inr x) = subst (AllByRecursion Stands) (sym x.1) (stand s.pieces input s.rest (pieces.Unfinished s.rest ∷ []) (tt, tt) s.cut)

-- statements are those of the script that is made of them
abbrev AreOfScript : List Statement → Type 0
AreOfScript ss = AreStatements (script_of ss) ss

ends_behind : (piece rest : List ℕ) (wholes ss : List Statement) → EndsIn rest wholes ss → EndsIn rest (Whole piece ∷ wholes) (Whole piece ∷ ss)
ends_behind piece rest wholes ss (inl x) = inl (x.0, ap (λ (l : List Statement). Whole piece ∷ l) x.1)
ends_behind piece rest wholes ss (inr x) = inr (x.0, ap (λ (l : List Statement). Whole piece ∷ l) x.1)

module _ (l : Language) (c : Catalogue) (Fact : CommandForm → Type 0) (ss : List Statement) where
  one_more : (s : Statement) → Accepts l s c Fact → Stands s → AreOfScript ss → AreOfScript (s ∷ ss)
  one_more (Whole piece) a (after, whole) later = record {
    pieces = piece ∷ later.pieces;
    rest = later.rest;
    cut = (script_of ss, record { is = refl; whole = whole_stays piece after (script_of ss) whole }, later.cut);
    are = ends_behind piece later.rest (map Whole later.pieces) ss later.are;
  }
  one_more (pieces.Unfinished rest) a stands later = absurd a

module _ (l : Language) (c e : Catalogue) (s : Statement) (ss : List Statement) where
  cut_on : (reply : ReplyForm) → Step l c s reply e → Stands s → AreOfScript ss → AreOfScript (unless_refused reply s ss)
  cut_on (refused r) p stands later = later
  cut_on done p stands later = one_more l c _ ss s p stands later
  cut_on (number k) p stands later = one_more l c _ ss s p stands later
  cut_on (truth b) p stands later = one_more l c _ ss s p stands later
  cut_on (tuples h ts) p stands later = one_more l c _ ss s p stands later
  cut_on (stored h ts) p stands later = one_more l c _ ss s p stands later
  cut_on (boxes h b) p stands later = one_more l c _ ss s p stands later
  cut_on (steps plan) p stands later = one_more l c _ ss s p stands later
  cut_on (script lines) p stands later = one_more l c _ ss s p stands later
  cut_on (apart es) p stands later = one_more l c _ ss s p stands later
  cut_on (meeting i j) p stands later = one_more l c _ ss s p stands later

nothing : AreOfScript []
nothing = record { pieces = []; rest = []; cut = cut_of_nothing; are = inl (record { gaps = []; is = refl; each = tt }, refl) }

accepted_script : (l : Language) (c d : Catalogue) (ss : List Statement) (replies : List ReplyForm) → Steps l c ss replies d → AllByRecursion Stands ss → AreOfScript (accepted ss replies)
accepted_script l c d [] [] h stands = nothing
accepted_script l c d [] (reply ∷ replies) h stands = absurd h
accepted_script l c d (s ∷ ss) [] h stands = absurd h
accepted_script l c d (s ∷ ss) (reply ∷ replies) (e, next, p, g, more) stands =
    cut_on l c e s (accepted ss replies) reply p stands.0 (accepted_script next e d ss replies more stands.1)

pub accepted_run : (limit : ℕ) (bytes : List ℕ) (replies : List ReplyForm) (last : Catalogue) (r : Run limit bytes replies last) → Run limit (script_of (accepted r.statements replies)) (accepted_replies replies) last
accepted_run limit bytes replies last r = record {
  statements = accepted r.statements replies;
  cut = accepted_script Opening (empty_catalogue limit) last r.statements replies r.steps (all_stand bytes r.statements r.cut);
  steps = accepted_steps Opening (empty_catalogue limit) last r.statements replies r.steps;
}
